-- The books of a state of the single run, whether it is under way, has ended or has stopped.
use Rattle.rules.specs.Books.{Books}
use Rattle.rules.specs.Single.{Single, going, ended, stopped}

abbrev pub books_of : Single → Books
books_of (going steps c b) = b
books_of (ended steps v b) = b
books_of (stopped steps refusal node b) = b
