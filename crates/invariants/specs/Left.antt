-- A party's record in what a call leaves: "party P's area starts at P×R", and a lent list has "each party's used length".
use Rattle.std.specs.Prelude.{ℕ, ◌*◌, ◌/◌, List, length, get_or, take, drop}
use Rattle.rules.specs.Lent.{Left}

-- the bytes of party P's record, of n parties
unfoldable pub record_of : {A : Type 0} → (n P : ℕ) → Left A → List ℕ
record_of n P X = take (get_or X.lengths P 0) (drop (P * (length X.records / n)) X.records)
