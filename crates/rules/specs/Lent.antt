-- What is lent to a call and what is left of it (document 01, "Site records" and "Refusal numbers").
use Rattle.std.specs.Prelude.{◌≡◌, ℕ, zero, suc, ◌*◌, ◌/◌, Bool, ◌&&◌, List, eqb, leb, ℤ, length, get_or, take, drop, set, replicate}
use Rattle.std.proofs.lemmas.List.Edits.{sets}
unfoldable pub use Rattle.numbers.specs.Sums.{sum}
use Rattle.records.specs.Events.{written, held_back}
use Rattle.rules.specs.Books.{Books, used}

pub record Lent : Type 0 where
  pub program : List ℕ
  pub counts : List ℕ
  pub inputs : List ℤ
  pub records : List ℕ
  pub lengths : List ℕ
  pub work : List ℕ

-- the answer, and every byte that was lent to be written
pub record Left (A : Type 0) : Type 0 where
  pub answer : A
  pub records : List ℕ
  pub lengths : List ℕ
  pub work : List ℕ

-- the answer a, and the bytes rs, ls and w, are what is left
pub record Is {A : Type 0} (left : Left A) (a : A) (rs ls w : List ℕ) : Type 0 where
  pub answer : a ≡ left.answer
  pub records : rs ≡ left.records
  pub lengths : ls ≡ left.lengths
  pub work : w ≡ left.work

-- a refused call changes no lent byte
unfoldable pub unchanged : {A : Type 0} → Lent → A → Left A
unchanged L a = record { answer = a; records = L.records; lengths = L.lengths; work = L.work }

-- "Each party's room R is the lent record length divided by n, rounded down"
unfoldable pub room_of : ℕ → Lent → ℕ
room_of n L = length L.records / n

-- the inputs of party P: party 0's come first, as many as its count says
unfoldable pub inputs_of : Lent → ℕ → List ℤ
inputs_of L P = take (get_or L.counts P 0) (drop (sum (take P L.counts)) L.inputs)

-- not refusal 2: "the input counts are not n in number, or don't sum to the number of input integers"
unfoldable pub counts_fit : ℕ → Lent → Bool
counts_fit n L = eqb (length L.counts) n && eqb (sum L.counts) (length L.inputs)

-- "The working area must have 16,384 bytes per party (joint) or in all (single)"
abbrev pub area_size : ℕ
area_size = 16384

-- not refusal 4: "R below 10, fewer than n length places, or less working area than stated"
unfoldable pub enough_lent : (n areas : ℕ) → Lent → Bool
enough_lent n areas L = leb held_back (room_of n L) && leb n (length L.lengths) && leb (areas * area_size) (length L.work)

-- "party P's area starts at P×R .. Bytes past a record keep what they held": of the parties below n
unfoldable pub records_left : (n R : ℕ) → Books → List ℕ → List ℕ
records_left zero R b xs = xs
records_left (suc P) R b xs = sets (records_left P R b xs) (P * R) (written (b P).events)

-- "A lent list gets each party's used length in its first n places; the rest stay."
unfoldable pub lengths_left : ℕ → Books → List ℕ → List ℕ
lengths_left zero b xs = xs
lengths_left (suc P) b xs = set (lengths_left P b xs) P (used (b P))

-- "after a call that isn't refused all of it, any surplus included, is zero"
unfoldable pub left_by : {A : Type 0} → ℕ → Lent → A → Books → Left A
left_by n L a b =
    record {
      answer = a;
      records = records_left n (room_of n L) b L.records;
      lengths = lengths_left n b L.lengths;
      work = replicate (length L.work) 0;
    }
