-- Areas side by side in what was lent, as rows: the P-th row is the area of site P.
use Rattle.std.specs.Prelude.{ℕ, ◌+◌, ◌-◌, ◌*◌, List, ◌++◌, take, drop}

-- the bytes of an area, of the 16,384 that are lent for it
abbrev pub row_size : ℕ
row_size = 12608

-- the P-th row of a size, as it is lent
abbrev pub row : (size P : ℕ) → List ℕ → List ℕ
row size P xs = take (P * size + size - P * size) (drop (P * size) xs)

abbrev pub area_of : ℕ → List ℕ → List ℕ
area_of P w = row row_size P w

-- a list with ys in the place of the row P that was lent
abbrev pub back : (size P : ℕ) → (xs ys : List ℕ) → List ℕ
back size P xs ys = take (P * size) xs ++ (ys ++ drop (P * size + size - P * size) (drop (P * size) xs))
