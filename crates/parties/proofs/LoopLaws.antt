-- A loop over the parties of a set: F k is what those below k come to, and who is not in the set leaves it as it was. Assumes nothing.
use mathlib.Core.Path.{◌≡◌, refl, sym, ◌∙◌}
use mathlib.Core.Bool.{true, false, and-true, false≢true}
use Prim.Native.Nat.{ℕ, zero, suc, ◌+◌, ◌≤◌, ◌<◌, min}
use native.Mathlib.Decide.{dec_lt}
use native.Mathlib.Numerals.{add-one}
use native.Mathlib.Omega.{arith}
use borrow.Author.Tests.{ne_eqb}
use Rattle.std.specs.Prelude.{Some, None}
use Rattle.limits.specs.Limits.{max_parties}
use Rattle.parties.specs.Sets.{member, within, lowest, rest, GivesLowest}
use Rattle.parties.specs.SetLaws.{no_member, some_member, lowest_member, lowest_none, lowest_least, member_rest, rest_rises, member_within}
use Rattle.parties.specs.declared.sets.PartySet.{PartySet}

-- what each party from a to below b leaves as it was holds up to b where it holds up to a
onward : (F : ℕ → Type 0) (a b : ℕ) → a ≤ b → ((k : ℕ) → a ≤ k → k < b → F k → F (k + 1)) → F a → F b
onward F a zero h leaves so = let e : a ≡ 0 = omega arith in rw e at so
onward F a (suc b) h leaves so =
    elim (dec_lt b a) [
      | yes l ↦ let e : a ≡ suc b = omega arith in rw e at so
      | no l ↦ rw add-one at (leaves b (omega arith) (omega arith) (onward F a b (omega arith) (λ k g o. leaves k g (omega arith)) so))
    ]

-- A loop `for p in s.members()` over the parties of a set s, all below n, by the set that is left of them.
module _ (s : PartySet) (n : ℕ) where
  -- who is not in the set leaves F as it was
  abbrev pub Passes : (ℕ → Type 0) → Type 0
  Passes F = (k : ℕ) → k < n → member k s ≡ false → F k → F (k + 1)

  -- from the lowest party that is left on, all of the set are left
  pub record LeftAt (F : ℕ → Type 0) (left : PartySet) : Type 0 where
    pub same : (j : ℕ) → lowest left ≤ j → member j left ≡ member j s
    pub so_far : F (min (lowest left) n)

  -- the loop is at p, the lowest that was left, and the others are left
  pub record Here (F : ℕ → Type 0) (left : PartySet) (p : ℕ) (others : PartySet) : Type 0 where
    pub is : p ≡ lowest left
    pub next : others ≡ rest left
    pub small : p < max_parties
    pub below : p < n
    pub inside : member p s ≡ true
    pub so_far : F p
    pub same : (j : ℕ) → lowest left ≤ j → member j left ≡ member j s

  left_from : {F : ℕ → Type 0} {left : PartySet} → Passes F → (a : ℕ) → a ≤ n → a ≤ lowest left → ((j : ℕ) → a ≤ j → member j left ≡ member j s) → F a → LeftAt F left
  left_from {F} {left} out a h l same so =
      record {
        same = λ j q. same j (omega arith);
        so_far = onward F a (min (lowest left) n) (omega arith) (λ k g o. out k (omega arith) (sym (same k g) ∙ lowest_none k left (omega arith))) so;
      }

  pub left_start : {F : ℕ → Type 0} {left : PartySet} → left ≡ s → Passes F → F 0 → LeftAt F left
  left_start e out so = rw e (left_from out 0 (omega arith) (omega arith) (λ j h. refl) so)

  module _ {F : ℕ → Type 0} {left : PartySet} (few : n ≤ max_parties) (l : LeftAt F left) where
    pub left_here : {p : ℕ} {others : PartySet} → within n s ≡ true → GivesLowest left (Some p) others → Here F left p others
    left_here {p} w given =
        let (some, is, next) = given in
        let (j, i) = some_member left some in
        let least : lowest left ≤ j = lowest_least j left i in
        let o : j < n = member_within j n s w (sym (l.same j least) ∙ i) in
        let q : min (lowest left) n ≡ p = omega arith in
        let inside : member p left ≡ true = rw is (lowest_member left (omega arith)) in
        record { is = is; next = next; small = omega arith; below = omega arith; inside = sym (l.same p (omega arith)) ∙ inside; so_far = rw q at l.so_far; same = l.same }

    pub left_over : {others : PartySet} → GivesLowest left None others → F n
    left_over given =
        elim (dec_lt (lowest left) n) [
          | yes h ↦ absurd (false≢true (sym (no_member (lowest left) left given.0) ∙ lowest_member left (omega arith)))
          | no h ↦ let q : min (lowest left) n ≡ n = omega arith in rw q at l.so_far
        ]

  pub left_next : {F G : ℕ → Type 0} {left others : PartySet} {p : ℕ} → Here F left p others → Passes G → G (p + 1) → LeftAt G others
  left_next {left = left} {p = p} here out so =
      let small : lowest left < max_parties = omega (arith, here.is, here.small) in
      rw here.next
      (left_from out (p + 1) (omega (arith, here.below)) (omega (arith, here.is, rest_rises left small))
      (λ j h. member_rest j left small ∙ rw (ne_eqb j (lowest left) (omega (arith, here.is))) (and-true (member j left)) ∙ here.same j (omega (arith, here.is))) so)
