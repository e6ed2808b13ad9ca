-- How a call ends: refused, with a number from 1 to 4 and a place that is told, or accepted, with its run. Assumes nothing.
use Rattle.std.specs.Prelude.{◌≡◌, Bool, true, false, List, ℕ, ◌≤◌}
use Rattle.std.proofs.Math.Path.{refl}
use Rattle.std.proofs.Common.{sym, ◌∙◌, arith}
use Rattle.std.proofs.Math.Bool.{cond}
use Rattle.std.proofs.Math.Option.{Option, none, some}
use Rattle.program.specs.Check.{Program, Checked, good, bad, checked}
use Rattle.refusals.specs.Numbers.{bad_program, bad_counts, bad_turn, too_little_lent}
use Rattle.rules.specs.Lent.{Lent, Left, Is, unchanged, counts_fit, enough_lent}
use Rattle.rules.specs.Calls.{Call, Accepted, unless_bad_turn, call_of}

-- a call leaves one thing
pub one_left : {A : Type 0} {left : Left A} {a a' : A} {rs rs' ls ls' w w' : List ℕ} → Is left a rs ls w → Is left a' rs' ls' w'
    → (a ≡ a') × (rs ≡ rs') × (ls ≡ ls') × (w ≡ w')
one_left i j = (i.answer ∙ sym j.answer, i.records ∙ sym j.records, i.lengths ∙ sym j.lengths, i.work ∙ sym j.work)

-- "1 to 4 refuse the call"
abbrev pub RefusalNumber : ℕ → Type 0
RefusalNumber number = (bad_program ≤ number) × (number ≤ too_little_lent)

module _ {A : Type 0} (c : Call A) (L : Lent) where
  -- the place of a refusal: a byte of the program, a turn, or none
  pub data Place : ℕ → Type 0 where
    of_byte : {place : ℕ} → checked L.program ≡ bad place → Place place
    of_turn : {n index : ℕ} → c.first_bad n ≡ some index → Place index
    no_place : Place 0

  pub data Ends : Left A → Type 0 where
    refused : (number : ℕ) {place : ℕ} → RefusalNumber number → Place place → Ends (unchanged L (c.refuse number place))
    ran : (a : Accepted c.areas c.first_bad L) → Ends (c.run a.program)

  pub call_ends : Ends (call_of c L (checked L.program))
  unfolding call_of
  call_ends = go (checked L.program) refl
    where
      run : Program → Left A
      run p = cond (enough_lent p.parties (c.areas p.parties) L) (c.run p) (unchanged L (c.refuse too_little_lent 0))

      lends : (p : Program) → checked L.program ≡ good p → counts_fit p.parties L ≡ true → c.first_bad p.parties ≡ none
          → (t : Bool) → enough_lent p.parties (c.areas p.parties) L ≡ t → Ends (cond t (c.run p) (unchanged L (c.refuse too_little_lent 0)))
      lends p q n b true e = ran (record { program = p; checks = q; counts = n; turns = b; lent = e })
      lends p q n b false e = refused too_little_lent (omega arith, omega arith) no_place

      turns : (p : Program) → checked L.program ≡ good p → counts_fit p.parties L ≡ true → (o : Option ℕ) → c.first_bad p.parties ≡ o → Ends (unless_bad_turn c L o (run p))
      turns p q n none b = lends p q n b (enough_lent p.parties (c.areas p.parties) L) refl
      turns p q n (some index) b = refused bad_turn (omega arith, omega arith) (of_turn b)

      counts : (p : Program) → checked L.program ≡ good p → (t : Bool) → counts_fit p.parties L ≡ t
          → Ends (cond t (unless_bad_turn c L (c.first_bad p.parties) (run p)) (unchanged L (c.refuse bad_counts 0)))
      counts p q true n = turns p q n (c.first_bad p.parties) refl
      counts p q false n = refused bad_counts (omega arith, omega arith) no_place

      go : (x : Checked) → checked L.program ≡ x → Ends (call_of c L x)
      go (good p) q = counts p q (counts_fit p.parties L) refl
      go (bad place) q = refused bad_program (omega arith, omega arith) (of_byte q)

  -- an accepted call leaves what its run leaves
  pub call_is : (a : Accepted c.areas c.first_bad L) → call_of c L (checked L.program) ≡ c.run a.program
  unfolding call_of
  call_is a = rw (a.checks, a.counts, a.turns, a.lent)

  -- Runs says of an answer that it is no refusal
  module _ (Runs : A → Type 0) where
    -- so a call with such an answer was accepted
    pub call_accepted : ((number place : ℕ) → Runs (c.refuse number place) → ⊥) → Runs (call_of c L (checked L.program)).answer → Accepted c.areas c.first_bad L
    unfolding unchanged
    call_accepted none_runs h = go call_ends h
      where
        go : {x : Left A} → Ends x → Runs x.answer → Accepted c.areas c.first_bad L
        go (refused number k w) h = absurd (none_runs number _ h)
        go (ran a) h = a

    -- and a call with another left all as it was: Same, which holds of what is unchanged, holds of what it left
    pub call_refused : (Same : Left A → Type 0) → ((a : A) → Same (unchanged L a)) → ((p : Program) → Runs (c.run p).answer)
        → (Runs (call_of c L (checked L.program)).answer → ⊥) → Same (call_of c L (checked L.program))
    call_refused Same same runs h = go call_ends h
      where
        go : {x : Left A} → Ends x → (Runs x.answer → ⊥) → Same x
        go (refused number k w) h = same _
        go (ran a) h = absurd (h (runs a.program))
