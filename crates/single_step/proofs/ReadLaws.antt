-- READ in the lent bytes: the one party of the mode takes its next input. Assumes nothing.
use mathlib.Core.Path.{◌≡◌, refl, ap, ◌∙◌}
use mathlib.Core.Bool.{Bool, true, false, cond}
use mathlib.Core.List.{List, ◌∷◌}
use mathlib.Core.Option.{some}
use Prim.Native.Nat.{ℕ, ◌+◌, ◌-◌, ◌≤◌, ◌<◌}
use Rattle.std.specs.Prelude.{Some, None, Ok, Err}
use lib.IntN.{ℤ}
use lib.ListN.{length, get_or, set, take, drop}
use Rattle.limits.specs.Limits.{max_parties}
use Rattle.parties.specs.Sets.{member, count, lowest}
use Rattle.parties.specs.SetLaws.{sole_member, lowest_one}
use Rattle.parties.specs.declared.sets.PartySet.{PartySet}
use Rattle.values.specs.declared.value.Value.TheVariants.{Clear}
use Rattle.records.specs.declared.events.Event.TheVariants.{Read}
use Rattle.refusals.specs.declared.Refusal.TheVariants.{NoInput}
use Rattle.rules.specs.Books.{Books, event_for, add, note}
use Rattle.rules.specs.Single.{note_all, read_all, perform}
use Rattle.rules.specs.declared.effects.Effect.TheVariants.{Reads}
use Rattle.inputs.specs.Inputs.{InputsHold, head_of}
use Rattle.single_step.specs.Steps.{EntryOf}
use Rattle.inputs.proofs.InputLaws.{inputs_taken, head_none, head_some}

-- ---- what the books have once the one party has noted that it read i

module _ (m : PartySet) (one : count m ≡ 1) (i : ℤ) (b : Books) where
  read_own : (note_all m (some (Read i)) b (lowest m)).inputs ≡ drop 1 (b (lowest m)).inputs
  unfolding note_all note event_for add
  read_own = rw (lowest_one m one).0

  read_other : (Q : ℕ) → Q < max_parties → (Q ≡ lowest m → ⊥) → (note_all m (some (Read i)) b Q).inputs ≡ (b Q).inputs
  unfolding note_all
  read_other Q h d = go (member Q m) refl
    where
      go : (t : Bool) → member Q m ≡ t → (cond t (note Q (some (Read i)) (b Q)) (b Q)).inputs ≡ (b Q).inputs
      go true e = absurd (d (sole_member m Q (lowest m) one h e (lowest_one m one).1 (lowest_one m one).0))
      go false e = refl

  pub inputs_read : (is : List ℤ) (at end : List ℕ) (rest : List ℤ) → max_parties ≤ length at → InputsHold max_parties is at end b → (b (lowest m)).inputs ≡ i ∷ rest
      → InputsHold max_parties is (set at (lowest m) (get_or at (lowest m) 0 + 1)) end (note_all m (some (Read i)) b)
  inputs_read is at end rest l h e =
      inputs_taken max_parties is at end b (note_all m (some (Read i)) b) (lowest m) (lowest_one m one).1 l h i rest e
      (read_own ∙ ap (λ (x : List ℤ). drop 1 x) e) read_other

-- ---- what the effect comes to

module _ (is : List ℤ) (end at : List ℕ) (m : PartySet) (one : count m ≡ 1) (P : ℕ) (reader : P ≡ lowest m) where
  to_read : List ℤ
  to_read = take (get_or end P 0 - get_or at P 0) (drop (get_or at P 0) is)

  held_inputs : (b : Books) → InputsHold max_parties is at end b → (b (lowest m)).inputs ≡ to_read
  unfolding to_read
  held_inputs b h = rw reader (h (lowest m) (lowest_one m one).1)

  pub read_none : head_of (take (get_or end P 0 - get_or at P 0) (drop (get_or at P 0) is)) ≡ None → EntryOf is end Reads m (Err NoInput) at at
  unfolding to_read perform read_all
  read_none e = record { comes = λ S k c b q h. rw (q, held_inputs b h ∙ head_none to_read e); inputs = λ b h. h }

  pub read_some : (i : ℤ) → max_parties ≤ length at → head_of (take (get_or end P 0 - get_or at P 0) (drop (get_or at P 0) is)) ≡ Some i
      → EntryOf is end Reads m (Ok (Read i, Clear i m)) at (set at P (get_or at P 0 + 1))
  unfolding to_read perform read_all
  read_some i long e =
      record {
        comes = λ S k c b q h. rw (q, held_inputs b h ∙ head_some to_read i e);
        inputs = λ b h. rw reader (inputs_read m one i b is at end (drop 1 to_read) long h (held_inputs b h ∙ head_some to_read i e));
      }
