-- `ledger::entries::event_for` meets its contract. Assumes nothing.
use borrow.Enum.Refused.{opened}
use mathlib.Core.Path.{◌≡◌, sym, ◌∙◌}
use mathlib.Core.Bool.{Bool, true, false, cond}
use Prim.Native.Nat.{ℕ}
use lib.IntN.{ℤ}
use Rattle.parties.specs.Sets.{member}
use Rattle.parties.specs.declared.sets.PartySet.{PartySet}
use Rattle.records.specs.declared.events.Event.{Event}
use Rattle.records.specs.declared.events.Event.TheVariants.{Opened, Passed}
use Rattle.rules.specs.Books.{event_for}
use Rattle.ledger.proofs.RevealLaws.{other_is, for_party}
use Rattle.ledger.proofs.entries.event_for.Goals as goal

-- the party's part in a reveal
reveals : (P : ℕ) (e : Event) (q : PartySet) (i : ℤ) (t : Bool) → e ≡ Opened q i → t ≡ member P q → cond t (Opened q i) (Passed q) ≡ event_for P e
unfolding event_for
reveals P e q i t o h = rw (o, h)

pub returns-then-has : goal.returns-then-has
returns-then-has c = reveals _ _ _ _ true c.in-Opened.is (sym c.if-has.true ∙ c.has.ensures)

pub returns-else-has : goal.returns-else-has
returns-else-has c = reveals _ _ _ _ false c.in-Opened.is (sym c.if-has.false ∙ c.has.ensures)

pub returns-in_default : goal.returns-in_default
returns-in_default c = other_is _ _ _ (opened c.in_default.in_default-own.keys2) ∙ for_party _ _
