-- The start of a run: nothing used, the inputs divided, the area prepared. Assumes nothing.
use mathlib.Core.Path.{◌≡◌, refl, sym, ◌∙◌, subst}
use mathlib.Core.List.{List}
use Prim.Native.Nat.{ℕ, ◌-◌, ◌*◌, ◌≤◌}
use lib.IntN.{ℤ}
use lib.ListN.{length, replicate}
use Rattle.limits.specs.Limits.{max_parties}
use Rattle.limits.specs.declared.Depth.{Depth}
use Rattle.parties.specs.Sets.{all}
use Rattle.parties.specs.declared.sets.PartySet.{PartySet}
use Rattle.rules.specs.Books.{opening}
use Rattle.rules.specs.Moves.{Control}
use Rattle.rules.specs.Single.{going, run, after}
use Rattle.rules.specs.Lent.{inputs_of}
use Rattle.table.specs.Table.{Prepared}
use Rattle.area.proofs.LevelLaws.{fresh}
use Rattle.ledger.specs.Ledger.{none_used}
use Rattle.ledger.proofs.OpeningLaws.{starts_at, zeros, opening_lengths, opening_records, opening_fits}
use Rattle.inputs.specs.Inputs.{Divided, InputsHold}
use Rattle.single_step.specs.Steps.{Given, Stands}
use Rattle.single.specs.Runs.{Finishes, RunsOn, Drives}
use Rattle.single.specs.declared.runs.Answer.{Answer}
use Rattle.inputs.proofs.InputLaws.{inputs_start}

pub drives_by : (bs : List ℕ) (n nodes room : ℕ) (counts : List ℕ) (is : List ℤ) (budget : ℕ) (a : Answer) (xs ls xs' ls' at end ls₁ w₁ : List ℕ) (mode : PartySet) (depth : Depth)
    → n * room ≤ length xs → n ≤ length ls → Divided counts (replicate 16 0) (replicate 16 0) at end → ls₁ ≡ none_used n ls → Prepared bs nodes w₁ → mode ≡ all n → depth.frames ≡ 0
    → RunsOn bs nodes room n is end budget (record { node = nodes - 1; mode = mode; depth = depth }) a (record { bytes = xs; lengths = ls₁; work = w₁; at = at }) xs' ls'
    → Drives bs n nodes room counts is budget a xs ls xs' ls'
unfolding after
drives_by bs n nodes room counts is budget a xs ls xs' ls' at end ls₁ w₁ mode depth long places d e w em deep r =
    record {
      comes = λ p L g q len ec ei hb.
          let G : Given room n = record { inputs = is; end = end; bytes₀ = xs; lengths₀ = ls; long = long; places = places } in
          let ins : InputsHold max_parties is at end (opening (inputs_of L))
          = subst (λ (x : List ℤ). InputsHold max_parties x at end (opening (inputs_of L))) ei
          (inputs_start L (replicate 16 0) (replicate 16 0) at end (zeros 16) (zeros 16) (subst (λ (x : List ℕ). Divided x (replicate 16 0) (replicate 16 0) at end) (sym ec) d) max_parties) in
          let st : Stands G (opening (inputs_of L)) (record { bytes = xs; lengths = ls₁; work = w₁; at = at })
          = record {
            holds = record { bytes = opening_records (inputs_of L) n room xs; lengths = e ∙ opening_lengths (inputs_of L) n ls };
            fits = opening_fits (inputs_of L) room n hb;
            inputs = ins;
          } in
          subst (λ (c : Control). Finishes a room n xs ls (run (record { program = p; room = room }) budget (going 0 c (opening (inputs_of L)))) xs' ls') (fresh (record { node = nodes - 1; mode = mode; depth = depth }) w₁ deep w.fresh ∙ starts_at p n nodes mode em q len)
          (r.comes G refl refl p g q len w.places (opening (inputs_of L)) st);
    }
