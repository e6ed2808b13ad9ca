-- The start of a run and its end: nothing used, the inputs divided, the areas opened; the turns; and whether all have finished. Assumes nothing.
use mathlib.Core.Path.{◌≡◌, sym, ap, ◌∙◌, subst}
use mathlib.Core.Bool.{Bool, true, false, cond}
use mathlib.Core.List.{List}
use Prim.Native.Nat.{ℕ, ◌-◌, ◌*◌, ◌≤◌}
use lib.IntN.{ℤ}
use lib.ListN.{length, replicate}
use Rattle.limits.specs.Limits.{max_parties}
use Rattle.limits.specs.declared.Depth.{Depth}
use Rattle.parties.specs.Sets.{all}
use Rattle.parties.specs.declared.sets.PartySet.{PartySet}
use Rattle.program.specs.Check.{Program, good, checked, max_nodes}
use Rattle.records.specs.Events.{held_back}
use Rattle.rules.specs.Books.{opening}
use Rattle.rules.specs.Moves.{Control}
use Rattle.rules.specs.Single.{Setting}
use Rattle.rules.specs.Joint.{Sites, running, run_turns, start_all}
use Rattle.rules.specs.Calls.{complete, still_open}
use Rattle.rules.specs.Lent.{Lent, inputs_of}
use Rattle.area.specs.declared.stand.Stand.{Stand}
use Rattle.ledger.specs.Ledger.{none_used}
use Rattle.inputs.specs.Inputs.{Divided, InputsHold}
use Rattle.inputs.proofs.InputLaws.{inputs_start}
use Rattle.ledger.proofs.OpeningLaws.{starts_at, zeros, opening_lengths, opening_records, opening_fits}
use Rattle.meets.specs.Places.{setting_of, Given, Stands, InputsStand}
use Rattle.ends.specs.Ends.{OpensAll}
use Rattle.ends.specs.Ends as Ends
use Rattle.joint.specs.Runs.{told, RunsTurns, Drives}
use Rattle.std.specs.Prelude.{Ok}
use Rattle.joint.specs.declared.runs.Answer.{Answer}
use Rattle.joint.specs.declared.runs.Answer.TheVariants.{Complete, Open}

-- ---- all sites at the start, in what was lent
module _ (bs : List ℕ) (n nodes room : ℕ) (xs ls : List ℕ) (mode : PartySet) (depth : Depth) (few : nodes ≤ max_nodes) (long : n * room ≤ length xs) (places : n ≤ length ls) (em : mode ≡ all n) (deep : depth.frames ≡ 0) (L : Lent) where
  abbrev given : (p : Program) → checked bs ≡ good p → p.parties ≡ n → length p.nodes ≡ nodes → Given bs nodes room n
  given p g q len = record { program = p; sound = g; parties = q; count = len; few = few; bytes₀ = xs; lengths₀ = ls; long = long; places = places }

  abbrev standing : Stand
  standing = record { node = nodes - 1; mode = mode; depth = depth }

  start_stands : (p : Program) (g : checked bs ≡ good p) (q : p.parties ≡ n) (len : length p.nodes ≡ nodes) (ls₁ w₁ : List ℕ) → held_back ≤ room
      → ls₁ ≡ none_used n ls → OpensAll bs nodes standing n w₁ → Stands (given p g q len) (start_all (setting_of p room) (inputs_of L)) xs ls₁ w₁
  unfolding start_all
  start_stands p g q len ls₁ w₁ hb e o =
      record {
        holds = record { bytes = opening_records (inputs_of L) n room xs; lengths = e ∙ opening_lengths (inputs_of L) n ls };
        sits = λ P h. ap (λ (c : Control). running c (opening (inputs_of L) P)) (sym (starts_at p n nodes mode em q len)) ∙ (o.each P h).site deep (opening (inputs_of L) P);
        tables = λ P h. (o.each P h).places;
        fits = opening_fits (inputs_of L) room n hb;
      }

start_inputs : (S : Setting) (L : Lent) (counts : List ℕ) (is : List ℤ) (n : ℕ) (at end : List ℕ) → L.counts ≡ counts → L.inputs ≡ is
    → Divided counts (replicate max_parties 0) (replicate max_parties 0) at end → InputsStand is end n at (start_all S (inputs_of L))
unfolding start_all
start_inputs S L counts is n at end ec ei d =
    subst (λ (x : List ℤ). InputsHold n x at end (opening (inputs_of L))) ei
    (inputs_start L (replicate max_parties 0) (replicate max_parties 0) at end (zeros max_parties) (zeros max_parties) (subst (λ (x : List ℕ). Divided x (replicate max_parties 0) (replicate max_parties 0) at end) (sym ec) d) n)

-- ---- from the start to the answer
module _ (bs : List ℕ) (n nodes room : ℕ) (counts : List ℕ) (is : List ℤ) (ts : List ℕ) (k : ℕ) (r : Bool) (xs ls xs' ls' at end ls₁ w₁ w' : List ℕ) (mode : PartySet) (depth : Depth)
    (few : nodes ≤ max_nodes) (long : n * room ≤ length xs) (places : n ≤ length ls) (d : Divided counts (replicate max_parties 0) (replicate max_parties 0) at end) (e : ls₁ ≡ none_used n ls) (em : mode ≡ all n)
    (deep : depth.frames ≡ 0) (o : OpensAll bs nodes (record { node = nodes - 1; mode = mode; depth = depth }) n w₁) (t : RunsTurns bs nodes ts n room is end k at xs ls₁ w₁ xs' ls' w') (f : Ends.Finishes n r w') where
  drives_by : (a : Answer) → told (Ok a) ≡ cond r (complete k) (still_open k) → Drives bs n nodes room counts is ts a xs ls xs' ls'
  drives_by a ea =
      record {
        comes = λ p L g q len ec ei hb.
            let S : Setting = setting_of p room in
            let J : Sites = start_all S (inputs_of L) in
            let (st, c) = t.comes (given bs n nodes room xs ls mode depth few long places em deep L p g q len) J
            (start_stands bs n nodes room xs ls mode depth few long places em deep L p g q len ls₁ w₁ hb e o) (start_inputs S L counts is n at end ec ei d) in
            record { answer = rw (← c, ← f.comes (run_turns S ts J).sites st.sits) ea; holds = st.holds };
      }

  pub drives_complete : r ≡ true → Drives bs n nodes room counts is ts (Complete k) xs ls xs' ls'
  drives_complete h = drives_by (Complete k) (rw h)

  pub drives_open : r ≡ false → Drives bs n nodes room counts is ts (Open k) xs ls xs' ls'
  drives_open h = drives_by (Open k) (rw h)
