-- What it is for the parts of a program and of a run to be in range: integers of 32 bits, sets and node numbers of two bytes, refusals and parties of one.
use Rattle.std.specs.Prelude.{ℕ, ◌<◌, ◌^◌, List, [], ◌∷◌, ℤ}
use Rattle.std.proofs.Math.Option.{Option, none, some}
use Rattle.std.specs.Int.{w32}
use Rattle.std.proofs.Common.{SFits}
use Rattle.parties.specs.declared.sets.PartySet.{PartySet}
use Rattle.cells.specs.Cells.{RangedValue}
use Rattle.cells.specs.Cells as Cells
use Rattle.nodes.specs.declared.Node.{Node}
use Rattle.nodes.specs.declared.Node.TheVariants.{VAR, INT, OP, MUX, READ, WRITE, EMBED, SHARE, REVEAL, LET, CASE, PAR, CALL}
use Rattle.refusals.specs.Numbers.{number_of}
use Rattle.records.specs.Ranged.{Ranged, AllRanged}
use Rattle.records.specs.declared.events.Event.{Event}
use Rattle.rules.specs.Names.{Names}
use Rattle.rules.specs.Moves.{Frame, Control, Next, on, ends, full}
use Rattle.rules.specs.Books.{Book, Books}
use Rattle.rules.specs.Single.{Single, going, ended, stopped}
use Rattle.rules.specs.Joint.{Site, running, over, Own, acts, attends}
use Rattle.rules.specs.declared.effects.Move.{Move}
use Rattle.rules.specs.declared.effects.Move.TheVariants.{Hand, Down, Goto, Enter, Call}
use Rattle.rules.specs.declared.effects.Meeting.{Meeting}
use Rattle.rules.specs.declared.effects.Meeting.TheVariants.{Sharing, Revealing}
use Rattle.rules.specs.declared.effects.Offer.{Offer}
use Rattle.rules.specs.declared.effects.Offer.TheVariants.{Empty, Secret}
use Rattle.rules.specs.declared.effects.Effect.{Effect}
use Rattle.rules.specs.declared.effects.Effect.TheVariants.{Refuse, Goes, Reads, Writes, Meets}

-- every item of a list is such and such
abbrev pub Every : {A : Type 0} → (A → Type 0) → List A → Type 0
Every F [] = Unit {0}
Every F (x ∷ xs) = F x × Every F xs

-- ---- what is lent

abbrev pub AllBytes : List ℕ → Type 0
AllBytes bs = Every (λ b. b < 256) bs

abbrev pub AllIntegers : List ℤ → Type 0
AllIntegers is = Every (λ i. SFits w32 i) is

-- ---- nodes, and what they ask for

abbrev pub Short : PartySet → Type 0
Short s = s.bits < 2 ^ 16

-- the fields of a node that a run takes over
abbrev pub RangedNode : Node → Type 0
RangedNode (VAR x) = Unit {0}
RangedNode (INT i) = SFits w32 i
RangedNode (OP o x y) = Unit {0}
RangedNode (MUX x y z) = Unit {0}
RangedNode READ = Unit {0}
RangedNode (WRITE x) = Unit {0}
RangedNode (EMBED x) = Unit {0}
RangedNode (SHARE a q x) = (a.index < 2 ^ 8) × Short q
RangedNode (REVEAL q x) = Short q
RangedNode (LET x e1 e2) = (e1 < 2 ^ 16) × (e2 < 2 ^ 16)
RangedNode (CASE x e1 e2) = (e1 < 2 ^ 16) × (e2 < 2 ^ 16)
RangedNode (PAR p e) = e < 2 ^ 16
RangedNode (CALL f x) = f < 2 ^ 16

abbrev pub RangedMove : Move → Type 0
RangedMove (Hand v) = RangedValue v
RangedMove (Down x e1 e2) = (e1 < 2 ^ 16) × (e2 < 2 ^ 16)
RangedMove (Goto e) = e < 2 ^ 16
RangedMove (Enter m e) = Short m × (e < 2 ^ 16)
RangedMove (Call f v) = (f < 2 ^ 16) × RangedValue v

abbrev pub RangedMeeting : Meeting → Type 0
RangedMeeting (Sharing a q) = (a.index < 2 ^ 8) × Short q
RangedMeeting (Revealing q) = Short q

abbrev pub RangedOffer : Offer → Type 0
RangedOffer Empty = Unit {0}
RangedOffer (Secret i h) = SFits w32 i

abbrev pub RangedEffect : Effect → Type 0
RangedEffect (Refuse refusal) = number_of refusal < 2 ^ 8
RangedEffect (Goes mv) = RangedMove mv
RangedEffect Reads = Unit {0}
RangedEffect (Writes i) = SFits w32 i
RangedEffect (Meets mt o) = RangedMeeting mt × RangedOffer o

-- ---- control

abbrev pub RangedNames : Names → Type 0
RangedNames b = Every Cells.Ranged b

pub record RangedFrame (f : Frame) : Type 0 where
  pub body : f.body < 2 ^ 16
  pub mode : Short f.mode
  pub names : RangedNames f.names

pub record RangedControl (c : Control) : Type 0 where
  pub node : c.node < 2 ^ 16
  pub mode : Short c.mode
  pub names : RangedNames c.names
  pub frames : Every RangedFrame c.frames

abbrev pub RangedNext : Next → Type 0
RangedNext (on c) = RangedControl c
RangedNext (ends v) = RangedValue v
RangedNext full = Unit {0}

-- ---- books, sites and the single run

pub record RangedBook (b : Book) : Type 0 where
  pub inputs : AllIntegers b.inputs
  pub events : AllRanged b.events

-- the event that a step writes, if it writes one
abbrev pub RangedNote : Option Event → Type 0
RangedNote none = Unit {0}
RangedNote (some e) = Ranged e

abbrev pub RangedSite : Site → Type 0
RangedSite (running c b) = RangedControl c × RangedBook b
RangedSite (over done b) = RangedBook b

abbrev pub RangedOwn : Own → Type 0
RangedOwn (acts s) = RangedSite s
RangedOwn (attends mt o) = RangedMeeting mt × RangedOffer o

abbrev pub RangedBooks : Books → Type 0
RangedBooks b = (P : ℕ) → RangedBook (b P)

abbrev pub RangedSingle : Single → Type 0
RangedSingle (going t c b) = RangedControl c × RangedBooks b
RangedSingle (ended t v b) = RangedBooks b
RangedSingle (stopped t refusal e b) = RangedBooks b
