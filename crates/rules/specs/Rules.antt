-- Document 01, "Rules of one step": what a node does in a mode, with the names bound. One function serves the single run, which sees whole
-- values, and a site, which sees its slices. Only SHARE, REVEAL and PAR ask which of the two it is.
-- A refusal is the lowest that fits: 5, 6, 7 here; 8, 9 and 10, of inputs, room and frames, are tried after (Single, Joint).
use Rattle.std.specs.Prelude.{Bool, true, false, not, ◌&&◌, cond, List, eqb, ℤ, pos, Option, Some, None}
use Rattle.std.specs.Bool.{beq}
use Rattle.std.proofs.Math.Option.{Option as Maybe, none, some}
use Rattle.numbers.specs.Integers.{operate, operation_of, same_integer}
use Rattle.parties.specs.Sets.{member, meet, join, is_empty, same_set, count, only, make_up}
use Rattle.limits.specs.declared.Party.{Party}
use Rattle.parties.specs.declared.sets.PartySet.{PartySet}
use Rattle.values.specs.Values.{held, had_by}
use Rattle.values.specs.declared.value.Value.{Value}
use Rattle.values.specs.declared.value.Value.TheVariants.{Nothing, Clear, Share}
use Rattle.values.specs.declared.value.Held.{Held}
use Rattle.nodes.specs.declared.Node.{Node}
use Rattle.nodes.specs.declared.Node.TheVariants.{VAR, INT, OP, MUX, READ, WRITE, EMBED, SHARE, REVEAL, LET, CASE, PAR, CALL}
use Rattle.refusals.specs.declared.Refusal.{Refusal}
use Rattle.refusals.specs.declared.Refusal.TheVariants.{NameUnbound, WrongValue, WrongMode}
use Rattle.rules.specs.Names.{Names, Looked, found, unbound, look_all, names_of, first, second, third}
use Rattle.rules.specs.declared.effects.View.{View}
use Rattle.rules.specs.declared.effects.View.TheVariants.{Whole, Site}
use Rattle.rules.specs.declared.effects.Move.TheVariants.{Hand, Down, Goto, Enter, Call}
use Rattle.rules.specs.declared.effects.Meeting.{Meeting}
use Rattle.rules.specs.declared.effects.Meeting.TheVariants.{Sharing, Revealing}
use Rattle.rules.specs.declared.effects.Offer.TheVariants.{Empty, Secret}
use Rattle.rules.specs.declared.effects.Effect.{Effect}
use Rattle.rules.specs.declared.effects.Effect.TheVariants.{Refuse, Goes, Reads, Writes, Meets}

-- an effect, unless a test fails
abbrev pub unless : Refusal → Bool → Effect → Effect
unless refusal true e = e
unless refusal false e = Refuse refusal

abbrev pub hands_back : Value → Effect
hands_back v = Goes (Hand v)

-- ---- OP, MUX, and the others that want their values at exactly m

-- "all clear and at exactly m, result clear at m; or all shares with holders m at exactly m, result such a share"
abbrev pub on_two : PartySet → (ℤ → ℤ → ℤ) → Option Held → Option Held → Effect
on_two m f (Some x) (Some y) = unless WrongValue (beq x.secret y.secret) (hands_back (had_by m x.secret (f x.number y.number)))
on_two m f (Some x) None = Refuse WrongValue
on_two m f None y = Refuse WrongValue

abbrev pub on_three : PartySet → (ℤ → ℤ → ℤ → ℤ) → Option Held → Option Held → Option Held → Effect
on_three m f (Some x) (Some y) (Some z) =
    unless WrongValue (beq x.secret y.secret && beq x.secret z.secret) (hands_back (had_by m x.secret (f x.number y.number z.number)))
on_three m f (Some x) (Some y) None = Refuse WrongValue
on_three m f (Some x) None z = Refuse WrongValue
on_three m f None y z = Refuse WrongValue

-- "MUX is y where x is not 0, else z."
unfoldable pub mux : ℤ → ℤ → ℤ → ℤ
mux x y z = cond (same_integer x (pos 0)) z y

-- "x clear at exactly m"
abbrev pub if_clear : Option Held → (ℤ → Effect) → Effect
if_clear (Some x) k = cond x.secret (Refuse WrongValue) (k x.number)
if_clear None k = Refuse WrongValue

-- "m has one party"
unfoldable pub alone : PartySet → Bool
alone m = eqb (count m) 1

-- ---- SHARE

-- "x clear with a in its set; a and q together are exactly m"
unfoldable pub giver_shares : PartySet → Party → PartySet → Value → Effect
giver_shares m a q Nothing = Refuse WrongValue
giver_shares m a q (Clear i l) =
    unless WrongValue (member a.index l) (unless WrongMode (make_up a.index q m) (Meets (Sharing a q) (Secret i (only a.index))))
giver_shares m a q (Share i h l) = Refuse WrongValue

-- "the others only that x is bound and that a and q make up m"
unfoldable pub other_shares : PartySet → Party → PartySet → Effect
other_shares m a q = unless WrongMode (make_up a.index q m) (Meets (Sharing a q) Empty)

-- "at SHARE, site a makes all the checks"
unfoldable pub at_share : View → PartySet → Party → PartySet → Value → Effect
at_share Whole m a q v = giver_shares m a q v
at_share (Site P) m a q v = cond (eqb P.index a.index) (giver_shares m a q v) (other_shares m a q)

-- ---- REVEAL

-- "x a share at exactly its holders h; h and q together are exactly m"
unfoldable pub holder_opens : PartySet → PartySet → Value → Effect
holder_opens m q Nothing = Refuse WrongValue
holder_opens m q (Clear i l) = Refuse WrongValue
holder_opens m q (Share i h l) =
    unless WrongValue (same_set l h) (unless WrongMode (same_set (join h q) m) (Meets (Revealing q) (Secret i h)))

-- "At REVEAL a site holding nothing must be in q (else refusal 7); one holding a value checks as above."
unfoldable pub at_reveal : View → PartySet → PartySet → Value → Effect
at_reveal Whole m q v = holder_opens m q v
at_reveal (Site P) m q Nothing = unless WrongMode (member P.index q) (Meets (Revealing q) Empty)
at_reveal (Site P) m q (Clear i l) = holder_opens m q (Clear i l)
at_reveal (Site P) m q (Share i h l) = holder_opens m q (Share i h l)

-- ---- PAR

-- "with no party of m in p, hands back nothing"; "At PAR a site outside p hands back nothing." (001 takes a step more to bind it.)
abbrev pub goes_in : View → PartySet → PartySet → Bool
goes_in Whole m p = not (is_empty (meet m p))
goes_in (Site P) m p = member P.index p

-- ---- all thirteen

-- What a node does with the values of its names. Unlike 001: `embed` always uses the present mode (EMBED); `case` looks at an integer, and binds
-- no name (CASE); functions are named nodes, so that a call looks at no place of a function and keeps no bindings (CALL).
unfoldable pub judge : View → Node → PartySet → List Value → Effect
judge w (VAR x) m vs = hands_back (first vs)
judge w (INT i) m vs = hands_back (Clear i m)
judge w (OP o x y) m vs = on_two m (operate (operation_of o)) (held m (first vs)) (held m (second vs))
judge w (MUX x y z) m vs = on_three m mux (held m (first vs)) (held m (second vs)) (held m (third vs))
judge w READ m vs = unless WrongMode (alone m) Reads
judge w (WRITE x) m vs = if_clear (held m (first vs)) λ i. unless WrongMode (alone m) (Writes i)
judge w (EMBED x) m vs = if_clear (held m (first vs)) λ i. hands_back (Share i m m)
judge w (SHARE a q x) m vs = at_share w m a q (first vs)
judge w (REVEAL q x) m vs = at_reveal w m q (first vs)
judge w (LET x e1 e2) m vs = Goes (Down x e1 e2)
judge w (CASE x e1 e2) m vs = if_clear (held m (first vs)) λ i. Goes (Goto (cond (same_integer i (pos 0)) e2 e1))
judge w (PAR p e) m vs = cond (goes_in w m p) (Goes (Enter (meet m p) e)) (hands_back Nothing)
judge w (CALL f x) m vs = Goes (Call f (first vs))

abbrev pub with_values : Looked → (List Value → Effect) → Effect
with_values (found vs) k = k vs
with_values (unbound x) k = Refuse NameUnbound

unfoldable pub rule : View → Node → PartySet → Names → Effect
rule w e m b = with_values (look_all m b (names_of e)) λ vs. judge w e m vs

-- the meeting that a node asks for, where it is a joint one
abbrev pub joint_meeting : Node → Maybe Meeting
joint_meeting (VAR x) = none
joint_meeting (INT i) = none
joint_meeting (OP o x y) = none
joint_meeting (MUX x y z) = none
joint_meeting READ = none
joint_meeting (WRITE x) = none
joint_meeting (EMBED x) = none
joint_meeting (SHARE a q x) = some (Sharing a q)
joint_meeting (REVEAL q x) = some (Revealing q)
joint_meeting (LET x e1 e2) = none
joint_meeting (CASE x e1 e2) = none
joint_meeting (PAR p e) = none
joint_meeting (CALL f x) = none
