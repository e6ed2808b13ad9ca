-- Document 01's worked example: its bytes, and the calls opened, so that they compute. Assumes nothing.
use Rattle.std.specs.Prelude.{ℕ, List, [], ◌∷◌, ℤ, replicate}
use Rattle.numbers.specs.Integers.{reduced, operate, operation_of}
use Rattle.words.specs.Words.{low_first, number_at}
use Rattle.parties.specs.Sets.{member, meet, join, is_empty, same_set, only, all, within, count_from, count, lowest_from, lowest, make_up}
use Rattle.parties.specs.declared.sets.PartySet.{PartySet}
use Rattle.values.specs.Values.{place, moved, restrict, slice, held, had_by}
use Rattle.nodes.specs.Nodes.{body_length, node_of}
use Rattle.nodes.specs.declared.Node.{Node}
use Rattle.program.specs.Check.{fits, is_good, scan, bad_call, verdict, checked, node_at}
use Rattle.records.specs.Events.{event_bytes, written, finished, has_room}
use Rattle.rules.specs.Names.{Names, none_bound, bind, look, look_all, names_of}
use Rattle.rules.specs.Rules.{mux, alone, giver_shares, other_shares, at_share, holder_opens, at_reveal, judge, rule}
use Rattle.rules.specs.Moves.{start, hand_back, move}
use Rattle.rules.specs.Books.{used, handed, event_of, event_for, room_for, add, note}
use Rattle.rules.specs.Single.{all_of, note_all, arrive, settle_all, read_all, perform, step, run, after}
use Rattle.rules.specs.Joint.{land, settle, read_own, perform_own, own, attendance, brought, agrees, all_agree, joins_by, joins, parts, put, put_all, concluded, meeting, turn_own, turn_at, turn, run_turns, start_all, all_finished}
use Rattle.rules.specs.Lent.{Lent, Left, unchanged, room_of, sum, inputs_of, counts_fit, enough_lent, records_left, lengths_left, left_by}
use Rattle.rules.specs.Calls.{call_of, SingleAnswer, single_left, single_of, single_call, JointAnswer, bad_turn_from, joint_left, joint_of, joint_call}
use Rattle.rules.specs.declared.effects.View.{View}
use Rattle.rules.specs.declared.effects.Effect.{Effect}

-- ---- its bytes

-- "Program, in hex"
unfoldable pub program : List ℕ
program = 0x00 ∷ 0x02 ∷ 0x05 ∷ 0x0c ∷ 0x01 ∷ 0x00 ∷ 0x00 ∷ 0x00 ∷ 0x08 ∷ 0x00 ∷ 0x02 ∷ 0x00 ∷ 0x00 ∷ 0x09 ∷ 0x01 ∷ 0x00 ∷ 0x01
    ∷ 0x0a ∷ 0x01 ∷ 0x02 ∷ 0x00 ∷ 0x03 ∷ 0x00 ∷ 0x0a ∷ 0x00 ∷ 0x01 ∷ 0x00 ∷ 0x04 ∷ 0x00 ∷ []

-- "Counts 1 and 0", an input, and so many record bytes of 170, length places of 9 and bytes of working area of 85
unfoldable pub lent : ℤ → (room places area : ℕ) → Lent
lent i room places area =
    record { program = program; counts = 1 ∷ 0 ∷ []; inputs = i ∷ []; records = replicate room 170; lengths = replicate places 9; work = replicate area 85 }

-- "turns 0 0 0 0 0 1 1 1 1 0"
abbrev pub turns : List ℕ
turns = 0 ∷ 0 ∷ 0 ∷ 0 ∷ 0 ∷ 1 ∷ 1 ∷ 1 ∷ 1 ∷ 0 ∷ []

-- the two records, with the input 7
abbrev pub record0 : List ℕ
record0 = 0x01 ∷ 0x07 ∷ 0x00 ∷ 0x00 ∷ 0x00 ∷ 0x03 ∷ 0x00 ∷ 0x02 ∷ 0x00 ∷ 0x04 ∷ 0x01 ∷ 0x00 ∷ 0x07 ∷ 0x00 ∷ 0x00 ∷ 0x00
    ∷ 0x06 ∷ 0x01 ∷ 0x07 ∷ 0x00 ∷ 0x00 ∷ 0x00 ∷ 0x01 ∷ 0x00 ∷ 0x00 ∷ 0x00 ∷ []

abbrev pub record1 : List ℕ
record1 = 0x03 ∷ 0x00 ∷ 0x02 ∷ 0x00 ∷ 0x05 ∷ 0x01 ∷ 0x00 ∷ 0x06 ∷ 0x00 ∷ 0x00 ∷ 0x00 ∷ 0x00 ∷ 0x00 ∷ 0x00 ∷ 0x00 ∷ 0x00 ∷ 0x00 ∷ []

-- ---- the calls, opened: the `unfolding` lines name what the definitions compute with, so that who unfolds one of these unfolds it all

unfoldable pub ruled : View → Node → PartySet → Names → Effect
unfolding operate reduced low_first number_at member meet join is_empty same_set only all within count_from count lowest_from lowest make_up place moved restrict slice held had_by body_length operation_of node_of fits is_good scan bad_call verdict checked node_at event_bytes written finished has_room none_bound bind look look_all names_of mux alone giver_shares other_shares at_share holder_opens at_reveal judge rule start hand_back move used handed event_of event_for room_for add note
ruled w e m b = rule w e m b

unfoldable pub single : Lent → ℕ → Left SingleAnswer
unfolding ruled program lent all_of note_all arrive settle_all read_all perform step run after unchanged room_of sum inputs_of counts_fit enough_lent records_left lengths_left left_by call_of single_left single_of single_call
single L budget = single_call L budget

unfoldable pub joint : Lent → List ℕ → Left JointAnswer
unfolding ruled program lent all_of land settle read_own perform_own own attendance brought agrees all_agree joins_by joins parts put put_all concluded meeting turn_own turn_at turn run_turns start_all all_finished unchanged room_of sum inputs_of counts_fit enough_lent records_left lengths_left left_by call_of bad_turn_from joint_left joint_of joint_call
joint L turns = joint_call L turns
