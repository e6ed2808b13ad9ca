-- `area::levels::go` meets its contract. Assumes nothing.
use Rattle.area.proofs.MoveLaws.{stands}
use Rattle.rules.specs.Moves.{move}
use Rattle.area.specs.Levels.{control_of}
use Rattle.area.proofs.levels.go.Goals as goal

pub returns-in-Hand : goal.returns-in-Hand
unfolding move control_of
returns-in-Hand c = rw c.in-Hand.is c.hand_back.ensures

pub returns-in-Down : goal.returns-in-Down
returns-in-Down c = rw c.in-Down.is c.put_down.ensures

pub returns-in-Goto : goal.returns-in-Goto
unfolding move control_of
returns-in-Goto c = rw c.in-Goto.is (stands _ c.args.w.now)

pub returns-in-Enter : goal.returns-in-Enter
unfolding move control_of
returns-in-Enter c = rw c.in-Enter.is (stands _ c.args.w.now)

pub returns-in-Call : goal.returns-in-Call
returns-in-Call c = rw c.in-Call.is c.call.ensures
