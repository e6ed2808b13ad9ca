-- What the bytes of a working area stand for. The first 2,048 bytes are the table of places; then come 65 levels of 160 bytes: sixteen cells,
-- the name that waits, the node that follows (2), the mode (2). The present bindings are level `depth`, and the levels below are the frames.
use Rattle.std.specs.Prelude.{◌≡◌, ℕ, zero, suc, ◌+◌, ◌*◌, List, [], ◌∷◌, get_or, take}
use Rattle.words.specs.Words.{number_at}
use Rattle.limits.specs.Limits.{max_names}
use Rattle.parties.specs.SetBytes.{set_at}
use Rattle.cells.specs.Cells.{width, cell_at}
use Rattle.rules.specs.Names.{Names}
use Rattle.rules.specs.Moves.{Frame, Control, on, ends, full}
use Rattle.rules.specs.Moves as Moves
use Rattle.area.specs.declared.stand.Stand.{Stand}
use Rattle.area.specs.declared.stand.Next.{Next}
use Rattle.area.specs.declared.stand.Next.TheVariants.{On, Ends, Full}

abbrev pub table_size : ℕ
table_size = 2048

abbrev pub level_size : ℕ
level_size = 160

abbrev pub level_at : ℕ → ℕ
level_at d = table_size + d * level_size

-- n cells, one after the other
unfoldable pub cells : ℕ → List ℕ → ℕ → Names
cells zero w at = []
cells (suc n) w at = cell_at w at ∷ cells n w (at + width)

-- the bindings of a level
abbrev pub names_at : List ℕ → ℕ → Names
names_at w d = cells max_names w (level_at d)

unfoldable pub frame_at : List ℕ → ℕ → Frame
frame_at w d =
    record {
      name = record { index = get_or w (level_at d + 144) 0 };
      body = number_at 2 w (level_at d + 145);
      mode = set_at w (level_at d + 147);
      names = names_at w d;
    }

-- the levels below d, the top one first
unfoldable pub frames_of : List ℕ → ℕ → List Frame
frames_of w zero = []
frames_of w (suc d) = frame_at w d ∷ frames_of w d

-- the control that a stand and the bytes of its area are
unfoldable pub control_of : Stand → List ℕ → Control
control_of t w = record { node = t.node; mode = t.mode; names = names_at w t.depth.frames; frames = frames_of w t.depth.frames }

unfoldable pub next_of : Next → List ℕ → Moves.Next
next_of (On t) w = on (control_of t w)
next_of (Ends v) w = ends v
next_of Full w = full

-- a move made in the bytes w, which leaves w': it is the one that was asked for, and the table of places stays
pub record Goes (y : Next) (next : Moves.Next) (w w' : List ℕ) : Type 0 where
  pub gives : next_of y w' ≡ next
  pub table : take table_size w' ≡ take table_size w
