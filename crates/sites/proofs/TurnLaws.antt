-- A turn, from what its parts say. Assumes nothing.
use mathlib.Core.Path.{◌≡◌, refl, ap, ◌∙◌, subst}
use mathlib.Core.Bool.{Bool, true, false}
use mathlib.Core.List.{List, ◌++◌}
use Prim.Native.Nat.{ℕ, ◌+◌, ◌-◌, ◌*◌, ◌≤◌, ◌<◌}
use native.Mathlib.Omega.{arith}
use Rattle.std.specs.Prelude.{Option}
use lib.IntN.{ℤ}
use lib.ListN.{length, get_or, set, take, drop}
use lib.Seq.{set-get_or, take_at, drop_at, length-take-le}
use Rattle.std.specs.Prelude.{Option, Some, None, Ok}
use Rattle.nodes.specs.Nodes.{joint_node, IsJoint}
use Rattle.nodes.specs.declared.Node.{Node}
use Rattle.nodes.specs.declared.JointNode.{JointNode}
use Rattle.program.specs.Check.{Program, good, checked, node_at}
use Rattle.rules.specs.Books.{Book, used}
use Rattle.rules.specs.Moves.{Control, on}
use Rattle.area.specs.Rows.{row_size, row, area_of, back}
use Rattle.rules.specs.Single.{Setting}
use Rattle.rules.specs.Joint.{Site, Sites, Own, land, own, attends, running, put, meeting, turn_own, turn_at, turn, book_of, idle, counted}
use Rattle.rules.specs.declared.effects.Meeting.{Meeting}
use Rattle.rules.specs.declared.effects.Offer.{Offer}
use Rattle.rules.specs.declared.effects.Effect.{Effect}
use Rattle.rules.specs.declared.effects.Effect.TheVariants.{Goes}
use Rattle.rules.specs.declared.effects.View.TheVariants as View'
use Rattle.inputs.specs.Inputs.{head_of}
use Rattle.area.specs.Levels.{control_of, next_of}
use Rattle.seats.specs.Seats.{seat_at, seated, site_of, IsOver, Saves}
use Rattle.area.specs.declared.stand.Stand.{Stand}
use Rattle.area.specs.declared.stand.Next.{Next}
use Rattle.area.specs.declared.stand.Next.TheVariants.{On, Ends, Full}
use Rattle.seats.specs.declared.Seat.{Seat}
use Rattle.seats.specs.declared.Seat.TheVariants.{Running, Finished, Stopped}
use Rattle.table.specs.Table.{PlacesIn, node_by}
use Rattle.table.proofs.TableLaws.{node_by_lem}
use Rattle.lookup.specs.Lookup.{Unmet}
use Rattle.advance.specs.Advances.{rule_of, rule_at, Advances}
use Rattle.advance.specs.Strides.{onward, Kept, InRow, LeadsOn, AmongRows}
use Rattle.advance.specs.declared.Advanced.{Advanced}
use Rattle.advance.specs.declared.Advanced.TheVariants.{Moved, Asks, Joins}
use Rattle.advance.specs.declared.strides.Did.{Did}
use Rattle.acts.specs.Acts.{Takes, Lands}
use Rattle.acts.proofs.ActLaws.{lands_on, step_lands, acts_goes}
use Rattle.site.proofs.OwnLaws.{owned, weighs_acts}
use Rattle.site.specs.Own as Owned
use Rattle.site.specs.Own.{acted, Alone, Owns}
use Rattle.site.specs.declared.own.Own as OwnOf
use Rattle.site.specs.declared.own.Own.TheVariants.{Acts, Attends}
use Rattle.invariants.proofs.AttendsLaws.{attends_at}
use Rattle.meets.specs.Places.{setting_of, Given, Stands}
use Rattle.sites.specs.Turns.{Turns, TurnsJoined, LandsRow, Fits, TurnsCame}
use Rattle.area.proofs.RowLaws.{back_same}
use Rattle.concludes.proofs.RowLaws.{row_own}
use Rattle.concludes.proofs.StandLaws.{stands_length}
use Rattle.turn_steps.specs.Steps.{Meets, ActsAlone}
use Rattle.turn_steps.proofs.InputLaws.{meeting_inputs}
use Rattle.turn_steps.proofs.AloneLaws.{alone_none}

over_idle : (S : Setting) (P : ℕ) (seat : Seat) (w : List ℕ) (b : Book) (J : Sites) → IsOver seat → turn_at S P (seated seat w b) J ≡ idle J
unfolding turn_at
over_idle S P (Running t) w b J h = absurd h
over_idle S P Finished w b J h = refl
over_idle S P Stopped w b J h = refl

module _ (bs : List ℕ) (nodes P n room : ℕ) (is : List ℤ) (end at bytes lengths work : List ℕ) where
  pub turn_over : IsOver (seat_at (area_of P work)) → Turns bs nodes P n room is end false at bytes lengths work at bytes lengths work
  unfolding turn site_of
  turn_over h =
      record {
        comes = λ G J inside st ins.
            let q : turn (setting_of G.program room) P J ≡ idle J
            = ap (λ (s : Site). turn_at (setting_of G.program room) P s J) (st.sits P inside)
            ∙ over_idle (setting_of G.program room) P (seat_at (area_of P work)) (area_of P work) (book_of (J P)) J h in
            rw q (st, ins, refl);
      }

  -- what site P does where it stands at t
  abbrev Does : Stand → OwnOf.Own → Type 0
  Does t r = (p : Program) → checked bs ≡ good p → length p.nodes ≡ nodes → PlacesIn bs nodes (area_of P work) → (b : Book) → used b ≡ get_or lengths P 0
      → own (setting_of p room) P (control_of t (area_of P work)) b ≡ Owned.own_of (setting_of p room) P (control_of t (area_of P work)) b r

  node_here : (e : ℕ) (p : Program) → checked bs ≡ good p → length p.nodes ≡ nodes → PlacesIn bs nodes (area_of P work) → node_by bs nodes (area_of P work) e ≡ node_at p e
  node_here e p g len places = rw (← len) (node_by_lem bs p (area_of P work) e g (rw len places))

  does_asked : (t : Stand) (effect : Effect) → effect ≡ rule_at (View'.Site (record { index = P })) bs nodes t (area_of P work) → Unmet effect → Does t (Acts effect)
  does_asked t effect asks none p g len places b q =
      owned (record { index = P }) t room (get_or lengths P 0) (area_of P work) effect (Acts effect) p b
      (asks ∙ ap (λ (x : Node). rule_of (View'.Site (record { index = P })) x t (area_of P work)) (node_here t.node p g len places)) (weighs_acts P effect room (get_or lengths P 0) none) q

  module _ (t : Stand) (sits : Running t ≡ seat_at (area_of P work)) (r : OwnOf.Own) (does : Does t r) where
    stands_at : (G : Given bs nodes room n) (J : Sites) → P < n → Stands G J bytes lengths work → J P ≡ running (control_of t (area_of P work)) (book_of (J P))
    unfolding site_of
    stands_at G J inside st = st.sits P inside ∙ rw (← sits)

    does_own : (G : Given bs nodes room n) (J : Sites) → P < n → Stands G J bytes lengths work
        → let S : Setting = setting_of G.program room in
        let c : Control = control_of t (area_of P work) in
        own S P c (book_of (J P)) ≡ Owned.own_of S P c (book_of (J P)) r
    does_own G J inside st = does G.program G.sound G.count (st.tables P inside) (book_of (J P)) (stands_length G J J bytes lengths work st P inside)

    turns_by : (G : Given bs nodes room n) (J : Sites) → P < n → Stands G J bytes lengths work
        → let S : Setting = setting_of G.program room in
        let c : Control = control_of t (area_of P work) in
        turn S P J ≡ turn_own S P c (Owned.own_of S P c (book_of (J P)) r) J
    unfolding turn turn_at
    turns_by G J inside st =
        ap (λ (s : Site). turn_at (setting_of G.program room) P s J) (stands_at G J inside st)
        ∙ ap (λ (o : Own). turn_own (setting_of G.program room) P (control_of t (area_of P work)) o J) (does_own G J inside st)

    turn_acts : (effect : Effect) (at' bytes' lengths' work' : List ℕ) → r ≡ Acts effect → Alone r → ActsAlone (Ok effect) t P room is end at bytes lengths work at' bytes' lengths' work'
        → Turns bs nodes P n room is end true at bytes lengths work at' bytes' lengths' work'
    unfolding turn_own
    turn_acts effect at' bytes' lengths' work' q alone k =
        record {
          comes = λ G J inside st ins.
              let S : Setting = setting_of G.program room in
              let c : Control = control_of t (area_of P work) in
              let e : turn S P J ≡ counted (put P (acted S P c (book_of (J P)) effect) J) = turns_by G J inside st ∙ rw q in
              let z = k.comes bs nodes n G J (book_of (J P)) inside st ins (subst Alone q alone) (stands_at G J inside st) in
              rw e (z.0, z.1, refl);
        }

  -- it does what its rule asks for
  turn_asked : (t : Stand) → Running t ≡ seat_at (area_of P work) → (effect : Effect) → effect ≡ rule_at (View'.Site (record { index = P })) bs nodes t (area_of P work) → Unmet effect
      → (at' bytes' lengths' work' : List ℕ) → ActsAlone (Ok effect) t P room is end at bytes lengths work at' bytes' lengths' work'
      → Turns bs nodes P n room is end true at bytes lengths work at' bytes' lengths' work'
  turn_asked t sits effect asks none at' bytes' lengths' work' = turn_acts t sits (Acts effect) (does_asked t effect asks none) effect at' bytes' lengths' work' refl none

  -- at a node of a meeting
  module _ (t : Stand) (node : JointNode) (read : node ≡ joint_node (node_by bs nodes (area_of P work) t.node)) (r : OwnOf.Own)
      (owns : Owns node (record { index = P }) t room (get_or lengths P 0) r (area_of P work)) where
    does_joint : IsJoint node → Does t r
    does_joint joint p g len places b q = owns.comes p (read ∙ ap joint_node (node_here t.node p g len places)) joint b q

    pub joined_acts : (effect : Effect) (at' bytes' lengths' work' : List ℕ) → r ≡ Acts effect → ActsAlone (Ok effect) t P room is end at bytes lengths work at' bytes' lengths' work'
        → TurnsJoined bs nodes t P n room is end true at bytes lengths work at' bytes' lengths' work'
    joined_acts effect at' bytes' lengths' work' q k = record { comes = λ sits joint. turn_acts t sits r (does_joint (rw read joint)) effect at' bytes' lengths' work' q owns.alone k }

    pub joined_meets : (mt : Meeting) (o : Offer) (b : Bool) (bytes' lengths' work' : List ℕ) → r ≡ Attends mt o → Meets node t.node t.mode mt n room b bytes lengths work bytes' lengths' work'
        → TurnsJoined bs nodes t P n room is end b at bytes lengths work at bytes' lengths' work'
    unfolding turn_own control_of
    joined_meets mt o b bytes' lengths' work' q k =
        record {
          comes = λ sits joint. record {
            comes = λ G J inside st ins.
                let S : Setting = setting_of G.program room in
                let does : Does t r = does_joint (rw read joint) in
                let e : turn S P J ≡ meeting S t.node t.mode mt J = turns_by t sits r does G J inside st ∙ rw q in
                let own_is : own S P (control_of t (area_of P work)) (book_of (J P)) ≡ attends mt o = does_own t sits r does G J inside st ∙ rw q in
                let here : node ≡ joint_node (node_at G.program t.node) = read ∙ ap joint_node (node_here t.node G.program G.sound G.count (st.tables P inside)) in
                let z = k.comes bs nodes G J here (attends_at S P (control_of t (area_of P work)) (book_of (J P)) mt o own_is) st in
                rw e (z.0, meeting_inputs is end at n J ins S t.node t.mode mt, z.1);
          };
        }

-- a turn by which control just moves
pub turn_landed : (bs : List ℕ) (nodes P n room : ℕ) (is : List ℤ) (end at bytes lengths work : List ℕ) (t : Stand) → Running t ≡ seat_at (area_of P work)
    → (next : Next) (w1 : List ℕ) → Advances (View'.Site (record { index = P })) bs nodes t (Moved next) (area_of P work) w1
    → (u' : ℕ) (ys ws : List ℕ) → Lands next t.node (get_or lengths P 0) (row room P bytes) w1 u' ys ws → P < length at
    → P * row_size + row_size ≤ length work → length ws ≡ row_size → Turns bs nodes P n room is end true at bytes lengths work at (back room P bytes ys) (set lengths P u') (back row_size P work ws)
turn_landed bs nodes P n room is end at bytes lengths work t sits next w1 advances u' ys ws lands place long area =
    let m = step_lands bs nodes t (record { index = P }) (get_or lengths P 0) (row room P bytes) (area_of P work) w1 next u' ys ws advances lands in
    let input : Option ℤ = head_of (take (get_or end P 0 - get_or at P 0) (drop (get_or at P 0) is)) in
    turn_asked bs nodes P n room is end at bytes lengths work t sits (Goes m.0) m.1 tt at (back room P bytes ys) (set lengths P u') (back row_size P work ws)
    (alone_none (Ok (Goes m.0)) t P room is end at bytes lengths work input 0 u' ys ws place long area refl refl
    (acts_goes input t (record { index = P }) (get_or lengths P 0) (row room P bytes) (area_of P work) u' ys ws (Goes m.0) m.0 refl m.2) refl)

-- ---- among the rows

-- a row lent twice comes back as it was the second time
back_again : (size P : ℕ) (xs ys zs : List ℕ) → length ys ≡ size → P * size + size ≤ length xs → back size P (back size P xs ys) zs ≡ back size P xs zs
back_again size P xs ys zs len long =
    let a : ℕ = P * size in
    let k : ℕ = P * size + size - P * size in
    let rest : List ℕ = drop k (drop a xs) in
    let front : length (take a xs) ≡ a = length-take-le a xs (omega arith) in
    let before : take a (take a xs ++ (ys ++ rest)) ≡ take a xs = take_at (take a xs) (ys ++ rest) a front in
    let behind : drop a (take a xs ++ (ys ++ rest)) ≡ ys ++ rest = drop_at (take a xs) (ys ++ rest) a front in
    let last : drop k (ys ++ rest) ≡ rest = drop_at ys rest k (omega arith) in
    rw (before, behind, last)

-- where a move led on is kept already: it lands there all the same
lands_kept : (next : Next) (e u : ℕ) (xs x kept : List ℕ) (u' : ℕ) (xs' w' : List ℕ) → Kept true (onward (Moved next)) x kept → Lands next e u xs kept u' xs' w' → Lands next e u xs x u' xs' w'
unfolding next_of
lands_kept (On t) e u xs x kept u' xs' w' k l =
    let s : Saves (Running t) x kept = k.saves refl in
    record { lands = let y : Takes (land e (on (control_of t x))) u xs kept u' xs' w' = rw (s.levels t) at l.lands in record { took = y.took; table = y.table ∙ s.table } }
lands_kept (Ends v) e u xs x kept u' xs' w' k l = subst (λ (y : List ℕ). Lands (Ends v) e u xs y u' xs' w') k l
lands_kept Full e u xs x kept u' xs' w' k l = subst (λ (y : List ℕ). Lands Full e u xs y u' xs' w') k l

module _ (bs : List ℕ) (nodes P n room : ℕ) (is : List ℤ) (end at bytes lengths : List ℕ) where
  -- a turn by which control just moves
  pub turn_led : (t u : Stand) (w v : List ℕ) → P < length at → P * row_size + row_size ≤ length w → AmongRows P (LeadsOn true P bs nodes t u) w v
      → Turns bs nodes P n room is end true at bytes lengths w at bytes lengths v
  turn_led t u w v place long (ys, led, area, e) =
      let own : List ℕ = row room P bytes in
      let used : ℕ = get_or lengths P 0 in
      let lands : Lands (On u) led.stand.node used own led.between used own ys = lands_on led.stand.node used own led.between (On u) u ys refl (led.keeps.saves refl) in
      let k : Turns bs nodes P n room is end true at bytes lengths w at (back room P bytes own) (set lengths P used) (back row_size P w ys)
      = turn_landed bs nodes P n room is end at bytes lengths w led.stand led.sits (On u) led.between led.advances used own ys lands place long area in
      rw e (rw (back_same room P bytes, set-get_or lengths P 0) at k)

  module _ (work : List ℕ) where
    -- the site is over
    pub came_over : TurnsCame bs nodes None P n room is end false at bytes lengths work at bytes lengths work
    came_over =
        record {
          comes = λ t w long (ys, o, area, e).
              let same : work ≡ w = e ∙ ap (λ (x : List ℕ). back row_size P w x) o.1 ∙ back_same row_size P w in
              rw same (turn_over bs nodes P n room is end at bytes lengths w o.0);
        }

    module _ (did : Did) where
      -- control moved
      pub came_moved : (next : Next) (bytes' lengths' work' : List ℕ) → did.came ≡ Moved next → LandsRow next did.stand.node P room bytes lengths work bytes' lengths' work' → P < length at
          → TurnsCame bs nodes (Some did) P n room is end true at bytes lengths work at bytes' lengths' work'
      came_moved next bytes' lengths' work' q l place =
          record {
            comes = λ t w long (ys, d, area, e).
                let s : Stand = did.stand in
                let x : List ℕ = d.between in
                let advances : Advances (View'.Site (record { index = P })) bs nodes s (Moved next) (area_of P w) x
                = subst (λ (z : Advanced). Advances (View'.Site (record { index = P })) bs nodes s z (area_of P w) x) q d.advances in
                let own : area_of P work ≡ ys = rw e (row_own row_size P w ys area long) in
                let lands : Lands next s.node (get_or lengths P 0) (row room P bytes) x l.used l.own l.area
                = lands_kept next s.node (get_or lengths P 0) (row room P bytes) x ys l.used l.own l.area (subst (λ (z : Advanced). Kept true (onward z) x ys) q d.keeps) (rw own at l.lands) in
                let areas : work' ≡ back row_size P w l.area = l.areas ∙ rw e (back_again row_size P w ys l.area area long) in
                rw (l.records, l.counts, areas)
                (turn_landed bs nodes P n room is end at bytes lengths w s d.sits next x advances l.used l.own l.area lands place long l.long);
          }

      -- its rule asks for more than a move
      pub came_asked : (effect : Effect) (at' bytes' lengths' work' : List ℕ) → did.came ≡ Asks effect → ActsAlone (Ok effect) did.stand P room is end at bytes lengths work at' bytes' lengths' work'
          → TurnsCame bs nodes (Some did) P n room is end true at bytes lengths work at' bytes' lengths' work'
      came_asked effect at' bytes' lengths' work' q k =
          record {
            comes = λ t w long (ys, d, area, e).
                let a = d.advances.asks effect q in
                let none : ys ≡ d.between = subst (λ (z : Advanced). Kept true (onward z) d.between ys) q d.keeps in
                let same : work ≡ w = e ∙ ap (λ (x : List ℕ). back row_size P w x) (none ∙ a.2) ∙ back_same row_size P w in
                turn_asked bs nodes P n room is end at bytes lengths w did.stand d.sits effect a.0 a.3 at' bytes' lengths' work' (rw same at k);
          }

      -- it stands at a node of a meeting
      pub came_joined : (b : Bool) (at' bytes' lengths' work' : List ℕ) → did.came ≡ Joins → TurnsJoined bs nodes did.stand P n room is end b at bytes lengths work at' bytes' lengths' work'
          → TurnsCame bs nodes (Some did) P n room is end b at bytes lengths work at' bytes' lengths' work'
      came_joined b at' bytes' lengths' work' q k =
          record {
            comes = λ t w long (ys, d, area, e).
                let a = d.advances.joins q in
                let none : ys ≡ d.between = subst (λ (z : Advanced). Kept true (onward z) d.between ys) q d.keeps in
                let same : work ≡ w = e ∙ ap (λ (x : List ℕ). back row_size P w x) (none ∙ a.1) ∙ back_same row_size P w in
                let l : TurnsJoined bs nodes did.stand P n room is end b at bytes lengths w at' bytes' lengths' work' = rw same at k in
                l.comes d.sits a.0;
          }

-- what a turn came to fits
pub came_fits : (bs : List ℕ) (nodes P : ℕ) (came : Option Did) (t : Stand) (w x : List ℕ) → AmongRows P (InRow true P bs nodes t came) w x → Fits came
came_fits bs nodes P (Some did) t w x (ys, d, area, e) = λ effect q. (d.advances.asks effect q).1
came_fits bs nodes P None t w x h = tt
