-- What the rule asks for where the loop over moves was left. Assumes nothing.
use mathlib.Core.Path.{◌≡◌, sym, ap, ◌∙◌, subst}
use mathlib.Core.List.{List, [], ◌∷◌}
use Prim.Native.Nat.{ℕ}
use denote.Enum.{Declared.tag_of}
use types.Run.{OneOf, miss}
use Rattle.nodes.specs.Nodes.{joint_node}
use Rattle.nodes.specs.declared.JointNode.{JointNode}
use Rattle.rules.specs.declared.effects.View.TheVariants.{Whole}
use Rattle.rules.specs.declared.effects.Effect.{Effect}
use Rattle.area.specs.Levels.{names_at}
use Rattle.area.specs.declared.stand.Stand.{Stand}
use Rattle.table.specs.Table.{node_by}
use Rattle.lookup.specs.Lookup.{joint_rule}
use Rattle.lookup.proofs.JointLaws.{joint_rule_lem}
use Rattle.advance.specs.Advances.{Asked}
use Rattle.advance.specs.declared.Advanced.{Advanced}
use Rattle.advance.specs.declared.Advanced.TheVariants.{Moved, Asks, Joins}
use Rattle.advance.specs.contracts.Advanced.{the_type}
use Rattle.advance.proofs.AdvanceLaws.{joint_asked}
use Rattle.single_step.specs.Steps.{NoMove, EffectOf}

pub no_move : (y : Advanced) → OneOf (1 ∷ 2 ∷ []) (tag_of the_type y) → NoMove y
no_move (Moved next) h = miss (1 ∷ 2 ∷ []) 0 tt h
no_move (Asks effect) h = tt
no_move Joins h = tt

module _ (bs : List ℕ) (nodes : ℕ) (y : Advanced) (t : Stand) (w : List ℕ) where
  pub effect_asks : (effect : Effect) → y ≡ Asks effect → EffectOf bs nodes y t effect w
  effect_asks effect e = record { asks = λ v a h. let (is, asked, same, _) = a.asks effect e in (is, asked, same) }

  pub effect_joins : (node : JointNode) (r : Effect) → y ≡ Joins → node ≡ joint_node (node_by bs nodes w t.node) → r ≡ joint_rule Whole node t.mode (names_at w t.depth.frames)
      → EffectOf bs nodes y t r w
  effect_joins node r e read q =
      let at : List ℕ → JointNode → Effect = λ x j. joint_rule Whole j t.mode (names_at x t.depth.frames) in
      let here : List ℕ → JointNode = λ x. joint_node (node_by bs nodes x t.node) in
      record {
        asks = λ v a h.
            let (joint, same) = a.joins e in
            let is : r ≡ at v (here v) = q ∙ ap (at w) read ∙ ap (λ (x : List ℕ). at x (here x)) same in (
              is ∙ joint_rule_lem Whole (node_by bs nodes v t.node) t.mode (names_at v t.depth.frames) joint,
              subst Asked (sym is) (joint_asked Whole (here v) t.mode (names_at v t.depth.frames)),
              same,
            );
      }
