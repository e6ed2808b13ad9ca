-- Reading a program's bytes: at a place of the program, and of the bytes from a place on. Assumes nothing.
use mathlib.Core.Path.{◌≡◌, refl, sym, ap, ◌∙◌}
use mathlib.Core.List.{List, [], ◌∷◌}
use Prim.Native.Nat.{ℕ, zero, suc, ◌+◌, ◌/◌, ◌%◌, ◌^◌, ◌≤◌, ◌<◌}
use native.Mathlib.Nat.{add_assoc, add-zero}
use native.Mathlib.Omega.{arith}
use lib.ListN.{length, get_or, drop, get_or-eq_default}
use lib.Seq.{get_or-drop}
use Rattle.words.specs.Words.{number_at, Spells}
use Rattle.words.proofs.WordLaws.{number_same}
use Rattle.words.proofs.SpellLaws.{spelled_number}
use Rattle.nodes.specs.Nodes.{node_of, node_in, joint_node}
use Rattle.nodes.specs.declared.Node.TheVariants.{READ, SHARE, REVEAL}
use Rattle.nodes.specs.declared.JointNode.TheVariants.{Neither}
use Rattle.nodes.specs.RangeLaws.{past, every, NoneOf}

pub number_drop : (k a : ℕ) (p : List ℕ) (i : ℕ) → number_at k (drop a p) i ≡ number_at k p (a + i)
number_drop k a p i = number_same k (drop a p) i p (a + i) (λ l h. get_or-drop a p (i + l) 0 ∙ rw (add_assoc a i l))

-- no byte past the end
pub number_past : (k : ℕ) (p : List ℕ) (i : ℕ) → length p ≤ i → number_at k p i ≡ 0
unfolding number_at
number_past zero p i h = refl
number_past (suc k) p i h = rw (get_or-eq_default p 0 h, number_past k p (i + 1) (omega arith))

-- nor a second one where the first is the last
pub number_last : (p : List ℕ) (i : ℕ) → length p ≤ i + 1 → number_at 2 p i ≡ get_or p i 0
unfolding number_at
number_last p i h = omega (arith, number_past 1 p (i + 1) h)

-- the node at a place, by the number that its six bytes spell
module _ (p : List ℕ) (at w : ℕ) (s : Spells 6 p at w) where
  pub body_number : (k j : ℕ) → j + k ≤ 5 → w / 256 ^ suc j % 256 ^ k ≡ number_at k (drop (at + 1) p) j
  body_number k j h =
      let e : at + 1 + j ≡ at + suc j = omega arith in
      spelled_number k 6 p at w (suc j) s (omega arith) ∙ sym (number_drop k (at + 1) p j ∙ ap (λ (i : ℕ). number_at k p i) e)

  pub body_byte : (j : ℕ) → j < 5 → w / 256 ^ suc j % 256 ≡ get_or (drop (at + 1) p) j 0
  body_byte j h =
      let e : at + 1 + j ≡ at + suc j = omega arith in
      s (suc j) (omega arith) ∙ sym (get_or-drop (at + 1) p j 0 ∙ ap (λ (i : ℕ). get_or p i 0) e)

  module _ {b : ℕ} (kind : b ≡ w / 1 % 256) where
    pub kind_is : (k : ℕ) → b ≡ k → node_of k (drop (at + 1) p) ≡ node_in p at
    unfolding node_in
    kind_is k e = let first : w / 1 % 256 ≡ get_or p at 0 = rw add-zero at (s 0 (omega arith)) in ap (λ (j : ℕ). node_of j (drop (at + 1) p)) (sym e ∙ kind ∙ first)

    -- the two nodes that `joint_node_at` reads too
    pub share_in : b ≡ 8 → SHARE (record { index = w / 256 % 256 }) (record { bits = w / 65536 % 65536 }) (record { index = w / 4294967296 % 256 }) ≡ node_in p at
    unfolding node_of
    share_in e = rw (body_byte 0 (omega arith), body_number 2 1 (omega arith), body_byte 3 (omega arith)) (kind_is 8 e)

    pub reveal_in : b ≡ 9 → REVEAL (record { bits = w / 256 % 65536 }) (record { index = w / 16777216 % 256 }) ≡ node_in p at
    unfolding node_of
    reveal_in e = rw (body_number 2 0 (omega arith), body_byte 2 (omega arith)) (kind_is 9 e)

-- the kinds that no arm of `node_at` has are READ's, or no node's
abbrev Others : ℕ → Type 0
Others k = NoneOf (13 ∷ 12 ∷ 11 ∷ 10 ∷ 9 ∷ 8 ∷ 7 ∷ 6 ∷ 4 ∷ 3 ∷ 2 ∷ 1 ∷ []) k

pub other_read : (k : ℕ) (b : List ℕ) → Others k → READ ≡ node_of k b
unfolding node_of
other_read k b =
    every (λ (j : ℕ). Others j → READ ≡ node_of j b) 4
    (λ n. refl, (λ n. absurd (n.0.0.0.0.0.0.0.0.0.0.0.1 refl), (λ n. absurd (n.0.0.0.0.0.0.0.0.0.0.1 refl), (λ n. absurd (n.0.0.0.0.0.0.0.0.0.1 refl), tt))))
    (every (λ (j : ℕ). Others (past 4 j) → READ ≡ node_of (past 4 j) b) 4
    (λ n. absurd (n.0.0.0.0.0.0.0.0.1 refl), (λ n. refl, (λ n. absurd (n.0.0.0.0.0.0.0.1 refl), (λ n. absurd (n.0.0.0.0.0.0.1 refl), tt))))
    (every (λ (j : ℕ). Others (past 8 j) → READ ≡ node_of (past 8 j) b) 6
    (λ n. absurd (n.0.0.0.0.0.1 refl), (λ n. absurd (n.0.0.0.0.1 refl), (λ n. absurd (n.0.0.0.1 refl), (λ n. absurd (n.0.0.1 refl), (λ n. absurd (n.0.1 refl), (λ n. absurd (n.1 refl), tt))))))
    (λ m n. refl)))
    k

-- and those that no arm of `joint_node_at` has are no joint node's
pub other_neither : (k : ℕ) (b : List ℕ) → NoneOf (9 ∷ 8 ∷ []) k → Neither ≡ joint_node (node_of k b)
unfolding node_of joint_node
other_neither k b =
    every (λ (j : ℕ). NoneOf (9 ∷ 8 ∷ []) j → Neither ≡ joint_node (node_of j b)) 14
    (λ n. refl, (λ n. refl, (λ n. refl, (λ n. refl, (λ n. refl, (λ n. refl, (λ n. refl, (λ n. refl, (λ n. absurd (n.0.1 refl), (λ n. absurd (n.1 refl), (λ n. refl, (λ n. refl, (λ n. refl, (λ n. refl, tt))))))))))))))
    (λ m n. refl)
    k
