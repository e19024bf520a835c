-- The lists of a small tree.
use Rattle.std.proofs.Common.{◌≡◌, ℕ, zero, suc, ◌<◌, ◌≤◌, refl, arith, [], ◌∷◌}
use Rattle.tree_laws.specs.Tree.{parent, altitude}
use Rattle.partition_tree.specs.TreeLists.{IsWellFormed, lists_of}

-- two leaves and a root
pub small-forest : IsWellFormed (lists_of 2 (2 ∷ 2 ∷ 2 ∷ []) (0 ∷ 0 ∷ 7 ∷ []) (5 ∷ []))
small-forest = record {
  some_leaf = omega arith;
  few_leaves = omega arith;
  small = omega arith;
  one_altitude_each = refl;
  one_maker_each = refl;
  rises = λ i lt. up i lt;
  within = λ i lt. inside i lt;
  inner = λ i lt ne. leads_up i lt;
  low_leaves = λ i lt. low i lt;
}
  where
    up : (i : ℕ) → i < 3 → i ≤ parent (lists_of 2 (2 ∷ 2 ∷ 2 ∷ []) (0 ∷ 0 ∷ 7 ∷ []) (5 ∷ [])) i
    up zero lt = omega arith
    up (suc zero) lt = omega arith
    up (suc (suc zero)) lt = omega arith
    up (suc (suc (suc i))) lt = absurd (omega arith)

    inside : (i : ℕ) → i < 3 → parent (lists_of 2 (2 ∷ 2 ∷ 2 ∷ []) (0 ∷ 0 ∷ 7 ∷ []) (5 ∷ [])) i < 3
    inside zero lt = omega arith
    inside (suc zero) lt = omega arith
    inside (suc (suc zero)) lt = omega arith
    inside (suc (suc (suc i))) lt = absurd (omega arith)

    leads_up : (i : ℕ) → i < 3 → 2 ≤ parent (lists_of 2 (2 ∷ 2 ∷ 2 ∷ []) (0 ∷ 0 ∷ 7 ∷ []) (5 ∷ [])) i
    leads_up zero lt = omega arith
    leads_up (suc zero) lt = omega arith
    leads_up (suc (suc zero)) lt = omega arith
    leads_up (suc (suc (suc i))) lt = absurd (omega arith)

    low : (i : ℕ) → i < 2 → altitude (lists_of 2 (2 ∷ 2 ∷ 2 ∷ []) (0 ∷ 0 ∷ 7 ∷ []) (5 ∷ [])) i ≡ 0
    low zero lt = refl
    low (suc zero) lt = refl
    low (suc (suc i)) lt = absurd (omega arith)
