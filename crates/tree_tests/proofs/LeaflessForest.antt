-- A small tree of which an inner node is above no leaf.
use Rattle.std.proofs.Common.{◌≡◌, ℕ, zero, suc, ◌<◌, refl, arith, [], ◌∷◌}
use Rattle.tree_laws.specs.Tree.{parent, altitude}
use Rattle.partition_tree.specs.TreeLists.{IsWellFormed, lists_of}

-- two leaves, a root, and a child of it without leaves
pub leafless-tree : IsWellFormed (lists_of 2 (3 ∷ 3 ∷ 3 ∷ 3 ∷ []) (0 ∷ 0 ∷ 0 ∷ 5 ∷ []) (0 ∷ 1 ∷ []))
leafless-tree = record {
  some_leaf = omega arith;
  few_leaves = omega arith;
  small = omega arith;
  one_altitude_each = refl;
  one_maker_each = refl;
  rises = λ i lt. (let p : parent (lists_of 2 (3 ∷ 3 ∷ 3 ∷ 3 ∷ []) (0 ∷ 0 ∷ 0 ∷ 5 ∷ []) (0 ∷ 1 ∷ [])) i ≡ 3 = root i lt in omega arith);
  within = λ i lt. (let p : parent (lists_of 2 (3 ∷ 3 ∷ 3 ∷ 3 ∷ []) (0 ∷ 0 ∷ 0 ∷ 5 ∷ []) (0 ∷ 1 ∷ [])) i ≡ 3 = root i lt in omega arith);
  inner = λ i lt ne. (let p : parent (lists_of 2 (3 ∷ 3 ∷ 3 ∷ 3 ∷ []) (0 ∷ 0 ∷ 0 ∷ 5 ∷ []) (0 ∷ 1 ∷ [])) i ≡ 3 = root i lt in omega arith);
  low_leaves = λ i lt. low i lt;
}
  where
    root : (i : ℕ) → i < 4 → parent (lists_of 2 (3 ∷ 3 ∷ 3 ∷ 3 ∷ []) (0 ∷ 0 ∷ 0 ∷ 5 ∷ []) (0 ∷ 1 ∷ [])) i ≡ 3
    root zero lt = refl
    root (suc zero) lt = refl
    root (suc (suc zero)) lt = refl
    root (suc (suc (suc zero))) lt = refl
    root (suc (suc (suc (suc i)))) lt = absurd (omega arith)

    low : (i : ℕ) → i < 2 → altitude (lists_of 2 (3 ∷ 3 ∷ 3 ∷ 3 ∷ []) (0 ∷ 0 ∷ 0 ∷ 5 ∷ []) (0 ∷ 1 ∷ [])) i ≡ 0
    low zero lt = refl
    low (suc zero) lt = refl
    low (suc (suc i)) lt = absurd (omega arith)
