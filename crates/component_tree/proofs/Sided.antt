-- Both sides: from the min tree of the turned values to the component tree of the values.
use Rattle.std.proofs.Common.{◌≡◌, ℕ, suc, ◌-◌, ◌<◌, ◌≤◌, inl, inr, refl, sym, ◌∙◌, subst, ap, arith, List, [], ◌∷◌, length, map, get_or}
use Rattle.std.specs.Prelude.{All}
use Rattle.std.proofs.lemmas.Bool.{cases_lt}
use Rattle.std.proofs.lemmas.List.{get_or_past}
use Rattle.hg_base.specs.Graph.{WeightedGraph}
use Rattle.edge_laws.specs.Edges.{EdgeList, AreWithin}
use Rattle.edge_laws.specs.Rank.{ranked}
use Rattle.component_tree.specs.declared.side.Side.{Side}
use Rattle.component_tree.specs.declared.side.Side.TheVariants.{Min, Max}
use Rattle.component_tree.specs.Components.{ComponentLists, IsComponentTree, level_of}
use Rattle.component_tree.specs.MinTree.{min_tree, turned, turned_back, value_at, component_tree_of}
use Rattle.component_tree.proofs.Unique.{only-one}
use Rattle.component_tree.proofs.Turning.{turned-tree, min-to_max, max-to_min}

-- a value fits 32 bits
pub value-fits : (values : List ℕ) → All (λ v. v ≤ 4294967295) values → (x : ℕ) → value_at values x ≤ 4294967295
value-fits values all x = elim (cases_lt x (length values)) [
  | inl lt ↦ all x 0 lt
  | inr past ↦ (let e = get_or_past values x 0 past in omega (arith, e))
]

min-same : (levels : List ℕ) → map (turned Min) levels ≡ levels
min-same [] = refl
min-same (l ∷ levels) = ap (λ (ls : List ℕ). l ∷ ls) (min-same levels)

lists : ℕ → List ℕ → List ℕ → ComponentLists
lists leaves parents levels = record { leaves = leaves; parents = parents; levels = levels }

min-back : (tree : ComponentLists) → turned_back Min tree ≡ tree
unfolding lists
min-back tree = ap (lists tree.leaves tree.parents) (min-same tree.levels)

max-twice : (levels : List ℕ) → ((i : ℕ) → i < length levels → get_or levels i 0 ≤ 4294967295) → map (turned Max) (map (turned Max) levels) ≡ levels
max-twice [] h = refl
max-twice (l ∷ levels) h =
    let e : 4294967295 - (4294967295 - l) ≡ l = (let f = h 0 (omega arith) in omega (arith, f)) in
    ap (λ (k : ℕ). k ∷ map (turned Max) (map (turned Max) levels)) e ∙ ap (λ (ls : List ℕ). l ∷ ls) (max-twice levels (λ i lt. h (suc i) (omega arith)))

max-back : (tree : ComponentLists) → ((i : ℕ) → i < length tree.levels → level_of tree i ≤ 4294967295) → turned_back Max (turned_back Max tree) ≡ tree
unfolding lists
max-back tree h = ap (lists tree.leaves tree.parents) (max-twice tree.levels h)

-- the tree of the turned values, with its levels turned back, is the component tree of the values
pub sided-tree : (side : Side) (values : List ℕ) (n : ℕ) (s : EdgeList) (tree : ComponentLists) → ((x : ℕ) → value_at values x ≤ 4294967295) →
    IsComponentTree Min (λ x. turned side (value_at values x)) n s tree → IsComponentTree side (value_at values) n s (turned_back side tree)
sided-tree Min values n s tree fits c = subst (IsComponentTree Min (value_at values) n s) (sym (min-back tree)) c
sided-tree Max values n s tree fits c =
    turned-tree Min Max (λ x. 4294967295 - value_at values x) (value_at values) n s tree (turned_back Max tree) (min-to_max (value_at values) tree fits) c

-- there is one component tree: that of the function
pub one-tree : (side : Side) (values : List ℕ) (g : WeightedGraph) (tree : ComponentLists) → AreWithin g.n (ranked g) → ((x : ℕ) → value_at values x ≤ 4294967295) →
    IsComponentTree side (value_at values) g.n (ranked g) tree → tree ≡ component_tree_of side values g
unfolding component_tree_of
one-tree Min values g tree w fits c = only-one (value_at values) g.n (ranked g) w tree c ∙ sym (min-back (min_tree (value_at values) g.n (ranked g)))
one-tree Max values g tree w fits c =
    sym (max-back tree low)
    ∙ ap (turned_back Max) (only-one (λ x. 4294967295 - value_at values x) g.n (ranked g) w (turned_back Max tree)
    (turned-tree Max Min (value_at values) (λ x. 4294967295 - value_at values x) g.n (ranked g) tree (turned_back Max tree) (max-to_min (value_at values) tree fits) c))
  where
    low : (i : ℕ) → i < length tree.levels → level_of tree i ≤ 4294967295
    low i lt = elim (cases_lt i g.n) [
      | inl leaf ↦ (let e = c.leaf_level i leaf in let f = fits i in omega (arith, e, f))
      | inr inner ↦ (let l = c.leaves in let o = c.one_level_each in
          let m = c.reached i (record { no_leaf = omega (arith, l, inner); within = omega (arith, o, lt) }) in
          let f = fits m.0 in omega (arith, f, m.1.1))
    ]

-- a turned value fits 32 bits too
pub turned-fits : (side : Side) (v : ℕ) → v ≤ 4294967295 → turned side v ≤ 4294967295
turned-fits Min v fits = fits
turned-fits Max v fits = omega arith
