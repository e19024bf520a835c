-- The lists that the passes build are those of the component tree.
use Rattle.std.proofs.Common.{◌≡◌, ℕ, zero, suc, ◌+◌, ◌<◌, ◌≤◌, refl, sym, ◌∙◌, subst, ap, arith, List, [], ◌∷◌, ◌++◌, length, length-append, map, get_or}
use Rattle.std.specs.List.{range_with_len}
use Rattle.std.proofs.lemmas.Bool.{lt-ltb, le-ltb}
use Rattle.std.proofs.lemmas.Simd.{map-map}
use Rattle.std.proofs.lemmas.List.{map-append, length-map, get_or-map, get_or-append-add}
use Rattle.std.proofs.lemmas.List.FromFn.{length-map-range_with_len, get_or-map-range_with_len}
use Rattle.hg_base.specs.Graph.{WeightedGraph, IsGraph}
use Rattle.edge_laws.specs.Edges.{EdgeList, AreWithin}
use Rattle.edge_laws.specs.Rank.{ranked}
use Rattle.tree_laws.specs.Tree.{ParentTree, tree_of}
use Rattle.hg_base.proofs.Leasts.{map-agree}
use Rattle.edge_laws.proofs.Ranked.{AreApart-ranked, AreByWeight-ranked, AreWithin-ranked}
use Rattle.tree_laws.proofs.Levels.{level-tree}
use Rattle.partition_tree.specs.TreeLists.{IsWellFormed}
use Rattle.component_tree.specs.declared.side.Side.{Side}
use Rattle.component_tree.specs.declared.side.Side.TheVariants.{Min, Max}
use Rattle.component_tree.specs.declared.nodes.Component.{Component}
use Rattle.component_tree.specs.Components.{ComponentLists, IsComponentTree}
use Rattle.component_tree.specs.MinTree.{turned, turned_back, value_at, component_tree_of}
use Rattle.component_tree.specs.Weighed.{weighed_graph}
use Rattle.component_tree.specs.NodeComponents.{level_in, levels_in, component_at, AreLeasts, AreComponents, ArePlaces, parent_of_leaf, component_parent, HasLeaves, AreGreaterEnds, AreFloodEdges, IsTurnedTree}
use Rattle.component_tree.proofs.Flooded.{flooded-tree}
use Rattle.component_tree.proofs.MinTreeOfLists.{built-tree}
use Rattle.component_tree.proofs.WeighedEnds.{greater-ends, weighed-ends, ends-weighed, within-ends, ends-tree}
use Rattle.component_tree.proofs.Sided.{sided-tree, one-tree, value-fits}
use Rattle.component_tree.specs.Values.{AreValues}
use Rattle.partition_tree.proofs.WellFormed.{well_formed-leaves}

abbrev pub lists : ℕ → List ℕ → List ℕ → ComponentLists
lists leaves parents levels = record { leaves = leaves; parents = parents; levels = levels }

-- what stands in two lists put together
front-of : (xs ys : List ℕ) (i : ℕ) → i < length xs → get_or (xs ++ ys) i 0 ≡ get_or xs i 0
front-of [] ys i lt = absurd (omega arith)
front-of (x ∷ xs) ys zero lt = refl
front-of (x ∷ xs) ys (suc i) lt = front-of xs ys i (omega arith)

front-at : (g : ℕ → ℕ) (n i : ℕ) (ys : List ℕ) → i < n → get_or (map g (range_with_len 0 n) ++ ys) i 0 ≡ g i
front-at g n i ys lt =
    front-of (map g (range_with_len 0 n)) ys i (let l = length-map-range_with_len g 0 n in omega (arith, l, lt))
    ∙ get_or-map-range_with_len g 0 n i i 0 lt (omega arith)

back-at : (g : ℕ → ℕ) (n k : ℕ) (h : Component → ℕ) (list : List Component) → k < length list → get_or (map g (range_with_len 0 n) ++ map h list) (n + k) 0 ≡ h (component_at list k)
back-at g n k h list lt =
    ap (λ (m : ℕ). get_or (map g (range_with_len 0 n) ++ map h list) (m + k) 0) (sym (length-map-range_with_len g 0 n))
    ∙ get_or-append-add (map g (range_with_len 0 n)) (map h list) k 0
    ∙ get_or-map h list k (record { level = 0; least = 0; node = 0 }) 0 lt

both-long : (g : ℕ → ℕ) (n : ℕ) (h : Component → ℕ) (list : List Component) → length (map g (range_with_len 0 n) ++ map h list) ≡ n + length list
both-long g n h list =
    length-append (map g (range_with_len 0 n)) (map h list)
    ∙ (let a = length-map-range_with_len g 0 n in let b = length-map list h in omega (arith, a, b))

turned-twice : (side : Side) (v : ℕ) → v ≤ 4294967295 → turned side (turned side v) ≡ v
turned-twice Min v fits = refl
turned-twice Max v fits = omega (arith, fits)

module _ (side : Side) (values : List ℕ) (t : ParentTree) (s : EdgeList) (levels leasts : List ℕ) (list : List Component) (places : List ℕ) where
  abbrev pub f : ℕ → ℕ
  f x = turned side (value_at values x)

  -- the tree before its levels are turned back
  abbrev pub min : ComponentLists
  min = record {
    leaves = t.leaves;
    parents = map (parent_of_leaf t places) (range_with_len 0 t.leaves) ++ map (component_parent t places) list;
    levels = map f (range_with_len 0 t.leaves) ++ map (λ (c : Component). c.level) list;
  }

  pub min-is : IsWellFormed t → t.leaves ≤ length t.parents → levels ≡ levels_in side values t → AreLeasts t leasts → AreComponents t levels leasts list → ArePlaces t levels list places →
      AreFloodEdges f t.leaves s → t ≡ tree_of t.leaves s → IsComponentTree Min f t.leaves s min
  min-is forest few are l c p e same = built-tree t f s levels leasts list places min (record {
    flood = flooded-tree f t s levels forest e same
        (λ x h. level-at x (omega arith) ∙ rw (lt-ltb x t.leaves h) refl)
        (λ i low h. level-at i h ∙ rw (le-ltb i t.leaves low) refl);
    leasts_are = l;
    components = c;
    places_are = p;
    leaves = refl;
    parents_long = both-long (parent_of_leaf t places) t.leaves (component_parent t places) list;
    levels_long = both-long f t.leaves (λ (x : Component). x.level) list;
    leaf_level = λ x h. front-at f t.leaves x (map (λ (y : Component). y.level) list) h;
    node_level = λ k h. back-at f t.leaves k (λ (y : Component). y.level) list h;
    leaf_parent = λ x h. front-at (parent_of_leaf t places) t.leaves x (map (component_parent t places) list) h;
    node_parent = λ k h. back-at (parent_of_leaf t places) t.leaves k (component_parent t places) list h;
  })
    where
      level-at : (i : ℕ) → i < length t.parents → get_or levels i 0 ≡ level_in side values t i
      level-at i h = ap (λ (ls : List ℕ). get_or ls i 0) are ∙ get_or-map-range_with_len (level_in side values t) 0 (length t.parents) i i 0 h (omega arith)

  -- turned back, they are the values of the leaves and the levels of the components
  pub min-turned : ((x : ℕ) → value_at values x ≤ 4294967295) → (parents out : List ℕ) → parents ≡ map (parent_of_leaf t places) (range_with_len 0 t.leaves) ++ map (component_parent t places) list →
      out ≡ map (value_at values) (range_with_len 0 t.leaves) ++ map (λ (c : Component). turned side c.level) list → lists t.leaves parents out ≡ turned_back side min
  min-turned fits parents out up is =
      ap (λ (p : List ℕ). lists t.leaves p out) up
      ∙ ap (lists t.leaves (map (parent_of_leaf t places) (range_with_len 0 t.leaves) ++ map (component_parent t places) list))
      (is
      ∙ ap (λ (x : List ℕ). x ++ map (λ (c : Component). turned side c.level) list)
      (map-agree (value_at values) (λ x. turned side (f x)) 0 t.leaves (λ x a b. sym (turned-twice side (value_at values x) (fits x))) ∙ sym (map-map (turned side) f (range_with_len 0 t.leaves)))
      ∙ ap (λ (x : List ℕ). map (turned side) (map f (range_with_len 0 t.leaves)) ++ x) (sym (map-map (turned side) (λ (c : Component). c.level) list))
      ∙ sym (map-append (turned side) (map f (range_with_len 0 t.leaves)) (map (λ (c : Component). c.level) list)))

-- the edges of a weighed graph are those of a flood
pub weighed-flood : (side : Side) (values : List ℕ) (w g : WeightedGraph) → w ≡ weighed_graph side values g → ((x : ℕ) → value_at values x ≤ 4294967295) → IsGraph w →
    AreFloodEdges (λ x. turned side (value_at values x)) w.n (ranked w)
weighed-flood side values w g e fits is = record {
  apart = AreApart-ranked w;
  within = AreWithin-ranked w is;
  by_weight = AreByWeight-ranked w;
  weights = subst (λ (u : WeightedGraph). AreGreaterEnds (λ x. turned side (value_at values x)) (ranked u)) (sym e) (greater-ends side values g fits);
}

-- a turned tree of the weighed graph is the component tree of the graph
pub turned-components : (side : Side) (values : List ℕ) (w g : WeightedGraph) (tree : ComponentLists) → w ≡ weighed_graph side values g → ((x : ℕ) → value_at values x ≤ 4294967295) →
    IsTurnedTree side values w.n (ranked w) tree → IsComponentTree side (value_at values) g.n (ranked g) tree
turned-components side values w g tree e fits t =
    subst (IsComponentTree side (value_at values) g.n (ranked g)) (sym t.turned)
    (sided-tree side values g.n (ranked g) t.min fits
    (ends-tree (λ x. turned side (value_at values x)) g.n (ranked (weighed_graph side values g)) (ranked g) t.min (weighed-ends side values g) (ends-weighed side values g)
    (subst (λ (u : WeightedGraph). IsComponentTree Min (λ x. turned side (value_at values x)) u.n (ranked u) t.min) e t.is)))

pub turned-function : (side : Side) (values : List ℕ) (w g : WeightedGraph) (tree : ComponentLists) → w ≡ weighed_graph side values g → ((x : ℕ) → value_at values x ≤ 4294967295) → IsGraph w →
    IsTurnedTree side values w.n (ranked w) tree → tree ≡ component_tree_of side values g
turned-function side values w g tree e fits is t =
    one-tree side values g tree
    (within-ends g.n (ranked (weighed_graph side values g)) (ranked g) (ends-weighed side values g) (subst (λ (u : WeightedGraph). AreWithin u.n (ranked u)) e (AreWithin-ranked w is))) fits
    (turned-components side values w g tree e fits t)

-- each node of the tree of a flood is above a leaf
pub flood-leaves : (f : ℕ → ℕ) (n : ℕ) (s : EdgeList) → AreFloodEdges f n s → HasLeaves (tree_of n s)
flood-leaves f n s e i h = (level-tree n s e.apart e.within e.by_weight).some_leaf i h

-- the parents of the leaves, and those of the components behind them
pub parents-whole : (t : ParentTree) (places d e : List ℕ) (list l : List Component) (first whole : List ℕ) → d ≡ places → e ≡ places → l ≡ list →
    first ≡ map (parent_of_leaf t d) (range_with_len 0 t.leaves) → whole ≡ first ++ map (component_parent t e) l →
    whole ≡ map (parent_of_leaf t places) (range_with_len 0 t.leaves) ++ map (component_parent t places) list
parents-whole t places d e list l first whole dp ep ll front all =
    all
    ∙ ap (λ (x : List ℕ). x ++ map (component_parent t e) l) (front ∙ ap (λ (x : List ℕ). map (parent_of_leaf t x) (range_with_len 0 t.leaves)) dp)
    ∙ ap (λ (x : List ℕ). map (parent_of_leaf t places) (range_with_len 0 t.leaves) ++ map (component_parent t x) l) ep
    ∙ ap (λ (x : List Component). map (parent_of_leaf t places) (range_with_len 0 t.leaves) ++ map (component_parent t places) x) ll

-- the levels of the leaves, and those of the components behind them
pub levels-whole : (side : Side) (values : List ℕ) (n : ℕ) (list l : List Component) (first whole : List ℕ) → l ≡ list → first ≡ map (value_at values) (range_with_len 0 n) →
    whole ≡ first ++ map (λ (c : Component). turned side c.level) l → whole ≡ map (value_at values) (range_with_len 0 n) ++ map (λ (c : Component). turned side c.level) list
levels-whole side values n list l first whole ll front all =
    all
    ∙ ap (λ (x : List ℕ). x ++ map (λ (c : Component). turned side c.level) l) front
    ∙ ap (λ (x : List Component). map (value_at values) (range_with_len 0 n) ++ map (λ (c : Component). turned side c.level) x) ll

-- not too many
pub parents-few : (t : ParentTree) (levels leasts places : List ℕ) (list : List Component) (whole : List ℕ) → IsWellFormed t → AreComponents t levels leasts list →
    whole ≡ map (parent_of_leaf t places) (range_with_len 0 t.leaves) ++ map (component_parent t places) list → length whole ≤ 4194304
parents-few t levels leasts places list whole forest c e =
    let l = both-long (parent_of_leaf t places) t.leaves (component_parent t places) list in
    let w = ap (λ (x : List ℕ). length x) e in
    let few = c.few in
    let leaves = forest.few_leaves in
    omega (arith, l, w, few, leaves)

-- what is built is the tree of the turned values, with its levels turned back
pub finished : (side : Side) (values : List ℕ) (t : ParentTree) (s : EdgeList) (levels leasts : List ℕ) (list : List Component) (places parents out : List ℕ) (leaves : ℕ) (tree : ComponentLists) →
    AreValues values → IsWellFormed t → levels ≡ levels_in side values t → AreLeasts t leasts → AreComponents t levels leasts list → ArePlaces t levels list places →
    parents ≡ map (parent_of_leaf t places) (range_with_len 0 t.leaves) ++ map (component_parent t places) list →
    out ≡ map (value_at values) (range_with_len 0 t.leaves) ++ map (λ (c : Component). turned side c.level) list →
    leaves ≡ t.leaves → tree ≡ lists leaves parents out →
    AreFloodEdges (λ x. turned side (value_at values x)) t.leaves s → t ≡ tree_of t.leaves s → IsTurnedTree side values t.leaves s tree
finished side values t s levels leasts list places parents out leaves tree fits forest are l c p up os ls made e same = record {
  min = min side values t s levels leasts list places;
  is = min-is side values t s levels leasts list places forest (well_formed-leaves t forest) are l c p e same;
  turned = made ∙ ap (λ (n : ℕ). lists n parents out) ls ∙ min-turned side values t s levels leasts list places (value-fits values fits.each) parents out up os;
}
