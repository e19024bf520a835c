-- The labels that the passes give are those of the minima.
use Rattle.std.proofs.Common.{◌≡◌, ℕ, suc, ◌+◌, ◌<◌, ◌≤◌, Bool, true, false, ◌⊎◌, inl, inr, refl, sym, ◌∙◌, subst, ap, arith, List, [], ◌∷◌, ◌++◌, length, get_or, map, All}
use Rattle.std.specs.Prelude.{Option, Some, None, IfSome, ◌==◌, ◌&&◌}
use Rattle.std.specs.List.{range_with_len}
use Rattle.std.specs.Option.{is_some}
use Rattle.std.proofs.lemmas.Bool.{cases_Bool, cases_eq, both_ways, true≢false, false_from_ne_true, cond-true, cond-false, eq-eqb, ne_eqb}
use Rattle.std.proofs.lemmas.List.{get_or_default}
use Rattle.std.proofs.lemmas.List.FromFn.{get_or-map-range_with_len, map-range_with_len_more}
use Rattle.hg_base.specs.Graph.{WeightedGraph, first_end, second_end, weight}
use Rattle.edge_laws.specs.Edges.{ListedEdge, EdgeList, AreWithin}
use Rattle.hg_base.specs.Lists.{IsIn}
use Rattle.hg_base.specs.Counting.{count_below, is_least}
use Rattle.hg_base.specs.Labels.{least_of}
use Rattle.hg_base.specs.Numbering.{is_one_key, has_key, same_key, key_label, is_class_head as is_key_head}
use Rattle.edge_laws.specs.Rank.{number_at, ranked}
use Rattle.tree_laws.specs.Tree.{ParentTree, parent, altitude, graph_tree}
use Rattle.tree_laws.specs.Levels.{IsLevelTree}
use Rattle.hg_base.proofs.Counts.{count_below-agree}
use Rattle.tree_laws.proofs.Climbs.{above-within}
use Rattle.hg_base.proofs.Leasts.{least_of-agree, least_of-most, map-agree}
use Rattle.tree_laws.proofs.Levels.{level-tree}
use Rattle.edge_laws.proofs.Ranked.{ranked-at, AreApart-ranked, AreByWeight-ranked, IsIn-ranked}
use Rattle.edge_laws.proofs.Ranks.{number_at-below}
use Rattle.partition_tree.specs.TreeLists.{IsWellFormed}
use Rattle.partition_tree.proofs.WellFormed.{well_formed-climbs}
use Rattle.partition_tree.proofs.TreeLemmas.{tree-rises}
use Rattle.watershed_cut.specs.MinimumTests.{is_minimum, in_minimum, same_minimum, is_head, minimum_count, vertex_label, edge_label}
use Rattle.watershed_cut.specs.MinimumLabels.{numbered, minima_of}
use Rattle.watershed_cut.specs.Plateaus.{ArePlateauKeys, HasTwoEnds, level_label, level_labels}
use Rattle.watershed_cut.proofs.MinimumWalks.{minimum-to, minimum-from, in_minimum-to, minimum-next}
use Rattle.watershed_cut.proofs.PlateauLaws.{IsLevelled, leaf-node, minimum-leaf}
use Rattle.watershed_cut.proofs.PlateauKeys.{key-member, key-same}

-- one more edge has its label
pub level_labels_more : (g : WeightedGraph) (t : ParentTree) (vertices : List ℕ) (e label : ℕ) (labels new : List ℕ) → ((f : ℕ) → f < e → HasTwoEnds g f) → labels ≡ map (level_label g t vertices) (range_with_len 0 e) →
    HasTwoEnds g e → label ≡ level_label g t vertices e → new ≡ labels ++ label ∷ [] → ((f : ℕ) → f < e + 1 → HasTwoEnds g f) × (new ≡ map (level_label g t vertices) (range_with_len 0 (e + 1)))
level_labels_more g t vertices e label labels new ends so_far own is pushed = (
  λ f h. elim (cases_eq f e) [
    | inl same ↦ subst (HasTwoEnds g) (sym same) own
    | inr other ↦ ends f (grind (arith, h, other))
  ],
  pushed
      ∙ ap (λ (xs : List ℕ). xs ++ label ∷ []) so_far
      ∙ ap (λ (x : ℕ). map (level_label g t vertices) (range_with_len 0 e) ++ x ∷ []) is
      ∙ sym (map-range_with_len_more (level_label g t vertices) 0 e e (omega arith)),
)

-- each edge of the ranked list has a number
pub ranked-ends : (g : WeightedGraph) → ((e : ℕ) → e < length g.edges → HasTwoEnds g e) → (e : ListedEdge) → IsIn e (ranked g) → (f : ℕ) × (HasTwoEnds g f × ((e.u ≡ first_end g f) × (e.v ≡ second_end g f)))
ranked-ends g ends e i =
    let at = ranked-at g e i in
    let low : e.rank < length g.edges = at.0 in
    let f = number_at g e.rank in
    (f, (ends f (number_at-below g e.rank (omega arith)), (ap (λ (x : ListedEdge). x.u) at.1, ap (λ (x : ListedEdge). x.v) at.1)))

-- altitudes don't fall in the tree of a graph
pub graph-rise : (g : WeightedGraph) (t : ParentTree) → t ≡ graph_tree g → (i : ℕ) → i < length t.parents → altitude t i ≤ altitude t (parent t i)
graph-rise g t same =
    subst (λ (u : ParentTree). (i : ℕ) → i < length u.parents → altitude u i ≤ altitude u (parent u i)) (sym same) (tree-rises g.n (ranked g) (AreApart-ranked g) (AreByWeight-ranked g))

-- the tree of a graph tells the levels of its edges
pub graph-levelled : (g : WeightedGraph) (t : ParentTree) → t ≡ graph_tree g → IsWellFormed t → ((e : ℕ) → e < length g.edges → HasTwoEnds g e) → IsLevelled t (ranked g)
graph-levelled g t same f ends =
    let leaves : t.leaves ≡ g.n = ap (λ (u : ParentTree). u.leaves) same in
    let within : AreWithin g.n (ranked g) = λ e i. (let r = ranked-ends g ends e i in
    (let h : first_end g r.0 < g.n = r.1.0.first in omega (arith, h, r.1.1.0), let h : second_end g r.0 < g.n = r.1.0.second in omega (arith, h, r.1.1.1))) in record {
      well_formed = f;
      rise = graph-rise g t same;
      levels = subst (λ (u : ParentTree). IsLevelTree u (ranked g)) (sym same) (level-tree g.n (ranked g) (AreApart-ranked g) within (AreByWeight-ranked g));
      first = λ e i. omega (arith, leaves, (within e i).0);
      second = λ e i. omega (arith, leaves, (within e i).1);
      apart = λ e i one. (let r = ranked-ends g ends e i in r.1.0.apart (sym r.1.1.0 ∙ one ∙ r.1.1.1));
    }

-- tests of keys that say who is in which minimum
pub record SayMinima (n : ℕ) (s : EdgeList) (keys : List (Option ℕ)) : Type 0 where
  pub member : (x : ℕ) → x < n → has_key keys x ≡ in_minimum n s x
  pub same : (x y : ℕ) → x < n → y < n → same_key keys x y ≡ same_minimum n s x y

-- a key is one with itself
one_self : (o : Option ℕ) → is_some o ≡ true → is_one_key o o ≡ true
one_self None h = absurd (true≢false (sym h))
one_self (Some j) h = eq-eqb j j refl

-- their heads are those of the minima
heads-same : (n : ℕ) (s : EdgeList) (keys : List (Option ℕ)) → SayMinima n s keys → (x : ℕ) → x < n → is_key_head keys x ≡ is_head n s x
heads-same n s keys k x h =
    ap (λ (b : Bool). b && is_least (same_key keys) x) (k.member x h)
    ∙ ap (λ (m : ℕ). in_minimum n s x && (m == 0)) (count_below-agree (same_key keys x) (same_minimum n s x) x (λ y l. k.same x y h (omega arith)))

-- and so are their labels
label-same : (n : ℕ) (s : EdgeList) (keys : List (Option ℕ)) → SayMinima n s keys → (x : ℕ) → x < n → key_label keys x ≡ vertex_label n s x
label-same n s keys k x h = elim (cases_Bool (has_key keys x)) [
  | inl has ↦
      let self : same_key keys x x ≡ true = self_key has in
      let least : least_of (same_key keys) x ≡ least_of (same_minimum n s) x = least_of-agree (same_key keys) (same_minimum n s) x x self (sym (k.same x x h h) ∙ self) (λ z l. k.same x z h (up_to z l)) in
      let most : least_of (same_key keys) x ≤ x = least_of-most (same_key keys) x self in
      cond-true (has_key keys x) _ _ has
      ∙ ap (λ (m : ℕ). suc m) (count_below-agree (is_key_head keys) (is_head n s) (least_of (same_key keys) x) (λ y l. heads-same n s keys k y (omega arith)))
      ∙ ap (λ (m : ℕ). suc (count_below (is_head n s) m)) least
      ∙ sym (cond-true (in_minimum n s x) _ _ (sym (k.member x h) ∙ has))
  | inr none' ↦ cond-false (has_key keys x) _ _ none' ∙ sym (cond-false (in_minimum n s x) _ _ (sym (k.member x h) ∙ none'))
]
  where
    self_key : has_key keys x ≡ true → same_key keys x x ≡ true
    self_key has = one_self (get_or keys x None) has

    up_to : (z : ℕ) → (z ≤ x) ⊎ (z ≤ x) → z < n
    up_to z (inl l) = omega arith
    up_to z (inr l) = omega arith

-- the label of an edge is that of its first end at the edge's own level
edge-same : (g : WeightedGraph) (t : ParentTree) → IsLevelled t (ranked g) → t.leaves ≡ g.n → (vertices : List ℕ) → vertices ≡ (minima_of g).vertices → ((e : ℕ) → e < length g.edges → HasTwoEnds g e) →
    (e : ℕ) → e < length g.edges → level_label g t vertices e ≡ edge_label g.n (ranked g) (numbered g e)
edge-same g t l leaves vertices are ends e h = elim (cases_Bool (is_minimum s own)) [
  | inl least ↦
      let f = minimum-leaf t s l own u (minimum-to s own i least) (inl refl) in
      cond-true (altitude t (parent t u) == weight g e) _ _ (eq-eqb (altitude t (parent t u)) (weight g e) f.level) ∙ label ∙ sym (cond-true (is_minimum s own) _ _ least)
  | inr no' ↦
      elim (cases_eq (altitude t (parent t u)) (weight g e)) as (λ _. level_label g t vertices e ≡ edge_label g.n s own) [
        | inl level ↦ cond-true (altitude t (parent t u) == weight g e) _ _ (eq-eqb (altitude t (parent t u)) (weight g e) level) ∙ label ∙ cond-false (in_minimum g.n s u) _ _ (outside no' level)
            ∙ sym (cond-false (is_minimum s own) _ _ no')
        | inr other ↦ cond-false (altitude t (parent t u) == weight g e) _ _ (ne_eqb (altitude t (parent t u)) (weight g e) other) ∙ sym (cond-false (is_minimum s own) _ _ no')
      ]
]
  where
    s : EdgeList
    s = ranked g

    own : ListedEdge
    own = numbered g e

    u : ℕ
    u = first_end g e

    i : IsIn own s
    i = IsIn-ranked g e h

    label : get_or vertices u 0 ≡ vertex_label g.n s u
    label = ap (λ (xs : List ℕ). get_or xs u 0) are ∙ get_or-map-range_with_len (vertex_label g.n s) 0 g.n u u 0 (ends e h).first (omega arith)

    outside : is_minimum s own ≡ false → altitude t (parent t u) ≡ weight g e → in_minimum g.n s u ≡ false
    outside no' level = false_from_ne_true (in_minimum g.n s u) (λ m. elim (in_minimum-to g.n s u m).either [
      | inl none' ↦ none' own i (inl refl)
      | inr f ↦
          let leaf = minimum-leaf t s l f.0 u f.1.0 f.1.1 in
          both_ways _ no' (minimum-from s own (minimum-next s f.0 own u f.1.0 f.1.1 i (sym level ∙ leaf.level) (inl refl)))
    ])

-- what the passes give
pub minima-made : (g : WeightedGraph) (t : ParentTree) (keys slice : List (Option ℕ)) (count : ℕ) (vertices part edges : List ℕ) → t ≡ graph_tree g → IsWellFormed t → ArePlateauKeys t t.leaves keys → slice ≡ keys →
    ((e : ℕ) → e < length g.edges → HasTwoEnds g e) → vertices ≡ map (key_label slice) (range_with_len 0 (length slice)) → count ≡ count_below (is_key_head slice) (length slice) →
    part ≡ vertices → edges ≡ level_labels g t part → record { count = count; vertices = vertices; edges = edges } ≡ minima_of g
minima-made g t keys slice count vertices part edges same f k whole ends are many one labels =
    ap (λ (m : ℕ). record { count = m; vertices = vertices; edges = edges }) counted
    ∙ ap (λ (xs : List ℕ). record { count = minimum_count g.n (ranked g); vertices = xs; edges = edges }) labelled
    ∙ ap (λ (xs : List ℕ). record { count = minimum_count g.n (ranked g); vertices = (minima_of g).vertices; edges = xs }) edged
  where
    s : EdgeList
    s = ranked g

    leaves : t.leaves ≡ g.n
    leaves = ap (λ (u : ParentTree). u.leaves) same

    l : IsLevelled t s
    l = graph-levelled g t same f ends

    say : SayMinima g.n s keys
    say = subst (λ (n : ℕ). SayMinima n s keys) leaves (record { member = key-member t s l keys k; same = key-same t s l keys k })

    long : length slice ≡ g.n
    long = ap (λ (xs : List (Option ℕ)). length xs) whole ∙ k.one_each ∙ leaves

    counted : count ≡ minimum_count g.n s
    counted = many ∙ ap (λ (xs : List (Option ℕ)). count_below (is_key_head xs) (length slice)) whole ∙ ap (count_below (is_key_head keys)) long ∙ count_below-agree (is_key_head keys) (is_head g.n s) g.n (heads-same g.n s keys say)

    labelled : vertices ≡ (minima_of g).vertices
    labelled =
        are
        ∙ ap (λ (xs : List (Option ℕ)). map (key_label xs) (range_with_len 0 (length slice))) whole
        ∙ ap (λ (n : ℕ). map (key_label keys) (range_with_len 0 n)) long
        ∙ map-agree (key_label keys) (vertex_label g.n s) 0 g.n (λ x low h. label-same g.n s keys say x (omega arith))

    edged : edges ≡ (minima_of g).edges
    edged =
        labels
        ∙ map-agree (level_label g t part) (λ e. edge_label g.n s (numbered g e)) 0 (length g.edges)
        (λ e low h. edge-same g t l leaves part (one ∙ labelled) ends e (omega arith))

-- each key is below the number of nodes
pub keys-below : (t : ParentTree) (n : ℕ) (keys slice : List (Option ℕ)) → IsWellFormed t → ArePlateauKeys t t.leaves keys → slice ≡ keys → n ≡ length t.parents → All (λ (key : Option ℕ). IfSome key (λ k. k < n)) slice
keys-below t n keys slice f k same all =
    subst (λ (xs : List (Option ℕ)). All (λ (key : Option ℕ). IfSome key (λ j. j < n)) xs) (sym same) (subst (λ (b : ℕ). All (λ (key : Option ℕ). IfSome key (λ j. j < b)) keys) (sym all) each)
  where
    each : All (λ (key : Option ℕ). IfSome key (λ j. j < length t.parents)) keys
    each x d h =
        let long = k.one_each in
        let hx : x < t.leaves = omega arith in
        let key = k.each x hx in
        let c = well_formed-climbs t f in
        subst (λ (o : Option ℕ). IfSome o (λ j. j < length t.parents)) (sym (get_or_default keys x d None h)) (elim key.1.1 [
          | inl own ↦ subst (λ (o : Option ℕ). IfSome o (λ j. j < length t.parents)) (sym own.0) (above-within t c key.0 (parent t x) (c.within x (leaf-node t f x hx)) key.1.0.above)
          | inr none' ↦ subst (λ (o : Option ℕ). IfSome o (λ j. j < length t.parents)) (sym none'.0) tt
        ])
