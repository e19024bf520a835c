-- The labels of the trees: each vertex has the label of the one minimum to which forest and minimum edges join it.
use Rattle.std.proofs.Common.{◌≡◌, ℕ, suc, ◌<◌, ◌≤◌, Bool, true, false, cond, inl, inr, refl, sym, ◌∙◌, subst, ap, arith, List, [], ◌∷◌, length}
use Rattle.std.specs.Prelude.{◌↔◌, ◌==◌, ◌&&◌, Option, Some, None, filter, find, unwrap_or}
use Rattle.std.specs.List.{range_with_len}
use Rattle.std.specs.Option.{is_some}
use Rattle.std.proofs.lemmas.Bool.{cases_Bool, cases_order, both_ways, and_parts, and_from, false_from_ne_true, true≢false, eqb-true, eq-eqb, cond-true, not-true, not_from_false, ne_eqb, eqb-false}
use Rattle.hg_base.specs.Graph.{WeightedGraph, IsGraph, first_end, second_end}
use Rattle.edge_laws.specs.Edges.{ListedEdge, EdgeList, AreApart, AreWithin, Joined, joined}
use Rattle.hg_base.specs.Lists.{IsIn}
use Rattle.hg_base.specs.Counting.{count_below}
use Rattle.hg_base.specs.Labels.{IsLabel, least_of}
use Rattle.edge_laws.specs.Rank.{ranked}
use Rattle.hg_base.proofs.Lists.{IsIn-append, IsIn-filter, IsIn-kept}
use Rattle.hg_base.proofs.CountMore.{count_below-step}
use Rattle.hg_base.proofs.Counts.{is_least-from}
use Rattle.edge_laws.proofs.Drops.{holds}
use Rattle.hg_base.proofs.Leasts.{first_of, least_of-is, least_of-most, least_of-agree}
use Rattle.edge_laws.proofs.Ranked.{AreApart-ranked, AreWithin-ranked, ends-within}
use Rattle.edge_laws.proofs.Sets.{same_test, joined-among}
use Rattle.edge_laws.proofs.Walks.{IsSame-joined, Joined-joined}
use Rattle.watershed_cut.specs.Minima.{InMinimum, SameMinimum}
use Rattle.watershed_cut.specs.MinimumTests.{minimum_edges, in_minimum, same_minimum, is_head, minimum_count, vertex_label}
use Rattle.watershed_cut.specs.Forest.{is_forest, trees, IsForestList}
use Rattle.watershed_cut.specs.Watershed.{reaches_label, tree_label, is_cut_edge}
use Rattle.partition_tree.proofs.ListTests.{any-from, any-to, range-to, range-from}
use Rattle.watershed_cut.proofs.ForestLaws.{forest-reach, forest-one}
use Rattle.watershed_cut.proofs.ForestWalks.{label-zero}
use Rattle.watershed_cut.proofs.MinimumWalks.{in_minimum-to, in_minimum-from, same_minimum-to, same_minimum-from}

-- the parts of the test of two vertices in one minimum
same-parts : (n : ℕ) (s : EdgeList) (x y : ℕ) → same_minimum n s x y ≡ true → (in_minimum n s x ≡ true) × ((in_minimum n s y ≡ true) × (joined (minimum_edges s) x y ≡ true))
same-parts n s x y h = let p = and_parts (in_minimum n s x) (in_minimum n s y && joined (minimum_edges s) x y) h in (p.0, and_parts (in_minimum n s y) (joined (minimum_edges s) x y) p.1)

same-from : (n : ℕ) (s : EdgeList) (x y : ℕ) → in_minimum n s x ≡ true → in_minimum n s y ≡ true → joined (minimum_edges s) x y ≡ true → same_minimum n s x y ≡ true
same-from n s x y px py j = and_from _ _ px (and_from _ _ py j)

pub same-self : (n : ℕ) (s : EdgeList) (x : ℕ) → in_minimum n s x ≡ true → same_minimum n s x x ≡ true
same-self n s x p = same-from n s x x p p ((IsSame-joined (minimum_edges s)).self x)

pub same-back : (n : ℕ) (s : EdgeList) (x y : ℕ) → same_minimum n s x y ≡ true → same_minimum n s y x ≡ true
same-back n s x y h = let p = same-parts n s x y h in same-from n s y x p.1.0 p.0 ((IsSame-joined (minimum_edges s)).back x y p.1.1)

pub same-on : (n : ℕ) (s : EdgeList) (x y z : ℕ) → same_minimum n s x y ≡ true → same_minimum n s y z ≡ true → same_minimum n s x z ≡ true
same-on n s x y z h k = let p = same-parts n s x y h in let q = same-parts n s y z k in same-from n s x z p.0 q.1.0 ((IsSame-joined (minimum_edges s)).on x y z p.1.1 q.1.1)

-- the label of a vertex in a minimum
label-of : (n : ℕ) (s : EdgeList) (x : ℕ) → in_minimum n s x ≡ true → vertex_label n s x ≡ suc (count_below (is_head n s) (least_of (same_minimum n s) x))
label-of n s x p = cond-true (in_minimum n s x) _ _ p

-- vertices of one minimum have one label
pub label-equal : (n : ℕ) (s : EdgeList) (x y : ℕ) → same_minimum n s x y ≡ true → vertex_label n s x ≡ vertex_label n s y
label-equal n s x y h =
    let p = same-parts n s x y h in
    let rows : (z : ℕ) → same_minimum n s x z ≡ same_minimum n s y z = λ z. same_test (same_minimum n s x z) (same_minimum n s y z) (λ k. same-on n s y x z (same-back n s x y h) k) (λ k. same-on n s x y z h k) in
    label-of n s x p.0
    ∙ ap (λ (m : ℕ). suc (count_below (is_head n s) m)) (least_of-agree (same_minimum n s) (same_minimum n s) x y (same-self n s x p.0) (same-self n s y p.1.0) (λ z l. rows z))
    ∙ sym (label-of n s y p.1.0)

-- the least vertex of a minimum is its head
head-of : (n : ℕ) (s : EdgeList) (x : ℕ) → in_minimum n s x ≡ true → is_head n s (least_of (same_minimum n s) x) ≡ true
head-of n s x p =
    let r = same_minimum n s in
    let l = least_of-is r x (same-self n s x p) in
    let h = least_of r x in
    and_from _ _ (same-parts n s x h l.member).1.0
    (is_least-from r h (λ y low. false_from_ne_true (r h y) (λ j. both_ways _ (l.least y low) (same-on n s x h y l.member j))))

-- vertices in minima with one label are in one minimum
pub label-same : (n : ℕ) (s : EdgeList) (x y : ℕ) → in_minimum n s x ≡ true → in_minimum n s y ≡ true → vertex_label n s x ≡ vertex_label n s y → same_minimum n s x y ≡ true
label-same n s x y px py e =
    let a = least_of-is r x (same-self n s x px) in
    let b = least_of-is r y (same-self n s y py) in
    same-on n s x (least_of r x) y a.member (same-back n s y (least_of r x) (subst (λ (z : ℕ). r y z ≡ true) (sym one) b.member))
  where
    r : ℕ → ℕ → Bool
    r = same_minimum n s

    counts : count_below (is_head n s) (least_of r x) ≡ count_below (is_head n s) (least_of r y)
    counts = let u = label-of n s x px in let v = label-of n s y py in omega (arith, u, v, e)

    one : least_of r x ≡ least_of r y
    one = elim (cases_order (least_of r x) (least_of r y)) [
      | inl level ↦ level
      | inr other ↦ elim other [
        | inl low ↦ absurd (let m = count_below-step (is_head n s) (least_of r x) (least_of r y) low (head-of n s x px) in omega (arith, m, counts))
        | inr high ↦ absurd (let m = count_below-step (is_head n s) (least_of r y) (least_of r x) high (head-of n s y py) in omega (arith, m, counts))
      ]
    ]

-- two vertices in minima have one label exactly where they are in one minimum
pub label-one : (n : ℕ) (s : EdgeList) (x y : ℕ) → InMinimum n s x → InMinimum n s y → (vertex_label n s x ≡ vertex_label n s y) ↔ SameMinimum n s x y
label-one n s x y mx my = (
  λ e. same_minimum-to n s x y (label-same n s x y (in_minimum-from n s x mx) (in_minimum-from n s y my) e),
  λ one. label-equal n s x y (same_minimum-from n s x y one),
)

-- a label is from 1 to the number of minima
pub label-range : (n : ℕ) (s : EdgeList) (x : ℕ) → in_minimum n s x ≡ true → IsLabel (minimum_count n s) (vertex_label n s x)
label-range n s x p =
    let e = label-of n s x p in
    let most : least_of (same_minimum n s) x ≤ x = least_of-most (same_minimum n s) x (same-self n s x p) in
    let hx : x < n = (in_minimum-to n s x p).vertex in
    let less = count_below-step (is_head n s) (least_of (same_minimum n s) x) n (omega arith) (head-of n s x p) in
    record { positive = omega (arith, e); most = omega (arith, e, less) }

-- a label that isn't 0 is that of a vertex in a minimum
label-positive : (n : ℕ) (s : EdgeList) (x : ℕ) → 1 ≤ vertex_label n s x → in_minimum n s x ≡ true
label-positive n s x h = elim (cases_Bool (in_minimum n s x)) [
  | inl member ↦ member
  | inr no' ↦ absurd (let z = (label-zero n s x).1 (λ m. both_ways _ no' (in_minimum-from n s x m)) in omega (arith, z, h))
]

-- what is found is in the list
find-in : (p : ℕ → Bool) (xs : List ℕ) (y : ℕ) → find p xs ≡ Some y → IsIn y xs
find-in p [] y h = absurd (None-Some y h)
  where
    None-Some : (z : ℕ) → None ≡ Some z → ⊥
    None-Some z e = true≢false (sym (ap is_some e))
find-in p (x ∷ xs) y h = elim (cases_Bool (p x)) [
  | inl here ↦ inl (same_Some x y (sym (ap (λ (b : Bool). cond b (Some x) (find p xs)) here) ∙ h))
  | inr off ↦ inr (find-in p xs y (sym (ap (λ (b : Bool). cond b (Some x) (find p xs)) off) ∙ h))
]
  where
    same_Some : (a b : ℕ) → Some a ≡ Some b → a ≡ b
    same_Some a b e = ap (λ (o : Option ℕ). unwrap_or o 0) e

-- the edges that pass a test have different ranks too
AreApart-filter : (p : ListedEdge → Bool) (s : EdgeList) → AreApart s → AreApart (filter p s)
AreApart-filter p [] h = tt
AreApart-filter p (e ∷ s) h = elim (p e) as (λ b. AreApart (cond b (e ∷ filter p s) (filter p s))) [
  | true ↦ (λ f i. h.0 f (IsIn-kept p f s i).1, AreApart-filter p s h.1)
  | false ↦ AreApart-filter p s h.1
]

-- the forest edges of a list
pub own-forest : (n : ℕ) (s : EdgeList) → AreApart s → IsForestList n s (filter (is_forest n s) s)
own-forest n s h = record {
  apart = AreApart-filter (is_forest n s) s h;
  forest = λ e i. (let p = IsIn-kept (is_forest n s) e s i in (p.1, p.0));
  all = λ e i f. IsIn-filter (is_forest n s) e s f i;
}

-- the label of a tree is that of the minimum in it
pub tree-label : (n : ℕ) (s : EdgeList) → AreApart s → AreWithin n s → (x y : ℕ) → InMinimum n s y → joined (trees n s) x y ≡ true → tree_label n s x ≡ vertex_label n s y
tree-label n s apart within x y my j =
    let py = in_minimum-from n s y my in
    let range = label-range n s y py in
    let positive : 1 ≤ vertex_label n s y = range.positive in
    let most : vertex_label n s y ≤ minimum_count n s = range.most in
    let passes : reaches_label n s x (vertex_label n s y) ≡ true =
    any-from (λ z. joined (trees n s) x z && (vertex_label n s z == vertex_label n s y)) y (range_with_len 0 n) (range-from 0 n y (omega arith) (let hy = my.vertex in omega arith))
    (and_from _ _ j (eq-eqb (vertex_label n s y) (vertex_label n s y) refl)) in
    let f = first_of (reaches_label n s x) 1 (minimum_count n s) (vertex_label n s y) positive (omega arith) passes in
    let low : 1 ≤ f.at = (range-to 1 (minimum_count n s) f.at (find-in (reaches_label n s x) (range_with_len 1 (minimum_count n s)) f.at f.found)).0 in
    let z = any-to (λ z'. joined (trees n s) x z' && (vertex_label n s z' == f.at)) (range_with_len 0 n) f.passes in
    let p = and_parts (joined (trees n s) x z.0) (vertex_label n s z.0 == f.at) z.1.1 in
    let level : vertex_label n s z.0 ≡ f.at = eqb-true (vertex_label n s z.0) f.at p.1 in
    let pz : in_minimum n s z.0 ≡ true = label-positive n s z.0 (omega arith) in
    let t = IsSame-joined (trees n s) in
    let one = forest-one n s (filter (is_forest n s) s) within (own-forest n s apart) z.0 y (in_minimum-to n s z.0 pz) my (Joined-joined (trees n s) z.0 y (t.on z.0 x y (t.back x z.0 p.0) j)) in
    ap (λ (o : Option ℕ). unwrap_or o 0) f.found ∙ sym level ∙ label-equal n s z.0 y (same_minimum-from n s z.0 y one)

-- there is a minimum in each tree
pub record IsRoot (n : ℕ) (s : EdgeList) (x y : ℕ) : Type 0 where
  pub member : InMinimum n s y
  pub on : joined (trees n s) x y ≡ true
  pub label : tree_label n s x ≡ vertex_label n s y

pub root-found : (n : ℕ) (s : EdgeList) → AreApart s → AreWithin n s → (x : ℕ) → x < n → (y : ℕ) × IsRoot n s x y
root-found n s apart within x hx =
    let y = forest-reach n s (filter (is_forest n s) s) within (own-forest n s apart) x hx in
    let j = holds (trees n s) x y.0 y.1.1 in
    (y.0, record { member = y.1.0; on = j; label = tree-label n s apart within x y.0 y.1.0 j })

-- so no label is 0
pub tree-label_range : (n : ℕ) (s : EdgeList) → AreApart s → AreWithin n s → (x : ℕ) → x < n → IsLabel (minimum_count n s) (tree_label n s x)
tree-label_range n s apart within x hx =
    let y = root-found n s apart within x hx in
    subst (IsLabel (minimum_count n s)) (sym y.1.label) (label-range n s y.0 (in_minimum-from n s y.0 y.1.member))

-- and two vertices have one label exactly where they are in one tree
pub tree-label_same : (n : ℕ) (s : EdgeList) → AreApart s → AreWithin n s → (x y : ℕ) → x < n → y < n → (tree_label n s x ≡ tree_label n s y) ↔ Joined (trees n s) x y
tree-label_same n s apart within x y hx hy =
    let a = root-found n s apart within x hx in
    let b = root-found n s apart within y hy in
    let t = IsSame-joined (trees n s) in (
      λ e.
          let same = label-same n s a.0 b.0 (in_minimum-from n s a.0 a.1.member) (in_minimum-from n s b.0 b.1.member) (sym a.1.label ∙ e ∙ b.1.label) in
          let over : joined (trees n s) a.0 b.0 ≡ true = joined-among (minimum_edges s) (trees n s) a.0 b.0 (λ f i. IsIn-append f (filter (is_forest n s) s) (minimum_edges s) (inr i)) (same-parts n s a.0 b.0 same).1.1 in
          Joined-joined (trees n s) x y (t.on x a.0 y a.1.on (t.on a.0 b.0 y over (t.back y b.0 b.1.on))),
      λ j. tree-label n s apart within x b.0 b.1.member (t.on x y b.0 (holds (trees n s) x y j) b.1.on) ∙ sym b.1.label,
    )

-- the laws by walks
pub tree-label_walk : (n : ℕ) (s : EdgeList) → AreApart s → AreWithin n s → (x y : ℕ) → InMinimum n s y → Joined (trees n s) x y → tree_label n s x ≡ vertex_label n s y
tree-label_walk n s apart within x y my j = tree-label n s apart within x y my (holds (trees n s) x y j)

-- the cut edges lead from tree to tree
pub cut-between : (g : WeightedGraph) → IsGraph g → (e : ℕ) → e < length g.edges → (is_cut_edge g e ≡ true) ↔ (¬ Joined (trees g.n (ranked g)) (first_end g e) (second_end g e))
cut-between g h e lt =
    let s = ranked g in
    let ends = ends-within g h e lt in
    let a = tree_label g.n s (first_end g e) in
    let b = tree_label g.n s (second_end g e) in
    let same = tree-label_same g.n s (AreApart-ranked g) (AreWithin-ranked g h) (first_end g e) (second_end g e) ends.0 ends.1 in (
      λ c j. eqb-false a b (not-true (a == b) c) (same.1 j),
      λ no'. not_from_false (a == b) (ne_eqb a b (λ q. no' (same.0 q))),
    )
