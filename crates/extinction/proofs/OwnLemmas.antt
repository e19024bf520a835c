-- The passes that find the lowest nodes that hold minima, and what each node holds of its own.
use Rattle.std.proofs.Common.{◌≡◌, ◌≢◌, ℕ, zero, suc, ◌+◌, ◌-◌, ◌<◌, ◌≤◌, Bool, true, false, ◌⊎◌, inl, inr, refl, sym, ◌∙◌, ap, subst, arith, List, length, get_or, set, replicate}
use Rattle.std.specs.Prelude.{find, unwrap_or, Option, Some}
use Rattle.std.proofs.lemmas.Bool.{cases_eq, both_ways, false_from_ne_true}
use Rattle.std.proofs.lemmas.List.{get_or-set_same, get_or-set_other, length-set, length-replicate}
use Rattle.hg_base.specs.Graph.{WeightedGraph, IsGraph}
use Rattle.hg_base.specs.Counting.{count_below}
use Rattle.hg_base.specs.Labels.{IsLabel}
use Rattle.edge_laws.specs.Rank.{ranked}
use Rattle.tree_laws.specs.Tree.{ParentTree, parent, ancestor, IsAbove, graph_tree}
use Rattle.tree_laws.proofs.Climbs.{above-within}
use Rattle.partition_tree.specs.Children.{is_child, child_count, IsChildAt}
use Rattle.partition_tree.proofs.ChildLemmas.{child-is, count-less}
use Rattle.watershed_cut.specs.MinimumLabels.{LabelledMinima, minima_of}
use Rattle.watershed_cut.specs.MinimumTests.{minimum_count}
use Rattle.extinction.specs.Values.{AreOfMinima}
use Rattle.extinction.specs.Holding.{holds_minimum, holds, child_holds}
use Rattle.extinction.specs.NodeSurvivors.{node_label, AreLowest, AreOwnLabels}
use Rattle.extinction.proofs.SideLemmas.{child-found}
use Rattle.extinction.proofs.TreeFacts.{IsOfGraph, of-graph, inner-two}
use Rattle.extinction.proofs.HoldLemmas.{holds_minimum-from, holds_minimum-to, find-none, found-in, child_holds-from}
use Rattle.extinction.proofs.LowestHolders.{IsBottom, bottom-label, bottom-one, bottom-same, over-bottom}
use Rattle.extinction.proofs.NodeLabels.{vertex-read, bottom-labelled, last-bottom}
use Rattle.extinction.proofs.LevelZero.{bottom-holds}
use Rattle.partition_tree.proofs.ListTests.{range-to}
use Rattle.hg_base.proofs.Leasts.{first_of}
use Rattle.std.specs.List.{range_with_len}

-- for each label, less 1, that was met before node i: the last node that had it
pub record AreLowestTo (t : ParentTree) (m : LabelledMinima) (i : ℕ) (lowest : List ℕ) : Type 0 where
  pub one_each : length lowest ≡ m.count
  pub each : (k j : ℕ) → k < m.count → j < i → node_label t m j ≡ suc k → (j ≤ get_or lowest k 0) × ((get_or lowest k 0 < i) × (node_label t m (get_or lowest k 0) ≡ suc k))

pub lowest-first : (t : ParentTree) (m : LabelledMinima) (lowest : List ℕ) → length lowest ≡ m.count → AreLowestTo t m 0 lowest
lowest-first t m lowest long = record { one_each = long; each = λ k j hk low e. absurd (omega arith) }

pub lowest-same : (t : ParentTree) (m : LabelledMinima) (i : ℕ) (lowest : List ℕ) → node_label t m i ≡ 0 → AreLowestTo t m i lowest → AreLowestTo t m (i + 1) lowest
lowest-same t m i lowest none' a = record {
  one_each = a.one_each;
  each = λ k j hk low e.
      let other : j ≢ i = λ same. (let own = ap (node_label t m) same in omega arith) in
      let r = a.each k j hk (grind (arith, low, other)) e in
      (r.0, (omega (arith, r.1.0), r.1.1));
}

pub lowest-more : (t : ParentTree) (m : LabelledMinima) (i label : ℕ) (lowest new : List ℕ) → label ≡ node_label t m i → label ≢ 0 → label ≤ m.count → AreLowestTo t m i lowest → new ≡ set lowest (label - 1) i → AreLowestTo t m (i + 1) new
lowest-more t m i label lowest new own some' most a made = record {
  one_each = ap length made ∙ length-set lowest (label - 1) i ∙ a.one_each;
  each = λ k j hk low e. elim (cases_eq (label - 1) k) [
    | inl same ↦
        let read : get_or new k 0 ≡ i = ap (λ (z : ℕ). get_or new z 0) (sym same) ∙ ap (λ (xs : List ℕ). get_or xs (label - 1) 0) made ∙ get_or-set_same lowest (label - 1) i 0 (let long : length lowest ≡ m.count = a.one_each in omega arith) in
        (omega arith, (omega arith, ap (node_label t m) read ∙ sym own ∙ omega arith))
    | inr off ↦
        let other : j ≢ i = λ level. off (let its = ap (node_label t m) level in omega arith) in
        let read : get_or new k 0 ≡ get_or lowest k 0 = ap (λ (xs : List ℕ). get_or xs k 0) made ∙ get_or-set_other lowest (label - 1) k i 0 (λ same. off (sym same)) in
        let r = a.each k j hk (grind (arith, low, other)) e in
        (omega (arith, read, r.0), (omega (arith, read, r.1.0), ap (node_label t m) read ∙ r.1.1))
  ];
}

-- so at the end for each label
pub lowest-all : (g : WeightedGraph) → IsGraph g → (i : ℕ) (lowest : List ℕ) → i ≡ length (graph_tree g).parents → AreLowestTo (graph_tree g) (minima_of g) i lowest → AreLowest (graph_tree g) (minima_of g) lowest
lowest-all g h i lowest end a = record {
  one_each = a.one_each;
  each = λ k hk.
      let is : IsLabel (minimum_count g.n (ranked g)) (suc k) = record { positive = omega arith; most = omega arith } in
      let q = bottom-label g h (suc k) is in
      let node : q.0 < length (graph_tree g).parents = q.1.node in
      let r = a.each k q.0 hk (omega arith) (bottom-labelled g h (suc k) q.0 (omega arith) q.1) in
      record {
        node = (let low = r.1.0 in omega arith);
        labelled = r.1.1;
        last = λ j hj e. (a.each k j hk (omega arith) e).0;
      };
}

-- the labels below k are at their lowest nodes, and nothing is anywhere else
pub record AreOwnTo (t : ParentTree) (lowest : List ℕ) (k : ℕ) (own : List ℕ) : Type 0 where
  pub one_each : length own ≡ length t.parents
  pub sound : (i : ℕ) → (get_or own i 0 ≡ 0) ⊎ ((j : ℕ) × ((j < k) × ((get_or lowest j 0 ≡ i) × (get_or own i 0 ≡ suc j))))
  pub complete : (j : ℕ) → j < k → get_or own (get_or lowest j 0) 0 ≢ 0

pub own-first : (t : ParentTree) (lowest : List ℕ) (n : ℕ) (own : List ℕ) → n ≡ length t.parents → own ≡ replicate n 0 → AreOwnTo t lowest 0 own
own-first t lowest n own long made = record {
  one_each = ap length made ∙ length-replicate n 0 ∙ long;
  sound = λ i. inl (ap (λ (xs : List ℕ). get_or xs i 0) made ∙ copies 0 n i);
  complete = λ j low. absurd (omega arith);
}
  where
    copies : (c n i : ℕ) → get_or (replicate n c) i c ≡ c
    copies c zero i = refl
    copies c (suc n) zero = refl
    copies c (suc n) (suc i) = copies c n i

pub own-more : (t : ParentTree) (lowest : List ℕ) (k at : ℕ) (own new : List ℕ) → at ≡ get_or lowest k 0 → at < length own → AreOwnTo t lowest k own → new ≡ set own at (k + 1) → AreOwnTo t lowest (k + 1) new
own-more t lowest k at own new is within a made = record {
  one_each = ap length made ∙ length-set own at (k + 1) ∙ a.one_each;
  sound = λ i. elim (cases_eq i at) [
    | inl same ↦ inr (k, (omega arith, (sym is ∙ sym same, ap (get_at i) made ∙ ap (λ (z : ℕ). get_or (set own at (k + 1)) z 0) same ∙ here ∙ omega arith)))
    | inr off ↦ elim (a.sound i) [
      | inl none' ↦ inl (elsewhere i off ∙ none')
      | inr found ↦ inr (found.0, ((let low = found.1.0 in omega arith), (found.1.1.0, elsewhere i off ∙ found.1.1.1)))
    ]
  ];
  complete = λ j low e. elim (cases_eq (get_or lowest j 0) at) [
    | inl same ↦ (let read = ap (λ (z : ℕ). get_or new z 0) same in let w : get_or new at 0 ≡ k + 1 = ap (get_at at) made ∙ here in omega arith)
    | inr off ↦
        let other : j ≢ k = λ level. off (ap (λ (z : ℕ). get_or lowest z 0) level ∙ sym is) in
        a.complete j (grind (arith, low, other)) (sym (elsewhere (get_or lowest j 0) off) ∙ e)
  ];
}
  where
    get_at : ℕ → List ℕ → ℕ
    get_at i xs = get_or xs i 0

    here : get_or (set own at (k + 1)) at 0 ≡ k + 1
    here = get_or-set_same own at (k + 1) 0 within

    elsewhere : (i : ℕ) → i ≢ at → get_or new i 0 ≡ get_or own i 0
    elsewhere i off = ap (λ (xs : List ℕ). get_or xs i 0) made ∙ get_or-set_other own at i (k + 1) 0 off

-- a child on the way from a lower node up
on-way : (t : ParentTree) (i q d : ℕ) → ancestor t d q ≡ i → q ≢ i → (c : ℕ) × (IsAbove t c q × ((parent t c ≡ i) × (c ≢ i)))
on-way t i q zero e other = absurd (other e)
on-way t i q (suc d) e other = elim (cases_eq (ancestor t d q) i) [
  | inl level ↦ on-way t i q d level other
  | inr below ↦ (ancestor t d q, ((d, refl), (e, below)))
]

-- where no child of a node holds, the node holds only minima of which it is the lowest holder
own-held : (g : WeightedGraph) → IsGraph g → (i label : ℕ) → i < length (graph_tree g).parents → child_holds (graph_tree g) (minima_of g) i 0 ≡ false → child_holds (graph_tree g) (minima_of g) i 1 ≡ false →
    IsLabel (minimum_count g.n (ranked g)) label → holds_minimum (graph_tree g) (minima_of g) i label ≡ true → IsBottom g label i
own-held g h i label hi p q is hold =
    let b = bottom-label g h label is in
    let up = over-bottom g h label b.0 i b.1 hi (λ x hx its. (holds_minimum-to (graph_tree g) (minima_of g) i label is hold).all x hx (vertex-read g x hx ∙ its)) in
    elim (cases_eq b.0 i) [
      | inl same ↦ subst (IsBottom g label) same b.1
      | inr other ↦ absurd (held-below b (on-way (graph_tree g) i b.0 up.0 up.1 other))
    ]
  where
    t : ParentTree
    t = graph_tree g

    o : IsOfGraph g
    o = of-graph g h

    one_of : (k : ℕ) → k < 2 → child_holds (graph_tree g) (minima_of g) i k ≡ true → ⊥
    one_of zero low there = both_ways _ p there
    one_of (suc zero) low there = both_ways _ q there
    one_of (suc (suc k)) low there = omega arith

    held-below : (b : (q : ℕ) × IsBottom g label q) → (c : ℕ) × (IsAbove (graph_tree g) c b.0 × ((parent (graph_tree g) c ≡ i) × (c ≢ i))) → ⊥
    held-below b c =
        let hc : c.0 < length t.parents = above-within t o.climbs c.0 b.0 b.1.node c.1.0 in
        let rises : c.0 ≤ parent t c.0 = o.climbs.rises c.0 hc in
        let up : parent t c.0 ≡ i = c.1.1.0 in
        let apart : c.0 ≢ i = c.1.1.1 in
        let inner : t.leaves ≤ parent t c.0 = o.well_formed.inner c.0 hc (λ same. apart (sym same ∙ up)) in
        let own : is_child t i c.0 ≡ true = child-is t i c.0 up (λ same. apart (sym same ∙ up)) in
        let place = count_below (is_child t i) c.0 in
        let at : IsChildAt t i (count_below (is_child t i) c.0) c.0 = record { node = hc; parent_is = up; less = grind (arith, rises, up, apart); before = refl } in
        let two : child_count t i ≡ 2 = inner-two g h i (subst (λ (k : ℕ). g.n ≤ k) up inner) hi in
        let low : count_below (is_child t i) c.0 < child_count t i = count-less (is_child t i) c.0 (length t.parents) hc own in
        let held : holds t (minima_of g) c.0 ≡ true = bottom-holds g h label b.0 c.0 is b.1 c.1.0 in
        let there : child_holds t (minima_of g) i (count_below (is_child t i) c.0) ≡ true = child_holds-from t (minima_of g) i (count_below (is_child t i) c.0) low (ap (holds t (minima_of g)) (child-found t i (count_below (is_child t i) c.0) c.0 at) ∙ held) in
        one_of (count_below (is_child t i) c.0) (omega arith) there

-- a search over a range finds the only number of the range that passes
pub find-within : (p : ℕ → Bool) (a n j : ℕ) → a ≤ j → j < a + n → p j ≡ true → ((x : ℕ) → a ≤ x → x < a + n → p x ≡ true → x ≡ j) → find p (range_with_len a n) ≡ Some j
find-within p a n j low high passes only =
    let f = first_of p a n j low high passes in
    let r = range-to a n f.at (found-in p (range_with_len a n) f.at f.found) in
    f.found ∙ ap (λ (x : ℕ). Some x) (only f.at r.0 r.1 f.passes)

-- so the labels at the lowest nodes are each node's own
pub own-all : (g : WeightedGraph) → IsGraph g → (lowest : List ℕ) → AreLowest (graph_tree g) (minima_of g) lowest → (k : ℕ) (own : List ℕ) → k ≡ (minima_of g).count → AreOwnTo (graph_tree g) lowest k own → AreOwnLabels (graph_tree g) (minima_of g) own
own-all g h lowest lows k own end a = record {
  one_each = a.one_each;
  each = λ i hi p q. elim (a.sound i) [
    | inl none' ↦ none' ∙ sym (ap (λ (o : Option ℕ). unwrap_or o 0) (find-none (holds_minimum (graph_tree g) (minima_of g) i) 1 (minima_of g).count (λ label low high. false_from_ne_true (holds_minimum (graph_tree g) (minima_of g) i label) (λ hold.
        let is : IsLabel (minimum_count g.n (ranked g)) label = record { positive = low; most = omega arith } in
        let j : ℕ = label - 1 in
        let hj : label - 1 < (minima_of g).count = omega arith in
        let b = own-held g h i label hi p q is hold in
        let last = last-bottom g h (suc (label - 1)) (get_or lowest (label - 1) 0) (subst (IsLabel (minimum_count g.n (ranked g))) (omega arith) is) (lows.each (label - 1) hj) in
        let same : get_or lowest (label - 1) 0 ≡ i = bottom-same g h label (get_or lowest (label - 1) 0) i (subst (λ (z : ℕ). IsBottom g z (get_or lowest (label - 1) 0)) (omega arith) last) b in
        a.complete (label - 1) (omega arith) (ap (λ (z : ℕ). get_or own z 0) same ∙ none')))))
    | inr found ↦
        let j = found.0 in
        let hj : found.0 < (minima_of g).count = (let low = found.1.0 in omega arith) in
        let is : IsLabel (minimum_count g.n (ranked g)) (suc found.0) = record { positive = omega arith; most = omega arith } in
        let b : IsBottom g (suc found.0) i = subst (IsBottom g (suc found.0)) found.1.1.0 (last-bottom g h (suc found.0) (get_or lowest found.0 0) is (lows.each found.0 hj)) in
        let o = of-graph g h in
        let hold : holds_minimum (graph_tree g) (minima_of g) i (suc found.0) ≡ true = holds_minimum-from (graph_tree g) (minima_of g) o.climbs (let e = o.well_formed.one_maker_each in omega (arith, e)) i (suc found.0)
        (record { minimum = is; all = λ x hx its. b.all x hx (sym (vertex-read g x hx) ∙ its) }) in
        found.1.1.1 ∙ sym (ap (λ (r : Option ℕ). unwrap_or r 0) (find-within (holds_minimum (graph_tree g) (minima_of g) i) 1 (minima_of g).count (suc found.0) (omega arith) (omega arith) hold
        (λ x low high held. bottom-one g h x (suc found.0) i (own-held g h i x hi p q (record { positive = low; most = omega arith }) held) b)))
  ];
}

-- what holds of the tree and the minima of each graph holds of these
pub by-minima : (P : ParentTree → LabelledMinima → Type 0) (t : ParentTree) (m : LabelledMinima) → (o : AreOfMinima t m) → P (graph_tree o.0) (minima_of o.0) → P t m
by-minima P t m o p = subst (λ (t' : ParentTree). P t' m) (sym o.1.1.0) (subst (λ (m' : LabelledMinima). P (graph_tree o.0) m') (sym o.1.1.1) p)
