-- The passes that mark the nodes above vertices in minima, and find the nearest.
use Rattle.std.proofs.Common.{◌≡◌, ℕ, zero, suc, ◌+◌, ◌<◌, ◌≤◌, Bool, true, false, inl, inr, refl, sym, ◌∙◌, subst, ap, arith, List, length, length-set, get_or, set, replicate}
use Rattle.std.specs.Prelude.{◌==◌, not}
use Rattle.std.specs.List.{range_with_len}
use Rattle.std.proofs.lemmas.Bool.{cases_eq, both_ways, true≢false, eqb-false, ne_eqb, not-true, not_from_false}
use Rattle.std.proofs.lemmas.List.{get_or-set_same, get_or-set_other}
use Rattle.tree_laws.specs.Tree.{ParentTree, parent, ancestor, IsAbove}
use Rattle.tree_laws.specs.Levels.{IsClimbing}
use Rattle.tree_laws.proofs.Climbs.{ancestor-root, ancestor-within, above-within, above-parent, above-rises}
use Rattle.partition_tree.specs.TreeLists.{nodes}
use Rattle.partition_tree.specs.NearestStops.{IsNearestStop, AreOfStops}
use Rattle.partition_tree.proofs.NearestStops.{stop-numbers, stop-within}
use Rattle.watershed_cut.specs.NearestHolders.{Holds, AreLeafHolders, AreHolders, IsNearestHolder, AreNearestHolders}

-- no leaf is marked yet
pub leaf_holders-first : (t : ParentTree) (labels : List ℕ) (n : ℕ) (holds : List Bool) → n ≡ length t.parents → holds ≡ replicate n false → AreLeafHolders t labels 0 holds
leaf_holders-first t labels n holds all same = record {
  one_each = ap (λ (xs : List Bool). length xs) same ∙ length-all n ∙ all;
  sound = λ j h. absurd (true≢false (sym h ∙ ap (λ (xs : List Bool). get_or xs j false) same ∙ none_at n j));
  complete = λ x h l. absurd (omega arith);
}
  where
    length-all : (m : ℕ) → length (replicate m false) ≡ m
    length-all zero = refl
    length-all (suc m) = ap (λ (k : ℕ). suc k) (length-all m)

    none_at : (m j : ℕ) → get_or (replicate m false) j false ≡ false
    none_at zero j = refl
    none_at (suc m) zero = refl
    none_at (suc m) (suc j) = none_at m j

-- one more leaf
pub leaf_holders-more : (t : ParentTree) (labels : List ℕ) (k label : ℕ) (mark : Bool) (holds new : List Bool) → k < length t.parents → AreLeafHolders t labels k holds → label ≡ get_or labels k 0 → mark ≡ not (label == 0) → new ≡ set holds k mark → AreLeafHolders t labels (k + 1) new
leaf_holders-more t labels k label mark holds new hk a is marked pushed = subst (AreLeafHolders t labels (k + 1)) (sym pushed) (record {
  one_each = length-set holds k mark ∙ a.one_each;
  sound = λ j h. elim (cases_eq j k) [
    | inl same ↦ (omega arith, λ z. (let on : mark ≡ true = sym (here j same) ∙ h in eqb-false label 0 (not-true _ (sym marked ∙ on)) (is ∙ ap (λ (m : ℕ). get_or labels m 0) (sym same) ∙ z)))
    | inr other ↦ (let p = a.sound j (sym (get_or-set_other holds k j mark false other) ∙ h) in (let low : j < k = p.0 in omega arith, p.1))
  ];
  complete = λ x h l. elim (cases_eq x k) [
    | inl same ↦ here x same ∙ marked ∙ not_from_false _ (ne_eqb label 0 (λ z. l (ap (λ (m : ℕ). get_or labels m 0) same ∙ sym is ∙ z)))
    | inr other ↦ get_or-set_other holds k x mark false other ∙ a.complete x (grind (arith, h, other)) l
  ];
})
  where
    here : (j : ℕ) → j ≡ k → get_or (set holds k mark) j false ≡ mark
    here j same = ap (λ (m : ℕ). get_or (set holds k mark) m false) same ∙ get_or-set_same holds k mark false (let long = a.one_each in omega arith)

-- the marks once those of the nodes below i are sent up
pub record AreSentUp (t : ParentTree) (labels : List ℕ) (i : ℕ) (holds : List Bool) : Type 0 where
  pub one_each : length holds ≡ length t.parents
  pub sound : (j : ℕ) → get_or holds j false ≡ true → Holds t labels j
  pub leaf : (x : ℕ) → x < t.leaves → (get_or labels x 0 ≡ 0 → ⊥) → get_or holds x false ≡ true
  pub closed : (j : ℕ) → j < i → get_or holds j false ≡ true → get_or holds (parent t j) false ≡ true

pub sent_up-first : (t : ParentTree) (labels : List ℕ) (holds : List Bool) → AreLeafHolders t labels t.leaves holds → AreSentUp t labels 0 holds
sent_up-first t labels holds a = record {
  one_each = a.one_each;
  sound = λ j h. (let p = a.sound j h in (j, (p.0, (p.1, (0, refl)))));
  leaf = a.complete;
  closed = λ j l h. absurd (omega arith);
}

-- a node that isn't marked
pub sent_up-same : (t : ParentTree) (labels : List ℕ) (i : ℕ) (holds : List Bool) → AreSentUp t labels i holds → get_or holds i false ≡ false → AreSentUp t labels (i + 1) holds
sent_up-same t labels i holds a off = record {
  one_each = a.one_each;
  sound = a.sound;
  leaf = a.leaf;
  closed = λ j l h. elim (cases_eq j i) [
    | inl same ↦ absurd (both_ways _ off (ap (λ (m : ℕ). get_or holds m false) (sym same) ∙ h))
    | inr other ↦ a.closed j (grind (arith, l, other)) h
  ];
}

-- a marked one marks its parent
pub sent_up-more : (t : ParentTree) → IsClimbing t → (labels : List ℕ) (i p : ℕ) (holds : List Bool) → i < length t.parents → p ≡ parent t i → AreSentUp t labels i holds → get_or holds i false ≡ true → AreSentUp t labels (i + 1) (set holds p true)
sent_up-more t c labels i p holds hi is a on = record {
  one_each = length-set holds p true ∙ a.one_each;
  sound = λ j h. elim (cases_eq j p) [
    | inl same ↦ (let own = a.sound i on in (own.0, (own.1.0, (own.1.1.0, subst (λ (m : ℕ). IsAbove t m own.0) (sym (same ∙ is)) (above-parent t i own.0 own.1.1.1)))))
    | inr other ↦ a.sound j (sym (get_or-set_other holds p j true false other) ∙ h)
  ];
  leaf = λ x h l. kept x (a.leaf x h l);
  closed = λ j l h. elim (cases_eq j i) [
    | inl same ↦ ap (λ (m : ℕ). get_or (set holds p true) m false) (ap (parent t) same ∙ sym is) ∙ here
    | inr other ↦ (let low : j < i = grind (arith, l, other) in
        kept (parent t j) (a.closed j low (sym (get_or-set_other holds p j true false (λ e. omega (arith, e, low, up))) ∙ h)))
  ];
}
  where
    up : i ≤ p
    up = let r : i ≤ parent t i = c.rises i hi in omega arith

    here : get_or (set holds p true) p false ≡ true
    here = get_or-set_same holds p true false (let long = a.one_each in let within : parent t i < length t.parents = c.within i hi in omega arith)

    kept : (j : ℕ) → get_or holds j false ≡ true → get_or (set holds p true) j false ≡ true
    kept j h = elim (cases_eq j p) [
      | inl same ↦ ap (λ (m : ℕ). get_or (set holds p true) m false) same ∙ here
      | inr other ↦ get_or-set_other holds p j true false other ∙ h
    ]

-- all are sent up
pub sent_up-all : (t : ParentTree) → IsClimbing t → t.leaves ≤ length t.parents → (labels : List ℕ) (i : ℕ) (holds : List Bool) → length t.parents ≤ i → AreSentUp t labels i holds → AreHolders t labels holds
sent_up-all t c few labels i holds all a = record {
  one_each = a.one_each;
  each = λ j hj. (a.sound j, λ h. subst (λ (m : ℕ). get_or holds m false ≡ true) h.1.1.1.1 (along h.0 h.1.0 h.1.1.0 h.1.1.1.0));
}
  where
    along : (x : ℕ) → x < t.leaves → (get_or labels x 0 ≡ 0 → ⊥) → (d : ℕ) → get_or holds (ancestor t d x) false ≡ true
    along x hx l zero = a.leaf x hx l
    along x hx l (suc d) = a.closed (ancestor t d x) (let within : ancestor t d x < length t.parents = ancestor-within t c d x (omega arith) in omega arith) (along x hx l d)

-- the nearest marked node on the path is the nearest above a vertex in a minimum
nearest-of_stop : (t : ParentTree) → IsClimbing t → (labels : List ℕ) (holds : List Bool) → AreHolders t labels holds → (i q : ℕ) → i < nodes t → IsNearestStop t (λ j. get_or holds j false) i q → IsNearestHolder t labels i q
nearest-of_stop t c labels holds marks i q hi n = record {
  node = within;
  above = n.above;
  least = λ k b l. above-rises t c k q within (up k b l);
  holds = λ k b l. elim n.stop [
    | inl on ↦ (marks.each q within).0 on
    | inr root ↦ (let over = up k b l in subst (λ (m : ℕ). Holds t labels m) (sym over.1 ∙ ancestor-root t q root over.0) l)
  ];
}
  where
    within : q < nodes t
    within = stop-within t c (λ j. get_or holds j false) i q hi n

    up : (k : ℕ) → IsAbove t k i → Holds t labels k → IsAbove t k q
    up k b l = n.nearest k b (inl ((marks.each k (above-within t c k i hi b)).1 l))

-- numbers that were sent down to it are the nearest
pub nearest-of_stops : (t : ParentTree) → IsClimbing t → (labels : List ℕ) (holds : List Bool) (own near : List ℕ) → AreHolders t labels holds → own ≡ range_with_len 0 (nodes t) → AreOfStops t (λ j. get_or holds j false) own near → AreNearestHolders t labels near
nearest-of_stops t c labels holds own near marks numbers a = record {
  one_each = a.one_each;
  each = λ i h. nearest-of_stop t c labels holds marks i (get_or near i 0) h (stop-numbers t c (λ j. get_or holds j false) own near numbers a i h);
}
