-- The pass from the roots down, node after node, and what is so of each node's nearest stop.
use Rattle.std.proofs.Common.{◌≡◌, ℕ, zero, suc, ◌+◌, ◌<◌, ◌≤◌, Bool, true, false, ◌⊎◌, inl, inr, refl, sym, ◌∙◌, subst, ap, arith, List, length, length-set, get_or, set}
use Rattle.std.specs.List.{range_with_len}
use Rattle.std.proofs.lemmas.Bool.{cases_eq, cases_Bool, both_ways}
use Rattle.std.proofs.lemmas.List.{get_or-set_same, get_or-set_other}
use Rattle.std.proofs.lemmas.List.FromFn.{get_or-range_with_len}
use Rattle.tree_laws.specs.Tree.{ParentTree, parent, IsAbove}
use Rattle.tree_laws.specs.Levels.{IsClimbing}
use Rattle.tree_laws.proofs.Climbs.{above-on, above-next, above-same, above-within}
use Rattle.partition_tree.specs.TreeLists.{nodes}
use Rattle.partition_tree.specs.NearestStops.{StopsAt, IsNearestStop, AreOfStops}

-- a node at which its path stops is its own nearest stop
pub stop-self : (t : ParentTree) (stops : ℕ → Bool) (i : ℕ) → StopsAt t stops i → IsNearestStop t stops i i
stop-self t stops i h = record { above = (0, refl); stop = h; nearest = λ k a s. a }

-- that of another node is its parent's
pub stop-parent : (t : ParentTree) (stops : ℕ → Bool) (i j : ℕ) → stops i ≡ false → (parent t i ≡ i → ⊥) → IsNearestStop t stops (parent t i) j → IsNearestStop t stops i j
stop-parent t stops i j off below h = record {
  above = above-on t j (parent t i) i h.above (1, refl);
  stop = h.stop;
  nearest = λ k a s. elim (above-next t k i a) [ inl same ↦ absurd (none' (subst (StopsAt t stops) same s)) | inr over ↦ h.nearest k over s ];
}
  where
    none' : StopsAt t stops i → ⊥
    none' (inl on) = both_ways (stops i) off on
    none' (inr root) = below root

-- the values once those of the nodes from i on are there
pub record AreOfStopsFrom (t : ParentTree) (stops : ℕ → Bool) (i : ℕ) (own values : List ℕ) : Type 0 where
  pub one_each : length values ≡ nodes t
  pub done : (j : ℕ) → i ≤ j → j < nodes t → (m : ℕ) × (IsNearestStop t stops j m × (get_or values j 0 ≡ get_or own m 0))
  pub left : (j : ℕ) → j < i → get_or values j 0 ≡ get_or own j 0

-- none is there yet
pub sent-first : (t : ParentTree) (stops : ℕ → Bool) (n : ℕ) (own : List ℕ) → n ≡ nodes t → length own ≡ nodes t → AreOfStopsFrom t stops n own own
sent-first t stops n own all one_each = record { one_each = one_each; done = λ j low high. absurd (omega arith); left = λ j l. refl }

-- the node or one above it
from_or : (i j : ℕ) → i ≤ j → (i ≡ j) ⊎ (i + 1 ≤ j)
from_or i j h = elim (cases_eq i j) [ inl level ↦ inl level | inr other ↦ inr (grind (arith, h, other)) ]

-- a node that stops keeps its own
pub sent-stop : (t : ParentTree) (stops : ℕ → Bool) (i : ℕ) (own values : List ℕ) → AreOfStopsFrom t stops (i + 1) own values → stops i ≡ true → AreOfStopsFrom t stops i own values
sent-stop t stops i own values a on = record {
  one_each = a.one_each;
  done = λ j from h. elim (from_or i j from) [
    | inl same ↦ (j, (stop-self t stops j (inl (ap stops (sym same) ∙ on)), a.left j (omega arith)))
    | inr later ↦ a.done j later h
  ];
  left = λ j l. a.left j (omega arith);
}

-- another gets its parent's
pub sent-parent : (t : ParentTree) → IsClimbing t → (stops : ℕ → Bool) (i p : ℕ) (own values : List ℕ) → i < nodes t → p ≡ parent t i → AreOfStopsFrom t stops (i + 1) own values → stops i ≡ false →
    AreOfStopsFrom t stops i own (set values i (get_or values p 0))
sent-parent t c stops i p own values hi is a off = record {
  one_each = length-set values i (get_or values p 0) ∙ a.one_each;
  done = λ j from h. elim (from_or i j from) [
    | inl same ↦ subst (λ (k : ℕ). (m : ℕ) × (IsNearestStop t stops k m × (get_or (set values i (get_or values p 0)) k 0 ≡ get_or own m 0))) same at_i
    | inr later ↦ (let d = a.done j later h in (d.0, (d.1.0, get_or-set_other values i j (get_or values p 0) 0 (λ e. omega arith) ∙ d.1.1)))
  ];
  left = λ j l. get_or-set_other values i j (get_or values p 0) 0 (λ e. omega arith) ∙ a.left j (omega arith);
}
  where
    here : get_or (set values i (get_or values p 0)) i 0 ≡ get_or values (parent t i) 0
    here = get_or-set_same values i (get_or values p 0) 0 (let long = a.one_each in omega arith) ∙ ap (λ (k : ℕ). get_or values k 0) is

    at_i : (m : ℕ) × (IsNearestStop t stops i m × (get_or (set values i (get_or values p 0)) i 0 ≡ get_or own m 0))
    at_i = elim (cases_eq (parent t i) i) [
      | inl root ↦ (i, (stop-self t stops i (inr root), here ∙ ap (λ (k : ℕ). get_or values k 0) root ∙ a.left i (omega arith)))
      | inr other ↦
          let up : i ≤ parent t i = c.rises i hi in
          let higher : i + 1 ≤ parent t i = grind (arith, up, other) in
          let d = a.done (parent t i) higher (c.within i hi) in
          (d.0, (stop-parent t stops i d.0 off other d.1.0, here ∙ d.1.1))
    ]

-- all are there
pub sent-all : (t : ParentTree) (stops : ℕ → Bool) (own values : List ℕ) → AreOfStopsFrom t stops 0 own values → AreOfStops t stops own values
sent-all t stops own values a = record { one_each = a.one_each; each = λ i h. a.done i (omega arith) h }

-- What is so of each stop and itself, and goes from a node that doesn't stop to its parent, is so of each node and its nearest stop.
pub stop-induction : (t : ParentTree) → IsClimbing t → (stops : ℕ → Bool) (Q : ℕ → ℕ → Type 0) →
    ((i : ℕ) → i < nodes t → StopsAt t stops i → Q i i) →
    ((i j : ℕ) → i < nodes t → stops i ≡ false → (parent t i ≡ i → ⊥) → IsNearestStop t stops (parent t i) j → Q (parent t i) j → Q i j) →
    (i j : ℕ) → i < nodes t → IsNearestStop t stops i j → Q i j
stop-induction t c stops Q self up i j hi h = go (nodes t) i hi h (omega arith)
  where
    at_stop : (k : ℕ) → k < nodes t → StopsAt t stops k → IsNearestStop t stops k j → Q k j
    at_stop k hk s n =
        let over : IsAbove t k j = n.nearest k (0, refl) s in
        subst (λ (m : ℕ). Q k m) (above-same t c k j hk (above-within t c j k hk n.above) over n.above) (self k hk s)

    further : (k : ℕ) → stops k ≡ false → (parent t k ≡ k → ⊥) → IsNearestStop t stops k j → IsNearestStop t stops (parent t k) j
    further k off below n = record {
      above = elim (above-next t j k n.above) [
        | inl same ↦ absurd (elim (subst (StopsAt t stops) same n.stop) [ inl on ↦ both_ways (stops k) off on | inr root ↦ below root ])
        | inr over ↦ over
      ];
      stop = n.stop;
      nearest = λ m a s. n.nearest m (above-on t m (parent t k) k a (1, refl)) s;
    }

    go : (d k : ℕ) → k < nodes t → IsNearestStop t stops k j → nodes t ≤ k + d → Q k j
    go zero k hk n few = absurd (omega arith)
    go (suc d) k hk n few = elim (cases_eq (parent t k) k) [
      | inl root ↦ at_stop k hk (inr root) n
      | inr other ↦ elim (cases_Bool (stops k)) [
        | inl on ↦ at_stop k hk (inl on) n
        | inr off ↦
            let rises : k ≤ parent t k = c.rises k hk in
            let higher : k < parent t k = grind (arith, rises, other) in
            let rest = further k off other n in
            up k j hk off other rest (go d (parent t k) (c.within k hk) rest (omega arith))
      ]
    ]

-- there are such values
pub stops-exist : (t : ParentTree) → IsClimbing t → (stops : ℕ → Bool) (own : List ℕ) → length own ≡ nodes t → (values : List ℕ) × AreOfStops t stops own values
stops-exist t c stops own long =
    let r = down (nodes t) own (omega arith) (sent-first t stops (nodes t) own refl long) in
    (r.0, sent-all t stops own r.0 r.1)
  where
    down : (i : ℕ) (values : List ℕ) → i ≤ nodes t → AreOfStopsFrom t stops i own values → (sent : List ℕ) × AreOfStopsFrom t stops 0 own sent
    down zero values le a = (values, a)
    down (suc i) values le a =
        let e : suc i ≡ i + 1 = omega arith in
        let from : AreOfStopsFrom t stops (i + 1) own values = subst (λ (k : ℕ). AreOfStopsFrom t stops k own values) e a in
        elim (cases_Bool (stops i)) [
          | inl on ↦ down i values (omega arith) (sent-stop t stops i own values from on)
          | inr off ↦ down i (set values i (get_or values (parent t i) 0)) (omega arith) (sent-parent t c stops i (parent t i) own values (omega arith) refl from off)
        ]

-- the nearest stop is a node
pub stop-within : (t : ParentTree) → IsClimbing t → (stops : ℕ → Bool) (i j : ℕ) → i < nodes t → IsNearestStop t stops i j → j < nodes t
stop-within t c stops i j h n = above-within t c j i h n.above

-- values that were each node's own number are those of the stops
pub stop-numbers : (t : ParentTree) → IsClimbing t → (stops : ℕ → Bool) (own values : List ℕ) → own ≡ range_with_len 0 (nodes t) → AreOfStops t stops own values →
    (i : ℕ) → i < nodes t → IsNearestStop t stops i (get_or values i 0)
stop-numbers t c stops own values numbers a i h =
    let s = a.each i h in
    let high : s.0 < nodes t = stop-within t c stops i s.0 h s.1.0 in
    let e : 0 + s.0 ≡ s.0 = omega arith in
    subst (λ (j : ℕ). IsNearestStop t stops i j) (sym (s.1.1 ∙ ap (λ (xs : List ℕ). get_or xs s.0 0) numbers ∙ get_or-range_with_len 0 (nodes t) s.0 0 high ∙ e)) s.1.0
