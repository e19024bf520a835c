-- Two parts side by side.
use Rattle.std.proofs.Common.{◌≡◌, ℕ, zero, suc, ◌+◌, ◌-◌, ◌^◌, ◌<◌, ◌≤◌, ◌⊎◌, inl, inr, refl, sym, ◌∙◌, subst, ap, arith, List, ◌++◌, length, map, get_or, length-append, nat_le, true}
use Rattle.std.specs.Prelude.{Option, Some, None, IsSome, filter, nat_lt}
use Rattle.std.proofs.lemmas.Bool.{cases_lt, cases_Bool, lt-ltb, le-ltb, le-leb, leb-true}
use Rattle.std.proofs.lemmas.List.{length-map, get_or_append_left, get_or-append_right, get_or_past}
use Rattle.edge_laws.specs.Edges.{ListedEdge, EdgeList, joins, chain, first_edge, next}
use Rattle.hg_base.specs.Lists.{IsIn}
use Rattle.edge_laws.specs.SideBySide.{SideBySide}
use Rattle.edge_laws.proofs.SideBySide.{chain-inside, chain-outside, AreApart-front}
use Rattle.hg_base.proofs.Lists.{IsIn-append_back}
use Rattle.edge_laws.proofs.Sets.{IsIn-joins, IsIn-joins_kept, IsIn-chain_kept}
use Rattle.node_region.specs.Pool.{CellPool, IsPool, IsNextTo, count, IsCovered, IsUsed, entry, cell_at, leaf_of, turn_of, appended}
use Rattle.node_region.specs.declared.cell.Cell.{Cell}
use Rattle.node_region.specs.declared.cell.Hint.{Hint}
use Rattle.node_region.proofs.Entries.{entry-append_left, entry-append_right, entry-covered}
use Rattle.border_climb.specs.Stands.{PartState, IsMet, Stands}
use Rattle.border_climb.specs.Linked.{HasRank, Points, IsCellOf, AreLinked}
use Rattle.border_climb.specs.Notes.{IsLive, IsSound}
use Rattle.hg_base.specs.declared.graph.PlacedEdge.{PlacedEdge}
use Rattle.border_climb.specs.Splicing.{KeepsRange}
use Rattle.border_climb.specs.Parts.{AreUnited, CanJoin, CanTake, SumsUp, as_listed}
use Rattle.border_climb.proofs.Parts.{few-edges}
use Rattle.border_climb.proofs.Linked.{own-chain, Stands-linked, linked-Stands}
use Rattle.border_climb.proofs.Merging.{points-kept}
use Rattle.border_climb.proofs.Pools.{used-covered, used-cell, used-from}
use Rattle.border_climb.proofs.Lots.{apart-across}

-- two pools, one behind the other
record AreTwo (p q : CellPool) : Type 0 where
  left : IsPool p
  right : IsPool q
  next_to : IsNextTo p q

-- what a list of entries has, left and right
entry-left : {X : Type 0} (p q : CellPool) (xs ys : List (Option X)) → length xs ≡ count p → (i : ℕ) → p.first ≤ i → i < p.first + count p → entry p.first (xs ++ ys) i ≡ entry p.first xs i
entry-left p q xs ys long i low high = entry-append_left p.first xs ys i low (omega arith)

entry-right : {X : Type 0} (p q : CellPool) (xs ys : List (Option X)) → length xs ≡ count p → q.first ≡ p.first + count p → (i : ℕ) → q.first ≤ i → entry p.first (xs ++ ys) i ≡ entry q.first ys i
entry-right p q xs ys long next' i low = entry-append_right p.first xs ys i q.first (omega arith) low

-- a covered number is one of the left or of the right
side : (p q : CellPool) → AreTwo p q → (x : ℕ) → IsCovered (appended p q) x → IsCovered p x ⊎ IsCovered q x
side p q t x c =
    let n : q.first ≡ p.first + count p = t.next_to.next in
    let low : p.first ≤ x = c.0 in
    let high : x < p.first + length (p.cells ++ q.cells) = c.1 in
    let sum = length-append p.cells q.cells in
    elim (cases_lt x q.first) [
      | inl less ↦ inl (low, omega arith)
      | inr more ↦ inr (more, omega (arith, sum))
    ]

cover-left : (p q : CellPool) (x : ℕ) → IsCovered p x → IsCovered (appended p q) x
cover-left p q x c = let high : x < p.first + length p.cells = c.1 in let sum = length-append p.cells q.cells in (c.0, omega (arith, sum))

cover-right : (p q : CellPool) → AreTwo p q → (x : ℕ) → IsCovered q x → IsCovered (appended p q) x
cover-right p q t x c =
    let n : q.first ≡ p.first + count p = t.next_to.next in
    let low : q.first ≤ x = c.0 in let high : x < q.first + length q.cells = c.1 in let sum = length-append p.cells q.cells in (omega arith, omega (arith, sum))

cell-left : (p q : CellPool) → AreTwo p q → (i : ℕ) (c : Cell) → cell_at p i ≡ Some c → cell_at (appended p q) i ≡ Some c
cell-left p q t i c is = let cov = used-covered p i c is in entry-left p q p.cells q.cells refl i cov.0 cov.1 ∙ is

cell-right : (p q : CellPool) → AreTwo p q → (i : ℕ) (c : Cell) → cell_at q i ≡ Some c → cell_at (appended p q) i ≡ Some c
cell-right p q t i c is = let cov = used-covered q i c is in entry-right p q p.cells q.cells refl t.next_to.next i cov.0 ∙ is

cell-cases : (p q : CellPool) → AreTwo p q → (i : ℕ) (c : Cell) → cell_at (appended p q) i ≡ Some c → (IsCovered p i × (cell_at p i ≡ Some c)) ⊎ (IsCovered q i × (cell_at q i ≡ Some c))
cell-cases p q t i c is =
    elim (side p q t i (used-covered (appended p q) i c is)) [
      | inl l ↦ inl (l, sym (entry-left p q p.cells q.cells refl i l.0 l.1) ∙ is)
      | inr r ↦ inr (r, sym (entry-right p q p.cells q.cells refl t.next_to.next i r.0) ∙ is)
    ]

-- the two have no number in common
no-both : (p q : CellPool) → AreTwo p q → (x : ℕ) → IsCovered p x → IsCovered q x → ⊥
no-both p q t x a b = let n : q.first ≡ p.first + count p = t.next_to.next in let high : x < p.first + count p = a.1 in let low : q.first ≤ x = b.0 in omega arith

met-left : (p q : CellPool) → AreTwo p q → (d : ℕ) (o : Option ℕ) (j : ℕ) → IsMet p d o j → IsMet (appended p q) d o j
met-left p q t d None j m = absurd m
met-left p q t zero (Some i) j m = m
met-left p q t (suc d) (Some i) j m = (m.0, (cell-left p q t i m.0 m.1.0, met-left p q t d m.0.up j m.1.1))

met-right : (p q : CellPool) → AreTwo p q → (d : ℕ) (o : Option ℕ) (j : ℕ) → IsMet q d o j → IsMet (appended p q) d o j
met-right p q t d None j m = absurd m
met-right p q t zero (Some i) j m = m
met-right p q t (suc d) (Some i) j m = (m.0, (cell-right p q t i m.0 m.1.0, met-right p q t d m.0.up j m.1.1))

-- how often a number was taken
turn-left : (p q : CellPool) → AreTwo p q → (i : ℕ) → IsCovered p i → turn_of (appended p q) i ≡ turn_of p i
turn-left p q t i c =
    let long : length p.turns ≡ count p = t.left.turns in let low : p.first ≤ i = c.0 in let high : i < p.first + count p = c.1 in
    rw (le-leb p.first i low) (get_or_append_left p.turns q.turns 0 (i - p.first) (omega arith))

turn-right : (p q : CellPool) → AreTwo p q → (i : ℕ) → IsCovered q i → turn_of (appended p q) i ≡ turn_of q i
turn-right p q t i c =
    let long : length p.turns ≡ count p = t.left.turns in let n : q.first ≡ p.first + count p = t.next_to.next in let low : q.first ≤ i = c.0 in
    let place : i - p.first - length p.turns ≡ i - q.first = omega arith in
    let from : p.first ≤ i = omega arith in
    rw (le-leb p.first i from, le-leb q.first i low) (get_or-append_right p.turns q.turns (length p.turns) (i - p.first) 0 refl (omega arith) ∙ ap (λ (k : ℕ). get_or q.turns k 0) place)

-- a note of one part that is still live once both are united is of that part
live-left : (p q : CellPool) → AreTwo p q → IsSound p → IsSound q → (h : Hint) → (h.turn < 2 ^ 32 - 1 → h.turn ≤ turn_of p h.cell) → IsLive (appended p q) h → IsLive p h
live-left p q t s u h old v =
    elim (cell-cases p q t h.cell v.cell v.is) [
      | inl l ↦ record { cell = v.cell; is = l.1; turn = sym (turn-left p q t h.cell l.0) ∙ v.turn; fresh = v.fresh }
      | inr r ↦ absurd (let low : h.turn ≤ turn_of p h.cell = old v.fresh in
          let none : turn_of p h.cell ≡ 0 = beyond r.0 in
          let has : 1 ≤ turn_of q h.cell = u.old.turned h.cell v.cell r.1 in
          let same : turn_of (appended p q) h.cell ≡ turn_of q h.cell = turn-right p q t h.cell r.0 in
          let now : turn_of (appended p q) h.cell ≡ h.turn = v.turn in
          omega arith)
    ]
  where
    beyond : IsCovered q h.cell → turn_of p h.cell ≡ 0
    beyond c =
        let long : length p.turns ≡ count p = t.left.turns in let n : q.first ≡ p.first + count p = t.next_to.next in let low : q.first ≤ h.cell = c.0 in
        let from : p.first ≤ h.cell = omega arith in
        rw (le-leb p.first h.cell from) (get_or_past p.turns (h.cell - p.first) 0 (omega arith))

live-right : (p q : CellPool) → AreTwo p q → IsSound p → IsSound q → (h : Hint) → (h.turn < 2 ^ 32 - 1 → h.turn ≤ turn_of q h.cell) → IsLive (appended p q) h → IsLive q h
live-right p q t s u h old v =
    elim (cell-cases p q t h.cell v.cell v.is) [
      | inr r ↦ record { cell = v.cell; is = r.1; turn = sym (turn-right p q t h.cell r.0) ∙ v.turn; fresh = v.fresh }
      | inl l ↦ absurd (let low : h.turn ≤ turn_of q h.cell = old v.fresh in
          let none : turn_of q h.cell ≡ 0 = before l.0 in
          let has : 1 ≤ turn_of p h.cell = s.old.turned h.cell v.cell l.1 in
          let same : turn_of (appended p q) h.cell ≡ turn_of p h.cell = turn-left p q t h.cell l.0 in
          let now : turn_of (appended p q) h.cell ≡ h.turn = v.turn in
          omega arith)
    ]
  where
    before : IsCovered p h.cell → turn_of q h.cell ≡ 0
    before c =
        let n : q.first ≡ p.first + count p = t.next_to.next in let high : h.cell < p.first + count p = c.1 in
        elim (cases_Bool (nat_le q.first h.cell)) [
          | inl low ↦ absurd (let from : q.first ≤ h.cell = leb-true q.first h.cell low in omega arith)
          | inr under ↦ rw under refl
        ]

-- a turn that was had still is
turn-kept_left : (p q : CellPool) → AreTwo p q → (j n : ℕ) → n ≤ turn_of p j → n ≤ turn_of (appended p q) j
turn-kept_left p q t j n le =
    let long : length p.turns ≡ count p = t.left.turns in
    elim (cases_Bool (nat_le p.first j)) [
      | inr under ↦ (let none : turn_of p j ≡ 0 = rw under refl in let zero' : n ≡ 0 = omega arith in subst (λ (k : ℕ). k ≤ turn_of (appended p q) j) (sym zero') (omega arith))
      | inl low ↦ elim (cases_lt j (p.first + count p)) [
        | inl less ↦ (let same : turn_of (appended p q) j ≡ turn_of p j = turn-left p q t j (leb-true p.first j low, less) in omega arith)
        | inr more ↦ (let from : p.first ≤ j = leb-true p.first j low in let none : turn_of p j ≡ 0 = rw low (get_or_past p.turns (j - p.first) 0 (omega arith)) in
            let zero' : n ≡ 0 = omega arith in subst (λ (k : ℕ). k ≤ turn_of (appended p q) j) (sym zero') (omega arith))
      ]
    ]

turn-kept_right : (p q : CellPool) → AreTwo p q → (j n : ℕ) → n ≤ turn_of q j → n ≤ turn_of (appended p q) j
turn-kept_right p q t j n le =
    let long : length q.turns ≡ count q = t.right.turns in
    elim (cases_Bool (nat_le q.first j)) [
      | inr under ↦ (let none : turn_of q j ≡ 0 = rw under refl in let zero' : n ≡ 0 = omega arith in subst (λ (k : ℕ). k ≤ turn_of (appended p q) j) (sym zero') (omega arith))
      | inl low ↦ elim (cases_lt j (q.first + count q)) [
        | inl less ↦ (let same : turn_of (appended p q) j ≡ turn_of q j = turn-right p q t j (leb-true q.first j low, less) in omega arith)
        | inr more ↦ (let from : q.first ≤ j = leb-true q.first j low in let none : turn_of q j ≡ 0 = rw low (get_or_past q.turns (j - q.first) 0 (omega arith)) in
            let zero' : n ≡ 0 = omega arith in subst (λ (k : ℕ). k ≤ turn_of (appended p q) j) (sym zero') (omega arith))
      ]
    ]

-- what is noted at a number of a side
note-side : (p q : CellPool) → AreTwo p q → (xs ys : List (Option Hint)) → length xs ≡ count p → length ys ≡ count q → (i : ℕ) (h : Hint) → entry p.first (xs ++ ys) i ≡ Some h →
    (IsCovered p i × (entry p.first xs i ≡ Some h)) ⊎ (IsCovered q i × (entry q.first ys i ≡ Some h))
note-side p q t xs ys lx ly i h eq =
    let n : q.first ≡ p.first + count p = t.next_to.next in
    let cov = entry-covered p.first (xs ++ ys) i (subst (λ (o : Option Hint). IsSome o) (sym eq) refl) in
    let low : p.first ≤ i = cov.0 in let high : i < p.first + length (xs ++ ys) = cov.1 in let sum = length-append xs ys in
    elim (cases_lt i q.first) [
      | inl less ↦ inl ((low, omega arith), sym (entry-left p q xs ys lx i low (omega arith)) ∙ eq)
      | inr more ↦ inr ((more, omega (arith, sum)), sym (entry-right p q xs ys lx n i more) ∙ eq)
    ]

leaf-left : (p q : CellPool) → AreTwo p q → (x : ℕ) → IsCovered p x → leaf_of (appended p q) x ≡ leaf_of p x
leaf-left p q t x c = entry-left p q p.leafs q.leafs t.left.leafs x c.0 c.1

leaf-right : (p q : CellPool) → AreTwo p q → (x : ℕ) → IsCovered q x → leaf_of (appended p q) x ≡ leaf_of q x
leaf-right p q t x c = entry-right p q p.leafs q.leafs t.left.leafs t.next_to.next x c.0

used-left : (p q : CellPool) → AreTwo p q → (j : ℕ) → IsUsed p j → IsUsed (appended p q) j
used-left p q t j u = let c = used-cell p j u in used-from (appended p q) j c.0 (cell-left p q t j c.0 c.1)

used-right : (p q : CellPool) → AreTwo p q → (j : ℕ) → IsUsed q j → IsUsed (appended p q) j
used-right p q t j u = let c = used-cell q j u in used-from (appended p q) j c.0 (cell-right p q t j c.0 c.1)

-- Two sound pools, one behind the other, are sound.
pub sound-united : (p q : CellPool) → IsPool p → IsPool q → IsNextTo p q → IsSound p → IsSound q → IsSound (appended p q)
sound-united p q pp pq next' s u = record {
  leafs = λ x j cov up. elim (side p q two x cov) [
    | inl l ↦ used-left p q two j (s.leafs x j l (sym (leaf-left p q two x l) ∙ up))
    | inr r ↦ used-right p q two j (u.leafs x j r (sym (leaf-right p q two x r) ∙ up))
  ];
  ups = λ i j c is up. elim (cell-cases p q two i c is) [
    | inl l ↦ (let n = s.ups i j c l.1 up in (n.0, (cell-left p q two j n.0 n.1.0, n.1.1)))
    | inr r ↦ (let n = u.ups i j c r.1 up in (n.0, (cell-right p q two j n.0 n.1.0, n.1.1)))
  ];
  hints = λ i c h is eq v. elim (cell-cases p q two i c is) [
    | inl l ↦ (let at = entry-left p q p.hints q.hints pp.hints i l.0.0 l.0.1 in let eq' = sym at ∙ eq in
        let m = s.hints i c h l.1 eq' (live-left p q two s u h (s.old.hints i h eq') v) in (m.0, met-left p q two m.0 c.up h.cell m.1))
    | inr r ↦ (let at = entry-right p q p.hints q.hints pp.hints next'.next i r.0.0 in let eq' = sym at ∙ eq in
        let m = u.hints i c h r.1 eq' (live-right p q two s u h (u.old.hints i h eq') v) in (m.0, met-right p q two m.0 c.up h.cell m.1))
  ];
  fingers = λ x h cov eq v. elim (side p q two x cov) [
    | inl l ↦ (let at = entry-left p q p.fingers q.fingers pp.fingers x l.0 l.1 in let eq' = sym at ∙ eq in
        let m = s.fingers x h l eq' (live-left p q two s u h (s.old.fingers x h eq') v) in
        (m.0, subst (λ (o : Option ℕ). IsMet (appended p q) m.0 o h.cell) (sym (leaf-left p q two x l)) (met-left p q two m.0 (leaf_of p x) h.cell m.1)))
    | inr r ↦ (let at = entry-right p q p.fingers q.fingers pp.fingers next'.next x r.0 in let eq' = sym at ∙ eq in
        let m = u.fingers x h r eq' (live-right p q two s u h (u.old.fingers x h eq') v) in
        (m.0, subst (λ (o : Option ℕ). IsMet (appended p q) m.0 o h.cell) (sym (leaf-right p q two x r)) (met-right p q two m.0 (leaf_of q x) h.cell m.1)))
  ];
  old = record {
    hints = λ i h eq fresh. elim (note-side p q two p.hints q.hints pp.hints pq.hints i h eq) [
      | inl l ↦ turn-kept_left p q two h.cell h.turn (s.old.hints i h l.1 fresh)
      | inr r ↦ turn-kept_right p q two h.cell h.turn (u.old.hints i h r.1 fresh)
    ];
    fingers = λ x h eq fresh. elim (note-side p q two p.fingers q.fingers pp.fingers pq.fingers x h eq) [
      | inl l ↦ turn-kept_left p q two h.cell h.turn (s.old.fingers x h l.1 fresh)
      | inr r ↦ turn-kept_right p q two h.cell h.turn (u.old.fingers x h r.1 fresh)
    ];
    turned = λ i c is. elim (cell-cases p q two i c is) [
      | inl l ↦ subst (λ (k : ℕ). 1 ≤ k) (sym (turn-left p q two i l.0)) (s.old.turned i c l.1)
      | inr r ↦ subst (λ (k : ℕ). 1 ≤ k) (sym (turn-right p q two i r.0)) (u.old.turned i c r.1)
    ];
  };
}
  where
    two : AreTwo p q
    two = record { left = pp; right = pq; next_to = next' }

-- the left list and the right list lie side by side
lists-aside : (left right : PartState) (s r : EdgeList) → AreTwo left.region right.region → AreUnited left right s r → SideBySide (λ x. nat_lt x right.region.first) s r
lists-aside left right s r t m = record {
  inside = λ e i. (below e.u (m.left_stands.first_ends e i), below e.v (m.left_stands.second_ends e i));
  outside = λ e i. (le-ltb e.u right.region.first (m.right_stands.first_ends e i).0, le-ltb e.v right.region.first (m.right_stands.second_ends e i).0);
  apart = m.apart;
}
  where
    below : (x : ℕ) → IsCovered left.region x → nat_lt x right.region.first ≡ true
    below x c = lt-ltb x right.region.first (let n : right.region.first ≡ left.region.first + count left.region = t.next_to.next in let high : x < left.region.first + count left.region = c.1 in omega arith)

-- the lists, their pools and their links
record AreAside (p q : CellPool) (s r : EdgeList) : Type 0 where
  two : AreTwo p q
  aside : SideBySide (λ x. nat_lt x q.first) s r
  left : AreLinked p s
  right : AreLinked q r
  left_ends : (e : ListedEdge) → IsIn e s → IsCovered p e.u
  right_ends : (e : ListedEdge) → IsIn e r → IsCovered q e.u

chain-left : (p q : CellPool) (s r : EdgeList) → AreAside p q s r → (x : ℕ) → IsCovered p x → chain (s ++ r) x ≡ chain s x
chain-left p q s r m x c = chain-inside (λ y. nat_lt y q.first) s r x m.aside (lt-ltb x q.first (let n : q.first ≡ p.first + count p = m.two.next_to.next in let high : x < p.first + count p = c.1 in omega arith))

chain-right : (p q : CellPool) (s r : EdgeList) → AreAside p q s r → (x : ℕ) → IsCovered q x → chain (s ++ r) x ≡ chain r x
chain-right p q s r m x c = chain-outside (λ y. nat_lt y q.first) s r x m.aside (le-ltb x q.first c.0)

ranks-left : (p q : CellPool) → AreTwo p q → (i k : ℕ) → HasRank p i k → HasRank (appended p q) i k
ranks-left p q t i k h = record { cell = h.cell; is = cell-left p q t i h.cell h.is; has = h.has }

ranks-right : (p q : CellPool) → AreTwo p q → (i k : ℕ) → HasRank q i k → HasRank (appended p q) i k
ranks-right p q t i k h = record { cell = h.cell; is = cell-right p q t i h.cell h.is; has = h.has }

points-left : (p q : CellPool) (s r : EdgeList) → AreAside p q s r → (x k : ℕ) → IsCovered p x → (o : Option ℕ) → Points p o (next s x k) → Points (appended p q) o (next (s ++ r) x k)
points-left p q s r m x k c o h =
    points-kept p (appended p q) (ranks-left p q m.two) o (next (s ++ r) x k)
    (subst (λ (t : EdgeList). Points p o (first_edge (filter (λ e. nat_le k e.rank) t))) (sym (chain-left p q s r m x c)) h)

points-right : (p q : CellPool) (s r : EdgeList) → AreAside p q s r → (x k : ℕ) → IsCovered q x → (o : Option ℕ) → Points q o (next r x k) → Points (appended p q) o (next (s ++ r) x k)
points-right p q s r m x k c o h =
    points-kept q (appended p q) (ranks-right p q m.two) o (next (s ++ r) x k)
    (subst (λ (t : EdgeList). Points q o (first_edge (filter (λ e. nat_le k e.rank) t))) (sym (chain-right p q s r m x c)) h)

joins-chain : (t : EdgeList) (x : ℕ) (e : ListedEdge) → IsIn e (chain t x) → IsIn e (joins t)
joins-chain t x e i = let c = IsIn-chain_kept t x e i in IsIn-joins t e c.member c.joining

of-left : (p q : CellPool) (s r : EdgeList) → AreAside p q s r → (c : Cell) → IsCellOf p s c → IsCellOf (appended p q) (s ++ r) c
of-left p q s r m c h =
    let cov = m.left_ends h.edge (IsIn-joins_kept s h.edge h.joins).0 in
    record {
      edge = h.edge;
      joins = joins-chain (s ++ r) h.edge.u h.edge (subst (λ (t : EdgeList). IsIn h.edge t) (sym (chain-left p q s r m h.edge.u cov)) (own-chain s h.edge h.joins));
      rank = h.rank;
      up = points-left p q s r m h.edge.u (suc h.edge.rank) cov c.up h.up;
    }

of-right : (p q : CellPool) (s r : EdgeList) → AreAside p q s r → (c : Cell) → IsCellOf q r c → IsCellOf (appended p q) (s ++ r) c
of-right p q s r m c h =
    let cov = m.right_ends h.edge (IsIn-joins_kept r h.edge h.joins).0 in
    record {
      edge = h.edge;
      joins = joins-chain (s ++ r) h.edge.u h.edge (subst (λ (t : EdgeList). IsIn h.edge t) (sym (chain-right p q s r m h.edge.u cov)) (own-chain r h.edge h.joins));
      rank = h.rank;
      up = points-right p q s r m h.edge.u (suc h.edge.rank) cov c.up h.up;
    }

clash : (p q : CellPool) (s r : EdgeList) → AreAside p q s r → (b c : Cell) → IsCellOf p s b → IsCellOf q r c → b.rank ≡ c.rank → ⊥
clash p q s r m b c x y e = apart-across s r m.aside.apart x.edge y.edge (IsIn-joins_kept s x.edge x.joins).0 (IsIn-joins_kept r y.edge y.joins).0 (sym x.rank ∙ e ∙ y.rank)

-- the links of both lists together
linked-united : (p q : CellPool) (s r : EdgeList) → AreAside p q s r → AreLinked (appended p q) (s ++ r)
linked-united p q s r m = record {
  leafs = λ x cov. elim (side p q m.two x cov) [
    | inl l ↦ subst (λ (o : Option ℕ). Points (appended p q) o (next (s ++ r) x 0)) (sym (leaf-left p q m.two x l)) (points-left p q s r m x 0 l (leaf_of p x) (m.left.leafs x l))
    | inr o ↦ subst (λ (k : Option ℕ). Points (appended p q) k (next (s ++ r) x 0)) (sym (leaf-right p q m.two x o)) (points-right p q s r m x 0 o (leaf_of q x) (m.right.leafs x o))
  ];
  cells = λ i c is. elim (cell-cases p q m.two i c is) [ inl l ↦ of-left p q s r m c (m.left.cells i c l.1) | inr o ↦ of-right p q s r m c (m.right.cells i c o.1) ];
  alone = λ i j b c eb ec e. elim (cell-cases p q m.two i b eb) [
    | inl l ↦ elim (cell-cases p q m.two j c ec) [
      | inl k ↦ m.left.alone i j b c l.1 k.1 e
      | inr k ↦ absurd (clash p q s r m b c (m.left.cells i b l.1) (m.right.cells j c k.1) e)
    ]
    | inr o ↦ elim (cell-cases p q m.two j c ec) [
      | inl k ↦ absurd (clash p q s r m c b (m.left.cells j c k.1) (m.right.cells i b o.1) (sym e))
      | inr k ↦ m.right.alone i j b c o.1 k.1 e
    ]
  ];
}

-- Two parts that stand for lists side by side stand for both together.
pub stands-united : (left right whole : PartState) (s r : EdgeList) → IsPool left.region → IsPool right.region → IsNextTo left.region right.region → AreUnited left right s r →
    whole.region ≡ appended left.region right.region → whole.given ≡ left.given + right.given → Stands whole (s ++ r)
stands-united left right whole s r pp pq next' m region given =
    Stands-linked whole (s ++ r)
    (record {
      first_ends = λ e i. covered e.u (elim (IsIn-append_back e s r i) [ inl a ↦ inl (m.left_stands.first_ends e a) | inr b ↦ inr (m.right_stands.first_ends e b) ]);
      second_ends = λ e i. covered e.v (elim (IsIn-append_back e s r i) [ inl a ↦ inl (m.left_stands.second_ends e a) | inr b ↦ inr (m.right_stands.second_ends e b) ]);
      two_ends = λ e i. elim (IsIn-append_back e s r i) [ inl a ↦ m.left_stands.two_ends e a | inr b ↦ m.right_stands.two_ends e b ];
      apart = m.apart;
      small = λ e i. elim (IsIn-append_back e s r i) [ inl a ↦ m.left_stands.small e a | inr b ↦ m.right_stands.small e b ];
    })
    (subst (λ (w : CellPool). AreLinked w (s ++ r)) (sym region) (linked-united left.region right.region s r (record {
      two = two;
      aside = lists-aside left right s r two m;
      left = linked-Stands left s m.left_stands;
      right = linked-Stands right r m.right_stands;
      left_ends = m.left_stands.first_ends;
      right_ends = m.right_stands.first_ends;
    })))
    (let a : left.given ≡ length s = m.left_stands.given in let b : right.given ≡ length r = m.right_stands.given in let n = length-append s r in omega (arith, n))
  where
    two : AreTwo left.region right.region
    two = record { left = pp; right = pq; next_to = next' }

    covered : (x : ℕ) → IsCovered left.region x ⊎ IsCovered right.region x → IsCovered whole.region x
    covered x (inl a) = subst (λ (w : CellPool). IsCovered w x) (sym region) (cover-left left.region right.region x a)
    covered x (inr b) = subst (λ (w : CellPool). IsCovered w x) (sym region) (cover-right left.region right.region two x b)

-- parts that can be joined stand side by side
pub united-from : (left right : PartState) (border : List PlacedEdge) (s r : EdgeList) → CanJoin left right border s r → AreUnited left right s r
united-from left right border s r m = record { left_stands = m.left_stands; right_stands = m.right_stands; apart = AreApart-front (s ++ r) (map as_listed border) m.apart }

-- and together can take in the border
pub border-taken : (left right mid : PartState) (border : List PlacedEdge) (s r : EdgeList) → IsPool left.region → IsPool right.region → IsNextTo left.region right.region → CanJoin left right border s r →
    mid.region ≡ appended left.region right.region → Stands mid (s ++ r) → CanTake mid border (s ++ r)
border-taken left right mid border s r pp pq next' m region st = record {
  stands = st;
  a = λ e i. subst (λ (w : CellPool). IsCovered w e.a) (sym region) (elim (m.crosses e i) [ inl c ↦ cover-left left.region right.region e.a c.0 | inr c ↦ cover-right left.region right.region two e.a c.1 ]);
  b = λ e i. subst (λ (w : CellPool). IsCovered w e.b) (sym region) (elim (m.crosses e i) [ inl c ↦ cover-right left.region right.region two e.b c.1 | inr c ↦ cover-left left.region right.region e.b c.0 ]);
  two = λ e i same. elim (m.crosses e i) [
    | inl c ↦ no-both left.region right.region two e.b (subst (λ (x : ℕ). IsCovered left.region x) same c.0) c.1
    | inr c ↦ no-both left.region right.region two e.b c.0 (subst (λ (x : ℕ). IsCovered right.region x) same c.1)
  ];
  apart = m.apart;
}
  where
    two : AreTwo left.region right.region
    two = record { left = pp; right = pq; next_to = next' }

-- how many edges were given in all
pub given-sum : (left right whole : PartState) (border : List PlacedEdge) (s r : EdgeList) → CanJoin left right border s r → Stands whole ((s ++ r) ++ map as_listed border) → whole.given ≡ left.given + right.given + length border
given-sum left right whole border s r m st =
    let a : left.given ≡ length s = m.left_stands.given in let b : right.given ≡ length r = m.right_stands.given in
    let w : whole.given ≡ length ((s ++ r) ++ map as_listed border) = st.given in
    let n = length-append (s ++ r) (map as_listed border) in let k = length-append s r in
    let l : length (map as_listed border) ≡ length border = length-map border as_listed in
    omega (arith, w, n, k, l)

-- two parts side by side were given few edges
pub united-small : (left right : PartState) (s r : EdgeList) → AreUnited left right s r → left.given + right.given ≤ 2 ^ 32
united-small left right s r m =
    let few = few-edges (s ++ r) m.apart (λ e i. elim (IsIn-append_back e s r i) [ inl a ↦ m.left_stands.small e a | inr b ↦ m.right_stands.small e b ]) in
    let a : left.given ≡ length s = m.left_stands.given in let b : right.given ≡ length r = m.right_stands.given in let n = length-append s r in
    omega (arith, few, n)

-- the sums of the united range
pub sums-appended : (left right mid whole : PartState) → mid.region ≡ appended left.region right.region → KeepsRange mid.region whole.region → SumsUp left right whole
sums-appended left right mid whole eq k = record {
  first = k.first ∙ ap (λ (w : CellPool). w.first) eq;
  count = k.count ∙ ap (λ (w : CellPool). length w.cells) eq ∙ length-append left.region.cells right.region.cells;
  chunks = k.chunks ∙ ap (λ (w : CellPool). w.chunks) eq;
  room = k.room ∙ ap (λ (w : CellPool). w.room) eq;
}
