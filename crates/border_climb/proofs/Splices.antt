-- The splice as a whole: from the climbs below the new edge's rank to the merged chains.
use Rattle.std.proofs.Common.{◌≡◌, ◌≢◌, ℕ, suc, ◌+◌, ◌-◌, ◌<◌, ◌≤◌, ◌⊎◌, inl, inr, refl, sym, ◌∙◌, subst, ap, arith, ◌∷◌, get_or, length, nat_le, min, ◌^◌, true, false}
use Rattle.std.specs.Prelude.{Option, Some, None, IsSome, IfSome, filter}
use Rattle.std.proofs.lemmas.Bool.{cases_Bool, cases_eq, cases_order, false_from_ne_true, le-leb, leb-true}
use Rattle.std.proofs.lemmas.List.{get_or-set_same, get_or-set_other}
use Rattle.edge_laws.specs.Edges.{ListedEdge, EdgeList, AreApart, joined, below, first_edge, next}
use Rattle.hg_base.specs.Lists.{IsIn}
use Rattle.edge_laws.specs.Placed.{placed}
use Rattle.hg_base.specs.declared.graph.PlacedEdge.{PlacedEdge}
use Rattle.edge_laws.specs.Splice.{IsRedundant}
use Rattle.edge_laws.proofs.Walks.{IsSame-joined, Joined-joined}
use Rattle.edge_laws.proofs.Sets.{IsIn-chain}
use Rattle.edge_laws.proofs.Fronts.{apart-one, joined-meet, MeetBelow}
use Rattle.edge_laws.proofs.Leaving.{leaves, row-same}
use Rattle.edge_laws.proofs.Next.{IsIn-leaving_kept}
use Rattle.edge_laws.proofs.Firsts.{IsBefore}
use Rattle.edge_laws.proofs.Merged.{next-row}
use Rattle.edge_laws.proofs.Meeting.{joined-by}
use Rattle.edge_laws.proofs.Drops.{joins-redundant, chain-redundant}
use Rattle.edge_laws.proofs.Ends.{IsBefore-to, next-is, next-quiet}
use Rattle.node_region.specs.Pool.{CellPool, IsPool, IsCovered, IsUsed, leaf_of, turn_of, hint_of, finger_of, next_turn, with_taken}
use Rattle.node_region.specs.declared.cell.Cell.{Cell}
use Rattle.node_region.specs.declared.cell.Hint.{Hint}
use Rattle.border_climb.specs.declared.given.Given.{Given}
use Rattle.border_climb.specs.declared.given.Given.TheVariants as answers
use Rattle.border_climb.specs.Stands.{IsMet}
use Rattle.border_climb.specs.Linked.{HasRank, Points, AreLinked}
use Rattle.border_climb.specs.Notes.{IsLive, IsSound, LeadsUp, AreNoted}
use Rattle.border_climb.specs.Splicing.{IsLastCell, IsLast, IsOpened, IsSeam, IsMerged, IsLinkedList, IsSpliced, CanOpen, up_of}
use Rattle.border_climb.specs.Climbs.{EndsClimb, IsTop, DiffersInNotes, opened_pool}
use Rattle.border_climb.proofs.Linked.{cell-edge, next-behind, chain-met, linked-from}
use Rattle.border_climb.proofs.Merging.{points-kept, cell-kept}
use Rattle.border_climb.proofs.Opening.{opening, last-one}
use Rattle.border_climb.proofs.Pools.{entry-cases, SameLinks, links-differs, rank-same, met-same, one-cell}
use Rattle.border_climb.proofs.Ways.{ends-same}
use Rattle.border_climb.proofs.Seams.{noted-after, noted-sound, sound-noted_list}
use Rattle.border_climb.proofs.Opens.{opened-with}
use Rattle.border_climb.proofs.Writes.{seam-at}

-- a link that leads to no cell of rank below r leads beyond r
ends-after : (pool : CellPool) (s : EdgeList) (o : Option ℕ) (r : ℕ) (w : Option ListedEdge) → Points pool o w → EndsClimb pool o r → ((f : ListedEdge) → w ≡ Some f → f.rank ≢ r) → IsBefore w r
ends-after pool s o r None p e fresh = tt
ends-after pool s None r (Some f) p e fresh = absurd p
ends-after pool s (Some j) r (Some f) p e fresh =
    let b = e j refl in
    let same : b.0 ≡ p.cell = one-cell pool j b.0 p.cell b.1.0 p.is in
    let level : b.0.rank ≡ f.rank = ap (λ (c : Cell). c.rank) same ∙ p.has in
    let up : r ≤ b.0.rank = b.1.1 in
    let unlike : f.rank ≢ r = fresh f refl in
    grind (arith, level, up, unlike)

-- the top of a climb is the last cell below r on the chain
pub top-last : (pool : CellPool) (s : EdgeList) → AreApart s → AreLinked pool s → (x r : ℕ) → IsCovered pool x → ((f : ListedEdge) → IsIn f s → f.rank ≢ r) → (o : Option ℕ) → IsTop pool x r o → IsLast pool s x r o
top-last pool s h l x r cov fresh None top =
    ends-after pool s (leaf_of pool x) r (next s x 0) (l.leafs x cov) top (λ f eq. fresh f (next-is s h x 0 f eq).0)
top-last pool s h l x r cov fresh (Some i) top =
    let f = chain-met pool s h 0 (linked-from pool s l 0) top.links x 0 (leaf_of pool x) (next s x 0) (omega arith) refl (l.leafs x cov) i top.met top.cell top.is in
    let out = IsIn-leaving_kept s x f.0 f.1.0 in
    let q = l.cells i top.cell top.is in
    let up : Points pool top.cell.up (next s x (suc f.0.rank)) = subst (λ (w : Option ListedEdge). Points pool top.cell.up w) (sym (next-behind s h x f.0 out.0 out.1))
    (subst (λ (g : ListedEdge). Points pool top.cell.up (next s g.u (suc g.rank))) (cell-edge pool s h top.cell q f.0 out.0 f.1.1.1) q.up) in
    let low : top.cell.rank < r = top.low in
    let level : top.cell.rank ≡ f.0.rank = f.1.1.1 in
    record {
      edge = f.0;
      on_chain = f.1.0;
      seat = record { cell = top.cell; is = top.is; has = f.1.1.1 };
      low = omega arith;
      last = ends-after pool s top.cell.up r (next s x (suc f.0.rank)) up top.last (λ g eq. fresh g (next-is s h x (suc f.0.rank) g eq).0);
    }

-- one last cell below both ends: edges of lower rank join them
pub one-last : (pool : CellPool) (s : EdgeList) → AreApart s → (a b r i : ℕ) → IsLastCell pool s a r i → IsLastCell pool s b r i → joined (below s r) a b ≡ true
one-last pool s h a b r i p q =
    let pa = IsIn-leaving_kept s a p.edge p.on_chain in
    let qb = IsIn-leaving_kept s b q.edge q.on_chain in
    let cells : p.seat.cell ≡ q.seat.cell = one-cell pool i p.seat.cell q.seat.cell p.seat.is q.seat.is in
    let same : q.edge ≡ p.edge = apart-one s h q.edge p.edge qb.0 pa.0 (sym q.seat.has ∙ sym (ap (λ (c : Cell). c.rank) cells) ∙ p.seat.has) in
    joined-by s a b p.edge r pa.0 pa.1 (subst (λ (f : ListedEdge). leaves s b f ≡ true) same qb.1) p.low

-- edges of lower rank join two different places: they have one last cell
pub joined-last : (pool : CellPool) (s : EdgeList) → AreApart s → AreLinked pool s → (a b r : ℕ) → a ≢ b → (first second : Option ℕ) → IsLast pool s a r first → IsLast pool s b r second → joined (below s r) a b ≡ true →
    (i : ℕ) × ((first ≡ Some i) × (second ≡ Some i))
joined-last pool s h l a b r two first second p q j = go (joined-meet s h r a b j)
  where
    at : (g : ListedEdge) → IsIn g s → leaves s a g ≡ true → leaves s b g ≡ true → g.rank < r → (o : Option ℕ) → IsLast pool s a r o → (i : ℕ) × ((o ≡ Some i) × (second ≡ Some i))
    at g i ga gb low None last = absurd (next-quiet s h a 0 g i (omega arith) (IsBefore-to (next s a 0) g.rank r (omega arith) last) ga)
    at g i ga gb low (Some k) last =
        let f = last.edge in
        let out = IsIn-leaving_kept s a last.edge last.on_chain in
        let less : last.edge.rank < r = last.low in
        elim (cases_order g.rank last.edge.rank) [
          | inl level ↦ here (last.edge) k last.seat out.0 (subst (λ (e : ListedEdge). leaves s b e ≡ true) (apart-one s h g last.edge i out.0 level) gb) last.low
              (subst (λ (w : Option ListedEdge). IsBefore w r) (next-row s h a b (suc last.edge.rank) (joined-by s a b g (suc last.edge.rank) i ga gb (omega arith))) last.last)
          | inr rest ↦ elim rest [
            | inl before ↦ (let joined_by_then : joined (below s last.edge.rank) a b ≡ true = joined-by s a b g last.edge.rank i ga gb before in
                let same = IsSame-joined (below s last.edge.rank) in
                let back : joined (below s last.edge.rank) b a ≡ true = same.back a b joined_by_then in
                here (last.edge) k last.seat out.0
                (rw (row-same (joined (below s last.edge.rank)) same b a last.edge.u back, row-same (joined (below s last.edge.rank)) same b a last.edge.v back) out.1) last.low
                (subst (λ (w : Option ListedEdge). IsBefore w r) (next-row s h a b (suc last.edge.rank) (joined-by s a b g (suc last.edge.rank) i ga gb (omega arith))) last.last))
            | inr after ↦ absurd (next-quiet s h a (suc last.edge.rank) g i (omega arith) (IsBefore-to (next s a (suc last.edge.rank)) g.rank r (omega arith) last.last) ga)
          ]
        ]
      where
        here : (e : ListedEdge) (k : ℕ) → HasRank pool k e.rank → IsIn e s → leaves s b e ≡ true → e.rank < r → IsBefore (next s b (suc e.rank)) r → (i : ℕ) × ((Some k ≡ Some i) × (second ≡ Some i))
        here e k seat i out low before = (k, (refl, last-one pool s h l b r second q e i out low before k seat))

    go : (a ≡ b) ⊎ MeetBelow s r a b → (i : ℕ) × ((first ≡ Some i) × (second ≡ Some i))
    go (inl same) = absurd (two same)
    go (inr m) =
        let x = IsIn-leaving_kept s a m.edge (IsIn-chain s a m.edge m.first) in
        let y = IsIn-leaving_kept s b m.edge (IsIn-chain s b m.edge m.second) in
        at m.edge x.0 x.1 y.1 m.low first p

-- what a later change of notes alone leaves
pub linked-same : (p q : CellPool) → SameLinks p q → (s : EdgeList) → AreLinked p s → AreLinked q s
linked-same p q same s l = record {
  leafs = λ x cov. subst (λ (o : Option ℕ). Points q o (next s x 0)) (sym (same.leafs x)) (points-kept p q (rank-same p q same) (leaf_of p x) (next s x 0) (l.leafs x (same.covered x cov)));
  cells = λ i c is. cell-kept p q (rank-same p q same) s c (l.cells i c (sym (same.cells i) ∙ is));
  alone = λ i j b c eb ec r. l.alone i j b c (sym (same.cells i) ∙ eb) (sym (same.cells j) ∙ ec) r;
}

pub last-same : (p q : CellPool) → SameLinks p q → (s : EdgeList) (x r : ℕ) (o : Option ℕ) → IsLast p s x r o → IsLast q s x r o
last-same p q same s x r None last = last
last-same p q same s x r (Some i) last = record { edge = last.edge; on_chain = last.on_chain; seat = rank-same p q same i last.edge.rank last.seat; low = last.low; last = last.last }

pub top-used : (pool : CellPool) (x r : ℕ) (o : Option ℕ) → IsTop pool x r o → IfSome o (IsUsed pool)
top-used pool x r None top = tt
top-used pool x r (Some i) top = subst (λ (c : Option Cell). IsSome c) (sym top.is) refl

pub used-same : (p q : CellPool) → SameLinks p q → (o : Option ℕ) → IfSome o (IsUsed p) → IfSome o (IsUsed q)
used-same p q same None used = tt
used-same p q same (Some i) used = subst (λ (c : Option Cell). IsSome c) (sym (same.cells i)) used

-- how often a number was taken, after one was
turn-cases : (p : CellPool) (id : ℕ) (c : Cell) → IsPool p → IsCovered p id → (j : ℕ) → ((j ≡ id) × (turn_of (with_taken p id c) j ≡ next_turn (turn_of p id))) ⊎ ((j ≢ id) × (turn_of (with_taken p id c) j ≡ turn_of p j))
turn-cases p id c pool cov j =
    let long : length p.turns ≡ length p.cells = pool.turns in
    let low : p.first ≤ id = cov.0 in
    let high : id < p.first + length p.cells = cov.1 in
    elim (cases_eq j id) [
      | inl same ↦ inl (same, ap (λ (y : ℕ). turn_of (with_taken p id c) y) same ∙ rw (le-leb p.first id low) (get_or-set_same p.turns (id - p.first) (min (get_or p.turns (id - p.first) 0 + 1) (2 ^ 32 - 1)) 0 (omega arith)))
      | inr other ↦ inr (
        other,
        elim (cases_Bool (nat_le p.first j)) [
          | inl from ↦ (let from' : p.first ≤ j = leb-true p.first j from in rw from (get_or-set_other p.turns (id - p.first) (j - p.first) (next_turn (turn_of p id)) 0 (λ same. other (omega arith))))
          | inr under ↦ rw under refl
        ],
      )
    ]

-- the notes of the list are still of the list after a free number was taken
pub noted-opened : (p : CellPool) (a b : ℕ) (first second : Option ℕ) (id rank : ℕ) → CanOpen p a b first second id → (s : EdgeList) → AreNoted p s → AreNoted (opened_pool p a b first second id rank) s
noted-opened p a b first second id rank m s n =
    same_fields first second
  where
    cov : IsCovered p id
    cov = m.pool_is.free_is_covered id m.free

    open' : IsOpened p (opened_pool p a b first second id rank) a b first second id rank
    open' = opened-with p a b first second id rank m

    cell : Cell
    cell = record { rank = rank; up = None }

    -- a note that is live now was before, and isn't of the new cell
    before : (q : CellPool) → ((j : ℕ) → turn_of q j ≡ turn_of (with_taken p id (record { rank = rank; up = None })) j) → IsOpened p q a b first second id rank → (h : Hint) →
        (h.turn < 2 ^ 32 - 1 → h.turn ≤ turn_of p h.cell) → (v : IsLive q h) → (w : IsLive p h) × (w.cell.rank ≡ v.cell.rank)
    before q turns o h old v =
        elim (turn-cases p id (record { rank = rank; up = None }) m.pool_is cov h.cell) [
          | inl own ↦ absurd (let t : turn_of q h.cell ≡ h.turn = v.turn in
              let u : turn_of q h.cell ≡ next_turn (turn_of p id) = turns h.cell ∙ own.1 in
              let f : h.turn < 2 ^ 32 - 1 = v.fresh in
              let le : h.turn ≤ turn_of p h.cell = old f in
              let at : turn_of p h.cell ≡ turn_of p id = ap (λ (j : ℕ). turn_of p j) own.0 in
              omega arith)
          | inr off ↦ (let c = o.cells h.cell v.cell off.0 v.is in
              (record { cell = c.before; is = c.is; turn = sym off.1 ∙ sym (turns h.cell) ∙ v.turn; fresh = v.fresh }, sym c.rank))
        ]

    -- turns never fall below a note's
    later : (q : CellPool) → ((j : ℕ) → turn_of q j ≡ turn_of (with_taken p id (record { rank = rank; up = None })) j) → (h : Hint) → (h.turn < 2 ^ 32 - 1 → h.turn ≤ turn_of p h.cell) → h.turn < 2 ^ 32 - 1 → h.turn ≤ turn_of q h.cell
    later q turns h old fresh =
        let le : h.turn ≤ turn_of p h.cell = old fresh in
        elim (turn-cases p id (record { rank = rank; up = None }) m.pool_is cov h.cell) [
          | inl own ↦ (let u : turn_of q h.cell ≡ next_turn (turn_of p id) = turns h.cell ∙ own.1 in
              let at : turn_of p h.cell ≡ turn_of p id = ap (λ (j : ℕ). turn_of p j) own.0 in omega arith)
          | inr off ↦ (let u : turn_of q h.cell ≡ turn_of p h.cell = turns h.cell ∙ off.1 in omega arith)
        ]

    all : (q : CellPool) → ((j : ℕ) → turn_of q j ≡ turn_of (with_taken p id (record { rank = rank; up = None })) j) → ((i : ℕ) → hint_of q i ≡ hint_of (with_taken p id (record { rank = rank; up = None })) i) →
        ((x : ℕ) → finger_of q x ≡ finger_of p x) → IsOpened p q a b first second id rank → AreNoted q s
    all q turns hints fingers o = record {
      hints = λ i c h is eq v. (let k = hint i h (sym (hints i) ∙ eq) in
          let own = o.cells i c k.0 is in
          let w = before q turns o h (n.old.hints i h k.1) v in
          subst (λ (r : ℕ). LeadsUp s c.rank r) w.1 (subst (λ (r : ℕ). LeadsUp s r w.0.cell.rank) (sym own.rank) (n.hints i own.before h own.is k.1 w.0)));
      fingers = λ x h cov' eq v. (let eq' = sym (fingers x) ∙ eq in
          let w = before q turns o h (n.old.fingers x h eq') v in
          let f = n.fingers x h (o.covered x cov') eq' w.0 in
          (f.0, (f.1.0, sym w.1 ∙ f.1.1)));
      old = record {
        hints = λ i h eq fresh. (let k = hint i h (sym (hints i) ∙ eq) in later q turns h (n.old.hints i h k.1) fresh);
        fingers = λ x h eq fresh. later q turns h (n.old.fingers x h (sym (fingers x) ∙ eq)) fresh;
        turned = λ i c is. elim (turn-cases p id (record { rank = rank; up = None }) m.pool_is cov i) [
          | inl own ↦ (let t : turn_of q i ≡ next_turn (turn_of p id) = turns i ∙ own.1 in omega arith)
          | inr off ↦ (let was = o.cells i c off.0 is in subst (λ (k : ℕ). 1 ≤ k) (sym (turns i ∙ off.1)) (n.old.turned i was.before was.is))
        ];
      };
    }
      where
        hint : (i : ℕ) (h : Hint) → hint_of (with_taken p id (record { rank = rank; up = None })) i ≡ Some h → (i ≢ id) × (hint_of p i ≡ Some h)
        hint i h eq = elim (entry-cases p.first p.hints id None i h cov.0 eq) [ inl own ↦ absurd (empty own.1) | inr off ↦ off ]
          where
            empty : None ≡ Some h → ⊥
            empty e = cc

    same_fields : (f g : Option ℕ) → AreNoted (opened_pool p a b first second id rank) s
    same_fields f g = all (opened_pool p a b first second id rank) (λ j. turns first second j) (λ i. hints first second i) (λ x. fingers first second x) open'
      where
        turns : (f g : Option ℕ) (j : ℕ) → turn_of (opened_pool p a b f g id rank) j ≡ turn_of (with_taken p id (record { rank = rank; up = None })) j
        turns None None j = refl
        turns None (Some k) j = refl
        turns (Some i) None j = refl
        turns (Some i) (Some k) j = refl

        hints : (f g : Option ℕ) (j : ℕ) → hint_of (opened_pool p a b f g id rank) j ≡ hint_of (with_taken p id (record { rank = rank; up = None })) j
        hints None None j = refl
        hints None (Some k) j = refl
        hints (Some i) None j = refl
        hints (Some i) (Some k) j = refl

        fingers : (f g : Option ℕ) (j : ℕ) → finger_of (opened_pool p a b f g id rank) j ≡ finger_of p j
        fingers None None j = refl
        fingers None (Some k) j = refl
        fingers (Some i) None j = refl
        fingers (Some i) (Some k) j = refl

-- a placed edge as an edge of a list
abbrev pub listed : PlacedEdge → ListedEdge
listed e = record { rank = e.rank; u = e.a; v = e.b; weight = 0; number = 0 }

-- the pool before and after the climbs, and what they met
pub record AreClimbed (p q : CellPool) (a b r : ℕ) (first second : Option ℕ) : Type 0 where
  pub a_covered : IsCovered p a
  pub b_covered : IsCovered p b
  pub two : a ≢ b
  pub same : SameLinks p q
  pub sound : IsSound q
  pub first_top : IsTop p a r first
  pub second_top : IsTop q b r second

-- what the climbs met, on the chains of a list
first-last : (p q : CellPool) (a b r : ℕ) (first second : Option ℕ) → AreClimbed p q a b r first second → (s : EdgeList) → IsLinkedList p s r → IsLast q s a r first
first-last p q a b r first second m s l =
    last-same p q m.same s a r first (top-last p s l.between.apart l.links a r m.a_covered l.fresh first m.first_top)

second-last : (p q : CellPool) (a b r : ℕ) (first second : Option ℕ) → AreClimbed p q a b r first second → (s : EdgeList) → IsLinkedList p s r → IsLast q s b r second
second-last p q a b r first second m s l =
    top-last q s l.between.apart (linked-same p q m.same s l.links) b r (m.same.still_covered b m.b_covered) l.fresh second m.second_top

-- e and the list have different ranks
pub fresh-apart : (e : ListedEdge) (s : EdgeList) → AreApart s → ((f : ListedEdge) → IsIn f s → f.rank ≢ e.rank) → AreApart (e ∷ s)
fresh-apart e s h fresh = (λ f i r. fresh f i (sym r), h)

-- both climbs end at one cell: the edge is redundant
pub tells-one : (p q : CellPool) (e : ListedEdge) (first second : Option ℕ) → AreClimbed p q e.u e.v e.rank first second → (i : ℕ) → first ≡ Some i → second ≡ Some i → (s : EdgeList) → IsLinkedList p s e.rank → IsRedundant e s
tells-one p q e first second m i one two s l =
    Joined-joined (below s e.rank) e.u e.v (one-last q s l.between.apart e.u e.v e.rank i
    (subst (λ (o : Option ℕ). IsLast q s e.u e.rank o) one (first-last p q e.u e.v e.rank first second m s l))
    (subst (λ (o : Option ℕ). IsLast q s e.v e.rank o) two (second-last p q e.u e.v e.rank first second m s l)))

-- else it isn't, and the two chains are ready to be merged
pub opens-seam : (p q new : CellPool) (e : ListedEdge) (first second : Option ℕ) (id : ℕ) → AreClimbed p q e.u e.v e.rank first second → ((i : ℕ) → first ≡ Some i → second ≡ Some i → ⊥) → CanOpen q e.u e.v first second id →
    new ≡ opened_pool q e.u e.v first second id e.rank → (s : EdgeList) → IsLinkedList p s e.rank → IsSeam new e s id (up_of q e.u first) (up_of q e.v second)
opens-seam p q new e first second id m unlike can eq s l =
    let links = linked-same p q m.same s l.links in
    let first_last = first-last p q e.u e.v e.rank first second m s l in
    let second_last = second-last p q e.u e.v e.rank first second m s l in
    let unjoined : joined (below s e.rank) e.u e.v ≡ false = false_from_ne_true (joined (below s e.rank) e.u e.v) (λ j.
    let w = joined-last q s l.between.apart links e.u e.v e.rank m.two first second first_last second_last j in unlike w.0 w.1.0 w.1.1) in
    let opened = opened-with q e.u e.v first second id e.rank can in
    subst (λ (w : CellPool). IsSeam w e s id (up_of q e.u first) (up_of q e.v second)) (sym eq) (record {
      merging = opening q (opened_pool q e.u e.v first second id e.rank) e s first second id (record {
        links = links;
        apart = fresh-apart e s l.between.apart l.fresh;
        first_end = can.a_covered;
        second_end = can.b_covered;
        first_last = first_last;
        second_last = second_last;
        unjoined = unjoined;
        opened = opened;
      });
      noted = noted-opened q e.u e.v first second id e.rank can s (sound-noted_list q s l.between.apart links m.sound);
    })

-- after the merge all is sound
pub merged-sound : (new : CellPool) (e : ListedEdge) (s : EdgeList) (answer : Given) → AreApart (e ∷ s) → IsMerged new e s answer → IsSound new
merged-sound new e s answer h m = noted-sound new (e ∷ s) h m.links (noted-after new e s h m.links m.noted)

links-on : (p q w : CellPool) → SameLinks p q → SameLinks q w → SameLinks p w
links-on p q w a b = record {
  cells = λ i. b.cells i ∙ a.cells i;
  leafs = λ x. b.leafs x ∙ a.leafs x;
  turns = λ i. b.turns i ∙ a.turns i;
  covered = λ x c. a.covered x (b.covered x c);
  still_covered = λ x c. b.still_covered x (a.still_covered x c);
}

top-same : (p q : CellPool) → SameLinks p q → (x r : ℕ) (o : Option ℕ) → IsTop p x r o → IsTop q x r o
top-same p q same x r None top = ends-same p q same (leaf_of q x) r (subst (λ (o : Option ℕ). EndsClimb p o r) (sym (same.leafs x)) top)
top-same p q same x r (Some i) top = record {
  links = top.links;
  met = subst (λ (o : Option ℕ). IsMet q top.links o i) (sym (same.leafs x)) (met-same p q same top.links (leaf_of p x) i top.met);
  cell = top.cell;
  is = same.cells i ∙ top.is;
  low = top.low;
  last = ends-same p q same top.cell.up r top.last;
}

-- the two climbs, one after the other
pub climbed : (p q w : CellPool) (e : PlacedEdge) (first second : Option ℕ) → IsCovered p e.a → IsCovered p e.b → e.a ≢ e.b → DiffersInNotes p q → DiffersInNotes q w → IsSound w → IsTop p e.a e.rank first → IsTop q e.b e.rank second →
    AreClimbed p w e.a e.b e.rank first second
climbed p q w e first second a b two one other sound first_top second_top = record {
  a_covered = a;
  b_covered = b;
  two = two;
  same = links-on p q w (links-differs p q one) (links-differs q w other);
  sound = sound;
  first_top = first_top;
  second_top = top-same q w (links-differs q w other) e.b e.rank second second_top;
}

-- a list stays linked where only notes differ
pub list-same : (p q : CellPool) → SameLinks p q → (s : EdgeList) (r : ℕ) → IsLinkedList p s r → IsLinkedList q s r
list-same p q same s r l = record {
  between = record {
    first_ends = λ e i. same.still_covered e.u (l.between.first_ends e i);
    second_ends = λ e i. same.still_covered e.v (l.between.second_ends e i);
    two_ends = l.between.two_ends;
    apart = l.between.apart;
    small = l.between.small;
  };
  links = linked-same p q same s l.links;
  fresh = l.fresh;
}

-- the seam that was opened
pub opened-seam : (p q new : CellPool) (e : PlacedEdge) (first second : Option ℕ) (last : ℕ) (third fourth : Option ℕ) → AreClimbed p q e.a e.b e.rank first second → ((i : ℕ) → first ≡ Some i → second ≡ Some i → ⊥) →
    CanOpen q e.a e.b first second last → new ≡ opened_pool q e.a e.b first second last e.rank → third ≡ up_of q e.a first → fourth ≡ up_of q e.b second →
    (f : ListedEdge) (s : EdgeList) → placed f ≡ e → IsLinkedList p s e.rank → IsSeam new f s last third fourth
opened-seam p q new e first second last third fourth m unlike can eq at at' f s is l =
    (subst (λ (g : PlacedEdge). AreClimbed p q g.a g.b g.rank first second → CanOpen q g.a g.b first second last → new ≡ opened_pool q g.a g.b first second last g.rank → third ≡ up_of q g.a first → fourth ≡ up_of q g.b second → IsLinkedList p s g.rank →
    IsSeam new f s last third fourth) is
    (λ m' can' eq' t t' l'. seam-at new f s last (up_of q f.u first) (up_of q f.v second) third fourth (opens-seam p q new f first second last m' unlike can' eq' s l') (sym t) (sym t'))) m can eq at at' l

-- a redundant edge changes no link
redundant-links : (p : CellPool) (e : ListedEdge) (s : EdgeList) → AreApart (e ∷ s) → IsRedundant e s → AreLinked p s → AreLinked p (e ∷ s)
redundant-links p e s h r l = record {
  leafs = λ x cov. subst (λ (c : EdgeList). Points p (leaf_of p x) (first_edge (filter (λ f. nat_le 0 f.rank) c))) (sym (chain-redundant e s h r x)) (l.leafs x cov);
  cells = λ i c is. (let q = l.cells i c is in record {
    edge = q.edge;
    joins = subst (λ (t : EdgeList). IsIn q.edge t) (sym (joins-redundant e s h r)) q.joins;
    rank = q.rank;
    up = subst (λ (t : EdgeList). Points p c.up (first_edge (filter (λ f. nat_le (suc q.edge.rank) f.rank) t))) (sym (chain-redundant e s h r q.edge.u)) q.up;
  });
  alone = l.alone;
}

-- both climbs end at one cell
pub spliced-one : (p q : CellPool) (e : PlacedEdge) (first second : Option ℕ) → AreClimbed p q e.a e.b e.rank first second → (i : ℕ) → first ≡ Some i → second ≡ Some i →
    (f : ListedEdge) (s : EdgeList) → placed f ≡ e → IsLinkedList p s e.rank → IsSpliced q f s answers.Redundant
spliced-one p q e first second m i one two f s is l =
    (subst (λ (g : PlacedEdge). AreClimbed p q g.a g.b g.rank first second → IsLinkedList p s g.rank → IsSpliced q f s answers.Redundant) is
    (λ m' l'. let r = tells-one p q f first second m' i one two s l' in
    record { links = redundant-links q f s (fresh-apart f s l'.between.apart l'.fresh) r (linked-same p q m'.same s l'.links); told = r })) m l

-- what a merge leaves
pub spliced-merged : (new : CellPool) (f : ListedEdge) (s : EdgeList) (answer : Given) → IsMerged new f s answer → IsSpliced new f s answer
spliced-merged new f s answer m = record { links = m.links; told = m.told }
