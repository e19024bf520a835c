-- The merge ends: one chain has ended, or both meet at a cell that joins no more.
use Rattle.std.proofs.Common.{◌≡◌, ℕ, suc, ◌+◌, ◌<◌, ◌≤◌, true, inl, inr, refl, sym, ◌∙◌, subst, ap, arith, ◌∷◌}
use Rattle.std.specs.Prelude.{Option, Some, None}
use Rattle.std.proofs.lemmas.Bool.{cases_Bool, cases_order, cases_eq, true≢false, or_left}
use Rattle.edge_laws.specs.Edges.{ListedEdge, EdgeList, AreEnds, Joined, joined, below, joins, next}
use Rattle.hg_base.specs.Lists.{IsIn}
use Rattle.edge_laws.specs.Saliency.{MeetFirst}
use Rattle.edge_laws.proofs.Walks.{IsSame-joined}
use Rattle.edge_laws.proofs.Sets.{joined-same, IsIn-joins, IsIn-joins_kept, IsIn-chain_kept}
use Rattle.edge_laws.proofs.Fronts.{apart-one}
use Rattle.edge_laws.proofs.Components.{rank_above, below-all}
use Rattle.edge_laws.proofs.Members.{IsSameSet-back}
use Rattle.edge_laws.proofs.Next.{IsIn-leaving}
use Rattle.edge_laws.proofs.Firsts.{IsUpTo, IsBefore}
use Rattle.edge_laws.proofs.Splice.{next-joined}
use Rattle.edge_laws.proofs.Merged.{next-row}
use Rattle.edge_laws.proofs.LawForms.{Joined-back}
use Rattle.edge_laws.proofs.Drops.{joins-kept, meets_both, holds}
use Rattle.edge_laws.proofs.Ends.{next-later, next-is, next-quiet, stays-before, reached-leaves, apart-back, ends-apart, Apart, needed, joins-stays, next-neither, next-single, next-both}
use Rattle.node_region.specs.Pool.{CellPool, cell_at, leaf_of}
use Rattle.node_region.specs.declared.cell.Cell.{Cell}
use Rattle.border_climb.specs.Linked.{HasRank, Points, IsCellOf, AreLinked}
use Rattle.border_climb.specs.Splicing.{IsMerging, IsRelinked, IsDropped}
use Rattle.border_climb.proofs.Linked.{cell-edge}
use Rattle.border_climb.proofs.Merging.{KeepsRanks, points-kept, cell-kept, relinked-ranks, relinked-cases, relinked-alone}

-- a link that leads nowhere: nothing comes next
points-none : (pool : CellPool) (w : Option ListedEdge) → Points pool None w → w ≡ None
points-none pool None p = refl
points-none pool (Some f) p = absurd p

-- where nothing more leads out of b's component, a and b stay apart for good
apart-for_good : (e : ListedEdge) (s : EdgeList) (a b k : ℕ) → Apart e s a b k → next s b k ≡ None → (j : ℕ) → k ≤ j → Apart e s a b j
apart-for_good e s a b k m none j up =
    let above : e.rank < k = m.above in
    record {
      apart = m.apart;
      ends = m.ends;
      above = omega arith;
      unjoined = apart-back (below s j) b a
          (stays-before s m.apart.1 b k j a up (subst (λ (o : Option ListedEdge). IsUpTo o j) (sym none) tt) ∙ apart-back (below s k) a b m.unjoined);
    }

-- so no edges of the list join the ends
never-joined : (e : ListedEdge) (s : EdgeList) (a b k : ℕ) → Apart e s a b k → next s b k ≡ None → Joined s e.u e.v → ⊥
never-joined e s a b k m none j =
    let top = rank_above s in
    let far : (f : ListedEdge) → IsIn f s → f.rank < top.0 + k = λ f i. (let low : f.rank < top.0 = top.1 f i in omega arith) in
    let late = apart-for_good e s a b k m none (top.0 + k) (omega arith) in
    true≢false (sym (holds s e.u e.v j) ∙ joined-same s (below s (top.0 + k)) e.u e.v (IsSameSet-back _ _ (below-all s (top.0 + k) far)) ∙ ends-apart e a b m.ends (below s (top.0 + k)) late.unjoined)

-- what came next for a joining edge above still does, where b's chain has ended
single-kept : (e : ListedEdge) (s : EdgeList) (a b k : ℕ) → Apart e s a b k → next s b k ≡ None → (g : ListedEdge) → IsIn g (joins s) → k ≤ g.rank →
    next (e ∷ s) g.u (suc g.rank) ≡ next s g.u (suc g.rank)
single-kept e s a b k m none g i up =
    let late = apart-for_good e s a b k m none (suc g.rank) (omega arith) in
    elim (cases_Bool (joined (below s (suc g.rank)) g.u a)) [
      | inl at_a ↦ next-single e s a b (suc g.rank) late g.u (or_left _ _ at_a)
          (next-later s m.apart.1 b k (suc g.rank) (omega arith) (subst (λ (o : Option ListedEdge). IsUpTo o (suc g.rank)) (sym none) tt) ∙ none)
          ∙ next-row s m.apart.1 a g.u (suc g.rank) ((IsSame-joined (below s (suc g.rank))).back g.u a at_a)
      | inr not_a ↦ elim (cases_Bool (joined (below s (suc g.rank)) g.u b)) [
        | inl at_b ↦ absurd (next-quiet s m.apart.1 b k g (IsIn-joins_kept s g i).0 up (subst (λ (o : Option ListedEdge). IsBefore o g.rank) (sym none) tt)
            (reached-leaves s m.apart.1 g i b ((IsSame-joined (below s (suc g.rank))).back g.u b at_b)))
        | inr not_b ↦ next-neither e s a b (suc g.rank) late g.u not_a not_b
      ]
    ]

-- what a state of the merge says of the ends
pub apart-merging : (pool : CellPool) (e : ListedEdge) (s : EdgeList) (t : ℕ) (first second : Option ℕ) → (m : IsMerging pool e s t first second) → Apart e s m.a m.b (suc m.edge.rank)
apart-merging pool e s t first second m =
    let base : e.rank ≤ m.edge.rank = m.cell.above in
    record { apart = m.cell.apart; ends = m.ends.are; above = omega arith; unjoined = m.ends.unjoined }

-- The second chain has ended: cell t is linked to the first, and the ends weren't joined.
pub close-single : (old new : CellPool) (e : ListedEdge) (s : EdgeList) (t : ℕ) (first : Option ℕ) → IsMerging old e s t first None → IsRelinked old new t first →
    AreLinked new (e ∷ s) × (Joined s e.u e.v → ⊥)
close-single old new e s t first m link = (
  record {
    leafs = λ x cov. subst (λ (o : Option ℕ). Points new o (next (e ∷ s) x 0)) (sym (link.kept.leafs x))
        (points-kept old new (relinked-ranks old new t first link) (leaf_of old x) (next (e ∷ s) x 0) (m.others.leafs x (link.kept.covered x cov)));
    cells = cells;
    alone = relinked-alone old new t first link m.cell.seat.cell m.cell.seat.is m.others.alone;
  },
  never-joined e s m.a m.b (suc m.edge.rank) (apart-merging old e s t first None m) (points-none old _ m.second_link),
)
  where
    here : (d : Cell) → d.rank ≡ m.cell.seat.cell.rank → d.up ≡ first → IsCellOf new (e ∷ s) d
    here d r up =
        let comes : next (e ∷ s) m.edge.u (suc m.edge.rank) ≡ next s m.a (suc m.edge.rank) =
        next-single e s m.a m.b (suc m.edge.rank) (apart-merging old e s t first None m) m.edge.u m.ends.at_end (points-none old _ m.second_link) in
        record {
          edge = m.edge;
          joins = m.cell.joins;
          rank = r ∙ m.cell.seat.has;
          up = subst (λ (o : Option ℕ). Points new o (next (e ∷ s) m.edge.u (suc m.edge.rank))) (sym up)
              (points-kept old new (relinked-ranks old new t first link) first (next (e ∷ s) m.edge.u (suc m.edge.rank))
              (subst (λ (w : Option ListedEdge). Points old first w) (sym comes) m.first_link));
        }

    other : (j : ℕ) (d : Cell) → (j ≡ t → ⊥) → cell_at old j ≡ Some d → IsCellOf new (e ∷ s) d
    other j d unlike eq =
        elim (cases_order d.rank m.edge.rank) [
          | inl same ↦ absurd (unlike (m.others.alone j t d m.cell.seat.cell eq m.cell.seat.is (same ∙ sym m.cell.seat.has)))
          | inr rest ↦ elim rest [
            | inl lower ↦ cell-kept old new (relinked-ranks old new t first link) (e ∷ s) d (m.others.low j d eq lower)
            | inr higher ↦ (let q = m.others.high j d eq higher in
                let r : d.rank ≡ q.edge.rank = q.rank in
                let far = apart-merging old e s t first None m in
                let none = points-none old (next s m.b (suc m.edge.rank)) m.second_link in
                record {
                  edge = q.edge;
                  joins = joins-stays e s m.a m.b q.edge (apart-for_good e s m.a m.b (suc m.edge.rank) far none (suc q.edge.rank) (omega arith)) q.joins;
                  rank = q.rank;
                  up = points-kept old new (relinked-ranks old new t first link) d.up (next (e ∷ s) q.edge.u (suc q.edge.rank))
                      (subst (λ (w : Option ListedEdge). Points old d.up w) (sym (single-kept e s m.a m.b (suc m.edge.rank) far none q.edge q.joins (omega arith))) q.up);
                })
          ]
        ]

    cells : (j : ℕ) (d : Cell) → cell_at new j ≡ Some d → IsCellOf new (e ∷ s) d
    cells j d eq = elim (relinked-cases old new t first link m.cell.seat.cell m.cell.seat.is j d eq) [
      | inl at ↦ here d at.1.0 at.1.1
      | inr off ↦ other j d off.0 off.1
    ]

-- the edge z comes next for both ends, which aren't joined yet
pub record IsMeeting (e : ListedEdge) (s : EdgeList) (a b k : ℕ) (z : ListedEdge) : Type 0 where
  pub far : Apart e s a b k
  pub first : next s a k ≡ Some z
  pub second : next s b k ≡ Some z

-- then it is the first to join them
meets-first : (e : ListedEdge) (s : EdgeList) (a b k : ℕ) (z : ListedEdge) → IsMeeting e s a b k z → MeetFirst s a b z
meets-first e s a b k z m =
    let p = next-is s m.far.apart.1 a k z m.first in
    let q = next-is s m.far.apart.1 b k z m.second in
    meets_both s a b z p.0
    (apart-back (below s z.rank) b a (stays-before s m.far.apart.1 b k z.rank a q.1.1 (subst (λ (o : Option ListedEdge). IsUpTo o z.rank) (sym m.second) (omega arith)) ∙ apart-back (below s k) a b m.far.unjoined))
    p.1.0 q.1.0

-- in either order of the ends
meets-ends : (e : ListedEdge) (s : EdgeList) (a b : ℕ) (z : ListedEdge) → AreEnds e a b → MeetFirst s a b z → MeetFirst s e.u e.v z
meets-ends e s a b z (inl p) m = subst (λ (x : ℕ). MeetFirst s x e.v z) (sym p.0) (subst (λ (y : ℕ). MeetFirst s a y z) (sym p.1) m)
meets-ends e s a b z (inr p) m = subst (λ (x : ℕ). MeetFirst s x e.v z) (sym p.1) (subst (λ (y : ℕ). MeetFirst s b y z) (sym p.0) (record {
  member = m.member;
  behind = λ k lt. Joined-back (below s k) a b (m.behind k lt);
  before = λ k j. m.before k (Joined-back (below s k) b a j);
}))

-- the first edge to join the ends joins no more
drops-out : (e : ListedEdge) (s : EdgeList) (a b k : ℕ) (z : ListedEdge) → IsMeeting e s a b k z → IsIn z (joins (e ∷ s)) → ⊥
drops-out e s a b k z m i =
    let p = next-is s m.far.apart.1 a k z m.first in
    ((joins-kept e s m.far.apart (needed e s a b k m.far) z p.0).0 i).1 (meets-ends e s a b z m.far.ends (meets-first e s a b k z m))

-- another edge that joins, above, still does, and what came next for it still does
meeting-kept : (e : ListedEdge) (s : EdgeList) (a b k : ℕ) (z : ListedEdge) → IsMeeting e s a b k z → (g : ListedEdge) → IsIn g (joins s) → k ≤ g.rank → (g.rank ≡ z.rank → ⊥) →
    IsIn g (joins (e ∷ s)) × (next (e ∷ s) g.u (suc g.rank) ≡ next s g.u (suc g.rank))
meeting-kept e s a b k z m g i up unlike =
    let first = meets-ends e s a b z m.far.ends (meets-first e s a b k z m) in
    let above : e.rank < k = m.far.above in (
      (joins-kept e s m.far.apart (needed e s a b k m.far) g (IsIn-joins_kept s g i).0).1 (i, λ other. unlike (one z g first other)),
      elim (cases_order g.rank z.rank) [
        | inl level ↦ absurd (unlike level)
        | inr rest ↦ elim rest [
          | inl low ↦ below-meeting low
          | inr high ↦ next-joined e s m.far.apart g.u (suc g.rank) (omega arith) (holds (below s (suc g.rank)) e.u e.v (first.behind (suc g.rank) (omega arith)))
        ]
      ],
    )
  where
    one : (y w : ListedEdge) → MeetFirst s e.u e.v y → MeetFirst s e.u e.v w → w.rank ≡ y.rank
    one y w p q =
        let up' : y.rank < suc w.rank = p.before (suc w.rank) (q.behind (suc w.rank) (omega arith)) in
        let down : w.rank < suc y.rank = q.before (suc y.rank) (p.behind (suc y.rank) (omega arith)) in
        omega arith

    quiet : (x : ℕ) → next s x k ≡ Some z → g.rank < z.rank → joined (below s (suc g.rank)) g.u x ≡ true → ⊥
    quiet x comes low at =
        next-quiet s m.far.apart.1 x k g (IsIn-joins_kept s g i).0 up (subst (λ (o : Option ListedEdge). IsBefore o g.rank) (sym comes) low)
        (reached-leaves s m.far.apart.1 g i x ((IsSame-joined (below s (suc g.rank))).back g.u x at))

    below-meeting : g.rank < z.rank → next (e ∷ s) g.u (suc g.rank) ≡ next s g.u (suc g.rank)
    below-meeting low =
        let above : e.rank < k = m.far.above in
        let far : Apart e s a b (suc g.rank) = record {
          apart = m.far.apart;
          ends = m.far.ends;
          above = omega arith;
          unjoined = apart-back (below s (suc g.rank)) b a (stays-before s m.far.apart.1 b k (suc g.rank) a (omega arith) (subst (λ (o : Option ListedEdge). IsUpTo o (suc g.rank)) (sym m.second) (omega arith)) ∙ apart-back (below s k) a b m.far.unjoined);
        } in
        elim (cases_Bool (joined (below s (suc g.rank)) g.u a)) [
          | inl at_a ↦ absurd (quiet a m.first low at_a)
          | inr not_a ↦ elim (cases_Bool (joined (below s (suc g.rank)) g.u b)) [
            | inl at_b ↦ absurd (quiet b m.second low at_b)
            | inr not_b ↦ next-neither e s a b (suc g.rank) far g.u not_a not_b
          ]
        ]

-- both chains come to cell i
meeting-merging : (pool : CellPool) (e : ListedEdge) (s : EdgeList) (t i : ℕ) → (m : IsMerging pool e s t (Some i) (Some i)) → (z : ListedEdge) × (IsMeeting e s m.a m.b (suc m.edge.rank) z × HasRank pool i z.rank)
meeting-merging pool e s t i m = go (next s m.a (suc m.edge.rank)) (next s m.b (suc m.edge.rank)) refl refl m.first_link m.second_link
  where
    go : (v w : Option ListedEdge) → next s m.a (suc m.edge.rank) ≡ v → next s m.b (suc m.edge.rank) ≡ w → Points pool (Some i) v → Points pool (Some i) w →
        (z : ListedEdge) × (IsMeeting e s m.a m.b (suc m.edge.rank) z × HasRank pool i z.rank)
    go None w ev ew p q = absurd p
    go (Some f) None ev ew p q = absurd q
    go (Some f) (Some g) ev ew p q =
        let cells : Some p.cell ≡ Some q.cell = sym p.is ∙ q.is in
        let cells' : p.cell ≡ q.cell = cc in
        let same : f ≡ g = apart-one s m.cell.apart.1 f g (next-is s m.cell.apart.1 m.a (suc m.edge.rank) f ev).0 (next-is s m.cell.apart.1 m.b (suc m.edge.rank) g ew).0
        (sym p.has ∙ ap (λ (c : Cell). c.rank) cells' ∙ q.has) in
        (f, (record { far = apart-merging pool e s t (Some i) (Some i) m; first = ev; second = ew ∙ ap Some (sym same) }, p))

-- Both chains come to one cell: cell t is linked to what stands above it, and its number is given back. The cell's
-- edge was the first to join the ends.
pub close-both : (old mid new : CellPool) (e : ListedEdge) (s : EdgeList) (t i : ℕ) (c : Cell) → IsMerging old e s t (Some i) (Some i) → cell_at old i ≡ Some c → IsRelinked old mid t c.up → IsDropped mid new i →
    AreLinked new (e ∷ s) × ((z : ListedEdge) × (MeetFirst s e.u e.v z × (z.rank ≡ c.rank)))
close-both old mid new e s t i c m is link drop =
    let w = meeting-merging old e s t i m in
    let same : Some w.1.1.cell ≡ Some c = sym w.1.1.is ∙ is in
    let same' : w.1.1.cell ≡ c = cc in
    (links w.0 w.1.0 w.1.1, (w.0, (meets-ends e s m.a m.b w.0 m.ends.are (meets-first e s m.a m.b (suc m.edge.rank) w.0 w.1.0), sym w.1.1.has ∙ ap (λ (y : Cell). y.rank) same')))
  where
    keeps : KeepsRanks old mid
    keeps = relinked-ranks old mid t c.up link

    -- what points at an edge that joins with e points at a cell that stays
    stays : (z : ListedEdge) → IsMeeting e s m.a m.b (suc m.edge.rank) z → HasRank old i z.rank → (f : ListedEdge) → IsIn f (joins (e ∷ s)) → (j : ℕ) → HasRank old j f.rank → HasRank new j f.rank
    stays z meet at f on j h =
        elim (cases_eq j i) [
          | inl same ↦ (let cells : Some h.cell ≡ Some at.cell = sym h.is ∙ ap (λ (n : ℕ). cell_at old n) same ∙ at.is in
              let cells' : h.cell ≡ at.cell = cc in
              let level : f.rank ≡ z.rank = sym h.has ∙ ap (λ (y : Cell). y.rank) cells' ∙ at.has in
              let one : f ≡ z = apart-one (e ∷ s) m.cell.apart f z (IsIn-joins_kept (e ∷ s) f on).0 (inr (next-is s m.cell.apart.1 m.a (suc m.edge.rank) z meet.first).0) level in
              absurd (drops-out e s m.a m.b (suc m.edge.rank) z meet (subst (λ (g : ListedEdge). IsIn g (joins (e ∷ s))) one on)))
          | inr other ↦ (let k = keeps j f.rank h in record { cell = k.cell; is = drop.others j other ∙ k.is; has = k.has })
        ]

    points : (z : ListedEdge) → IsMeeting e s m.a m.b (suc m.edge.rank) z → HasRank old i z.rank → (o : Option ℕ) (x k : ℕ) (v : Option ListedEdge) → next (e ∷ s) x k ≡ v → Points old o v → Points new o v
    points z meet at None x k None eq p = tt
    points z meet at None x k (Some f) eq p = absurd p
    points z meet at (Some j) x k None eq p = absurd p
    points z meet at (Some j) x k (Some f) eq p =
        let n = next-is (e ∷ s) m.cell.apart x k f eq in
        let q = IsIn-chain_kept (e ∷ s) x f (IsIn-leaving (e ∷ s) x f n.0 n.1.0) in
        stays z meet at f (IsIn-joins (e ∷ s) f q.member q.joining) j p

    -- a cell that was there before, other than both
    other : (z : ListedEdge) → IsMeeting e s m.a m.b (suc m.edge.rank) z → HasRank old i z.rank → (j : ℕ) (d : Cell) → (j ≡ t → ⊥) → (j ≡ i → ⊥) → cell_at old j ≡ Some d → IsCellOf new (e ∷ s) d
    other z meet at j d not_t not_i eq =
        elim (cases_order d.rank m.edge.rank) [
          | inl same ↦ absurd (not_t (m.others.alone j t d m.cell.seat.cell eq m.cell.seat.is (same ∙ sym m.cell.seat.has)))
          | inr rest ↦ elim rest [
            | inl lower ↦ (let q = m.others.low j d eq lower in
                record { edge = q.edge; joins = q.joins; rank = q.rank; up = points z meet at d.up q.edge.u (suc q.edge.rank) (next (e ∷ s) q.edge.u (suc q.edge.rank)) refl q.up })
            | inr higher ↦ (let q = m.others.high j d eq higher in
                let r : d.rank ≡ q.edge.rank = q.rank in
                let kept = meeting-kept e s m.a m.b (suc m.edge.rank) z meet q.edge q.joins (omega arith)
                (λ level. not_i (m.others.alone j i d at.cell eq at.is (q.rank ∙ level ∙ sym at.has))) in
                record {
                  edge = q.edge;
                  joins = kept.0;
                  rank = q.rank;
                  up = points z meet at d.up q.edge.u (suc q.edge.rank) (next (e ∷ s) q.edge.u (suc q.edge.rank)) refl
                      (subst (λ (v : Option ListedEdge). Points old d.up v) (sym kept.1) q.up);
                })
          ]
        ]

    -- the cell that was linked
    here : (z : ListedEdge) → IsMeeting e s m.a m.b (suc m.edge.rank) z → HasRank old i z.rank → (d : Cell) → d.rank ≡ m.cell.seat.cell.rank → d.up ≡ c.up → IsCellOf new (e ∷ s) d
    here z meet at d r up =
        let cells : Some at.cell ≡ Some c = sym at.is ∙ is in
        let cells' : at.cell ≡ c = cc in
        let level : c.rank ≡ z.rank = sym (ap (λ (y : Cell). y.rank) cells') ∙ at.has in
        let above : suc m.edge.rank ≤ z.rank = (next-is s m.cell.apart.1 m.a (suc m.edge.rank) z meet.first).1.1 in
        let q = m.others.high i c is (omega arith) in
        let behind : Points old c.up (next s z.u (suc z.rank)) = subst (λ (g : ListedEdge). Points old c.up (next s g.u (suc g.rank)))
        (cell-edge old s m.cell.apart.1 c q z (next-is s m.cell.apart.1 m.a (suc m.edge.rank) z meet.first).0 level) q.up in
        let comes : next (e ∷ s) m.edge.u (suc m.edge.rank) ≡ next s z.u (suc z.rank) = next-both e s m.a m.b (suc m.edge.rank) meet.far m.edge.u m.ends.at_end z meet.first meet.second in
        record {
          edge = m.edge;
          joins = m.cell.joins;
          rank = r ∙ m.cell.seat.has;
          up = subst (λ (o : Option ℕ). Points new o (next (e ∷ s) m.edge.u (suc m.edge.rank))) (sym up)
              (points z meet at c.up m.edge.u (suc m.edge.rank) (next (e ∷ s) m.edge.u (suc m.edge.rank)) refl
              (subst (λ (v : Option ListedEdge). Points old c.up v) (sym comes) behind));
        }

    -- each cell that is left was there in between
    left : (j : ℕ) (d : Cell) → cell_at new j ≡ Some d → (j ≡ i → ⊥) × (cell_at mid j ≡ Some d)
    left j d eq =
        elim (cases_eq j i) [
          | inl same ↦ absurd (none (sym drop.at ∙ ap (λ (n : ℕ). cell_at new n) (sym same) ∙ eq))
          | inr unlike ↦ (unlike, sym (drop.others j unlike) ∙ eq)
        ]
      where
        none : None ≡ Some d → ⊥
        none h = cc

    links : (z : ListedEdge) → IsMeeting e s m.a m.b (suc m.edge.rank) z → HasRank old i z.rank → AreLinked new (e ∷ s)
    links z meet at = record {
      leafs = λ x cov. subst (λ (o : Option ℕ). Points new o (next (e ∷ s) x 0)) (sym (drop.kept.leafs x ∙ link.kept.leafs x))
          (points z meet at (leaf_of old x) x 0 (next (e ∷ s) x 0) refl (m.others.leafs x (link.kept.covered x (drop.kept.covered x cov))));
      cells = λ j d eq. (let l = left j d eq in
          elim (relinked-cases old mid t c.up link m.cell.seat.cell m.cell.seat.is j d l.1) [
            | inl p ↦ here z meet at d p.1.0 p.1.1
            | inr p ↦ other z meet at j d p.0 l.0 p.1
          ]);
      alone = λ j k b d eb ed r. relinked-alone old mid t c.up link m.cell.seat.cell m.cell.seat.is m.others.alone j k b d (left j b eb).1 (left k d ed).1 r;
    }
