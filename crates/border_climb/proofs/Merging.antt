-- Two chains are merged above a new edge, run by run.
use Rattle.std.proofs.Common.{◌≡◌, ℕ, suc, ◌<◌, ◌≤◌, true, false, ◌⊎◌, inl, inr, refl, sym, ◌∙◌, subst, ap, arith, ◌∷◌}
use Rattle.std.specs.Prelude.{Option, Some, None}
use Rattle.std.proofs.lemmas.Bool.{cases_Bool, cases_order, cases_eq, or_left}
use Rattle.edge_laws.specs.Edges.{ListedEdge, EdgeList, AreEnds, AreApart, joined, below, joins, chain, next}
use Rattle.hg_base.specs.Lists.{IsIn}
use Rattle.edge_laws.proofs.Walks.{IsSame-joined}
use Rattle.edge_laws.proofs.Sets.{IsIn-joins, IsIn-joins_kept, IsOnChain, IsIn-chain_kept}
use Rattle.edge_laws.proofs.Next.{IsIn-leaving_kept}
use Rattle.edge_laws.proofs.Firsts.{IsUpTo, IsBefore}
use Rattle.edge_laws.proofs.Merged.{next-row, joined-to_end}
use Rattle.edge_laws.proofs.Ends.{IsBefore-to, IsUpTo-after, next-later, next-quiet, next-some, stays-before, reached-leaves, apart-back, Apart, joins-stays, or-turned, next-neither, next-lower}
use Rattle.node_region.specs.Pool.{CellPool, cell_at, leaf_of}
use Rattle.node_region.specs.declared.cell.Cell.{Cell}
use Rattle.border_climb.specs.Linked.{HasRank, Points, IsCellOf}
use Rattle.border_climb.specs.Splicing.{IsMerging, IsRelinked}
use Rattle.border_climb.proofs.Linked.{cell-edge, next-behind}

-- each number with a cell still has one of that rank
abbrev pub KeepsRanks : CellPool → CellPool → Type 0
KeepsRanks old new = (i r : ℕ) → HasRank old i r → HasRank new i r

pub points-kept : (old new : CellPool) → KeepsRanks old new → (o : Option ℕ) (w : Option ListedEdge) → Points old o w → Points new o w
points-kept old new k None None p = tt
points-kept old new k None (Some f) p = absurd p
points-kept old new k (Some i) None p = absurd p
points-kept old new k (Some i) (Some f) p = k i f.rank p

pub cell-kept : (old new : CellPool) → KeepsRanks old new → (s : EdgeList) (c : Cell) → IsCellOf old s c → IsCellOf new s c
cell-kept old new k s c q = record { edge = q.edge; joins = q.joins; rank = q.rank; up = points-kept old new k c.up (next s q.edge.u (suc q.edge.rank)) q.up }

-- another link changes no rank
pub relinked-ranks : (old new : CellPool) (id : ℕ) (up : Option ℕ) → IsRelinked old new id up → KeepsRanks old new
relinked-ranks old new id up m i r h =
    elim (cases_eq i id) [
      | inl same ↦ record { cell = record { rank = h.cell.rank; up = up }; is = ap (λ (j : ℕ). cell_at new j) same ∙ m.at h.cell (ap (λ (j : ℕ). cell_at old j) (sym same) ∙ h.is); has = h.has }
      | inr other ↦ record { cell = h.cell; is = m.others i other ∙ h.is; has = h.has }
    ]

-- a cell after the change: the one with the new link, or as before
pub relinked-cases : (old new : CellPool) (id : ℕ) (up : Option ℕ) → IsRelinked old new id up → (c : Cell) → cell_at old id ≡ Some c → (i : ℕ) (b : Cell) → cell_at new i ≡ Some b →
    ((i ≡ id) × ((b.rank ≡ c.rank) × (b.up ≡ up))) ⊎ ((i ≡ id → ⊥) × (cell_at old i ≡ Some b))
relinked-cases old new id up m c is i b eq =
    elim (cases_eq i id) [
      | inl same ↦ (let at : Some (record { rank = c.rank; up = up }) ≡ Some b = sym (m.at c is) ∙ ap (λ (j : ℕ). cell_at new j) (sym same) ∙ eq in
          inl (same, (rank-of at, up-of at)))
      | inr other ↦ inr (other, sym (m.others i other) ∙ eq)
    ]
  where
    rank-of : Some (record { rank = c.rank; up = up }) ≡ Some b → b.rank ≡ c.rank
    rank-of h = sym (ap rank_in h)
      where
        rank_in : Option Cell → ℕ
        rank_in None = 0
        rank_in (Some y) = y.rank

    up-of : Some (record { rank = c.rank; up = up }) ≡ Some b → b.up ≡ up
    up-of h = sym (ap up_in h)
      where
        up_in : Option Cell → Option ℕ
        up_in None = None
        up_in (Some y) = y.up

-- one cell for each rank, also after the change
pub relinked-alone : (old new : CellPool) (id : ℕ) (up : Option ℕ) → IsRelinked old new id up → (c : Cell) → cell_at old id ≡ Some c →
    ((i j : ℕ) (b c : Cell) → cell_at old i ≡ Some b → cell_at old j ≡ Some c → b.rank ≡ c.rank → i ≡ j) →
    (i j : ℕ) (b d : Cell) → cell_at new i ≡ Some b → cell_at new j ≡ Some d → b.rank ≡ d.rank → i ≡ j
relinked-alone old new id up m c is alone i j b d eb ed r =
    elim (relinked-cases old new id up m c is i b eb) [
      | inl p ↦ elim (relinked-cases old new id up m c is j d ed) [
        | inl q ↦ p.0 ∙ sym q.0
        | inr q ↦ p.0 ∙ alone id j c d is q.1 (sym p.1.0 ∙ r)
      ]
      | inr p ↦ elim (relinked-cases old new id up m c is j d ed) [
        | inl q ↦ alone i id b c p.1 is (r ∙ q.1.0) ∙ sym q.0
        | inr q ↦ alone i j b d p.1 q.1 r
      ]
    ]

-- the two chains in the other order
pub merging-turned : (pool : CellPool) (e : ListedEdge) (s : EdgeList) (t : ℕ) (first second : Option ℕ) → IsMerging pool e s t first second → IsMerging pool e s t second first
merging-turned pool e s t first second m = record {
  edge = m.edge;
  a = m.b;
  b = m.a;
  cell = m.cell;
  ends = record {
    are = (elim m.ends.are [ inl p ↦ inr (p.1, p.0) | inr p ↦ inl (p.1, p.0) ]);
    unjoined = apart-back (below s (suc m.edge.rank)) m.a m.b m.ends.unjoined;
    at_end = or-turned (joined (below s (suc m.edge.rank)) m.edge.u m.a) (joined (below s (suc m.edge.rank)) m.edge.u m.b) m.ends.at_end;
  };
  first_link = m.second_link;
  second_link = m.first_link;
  others = m.others;
}

-- The lower chain's run: f is an edge of a's chain from rank k on, before what comes next on b's.
pub record IsRun (e : ListedEdge) (s : EdgeList) (a b k : ℕ) (f : ListedEdge) : Type 0 where
  pub apart : AreApart (e ∷ s)
  pub ends : AreEnds e a b
  pub above : e.rank < k
  pub unjoined : joined (below s k) a b ≡ false
  pub on_chain : IsIn f (chain s a)
  pub from : k ≤ f.rank
  pub before : IsBefore (next s b k) f.rank

-- a and b are still apart up to behind the run's last edge
run-apart : (e : ListedEdge) (s : EdgeList) (a b k : ℕ) (f : ListedEdge) → IsRun e s a b k f → (j : ℕ) → k ≤ j → j ≤ suc f.rank → Apart e s a b j
run-apart e s a b k f r j up to =
    let above : e.rank < k = r.above in
    record {
      apart = r.apart;
      ends = r.ends;
      above = omega arith;
      unjoined = apart-back (below s j) b a (stays-before s r.apart.1 b k j a up (up-to (next s b k) r.before) ∙ apart-back (below s k) a b r.unjoined);
    }
  where
    up-to : (o : Option ListedEdge) → IsBefore o f.rank → IsUpTo o j
    up-to None h = tt
    up-to (Some g) h = omega arith

-- on the run, what came next for a joining edge still does
run-kept : (e : ListedEdge) (s : EdgeList) (a b k : ℕ) (f : ListedEdge) → IsRun e s a b k f → (g : ListedEdge) → IsIn g (joins s) → k ≤ g.rank → g.rank < f.rank →
    next (e ∷ s) g.u (suc g.rank) ≡ next s g.u (suc g.rank)
run-kept e s a b k f r g i low top =
    elim (cases_Bool (joined (below s (suc g.rank)) g.u a)) [
      | inl at_a ↦ (let j : joined (below s (suc g.rank)) a g.u ≡ true = (IsSame-joined (below s (suc g.rank))).back g.u a at_a in
          let found = next-some s r.apart.1 a (suc g.rank) f (IsIn-leaving_kept s a f r.on_chain).0 (omega arith) (IsIn-leaving_kept s a f r.on_chain).1 in
          let near : found.0.rank ≤ f.rank = found.1.1 in
          let later : next s b (suc g.rank) ≡ next s b k = next-later s r.apart.1 b k (suc g.rank) (omega arith) (up-to (next s b k) r.before) in
          next-lower e s a b (suc g.rank) (run-apart e s a b k f r (suc g.rank) (omega arith) (omega arith)) g.u (or_left _ _ at_a) found.0 found.1.0
          (subst (λ (o : Option ListedEdge). IsBefore o found.0.rank) (sym later) (IsBefore-to (next s b k) found.0.rank f.rank near r.before))
          ∙ sym found.1.0
          ∙ next-row s r.apart.1 a g.u (suc g.rank) j)
      | inr not_a ↦ elim (cases_Bool (joined (below s (suc g.rank)) g.u b)) [
        | inl at_b ↦ absurd (next-quiet s r.apart.1 b k g (IsIn-joins_kept s g i).0 low (IsBefore-to (next s b k) g.rank f.rank (omega arith) r.before)
            (reached-leaves s r.apart.1 g i b ((IsSame-joined (below s (suc g.rank))).back g.u b at_b)))
        | inr not_b ↦ next-neither e s a b (suc g.rank) (run-apart e s a b k f r (suc g.rank) (omega arith) (omega arith)) g.u not_a not_b
      ]
    ]
  where
    up-to : (o : Option ListedEdge) → IsBefore o f.rank → IsUpTo o (suc g.rank)
    up-to None h = tt
    up-to (Some q) h = omega arith

-- what a link that leads somewhere points at
points-some : (pool : CellPool) (i : ℕ) (w : Option ListedEdge) → Points pool (Some i) w → (f : ListedEdge) × (w ≡ Some f)
points-some pool i None p = absurd p
points-some pool i (Some f) p = (f, refl)

-- One run: cell t is linked to the lower chain, and the cell at the end of the run, of edge f, is the next one whose link is open.
pub run-along : (old new : CellPool) (e : ListedEdge) (s : EdgeList) (t i : ℕ) (second : Option ℕ) (m : IsMerging old e s t (Some i) second) → IsRelinked old new t (Some i) →
    (f : ListedEdge) → IsIn f (chain s m.a) → suc m.edge.rank ≤ f.rank → IsBefore (next s m.b (suc m.edge.rank)) f.rank →
    (u : ℕ) (c : Cell) → cell_at old u ≡ Some c → c.rank ≡ f.rank → IsMerging new e s u c.up second
run-along old new e s t i second m link f on from before u c is level =
    let k : ℕ = suc m.edge.rank in
    let far : m.edge.rank < f.rank = omega arith in
    let base : e.rank ≤ m.edge.rank = m.cell.above in
    let run : IsRun e s m.a m.b (suc m.edge.rank) f = record { apart = m.cell.apart; ends = m.ends.are; above = omega arith; unjoined = m.ends.unjoined; on_chain = on; from = from; before = before } in
    let keeps = relinked-ranks old new t (Some i) link in
    let out = IsIn-leaving_kept s m.a f on in
    let chained = IsIn-chain_kept s m.a f on in
    let behind : Apart e s m.a m.b (suc f.rank) = run-apart e s m.a m.b (suc m.edge.rank) f run (suc f.rank) (omega arith) (omega arith) in
    let in_joins : IsIn f (joins s) = joining f (IsIn-chain_kept s m.a f on) in
    let q = m.others.high u c is (omega arith) in
    record {
      edge = f;
      a = m.a;
      b = m.b;
      cell = record {
        seat = keeps u f.rank (record { cell = c; is = is; has = level });
        joins = joins-stays e s m.a m.b f behind in_joins;
        apart = m.cell.apart;
        above = omega arith;
      };
      ends = record {
        are = m.ends.are;
        unjoined = behind.unjoined;
        at_end = or_left _ _ ((IsSame-joined (below s (suc f.rank))).back m.a f.u (joined-to_end s f m.a out.0 out.1));
      };
      first_link = points-kept old new keeps c.up (next s m.a (suc f.rank))
          (subst (λ (w : Option ListedEdge). Points old c.up w) (sym (next-behind s m.cell.apart.1 m.a f out.0 out.1))
          (subst (λ (g : ListedEdge). Points old c.up (next s g.u (suc g.rank))) (cell-edge old s m.cell.apart.1 c q f out.0 level) q.up));
      second_link = points-kept old new keeps second (next s m.b (suc f.rank))
          (subst (λ (w : Option ListedEdge). Points old second w) (sym (next-later s m.cell.apart.1 m.b (suc m.edge.rank) (suc f.rank) (omega arith) (IsUpTo-after (next s m.b (suc m.edge.rank)) f.rank before))) m.second_link);
      others = record {
        leafs = λ x cov. subst (λ (o : Option ℕ). Points new o (next (e ∷ s) x 0)) (sym (link.kept.leafs x))
            (points-kept old new keeps (leaf_of old x) (next (e ∷ s) x 0) (m.others.leafs x (link.kept.covered x cov)));
        low = λ j d eq less. elim (relinked-cases old new t (Some i) link m.cell.seat.cell m.cell.seat.is j d eq) [
          | inl at ↦ here keeps d at.1.0 at.1.1
          | inr other ↦ between run keeps j d other.0 other.1 less
        ];
        high = λ j d eq more. elim (relinked-cases old new t (Some i) link m.cell.seat.cell m.cell.seat.is j d eq) [
          | inl at ↦ absurd (let x : d.rank ≡ m.cell.seat.cell.rank = at.1.0 in let y : m.cell.seat.cell.rank ≡ m.edge.rank = m.cell.seat.has in omega arith)
          | inr other ↦ cell-kept old new keeps s d (m.others.high j d other.1 (omega arith))
        ];
        alone = relinked-alone old new t (Some i) link m.cell.seat.cell m.cell.seat.is m.others.alone;
      };
    }
  where
    joining : (g : ListedEdge) → IsOnChain s m.a g → IsIn g (joins s)
    joining g h = IsIn-joins s g h.member h.joining

    -- the cell that was linked
    here : KeepsRanks old new → (d : Cell) → d.rank ≡ m.cell.seat.cell.rank → d.up ≡ Some i → IsCellOf new (e ∷ s) d
    here keeps d r up =
        let p = points-some old i (next s m.a (suc m.edge.rank)) m.first_link in
        let base : e.rank ≤ m.edge.rank = m.cell.above in
        let first = next-some s m.cell.apart.1 m.a (suc m.edge.rank) f (IsIn-leaving_kept s m.a f on).0 from (IsIn-leaving_kept s m.a f on).1 in
        let near : first.0.rank ≤ f.rank = first.1.1 in
        let comes : next (e ∷ s) m.edge.u (suc m.edge.rank) ≡ Some first.0 =
        next-lower e s m.a m.b (suc m.edge.rank) (record { apart = m.cell.apart; ends = m.ends.are; above = omega arith; unjoined = m.ends.unjoined }) m.edge.u m.ends.at_end first.0 first.1.0
        (IsBefore-to (next s m.b (suc m.edge.rank)) first.0.rank f.rank near before) in
        record {
          edge = m.edge;
          joins = m.cell.joins;
          rank = r ∙ m.cell.seat.has;
          up = subst (λ (o : Option ℕ). Points new o (next (e ∷ s) m.edge.u (suc m.edge.rank))) (sym up)
              (points-kept old new keeps (Some i) (next (e ∷ s) m.edge.u (suc m.edge.rank))
              (subst (λ (w : Option ListedEdge). Points old (Some i) w) (first.1.0 ∙ sym comes) m.first_link));
        }

    -- another cell below the run's end
    between : IsRun e s m.a m.b (suc m.edge.rank) f → KeepsRanks old new → (j : ℕ) (d : Cell) → (j ≡ t → ⊥) → cell_at old j ≡ Some d → d.rank < f.rank → IsCellOf new (e ∷ s) d
    between run keeps j d other eq less =
        elim (cases_order d.rank m.edge.rank) [
          | inl same ↦ absurd (other (m.others.alone j t d m.cell.seat.cell eq m.cell.seat.is (same ∙ sym m.cell.seat.has)))
          | inr unlike ↦ elim unlike [
            | inl lower ↦ cell-kept old new keeps (e ∷ s) d (m.others.low j d eq lower)
            | inr higher ↦ (let q = m.others.high j d eq higher in
                let r : d.rank ≡ q.edge.rank = q.rank in
                record {
                  edge = q.edge;
                  joins = joins-stays e s m.a m.b q.edge (run-apart e s m.a m.b (suc m.edge.rank) f run (suc q.edge.rank) (omega arith) (omega arith)) q.joins;
                  rank = q.rank;
                  up = points-kept old new keeps d.up (next (e ∷ s) q.edge.u (suc q.edge.rank))
                      (subst (λ (w : Option ListedEdge). Points old d.up w) (sym (run-kept e s m.a m.b (suc m.edge.rank) f run q.edge q.joins (omega arith) (omega arith))) q.up);
                })
          ]
        ]
