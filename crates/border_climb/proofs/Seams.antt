-- The seam of two chains and the notes: what climbs and writes leave of them.
use Rattle.std.proofs.Common.{◌≡◌, ℕ, suc, ◌<◌, ◌≤◌, inl, inr, refl, sym, ◌∙◌, subst, ap, arith, ◌∷◌}
use Rattle.std.specs.Prelude.{Option, Some, None, IsSome}
use Rattle.edge_laws.specs.Edges.{ListedEdge, EdgeList, AreApart, joins, chain, next}
use Rattle.hg_base.specs.Lists.{IsIn}
use Rattle.edge_laws.proofs.Sets.{IsIn-joins_kept}
use Rattle.edge_laws.proofs.Next.{IsIn-leaving_kept}
use Rattle.edge_laws.proofs.Ends.{next-is, chain-kept}
use Rattle.node_region.specs.Pool.{CellPool, IsCovered, IsUsed, cell_at, leaf_of, turn_of, hint_of, finger_of}
use Rattle.node_region.specs.declared.cell.Cell.{Cell}
use Rattle.node_region.specs.declared.cell.Hint.{Hint}
use Rattle.border_climb.specs.Stands.{IsMet}
use Rattle.border_climb.specs.Linked.{HasRank, Points, IsCellOf, AreLinked, AreLinkedFrom}
use Rattle.border_climb.specs.Notes.{IsLive, IsSound, IsClimbable, IsNoted, LeadsUp, AreNoted}
use Rattle.border_climb.specs.Splicing.{IsMerging, IsSeam}
use Rattle.border_climb.proofs.Linked.{cell-edge, met-chain, chain-met}
use Rattle.border_climb.proofs.Merging.{KeepsRanks, points-kept, cell-kept}
use Rattle.border_climb.proofs.Pools.{SameLinks, links-noted, links-back, rank-same, live-same, one-cell, seat-rank}

-- what stands above a cell has a higher rank
pub cell-rises : (pool : CellPool) (s : EdgeList) → AreApart s → (c : Cell) → IsCellOf pool s c → (j : ℕ) → c.up ≡ Some j → (b : Cell) × ((cell_at pool j ≡ Some b) × (c.rank < b.rank))
cell-rises pool s h c q j up = go (next s q.edge.u (suc q.edge.rank)) refl (subst (λ (o : Option ℕ). Points pool o (next s q.edge.u (suc q.edge.rank))) up q.up)
  where
    go : (w : Option ListedEdge) → next s q.edge.u (suc q.edge.rank) ≡ w → Points pool (Some j) w → (b : Cell) × ((cell_at pool j ≡ Some b) × (c.rank < b.rank))
    go None eq p = absurd p
    go (Some f) eq p =
        let above : suc q.edge.rank ≤ f.rank = (next-is s h q.edge.u (suc q.edge.rank) f eq).1.1 in
        let has : p.cell.rank ≡ f.rank = p.has in
        let own : c.rank ≡ q.edge.rank = q.rank in
        (p.cell, (p.is, omega arith))

-- a cell of a rank from l on: the note that leads up from it leads up its edge's chain
pub leads-met : (pool : CellPool) (s : EdgeList) → AreApart s → (l : ℕ) → AreLinkedFrom pool s l → (c : Cell) → IsCellOf pool s c → l ≤ c.rank → (d j : ℕ) → IsMet pool d c.up j → (b : Cell) → cell_at pool j ≡ Some b → LeadsUp s c.rank b.rank
leads-met pool s h l k c q low d j met b is =
    let own : c.rank ≡ q.edge.rank = q.rank in
    let f = chain-met pool s h l k d q.edge.u (suc q.edge.rank) c.up (next s q.edge.u (suc q.edge.rank)) (omega arith) refl q.up j met b is in
    let above : suc q.edge.rank ≤ f.0.rank = f.1.1.0 in
    record { from = q.edge; to = f.0; member = (IsIn-joins_kept s q.edge q.joins).0; on_chain = f.1.0; from_rank = sym q.rank; to_rank = sym f.1.1.1; up = omega arith }

-- and the other way round
pub met-leads : (pool : CellPool) (s : EdgeList) → AreApart s → (l : ℕ) → AreLinkedFrom pool s l → (c : Cell) → IsCellOf pool s c → l ≤ c.rank → (j : ℕ) (b : Cell) → cell_at pool j ≡ Some b → LeadsUp s c.rank b.rank → (d : ℕ) × IsMet pool d c.up j
met-leads pool s h l k c q low j b is up =
    let same : q.edge ≡ up.from = cell-edge pool s h c q up.from up.member (sym up.from_rank) in
    let far : up.from.rank < up.to.rank = up.up in
    let at : up.from.rank ≡ c.rank = up.from_rank in
    met-chain pool s h l k up.from.u (suc up.from.rank) c.up (omega arith)
    (subst (λ (g : ListedEdge). Points pool c.up (next s g.u (suc g.rank))) same q.up)
    up.to up.on_chain (omega arith) j (record { cell = b; is = is; has = sym up.to_rank })

-- the cells above a seam are linked as by the list without e
pub seam-linked : (pool : CellPool) (e : ListedEdge) (s : EdgeList) (t : ℕ) (first second : Option ℕ) → (m : IsMerging pool e s t first second) → AreLinkedFrom pool s (suc m.edge.rank)
seam-linked pool e s t first second m = record { cells = λ i c is low. m.others.high i c is low; alone = m.others.alone }

-- what comes next on the first chain is above the seam
pub seam-next : (pool : CellPool) (e : ListedEdge) (s : EdgeList) (t i : ℕ) (second : Option ℕ) → (m : IsMerging pool e s t (Some i) second) → (c : Cell) → cell_at pool i ≡ Some c →
    (f : ListedEdge) × ((next s m.a (suc m.edge.rank) ≡ Some f) × (c.rank ≡ f.rank) × (m.edge.rank < c.rank))
seam-next pool e s t i second m c is = go (next s m.a (suc m.edge.rank)) refl m.first_link
  where
    go : (w : Option ListedEdge) → next s m.a (suc m.edge.rank) ≡ w → Points pool (Some i) w → (f : ListedEdge) × ((next s m.a (suc m.edge.rank) ≡ Some f) × (c.rank ≡ f.rank) × (m.edge.rank < c.rank))
    go None eq p = absurd p
    go (Some f) eq p =
        let above : suc m.edge.rank ≤ f.rank = (next-is s m.cell.apart.1 m.a (suc m.edge.rank) f eq).1.1 in
        let level : c.rank ≡ f.rank = seat-rank pool i f.rank c p is in
        (f, (eq, level, omega arith))

-- from there one can climb
pub seam-climbable : (pool : CellPool) (e : ListedEdge) (s : EdgeList) (t i : ℕ) (second : Option ℕ) → IsSeam pool e s t (Some i) second → (r : ℕ) → HasRank pool i r → IsClimbable pool r
seam-climbable pool e s t i second m r h =
    let n = seam-next pool e s t i second m.merging h.cell h.is in
    let above : m.merging.edge.rank < h.cell.rank = n.1.2 in
    let level : h.cell.rank ≡ r = h.has in
    record {
      ups = λ j k c is low up. cell-rises pool s m.merging.cell.apart.1 c (m.merging.others.high j c is (omega arith)) k up;
      hints = λ j c hint is low eq v. met-leads pool s m.merging.cell.apart.1 (suc m.merging.edge.rank) (seam-linked pool e s t (Some i) second m.merging) c (m.merging.others.high j c is (omega arith)) (omega arith)
          hint.cell v.cell v.is (m.noted.hints j c hint is eq v);
    }

-- the same links with other notes
merging-same : (p q : CellPool) → SameLinks p q → (e : ListedEdge) (s : EdgeList) (t : ℕ) (first second : Option ℕ) → IsMerging p e s t first second → IsMerging q e s t first second
merging-same p q same e s t first second m =
    let keeps : KeepsRanks p q = rank-same p q same in
    record {
      edge = m.edge;
      a = m.a;
      b = m.b;
      cell = record {
        seat = rank-same p q same t m.edge.rank m.cell.seat;
        joins = m.cell.joins;
        apart = m.cell.apart;
        above = m.cell.above;
      };
      ends = m.ends;
      first_link = points-kept p q keeps first (next s m.a (suc m.edge.rank)) m.first_link;
      second_link = points-kept p q keeps second (next s m.b (suc m.edge.rank)) m.second_link;
      others = record {
        leafs = λ x cov. subst (λ (o : Option ℕ). Points q o (next (e ∷ s) x 0)) (sym (same.leafs x)) (points-kept p q keeps (leaf_of p x) (next (e ∷ s) x 0) (m.others.leafs x (same.covered x cov)));
        low = λ i c is less. cell-kept p q keeps (e ∷ s) c (m.others.low i c (sym (same.cells i) ∙ is) less);
        high = λ i c is more. cell-kept p q keeps s c (m.others.high i c (sym (same.cells i) ∙ is) more);
        alone = λ i j b c eb ec r. m.others.alone i j b c (sym (same.cells i) ∙ eb) (sym (same.cells j) ∙ ec) r;
      };
    }

-- notes that a climb above the seam has made are of the list
pub seam-noted : (p q : CellPool) (e : ListedEdge) (s : EdgeList) (t : ℕ) (first second : Option ℕ) → (m : IsSeam p e s t first second) → (l : ℕ) → m.merging.edge.rank < l → IsNoted p q l → IsSeam q e s t first second
seam-noted p q e s t first second m l above n =
    let same = links-noted p q l n in
    let back = links-back p q same in
    record {
      merging = merging-same p q same e s t first second m.merging;
      noted = record {
        hints = λ i c h is eq v. elim (n.each i h eq) [
          | inl old ↦ m.noted.hints i c h (sym (same.cells i) ∙ is) old (live-same q p back h v)
          | inr made ↦ (let one : made.cell ≡ c = one-cell p i made.cell c made.is (sym (same.cells i) ∙ is) in
              let from : l ≤ made.cell.rank = made.from in
              subst (λ (y : Cell). LeadsUp s y.rank v.cell.rank) one
              (leads-met p s m.merging.cell.apart.1 (suc m.merging.edge.rank) (seam-linked p e s t first second m.merging) made.cell (m.merging.others.high i made.cell made.is (omega arith)) (omega arith)
              made.links h.cell made.met v.cell (sym (same.cells h.cell) ∙ v.is)))
        ];
        fingers = λ x h cov eq v. m.noted.fingers x h (same.covered x cov) (finger x h eq) (live-same q p back h v);
        old = record {
          hints = λ i h eq fresh. elim (n.each i h eq) [
            | inl old ↦ subst (λ (k : ℕ). h.turn ≤ k) (sym (same.turns h.cell)) (m.noted.old.hints i h old fresh)
            | inr made ↦ (let a : turn_of q h.cell ≡ turn_of p h.cell = same.turns h.cell in let b : h.turn ≡ turn_of p h.cell = made.turn in omega arith)
          ];
          fingers = λ x h eq fresh. subst (λ (k : ℕ). h.turn ≤ k) (sym (same.turns h.cell)) (m.noted.old.fingers x h (finger x h eq) fresh);
          turned = λ i c is. subst (λ (k : ℕ). 1 ≤ k) (sym (same.turns i)) (m.noted.old.turned i c (sym (same.cells i) ∙ is));
        };
      };
    }
  where
    finger : (x : ℕ) (h : Hint) → finger_of q x ≡ Some h → finger_of p x ≡ Some h
    finger x h eq = sym (ap (λ (w : CellPool). finger_of w x) n.others) ∙ eq

-- the second pool has the same notes and turns, and no cell of another rank
pub record SameNotes (p q : CellPool) : Type 0 where
  pub hints : (i : ℕ) → hint_of q i ≡ hint_of p i
  pub fingers : (x : ℕ) → finger_of q x ≡ finger_of p x
  pub turns : (i : ℕ) → turn_of q i ≡ turn_of p i
  pub covered : (x : ℕ) → IsCovered q x → IsCovered p x
  pub ranks : (i : ℕ) (c : Cell) → cell_at q i ≡ Some c → HasRank p i c.rank

-- then its notes are of the list too
pub noted-fewer : (p q : CellPool) → SameNotes p q → (s : EdgeList) → AreNoted p s → AreNoted q s
noted-fewer p q same s n = record {
  hints = λ i c h is eq v. (let own = same.ranks i c is in let live = before h v in
      let up : LeadsUp s own.cell.rank live.0.cell.rank = n.hints i own.cell h own.is (sym (same.hints i) ∙ eq) live.0 in
      subst (λ (r : ℕ). LeadsUp s c.rank r) live.1 (subst (λ (r : ℕ). LeadsUp s r live.0.cell.rank) own.has up));
  fingers = λ x h cov eq v. (let live = before h v in let f = n.fingers x h (same.covered x cov) (sym (same.fingers x) ∙ eq) live.0 in
      (f.0, (f.1.0, sym live.1 ∙ f.1.1)));
  old = record {
    hints = λ i h eq fresh. subst (λ (k : ℕ). h.turn ≤ k) (sym (same.turns h.cell)) (n.old.hints i h (sym (same.hints i) ∙ eq) fresh);
    fingers = λ x h eq fresh. subst (λ (k : ℕ). h.turn ≤ k) (sym (same.turns h.cell)) (n.old.fingers x h (sym (same.fingers x) ∙ eq) fresh);
    turned = λ i c is. (let own = same.ranks i c is in subst (λ (k : ℕ). 1 ≤ k) (sym (same.turns i)) (n.old.turned i own.cell own.is));
  };
}
  where
    before : (h : Hint) (v : IsLive q h) → (w : IsLive p h) × (w.cell.rank ≡ v.cell.rank)
    before h v = let own = same.ranks h.cell v.cell v.is in (record { cell = own.cell; is = own.is; turn = sym (same.turns h.cell) ∙ v.turn; fresh = v.fresh }, own.has)

-- notes of a list are of the list with e, where the links are
pub noted-after : (pool : CellPool) (e : ListedEdge) (s : EdgeList) → AreApart (e ∷ s) → AreLinked pool (e ∷ s) → AreNoted pool s → AreNoted pool (e ∷ s)
noted-after pool e s h l n = record {
  hints = λ i c k is eq v. (let up = n.hints i c k is eq v in
      record { from = up.from; to = up.to; member = inr up.member; on_chain = on up.from.u up.to up.on_chain k.cell v.cell v.is (sym up.to_rank); from_rank = up.from_rank; to_rank = up.to_rank; up = up.up });
  fingers = λ x k cov eq v. (let f = n.fingers x k cov eq v in (f.0, (on x f.0 f.1.0 k.cell v.cell v.is f.1.1, f.1.1)));
  old = n.old;
}
  where
    on : (x : ℕ) (f : ListedEdge) → IsIn f (chain s x) → (j : ℕ) (c : Cell) → cell_at pool j ≡ Some c → c.rank ≡ f.rank → IsIn f (chain (e ∷ s) x)
    on x f i j c is r =
        let q = l.cells j c is in
        let same : q.edge ≡ f = cell-edge pool (e ∷ s) h c q f (inr (IsIn-leaving_kept s x f i).0) r in
        chain-kept e s x f i (subst (λ (g : ListedEdge). IsIn g (joins (e ∷ s))) same q.joins)

-- where links and notes are of a list, they are sound
pub noted-sound : (pool : CellPool) (s : EdgeList) → AreApart s → AreLinked pool s → AreNoted pool s → IsSound pool
noted-sound pool s h l n = record {
  leafs = λ x j cov up. used x j (subst (λ (o : Option ℕ). Points pool o (next s x 0)) up (l.leafs x cov));
  ups = λ i j c is up. cell-rises pool s h c (l.cells i c is) j up;
  hints = λ i c k is eq v. met-leads pool s h 0 (record { cells = λ m b at low. l.cells m b at; alone = l.alone }) c (l.cells i c is) (omega arith) k.cell v.cell v.is (n.hints i c k is eq v);
  fingers = λ x k cov eq v. (let f = n.fingers x k cov eq v in
      met-chain pool s h 0 (record { cells = λ m b at low. l.cells m b at; alone = l.alone }) x 0 (leaf_of pool x) (omega arith) (l.leafs x cov) f.0 f.1.0 (omega arith) k.cell (record { cell = v.cell; is = v.is; has = f.1.1 }));
  old = n.old;
}
  where
    used : (x j : ℕ) → Points pool (Some j) (next s x 0) → IsUsed pool j
    used x j p = go (next s x 0) p
      where
        go : (w : Option ListedEdge) → Points pool (Some j) w → IsUsed pool j
        go None q = absurd q
        go (Some f) q = subst (λ (o : Option Cell). IsSome o) (sym q.is) refl

-- and where they are sound, the notes are of the list
pub sound-noted_list : (pool : CellPool) (s : EdgeList) → AreApart s → AreLinked pool s → IsSound pool → AreNoted pool s
sound-noted_list pool s h l n = record {
  hints = λ i c k is eq v. (let w = n.hints i c k is eq v in
      leads-met pool s h 0 (record { cells = λ m b at low. l.cells m b at; alone = l.alone }) c (l.cells i c is) (omega arith) w.0 k.cell w.1 v.cell v.is);
  fingers = λ x k cov eq v. (let w = n.fingers x k cov eq v in
      let f = chain-met pool s h 0 (record { cells = λ m b at low. l.cells m b at; alone = l.alone }) w.0 x 0 (leaf_of pool x) (next s x 0) (omega arith) refl (l.leafs x cov) k.cell w.1 v.cell v.is in
      (f.0, (f.1.0, f.1.1.1)));
  old = n.old;
}
