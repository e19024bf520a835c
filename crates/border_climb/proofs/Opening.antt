-- The new edge's cell is put above the last cells below it on the chains of its ends.
use Rattle.std.proofs.Common.{◌≡◌, ℕ, suc, ◌<◌, ◌≤◌, true, false, inl, inr, refl, sym, ◌∙◌, subst, ap, arith, ◌∷◌}
use Rattle.std.specs.Prelude.{Option, Some, None}
use Rattle.std.specs.Option.{option_map_or}
use Rattle.std.proofs.lemmas.Bool.{cases_order, cases_eq, false_from_ne_true, or_left}
use Rattle.edge_laws.specs.Edges.{ListedEdge, EdgeList, AreApart, joined, below, joins, next}
use Rattle.hg_base.specs.Lists.{IsIn}
use Rattle.edge_laws.specs.Splice.{IsRedundant}
use Rattle.edge_laws.proofs.Walks.{IsSame-joined}
use Rattle.edge_laws.proofs.Sets.{joined_below-more, IsIn-joins_kept}
use Rattle.edge_laws.proofs.Fronts.{apart-one, joined-step_without, joined-first_front}
use Rattle.edge_laws.proofs.Leaving.{leaves, row-same}
use Rattle.edge_laws.proofs.Next.{IsIn-leaving_kept}
use Rattle.edge_laws.proofs.Firsts.{IsUpTo, IsBefore}
use Rattle.edge_laws.proofs.Splice.{next-before}
use Rattle.edge_laws.proofs.Merged.{next-row, joined-to_end}
use Rattle.edge_laws.proofs.Drops.{joins-kept, joins-new, not-Joined}
use Rattle.edge_laws.proofs.Ends.{IsBefore-to, IsUpTo-after, next-later, next-is, next-quiet, stays-before, reached-leaves, apart-back, next-opens, next-passes}
use Rattle.node_region.specs.Pool.{CellPool, IsCovered, cell_at, leaf_of}
use Rattle.node_region.specs.declared.cell.Cell.{Cell}
use Rattle.border_climb.specs.Linked.{HasRank, Points, IsCellOf, AreLinked}
use Rattle.border_climb.specs.Splicing.{IsLastCell, IsLast, IsMerging, IsOpened, up_of}
use Rattle.border_climb.proofs.Linked.{cell-edge, next-behind}
use Rattle.border_climb.proofs.Merging.{points-kept}

-- a rank that isn't above what comes next
IsUpTo-before : (o : Option ListedEdge) (r : ℕ) → IsBefore o r → IsUpTo o r
IsUpTo-before None r h = tt
IsUpTo-before (Some g) r h = omega arith

-- what stands above the last cell below r points at what comes next above r
pub last-up : (pool : CellPool) (s : EdgeList) → AreApart s → AreLinked pool s → (x r : ℕ) → IsCovered pool x → (o : Option ℕ) → IsLast pool s x r o → Points pool (up_of pool x o) (next s x (suc r))
last-up pool s h l x r cov None last =
    subst (λ (w : Option ListedEdge). Points pool (leaf_of pool x) w) (sym (next-later s h x 0 (suc r) (omega arith) (IsUpTo-after (next s x 0) r last))) (l.leafs x cov)
last-up pool s h l x r cov (Some i) last =
    let q = l.cells i last.seat.cell last.seat.is in
    let low : last.edge.rank < r = last.low in
    let out = IsIn-leaving_kept s x last.edge last.on_chain in
    let up : Points pool last.seat.cell.up (next s x (suc last.edge.rank)) =
    subst (λ (w : Option ListedEdge). Points pool last.seat.cell.up w) (sym (next-behind s h x last.edge out.0 out.1))
    (subst (λ (g : ListedEdge). Points pool last.seat.cell.up (next s g.u (suc g.rank))) (cell-edge pool s h last.seat.cell q last.edge out.0 last.seat.has) q.up) in
    subst (λ (w : Option ListedEdge). Points pool (up_of pool x (Some i)) w) (sym (next-later s h x (suc last.edge.rank) (suc r) (omega arith) (IsUpTo-after (next s x (suc last.edge.rank)) r last.last)))
    (subst (λ (o : Option ℕ). Points pool o (next s x (suc last.edge.rank))) (sym (ap (λ (c : Option Cell). option_map_or (λ y. y.up) c None) last.seat.is)) up)

-- where nothing comes before r, there is no last cell below r
last-none : (pool : CellPool) (s : EdgeList) → AreApart s → (x r : ℕ) (o : Option ℕ) → IsLast pool s x r o → IsBefore (next s x 0) r → o ≡ None
last-none pool s h x r None last before = refl
last-none pool s h x r (Some i) last before =
    let out = IsIn-leaving_kept s x last.edge last.on_chain in
    let low : last.edge.rank < r = last.low in
    absurd (next-quiet s h x 0 last.edge out.0 (omega arith) (IsBefore-to (next s x 0) last.edge.rank r (omega arith) before) out.1)

-- a cell of an edge of the chain below r, behind which nothing comes before r, is the last one
pub last-one : (pool : CellPool) (s : EdgeList) → AreApart s → AreLinked pool s → (x r : ℕ) (o : Option ℕ) → IsLast pool s x r o → (f : ListedEdge) → IsIn f s → leaves s x f ≡ true → f.rank < r →
    IsBefore (next s x (suc f.rank)) r → (j : ℕ) → HasRank pool j f.rank → o ≡ Some j
last-one pool s h l x r None last f i out low before j at =
    absurd (next-quiet s h x 0 f i (omega arith) (IsBefore-to (next s x 0) f.rank r (omega arith) last) out)
last-one pool s h l x r (Some k) last f i out low before j at =
    let other = IsIn-leaving_kept s x last.edge last.on_chain in
    let low' : last.edge.rank < r = last.low in
    elim (cases_order f.rank last.edge.rank) [
      | inl level ↦ ap Some (l.alone k j last.seat.cell at.cell last.seat.is at.is (last.seat.has ∙ sym level ∙ sym at.has))
      | inr rest ↦ elim rest [
        | inl less ↦ absurd (next-quiet s h x (suc f.rank) last.edge other.0 (omega arith) (IsBefore-to (next s x (suc f.rank)) last.edge.rank r (omega arith) before) other.1)
        | inr more ↦ absurd (next-quiet s h x (suc last.edge.rank) f i (omega arith) (IsBefore-to (next s x (suc last.edge.rank)) f.rank r (omega arith) last.last) out)
      ]
    ]

-- e changes nothing of what comes next, where that is before e or e's ends are out of reach by then
passes : (e : ListedEdge) (s : EdgeList) → AreApart (e ∷ s) → (x k : ℕ) → k ≤ e.rank →
    (IsBefore (next s x k) e.rank → (joined (below s e.rank) x e.u ≡ false) × (joined (below s e.rank) x e.v ≡ false)) → next (e ∷ s) x k ≡ next s x k
passes e s h x k up away = go (next s x k) refl
  where
    after : IsBefore (next s x k) e.rank → next (e ∷ s) x k ≡ next s x k
    after before = let p = away before in next-passes e s h x k up p.0 p.1

    go : (o : Option ListedEdge) → next s x k ≡ o → next (e ∷ s) x k ≡ next s x k
    go None eq = after (subst (λ (q : Option ListedEdge). IsBefore q e.rank) (sym eq) tt)
    go (Some f) eq =
        elim (cases_order f.rank e.rank) [
          | inl level ↦ absurd (h.0 f (next-is s h.1 x k f eq).0 (sym level))
          | inr other ↦ elim other [
            | inl less ↦ next-before e s h x k f eq less ∙ sym eq
            | inr high ↦ after (subst (λ (q : Option ListedEdge). IsBefore q e.rank) (sym eq) high)
          ]
        ]

-- a vertex that is joined to x by then sees e lead out where x does
out-row : (s : EdgeList) (e : ListedEdge) (x y : ℕ) → joined (below s e.rank) y x ≡ true → leaves s x e ≡ true → leaves s y e ≡ true
out-row s e x y j out =
    let same = IsSame-joined (below s e.rank) in
    rw (row-same (joined (below s e.rank)) same y x e.u j, row-same (joined (below s e.rank)) same y x e.v j) out

-- The cell that was put in is e's, and what is above it on the two chains is still to be merged.
pub record IsOpening (old new : CellPool) (e : ListedEdge) (s : EdgeList) (first second : Option ℕ) (id : ℕ) : Type 0 where
  pub links : AreLinked old s
  pub apart : AreApart (e ∷ s)
  pub first_end : IsCovered old e.u
  pub second_end : IsCovered old e.v
  pub first_last : IsLast old s e.u e.rank first
  pub second_last : IsLast old s e.v e.rank second
  pub unjoined : joined (below s e.rank) e.u e.v ≡ false
  pub opened : IsOpened old new e.u e.v first second id e.rank

pub opening : (old new : CellPool) (e : ListedEdge) (s : EdgeList) (first second : Option ℕ) (id : ℕ) → IsOpening old new e s first second id →
    IsMerging new e s id (up_of old e.u first) (up_of old e.v second)
opening old new e s first second id m = record {
  edge = e;
  a = e.u;
  b = e.v;
  cell = record {
    seat = seat;
    joins = joins-new e s needed;
    apart = m.apart;
    above = omega arith;
  };
  ends = record {
    are = inl (refl, refl);
    unjoined = joined-step_without s e.rank (λ f i r. m.apart.0 f i (sym r)) e.u e.v ∙ m.unjoined;
    at_end = or_left _ _ ((IsSame-joined (below s (suc e.rank))).self e.u);
  };
  first_link = points-kept old new ranks (up_of old e.u first) (next s e.u (suc e.rank)) (last-up old s m.apart.1 m.links e.u e.rank m.first_end first m.first_last);
  second_link = points-kept old new ranks (up_of old e.v second) (next s e.v (suc e.rank)) (last-up old s m.apart.1 m.links e.v e.rank m.second_end second m.second_last);
  others = record {
    leafs = leafs;
    low = low;
    high = high;
    alone = alone;
  };
}
  where
    needed : IsRedundant e s → ⊥
    needed = not-Joined (below s e.rank) e.u e.v m.unjoined

    seat : HasRank new id e.rank
    seat = record { cell = record { rank = e.rank; up = None }; is = m.opened.new_cell; has = refl }

    ranks : (i r : ℕ) → HasRank old i r → HasRank new i r
    ranks i r h = let k = m.opened.kept i h.cell h.is in record { cell = k.cell; is = k.is; has = k.has ∙ h.has }

    -- a cell of the new cell's number has its rank
    own-rank : (j : ℕ) (c : Cell) → cell_at new j ≡ Some c → j ≡ id → c.rank ≡ e.rank
    own-rank j c eq same =
        let at : Some (record { rank = e.rank; up = None }) ≡ Some c = sym m.opened.new_cell ∙ ap (λ (n : ℕ). cell_at new n) (sym same) ∙ eq in
        sym (ap (λ (o : Option Cell). option_map_or (λ y. y.rank) o 0) at)

    out-first : leaves s e.u e ≡ true
    out-first = rw ((IsSame-joined (below s e.rank)).self e.u, m.unjoined) refl

    out-second : leaves s e.v e ≡ true
    out-second = rw ((IsSame-joined (below s e.rank)).self e.v, apart-back (below s e.rank) e.u e.v m.unjoined) refl

    -- what comes next behind a last cell is now e
    opens : (x : ℕ) → leaves s x e ≡ true → (j : ℕ) (last : IsLastCell old s x e.rank j) (q : IsCellOf old s last.seat.cell) → next (e ∷ s) q.edge.u (suc q.edge.rank) ≡ Some e
    opens x out j last q =
        let there = IsIn-leaving_kept s x last.edge last.on_chain in
        let low : last.edge.rank < e.rank = last.low in
        let same : q.edge ≡ last.edge = cell-edge old s m.apart.1 last.seat.cell q last.edge there.0 last.seat.has in
        let to : joined (below s e.rank) last.edge.u x ≡ true = (IsSame-joined (below s e.rank)).back x last.edge.u
        (joined_below-more s (suc last.edge.rank) e.rank x last.edge.u (omega arith) (joined-to_end s last.edge x there.0 there.1)) in
        subst (λ (g : ListedEdge). next (e ∷ s) g.u (suc g.rank) ≡ Some e) (sym same)
        (next-opens e s m.apart last.edge.u (suc last.edge.rank) (omega arith)
        (subst (λ (o : Option ListedEdge). IsBefore o e.rank) (next-behind s m.apart.1 x last.edge there.0 there.1) last.last)
        (out-row s e x last.edge.u to out))

    -- x isn't joined to an end whose last cell it isn't
    leaf-away : (x a : ℕ) (o : Option ℕ) → IsLast old s a e.rank o → (x ≡ a → o ≡ None → ⊥) → IsBefore (next s x 0) e.rank → joined (below s e.rank) x a ≡ false
    leaf-away x a o last not' before =
        false_from_ne_true (joined (below s e.rank) x a) (λ j.
        let same : x ≡ a = joined-first_front s x a (sym (stays-before s m.apart.1 x 0 e.rank a (omega arith) (IsUpTo-before (next s x 0) e.rank before)) ∙ j) in
        not' same (last-none old s m.apart.1 a e.rank o last (subst (λ (y : ℕ). IsBefore (next s y 0) e.rank) same before)))

    cell-away : (j : ℕ) (c : Cell) → cell_at old j ≡ Some c → (q : IsCellOf old s c) → q.edge.rank < e.rank → (a : ℕ) (o : Option ℕ) → IsLast old s a e.rank o → (o ≡ Some j → ⊥) →
        IsBefore (next s q.edge.u (suc q.edge.rank)) e.rank → joined (below s e.rank) q.edge.u a ≡ false
    cell-away j c is q low a o last not' before =
        false_from_ne_true (joined (below s e.rank) q.edge.u a) (λ k.
        let near : joined (below s (suc q.edge.rank)) q.edge.u a ≡ true = sym (stays-before s m.apart.1 q.edge.u (suc q.edge.rank) e.rank a (omega arith) (IsUpTo-before (next s q.edge.u (suc q.edge.rank)) e.rank before)) ∙ k in
        let back : joined (below s (suc q.edge.rank)) a q.edge.u ≡ true = (IsSame-joined (below s (suc q.edge.rank))).back q.edge.u a near in
        let out = reached-leaves s m.apart.1 q.edge q.joins a back in
        not' (last-one old s m.apart.1 m.links a e.rank o last q.edge (IsIn-joins_kept s q.edge q.joins).0 out low
        (subst (λ (w : Option ListedEdge). IsBefore w e.rank) (next-row s m.apart.1 q.edge.u a (suc q.edge.rank) near) before)
        j (record { cell = c; is = is; has = q.rank })))

    leafs : (x : ℕ) → IsCovered new x → Points new (leaf_of new x) (next (e ∷ s) x 0)
    leafs x cov =
        elim (m.opened.leafs x cov) [
          | inl put ↦ (let comes : next (e ∷ s) x 0 ≡ Some e = (elim put.1 [
            | inl p ↦ ap (λ (y : ℕ). next (e ∷ s) y 0) p.0 ∙ next-opens e s m.apart e.u 0 (omega arith) (subst (λ (o : Option ℕ). IsLast old s e.u e.rank o) p.1 m.first_last) out-first
            | inr p ↦ ap (λ (y : ℕ). next (e ∷ s) y 0) p.0 ∙ next-opens e s m.apart e.v 0 (omega arith) (subst (λ (o : Option ℕ). IsLast old s e.v e.rank o) p.1 m.second_last) out-second
          ]) in
              subst (λ (o : Option ℕ). Points new o (next (e ∷ s) x 0)) (sym put.0) (subst (λ (w : Option ListedEdge). Points new (Some id) w) (sym comes) seat))
          | inr same ↦ subst (λ (o : Option ℕ). Points new o (next (e ∷ s) x 0)) (sym same.0)
              (points-kept old new ranks (leaf_of old x) (next (e ∷ s) x 0)
              (subst (λ (w : Option ListedEdge). Points old (leaf_of old x) w)
              (sym (passes e s m.apart x 0 (omega arith) (λ before. (leaf-away x e.u first m.first_last same.1.0 before, leaf-away x e.v second m.second_last same.1.1 before))))
              (m.links.leafs x (m.opened.covered x cov))))
        ]

    -- a last cell is low
    last-low : (x : ℕ) (o : Option ℕ) → IsLast old s x e.rank o → (j : ℕ) → o ≡ Some j → IsLastCell old s x e.rank j
    last-low x o last j eq = subst (λ (p : Option ℕ). IsLast old s x e.rank p) eq last

    low : (j : ℕ) (c : Cell) → cell_at new j ≡ Some c → c.rank < e.rank → IsCellOf new (e ∷ s) c
    low j c eq less =
        let not_own : j ≡ id → ⊥ = λ same. (let r : c.rank ≡ e.rank = own-rank j c eq same in omega arith) in
        let o = m.opened.cells j c not_own eq in
        let q = m.links.cells j o.before o.is in
        let r : c.rank ≡ o.before.rank = o.rank in
        let r' : o.before.rank ≡ q.edge.rank = q.rank in
        let joins' : IsIn q.edge (joins (e ∷ s)) = (joins-kept e s m.apart needed q.edge (IsIn-joins_kept s q.edge q.joins).0).1 (q.joins, λ meet. needed (meet.behind e.rank (omega arith))) in
        elim o.up [
          | inl put ↦ (let comes : next (e ∷ s) q.edge.u (suc q.edge.rank) ≡ Some e = (elim put.1 [
            | inl p ↦ at-last e.u out-first first m.first_last j p o.before o.is q
            | inr p ↦ at-last e.v out-second second m.second_last j p o.before o.is q
          ]) in
              record {
                edge = q.edge;
                joins = joins';
                rank = o.rank ∙ q.rank;
                up = subst (λ (u : Option ℕ). Points new u (next (e ∷ s) q.edge.u (suc q.edge.rank))) (sym put.0) (subst (λ (w : Option ListedEdge). Points new (Some id) w) (sym comes) seat);
              })
          | inr same ↦ record {
            edge = q.edge;
            joins = joins';
            rank = o.rank ∙ q.rank;
            up = subst (λ (u : Option ℕ). Points new u (next (e ∷ s) q.edge.u (suc q.edge.rank))) (sym same.0)
                (points-kept old new ranks o.before.up (next (e ∷ s) q.edge.u (suc q.edge.rank))
                (subst (λ (w : Option ListedEdge). Points old o.before.up w)
                (sym (passes e s m.apart q.edge.u (suc q.edge.rank) (omega arith)
                (λ before. (cell-away j o.before o.is q (omega arith) e.u first m.first_last same.1.0 before, cell-away j o.before o.is q (omega arith) e.v second m.second_last same.1.1 before))))
                q.up));
          }
        ]
      where
        at-last : (x : ℕ) → leaves s x e ≡ true → (o : Option ℕ) → IsLast old s x e.rank o → (k : ℕ) → o ≡ Some k → (b : Cell) → cell_at old k ≡ Some b → (q : IsCellOf old s b) →
            next (e ∷ s) q.edge.u (suc q.edge.rank) ≡ Some e
        at-last x out o last k p b is q =
            let l = last-low x o last k p in
            let cells : Some l.seat.cell ≡ Some b = sym l.seat.is ∙ is in
            let cells' : b ≡ l.seat.cell = cc in
            let q' : IsCellOf old s l.seat.cell = subst (λ (y : Cell). IsCellOf old s y) cells' q in
            let same : q'.edge ≡ q.edge = apart-one s m.apart.1 q'.edge q.edge (IsIn-joins_kept s q'.edge q'.joins).0 (IsIn-joins_kept s q.edge q.joins).0
            (sym q'.rank ∙ sym (ap (λ (y : Cell). y.rank) cells') ∙ q.rank) in
            subst (λ (g : ListedEdge). next (e ∷ s) g.u (suc g.rank) ≡ Some e) same (opens x out k l q')

    high : (j : ℕ) (c : Cell) → cell_at new j ≡ Some c → e.rank < c.rank → IsCellOf new s c
    high j c eq more =
        let not_own : j ≡ id → ⊥ = λ same. (let r : c.rank ≡ e.rank = own-rank j c eq same in omega arith) in
        let o = m.opened.cells j c not_own eq in
        let r : c.rank ≡ o.before.rank = o.rank in
        elim o.up [
          | inl put ↦ absurd (elim put.1 [
            | inl p ↦ too-low e.u first m.first_last j p o.before o.is (omega arith)
            | inr p ↦ too-low e.v second m.second_last j p o.before o.is (omega arith)
          ])
          | inr same ↦ (let q = m.links.cells j o.before o.is in
              record {
                edge = q.edge;
                joins = q.joins;
                rank = o.rank ∙ q.rank;
                up = subst (λ (u : Option ℕ). Points new u (next s q.edge.u (suc q.edge.rank))) (sym same.0)
                    (points-kept old new ranks o.before.up (next s q.edge.u (suc q.edge.rank)) q.up);
              })
        ]
      where
        too-low : (x : ℕ) (o : Option ℕ) → IsLast old s x e.rank o → (k : ℕ) → o ≡ Some k → (b : Cell) → cell_at old k ≡ Some b → e.rank < b.rank → ⊥
        too-low x o last k p b is above =
            let l = last-low x o last k p in
            let cells : Some l.seat.cell ≡ Some b = sym l.seat.is ∙ is in
            let level : l.seat.cell.rank ≡ b.rank = ap (λ (y : Option Cell). option_map_or (λ z. z.rank) y 0) cells in
            let has : l.seat.cell.rank ≡ l.edge.rank = l.seat.has in
            let low' : l.edge.rank < e.rank = l.low in
            omega arith

    -- no cell that was there has e's rank
    unlike : (j : ℕ) (c : Cell) → (j ≡ id → ⊥) → cell_at new j ≡ Some c → c.rank ≡ e.rank → ⊥
    unlike j c other eq r =
        let o = m.opened.cells j c other eq in
        let q = m.links.cells j o.before o.is in
        m.apart.0 q.edge (IsIn-joins_kept s q.edge q.joins).0 (sym r ∙ o.rank ∙ q.rank)

    alone : (i j : ℕ) (b c : Cell) → cell_at new i ≡ Some b → cell_at new j ≡ Some c → b.rank ≡ c.rank → i ≡ j
    alone i j b c eb ec r =
        elim (cases_eq i id) [
          | inl si ↦ elim (cases_eq j id) [
            | inl sj ↦ si ∙ sym sj
            | inr oj ↦ absurd (unlike j c oj ec (sym r ∙ own-rank i b eb si))
          ]
          | inr oi ↦ elim (cases_eq j id) [
            | inl sj ↦ absurd (unlike i b oi eb (r ∙ own-rank j c ec sj))
            | inr oj ↦ (let p = m.opened.cells i b oi eb in let q = m.opened.cells j c oj ec in
                m.links.alone i j p.before q.before p.is q.is (sym p.rank ∙ r ∙ q.rank))
          ]
        ]
