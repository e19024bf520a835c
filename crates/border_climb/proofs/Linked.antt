-- A part stands for a list exactly where its links are those of the list.
use Rattle.std.proofs.Common.{◌≡◌, ℕ, zero, suc, ◌<◌, ◌≤◌, Bool, true, false, cond, inl, inr, refl, sym, ◌∙◌, subst, ap, arith, [], ◌∷◌, length}
use Rattle.std.specs.Prelude.{filter, nat_le, Option, Some, None, IsSome}
use Rattle.std.proofs.lemmas.Bool.{cases_Bool, leb-true, le-leb, true≢false, or_left}
use Rattle.edge_laws.specs.Edges.{ListedEdge, EdgeList, AreApart, below, joins, chain, first_edge, next}
use Rattle.hg_base.specs.Lists.{IsIn}
use Rattle.edge_laws.specs.Placed.{ranks}
use Rattle.edge_laws.proofs.Walks.{IsSame-joined}
use Rattle.hg_base.proofs.Lists.{IsIn-kept, IsIn-filter}
use Rattle.edge_laws.proofs.Members.{IsRising}
use Rattle.edge_laws.proofs.Sets.{IsIn-joins, IsIn-joins_kept, IsIn-chain, IsIn-chain_kept, IsRising-chain}
use Rattle.edge_laws.proofs.Fronts.{apart-one}
use Rattle.edge_laws.proofs.Leaving.{leaves}
use Rattle.edge_laws.proofs.Merged.{next-row, joined-to_end}
use Rattle.edge_laws.proofs.Next.{IsIn-leaving, IsIn-leaving_kept}
use Rattle.edge_laws.proofs.Ends.{next-is}
use Rattle.node_region.specs.Pool.{CellPool, cell_at, leaf_of, IsUsed}
use Rattle.node_region.specs.declared.cell.Cell.{Cell}
use Rattle.border_climb.specs.Stands.{PartState, IsClimb, IsMet, IsMetFromPlace, Stands}
use Rattle.border_climb.specs.Linked.{HasRank, Points, IsCellOf, AreLinked, AreLinkedFrom, AreBetween}

-- the chain of x from rank k on
abbrev pub rest : EdgeList → ℕ → ℕ → EdgeList
rest s x k = filter (λ e. nat_le k e.rank) (chain s x)

-- a list whose ranks are all at least k
filter-whole : (k : ℕ) (t : EdgeList) → ((f : ListedEdge) → IsIn f t → k ≤ f.rank) → filter (λ e. nat_le k e.rank) t ≡ t
filter-whole k [] h = refl
filter-whole k (g ∷ t) h =
    rw (le-leb k g.rank (h g (inl refl))) (ap (λ (l : EdgeList). g ∷ l) (filter-whole k t (λ f i. h f (inr i))))

-- behind the first edge of what a rising list has from rank k on stands what it has from the next rank on
filter-tail : (t : EdgeList) → IsRising t → (k : ℕ) (f : ListedEdge) (r : EdgeList) → filter (λ e. nat_le k e.rank) t ≡ f ∷ r → r ≡ filter (λ e. nat_le (suc f.rank) e.rank) t
filter-tail [] h k f r eq = absurd (cc)
filter-tail (g ∷ t) h k f r eq =
    elim (cases_Bool (nat_le k g.rank)) [
      | inl kept ↦ (let whole : g ∷ filter (λ e. nat_le k e.rank) t ≡ f ∷ r = subst (λ (b : Bool). cond b (g ∷ filter (λ e. nat_le k e.rank) t) (filter (λ e. nat_le k e.rank) t) ≡ f ∷ r) kept eq in
          let same : g ≡ f = cc in
          let tail : filter (λ e. nat_le k e.rank) t ≡ r = cc in
          let low : k ≤ g.rank = leb-true k g.rank kept in
          sym tail
          ∙ filter-whole k t (λ e i. let up : g.rank < e.rank = h.0 e i in omega arith)
          ∙ sym (filter-whole (suc g.rank) t (λ e i. let up : g.rank < e.rank = h.0 e i in omega arith))
          ∙ sym (own g.rank t (omega arith))
          ∙ ap (λ (e : ListedEdge). filter (λ y. nat_le (suc e.rank) y.rank) (g ∷ t)) same)
      | inr dropped ↦ (let there : filter (λ e. nat_le k e.rank) t ≡ f ∷ r = subst (λ (b : Bool). cond b (g ∷ filter (λ e. nat_le k e.rank) t) (filter (λ e. nat_le k e.rank) t) ≡ f ∷ r) dropped eq in
          let i : IsIn f t = (IsIn-kept (λ (e : ListedEdge). nat_le k e.rank) f t (subst (λ (l : EdgeList). IsIn f l) (sym there) (inl refl))).1 in
          let up : g.rank < f.rank = h.0 f i in
          filter-tail t h.1 k f r there ∙ sym (own f.rank t (omega arith)))
    ]
  where
    le-than : (m : ℕ) → g.rank ≤ m → nat_le (suc m) g.rank ≡ false
    le-than m le = elim (cases_Bool (nat_le (suc m) g.rank)) [
      | inl yes' ↦ absurd (let up : suc m ≤ g.rank = leb-true (suc m) g.rank yes' in omega arith)
      | inr no' ↦ no'
    ]

    own : (m : ℕ) (l : EdgeList) → g.rank < suc m → filter (λ e. nat_le (suc m) e.rank) (g ∷ l) ≡ filter (λ e. nat_le (suc m) e.rank) l
    own m l lt = rw (le-than m (omega arith)) refl

-- an edge of the rest of a chain: of the chain, and of that rank or more
pub IsIn-rest : (s : EdgeList) (x k : ℕ) (f : ListedEdge) → IsIn f (rest s x k) → IsIn f (chain s x) × (k ≤ f.rank)
IsIn-rest s x k f i = let p = IsIn-kept (λ (e : ListedEdge). nat_le k e.rank) f (chain s x) i in (p.1, leb-true k f.rank p.0)

-- a cell of the rank of an edge of a joining edge is of that edge
pub cell-edge : (pool : CellPool) (s : EdgeList) → AreApart s → (c : Cell) (q : IsCellOf pool s c) (f : ListedEdge) → IsIn f s → c.rank ≡ f.rank → q.edge ≡ f
cell-edge pool s h c q f i r = apart-one s h q.edge f (IsIn-joins_kept s q.edge q.joins).0 i (sym q.rank ∙ r)

-- what is next for f's first end behind f is next for each vertex that f leads out from
pub next-behind : (s : EdgeList) → AreApart s → (x : ℕ) (f : ListedEdge) → IsIn f s → leaves s x f ≡ true → next s x (suc f.rank) ≡ next s f.u (suc f.rank)
next-behind s h x f i out = next-row s h x f.u (suc f.rank) (joined-to_end s f x i out)

-- the links of all cells are those of the cells from a rank on
pub linked-from : (pool : CellPool) (s : EdgeList) → AreLinked pool s → (l : ℕ) → AreLinkedFrom pool s l
linked-from pool s h l = record { cells = λ id c is low. h.cells id c is; alone = h.alone }

-- the climb from a link that points at what comes next meets the rest of the chain
climbs : (pool : CellPool) (s : EdgeList) → AreApart s → (m : ℕ) → AreLinkedFrom pool s m → (t : EdgeList) (x k : ℕ) (o : Option ℕ) → m ≤ k → rest s x k ≡ t → Points pool o (first_edge t) → IsClimb pool o (ranks t)
climbs pool s h m l [] x k None low eq p = tt
climbs pool s h m l [] x k (Some id) low eq p = absurd p
climbs pool s h m l (f ∷ t) x k None low eq p = absurd p
climbs pool s h m l (f ∷ t) x k (Some id) low eq p =
    let i = IsIn-rest s x k f (subst (λ (r : EdgeList). IsIn f r) (sym eq) (inl refl)) in
    let above : k ≤ f.rank = i.1 in
    let level : p.cell.rank ≡ f.rank = p.has in
    let out = IsIn-leaving_kept s x f i.0 in
    let q = l.cells id p.cell p.is (omega arith) in
    let tail : t ≡ rest s x (suc f.rank) = filter-tail (chain s x) (IsRising-chain s x h) k f t eq in
    let up : Points pool p.cell.up (next s f.u (suc f.rank)) = subst (λ (g : ListedEdge). Points pool p.cell.up (next s g.u (suc g.rank))) (cell-edge pool s h p.cell q f out.0 p.has) q.up in
    let up' : Points pool p.cell.up (first_edge t) = subst (λ (r : EdgeList). Points pool p.cell.up (first_edge r)) (sym tail)
    (subst (λ (w : Option ListedEdge). Points pool p.cell.up w) (sym (next-behind s h x f out.0 out.1)) up) in
    (p.cell, (p.is, (p.has, climbs pool s h m l t x (suc f.rank) p.cell.up (omega arith) (sym tail) up')))

-- a climb meets a cell of each rank of its list
meets : (pool : CellPool) (t : EdgeList) (o : Option ℕ) → IsClimb pool o (ranks t) → (f : ListedEdge) → IsIn f t → (d : ℕ) × ((id : ℕ) × (IsMet pool d o id × HasRank pool id f.rank))
meets pool [] o c f i = absurd i
meets pool (g ∷ t) None c f i = absurd c
meets pool (g ∷ t) (Some id) c f (inl same) =
    (zero, (id, (refl, record { cell = c.0; is = c.1.0; has = c.1.1.0 ∙ ap (λ (e : ListedEdge). e.rank) same })))
meets pool (g ∷ t) (Some id) c f (inr later) =
    let m = meets pool t c.0.up c.1.1.1 f later in
    (suc m.0, (m.1.0, ((c.0, (c.1.0, m.1.1.0)), m.1.1.1)))

-- From a link that points at what comes next for x from rank k on, each edge of the chain from there on is met.
pub met-chain : (pool : CellPool) (s : EdgeList) → AreApart s → (m : ℕ) → AreLinkedFrom pool s m → (x k : ℕ) (o : Option ℕ) → m ≤ k → Points pool o (next s x k) →
    (f : ListedEdge) → IsIn f (chain s x) → k ≤ f.rank → (id : ℕ) → HasRank pool id f.rank → (d : ℕ) × IsMet pool d o id
met-chain pool s h m l x k o low p f i up id r =
    let w = meets pool (rest s x k) o (climbs pool s h m l (rest s x k) x k o low refl p) f
    (IsIn-filter (λ (e : ListedEdge). nat_le k e.rank) f (chain s x) (le-leb k f.rank up) i) in
    (w.0, subst (λ (j : ℕ). IsMet pool w.0 o j) (l.alone w.1.0 id w.1.1.1.cell r.cell w.1.1.1.is r.is (w.1.1.1.has ∙ sym r.has)) w.1.1.0)

-- And what is met is of an edge of the chain from there on.
pub chain-met : (pool : CellPool) (s : EdgeList) → AreApart s → (m : ℕ) → AreLinkedFrom pool s m → (d x k : ℕ) (o : Option ℕ) (w : Option ListedEdge) → m ≤ k → next s x k ≡ w → Points pool o w →
    (id : ℕ) → IsMet pool d o id → (c : Cell) → cell_at pool id ≡ Some c → (f : ListedEdge) × (IsIn f (chain s x) × ((k ≤ f.rank) × (c.rank ≡ f.rank)))
chain-met pool s h m l d x k None w low eq p id met c is = absurd met
chain-met pool s h m l d x k (Some i) None low eq p id met c is = absurd p
chain-met pool s h m l zero x k (Some i) (Some f) low eq p id met c is =
    let n = next-is s h x k f eq in
    let same : Some p.cell ≡ Some c = sym p.is ∙ ap (λ (j : ℕ). cell_at pool j) met ∙ is in
    let same' : p.cell ≡ c = cc in
    (f, (IsIn-leaving s x f n.0 n.1.0, (n.1.1, sym (ap (λ (y : Cell). y.rank) same') ∙ p.has)))
chain-met pool s h m l (suc d) x k (Some i) (Some f) low eq p id met c is =
    let n = next-is s h x k f eq in
    let above : k ≤ f.rank = n.1.1 in
    let same : Some p.cell ≡ Some met.0 = sym p.is ∙ met.1.0 in
    let same' : p.cell ≡ met.0 = cc in
    let level : p.cell.rank ≡ f.rank = p.has in
    let q = l.cells i p.cell p.is (omega arith) in
    let up : Points pool p.cell.up (next s f.u (suc f.rank)) = subst (λ (g : ListedEdge). Points pool p.cell.up (next s g.u (suc g.rank))) (cell-edge pool s h p.cell q f n.0 p.has) q.up in
    let further = chain-met pool s h m l d x (suc f.rank) p.cell.up (next s x (suc f.rank)) (omega arith) refl
    (subst (λ (v : Option ListedEdge). Points pool p.cell.up v) (sym (next-behind s h x f n.0 n.1.0)) up)
    id (subst (λ (y : Cell). IsMet pool d y.up id) (sym same') met.1.1) c is in
    let beyond : suc f.rank ≤ further.0.rank = further.1.1.0 in
    (further.0, (further.1.0, (omega arith, further.1.1.1)))

-- from rank 0 on a chain is whole
pub rest-whole : (s : EdgeList) (x : ℕ) → rest s x 0 ≡ chain s x
rest-whole s x = filter-whole 0 (chain s x) (λ f i. omega arith)

-- a joining edge is on the chain of its first end
pub own-chain : (s : EdgeList) (f : ListedEdge) → IsIn f (joins s) → IsIn f (chain s f.u)
own-chain s f i =
    let p = IsIn-joins_kept s f i in
    IsIn-chain s f.u f (record { member = p.0; joining = p.1; touching = or_left _ _ ((IsSame-joined (below s f.rank)).self f.u) })

-- each edge of a chain has a cell
pub climb-meets : (pool : CellPool) (s : EdgeList) → AreApart s → AreLinked pool s → (x : ℕ) → Points pool (leaf_of pool x) (next s x 0) → (f : ListedEdge) → IsIn f (chain s x) → (id : ℕ) × HasRank pool id f.rank
climb-meets pool s h l x p f i =
    let w = meets pool (rest s x 0) (leaf_of pool x) (climbs pool s h 0 (linked-from pool s l 0) (rest s x 0) x 0 (leaf_of pool x) (omega arith) refl p) f
    (IsIn-filter (λ (e : ListedEdge). nat_le 0 e.rank) f (chain s x) (le-leb 0 f.rank (omega arith)) i) in
    (w.1.0, w.1.1.1)

-- Where the links are those of the list, the part stands for it.
pub Stands-linked : (part : PartState) (s : EdgeList) → AreBetween part.region s → AreLinked part.region s → part.given ≡ length s → Stands part s
Stands-linked part s b l n = record {
  first_ends = b.first_ends;
  second_ends = b.second_ends;
  two_ends = b.two_ends;
  apart = b.apart;
  small = b.small;
  traces = λ x cov. subst (λ (t : EdgeList). IsClimb part.region (leaf_of part.region x) (ranks t)) (rest-whole s x)
      (climbs part.region s b.apart 0 (linked-from part.region s l 0) (rest s x 0) x 0 (leaf_of part.region x) (omega arith) refl (l.leafs x cov));
  met = met;
  alone = l.alone;
  given = n;
}
  where
    met : (id : ℕ) → IsUsed part.region id → IsMetFromPlace part id
    met id used = go (cell_at part.region id) refl used
      where
        go : (o : Option Cell) → cell_at part.region id ≡ o → IsSome o → IsMetFromPlace part id
        go None eq u = absurd (true≢false (sym u))
        go (Some c) eq u =
            let q = l.cells id c eq in
            let cov = b.first_ends q.edge (IsIn-joins_kept s q.edge q.joins).0 in
            (q.edge.u, (cov, met-chain part.region s b.apart 0 (linked-from part.region s l 0) q.edge.u 0 (leaf_of part.region q.edge.u) (omega arith) (l.leafs q.edge.u cov) q.edge (own-chain s q.edge q.joins) (omega arith) id (record { cell = c; is = eq; has = q.rank })))

-- a climb begins at the cell of the first rank
points-first : (pool : CellPool) (t : EdgeList) (o : Option ℕ) → IsClimb pool o (ranks t) → Points pool o (first_edge t)
points-first pool [] None c = tt
points-first pool [] (Some id) c = absurd c
points-first pool (f ∷ t) None c = absurd c
points-first pool (f ∷ t) (Some id) c = record { cell = c.0; is = c.1.0; has = c.1.1.0 }

-- a cell that is met along a chain is of an edge of it
along : (pool : CellPool) (s : EdgeList) → AreApart s → (t : EdgeList) (x k : ℕ) (o : Option ℕ) → rest s x k ≡ t → IsClimb pool o (ranks t) →
    (d id : ℕ) → IsMet pool d o id → (c : Cell) → cell_at pool id ≡ Some c → IsCellOf pool s c
along pool s h t x k None eq c d id m b is = absurd m
along pool s h [] x k (Some i) eq c d id m b is = absurd c
along pool s h (f ∷ t) x k (Some i) eq c zero id m b is =
    let at = IsIn-rest s x k f (subst (λ (r : EdgeList). IsIn f r) (sym eq) (inl refl)) in
    let out = IsIn-leaving_kept s x f at.0 in
    let chained = IsIn-chain_kept s x f at.0 in
    let tail : t ≡ rest s x (suc f.rank) = filter-tail (chain s x) (IsRising-chain s x h) k f t eq in
    let same : Some c.0 ≡ Some b = sym c.1.0 ∙ ap (λ (j : ℕ). cell_at pool j) m ∙ is in
    let same' : c.0 ≡ b = cc in
    let up : Points pool c.0.up (first_edge t) = points-first pool t c.0.up c.1.1.1 in
    subst (λ (y : Cell). IsCellOf pool s y) same' (record {
      edge = f;
      joins = IsIn-joins s f chained.member chained.joining;
      rank = c.1.1.0;
      up = subst (λ (w : Option ListedEdge). Points pool c.0.up w) (next-behind s h x f out.0 out.1)
          (subst (λ (r : EdgeList). Points pool c.0.up (first_edge r)) tail up);
    })
along pool s h (f ∷ t) x k (Some i) eq c (suc d) id m b is =
    let tail : t ≡ rest s x (suc f.rank) = filter-tail (chain s x) (IsRising-chain s x h) k f t eq in
    let same : Some m.0 ≡ Some c.0 = sym m.1.0 ∙ c.1.0 in
    let same' : m.0 ≡ c.0 = cc in
    along pool s h t x (suc f.rank) c.0.up (sym tail) c.1.1.1 d id (subst (λ (y : Cell). IsMet pool d y.up id) same' m.1.1) b is

-- Where a part stands for a list, its links are those of the list.
pub linked-Stands : (part : PartState) (s : EdgeList) → Stands part s → AreLinked part.region s
linked-Stands part s st = record {
  leafs = λ x cov. subst (λ (t : EdgeList). Points part.region (leaf_of part.region x) (first_edge t)) (sym (rest-whole s x))
      (points-first part.region (chain s x) (leaf_of part.region x) (st.traces x cov));
  cells = cells;
  alone = st.alone;
}
  where
    cells : (id : ℕ) (c : Cell) → cell_at part.region id ≡ Some c → IsCellOf part.region s c
    cells id c is =
        let m = st.met id (subst (λ (o : Option Cell). IsSome o) (sym is) refl) in
        along part.region s st.apart (chain s m.0) m.0 0 (leaf_of part.region m.0) (rest-whole s m.0) (st.traces m.0 m.1.0) m.1.1.0 id m.1.1.1 c is

pub between-Stands : (part : PartState) (s : EdgeList) → Stands part s → AreBetween part.region s
between-Stands part s st = record { first_ends = st.first_ends; second_ends = st.second_ends; two_ends = st.two_ends; apart = st.apart; small = st.small }
