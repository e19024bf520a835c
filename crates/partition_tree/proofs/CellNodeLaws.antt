-- What the numbering of a part's cells gives is the tree of each list for which the part stands.
use Rattle.std.proofs.Common.{◌≡◌, ℕ, zero, suc, ◌+◌, ◌<◌, ◌≤◌, inl, inr, refl, sym, ◌∙◌, subst, ap, arith, List, [], ◌∷◌, ◌++◌, length, map, get_or, append-nil}
use Rattle.std.specs.Prelude.{Option, Some, None, slice_get}
use Rattle.std.specs.List.{range_with_len}
use Rattle.std.proofs.lemmas.Option.{slice_get_within}
use Rattle.std.proofs.lemmas.Bool.{le-ltb}
use Rattle.edge_laws.specs.Edges.{ListedEdge, EdgeList, below, joins, chain, next}
use Rattle.hg_base.specs.Lists.{IsIn}
use Rattle.edge_laws.specs.Placed.{ranks}
use Rattle.tree_laws.specs.Tree.{place, node_or}
use Rattle.edge_laws.proofs.Sets.{IsIn-joins, IsIn-joins_kept, IsRising-joins}
use Rattle.edge_laws.proofs.Fronts.{apart-one}
use Rattle.tree_laws.proofs.Paths.{leaving-joins}
use Rattle.tree_laws.proofs.Nodes.{joins-at, joins-index}
use Rattle.edge_laws.proofs.BelowRanks.{below-found, below-missing, below-whole}
use Rattle.edge_laws.proofs.Ends.{next-is}
use Rattle.node_region.specs.Pool.{CellPool, IsCovered, leaf_of, count}
use Rattle.border_climb.specs.Stands.{PartState, IsClimb, Stands}
use Rattle.border_climb.specs.Linked.{HasRank, Points, AreLinked}
use Rattle.border_climb.proofs.Linked.{linked-Stands, own-chain}
use Rattle.border_climb.specs.Parts.{above_cell}
use Rattle.border_climb.specs.Splicing.{rank_of}
use Rattle.partition_tree.specs.CellNodes.{AreCells, noted, AreByRank, or_none, in_rank, AreNodeNumbers, node_above, inner_parent}
use Rattle.partition_tree.proofs.CellLemmas.{cell-used, rank-is, link-is}

-- a link that leads somewhere leads to a cell of what comes next
points-to : (pool : CellPool) (j : ℕ) (w : Option ListedEdge) → Points pool (Some j) w → (f : ListedEdge) × ((w ≡ Some f) × HasRank pool j f.rank)
points-to pool j None p = absurd p
points-to pool j (Some f) p = (f, (refl, p))

-- the cells of a part that stands for a list of edges of rank below m
pub Stands-cells : (part : PartState) (s : EdgeList) (m : ℕ) → Stands part s → part.region.first ≡ 0 → count part.region ≤ 1048576 →
    ((e : ListedEdge) → IsIn e s → e.rank < m) → AreCells part m
Stands-cells part s m st first few low = record {
  first = first;
  few = few;
  leafs = λ x j cov leaf. (let p = points-to part.region j (next s x 0) (subst (λ (o : Option ℕ). Points part.region o (next s x 0)) leaf (l.leafs x cov)) in
      cell-used part.region j p.1.1.cell p.1.1.is);
  ups = λ i j c is up. (let q = l.cells i c is in
      let p = points-to part.region j (next s q.edge.u (suc q.edge.rank)) (subst (λ (o : Option ℕ). Points part.region o (next s q.edge.u (suc q.edge.rank))) up q.up) in
      let n = next-is s st.apart q.edge.u (suc q.edge.rank) p.0 p.1.0 in
      let higher : q.edge.rank < p.0.rank = n.1.1 in
      let own : c.rank ≡ q.edge.rank = q.rank in
      let at : p.1.1.cell.rank ≡ p.0.rank = p.1.1.has in
      (p.1.1.cell, (p.1.1.is, omega arith)));
  ranks = λ i c is. (let q = l.cells i c is in let own : c.rank ≡ q.edge.rank = q.rank in
      let b : q.edge.rank < m = low q.edge (IsIn-joins_kept s q.edge q.joins).0 in omega arith);
  alone = st.alone;
}
  where
    l : AreLinked part.region s
    l = linked-Stands part s st

-- a climb has a cell of each rank of its list
climb-has : (pool : CellPool) (t : EdgeList) (o : Option ℕ) → IsClimb pool o (ranks t) → (f : ListedEdge) → IsIn f t → (id : ℕ) × HasRank pool id f.rank
climb-has pool [] o c f i = absurd i
climb-has pool (g ∷ t) None c f i = absurd c
climb-has pool (g ∷ t) (Some id) c f (inl same) = (id, record { cell = c.0; is = c.1.0; has = c.1.1.0 ∙ ap (λ (e : ListedEdge). e.rank) same })
climb-has pool (g ∷ t) (Some id) c f (inr later) = climb-has pool t c.0.up c.1.1.1 f later

-- each joining edge has a cell
pub joining-cell : (part : PartState) (s : EdgeList) → Stands part s → (e : ListedEdge) → IsIn e (joins s) → (id : ℕ) × HasRank part.region id e.rank
joining-cell part s st e i =
    climb-has part.region (chain s e.u) (leaf_of part.region e.u) (st.traces e.u (st.first_ends e (IsIn-joins_kept s e i).0)) e (own-chain s e i)

-- the numbers have the cells of the edges, one by one
abbrev pub AreOf : CellPool → List ℕ → EdgeList → Type 0
AreOf pool [] [] = Unit {0}
AreOf pool [] (e ∷ es) = ⊥
AreOf pool (id ∷ ids) [] = ⊥
AreOf pool (id ∷ ids) (e ∷ es) = HasRank pool id e.rank × AreOf pool ids es

of-more : (pool : CellPool) (ids : List ℕ) (es : EdgeList) (id : ℕ) (e : ListedEdge) → AreOf pool ids es → HasRank pool id e.rank → AreOf pool (ids ++ id ∷ []) (es ++ e ∷ [])
of-more pool [] [] id e a h = (h, tt)
of-more pool [] (f ∷ es) id e a h = absurd a
of-more pool (i ∷ ids) [] id e a h = absurd a
of-more pool (i ∷ ids) (f ∷ es) id e a h = (a.0, of-more pool ids es id e a.1 h)

of-length : (pool : CellPool) (ids : List ℕ) (es : EdgeList) → AreOf pool ids es → length ids ≡ length es
of-length pool [] [] a = refl
of-length pool [] (f ∷ es) a = absurd a
of-length pool (i ∷ ids) [] a = absurd a
of-length pool (i ∷ ids) (f ∷ es) a = ap suc (of-length pool ids es a.1)

of-at : (pool : CellPool) (ids : List ℕ) (es : EdgeList) → AreOf pool ids es → (i : ℕ) (e : ListedEdge) → slice_get es i ≡ Some e → HasRank pool (get_or ids i 0) e.rank
of-at pool ids [] a i e eq = absurd (cc)
of-at pool [] (f ∷ es) a i e eq = absurd a
of-at pool (id ∷ ids) (f ∷ es) a zero e eq = let same : f ≡ e = cc in subst (λ (x : ListedEdge). HasRank pool id x.rank) same a.0
of-at pool (id ∷ ids) (f ∷ es) a (suc i) e eq = of-at pool ids es a.1 i e eq

-- one more rank: a cell is noted at it, of a joining edge, or none is and no edge of this rank joins
in_rank-step : (part : PartState) (s : EdgeList) (cells : List ℕ) → Stands part s → AreByRank part.region cells → (k : ℕ) → AreOf part.region (in_rank cells k) (below (joins s) k) →
    (o : Option ℕ) → noted cells k ≡ o → AreOf part.region (in_rank cells (suc k)) (below (joins s) (suc k))
in_rank-step part s cells st b k before None eq =
    let none' : below (joins s) (suc k) ≡ below (joins s) k = below-missing (joins s) k (λ e i level. missing e i level) in
    let same : in_rank cells (suc k) ≡ in_rank cells k = ap (λ (o : Option ℕ). in_rank cells k ++ or_none o) eq ∙ append-nil (in_rank cells k) in
    subst (λ (l : EdgeList). AreOf part.region (in_rank cells (suc k)) l) (sym none') (subst (λ (l : List ℕ). AreOf part.region l (below (joins s) k)) (sym same) before)
  where
    missing : (e : ListedEdge) → IsIn e (joins s) → e.rank ≡ k → ⊥
    missing e i level =
        let j = joining-cell part s st e i in
        let at : noted cells j.1.cell.rank ≡ Some j.0 = b.each j.0 j.1.cell j.1.is in
        let here : noted cells k ≡ Some j.0 = ap (noted cells) (sym level ∙ sym j.1.has) ∙ at in
        let clash : None ≡ Some j.0 = sym eq ∙ here in
        cc
in_rank-step part s cells st b k before (Some id) eq =
    let h = b.has_rank k id eq in
    let q = (linked-Stands part s st).cells id h.cell h.is in
    let level : q.edge.rank ≡ k = sym q.rank ∙ h.has in
    let found : below (joins s) (suc k) ≡ below (joins s) k ++ q.edge ∷ [] = subst (λ (r : ℕ). below (joins s) (suc r) ≡ below (joins s) r ++ q.edge ∷ []) level (below-found (joins s) (IsRising-joins s st.apart) q.edge q.joins) in
    let same : in_rank cells (suc k) ≡ in_rank cells k ++ id ∷ [] = ap (λ (o : Option ℕ). in_rank cells k ++ or_none o) eq in
    subst (λ (l : EdgeList). AreOf part.region (in_rank cells (suc k)) l) (sym found)
    (subst (λ (l : List ℕ). AreOf part.region l (below (joins s) k ++ q.edge ∷ [])) (sym same)
    (of-more part.region (in_rank cells k) (below (joins s) k) id q.edge before (record { cell = h.cell; is = h.is; has = q.rank })))

nothing-below : (t : EdgeList) → below t 0 ≡ []
nothing-below [] = refl
nothing-below (e ∷ t) = rw (le-ltb e.rank 0 (omega arith)) (nothing-below t)

-- the cells in rising rank are those of the joining edges
pub in_rank-of : (part : PartState) (s : EdgeList) (cells : List ℕ) → Stands part s → AreByRank part.region cells → (k : ℕ) → AreOf part.region (in_rank cells k) (below (joins s) k)
in_rank-of part s cells st b zero = subst (λ (l : EdgeList). AreOf part.region [] l) (sym (nothing-below (joins s))) tt
in_rank-of part s cells st b (suc k) = in_rank-step part s cells st b k (in_rank-of part s cells st b k) (noted cells k) refl

-- All that is known of a numbering of a part that stands for a list.
pub record IsNumbering (part : PartState) (s : EdgeList) (n : ℕ) (made numbers : List ℕ) : Type 0 where
  pub stands : Stands part s
  pub made_of : AreOf part.region made (joins s)
  pub numbers_of : AreNodeNumbers n made numbers

pub numbering-of : (part : PartState) (s : EdgeList) (n m : ℕ) (cells : List ℕ) (made numbers : List ℕ) → Stands part s → ((e : ListedEdge) → IsIn e s → e.rank < m) →
    AreByRank part.region cells → made ≡ in_rank cells m → AreNodeNumbers n made numbers → IsNumbering part s n made numbers
numbering-of part s n m cells made numbers st low b is nums = record {
  stands = st;
  made_of = subst (λ (l : List ℕ). AreOf part.region l (joins s)) (sym is)
      (subst (λ (l : EdgeList). AreOf part.region (in_rank cells m) l) (below-whole (joins s) m (λ e i. low e (IsIn-joins_kept s e i).0)) (in_rank-of part s cells st b m));
  numbers_of = nums;
}

-- the number of a joining edge's cell tells its node
pub cell-node : (part : PartState) (s : EdgeList) (n : ℕ) (made numbers : List ℕ) → IsNumbering part s n made numbers → (e : ListedEdge) → IsIn e (joins s) →
    (id : ℕ) → HasRank part.region id e.rank → get_or numbers id 0 ≡ n + place s e
cell-node part s n made numbers w e i id h =
    let at = joins-at s w.stands.apart e i in
    let own = of-at part.region made (joins s) w.made_of (place s e) e at in
    let same : get_or made (place s e) 0 ≡ id = w.stands.alone (get_or made (place s e) 0) id own.cell h.cell own.is h.is (own.has ∙ sym h.has) in
    let within : place s e < length (joins s) = slice_get_within (joins s) (place s e) e at in
    let len : length made ≡ length (joins s) = of-length part.region made (joins s) w.made_of in
    ap (λ (x : ℕ). get_or numbers x 0) (sym same) ∙ w.numbers_of (place s e) (omega (arith, within, len))

-- a link that points at what comes next tells the node that it makes
pub link-node : (part : PartState) (s : EdgeList) (n : ℕ) (made numbers : List ℕ) → IsNumbering part s n made numbers → (own x k : ℕ) (o : Option ℕ) (q : Option ListedEdge) →
    next s x k ≡ q → Points part.region o q → node_above numbers own o ≡ node_or n s own q
link-node part s n made numbers w own x k None None eq p = refl
link-node part s n made numbers w own x k None (Some f) eq p = absurd p
link-node part s n made numbers w own x k (Some id) None eq p = absurd p
link-node part s n made numbers w own x k (Some id) (Some f) eq p =
    let found = next-is s w.stands.apart x k f eq in
    cell-node part s n made numbers w f (IsIn-joins s f found.0 (leaving-joins s x f found.1.0)) id p

-- mapped ranges that agree
pub range-agree : {X : Type 0} (f g : ℕ → X) (a n : ℕ) → ((i : ℕ) → a ≤ i → i < a + n → f i ≡ g i) → map f (range_with_len a n) ≡ map g (range_with_len a n)
range-agree {X} f g a zero h = refl
range-agree {X} f g a (suc n) h =
    ap (λ (x : X). x ∷ map f (range_with_len (a + 1) n)) (h a (omega arith) (omega arith))
    ∙ ap (λ (l : List X). g a ∷ l) (range-agree f g (a + 1) n (λ i lo hi. h i (omega arith) (omega arith)))

-- a mapped range and a mapped list that agree
pub range-list : {X Y : Type 0} (f : ℕ → X) (g : Y → X) (a : ℕ) (ys : List Y) → ((i : ℕ) (y : Y) → slice_get ys i ≡ Some y → f (a + i) ≡ g y) →
    map f (range_with_len a (length ys)) ≡ map g ys
range-list {X} {Y} f g a [] h = refl
range-list {X} {Y} f g a (y ∷ ys) h =
    let z : a ≡ a + 0 = omega arith in
    ap (λ (x : X). x ∷ map f (range_with_len (a + 1) (length ys))) (ap f z ∙ h 0 y refl)
    ∙ ap (λ (l : List X). g y ∷ l) (range-list f g (a + 1) ys (λ i w eq. let e : (a + 1) + i ≡ a + suc i = omega arith in ap f e ∙ h (suc i) w eq))

-- the parents of the leaves
pub leaf-parents : (part : PartState) (s : EdgeList) (n : ℕ) (p : ℕ → ℕ) (made numbers : List ℕ) → IsNumbering part s n made numbers → ((v : ℕ) → v < n → IsCovered part.region (p v)) →
    map (λ v. node_above numbers v (leaf_of part.region (p v))) (range_with_len 0 n) ≡ map (λ v. node_or n s v (next s (p v) 0)) (range_with_len 0 n)
leaf-parents part s n p made numbers w cov =
    range-agree (λ v. node_above numbers v (leaf_of part.region (p v))) (λ v. node_or n s v (next s (p v) 0)) 0 n
    (λ v lo hi. link-node part s n made numbers w v (p v) 0 (leaf_of part.region (p v)) (next s (p v) 0) refl ((linked-Stands part s w.stands).leafs (p v) (cov v (omega arith))))

-- the parents of the inner nodes
pub inner-parents : (part : PartState) (s : EdgeList) (n : ℕ) (made numbers : List ℕ) → IsNumbering part s n made numbers →
    map (inner_parent n part.region made numbers) (range_with_len 0 (length made)) ≡ map (λ e. node_or n s (n + place s e) (next s e.u (suc e.rank))) (joins s)
inner-parents part s n made numbers w =
    ap (λ (k : ℕ). map (inner_parent n part.region made numbers) (range_with_len 0 k)) (of-length part.region made (joins s) w.made_of)
    ∙ range-list (inner_parent n part.region made numbers) (λ e. node_or n s (n + place s e) (next s e.u (suc e.rank))) 0 (joins s) (λ i e eq. one i e eq)
  where
    one : (i : ℕ) (e : ListedEdge) → slice_get (joins s) i ≡ Some e → inner_parent n part.region made numbers (0 + i) ≡ node_or n s (n + place s e) (next s e.u (suc e.rank))
    one i e eq =
        let at = joins-index s w.stands.apart i e eq in
        let h = of-at part.region made (joins s) w.made_of i e eq in
        let q = (linked-Stands part s w.stands).cells (get_or made i 0) h.cell h.is in
        let own : q.edge ≡ e = apart-one s w.stands.apart q.edge e (IsIn-joins_kept s q.edge q.joins).0 (IsIn-joins_kept s e at.0).0 (sym q.rank ∙ h.has) in
        let up : Points part.region h.cell.up (next s e.u (suc e.rank)) = subst (λ (x : ListedEdge). Points part.region h.cell.up (next s x.u (suc x.rank))) own q.up in
        let link : above_cell part.region (get_or made i 0) ≡ h.cell.up = link-is part.region (get_or made i 0) h.cell h.is in
        let index : 0 + i ≡ i = omega arith in
        let number : n + i ≡ n + place s e = (let p : place s e ≡ i = at.1 in omega arith) in
        ap (inner_parent n part.region made numbers) index
        ∙ ap (λ (o : Option ℕ). node_above numbers (n + i) o) link
        ∙ ap (λ (x : ℕ). node_above numbers x h.cell.up) number
        ∙ link-node part s n made numbers w (n + place s e) e.u (suc e.rank) h.cell.up (next s e.u (suc e.rank)) refl up

-- a value that the rank tells, for each cell
values-of : (pool : CellPool) (ids : List ℕ) (es : EdgeList) → AreOf pool ids es → (f : ℕ → ℕ) (g : ListedEdge → ℕ) → ((e : ListedEdge) → IsIn e es → f e.rank ≡ g e) → map (λ id. f (rank_of pool id)) ids ≡ map g es
values-of pool [] [] a f g tells = refl
values-of pool [] (e ∷ es) a f g tells = absurd a
values-of pool (id ∷ ids) [] a f g tells = absurd a
values-of pool (id ∷ ids) (e ∷ es) a f g tells =
    ap (λ (x : ℕ). x ∷ map (λ i. f (rank_of pool i)) ids) (ap f (rank-is pool id a.0.cell a.0.is ∙ a.0.has) ∙ tells e (inl refl))
    ∙ ap (λ (l : List ℕ). g e ∷ l) (values-of pool ids es a.1 f g (λ d i. tells d (inr i)))

-- and so for each inner node
pub inner-values : (part : PartState) (s : EdgeList) (n : ℕ) (made numbers : List ℕ) → IsNumbering part s n made numbers → (f : ℕ → ℕ) (g : ListedEdge → ℕ) →
    ((e : ListedEdge) → IsIn e s → f e.rank ≡ g e) → map (λ id. f (rank_of part.region id)) made ≡ map g (joins s)
inner-values part s n made numbers w f g tells = values-of part.region made (joins s) w.made_of f g (λ e i. tells e (IsIn-joins_kept s e i).0)
