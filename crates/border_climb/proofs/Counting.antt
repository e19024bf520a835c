-- The free numbers are as many as the components.
use Rattle.std.proofs.Common.{◌≡◌, ◌≢◌, ℕ, zero, suc, ◌+◌, ◌-◌, ◌<◌, ◌≤◌, inl, inr, refl, sym, ◌∙◌, subst, ap, arith, List, [], ◌∷◌, length, get_or, set, count_by, is_none, cond, true, false, Bool}
use Rattle.std.specs.Prelude.{Option, Some, None, IsSome}
use Rattle.std.proofs.lemmas.Bool.{cases_eq, false_from_ne_true}
use Rattle.std.proofs.lemmas.List.Sums.{sum_by-set}
use Rattle.hg_base.proofs.CountBy.{count_by-is}
use Rattle.std.proofs.lemmas.List.{length-set, get_or-set_same, get_or-set_other}
use Rattle.edge_laws.specs.Edges.{ListedEdge, EdgeList, IsWalk, joined, joins, components}
use Rattle.hg_base.specs.Lists.{IsIn}
use Rattle.hg_base.specs.Counting.{count_below, is_least}
use Rattle.edge_laws.proofs.Walks.{IsSame-joined, Joined-joined}
use Rattle.edge_laws.proofs.Members.{IsRising}
use Rattle.edge_laws.proofs.Sets.{IsIn-joins_kept, IsRising-joins}
use Rattle.hg_base.proofs.Counts.{count_below-all, is_least-from}
use Rattle.edge_laws.proofs.Components.{joins-count}
use Rattle.node_region.specs.Pool.{CellPool, IsPool, count, cell_at}
use Rattle.node_region.specs.declared.cell.Cell.{Cell}
use Rattle.node_region.proofs.Entries.{entry-is, entry-covered}
use Rattle.border_climb.specs.Linked.{HasRank, AreLinked, AreBetween}
use Rattle.border_climb.proofs.Linked.{own-chain, climb-meets}

-- each cell of the list is of the rank of one of the edges, each edge has one, and no two have one rank
record AreSeated (cells : List (Option Cell)) (edges : EdgeList) : Type 0 where
  edge : (k : ℕ) (c : Cell) → get_or cells k None ≡ Some c → (f : ListedEdge) × (IsIn f edges × (c.rank ≡ f.rank))
  seat : (f : ListedEdge) → IsIn f edges → (k : ℕ) × ((c : Cell) × ((k < length cells) × (get_or cells k None ≡ Some c) × (c.rank ≡ f.rank)))
  alone : (i j : ℕ) (b c : Cell) → get_or cells i None ≡ Some b → get_or cells j None ≡ Some c → b.rank ≡ c.rank → i ≡ j

-- a list without cells
none-left : (cells : List (Option Cell)) → ((k : ℕ) (c : Cell) → get_or cells k None ≡ Some c → ⊥) → count_by is_none cells ≡ length cells
none-left cells h = count_by-is is_none cells (length cells) None (omega arith) (λ j lt. go j (get_or cells j None) refl) (λ j low high. absurd (omega arith))
  where
    go : (j : ℕ) (o : Option Cell) → get_or cells j None ≡ o → is_none (get_or cells j None) ≡ true
    go j None eq = ap is_none eq
    go j (Some c) eq = absurd (h j c eq)

some-one : (b c : Cell) → Some b ≡ Some c → b ≡ c
some-one b c h = cc

none-some : (c : Cell) → None ≡ Some c → ⊥
none-some c h = cc

abbrev one_if : Bool → ℕ
one_if b = cond b 1 0

-- the numbers without a cell and the edges are as many as the numbers
seated-count : (edges : EdgeList) → IsRising edges → (cells : List (Option Cell)) → AreSeated cells edges → count_by is_none cells + length edges ≡ length cells
seated-count [] rising cells m = let all = none-left cells (λ k c eq. (m.edge k c eq).1.0) in omega (arith, all)
seated-count (f ∷ edges) rising cells m =
    let own = m.seat f (inl refl) in
    let k : ℕ = own.0 in
    let less : List (Option Cell) = set cells own.0 None in
    let summed = sum_by-set (λ (o : Option Cell). cond (is_none o) 1 0) cells own.0 None None own.1.1.0 in
    let has : is_none (get_or cells own.0 None) ≡ false = ap is_none own.1.1.1 in
    let long = length-set cells own.0 None in
    let zero' : one_if (is_none (get_or cells own.0 None)) ≡ 0 = ap one_if has in
    let rest = seated-count edges rising.1 (set cells own.0 None) (fewer own.0 own.1.0 own.1.1.0 own.1.1.1 own.1.1.2) in
    omega (arith, summed, zero', long, rest)
  where
    fewer : (k : ℕ) (b : Cell) → k < length cells → get_or cells k None ≡ Some b → b.rank ≡ f.rank → AreSeated (set cells k None) edges
    fewer k b lt at level = record {
      edge = λ i c eq. (let was = before i c eq in
          let g = m.edge i c was.1 in
          (g.0, (other i c was g.0 g.1.0 g.1.1, g.1.1)));
      seat = λ g i. (let s = m.seat g (inr i) in
          let apart : s.0 ≢ k = λ same. (let one : s.1.0 ≡ b = some-one s.1.0 b (sym s.1.1.1 ∙ ap (λ (j : ℕ). get_or cells j None) same ∙ at) in
          let r : f.rank ≡ g.rank = sym level ∙ ap (λ (y : Cell). y.rank) (sym one) ∙ s.1.1.2 in
          let up : f.rank < g.rank = rising.0 g i in omega arith) in
          let long = length-set cells k None in
          (s.0, (s.1.0, ((let lt' : s.0 < length cells = s.1.1.0 in omega (arith, long)), get_or-set_other cells k s.0 None None apart ∙ s.1.1.1, s.1.1.2))));
      alone = λ i j c d ec ed r. m.alone i j c d (before i c ec).1 (before j d ed).1 r;
    }
      where
        before : (i : ℕ) (c : Cell) → get_or (set cells k None) i None ≡ Some c → (i ≢ k) × (get_or cells i None ≡ Some c)
        before i c eq =
            elim (cases_eq i k) [
              | inl same ↦ absurd (none-some c (sym (get_or-set_same cells k None None lt) ∙ ap (λ (j : ℕ). get_or (set cells k None) j None) (sym same) ∙ eq))
              | inr unlike ↦ (unlike, sym (get_or-set_other cells k i None None unlike) ∙ eq)
            ]

        other : (i : ℕ) (c : Cell) → (i ≢ k) × (get_or cells i None ≡ Some c) → (g : ListedEdge) → IsIn g (f ∷ edges) → c.rank ≡ g.rank → IsIn g edges
        other i c was g (inl same) r = absurd (was.0 (m.alone i k c b was.1 at (r ∙ sym (ap (λ (e : ListedEdge). e.rank) same) ∙ sym level)))
        other i c was g (inr later) r = later

-- an edge's cell, where its ends are covered
pub edge-seat : (pool : CellPool) (s : EdgeList) → AreBetween pool s → AreLinked pool s → (f : ListedEdge) → IsIn f (joins s) → (id : ℕ) × HasRank pool id f.rank
edge-seat pool s b l f i =
    climb-meets pool s b.apart l f.u (l.leafs f.u (b.first_ends f (IsIn-joins_kept s f i).0)) f (own-chain s f i)

-- The free numbers and the joining edges are as many as all numbers.
pub free-count : (pool : CellPool) → IsPool pool → (s : EdgeList) → AreBetween pool s → AreLinked pool s → length pool.free + length (joins s) ≡ count pool
free-count pool p s b l =
    let counted : count_by is_none pool.cells + length (joins s) ≡ length pool.cells = seated-count (joins s) (IsRising-joins s b.apart) pool.cells seated in
    let own : length pool.free ≡ count_by is_none pool.cells = p.free_count in
    omega (arith, counted, own)
  where
    -- the number of a place of the list
    at : (k : ℕ) (c : Cell) → get_or pool.cells k None ≡ Some c → cell_at pool (pool.first + k) ≡ Some c
    at k c eq = let same : pool.first + k - pool.first ≡ k = omega arith in entry-is pool.first pool.cells (pool.first + k) (omega arith) ∙ rw same eq

    seated : AreSeated pool.cells (joins s)
    seated = record {
      edge = λ k c eq. (let q = l.cells (pool.first + k) c (at k c eq) in (q.edge, (q.joins, q.rank)));
      seat = λ f i. (let m = edge-seat pool s b l f i in
          let cov = entry-covered pool.first pool.cells m.0 (subst (λ (o : Option Cell). IsSome o) (sym m.1.is) refl) in
          let low : pool.first ≤ m.0 = cov.0 in let high : m.0 < pool.first + length pool.cells = cov.1 in
          (m.0 - pool.first, (m.1.cell, (omega arith, sym (entry-is pool.first pool.cells m.0 cov.0) ∙ m.1.is, m.1.has))));
      alone = λ i j c d ec ed r. (let same : pool.first + i ≡ pool.first + j = l.alone (pool.first + i) (pool.first + j) c d (at i c ec) (at j d ed) r in omega arith);
    }

-- a test counts no fewer further on
count-more : (p : ℕ → Bool) (m k : ℕ) → count_below p m ≤ count_below p (m + k)
count-more p m zero = let same : m + zero ≡ m = omega arith in rw same (omega arith)
count-more p m (suc k) = let rest = count-more p m k in let same : m + suc k ≡ suc (m + k) = omega arith in rw same (omega (arith, rest))

-- Each component has a free number: the numbers below the pool's first one count as components of their own.
pub free-components : (pool : CellPool) → IsPool pool → (s : EdgeList) → AreBetween pool s → AreLinked pool s → length pool.free + pool.first ≡ components (pool.first + count pool) s
free-components pool p s b l =
    let whole = free-count pool p s b l in
    let sum = joins-count (pool.first + count pool) s b.apart (λ e i. ((b.first_ends e i).1, (b.second_ends e i).1)) in
    omega (arith, whole, sum)

-- So a number is free.
pub free-some : (pool : CellPool) → IsPool pool → (s : EdgeList) → AreBetween pool s → AreLinked pool s → 1 ≤ length pool.free
free-some pool p s b l =
    let whole = free-components pool p s b l in
    let least : count_below (is_least (joined s)) (suc pool.first) ≡ suc pool.first = count_below-all (is_least (joined s)) (suc pool.first)
    (λ x lt. is_least-from (joined s) x (λ y low. false_from_ne_true (joined s x y) (λ j. alone x y (omega arith) low ((IsSame-joined s).back x y j)))) in
    let some : 1 ≤ count pool = p.some_number in
    let more = count-more (is_least (joined s)) (suc pool.first) (count pool - 1) in
    let same : suc pool.first + (count pool - 1) ≡ pool.first + count pool = omega arith in
    let more' : count_below (is_least (joined s)) (suc pool.first) ≤ count_below (is_least (joined s)) (pool.first + count pool) = subst (λ (n : ℕ). count_below (is_least (joined s)) (suc pool.first) ≤ count_below (is_least (joined s)) n) same more in
    omega (arith, whole, least, more')
  where
    -- a number below the first is joined to no other
    steps : (y x : ℕ) (zs : List ℕ) → y < pool.first → IsWalk s y zs x → y ≡ x
    steps y x [] low w = w
    steps y x (z ∷ zs) low w = absurd (elim w.0.1.1 [
      | inl ends ↦ (let from : pool.first ≤ w.0.0.u = (b.first_ends w.0.0 w.0.1.0).0 in let same : w.0.0.u ≡ y = ends.0 in omega arith)
      | inr ends ↦ (let from : pool.first ≤ w.0.0.v = (b.second_ends w.0.0 w.0.1.0).0 in let same : w.0.0.v ≡ y = ends.0 in omega arith)
    ])

    alone : (x y : ℕ) → x ≤ pool.first → y < x → joined s y x ≡ true → ⊥
    alone x y le lt j = let w = Joined-joined s y x j in let same : y ≡ x = steps y x w.0 (omega arith) w.1 in omega arith
