-- The edges of a graph by rank, read by their numbers.
use Rattle.std.proofs.Common.{◌≡◌, ℕ, zero, suc, ◌+◌, ◌<◌, ◌≤◌, inl, inr, refl, sym, ◌∙◌, subst, ap, arith, List, [], ◌∷◌, ◌++◌, Some, slice_get, All, length, get_or, slice_index, map}
use Rattle.std.specs.List.{range_with_len}
use Rattle.std.proofs.lemmas.List.{get_or-map, get_or_default, length-map}
use Rattle.std.proofs.lemmas.List.FromFn.{length-map-range_with_len, get_or-map-range_with_len, map-range_with_len_more}
use Rattle.std.proofs.lemmas.Option.{slice_get-get_or}
use Rattle.hg_base.specs.Graph.{WeightedGraph, JoinsTwo, first_end, second_end}
use Rattle.edge_laws.specs.Edges.{ListedEdge, EdgeList}
use Rattle.hg_base.specs.Lists.{IsIn}
use Rattle.edge_laws.specs.Rank.{number_at, listed, ranked}
use Rattle.edge_laws.specs.Rising.{IsRising}
use Rattle.hg_base.specs.declared.graph.Edge.{Edge}
use Rattle.edge_order.specs.Order.{EdgeOrder, number_at_rank, order_of}
use Rattle.edge_order.proofs.Rows.{number_at_rank-of}
use Rattle.edge_laws.proofs.Ranked.{ranked-at}
use Rattle.edge_laws.proofs.Ranks.{number_at-below}
use Rattle.tile_plan.specs.Placing.{AreKeys}
use Rattle.tile_plan.specs.Plan.{IsEdgeAmong}
use Rattle.tile_plan.proofs.Filled.{map_by_each}
use Rattle.tile_plan.proofs.Scatter.{IsIn-push, IsRising-push}

-- there are as many ranks as edges
pub ranked-length : (g : WeightedGraph) → length (ranked g) ≡ length g.edges
ranked-length g = length-map-range_with_len (λ k. listed g k (number_at g k)) 0 (length g.edges)

-- the ranked edges rise
ranked-rises : (g : WeightedGraph) (n : ℕ) → IsRising (map (λ k. listed g k (number_at g k)) (range_with_len 0 n))
    × ((e : ListedEdge) → IsIn e (map (λ k. listed g k (number_at g k)) (range_with_len 0 n)) → e.rank < n)
ranked-rises g zero = (tt, λ e i. absurd i)
ranked-rises g (suc n) =
    let at = λ (k : ℕ). listed g k (number_at g k) in
    let s : EdgeList = map at (range_with_len 0 n) in
    let before = ranked-rises g n in
    let one : suc n ≡ n + 1 = omega arith in
    let more : map at (range_with_len 0 (suc n)) ≡ s ++ at n ∷ [] = ap (λ (j : ℕ). map at (range_with_len 0 j)) one ∙ map-range_with_len_more at 0 n n (omega arith) in
    let P : EdgeList → Type 0 = λ t. IsRising t × ((e : ListedEdge) → IsIn e t → e.rank < suc n) in
    subst P (sym more) (
      IsRising-push (at n) s before.0 before.1,
      λ e i. elim (IsIn-push (at n) e s i) [
        | inl old ↦ (let low = before.1 e old in omega (arith, low))
        | inr same ↦ subst (λ (x : ListedEdge). x.rank < suc n) same (omega arith)
      ],
    )

pub ranked-rising : (g : WeightedGraph) → IsRising (ranked g)
ranked-rising g = (ranked-rises g (length g.edges)).0

-- the ends of each are two vertices
pub ranked-among : (g : WeightedGraph) → All (JoinsTwo g.n) g.edges → length g.edges ≤ 4194304 → (e : ListedEdge) → IsIn e (ranked g) → IsEdgeAmong g.n e
ranked-among g all few e i =
    let at = ranked-at g e i in
    let number : ℕ = number_at g e.rank in
    let low : number < length g.edges = number_at-below g e.rank (omega (arith, at.0)) in
    let none : Edge = record { u = 0; v = 0; w = 0 } in
    let x : Edge = get_or g.edges number none in
    let read : slice_get g.edges number ≡ Some x = slice_get-get_or g.edges number none low in
    let ends : JoinsTwo g.n x = all number none low in
    let first : e.u ≡ x.u = ap (λ (y : ListedEdge). y.u) at.1 ∙ rw read refl in
    let second : e.v ≡ x.v = ap (λ (y : ListedEdge). y.v) at.1 ∙ rw read refl in
    record { u = omega (arith, first, ends.u); v = omega (arith, second, ends.v); apart = λ same. ends.apart (sym first ∙ same ∙ second); rank = omega (arith, at.0) }

-- what is kept of each edge by its number is read by rank
pub kept-read : (lot : ℕ → ℕ → ℕ) (g : WeightedGraph) (own : List ℕ) (k number r : ℕ) → own ≡ map (λ (x : Edge). lot x.u x.v) g.edges → k < length g.edges → number ≡ number_at g k → r ≡ get_or own number r
    → r ≡ lot (first_end g (number_at g k)) (second_end g (number_at g k))
kept-read lot g own k number r same l at read =
    let low : number_at g k < length g.edges = number_at-below g k (omega arith) in
    let none : Edge = record { u = 0; v = 0; w = 0 } in
    let x : Edge = get_or g.edges (number_at g k) none in
    let found : slice_get g.edges (number_at g k) ≡ Some x = slice_get-get_or g.edges (number_at g k) none low in
    let first : first_end g (number_at g k) ≡ x.u = rw found refl in
    let second : second_end g (number_at g k) ≡ x.v = rw found refl in
    read ∙ ap (λ (j : ℕ). get_or own j r) at ∙ ap (λ (xs : List ℕ). get_or xs (number_at g k) r) same
    ∙ get_or-map (λ (y : Edge). lot y.u y.v) g.edges (number_at g k) none r low
    ∙ sym (ap (λ (j : ℕ). lot j (second_end g (number_at g k))) first ∙ ap (lot x.u) second)

-- the list by rank is read from the one by number
abbrev pub AreRead : EdgeOrder → List ℕ → List ℕ → Type 0
AreRead o own filled = (i : ℕ) → i < length o.edges → slice_index filled i ≡ slice_index own (number_at_rank o i)

-- what is kept of each edge by its number is kept by rank
kept-all : (lot : ℕ → ℕ → ℕ) (g : WeightedGraph) (own filled : List ℕ) → own ≡ map (λ (x : Edge). lot x.u x.v) g.edges → length filled ≡ length (ranked g) → AreRead (order_of g) own filled
    → filled ≡ map (λ (e : ListedEdge). lot e.u e.v) (ranked g)
kept-all lot g own filled same long at =
    map_by_each (λ (e : ListedEdge). lot e.u e.v) (ranked g) filled long
    (λ k d e l.
    let within : k < length g.edges = omega (arith, ranked-length g) in
    let number = number_at_rank (order_of g) k in
    let found : number ≡ number_at g k = number_at_rank-of g k within in
    let many : length own ≡ length g.edges = ap length same ∙ length-map g.edges (λ (x : Edge). lot x.u x.v) in
    let low : number < length own = omega (arith, found, many, number_at-below g k (omega arith)) in
    get_or_default filled k e 0 (omega arith) ∙ at k l
    ∙ kept-read lot g own k number (slice_index own number) same within found (get_or_default own number 0 (slice_index own number) low)
    ∙ sym (ap (λ (x : ListedEdge). lot x.u x.v) (get_or-map-range_with_len (λ (j : ℕ). listed g j (number_at g j)) 0 (length g.edges) k k d within (omega arith))))

pub kept-by_rank : (lot : ℕ → ℕ → ℕ) (g : WeightedGraph) (o : EdgeOrder) (own filled : List ℕ) → o ≡ order_of g → own ≡ map (λ (x : Edge). lot x.u x.v) g.edges → length filled ≡ length o.edges → AreRead o own filled
    → filled ≡ map (λ (e : ListedEdge). lot e.u e.v) o.edges
kept-by_rank lot g o own filled order same =
    let P : EdgeOrder → Type 0 = λ z. length filled ≡ length z.edges → AreRead z own filled → filled ≡ map (λ (e : ListedEdge). lot e.u e.v) z.edges in
    subst P (sym order) (kept-all lot g own filled same)

-- and so is what each is below
keys-all : (m : ℕ) (g : WeightedGraph) (own filled : List ℕ) → length own ≡ length g.edges → length filled ≡ length (ranked g) → AreRead (order_of g) own filled → AreKeys m own → AreKeys m filled
keys-all m g own filled many long at keys i l =
    let within : i < length g.edges = omega (arith, ranked-length g) in
    let number = number_at_rank (order_of g) i in
    let low : number < length own = omega (arith, number_at_rank-of g i within, number_at-below g i (omega arith)) in
    omega (arith, at i (omega arith), keys number low)

pub keys-by_rank : (m : ℕ) (g : WeightedGraph) (o : EdgeOrder) (own filled : List ℕ) → o ≡ order_of g → length own ≡ length g.edges → length filled ≡ length o.edges → AreRead o own filled → AreKeys m own → AreKeys m filled
keys-by_rank m g o own filled order many =
    let P : EdgeOrder → Type 0 = λ z. length filled ≡ length z.edges → AreRead z own filled → AreKeys m own → AreKeys m filled in
    subst P (sym order) (keys-all m g own filled many)
