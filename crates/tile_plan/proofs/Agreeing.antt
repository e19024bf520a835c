-- The tables of a plan hold what its definitions say.
use Rattle.std.proofs.Common.{◌≡◌, ℕ, ◌+◌, ◌-◌, ◌*◌, ◌/◌, ◌%◌, ◌<◌, ◌≤◌, Bool, true, false, cond, inl, inr, refl, sym, ◌∙◌, subst, ap, arith, List, [], ◌∷◌, length, map}
use Rattle.std.specs.Prelude.{◌==◌, filter, nat_lt, slice_index, slice_range}
use Rattle.std.proofs.lemmas.Bool.{cases_Bool, eq-eqb, eqb-true, ltb-true, ltb-false}
use Rattle.edge_laws.specs.Edges.{ListedEdge, EdgeList, renamed, renamed_edge}
use Rattle.hg_base.specs.Lists.{IsIn}
use Rattle.edge_laws.specs.Placed.{placed}
use Rattle.hg_base.proofs.Lists.{IsIn-kept}
use Rattle.edge_laws.proofs.Sets.{same_test}
use Rattle.tile_plan.specs.Merges.{MergeTree, Tile, Merge, half, IsCut, tiles, tile_at}
use Rattle.tile_plan.specs.Sites.{is_lot_of, find}
use Rattle.tile_plan.specs.Grids.{tiles_in, grid_tree, part_in, lot_in, root_of}
use Rattle.tile_plan.specs.TiledPictures.{IsFrame, grid_in, home_in, vertices_in}
use Rattle.std.proofs.lemmas.List.{length-map}
use Rattle.tile_plan.specs.declared.site.Grid.{Grid}
use Rattle.tile_plan.specs.declared.plan.Lots.{Lots}
use Rattle.tile_plan.specs.PlanFields.{HoldsLots}
use Rattle.tile_plan.specs.declared.frame.Frame.{Frame}
use Rattle.edge_laws.specs.Rising.{IsRising}
use Rattle.tile_plan.specs.Placing.{AreKeys, IsTable, start_by, place_by}
use Rattle.tile_plan.specs.Plan.{TilePlan, IsPlan, IsEdgeAmong, grid_of, tile_count, part_count, vertices, home, start, place_of, part, lot_between_vertices, lot_edges}
use Rattle.tile_plan.proofs.Laying.{grid_tree-is, grid_tree-tiles, grid-columns, grid-rows, vertex-column, vertex-row}
use Rattle.tile_plan.proofs.Counting.{start_by-agree, place_by-agree, start-mono, start-le}
use Rattle.tile_plan.proofs.Growing.{IsTable-agree}
use Rattle.tile_plan.proofs.LotNumbers.{lot-only, lot-found}
use Rattle.tile_plan.proofs.Parents.{plan-tiles, plan-has}

-- the tile at a column and a row is one of the tree's
pub tile_at-below : (c r : ℕ) (t : MergeTree) (column row : ℕ) → IsCut c r t → column < c → row < r → tile_at t column row < tiles t
tile_at-below c r Tile column row h hc hr = omega arith
tile_at-below c r (Merge true k x y) column row h hc hr =
    let e : k ≡ half c = h.0.1.1.1 in
    elim (cases_Bool (nat_lt column k)) [
      | inl l ↦ (let low = ltb-true column k l in let i = tile_at-below (half c) r x column row h.1.0 (omega arith) hr in rw l (omega (arith, i)))
      | inr l ↦ (let high = ltb-false column k l in let i = tile_at-below (c - half c) r y (column - k) row h.1.1 (omega arith) hr in rw l (omega (arith, i)))
    ]
tile_at-below c r (Merge false k x y) column row h hc hr =
    let e : k ≡ half r = h.0.1.1 in
    elim (cases_Bool (nat_lt row k)) [
      | inl l ↦ (let low = ltb-true row k l in let i = tile_at-below c (half r) x column row h.1.0 hc (omega arith) in rw l (omega (arith, i)))
      | inr l ↦ (let high = ltb-false row k l in let i = tile_at-below c (r - half r) y column (row - k) h.1.1 hc (omega arith) in rw l (omega (arith, i)))
    ]

-- the tile of a vertex is one of the plan's
pub home-below : (f : Frame) (v : ℕ) → IsFrame f → v < vertices_in f → home_in f v < tiles_in (grid_in f)
unfolding home_in
home-below f v h l =
    let count = grid_tree-tiles (grid_in f) (grid-columns f h) (grid-rows f h) in
    let b = tile_at-below (grid_in f).columns (grid_in f).rows (grid_tree (grid_in f)) (v % f.width / f.side) (v / f.width / f.side) (grid_tree-is (grid_in f) (grid-columns f h) (grid-rows f h)) (vertex-column f v h) (vertex-row f v h l) in
    omega (arith, count, b)

-- an edge is in the lot of a part exactly where the descent finds the part
pub lot-test : (p : TilePlan) (i a b : ℕ) → IsPlan p → i < part_count p → a < tile_count p → b < tile_count p → (lot_in (grid_of p) a b == i) ≡ is_lot_of (part p i).tree (part p i).site a b
unfolding lot_in part part_in
lot-test p i a b h l ha hb =
    let count = plan-tiles p h in
    let n : ℕ = tile_count p in
    let t : MergeTree = grid_tree (grid_of p) in
    let fits : 0 + tiles t ≤ n = omega (arith, count) in
    let found = lot-found n t (root_of n) a b fits (record { low = omega arith; high = omega (arith, count) }) (record { low = omega arith; high = omega (arith, count) }) in
    same_test _ _
    (λ e. subst (λ (j : ℕ). is_lot_of (find n t (root_of n) j).tree (find n t (root_of n) j).site a b ≡ true) (eqb-true _ i e) found.lot)
    (λ e. eq-eqb _ i (sym (lot-only n t (root_of n) i a b fits (omega (arith, count)) (plan-has p i h l) e)))

-- lists that are cut and renamed by tests and names that agree on their edges
pub filter-agree_in : (p q : ListedEdge → Bool) (s : EdgeList) → ((e : ListedEdge) → IsIn e s → p e ≡ q e) → filter p s ≡ filter q s
filter-agree_in p q [] h = refl
filter-agree_in p q (e ∷ s) h =
    ap (λ (b : Bool). cond b (e ∷ filter p s) (filter p s)) (h e (inl refl))
    ∙ ap (λ (t : EdgeList). cond (q e) (e ∷ t) t) (filter-agree_in p q s (λ f i. h f (inr i)))

pub renamed-agree_in : (f g : ℕ → ℕ) (s : EdgeList) → ((e : ListedEdge) → IsIn e s → (f e.u ≡ g e.u) × (f e.v ≡ g e.v)) → renamed f s ≡ renamed g s
renamed-agree_in f g [] h = refl
renamed-agree_in f g (e ∷ s) h =
    let ends = h e (inl refl) in
    let head : renamed_edge f e ≡ renamed_edge g e = rw (ends.0, ends.1) refl in
    ap (λ (x : ListedEdge). x ∷ renamed f s) head ∙ ap (λ (t : EdgeList). renamed_edge g e ∷ t) (renamed-agree_in f g s (λ x i. h x (inr i)))

-- the lot by the tables is the lot by the definitions
pub lots-agree : (p : TilePlan) (homes places : List ℕ) (i : ℕ) → IsPlan p → IsTable (home p) (vertices p) homes → IsTable (place_of p) (vertices p) places → i < part_count p
    → renamed (slice_index places) (filter (λ e. lot_in (grid_of p) (slice_index homes e.u) (slice_index homes e.v) == i) p.edges) ≡ lot_edges p i
unfolding lot_edges lot_between_vertices
lots-agree p homes places i h hh hp l =
    ap (renamed (slice_index places)) (filter-agree_in (λ e. lot_in (grid_of p) (slice_index homes e.u) (slice_index homes e.v) == i) (λ e. is_lot_of (part p i).tree (part p i).site (home p e.u) (home p e.v)) p.edges (λ e j.
    (let ends = h.edges e j in
    rw (hh.at e.u ends.u, hh.at e.v ends.v) (lot-test p i (home p e.u) (home p e.v) h l (home-below p.frame e.u h.frame ends.u) (home-below p.frame e.v h.frame ends.v)))))
    ∙ renamed-agree_in (slice_index places) (place_of p) (filter (λ e. is_lot_of (part p i).tree (part p i).site (home p e.u) (home p e.v)) p.edges) (λ e j.
    (let ends = h.edges e (IsIn-kept (λ e. is_lot_of (part p i).tree (part p i).site (home p e.u) (home p e.v)) e p.edges j).1 in
    (hp.at e.u ends.u, hp.at e.v ends.v)))

-- starts and places by the table of tiles
pub starts-agree : (p : TilePlan) (homes starts : List ℕ) (count : ℕ) → IsTable (home p) (vertices p) homes → count ≡ tile_count p
    → IsTable (start_by (slice_index homes) (length homes)) (count + 1) starts → IsTable (start p) (tile_count p + 1) starts
unfolding start
starts-agree p homes starts count h e t =
    rw (← e) (IsTable-agree (start_by (slice_index homes) (length homes)) (start_by (home p) (vertices p)) (count + 1) starts
    (λ k l. ap (λ (n : ℕ). start_by (slice_index homes) n k) h.long ∙ start_by-agree (slice_index homes) (home p) (vertices p) k h.at) t)

pub places-agree : (p : TilePlan) (homes places : List ℕ) → IsTable (home p) (vertices p) homes
    → IsTable (place_by (slice_index homes) (length homes)) (length homes) places → IsTable (place_of p) (vertices p) places
unfolding place_of
places-agree p homes places h t = record {
  long = t.long ∙ h.long;
  at = λ i l. (let long : length homes ≡ vertices p = h.long in
      t.at i (omega arith) ∙ ap (λ (n : ℕ). place_by (slice_index homes) n i) h.long ∙ place_by-agree (slice_index homes) (home p) (vertices p) i l h.at);
}

-- where the lots of a table lie
pub lot-bounds : (f : ℕ → ℕ) (m count i : ℕ) (starts : List ℕ) → IsTable (start_by f m) (count + 1) starts → i < count → (slice_index starts i ≤ slice_index starts (i + 1)) × (slice_index starts (i + 1) ≤ m)
lot-bounds f m count i starts t l =
    let a = t.at i (omega arith) in let b = t.at (i + 1) (omega arith) in
    (omega (arith, a, b, start-mono f m i (i + 1) (omega arith)), omega (arith, b, start-le f m (i + 1)))

-- the lots that the tables hold are those of the plan
pub lots-hold : (q : TilePlan) (s : EdgeList) (g : Grid) (count : ℕ) (homes places numbers first second cuts : List ℕ) (held : Lots) → IsPlan q → q.edges ≡ s → g ≡ grid_of q
    → IsTable (home q) (vertices q) homes → IsTable (place_of q) (vertices q) places
    → numbers ≡ map (λ e. lot_in g (slice_index homes e.u) (slice_index homes e.v)) s
    → first ≡ numbers → IsTable (start_by (slice_index first) (length first)) (count + 1) held.starts.items → count ≡ 2 * tiles_in g - 1
    → second ≡ numbers → cuts ≡ held.starts.items → length held.edges.items ≡ length s
    → ((lot : ListedEdge → ℕ) → second ≡ map lot s → (i : ℕ) → i + 1 < length cuts →
    slice_range held.edges.items (slice_index cuts i) (slice_index cuts (i + 1)) ≡ map placed (renamed (slice_index places) (filter (λ e. lot e == i) s)))
    → HoldsLots q held
lots-hold q s g count homes places numbers first second cuts held h same grid hh hp keys one table count_is two cut_is long filled =
    let count_of_parts : count ≡ part_count q = count_is ∙ ap (λ (z : Grid). 2 * tiles_in z - 1) grid in
    let all : length first ≡ length held.edges.items = ap length (one ∙ keys) ∙ length-map s (λ e. lot_in g (slice_index homes e.u) (slice_index homes e.v)) ∙ sym long in
    record {
      long = table.long ∙ ap (λ (z : ℕ). z + 1) count_of_parts;
      rising = λ i l. (lot-bounds (slice_index first) (length first) count i held.starts.items table (omega arith)).0;
      within = λ i l. (let b = (lot-bounds (slice_index first) (length first) count i held.starts.items table (omega arith)).1 in omega (arith, b, all));
      lots = λ i l.
          (let room : i + 1 < length cuts = (let t = table.long in let e = ap length cut_is in omega (arith, t, e)) in
          subst (λ (xs : List ℕ). slice_range held.edges.items (slice_index xs i) (slice_index xs (i + 1)) ≡ map placed (renamed (slice_index places) (filter (λ e. lot_in g (slice_index homes e.u) (slice_index homes e.v) == i) s)))
          cut_is (filled (λ e. lot_in g (slice_index homes e.u) (slice_index homes e.v)) (two ∙ keys) i room)
          ∙ ap (λ (z : Grid). map placed (renamed (slice_index places) (filter (λ e. lot_in z (slice_index homes e.u) (slice_index homes e.v) == i) s))) grid
          ∙ ap (λ (z : EdgeList). map placed (renamed (slice_index places) (filter (λ e. lot_in (grid_of q) (slice_index homes e.u) (slice_index homes e.v) == i) z))) (sym same)
          ∙ ap (map placed) (lots-agree q homes places i h hh hp l));
    }

-- the tiles of vertices as keys
pub keys-below : (f : Frame) (g : Grid) (count : ℕ) (homes xs : List ℕ) → IsFrame f → g ≡ grid_in f → count ≡ tiles_in g → IsTable (home_in f) (vertices_in f) homes → xs ≡ homes → AreKeys count xs
keys-below f g count homes xs h grid e t same =
    subst (AreKeys count) (sym same) (λ i l. (let long : length homes ≡ vertices_in f = t.long in
    let below = home-below f i h (omega arith) in let at = t.at i (omega arith) in let all = ap tiles_in grid in omega (arith, below, at, e, all)))

-- the table of tiles under another name of its list
pub table-at : (f : ℕ → ℕ) (n : ℕ) (xs ys : List ℕ) → ys ≡ xs → IsTable f n xs → IsTable f n ys
table-at f n xs ys same t = subst (IsTable f n) (sym same) t

-- what a plan keeps to, from its order
pub plan-is : (f : Frame) (s t : EdgeList) → t ≡ s → IsFrame f → tiles_in (grid_in f) ≤ 65536 → length s ≤ 4194304 → IsRising s → ((e : ListedEdge) → IsIn e s → IsEdgeAmong (vertices_in f) e) → IsPlan (record { frame = f; edges = t })
plan-is f s t same frame small few rising edges =
    subst (λ (x : EdgeList). IsPlan (record { frame = f; edges = x })) (sym same) (record { frame = frame; tiles = small; few = few; rising = rising; edges = edges })
