-- What the readers of a plan give.
use Rattle.std.proofs.Common.{◌≡◌, ℕ, ◌+◌, ◌<◌, ◌≤◌, inl, inr, [], ◌∷◌, refl, sym, ◌∙◌, subst, ap, arith, List, length, get_or}
use Rattle.std.specs.Prelude.{slice_index, Option, Some, ◌==◌}
use Rattle.std.proofs.lemmas.Bool.{cases_lt, eq-eqb, eqb-true, true≢false}
use Rattle.std.proofs.lemmas.List.{get_or_read}
use Rattle.std.proofs.lemmas.List.FromFn.{length-map-range_with_len, get_or-map-range_with_len}
use Rattle.edge_laws.specs.Rising.{IsRising}
use Rattle.edge_laws.specs.Edges.{ListedEdge, EdgeList, renamed, renamed_edge}
use Rattle.hg_base.specs.Lists.{IsIn}
use Rattle.hg_base.specs.Counting.{IsOneToOne}
use Rattle.edge_laws.proofs.Members.{IsRising-filter}
use Rattle.tile_plan.proofs.Cuts.{tiles-some}
use Rattle.tile_plan.specs.Sites.{is_lot_of}
use Rattle.tile_plan.specs.Grids.{grid_tree, part_in, rows_of, row_of_part}
use Rattle.tile_plan.specs.Placing.{IsTable}
use Rattle.tile_plan.specs.Plan.{TilePlan, IsPlan, grid_of, tile_count, part_count, root, vertices, part, home, place_of, start, left, right, parent, side, first_tile, tiles_of, parent_and_side, room_tiles, lot_between_vertices, lot_edges}
use Rattle.tile_plan.specs.PlanFields.{HoldsPlaces, HoldsLots, HoldsPlan, plan_of}
use Rattle.tile_plan.specs.declared.site.Row.{Row}
use Rattle.tile_plan.specs.declared.site.Side.{Side}
use Rattle.tile_plan.specs.declared.plan.Plan.TheInside.{Inside}
use Rattle.tile_plan.proofs.Descents.{eq-false}
use Rattle.tile_plan.proofs.Parents.{plan-tiles}
use Rattle.hg_base.proofs.Pigeons.{Into, misses_none}
use Rattle.hg_base.proofs.Counts.{least_below}
use Rattle.tile_plan.specs.declared.plan.Places.{Places}
use Rattle.tile_plan.proofs.Ranges.{is_somewhere, is_tile, places-once, places-below}

-- what the fields hold of the plan that contracts see
pub record HoldsAs (q : TilePlan) (p : Inside) : Type 0 where
  pub plan : IsPlan q
  pub frame : p.frame ≡ q.frame
  pub tiles : p.tiles ≡ tile_count q
  pub rows : p.rows.items ≡ rows_of (grid_of q)
  pub places : HoldsPlaces q p.places
  pub lots : HoldsLots q p.lots

pub holds-as : (p : Inside) (q : TilePlan) → plan_of p ≡ q → HoldsPlan p → HoldsAs q p
holds-as p q same h =
    subst (λ (z : TilePlan). HoldsAs z p) same (record { plan = h.plan; frame = refl; tiles = h.tiles; rows = h.rows; places = h.places; lots = h.lots })

-- the table of parts has a row for each
pub rows-length : (q : TilePlan) (rows : List Row) → rows ≡ rows_of (grid_of q) → length rows ≡ part_count q
unfolding rows_of
rows-length q rows same = ap length same ∙ length-map-range_with_len (λ i. row_of_part (tile_count q) (part_in (grid_of q) i)) 0 (part_count q)

-- a row of it
pub record IsRow (q : TilePlan) (i : ℕ) (row : Row) : Type 0 where
  pub first_tile : row.site.first_tile ≡ first_tile q i
  pub parent : row.site.parent ≡ parent q i
  pub side : row.site.side ≡ side q i
  pub room : row.site.room ≡ (part q i).site.room
  pub tiles : row.tiles ≡ tiles_of q i
  pub left : row.left ≡ left q i
  pub right : row.right ≡ right q i

pub row-read : (q : TilePlan) (i : ℕ) (rows : List Row) (row : Row) → rows ≡ rows_of (grid_of q) → i < part_count q → row ≡ get_or rows i row → IsRow q i row
unfolding rows_of part
row-read q i rows row same l read =
    let is : row ≡ row_of_part (tile_count q) (part_in (grid_of q) i) =
    read ∙ ap (λ (xs : List Row). get_or xs i row) same ∙ get_or-map-range_with_len (λ j. row_of_part (tile_count q) (part_in (grid_of q) j)) 0 (part_count q) i i row l (omega arith) in
    record {
      first_tile = ap (λ (r : Row). r.site.first_tile) is;
      parent = ap (λ (r : Row). r.site.parent) is;
      side = ap (λ (r : Row). r.site.side) is;
      room = ap (λ (r : Row). r.site.room) is;
      tiles = ap (λ (r : Row). r.tiles) is;
      left = ap (λ (r : Row). r.left) is;
      right = ap (λ (r : Row). r.right) is;
    }

-- there is a tile
pub some-tile : (q : TilePlan) → IsPlan q → 1 ≤ tile_count q
some-tile q h = let count = plan-tiles q h in let some = tiles-some (grid_tree (grid_of q)) in omega (arith, count, some)

-- a value of the starts
pub start-read : (q : TilePlan) (k v : ℕ) (starts : List ℕ) → IsTable (start q) (tile_count q + 1) starts → k ≤ tile_count q → v ≡ get_or starts k v → v ≡ start q k
start-read q k v starts t l read = get_or_read starts k v (let long : length starts ≡ tile_count q + 1 = t.long in omega arith) read 0 ∙ t.at k (omega arith)

-- what is in a list of renamed edges
pub IsIn-renamed_back : (f : ℕ → ℕ) (s : EdgeList) (e : ListedEdge) → IsIn e (renamed f s) → (x : ListedEdge) × (IsIn x s × (renamed_edge f x ≡ e))
IsIn-renamed_back f [] e i = absurd i
IsIn-renamed_back f (x ∷ s) e (inl same) = (x, (inl refl, same))
IsIn-renamed_back f (x ∷ s) e (inr later) = let p = IsIn-renamed_back f s e later in (p.0, (inr p.1.0, p.1.1))

pub IsIn-renamed : (f : ℕ → ℕ) (s : EdgeList) (x : ListedEdge) → IsIn x s → IsIn (renamed_edge f x) (renamed f s)
IsIn-renamed f [] x i = absurd i
IsIn-renamed f (y ∷ s) x (inl same) = inl (ap (renamed_edge f) same)
IsIn-renamed f (y ∷ s) x (inr later) = inr (IsIn-renamed f s x later)

renamed-rising : (f : ℕ → ℕ) (s : EdgeList) → IsRising s → IsRising (renamed f s)
renamed-rising f [] h = tt
renamed-rising f (e ∷ s) h = (λ g i. (let p = IsIn-renamed_back f s g i in subst (λ (x : ListedEdge). e.rank < x.rank) p.1.1 (h.0 p.0 p.1.0)), renamed-rising f s h.1)

-- each lot rises
pub lot-rising : (q : TilePlan) (i : ℕ) → IsPlan q → IsRising (lot_edges q i)
unfolding lot_edges lot_between_vertices
lot-rising q i h = renamed-rising (place_of q) (lot_between_vertices q i) (IsRising-filter (λ e. is_lot_of (part q i).tree (part q i).site (home q e.u) (home q e.v)) q.edges h.rising)

-- the vertex at a place: the first that has it, since each place is a vertex's
pub record IsVertexAt (q : TilePlan) (place v : ℕ) : Type 0 where
  pub value : place_of q v ≡ place
  pub below : v < vertices q

-- a one-to-one function from the numbers below n to themselves takes each value
pub onto : (f : ℕ → ℕ) (n k : ℕ) → Into f n n → IsOneToOne n f → k < n → (v : ℕ) × ((v < n) × (f v ≡ k))
onto f n k into one l =
    elim (least_below (λ v. f v == k) n) [
      | inl found ↦ (found.at, (found.low, eqb-true (f found.at) k found.passes))
      | inr none ↦ absurd (misses_none n f into one k l (λ i li e. true≢false (sym (eq-eqb (f i) k e) ∙ none i li)))
    ]

pub vertex-found : (q : TilePlan) (place v : ℕ) (p : Places) → IsPlan q → HoldsPlaces q p → place < vertices q
    → ((i : ℕ) → i < v → slice_index p.places.items i ≡ place → ⊥) → (v < length p.places.items → slice_index p.places.items v ≡ place) → IsVertexAt q place v
vertex-found q place v p h hp l before found =
    let some = onto (place_of q) (vertices q) place (λ i li. places-below q i h li) (places-once q h) l in
    let long : length p.places.items ≡ vertices q = hp.places.long in
    let its = hp.places.at some.0 some.1.0 ∙ some.1.1 in
    elim (cases_lt some.0 v) [
      | inl earlier ↦ absurd (before some.0 earlier its)
      | inr first ↦
          let below : v < vertices q = (let low : some.0 < vertices q = some.1.0 in omega arith) in
          record { value = sym (hp.places.at v below) ∙ found (omega (arith, long, below)); below = below }
    ]

-- the parent of a part that isn't the root, and the side on which the part stands
pub parent-read : (q : TilePlan) (i : ℕ) (row : Row) → IsRow q i row → (i ≡ root q → ⊥) → ◌≡◌ {A = Option (ℕ × Side)} (Some (row.site.parent, row.site.side)) (parent_and_side q i)
parent-read q i row h off = rw (eq-false i (root q) off, ← h.parent, ← h.side) refl

-- the room of a tile stays among the tiles
pub room-at : (q : TilePlan) (t : ℕ) → IsPlan q → t < tile_count q → t + room_tiles q t ≤ tile_count q
room-at q t h l =
    let tile = is_tile q t h l in
    let at = is_somewhere q t h (omega arith) in
    subst (λ (k : ℕ). k + room_tiles q k ≤ tile_count q) tile.first at.room_tiles
