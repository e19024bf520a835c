-- The tiles, places and rooms of the parts of a plan.
use Rattle.std.proofs.Common.{◌≡◌, ℕ, ◌+◌, ◌-◌, ◌*◌, ◌/◌, ◌<◌, ◌≤◌, true, false, ◌⊎◌, inl, inr, refl, sym, ◌∙◌, subst, ap, arith, [], ◌∷◌}
use Rattle.std.specs.Prelude.{◌↔◌}
use Rattle.std.specs.Int.{div_ceil}
use Rattle.std.specs.List.{flat_map}
use Rattle.std.proofs.lemmas.Bool.{cases_lt}
use Rattle.std.proofs.lemmas.Nat.{mul-le, mul-add-lt, div-mul-add, mod-mul-add}
use Rattle.std.proofs.lemmas.Grind.{div_ceil_times}
use Rattle.std.proofs.lemmas.List.{append-nil}
use Rattle.hg_base.specs.Counting.{IsOneToOne}
use Rattle.tile_plan.specs.Merges.{MergeTree, Tile, Merge, half, IsCut, tiles, tile_at}
use Rattle.tile_plan.specs.Sites.{SitedPart, part_number, left_site, right_site, find, post_order}
use Rattle.tile_plan.specs.Grids.{grid_tree, root_of, part_in}
use Rattle.tile_plan.specs.TiledPictures.{grid_in, home_in}
use Rattle.tile_plan.specs.Placing.{start_by}
use Rattle.tile_plan.specs.declared.site.Site.{Site}
use Rattle.tile_plan.specs.Plan.{TilePlan, IsPlan, IsLargestFrom, grid_of, tile_count, part, part_count, vertices, home, place_of, start, first_tile, tiles_of, post, lot_edges, edges_at, room_tiles}
use Rattle.tile_plan.specs.Laws.{IsSomewhere, IsTile}
use Rattle.tile_plan.proofs.Cuts.{tiles-some}
use Rattle.tile_plan.proofs.Descents.{lt-true, lt-false}
use Rattle.tile_plan.proofs.Laying.{grid_tree-is, grid-columns, grid-rows}
use Rattle.tile_plan.proofs.Counting as counting
use Rattle.tile_plan.proofs.Parts.{Has, where_is, find-self, left-finds, right-finds, Has-number, Has-within, Within-left, Within-right, first-room, own}
use Rattle.tile_plan.proofs.Parents.{IsPart, plan-tiles, plan-has, has-below, is_part, part-fits}

-- each tile of a tree is at some column and row
record IsAt (c r : ℕ) (t : MergeTree) (k : ℕ) : Type 0 where
  pub column : ℕ
  pub row : ℕ
  pub column_low : column < c
  pub row_low : row < r
  pub is : tile_at t column row ≡ k

tile_at-onto : (c r : ℕ) (t : MergeTree) (k : ℕ) → IsCut c r t → k < tiles t → IsAt c r t k
tile_at-onto c r Tile k h l = record { column = 0; row = 0; column_low = (let e : c ≡ 1 = h.0 in omega arith); row_low = (let e : r ≡ 1 = h.1 in omega arith); is = omega arith }
tile_at-onto c r (Merge true j x y) k h l =
    let e : j ≡ half c = h.0.1.1.1 in
    let two : 2 ≤ c = h.0.0 in
    elim (cases_lt k (tiles x)) [
      | inl low ↦ (let a = tile_at-onto (half c) r x k h.1.0 low in
          record { column = a.column; row = a.row; column_low = (let l = a.column_low in omega arith); row_low = a.row_low; is = rw (lt-true a.column j (let l = a.column_low in omega arith)) a.is })
      | inr high ↦ (let a = tile_at-onto (c - half c) r y (k - tiles x) h.1.1 (omega arith) in
          record {
            column = j + a.column;
            row = a.row;
            column_low = (let l = a.column_low in omega arith);
            row_low = a.row_low;
            is = rw (lt-false (j + a.column) j (omega arith)) (let same : j + a.column - j ≡ a.column = omega arith in let is = a.is in rw same (omega (arith, is)));
          })
    ]
tile_at-onto c r (Merge false j x y) k h l =
    let e : j ≡ half r = h.0.1.1 in
    let two : c < r = h.0.1.0 in
    let one : 1 ≤ c = h.0.0 in
    elim (cases_lt k (tiles x)) [
      | inl low ↦ (let a = tile_at-onto c (half r) x k h.1.0 low in
          record { column = a.column; row = a.row; column_low = a.column_low; row_low = (let l = a.row_low in omega arith); is = rw (lt-true a.row j (let l = a.row_low in omega arith)) a.is })
      | inr high ↦ (let a = tile_at-onto c (r - half r) y (k - tiles x) h.1.1 (omega arith) in
          record {
            column = a.column;
            row = j + a.row;
            column_low = a.column_low;
            row_low = (let l = a.row_low in omega arith);
            is = rw (lt-false (j + a.row) j (omega arith)) (let same : j + a.row - j ≡ a.row = omega arith in let is = a.is in rw same (omega (arith, is)));
          })
    ]

-- the first number of a block that there is
block-first : (a w s : ℕ) → 1 ≤ s → a < div_ceil w s → a * s < w
block-first a w s hs h =
    let times = (div_ceil_times w s (omega arith)).1 in
    let m = mul-le (a + 1) s (div_ceil w s) s (omega arith) (omega arith) in
    omega (arith, times, m)

block-of : (a s : ℕ) → 1 ≤ s → a * s / s ≡ a
block-of a s hs = ap (λ (z : ℕ). z / s) (omega arith) ∙ div-mul-add a s 0 hs

-- each tile of the plan is the tile of some vertex
record HasVertex (p : TilePlan) (t : ℕ) : Type 0 where
  pub vertex : ℕ
  pub below : vertex < vertices p
  pub home_is : home p vertex ≡ t

tile-vertex : (p : TilePlan) (t : ℕ) → IsPlan p → t < tile_count p → HasVertex p t
unfolding home_in
tile-vertex p t h l =
    let f = p.frame in
    let count = plan-tiles p h in
    let a = tile_at-onto (grid_in f).columns (grid_in f).rows (grid_tree (grid_in f)) t (grid_tree-is (grid_in f) (grid-columns f h.frame) (grid-rows f h.frame)) (omega (arith, count)) in
    let column = block-first a.column f.width f.side h.frame.side a.column_low in
    let row = block-first a.row f.height f.side h.frame.side a.row_low in
    record {
      vertex = a.row * f.side * f.width + a.column * f.side;
      below = mul-add-lt (a.row * f.side) f.width (a.column * f.side) f.height row column;
      home_is = rw (
        mod-mul-add (a.row * f.side) f.width (a.column * f.side) column,
        div-mul-add (a.row * f.side) f.width (a.column * f.side) column,
        block-of a.column f.side h.frame.side,
        block-of a.row f.side h.frame.side,
      ) a.is;
    }

-- no tile is empty
pub tile-some : (p : TilePlan) (t : ℕ) → IsPlan p → t < tile_count p → start p t < start p (t + 1)
unfolding start
tile-some p t h l =
    let v = tile-vertex p t h l in
    let less = counting.count-less (home p) (vertices p) v.vertex v.below in
    let next = counting.start-next (home p) (vertices p) (home p v.vertex) in
    subst (λ (k : ℕ). start_by (home p) (vertices p) k < start_by (home p) (vertices p) (k + 1)) v.home_is (omega (arith, less, next))

pub start-rises : (p : TilePlan) (a b : ℕ) → a ≤ b → start p a ≤ start p b
unfolding start
start-rises p a b l = counting.start-mono (home p) (vertices p) a b l

pub start-within : (p : TilePlan) (t : ℕ) → start p t ≤ vertices p
unfolding start
start-within p t = counting.start-le (home p) (vertices p) t

pub places-once : (p : TilePlan) → IsPlan p → IsOneToOne (vertices p) (place_of p)
unfolding place_of
places-once p h = counting.place-once (home p) (vertices p)

pub places-below : (p : TilePlan) (v : ℕ) → IsPlan p → v < vertices p → place_of p v < vertices p
unfolding place_of
places-below p v h l = counting.place-below (home p) (vertices p) v l

-- a vertex's place is between two starts exactly where its tile is between the tiles
pub place-covers : (p : TilePlan) (v a b : ℕ) → v < vertices p → (((start p a ≤ place_of p v) × (place_of p v < start p b)) ↔ ((a ≤ home p v) × (home p v < b)))
unfolding place_of start
place-covers p v a b l = (λ w. counting.key-between (home p) (vertices p) v a b l w.0 w.1, λ w. counting.place-between (home p) (vertices p) v a b l w.0 w.1)

-- the room of a part stays among the tiles
room-fits : (n : ℕ) (t : MergeTree) (s : Site) (i : ℕ) → s.first_tile + tiles t ≤ n → s.first_tile + s.room ≤ n → Has n t s i → (find n t s i).site.first_tile + (find n t s i).site.room ≤ n
room-fits n Tile s i fits room h = room
room-fits n (Merge by k x y) s i fits room h =
    let my = tiles-some y in
    elim (where_is n by k x y s i h) [
      | inl level ↦ subst (λ (q : SitedPart). q.site.first_tile + q.site.room ≤ n) (sym (ap (find n (Merge by k x y) s) level ∙ find-self n (Merge by k x y) s)) room
      | inr half ↦ elim half [
        | inl l ↦ subst (λ (q : SitedPart). q.site.first_tile + q.site.room ≤ n) (sym (left-finds n by k x y s i l)) (room-fits n x (left_site n x y s) i (omega arith) room l)
        | inr r ↦ subst (λ (q : SitedPart). q.site.first_tile + q.site.room ≤ n) (sym (right-finds n by k x y s i r)) (room-fits n y (right_site n x y s) i (omega arith) (omega arith) r)
      ]
    ]

-- a part has the room of its first tile
pub room-is : (p : TilePlan) (i : ℕ) → IsPlan p → i < part_count p → room_tiles p (first_tile p i) ≡ (part p i).site.room
unfolding part part_in
room-is p i h l =
    let f = is_part p i h l in
    let q = part p i in
    let n : ℕ = tile_count p in
    let fits = part-fits p i q h f in
    let some = tiles-some q.tree in
    let has : Has n q.tree q.site q.site.first_tile = record { tile_low = λ z. omega arith; tile_high = λ z. omega arith; merge_low = λ z. absurd (omega arith); merge_high = λ z. absurd (omega arith) } in
    ap (λ (z : SitedPart). z.site.room) (f.through q.site.first_tile has) ∙ first-room n q.tree q.site fits

-- a part with the same first tile has as many tiles as the room
record FillsRoom (n : ℕ) (t : MergeTree) (s : Site) (q : SitedPart) : Type 0 where
  pub at : ℕ
  pub has : Has n t s at
  pub first : (find n t s at).site.first_tile ≡ q.site.first_tile
  pub all : tiles (find n t s at).tree ≡ q.site.room

record SharesRoom (s : Site) (q : SitedPart) : Type 0 where
  pub first : s.first_tile ≡ q.site.first_tile
  pub room : s.room ≡ q.site.room

fills-through : (n : ℕ) (t : MergeTree) (s : Site) (t' : MergeTree) (s' : Site) (q : SitedPart) → ((j : ℕ) → Has n t' s' j → Has n t s j) → ((j : ℕ) → Has n t' s' j → find n t s j ≡ find n t' s' j) → FillsRoom n t' s' q → FillsRoom n t s q
fills-through n t s t' s' q has same f = record {
  at = f.at;
  has = has f.at f.has;
  first = ap (λ (z : SitedPart). z.site.first_tile) (same f.at f.has) ∙ f.first;
  all = ap (λ (z : SitedPart). tiles z.tree) (same f.at f.has) ∙ f.all;
}

room-filled : (n : ℕ) (t : MergeTree) (s : Site) (i : ℕ) → s.first_tile + tiles t ≤ n → Has n t s i → SharesRoom s (find n t s i) ⊎ FillsRoom n t s (find n t s i)
room-filled n Tile s i fits h = inl (record { first = refl; room = refl })
room-filled n (Merge by k x y) s i fits h =
    let my = tiles-some y in
    elim (where_is n by k x y s i h) [
      | inl level ↦ inl (subst (SharesRoom s) (sym (ap (find n (Merge by k x y) s) level ∙ find-self n (Merge by k x y) s)) (record { first = refl; room = refl }))
      | inr half ↦ elim half [
        | inl l ↦ subst (λ (q : SitedPart). SharesRoom s q ⊎ FillsRoom n (Merge by k x y) s q) (sym (left-finds n by k x y s i l)) (elim (room-filled n x (left_site n x y s) i (omega arith) l) [
          | inl shares ↦ inl (record { first = shares.first; room = shares.room })
          | inr fills ↦ inr (fills-through n (Merge by k x y) s x (left_site n x y s) (find n x (left_site n x y s) i) (λ j. Has-within n (Merge by k x y) s x (left_site n x y s) j (Within-left n by k x y s)) (left-finds n by k x y s) fills)
        ])
        | inr r ↦ subst (λ (q : SitedPart). SharesRoom s q ⊎ FillsRoom n (Merge by k x y) s q) (sym (right-finds n by k x y s i r)) (inr (fills-through n (Merge by k x y) s y (right_site n x y s) (find n y (right_site n x y s) i) (λ j. Has-within n (Merge by k x y) s y (right_site n x y s) j (Within-right n by k x y s)) (right-finds n by k x y s)
            (elim (room-filled n y (right_site n x y s) i (omega arith) r) [
              | inl shares ↦ record { at = part_number n y (right_site n x y s); has = Has-number n y (right_site n x y s) (omega arith); first = ap (λ (z : SitedPart). z.site.first_tile) (find-self n y (right_site n x y s)) ∙ shares.first; all = ap (λ (z : SitedPart). tiles z.tree) (find-self n y (right_site n x y s)) ∙ shares.room }
              | inr fills ↦ fills
            ])))
      ]
    ]

plan-room : (p : TilePlan) (i : ℕ) → IsPlan p → i < part_count p → (part p i).site.first_tile + (part p i).site.room ≤ tile_count p
unfolding part part_in
plan-room p i h l = let count = plan-tiles p h in room-fits (tile_count p) (grid_tree (grid_of p)) (root_of (tile_count p)) i (omega (arith, count)) (omega arith) (plan-has p i h l)

pub is_somewhere : (p : TilePlan) (i : ℕ) → IsPlan p → i < part_count p → IsSomewhere p i
is_somewhere p i h l =
    let f = is_part p i h l in
    let q = part p i in
    let some = tiles-some q.tree in
    let fits = part-fits p i q h f in
    let room = room-is p i h l in
    let roomy = f.roomy in
    record {
      some_tile = some;
      tiles = fits;
      some_place = (let a = tile-some p (first_tile p i) h (omega arith) in let b = start-rises p (first_tile p i + 1) (first_tile p i + tiles_of p i) (omega arith) in omega (arith, a, b));
      places = start-within p (first_tile p i + tiles_of p i);
      covers = λ v lv. place-covers p v (first_tile p i) (first_tile p i + tiles_of p i) lv;
      room = omega (arith, room, roomy);
      room_tiles = (let g = plan-room p i h l in omega (arith, room, g));
    }

-- a tile is the only part at and below it
pub is_tile : (p : TilePlan) (t : ℕ) → IsPlan p → t < tile_count p → IsTile p t
unfolding edges_at
is_tile p t h l = by_part (part p t) refl (is_part p t h (omega arith))
  where
    by_part : (q : SitedPart) → part p t ≡ q → IsPart p t q → IsTile p t
    by_part q e f = by_tree q.tree q.site e f
      where
        by_tree : (u : MergeTree) (s : Site) → part p t ≡ record { tree = u; site = s } → IsPart p t (record { tree = u; site = s }) → IsTile p t
        by_tree Tile s e f =
            let at : s.first_tile ≡ t = f.number in
            let list : post p t ≡ t ∷ [] = ap (λ (z : SitedPart). post_order (tile_count p) z.tree z.site) e ∙ ap (λ (z : ℕ). z ∷ []) at in
            record {
              first = ap (λ (z : SitedPart). z.site.first_tile) e ∙ at;
              one = ap (λ (z : SitedPart). tiles z.tree) e;
              post = list;
              edges = ap (flat_map (lot_edges p)) list ∙ append-nil (lot_edges p t);
            }
        by_tree (Merge by k x y) s e f = absurd (let at : own (tile_count p) x y s ≡ t = f.number in omega arith)

-- the room of a tile is the size of the largest part that begins with it
pub is_largest : (p : TilePlan) (t : ℕ) → IsPlan p → t < tile_count p → IsLargestFrom p t (room_tiles p t)
unfolding part part_in
is_largest p t h l =
    let count = plan-tiles p h in
    let n : ℕ = tile_count p in
    let tree : MergeTree = grid_tree (grid_of p) in
    let low : t < part_count p = omega arith in
    let tile = is_tile p t h l in
    let first : first_tile p t ≡ t = tile.first in
    record {
      attained = elim (room-filled n tree (root_of n) t (omega (arith, count)) (plan-has p t h low)) [
        | inl shares ↦ (
          part_number n tree (root_of n),
          (
            has-below p (part_number n tree (root_of n)) h (Has-number n tree (root_of n) (omega (arith, count))),
            (ap (λ (z : SitedPart). z.site.first_tile) (find-self n tree (root_of n)) ∙ shares.first ∙ first, ap (λ (z : SitedPart). tiles z.tree) (find-self n tree (root_of n)) ∙ count ∙ shares.room),
          ),
        )
        | inr fills ↦ (fills.at, (has-below p fills.at h fills.has, (fills.first ∙ first, fills.all)))
      ];
      largest = λ i li e. (let somewhere = is_somewhere p i h li in let room : tiles_of p i ≤ room_tiles p (first_tile p i) = somewhere.room in subst (λ (k : ℕ). tiles_of p i ≤ room_tiles p k) e room);
    }
