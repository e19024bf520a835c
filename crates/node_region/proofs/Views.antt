-- What a region is seen as after the entry of a number or of a place was written.
use Rattle.std.proofs.Common.{◌≡◌, ◌≢◌, ℕ, ◌+◌, ◌-◌, ◌<◌, ◌≤◌, List, get_or, set, map, Option, Some, None, nat_le, ◌==◌, if◌then◌else◌, Bool, true, false, refl, sym, ap, ◌∙◌, subst, arith}
use Rattle.std.proofs.lemmas.List.{length-map, get_or-map}
use Rattle.hg_base.specs.Lists.{IsIn}
use Rattle.node_region.specs.declared.cell.Cell.{Cell}
use Rattle.node_region.specs.declared.cell.Hint.{Hint}
use Rattle.node_region.specs.declared.chunk.Slot.{Slot}
use Rattle.node_region.specs.declared.chunk.Place.{Place}
use Rattle.node_region.specs.declared.chunk.FreeList.{FreeList}
use Rattle.node_region.specs.declared.tables.Tables.{Tables}
use Rattle.node_region.specs.declared.region.Region.TheInside.{Inside}
use Rattle.node_region.specs.Pool.{CellPool, IsPool, IsCovered, IsUsed, IsKept, cell_at, turn_of, hint_of, leaf_of, finger_of, hinted_cell, with_cell, with_leaf, with_hint, with_finger}
use Rattle.node_region.specs.Tables.{entries_of, cells_in, cell_of, hint_kept, leaf_kept, finger_kept, thread, told_after, free_in, IsTail}
use Rattle.node_region.specs.Kept.{KeepsTables}
use Rattle.node_region.specs.RegionFields.{pool_of, IsRegion}
use Rattle.node_region.proofs.Entries.{entry-read}
use Rattle.node_region.proofs.Slots.{IsEntry, field-written, field-kept, free-kept, tail-kept}
use Rattle.node_region.proofs.Pools.{pool-same}
use Rattle.node_region.proofs.PoolLaws.{used-not_free, with_cell-pool, with_leaf-pool, with_hint-pool, with_finger-pool}

-- a number of the range, as the tables count them
pub covered-within : (r : Inside) (id : ℕ) → IsCovered (pool_of r) id → (r.tables.first ≤ id) × (id < r.tables.first + r.tables.count)
covered-within r id at =
    let long = length-map (entries_of r.tables.slots.items) (λ s. cell_of s) in
    (at.0, omega (arith, at.1, long, r.tables.counted))

-- a number that the tables count is one of the range
pub covered-seen : (r : Inside) (id : ℕ) → (r.tables.first ≤ id) × (id < r.tables.first + r.tables.count) → IsCovered (pool_of r) id
covered-seen r id at =
    let long = length-map (entries_of r.tables.slots.items) (λ s. cell_of s) in
    (at.0, omega (arith, at.1, long, r.tables.counted))

-- what stands at a number
pub cell-read : (r : Inside) (n id : ℕ) (s : Slot) → IsEntry r.tables.first (entries_of r.tables.slots.items) n id s → cell_at (pool_of r) id ≡ cell_of s
cell-read r n id s e = entry-read (λ x. cell_of x) r.tables.first (entries_of r.tables.slots.items) n id s e.number e.within e.read

pub hint-read : (r : Inside) (n id : ℕ) (s : Slot) → IsEntry r.tables.first (entries_of r.tables.slots.items) n id s → hint_of (pool_of r) id ≡ hint_kept s
hint-read r n id s e = entry-read (λ x. hint_kept x) r.tables.first (entries_of r.tables.slots.items) n id s e.number e.within e.read

turn-is : (first : ℕ) (turns : List ℕ) (id : ℕ) → first ≤ id → (if nat_le first id then get_or turns (id - first) 0 else 0) ≡ get_or turns (id - first) 0
turn-is first turns id low = grind arith

pub turn-read : (r : Inside) (n id : ℕ) (s : Slot) → IsEntry r.tables.first (entries_of r.tables.slots.items) n id s → turn_of (pool_of r) id ≡ s.turn
turn-read r n id s e =
    let place : id - r.tables.first ≡ n = omega (arith, e.number) in
    turn-is r.tables.first (map (λ x. x.turn) (entries_of r.tables.slots.items)) id (omega (arith, e.number))
    ∙ rw place (get_or-map (λ (x : Slot). x.turn) (entries_of r.tables.slots.items) n s 0 e.within ∙ ap (λ (x : Slot). x.turn) (sym e.read))

-- all that is kept of a number that has a cell
pub kept-read : (r : Inside) (n id : ℕ) (s : Slot) → IsEntry r.tables.first (entries_of r.tables.slots.items) n id s → (c : Cell) (hint : Option Hint) → cell_of s ≡ Some c → hint ≡ hint_kept s
    → IsKept (pool_of r) id (record { cell = c; turn = s.turn; hint = hint })
kept-read r n id s e c hint used noted = record { cell = cell-read r n id s e ∙ used; turn = turn-read r n id s e; hint = hint-read r n id s e ∙ sym noted }

pub leaf-read : (r : Inside) (n place : ℕ) (p : Place) → IsEntry r.tables.first (entries_of r.tables.places.items) n place p → leaf_of (pool_of r) place ≡ leaf_kept p
leaf-read r n place p e = entry-read (λ x. leaf_kept x) r.tables.first (entries_of r.tables.places.items) n place p e.number e.within e.read

pub finger-read : (r : Inside) (n place : ℕ) (p : Place) → IsEntry r.tables.first (entries_of r.tables.places.items) n place p → finger_of (pool_of r) place ≡ finger_kept p
finger-read r n place p e = entry-read (λ x. finger_kept x) r.tables.first (entries_of r.tables.places.items) n place p e.number e.within e.read

-- the entry of a number was written
pub record SlotWritten (r : Inside) (t : Tables) (n id : ℕ) (s y : Slot) : Type 0 where
  pub entry : IsEntry r.tables.first (entries_of r.tables.slots.items) n id s
  pub kept : KeepsTables r.tables t
  pub slots : entries_of t.slots.items ≡ set (entries_of r.tables.slots.items) n y
  pub places : entries_of t.places.items ≡ entries_of r.tables.places.items

-- the entry of a place was written
pub record PlaceWritten (r : Inside) (t : Tables) (n place : ℕ) (p y : Place) : Type 0 where
  pub entry : IsEntry r.tables.first (entries_of r.tables.places.items) n place p
  pub kept : KeepsTables r.tables t
  pub places : entries_of t.places.items ≡ set (entries_of r.tables.places.items) n y
  pub slots : entries_of t.slots.items ≡ entries_of r.tables.slots.items

-- the region with other tables and another list of free numbers
abbrev pub region_with : Inside → FreeList → Tables → Inside
region_with r free t = record { room = r.room; free = free; tables = t }

-- the region is seen as that pool, and keeps to what every region keeps to
abbrev pub IsSeenAs : Inside → CellPool → Type 0
IsSeenAs r q = (pool_of r ≡ q) × IsRegion r

pub slot-seen : (r : Inside) → IsRegion r → (t : Tables) (n id : ℕ) (s y : Slot) → SlotWritten r t n id s y → (f : FreeList)
    → (cells : List (Option Cell)) (free turns : List ℕ) (hints : List (Option Hint))
    → cells_in (set (entries_of r.tables.slots.items) n y) ≡ cells → free_in r.tables.first (set (entries_of r.tables.slots.items) n y) f ≡ free
    → map (λ x. x.turn) (set (entries_of r.tables.slots.items) n y) ≡ turns → map (λ x. hint_kept x) (set (entries_of r.tables.slots.items) n y) ≡ hints
    → IsPool (record (pool_of r) { cells = cells; free = free; turns = turns; hints = hints }) → IsTail r.tables.first (set (entries_of r.tables.slots.items) n y) f
    → IsSeenAs (region_with r f t) (record (pool_of r) { cells = cells; free = free; turns = turns; hints = hints })
slot-seen r h t n id s y w f cells free turns hints as_cells as_free as_turns as_hints pool tail =
    let seen : pool_of (region_with r f t) ≡ record (pool_of r) { cells = cells; free = free; turns = turns; hints = hints } = pool-same _ _ (record {
      first = w.kept.first;
      cells = ap cells_in w.slots ∙ as_cells;
      leafs = ap (λ xs. map (λ p. leaf_kept p) xs) w.places;
      free = ap (λ k. free_in k (entries_of t.slots.items) f) w.kept.first ∙ ap (λ xs. free_in r.tables.first xs f) w.slots ∙ as_free;
      chunks = w.kept.chunks;
      room = refl;
      turns = ap (λ xs. map (λ x. x.turn) xs) w.slots ∙ as_turns;
      hints = ap (λ xs. map (λ x. hint_kept x) xs) w.slots ∙ as_hints;
      fingers = ap (λ xs. map (λ p. finger_kept p) xs) w.places;
    }) in
    (seen, record { pool = subst (λ q. IsPool q) (sym seen) pool; tail = rw (w.kept.first, w.slots) tail; capacity = omega (arith, h.capacity, w.kept.capacity) })

-- the free numbers are others than one that has a cell
pub free-apart : (r : Inside) → IsRegion r → (id : ℕ) → IsUsed (pool_of r) id → (i : ℕ) → IsIn i (pool_of r).free → (r.tables.first ≤ i) × (i ≢ id)
free-apart r h id used i is = ((h.pool.free_is_covered i is).0, λ same. used-not_free (pool_of r) h.pool id used (subst (λ (n : ℕ). IsIn n (pool_of r).free) same is))

-- a number has another cell in place of its own
pub cell-seen : (r : Inside) → IsRegion r → (t : Tables) (n id : ℕ) (s y : Slot) → SlotWritten r t n id s y → (c : Cell) → IsUsed (pool_of r) id
    → cell_of y ≡ Some c → y.turn ≡ s.turn → hint_kept y ≡ hint_kept s → IsSeenAs (region_with r r.free t) (with_cell (pool_of r) id (Some c))
cell-seen r h t n id s y w c used cell turn hint =
    let first = r.tables.first in
    let slots = entries_of r.tables.slots.items in
    slot-seen r h t n id s y w r.free _ _ _ _
    (field-written (λ x. cell_of x) first slots n id s y w.entry ∙ ap (λ o. set (cells_in slots) (id - first) o) cell)
    (free-kept first slots n id s y w.entry r.free (free-apart r h id used))
    (field-kept (λ x. x.turn) first slots n id s y w.entry turn)
    (field-kept (λ x. hint_kept x) first slots n id s y w.entry hint)
    (with_cell-pool (pool_of r) h.pool id used c)
    (tail-kept first slots n id s y w.entry r.free (free-apart r h id used) h.tail)

-- something else is noted at a number
pub hint-seen : (r : Inside) → IsRegion r → (t : Tables) (n id : ℕ) (s y : Slot) → SlotWritten r t n id s y → (hint : Option Hint)
    → cell_of y ≡ cell_of s → y.link ≡ s.link → y.turn ≡ s.turn → hint_kept y ≡ hint → IsSeenAs (region_with r r.free t) (with_hint (pool_of r) id hint)
hint-seen r h t n id s y w hint cell link turn noted =
    let first = r.tables.first in
    let slots = entries_of r.tables.slots.items in
    let links = field-kept (λ x. x.link) first slots n id s y w.entry link in
    slot-seen r h t n id s y w r.free _ _ _ _
    (field-kept (λ x. cell_of x) first slots n id s y w.entry cell)
    (ap (λ l. thread first l r.free.count r.free.head) links)
    (field-kept (λ x. x.turn) first slots n id s y w.entry turn)
    (field-written (λ x. hint_kept x) first slots n id s y w.entry ∙ ap (λ o. set (map (λ x. hint_kept x) slots) (id - first) o) noted)
    (with_hint-pool (pool_of r) h.pool id hint)
    (λ k more. ap (λ l. told_after first l k r.free.head) links ∙ h.tail k more)

place-seen : (r : Inside) → IsRegion r → (t : Tables) (n place : ℕ) (p y : Place) → PlaceWritten r t n place p y → (leafs : List (Option ℕ)) (fingers : List (Option Hint))
    → map (λ x. leaf_kept x) (set (entries_of r.tables.places.items) n y) ≡ leafs → map (λ x. finger_kept x) (set (entries_of r.tables.places.items) n y) ≡ fingers
    → IsPool (record (pool_of r) { leafs = leafs; fingers = fingers })
    → IsSeenAs (region_with r r.free t) (record (pool_of r) { leafs = leafs; fingers = fingers })
place-seen r h t n place p y w leafs fingers as_leafs as_fingers pool =
    let seen : pool_of (region_with r r.free t) ≡ record (pool_of r) { leafs = leafs; fingers = fingers } = pool-same _ _ (record {
      first = w.kept.first;
      cells = ap cells_in w.slots;
      leafs = ap (λ xs. map (λ x. leaf_kept x) xs) w.places ∙ as_leafs;
      free = ap (λ k. free_in k (entries_of t.slots.items) r.free) w.kept.first ∙ ap (λ xs. free_in r.tables.first xs r.free) w.slots;
      chunks = w.kept.chunks;
      room = refl;
      turns = ap (λ xs. map (λ x. x.turn) xs) w.slots;
      hints = ap (λ xs. map (λ x. hint_kept x) xs) w.slots;
      fingers = ap (λ xs. map (λ x. finger_kept x) xs) w.places ∙ as_fingers;
    }) in
    (seen, record { pool = subst (λ q. IsPool q) (sym seen) pool; tail = rw (w.kept.first, w.slots) h.tail; capacity = omega (arith, h.capacity, w.kept.capacity) })

-- another number stands above a place
pub leaf-seen : (r : Inside) → IsRegion r → (t : Tables) (n place : ℕ) (p y : Place) → PlaceWritten r t n place p y → (up : Option ℕ)
    → leaf_kept y ≡ up → finger_kept y ≡ finger_kept p → IsSeenAs (region_with r r.free t) (with_leaf (pool_of r) place up)
leaf-seen r h t n place p y w up leaf finger =
    let first = r.tables.first in
    let places = entries_of r.tables.places.items in
    place-seen r h t n place p y w _ _
    (field-written (λ x. leaf_kept x) first places n place p y w.entry ∙ ap (λ o. set (map (λ x. leaf_kept x) places) (place - first) o) leaf)
    (field-kept (λ x. finger_kept x) first places n place p y w.entry finger)
    (with_leaf-pool (pool_of r) h.pool place up)

-- something else is noted at a place
pub finger-seen : (r : Inside) → IsRegion r → (t : Tables) (n place : ℕ) (p y : Place) → PlaceWritten r t n place p y → (noted : Option Hint)
    → leaf_kept y ≡ leaf_kept p → finger_kept y ≡ noted → IsSeenAs (region_with r r.free t) (with_finger (pool_of r) place noted)
finger-seen r h t n place p y w noted leaf finger =
    let first = r.tables.first in
    let places = entries_of r.tables.places.items in
    place-seen r h t n place p y w _ _
    (field-kept (λ x. leaf_kept x) first places n place p y w.entry leaf)
    (field-written (λ x. finger_kept x) first places n place p y w.entry ∙ ap (λ o. set (map (λ x. finger_kept x) places) (place - first) o) finger)
    (with_finger-pool (pool_of r) h.pool place noted)

-- a hint of a number without a cell, or of another turn, means nothing
pub hinted-none : (p : CellPool) (hint : Hint) → cell_at p hint.cell ≡ None → hinted_cell p hint ≡ None
hinted-none p hint none = rw none (either (turn_of p hint.cell == hint.turn) None)
  where
    either : (b : Bool) (o : Option Cell) → (if b then o else o) ≡ o
    either true o = refl
    either false o = refl

pub hinted-other : (p : CellPool) (hint : Hint) → turn_of p hint.cell ≢ hint.turn → hinted_cell p hint ≡ None
hinted-other p hint other = grind arith

pub hinted-same : (p : CellPool) (hint : Hint) → turn_of p hint.cell ≡ hint.turn → hinted_cell p hint ≡ cell_at p hint.cell
hinted-same p hint same = grind arith
