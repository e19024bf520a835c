-- What a write into the tables leaves as it was, and what it is to put one list of free numbers behind another.
use Rattle.std.specs.Prelude.{◌≡◌, ℕ, ◌+◌, ◌<◌, ◌≤◌, ◌++◌, min, length, map, None, vec_capacity}
use Rattle.hg_base.specs.Lists.{IsIn}
use Rattle.node_region.specs.Pool.{AreDifferent, entry}
use Rattle.node_region.specs.Tables.{entries_of, cells_in, hint_kept, free_in, IsTail}
use Rattle.node_region.specs.declared.chunk.FreeList.{FreeList}
use Rattle.node_region.specs.declared.tables.Tables.{Tables}

-- for how many tables all three lists have room
abbrev pub room_of : Tables → ℕ
room_of t = min (vec_capacity t.firsts) (min (vec_capacity t.slots) (vec_capacity t.places))

-- the range and the number of tables are as before, and there is no less room
pub record KeepsTables (old new : Tables) : Type 0 where
  pub first : new.first ≡ old.first
  pub count : new.count ≡ old.count
  pub chunks : length new.firsts.items ≡ length old.firsts.items
  pub capacity : room_of old ≤ room_of new

-- the number is one of the range and has no cell
pub record IsFree (t : Tables) (id : ℕ) : Type 0 where
  pub from : t.first ≤ id
  pub below : id < t.first + t.count
  pub no_cell : entry t.first (cells_in (entries_of t.slots.items)) id ≡ None

-- two lists of free numbers that have none in common
pub record CanLink (t : Tables) (front behind : FreeList) : Type 0 where
  pub free : (id : ℕ) → IsIn id (free_in t.first (entries_of t.slots.items) front ++ free_in t.first (entries_of t.slots.items) behind) → IsFree t id
  pub apart : AreDifferent (free_in t.first (entries_of t.slots.items) front ++ free_in t.first (entries_of t.slots.items) behind)
  pub tail : IsTail t.first (entries_of t.slots.items) front
  pub behind_tail : IsTail t.first (entries_of t.slots.items) behind
  pub few : front.count + behind.count ≤ 1048576

-- one list stands behind the other, and nothing else changed
pub record IsLinked (old : Tables) (front behind : FreeList) (new : Tables) (both : FreeList) : Type 0 where
  pub kept : KeepsTables old new
  pub places : entries_of new.places.items ≡ entries_of old.places.items
  pub cells : cells_in (entries_of new.slots.items) ≡ cells_in (entries_of old.slots.items)
  pub turns : map (λ s. s.turn) (entries_of new.slots.items) ≡ map (λ s. s.turn) (entries_of old.slots.items)
  pub hints : map (λ s. hint_kept s) (entries_of new.slots.items) ≡ map (λ s. hint_kept s) (entries_of old.slots.items)
  pub free : free_in new.first (entries_of new.slots.items) both ≡ free_in old.first (entries_of old.slots.items) front ++ free_in old.first (entries_of old.slots.items) behind
  pub count : both.count ≡ front.count + behind.count
  pub tail : IsTail new.first (entries_of new.slots.items) both
