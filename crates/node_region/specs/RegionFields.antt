-- What the fields of a region stand for.
use Rattle.std.specs.Prelude.{◌≤◌, length, map}
use Rattle.node_region.specs.Pool.{CellPool, IsPool}
use Rattle.node_region.specs.Kept.{room_of}
use Rattle.node_region.specs.Tables.{entries_of, cells_in, hint_kept, leaf_kept, finger_kept, free_in, IsTail}
use Rattle.node_region.specs.declared.region.Region.TheInside.{Inside}

abbrev pub pool_of : Inside → CellPool
pool_of r = record {
  first = r.tables.first;
  cells = cells_in (entries_of r.tables.slots.items);
  leafs = map (λ p. leaf_kept p) (entries_of r.tables.places.items);
  free = free_in r.tables.first (entries_of r.tables.slots.items) r.free;
  chunks = length r.tables.firsts.items;
  room = r.room;
  turns = map (λ s. s.turn) (entries_of r.tables.slots.items);
  hints = map (λ s. hint_kept s) (entries_of r.tables.slots.items);
  fingers = map (λ p. finger_kept p) (entries_of r.tables.places.items);
}

-- the fields hold a pool, the last free number is known, and the lists of tables have their room
pub record IsRegion (r : Inside) : Type 0 where
  pub pool : IsPool (pool_of r)
  pub tail : IsTail r.tables.first (entries_of r.tables.slots.items) r.free
  pub capacity : r.room.chunks ≤ room_of r.tables
