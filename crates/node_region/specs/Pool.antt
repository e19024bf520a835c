-- A region as contracts see it: a pool of cells, and what stands above each place. Places and cells have the same
-- numbers, a range from `first` on.
use Rattle.std.specs.Prelude.{◌≡◌, ℕ, ◌+◌, ◌-◌, ◌^◌, ◌<◌, ◌≤◌, ◌==◌, min, List, [], ◌∷◌, ◌++◌, length, get_or, set, drop, replicate, count_by, is_none, Option, Some, None, IsSome, nat_le, if◌then◌else◌}
use Rattle.std.specs.List.{range_with_len}
use Rattle.hg_base.specs.Lists.{IsIn}
use Rattle.hg_base.specs.declared.graph.Room.{Room}
use Rattle.node_region.specs.declared.cell.Cell.{Cell}
use Rattle.node_region.specs.declared.cell.Entry.{Entry}
use Rattle.node_region.specs.declared.cell.Hint.{Hint}

pub record CellPool : Type 0 where
  pub first : ℕ
  -- the cell of each number that has one
  pub cells : List (Option Cell)
  -- for each place the number of the first cell above it
  pub leafs : List (Option ℕ)
  -- the numbers without a cell, in the order in which they are taken
  pub free : List ℕ
  -- of how many tables it is made
  pub chunks : ℕ
  -- how far it can grow
  pub room : Room
  -- how often each number was taken
  pub turns : List ℕ
  -- what is noted at each cell and at each place of cells further up
  pub hints : List (Option Hint)
  pub fingers : List (Option Hint)

-- how many numbers there are
abbrev pub count : CellPool → ℕ
count pool = length pool.cells

-- the number is one of the range
abbrev pub IsCovered : CellPool → ℕ → Type 0
IsCovered pool id = (pool.first ≤ id) × (id < pool.first + count pool)

-- what a list has for a number of the range from `first` on
abbrev pub entry : {X : Type 0} → ℕ → List (Option X) → ℕ → Option X
entry first xs id = if nat_le first id then get_or xs (id - first) None else None

-- the cell of a number, if it has one
abbrev pub cell_at : CellPool → ℕ → Option Cell
cell_at pool id = entry pool.first pool.cells id

-- the number of the first cell above a place, if there is one
abbrev pub leaf_of : CellPool → ℕ → Option ℕ
leaf_of pool place = entry pool.first pool.leafs place

-- the number has a cell
abbrev pub IsUsed : CellPool → ℕ → Type 0
IsUsed pool id = IsSome (cell_at pool id)

-- no number of the list stands in it twice
abbrev pub AreDifferent : List ℕ → Type 0
AreDifferent [] = Unit {0}
AreDifferent (i ∷ is) = (IsIn i is → ⊥) × AreDifferent is

-- What every region keeps to: one entry for each number in each list, all within the room, in tables of which none is
-- empty, and each number either has a cell or is free, once.
pub record IsPool (pool : CellPool) : Type 0 where
  pub leafs : length pool.leafs ≡ count pool
  pub turns : length pool.turns ≡ count pool
  pub hints : length pool.hints ≡ count pool
  pub fingers : length pool.fingers ≡ count pool
  pub some_number : 1 ≤ count pool
  pub few_numbers : count pool ≤ pool.room.places
  pub range : pool.first + pool.room.places ≤ 1048576
  pub some_chunk : 1 ≤ pool.chunks
  pub few_chunks : pool.chunks ≤ pool.room.chunks
  pub no_empty_chunk : pool.chunks ≤ count pool
  pub chunk_room : pool.room.chunks ≤ 65536
  pub free_is_covered : (id : ℕ) → IsIn id pool.free → IsCovered pool id
  pub free_has_no_cell : (id : ℕ) → IsIn id pool.free → cell_at pool id ≡ None
  pub rest_is_free : (id : ℕ) → IsCovered pool id → cell_at pool id ≡ None → IsIn id pool.free
  pub free_once : AreDifferent pool.free
  pub free_count : length pool.free ≡ count_by is_none pool.cells

-- a pool in which no number has a cell and nothing stands above any place
abbrev pub fresh_pool : ℕ → ℕ → Room → CellPool
fresh_pool first count room = record {
  first = first;
  cells = replicate count None;
  leafs = replicate count None;
  free = range_with_len first count;
  chunks = 1;
  room = room;
  turns = replicate count 0;
  hints = replicate count None;
  fingers = replicate count None;
}

-- how often a number was taken, or 0 where it is not one of the range
abbrev pub turn_of : CellPool → ℕ → ℕ
turn_of pool id = if nat_le pool.first id then get_or pool.turns (id - pool.first) 0 else 0

-- what is noted at a number of a cell further up
abbrev pub hint_of : CellPool → ℕ → Option Hint
hint_of pool id = entry pool.first pool.hints id

-- what is noted at a place of a cell further up
abbrev pub finger_of : CellPool → ℕ → Option Hint
finger_of pool place = entry pool.first pool.fingers place

-- all that is kept of a number that has a cell
pub record IsKept (pool : CellPool) (id : ℕ) (kept : Entry) : Type 0 where
  pub cell : cell_at pool id ≡ Some kept.cell
  pub turn : turn_of pool id ≡ kept.turn
  pub hint : hint_of pool id ≡ kept.hint

-- the cell that a hint means, if it still is there
abbrev pub hinted_cell : CellPool → Hint → Option Cell
hinted_cell pool hint = if turn_of pool hint.cell == hint.turn then cell_at pool hint.cell else None

-- the number has this cell, or none
abbrev pub with_cell : CellPool → ℕ → Option Cell → CellPool
with_cell pool id cell = record pool { cells = set pool.cells (id - pool.first) cell }

-- one more turn; the count stands still at the greatest number of 32 bits
abbrev pub next_turn : ℕ → ℕ
next_turn turn = min (turn + 1) (2 ^ 32 - 1)

-- the number, which was the first free one, has this cell
abbrev pub with_taken : CellPool → ℕ → Cell → CellPool
with_taken pool id cell = record pool {
  cells = set pool.cells (id - pool.first) (Some cell);
  free = drop 1 pool.free;
  turns = set pool.turns (id - pool.first) (next_turn (turn_of pool id));
  hints = set pool.hints (id - pool.first) None;
}

-- the number has no cell any more and is the first free one
abbrev pub with_given_back : CellPool → ℕ → CellPool
with_given_back pool id = record pool {
  cells = set pool.cells (id - pool.first) None;
  free = id ∷ pool.free;
}

-- this number stands above the place, or none
abbrev pub with_leaf : CellPool → ℕ → Option ℕ → CellPool
with_leaf pool place up = record pool { leafs = set pool.leafs (place - pool.first) up }

-- this is noted at the number
abbrev pub with_hint : CellPool → ℕ → Option Hint → CellPool
with_hint pool id hint = record pool { hints = set pool.hints (id - pool.first) hint }

-- this is noted at the place
abbrev pub with_finger : CellPool → ℕ → Option Hint → CellPool
with_finger pool place finger = record pool { fingers = set pool.fingers (place - pool.first) finger }

-- one pool behind another, in the room of the first
abbrev pub appended : CellPool → CellPool → CellPool
appended left right = record {
  first = left.first;
  cells = left.cells ++ right.cells;
  leafs = left.leafs ++ right.leafs;
  free = left.free ++ right.free;
  chunks = left.chunks + right.chunks;
  room = left.room;
  turns = left.turns ++ right.turns;
  hints = left.hints ++ right.hints;
  fingers = left.fingers ++ right.fingers;
}

-- the second pool begins where the first ends, and the room of the first has place for both
pub record IsNextTo (left right : CellPool) : Type 0 where
  pub next : right.first ≡ left.first + count left
  pub places : count left + count right ≤ left.room.places
  pub chunks : left.chunks + right.chunks ≤ left.room.chunks
