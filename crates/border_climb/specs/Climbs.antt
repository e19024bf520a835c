-- What a climb meets.
use Rattle.std.specs.Prelude.{◌≡◌, ℕ, ◌<◌, ◌≤◌, Option, Some, None}
use Rattle.std.specs.Option.{option_map_or}
use Rattle.node_region.specs.Pool.{CellPool, IsKept, cell_at, leaf_of, turn_of, with_cell, with_leaf, with_taken}
use Rattle.node_region.specs.declared.cell.Cell.{Cell}
use Rattle.node_region.specs.declared.cell.Hint.{Hint}
use Rattle.border_climb.specs.declared.climbing.Met.{Met}
use Rattle.border_climb.specs.declared.climbing.Seen.{Seen}
use Rattle.border_climb.specs.Stands.{IsMet}
use Rattle.border_climb.specs.Linked.{HasRank}
use Rattle.border_climb.specs.Notes.{IsLive}

-- the link leads to no cell of rank below r
abbrev pub EndsClimb : CellPool → Option ℕ → ℕ → Type 0
EndsClimb pool link r = (j : ℕ) → link ≡ Some j → (b : Cell) × ((cell_at pool j ≡ Some b) × (r ≤ b.rank))

-- the link leads to a cell of rank below r, which was met
pub record IsBelow (pool : CellPool) (link : Option ℕ) (r : ℕ) (met : Met) : Type 0 where
  pub leads : link ≡ Some met.id
  pub seat : HasRank pool met.id met.rank
  pub low : met.rank < r

-- the note means the cell that was met, which is still there
pub record IsNamed (pool : CellPool) (note : Option Hint) (met : Met) : Type 0 where
  pub hint : Hint
  pub is : note ≡ Some hint
  pub live : IsLive pool hint
  pub id : hint.cell ≡ met.id
  pub rank : live.cell.rank ≡ met.rank

-- the cell that was met has all that was read there
pub record IsRead (pool : CellPool) (seen : Seen) : Type 0 where
  pub kept : IsKept pool seen.met.id seen.entry
  pub rank : seen.entry.cell.rank ≡ seen.met.rank

-- The cell that was met has the cell and the turn that were read there. The note that was read, which need not be there
-- any more, leads up.
pub record IsSeen (pool : CellPool) (seen : Seen) : Type 0 where
  pub cell : cell_at pool seen.met.id ≡ Some seen.entry.cell
  pub rank : seen.entry.cell.rank ≡ seen.met.rank
  pub turn : turn_of pool seen.met.id ≡ seen.entry.turn
  pub note : (h : Hint) → seen.entry.hint ≡ Some h → IsLive pool h → (d : ℕ) × IsMet pool d seen.entry.cell.up h.cell

-- climbing up from one cell meets the other
pub record IsFurther (pool : CellPool) (here next : Met) : Type 0 where
  pub seat : HasRank pool here.id here.rank
  pub links : ℕ
  pub met : IsMet pool links seat.cell.up next.id
  pub next_seat : HasRank pool next.id next.rank
  pub up : here.rank < next.rank

-- the cell is met from the start on
pub record IsReached (pool : CellPool) (start here : Met) : Type 0 where
  pub links : ℕ
  pub met : IsMet pool links (Some start.id) here.id
  pub seat : HasRank pool here.id here.rank
  pub from : start.rank ≤ here.rank

-- the climb from the start ends at the last cell of rank below r
pub record IsClimbed (pool : CellPool) (start : Met) (r : ℕ) (top : Met) : Type 0 where
  pub reached : IsReached pool start top
  pub low : top.rank < r
  pub last : EndsClimb pool reached.seat.cell.up r

-- a climb from the place to rank r can begin at the cell
pub record IsStart (pool : CellPool) (place r : ℕ) (start : Met) : Type 0 where
  pub links : ℕ
  pub met : IsMet pool links (leaf_of pool place) start.id
  pub seat : HasRank pool start.id start.rank
  pub low : start.rank < r

-- a climb from the place to rank r can begin at the cell that was seen, or nothing below r is above the place
abbrev pub IsClimbBegun : CellPool → ℕ → ℕ → Option Seen → Type 0
IsClimbBegun pool place r None = EndsClimb pool (leaf_of pool place) r
IsClimbBegun pool place r (Some start) = IsStart pool place r start.met × IsSeen pool start

-- the last cell of rank below r above a place
pub record IsTopCell (pool : CellPool) (place r id : ℕ) : Type 0 where
  pub links : ℕ
  pub met : IsMet pool links (leaf_of pool place) id
  pub cell : Cell
  pub is : cell_at pool id ≡ Some cell
  pub low : cell.rank < r
  pub last : EndsClimb pool cell.up r

abbrev pub IsTop : CellPool → ℕ → ℕ → Option ℕ → Type 0
IsTop pool place r None = EndsClimb pool (leaf_of pool place) r
IsTop pool place r (Some id) = IsTopCell pool place r id

-- only notes differ
abbrev pub DiffersInNotes : CellPool → CellPool → Type 0
DiffersInNotes old new = new ≡ record old { hints = new.hints; fingers = new.fingers }

-- another number above the last cell of a place's chain, or above the place itself
abbrev pub with_up : CellPool → ℕ → Option ℕ → Option ℕ → CellPool
with_up pool place None up = with_leaf pool place up
with_up pool place (Some id) up = with_cell pool id (Some (record { rank = option_map_or (λ c. c.rank) (cell_at pool id) 0; up = up }))

-- a free number has a new cell of that rank, which stands above the last cells of two chains
abbrev pub opened_pool : CellPool → ℕ → ℕ → Option ℕ → Option ℕ → ℕ → ℕ → CellPool
opened_pool pool a b first second id rank =
    with_up (with_up (with_taken pool id (record { rank = rank; up = None })) a first (Some id)) b second (Some id)
