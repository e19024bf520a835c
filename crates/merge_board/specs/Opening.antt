-- The slots and the seats of a board that is set up.
use Rattle.std.specs.Prelude.{◌≡◌, ℕ, ◌<◌, ◌≤◌, List, All, length, slice_index, Option, Some, None, false}
use mathlib.Core.Option.{some}
use lib.ListN.{get_elem?}
use Rattle.atomic_table.specs.Table.{State}
use Rattle.border_climb.specs.Stands.{PartState}
use Rattle.tile_plan.specs.Plan.{TilePlan, tile_count, part_count}
use Rattle.merge_board.specs.Fits.{Opened}
use Rattle.merge_board.specs.Board.{Shows}
use Rattle.merge_board.specs.Seats.{SeatState, BoardState}
use Rattle.merge_board.specs.RuleOfKey.{rule_of}
use Rattle.merge_board.specs.declared.view.View.{View}
use Rattle.merge_board.specs.declared.view.Key.{Key}

-- the first tiles' slots, so many of them: each has its tile's part, which stands for no edges
pub record AreOpenedTiles (p : TilePlan) (tiles : ℕ) (slots : List (Option PartState)) : Type 0 where
  pub count : length slots ≡ tiles
  pub each : (t : ℕ) → t < tiles → (part : PartState) × ((get_elem? slots t ≡ some (Some part)) × Opened p t part)

-- each tile's slot has its part, which stands for no edges, and each merge's slot has none
pub record AreOpened (p : TilePlan) (slots : List (Option PartState)) : Type 0 where
  pub count : length slots ≡ part_count p
  pub tiles : (t : ℕ) → t < tile_count p → (part : PartState) × ((get_elem? slots t ≡ some (Some part)) × Opened p t part)
  pub merges : (m : ℕ) → tile_count p ≤ m → m < part_count p → get_elem? slots m ≡ some None

-- the view has seen no draw, and has not missed
abbrev pub KnowsNoDraw : View → Type 0
KnowsNoDraw v = (v.seen ≡ 0) × (v.missed ≡ false)

-- the views of these seats are among those of the state
abbrev pub ShowsSeats : State (Option PartState) View → List SeatState → Type 0
ShowsSeats s seats = All (λ seat. (k : ℕ) × Shows (get_elem? s.views) k seat.view) seats

-- no tile of the board is drawn: word 0, which counts the draws, is 0 in each state that keeps the board's rule and has
-- the views of these seats
abbrev pub IsUndrawn : BoardState → List SeatState → Type 0
IsUndrawn board seats = (key : Key) (s : State (Option PartState) View) → key.plan.value ≡ board.plan → key.workers ≡ board.workers → rule_of key s → ShowsSeats s seats → slice_index s.words 0 ≡ 0
