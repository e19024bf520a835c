-- What a draw and an arrival answer, by the number that their one step found.
use Rattle.std.specs.Prelude.{◌≡◌, ◌≢◌, ℕ, ◌<◌, ◌≤◌, List, [], ◌∷◌, Option, Some, None}
use Rattle.tile_plan.specs.Plan.{TilePlan, tile_count, root, parent, sibling, left, right}
use Rattle.merge_board.specs.Board.{toll}
use Rattle.border_climb.specs.Stands.{PartState}
use Rattle.merge_board.specs.Fits.{Fits, Opened}
use Rattle.merge_board.specs.Seats.{drawn, missing, idle, with_merge}
use Rattle.merge_board.specs.declared.view.View.{View}
use Rattle.merge_board.specs.declared.arrival.Arrival.{Arrival}
use Rattle.merge_board.specs.declared.arrival.Arrival.TheVariants.{Waits, Both, Whole}

-- a draw that found a tile: no tile that this seat has seen drawn, and its part is opened
pub record HasDrawn (p : TilePlan) (old new : View) (part : PartState) : Type 0 where
  pub view : new ≡ drawn old new.found
  pub tile : new.found < tile_count p
  pub seen : old.seen ≤ new.found
  pub opened : Opened p new.found part

-- a draw that found all tiles drawn
pub record HasMissed (p : TilePlan) (old new : View) : Type 0 where
  pub view : new ≡ missing old new.found
  pub all : tile_count p ≤ new.found
  pub seen : old.seen ≤ new.found

-- what an arrival of part i answers: Waits where the part is below a merge whose word was 0, Both where it was not,
-- and Whole where it is the root
abbrev pub IsArrival : TilePlan → ℕ → View → View → Arrival → Type 0
IsArrival p i old new Waits = (i ≢ root p) × (new ≡ idle old 0)
IsArrival p i old new (Both number left_part right_part) =
    (i ≢ root p) × ((number ≡ parent p i) × ((new ≡ with_merge old number (toll p (sibling p i)))
    × (Fits p (left p number) left_part × Fits p (right p number) right_part)))
IsArrival p i old new Whole = (i ≡ root p) × (new ≡ idle old 0)

-- both halves of the merge above part i, each with all edges at and below it
abbrev pub HandsHalves : TilePlan → ℕ → Arrival → Type 0
HandsHalves p i Waits = ⊥
HandsHalves p i (Both number left_part right_part) = (number ≡ parent p i) × (Fits p (left p number) left_part × Fits p (right p number) right_part)
HandsHalves p i Whole = ⊥

-- the slots of part i and its sibling, out with a seat below that of the merge above them
pub record HoldsHalves (p : TilePlan) (i : ℕ) (held : List (ℕ × Option PartState)) : Type 0 where
  pub own : PartState
  pub other : PartState
  pub slots : held ≡ (parent p i, None) ∷ (sibling p i, Some other) ∷ (i, Some own) ∷ []
  pub own_fits : Fits p i own
  pub other_fits : Fits p (sibling p i) other
