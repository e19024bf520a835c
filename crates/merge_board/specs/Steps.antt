-- What one step on a word tells its seat: the view and the slots before, the number found, and both after.
use Rattle.std.specs.Prelude.{◌≡◌, ◌≢◌, ℕ, ◌+◌, ◌<◌, ◌≤◌, List, [], ◌∷◌, Option, Some, None}
use Rattle.atomic_table.specs.Table.{Me}
use Rattle.border_climb.specs.Stands.{PartState}
use Rattle.tile_plan.specs.Plan.{TilePlan, tile_count, part_count, root, parent, sibling}
use Rattle.merge_board.specs.Board.{toll}
use Rattle.merge_board.specs.Fits.{Fits, Opened}
use Rattle.merge_board.specs.Seats.{drawn, missing, idle, with_merge}
use Rattle.merge_board.specs.declared.view.View.{View}

-- a and b are the two halves of merge i
pub record AreBothHalves (p : TilePlan) (i a b : ℕ) : Type 0 where
  pub first : a < part_count p
  pub second : b < part_count p
  pub first_parent : parent p a ≡ i
  pub second_parent : parent p b ≡ i
  pub tolls : toll p a + toll p b ≡ 3

-- the view and the slots that a seat has
abbrev pub Hold : Type 0
Hold = Me (Option PartState) View

-- A draw that found fewer tiles drawn than there are takes the next one's slot; another misses. No draw that was
-- seen before is found again.
pub record Draws (me : Hold) (n : ℕ) (after : Hold) : Type 0 where
  pub seen : me.0.seen ≤ n
  pub hit : n < tile_count me.0.plan → (after.0 ≡ drawn me.0 n) × ((part : PartState) × (Opened me.0.plan n part × (after.1 ≡ (n, Some part) ∷ me.1)))
  pub missed : tile_count me.0.plan ≤ n → (after.0 ≡ missing me.0 n) × (after.1 ≡ me.1)

-- what the last of the slots that a seat holds has
abbrev pub last_of : List (ℕ × Option PartState) → Option PartState
last_of [] = None
last_of (x ∷ []) = x.1
last_of (x ∷ y ∷ ys) = last_of (y ∷ ys)

-- An arrival of part i, which is in the last slot that the seat holds: where it found 0 the seat gives back all its
-- slots; or the sibling has arrived, and the seat keeps the part's slot and takes the sibling's and that of the
-- merge above.
pub record ArrivesWith (i : ℕ) (me : Hold) (n : ℕ) (after : Hold) : Type 0 where
  pub root_zero : i ≡ root me.0.plan → n ≡ 0
  pub waits : n ≡ 0 → (after.0 ≡ idle me.0 n) × (after.1 ≡ [])
  pub both : n ≢ 0 → (n ≡ toll me.0.plan (sibling me.0.plan i))
      × ((after.0 ≡ with_merge me.0 (parent me.0.plan i) n)
      × ((z : PartState) × (Fits me.0.plan (sibling me.0.plan i) z
      × (after.1 ≡ (parent me.0.plan i, None) ∷ (sibling me.0.plan i, Some z) ∷ (i, last_of me.1) ∷ []))))

abbrev pub Arrives : Hold → ℕ → Hold → Type 0
Arrives me n after = (i : ℕ) → me.0.hand ≡ Some i → ArrivesWith i me n after

-- the slots of a merge's halves, or none for a tile
abbrev pub AreBelow : TilePlan → ℕ → List (ℕ × Option PartState) → Type 0
AreBelow p i [] = i < tile_count p
AreBelow p i (a ∷ []) = ⊥
AreBelow p i (a ∷ b ∷ []) = (tile_count p ≤ i) × (AreBothHalves p i a.0 b.0)
AreBelow p i (a ∷ b ∷ c ∷ cs) = ⊥

-- the slots that a seat holds: that of the part in its hand, then those of the part's halves; an idle seat holds none
abbrev pub AreTurns : TilePlan → Option ℕ → List (ℕ × Option PartState) → Type 0
AreTurns p None held = held ≡ []
AreTurns p (Some i) held = (x : Option PartState) × ((below : List (ℕ × Option PartState)) × ((held ≡ (i, x) ∷ below) × AreBelow p i below))
