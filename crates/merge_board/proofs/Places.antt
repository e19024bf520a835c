-- What a part's parent and side tell of its word and toll.
use Rattle.std.proofs.Common.{◌≡◌, ℕ, ◌<◌, sym, ◌∙◌, ap}
use Rattle.tile_plan.specs.Plan.{TilePlan, IsPlan, tile_count, part_count, root, parent, side, half_on, sibling, left, right}
use Rattle.tile_plan.specs.Sites.{other_side}
use Rattle.tile_plan.specs.declared.site.Side.{Side}
use Rattle.tile_plan.specs.declared.site.Side.TheVariants as sides
use Rattle.tile_plan.proofs.Parents.{has_parent}
use Rattle.merge_board.specs.Board.{door, toll_of, toll}
use Rattle.merge_board.proofs.Doors.{door_root, some_plan}

pub root_door : (p : TilePlan) (i : ℕ) → IsPlan p → i < part_count p → i ≡ root p → tile_count p ≡ door p i
root_door p i h l e = sym (ap (λ (k : ℕ). door p k) e ∙ door_root p h (some_plan p h))

pub root_toll : (p : TilePlan) (i : ℕ) → IsPlan p → i < part_count p → i ≡ root p → 1 ≡ toll p i
root_toll p i h l e = sym (ap toll_of ((has_parent p i h l).of_root e).1)

-- the other half by the side
pub left_sibling : (p : TilePlan) (i : ℕ) → side p i ≡ sides.Left → right p (parent p i) ≡ sibling p i
left_sibling p i e = ap (λ (on : Side). half_on p (parent p i) (other_side on)) (sym e)

pub right_sibling : (p : TilePlan) (i : ℕ) → side p i ≡ sides.Right → left p (parent p i) ≡ sibling p i
right_sibling p i e = ap (λ (on : Side). half_on p (parent p i) (other_side on)) (sym e)

-- a part is the left or right half of its parent
pub left_own : (p : TilePlan) (i : ℕ) → IsPlan p → i < part_count p → (i ≡ root p → ⊥) → side p i ≡ sides.Left → i ≡ left p (parent p i)
left_own p i h l inner e = sym ((has_parent p i h l).inner inner).half ∙ ap (half_on p (parent p i)) e

pub right_own : (p : TilePlan) (i : ℕ) → IsPlan p → i < part_count p → (i ≡ root p → ⊥) → side p i ≡ sides.Right → i ≡ right p (parent p i)
right_own p i h l inner e = sym ((has_parent p i h l).inner inner).half ∙ ap (half_on p (parent p i)) e
