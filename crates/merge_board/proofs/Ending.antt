-- What is found where a board is closed by a seat that stands for all workers and has missed.
use Rattle.std.proofs.Common.{◌≡◌, ℕ, ◌≤◌, sym, ◌∙◌, subst, ap, arith, true, List}
use Rattle.std.specs.Prelude.{Option, Some, None}
use Rattle.std.proofs.lemmas.Option.{none-some, same_Some}
use mathlib.Core.Option.{some, some-injective}
use lib.ListN.{get_elem?}
use Rattle.atomic_table.specs.Table.{Final, Seen}
use Rattle.tile_plan.specs.Plan.{TilePlan, root}
use Rattle.border_climb.specs.Stands.{PartState}
use Rattle.merge_board.specs.Fits.{Fits}
use Rattle.merge_board.specs.Board.{IsBoard}
use Rattle.merge_board.specs.declared.view.View.{View}
use Rattle.merge_board.proofs.Closing.{root_home}
use Rattle.merge_board.proofs.Sums.{total_has}

module _ (p : TilePlan) (workers : ℕ) (ws : List ℕ) (xs : List (Option PartState)) (id : ℕ) (v : View) (final : Final (Seen (IsBoard p workers) id v) ws xs) (missed : v.missed ≡ true) (all : workers ≤ v.share) where
  share : v.share ≡ workers
  share = let t = total_has (λ (x : View). x.share) final.0.views id v final.1.1 in let b = final.1.0.shares in omega arith

  -- the root's slot has a part that fits
  pub root_left : (part : PartState) × ((get_elem? xs (root p) ≡ some (Some part)) × Fits p (root p) part)
  root_left = let home = root_home p workers final.0 final.1.0 id v final.1.1 share missed in (home.0, (final.4 (root p) (Some home.0) home.1.0, home.1.1))

  none_left : get_elem? xs (root p) ≡ some None → ⊥
  none_left e = none-some (root_left.0) (some-injective None (Some root_left.0) (sym e ∙ root_left.1.0))

  -- so what the slot has fits
  pub is_root : (x : Option PartState) → get_elem? xs (root p) ≡ some x → x ≡ None → ⊥
  is_root x e n = none_left (e ∙ ap (λ (y : Option PartState). some y) n)

  pub root_fits : (x : Option PartState) (part : PartState) → get_elem? xs (root p) ≡ some x → x ≡ Some part → Fits p (root p) part
  root_fits x part e s = subst (λ (y : PartState). Fits p (root p) y) (same_Some root_left.0 part (some-injective (Some root_left.0) (Some part) (sym root_left.1.0 ∙ e ∙ ap (λ (y : Option PartState). some y) s))) root_left.1.1
