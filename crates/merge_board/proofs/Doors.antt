-- Which parts share a word of the board.
use Rattle.std.proofs.Common.{◌≡◌, ◌≢◌, ℕ, ◌+◌, ◌-◌, ◌<◌, ◌≤◌, ◌⊎◌, inl, inr, refl, sym, ◌∙◌, subst, ap, arith}
use Rattle.std.proofs.lemmas.Bool.{cases_eq}
use Rattle.tile_plan.specs.Plan.{TilePlan, IsPlan, tile_count, root, parent, side, half_on, sibling, grid_of}
use Rattle.tile_plan.specs.Sites.{other_side}
use Rattle.tile_plan.specs.declared.site.Side.{Side}
use Rattle.tile_plan.specs.declared.site.Side.TheVariants as sides
use Rattle.tile_plan.specs.Grids.{grid_tree}
use Rattle.tile_plan.proofs.Cuts.{tiles-some}
use Rattle.tile_plan.proofs.Parents.{has_parent, plan-tiles}
use Rattle.merge_board.specs.Board.{IsPart, word_of, door, toll_of, toll}

-- a toll is 1 or 2, and tells the side; those of both sides sum to 3
some_toll : (on : Side) → 1 ≤ toll_of on
some_toll sides.Left = omega arith
some_toll sides.Right = omega arith

most_toll : (on : Side) → toll_of on ≤ 2
most_toll sides.Left = omega arith
most_toll sides.Right = omega arith

both_tolls : (on : Side) → toll_of (other_side on) + toll_of on ≡ 3
both_tolls sides.Left = refl
both_tolls sides.Right = refl

same_toll : (on at : Side) → toll_of on ≡ toll_of at → on ≡ at
same_toll sides.Left sides.Left e = refl
same_toll sides.Left sides.Right e = absurd (omega (arith, e))
same_toll sides.Right sides.Left e = absurd (omega (arith, e))
same_toll sides.Right sides.Right e = refl

module _ (p : TilePlan) (plan : IsPlan p) where
  -- a plan has a tile
  pub some_plan : 1 ≤ tile_count p
  some_plan = let a = plan-tiles p plan in let b = tiles-some (grid_tree (grid_of p)) in omega (arith, a, b)

  -- no arrival is at word 0, and each is at a word
  pub door_some : (i : ℕ) → IsPart p i → 1 ≤ door p i
  door_some i h = let m = has_parent p i plan h in let merge = m.merge in omega arith

  pub some_tile : (i : ℕ) → IsPart p i → 1 ≤ tile_count p
  some_tile i h = omega arith

  pub toll_some : (i : ℕ) → IsPart p i → 1 ≤ toll p i
  toll_some i h = some_toll (side p i)

  pub toll_two : (i : ℕ) → IsPart p i → toll p i ≤ 2
  toll_two i h = most_toll (side p i)

  pub door_root : 1 ≤ tile_count p → door p (root p) ≡ tile_count p
  door_root n = let m = has_parent p (root p) plan (omega arith) in let e = (m.of_root refl).0 in omega arith

  pub door_inner : (i : ℕ) → IsPart p i → i ≢ root p → door p i < tile_count p
  door_inner i h ne = let m = has_parent p i plan h in let e = (m.inner ne).within in let merge = m.merge in omega arith

  pub parent_inner : (i : ℕ) → IsPart p i → i ≢ root p → IsPart p (parent p i)
  parent_inner i h ne = ((has_parent p i plan h).inner ne).within

  pub parent_merge : (i : ℕ) → IsPart p i → tile_count p ≤ parent p i
  parent_merge i h = (has_parent p i plan h).merge

  pub parent_later : (i : ℕ) → IsPart p i → i < parent p i
  parent_later i h = (has_parent p i plan h).later

  -- two words of merges are one only for one merge
  pub one_word : (m n : ℕ) → tile_count p ≤ m → tile_count p ≤ n → word_of p m ≡ word_of p n → m ≡ n
  one_word m n a b e = omega arith

  same_parent : (i j : ℕ) → IsPart p i → IsPart p j → door p i ≡ door p j → parent p i ≡ parent p j
  same_parent i j a b e = one_word (parent p i) (parent p j) (parent_merge i a) (parent_merge j b) e

  pub door_of_root : (i : ℕ) → IsPart p i → door p (root p) ≡ door p i → i ≡ root p
  door_of_root i h e = elim (cases_eq i (root p)) [
    | inl same ↦ same
    | inr ne ↦ absurd (let at = door_root (some_tile i h) in let low = door_inner i h ne in omega arith)
  ]

  pub inner_with : (i j : ℕ) → IsPart p i → IsPart p j → door p i ≡ door p j → i ≢ root p → j ≢ root p
  inner_with i j a b e ne = λ r. ne (door_of_root i a (subst (λ (k : ℕ). door p k ≡ door p i) r (sym e)))

  -- parts of one word are one, where they have one toll
  pub one_part : (i j : ℕ) → IsPart p i → IsPart p j → door p i ≡ door p j → toll p i ≡ toll p j → i ≡ j
  one_part i j a b e w = elim (cases_eq i (root p)) [
    | inl same ↦ same ∙ sym (door_of_root j b (subst (λ (k : ℕ). door p k ≡ door p j) same e))
    | inr ne ↦ (let hi = ((has_parent p i plan a).inner ne).half in let hj = ((has_parent p j plan b).inner (inner_with i j a b e ne)).half in
        sym hi ∙ ap (λ (m : ℕ). half_on p m (side p i)) (same_parent i j a b e) ∙ ap (half_on p (parent p j)) (same_toll (side p i) (side p j) w) ∙ hj)
  ]

  -- parts of one word are one part, or the two halves of a merge
  pub same_door : (i j : ℕ) → IsPart p i → IsPart p j → door p i ≡ door p j → (i ≡ j) ⊎ (toll p i + toll p j ≡ 3)
  same_door i j a b e = elim (cases_eq (toll p i) (toll p j)) [
    | inl same ↦ inl (one_part i j a b e same)
    | inr ne ↦ inr (let s = toll_some i a in let t = toll_two i a in let u = toll_some j b in let v = toll_two j b in omega arith)
  ]

  -- the sibling: another part of the same word
  pub sibling_part : (i : ℕ) → IsPart p i → i ≢ root p → IsPart p (sibling p i)
  sibling_part i h ne = ((has_parent p i plan h).inner ne).sibling_within

  pub sibling_door : (i : ℕ) → IsPart p i → i ≢ root p → door p (sibling p i) ≡ door p i
  sibling_door i h ne = ap (λ (m : ℕ). m + 1 - tile_count p) (((has_parent p i plan h).inner ne).sibling_parent)

  pub sibling_toll : (i : ℕ) → IsPart p i → i ≢ root p → toll p (sibling p i) + toll p i ≡ 3
  sibling_toll i h ne = ap (λ (on : Side). toll_of on + toll p i) ((has_parent p i plan h).inner ne).sibling_side ∙ both_tolls (side p i)
