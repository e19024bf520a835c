-- The laws of parents and halves, over a whole plan.
use Rattle.std.proofs.Common.{◌≡◌, ◌≢◌, ℕ, ◌+◌, ◌-◌, ◌*◌, ◌<◌, ◌≤◌, Bool, inl, inr, refl, sym, ◌∙◌, subst, ap, arith}
use Rattle.std.proofs.lemmas.Bool.{cases_lt, cases_eq}
use Rattle.tile_plan.specs.Merges.{MergeTree, Tile, Merge, tiles, merges}
use Rattle.tile_plan.specs.Sites.{SitedPart, other_side, part_number, left_site, right_site, find, left_number, right_number}
use Rattle.tile_plan.specs.Grids.{grid_tree, root_of, part_in}
use Rattle.tile_plan.specs.declared.site.Site.{Site}
use Rattle.tile_plan.specs.declared.site.Side.{Side}
use Rattle.tile_plan.specs.declared.site.Side.TheVariants as sides
use Rattle.tile_plan.specs.Plan.{TilePlan, IsPlan, grid_of, tile_count, part, part_count, root, first_tile, tiles_of, left, right, parent, side, half_on, sibling, start}
use Rattle.tile_plan.specs.Laws as laws
use Rattle.tile_plan.proofs.Cuts.{tiles-merges, tiles-some}
use Rattle.tile_plan.proofs.Laying.{grid_tree-tiles, grid-columns, grid-rows}
use Rattle.tile_plan.proofs.Parts.{Has, IsFound, HalfOf, found, find-self, left-found, right-found, half_of_some, own}

-- the part of number i, where it is found in the tree of the plan
abbrev pub IsPart : TilePlan → ℕ → SitedPart → Type 0
IsPart p i q = IsFound (tile_count p) (grid_tree (grid_of p)) (root_of (tile_count p)) i q

-- how many tiles and merges the tree has
pub plan-tiles : (p : TilePlan) → IsPlan p → tiles (grid_tree (grid_of p)) ≡ tile_count p
plan-tiles p h = grid_tree-tiles (grid_of p) (grid-columns p.frame h.frame) (grid-rows p.frame h.frame)

pub plan-has : (p : TilePlan) (i : ℕ) → IsPlan p → i < part_count p → Has (tile_count p) (grid_tree (grid_of p)) (root_of (tile_count p)) i
plan-has p i h l =
    let count = plan-tiles p h in let m = tiles-merges (grid_tree (grid_of p)) in
    record { tile_low = λ z. omega arith; tile_high = λ z. omega (arith, count); merge_low = λ z. omega arith; merge_high = λ z. omega (arith, count, m) }

-- where there is such a part, its number is below the count
pub has-below : (p : TilePlan) (i : ℕ) → IsPlan p → Has (tile_count p) (grid_tree (grid_of p)) (root_of (tile_count p)) i → i < part_count p
has-below p i h has =
    let count = plan-tiles p h in let m = tiles-merges (grid_tree (grid_of p)) in let some = tiles-some (grid_tree (grid_of p)) in
    elim (cases_lt i (tile_count p)) [
      | inl tile ↦ omega (arith, count, some)
      | inr merge ↦ (let high = has.merge_high merge in omega (arith, count, m))
    ]

pub is_part : (p : TilePlan) (i : ℕ) → IsPlan p → i < part_count p → IsPart p i (part p i)
unfolding part part_in
is_part p i h l =
    let count = plan-tiles p h in
    found (tile_count p) (grid_tree (grid_of p)) (root_of (tile_count p)) i (omega (arith, count)) (omega (arith, count)) (plan-has p i h l)

-- the tiles of a part are tiles of the plan
pub part-fits : (p : TilePlan) (i : ℕ) (q : SitedPart) → IsPlan p → IsPart p i q → q.site.first_tile + tiles q.tree ≤ tile_count p
part-fits p i q h f = let count = plan-tiles p h in let high = f.within.tile_high in omega (arith, count, high)

-- merges are numbered before no more tiles than there are
pub part-merges : (p : TilePlan) (i : ℕ) (q : SitedPart) → IsPlan p → IsPart p i q → q.site.first_merge + merges q.tree < tile_count p
part-merges p i q h f =
    let count = plan-tiles p h in let m = tiles-merges (grid_tree (grid_of p)) in let high = f.within.merge_high in omega (arith, count, m, high)

-- the halves of a merge among the parts of the plan
pub left-part : (p : TilePlan) (i : ℕ) (by : Bool) (k : ℕ) (x y : MergeTree) (s : Site) → IsPlan p → IsPart p i (record { tree = Merge by k x y; site = s })
    → part p (part_number (tile_count p) x (left_site (tile_count p) x y s)) ≡ record { tree = x; site = left_site (tile_count p) x y s }
unfolding part part_in
left-part p i by k x y s h f = left-found (tile_count p) (grid_tree (grid_of p)) (root_of (tile_count p)) i by k x y s f (part-fits p i (record { tree = Merge by k x y; site = s }) h f)

pub right-part : (p : TilePlan) (i : ℕ) (by : Bool) (k : ℕ) (x y : MergeTree) (s : Site) → IsPlan p → IsPart p i (record { tree = Merge by k x y; site = s })
    → part p (part_number (tile_count p) y (right_site (tile_count p) x y s)) ≡ record { tree = y; site = right_site (tile_count p) x y s }
unfolding part part_in
right-part p i by k x y s h f = right-found (tile_count p) (grid_tree (grid_of p)) (root_of (tile_count p)) i by k x y s f (part-fits p i (record { tree = Merge by k x y; site = s }) h f)

-- a merge among the parts: its tree and site
pub record IsMergeAt (p : TilePlan) (m : ℕ) : Type 0 where
  pub by : Bool
  pub k : ℕ
  pub x : MergeTree
  pub y : MergeTree
  pub s : Site
  pub is : part p m ≡ record { tree = Merge by k x y; site = s }

pub merge-at : (p : TilePlan) (m : ℕ) → IsPlan p → tile_count p ≤ m → m < part_count p → IsMergeAt p m
merge-at p m h low high = by_tree (part p m) refl (is_part p m h high)
  where
    by_tree : (q : SitedPart) → part p m ≡ q → IsPart p m q → IsMergeAt p m
    by_tree q e f = of_tree q.tree q.site e f
      where
        of_tree : (t : MergeTree) (s : Site) → part p m ≡ record { tree = t; site = s } → IsPart p m (record { tree = t; site = s }) → IsMergeAt p m
        of_tree Tile s e f = absurd (let fits = part-fits p m (record { tree = Tile; site = s }) h f in let at : s.first_tile ≡ m = f.number in omega (arith, fits, at))
        of_tree (Merge by k x y) s e f = record { by = by; k = k; x = x; y = y; s = s; is = e }

-- a number is one of the part's
number-below : (n : ℕ) (t : MergeTree) (s : Site) → s.first_tile + tiles t ≤ n → part_number n t s < n + s.first_merge + merges t
number-below n Tile s fits = omega arith
number-below n (Merge by k x y) s fits = omega arith

-- a merge with its halves
pub record HalvesAt (p : TilePlan) (m : ℕ) : Type 0 where
  pub at : IsMergeAt p m
  pub fits : at.s.first_tile + tiles at.x + tiles at.y ≤ tile_count p
  pub own_is : own (tile_count p) at.x at.y at.s ≡ m
  pub left_is : left p m ≡ part_number (tile_count p) at.x (left_site (tile_count p) at.x at.y at.s)
  pub right_is : right p m ≡ part_number (tile_count p) at.y (right_site (tile_count p) at.x at.y at.s)
  pub left_part : part p (left p m) ≡ record { tree = at.x; site = left_site (tile_count p) at.x at.y at.s }
  pub right_part : part p (right p m) ≡ record { tree = at.y; site = right_site (tile_count p) at.x at.y at.s }

pub halves-at : (p : TilePlan) (m : ℕ) → IsPlan p → tile_count p ≤ m → m < part_count p → HalvesAt p m
halves-at p m h low high =
    let a = merge-at p m h low high in
    let q : SitedPart = record { tree = Merge a.by a.k a.x a.y; site = a.s } in
    let f : IsPart p m q = subst (IsPart p m) a.is (is_part p m h high) in
    let l : left p m ≡ part_number (tile_count p) a.x (left_site (tile_count p) a.x a.y a.s) = ap (λ (z : SitedPart). left_number (tile_count p) z.tree z.site) a.is in
    let r : right p m ≡ part_number (tile_count p) a.y (right_site (tile_count p) a.x a.y a.s) = ap (λ (z : SitedPart). right_number (tile_count p) z.tree z.site) a.is in
    record {
      at = a;
      fits = (let fits = part-fits p m q h f in omega (arith, fits));
      own_is = f.number;
      left_is = l;
      right_is = r;
      left_part = ap (part p) l ∙ left-part p m a.by a.k a.x a.y a.s h f;
      right_part = ap (part p) r ∙ right-part p m a.by a.k a.x a.y a.s h f;
    }

pub has_halves : (p : TilePlan) (m : ℕ) → IsPlan p → tile_count p ≤ m → m < part_count p → laws.HasHalves p m
has_halves p m h low high =
    let v = halves-at p m h low high in
    let a = v.at in
    let my = tiles-some a.y in
    let first : first_tile p m ≡ a.s.first_tile = ap (λ (z : SitedPart). z.site.first_tile) a.is in
    let all : tiles_of p m ≡ tiles a.x + tiles a.y = ap (λ (z : SitedPart). tiles z.tree) a.is in
    let l_first : first_tile p (left p m) ≡ a.s.first_tile = ap (λ (z : SitedPart). z.site.first_tile) v.left_part in
    let r_first : first_tile p (right p m) ≡ a.s.first_tile + tiles a.x = ap (λ (z : SitedPart). z.site.first_tile) v.right_part in
    let l_tiles : tiles_of p (left p m) ≡ tiles a.x = ap (λ (z : SitedPart). tiles z.tree) v.left_part in
    let r_tiles : tiles_of p (right p m) ≡ tiles a.y = ap (λ (z : SitedPart). tiles z.tree) v.right_part in
    let l_low = number-below (tile_count p) a.x (left_site (tile_count p) a.x a.y a.s) (let fits = v.fits in omega arith) in
    let r_low = number-below (tile_count p) a.y (right_site (tile_count p) a.x a.y a.s) (let fits = v.fits in omega arith) in
    let own_is = v.own_is in
    let l_is = v.left_is in
    let r_is = v.right_is in
    record {
      left_half = record {
        below = omega (arith, l_is, l_low, own_is);
        parent_is = ap (λ (z : SitedPart). z.site.parent) v.left_part ∙ own_is;
        side_is = ap (λ (z : SitedPart). z.site.side) v.left_part;
      };
      right_half = record {
        below = omega (arith, r_is, r_low, own_is);
        parent_is = ap (λ (z : SitedPart). z.site.parent) v.right_part ∙ own_is;
        side_is = ap (λ (z : SitedPart). z.site.side) v.right_part;
      };
      tiles = record {
        left_first = l_first ∙ sym first;
        right_first = omega (arith, r_first, first, l_tiles);
        sum = omega (arith, l_tiles, r_tiles, all);
      };
      places = record {
        left_first = ap (start p) (l_first ∙ sym first);
        right_first = ap (start p) (omega (arith, r_first, l_first, l_tiles));
        right_end = ap (start p) (omega (arith, r_first, first, all, r_tiles));
      };
    }

-- the number of the last part
root-number : (n : ℕ) (t : MergeTree) (s : Site) → s.first_tile ≡ 0 → s.first_merge ≡ 0 → tiles t ≡ n → part_number n t s ≡ 2 * n - 2
root-number n Tile s a b e = omega (arith, a, e)
root-number n (Merge by k x y) s a b e = let mx = tiles-merges x in let my = tiles-merges y in omega (arith, b, e, mx, my)

pub root-is : (p : TilePlan) → IsPlan p → part_number (tile_count p) (grid_tree (grid_of p)) (root_of (tile_count p)) ≡ root p
root-is p h = root-number (tile_count p) (grid_tree (grid_of p)) (root_of (tile_count p)) refl refl (plan-tiles p h)

pub root-part : (p : TilePlan) → IsPlan p → part p (root p) ≡ record { tree = grid_tree (grid_of p); site = root_of (tile_count p) }
unfolding part part_in
root-part p h = ap (find (tile_count p) (grid_tree (grid_of p)) (root_of (tile_count p))) (sym (root-is p h)) ∙ find-self (tile_count p) (grid_tree (grid_of p)) (root_of (tile_count p))

plan-some : (p : TilePlan) → IsPlan p → 1 ≤ tile_count p
plan-some p h = let count = plan-tiles p h in let some = tiles-some (grid_tree (grid_of p)) in omega (arith, count, some)

root-parent : (p : TilePlan) → IsPlan p → laws.HasParentAndSide p (root p)
root-parent p h =
    let is = root-part p h in
    let some = plan-some p h in
    let m : parent p (root p) ≡ 2 * tile_count p - 1 = ap (λ (z : SitedPart). z.site.parent) is in
    record {
      later = omega (arith, m, some);
      merge = omega (arith, m, some);
      inner = λ off. absurd (off refl);
      of_root = λ e. (m, ap (λ (z : SitedPart). z.site.side) is);
    }

-- a part that is the half of m on a side, and the half on the other side
half-parent : (p : TilePlan) (i m other : ℕ) (on : Side) → m < part_count p → tile_count p ≤ m → i ≢ root p → laws.IsHalfOn p m on i → laws.IsHalfOn p m (other_side on) other
    → half_on p m on ≡ i → half_on p m (other_side on) ≡ other → laws.HasParentAndSide p i
half-parent p i m other on high low off half beside is that =
    let below = half.below in
    let other_below = beside.below in
    let up : parent p i ≡ m = half.parent_is in
    let side_is : side p i ≡ on = half.side_is in
    let sib : sibling p i ≡ other = ap (λ (k : ℕ). half_on p k (other_side (side p i))) up ∙ ap (λ (z : Side). half_on p m (other_side z)) side_is ∙ that in
    record {
      later = omega (arith, up, below);
      merge = omega (arith, up, low);
      inner = λ o. record {
        within = omega (arith, up, high);
        half = ap (λ (k : ℕ). half_on p k (side p i)) up ∙ ap (half_on p m) side_is ∙ is;
        sibling_within = omega (arith, sib, other_below, high);
        sibling_parent = ap (parent p) sib ∙ beside.parent_is ∙ sym up;
        sibling_side = ap (side p) sib ∙ beside.side_is ∙ ap other_side (sym side_is);
      };
      of_root = λ e. absurd (off e);
    }

-- the halves by number
left-parent : (p : TilePlan) (i m : ℕ) → IsPlan p → tile_count p ≤ m → m < part_count p → i ≢ root p → left p m ≡ i → laws.HasParentAndSide p i
left-parent p i m h low high off e =
    let v = has_halves p m h low high in
    half-parent p i m (right p m) sides.Left high low off (subst (laws.IsHalfOn p m sides.Left) e v.left_half) v.right_half e refl

right-parent : (p : TilePlan) (i m : ℕ) → IsPlan p → tile_count p ≤ m → m < part_count p → i ≢ root p → right p m ≡ i → laws.HasParentAndSide p i
right-parent p i m h low high off e =
    let v = has_halves p m h low high in
    half-parent p i m (left p m) sides.Right high low off (subst (laws.IsHalfOn p m sides.Right) e v.right_half) v.left_half e refl

-- a half of a part that is a merge
halved : (p : TilePlan) (i m : ℕ) (q : SitedPart) → IsPlan p → m < part_count p → i < part_count p → i ≢ root p → part p m ≡ q → IsPart p m q → HalfOf (tile_count p) q.tree q.site (part p i) → laws.HasParentAndSide p i
halved p i m q h lm li off e f half = by_tree q.tree q.site e f half
  where
    by_tree : (t : MergeTree) (s : Site) → part p m ≡ record { tree = t; site = s } → IsPart p m (record { tree = t; site = s }) → HalfOf (tile_count p) t s (part p i) → laws.HasParentAndSide p i
    by_tree Tile s e f half = absurd half
    by_tree (Merge by k x y) s e f (inl half) =
        let fi = is_part p i h li in
        let num : part_number (tile_count p) x (left_site (tile_count p) x y s) ≡ i = subst (λ (z : SitedPart). part_number (tile_count p) z.tree z.site ≡ i) half fi.number in
        let is : left p m ≡ i = ap (λ (z : SitedPart). left_number (tile_count p) z.tree z.site) e ∙ num in
        left-parent p i m h (let at : own (tile_count p) x y s ≡ m = f.number in omega (arith, at)) lm off is
    by_tree (Merge by k x y) s e f (inr half) =
        let fi = is_part p i h li in
        let num : part_number (tile_count p) y (right_site (tile_count p) x y s) ≡ i = subst (λ (z : SitedPart). part_number (tile_count p) z.tree z.site ≡ i) half fi.number in
        let is : right p m ≡ i = ap (λ (z : SitedPart). right_number (tile_count p) z.tree z.site) e ∙ num in
        right-parent p i m h (let at : own (tile_count p) x y s ≡ m = f.number in omega (arith, at)) lm off is

inner_parent : (p : TilePlan) (i : ℕ) → IsPlan p → i < part_count p → i ≢ root p → laws.HasParentAndSide p i
unfolding part part_in
inner_parent p i h l off =
    let count = plan-tiles p h in
    let m = half_of_some (tile_count p) (grid_tree (grid_of p)) (root_of (tile_count p)) i (omega (arith, count)) (plan-has p i h l) (λ e. off (e ∙ root-is p h)) in
    let lm = has-below p m.at h m.has in
    halved p i m.at (part p m.at) h lm l off refl (is_part p m.at h lm) m.half

pub has_parent : (p : TilePlan) (i : ℕ) → IsPlan p → i < part_count p → laws.HasParentAndSide p i
has_parent p i h l =
    elim (cases_eq i (root p)) [
      | inl level ↦ subst (laws.HasParentAndSide p) (sym level) (root-parent p h)
      | inr off ↦ inner_parent p i h l off
    ]
