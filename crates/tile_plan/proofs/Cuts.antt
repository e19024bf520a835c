-- Trees of merges: how many tiles and merges they have, and which grid is cut into which.
use Rattle.std.proofs.Common.{◌≡◌, ℕ, ◌+◌, ◌-◌, ◌*◌, ◌≤◌, true, false, refl, sym, ◌∙◌, ap, arith}
use Rattle.tile_plan.specs.Merges.{MergeTree, Tile, Merge, half, IsCut, tiles, merges}
use Rattle.tile_plan.specs.declared.site.Site.{Site}
use Rattle.tile_plan.specs.Sites.{part_number}

-- the tiles of two halves of a rectangle
pub columns_sum : (c k r : ℕ) → k ≤ c → k * r + (c - k) * r ≡ c * r
columns_sum c k r h =
    let e : c ≡ k + (c - k) = omega arith in
    sym (ap (λ (z : ℕ). z * r) e ∙ omega arith)

pub rows_sum : (c k r : ℕ) → k ≤ r → c * k + c * (r - k) ≡ c * r
rows_sum c k r h =
    let e : r ≡ k + (r - k) = omega arith in
    sym (ap (λ (z : ℕ). c * z) e ∙ omega arith)

-- the tree of a rectangle has a tile for each place in it
pub tiles-cut : (c r : ℕ) (t : MergeTree) → IsCut c r t → tiles t ≡ c * r
tiles-cut c r Tile h = let hc : c ≡ 1 = h.0 in let hr : r ≡ 1 = h.1 in rw (hc, hr) refl
tiles-cut c r (Merge true k x y) h =
    let a = tiles-cut (half c) r x h.1.0 in
    let b = tiles-cut (c - half c) r y h.1.1 in
    let below : half c ≤ c = omega arith in
    let e = columns_sum c (half c) r below in
    omega (arith, a, b, e)
tiles-cut c r (Merge false k x y) h =
    let a = tiles-cut c (half r) x h.1.0 in
    let b = tiles-cut c (r - half r) y h.1.1 in
    let below : half r ≤ r = omega arith in
    let e = rows_sum c (half r) r below in
    omega (arith, a, b, e)

-- there is one tile more than there are merges
pub tiles-merges : (t : MergeTree) → tiles t ≡ merges t + 1
tiles-merges Tile = refl
tiles-merges (Merge by k x y) = let a = tiles-merges x in let b = tiles-merges y in omega (arith, a, b)

pub tiles-some : (t : MergeTree) → 1 ≤ tiles t
tiles-some t = let a = tiles-merges t in omega (arith, a)

-- a grid of one tile has the tree of one tile
pub tree_of_one : (c r : ℕ) (t : MergeTree) → IsCut c r t → tiles t ≡ 1 → t ≡ Tile
tree_of_one c r Tile h one = refl
tree_of_one c r (Merge by k x y) h one = absurd (let a = tiles-some x in let b = tiles-some y in omega (arith, a, b))

-- the number of a part by the tiles in it
pub number-one : (n c r : ℕ) (t : MergeTree) (s : Site) → IsCut c r t → tiles t ≡ 1 → s.first_tile ≡ part_number n t s
number-one n c r Tile s h one = refl
number-one n c r (Merge by k x y) s h one = absurd (let a = tiles-some x in let b = tiles-some y in omega (arith, a, b))

pub number-merge : (n count : ℕ) (t : MergeTree) (s : Site) → count ≡ tiles t → (count ≡ 1 → ⊥) → n + s.first_merge + count - 2 ≡ part_number n t s
number-merge n count Tile s e more = absurd (more e)
number-merge n count (Merge by k x y) s e more = let a = tiles-merges x in let b = tiles-merges y in omega (arith, a, b)
