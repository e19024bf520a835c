-- Going down a tree of merges: what stands in the half that is taken.
use Rattle.std.proofs.Common.{◌≡◌, ℕ, ◌+◌, ◌-◌, ◌<◌, ◌≤◌, true, false, refl, sym, ◌∙◌, arith}
use Rattle.std.specs.Prelude.{◌==◌, nat_lt, nat_le}
use Rattle.std.proofs.lemmas.Bool.{eq-eqb}
use Rattle.std.proofs.lemmas.Bool.Decides.{nat_tests}
use Rattle.tile_plan.specs.Merges.{MergeTree, Tile, Merge, IsCut, tiles, merges}
use Rattle.tile_plan.specs.Sites.{part_number, left_site, right_site, is_left, find}
use Rattle.tile_plan.specs.Grids.{IsGridTree, AreHalves, row_of_part, lot_number}
use Rattle.tile_plan.specs.declared.site.Grid.{Grid}
use Rattle.tile_plan.specs.declared.site.Site.{Site}
use Rattle.tile_plan.specs.declared.site.Side.TheVariants as sides
use Rattle.tile_plan.specs.declared.site.Row.{Row}
use Rattle.tile_plan.proofs.Cuts.{tiles-merges, tree_of_one}

-- tests of numbers, from what they mean
pub lt-true : (a b : ℕ) → a < b → nat_lt a b ≡ true
lt-true a b h = grind (arith, nat_tests)

pub lt-false : (a b : ℕ) → b ≤ a → nat_lt a b ≡ false
lt-false a b h = grind (arith, nat_tests)

pub le-true : (a b : ℕ) → a ≤ b → nat_le a b ≡ true
le-true a b h = grind (arith, nat_tests)

pub eq-false : (a b : ℕ) → (a ≡ b → ⊥) → (a == b) ≡ false
eq-false a b h = grind (arith, nat_tests)

-- a merge is in the left half by the tiles there
pub is_left-merge : (n first p : ℕ) (x : MergeTree) (s : Site) → tiles x ≡ first → n ≤ p → nat_lt p (n + s.first_merge + (first - 1)) ≡ is_left n x s p
is_left-merge n first p x s e h =
    let m = tiles-merges x in
    let same : first - 1 ≡ merges x = omega (arith, m) in
    rw (lt-false p n h, same) refl

-- the site of a right half by the tiles of both
pub right_site-is : (n own first second : ℕ) (x y : MergeTree) (s r : Site)
    → own ≡ n + s.first_merge + merges x + merges y → first ≡ tiles x → second ≡ tiles y
    → r ≡ record { first_tile = s.first_tile + first; first_merge = s.first_merge + (first - 1); parent = own; side = sides.Right; room = second }
    → r ≡ right_site n x y s
right_site-is n own first second x y s r e1 e2 e3 e =
    let m = tiles-merges x in
    let same : first - 1 ≡ merges x = omega (arith, m) in
    rw (e, same, e1, e2, e3) refl

-- the row of a tile
pub find-one : (n c r k p : ℕ) (t : MergeTree) (s : Site) → IsCut c r t → k ≡ tiles t → k ≡ 1
    → ◌≡◌ {A = Row} (record { site = s; tiles = k; left = 0; right = 0 }) (row_of_part n (find n t s p))
find-one n c r k p t s h e one = rw (tree_of_one c r t h (sym e ∙ one), one) refl

-- what is kept of the halves of a merge: their sites, by the number of the merge and the tiles of both
pub record Halved (n own first second : ℕ) (a b : Grid) (s l r : Site) : Type 0 where
  pub left : l ≡ record { first_tile = s.first_tile; first_merge = s.first_merge; parent = own; side = sides.Left; room = s.room }
  pub right : r ≡ record { first_tile = s.first_tile + first; first_merge = s.first_merge + (first - 1); parent = own; side = sides.Right; room = second }
  pub first_tiles : (x : MergeTree) → IsGridTree a x → first ≡ tiles x
  pub second_tiles : (y : MergeTree) → IsGridTree b y → second ≡ tiles y

-- the row of a merge itself
pub find-own : (n own first second k p i j : ℕ) (t : MergeTree) (a b : Grid) (s l r : Site) → AreHalves t a b → own ≡ part_number n t s → Halved n own first second a b s l r → k ≡ tiles t → p ≡ own
    → ((x : MergeTree) → IsGridTree a x → i ≡ part_number n x l) → ((y : MergeTree) → IsGridTree b y → j ≡ part_number n y r)
    → ◌≡◌ {A = Row} (record { site = s; tiles = k; left = i; right = j }) (row_of_part n (find n t s p))
find-own n own first second k p i j Tile a b s l r halves e h count at li rj = absurd halves
find-own n own first second k p i j (Merge by c x y) a b s l r halves e h count at li rj =
    let el : l ≡ left_site n x y s = h.left ∙ rw e refl in
    let er : r ≡ right_site n x y s = right_site-is n own first second x y s r e (h.first_tiles x halves.0) (h.second_tiles y halves.1) h.right in
    rw (eq-eqb p (n + s.first_merge + merges x + merges y) (at ∙ e), li x halves.0, rj y halves.1, el, er, count) refl

-- the row of a part in the right half of a merge
pub find-right : (n own first second p : ℕ) (t : MergeTree) (a b : Grid) (s l r : Site) (row : Row) → AreHalves t a b → own ≡ part_number n t s → Halved n own first second a b s l r → (p ≡ own → ⊥)
    → ((x : MergeTree) → tiles x ≡ first → is_left n x s p ≡ false) → ((y : MergeTree) → IsGridTree b y → row ≡ row_of_part n (find n y r p))
    → row ≡ row_of_part n (find n t s p)
find-right n own first second p Tile a b s l r row halves e h off right_one found = absurd halves
find-right n own first second p (Merge by c x y) a b s l r row halves e h off right_one found =
    let er : r ≡ right_site n x y s = right_site-is n own first second x y s r e (h.first_tiles x halves.0) (h.second_tiles y halves.1) h.right in
    rw (eq-false p (n + s.first_merge + merges x + merges y) (λ k. off (k ∙ sym e)), right_one x (sym (h.first_tiles x halves.0)), ← er) (found y halves.1)

-- an edge inside the right half of a merge is in a lot there
pub lot-right : (n own first second i j lot : ℕ) (t : MergeTree) (a b : Grid) (s l r : Site) → AreHalves t a b → own ≡ part_number n t s → Halved n own first second a b s l r
    → s.first_tile + first ≤ i → s.first_tile + first ≤ j → ((y : MergeTree) → IsGridTree b y → lot ≡ lot_number n y r i j)
    → lot ≡ lot_number n t s i j
lot-right n own first second i j lot Tile a b s l r halves e h hi hj found = absurd halves
lot-right n own first second i j lot (Merge by c x y) a b s l r halves e h hi hj found =
    let er : r ≡ right_site n x y s = right_site-is n own first second x y s r e (h.first_tiles x halves.0) (h.second_tiles y halves.1) h.right in
    let count : first ≡ tiles x = h.first_tiles x halves.0 in
    rw (lt-false i (s.first_tile + tiles x) (omega arith), le-true (s.first_tile + tiles x) i (omega arith), le-true (s.first_tile + tiles x) j (omega arith), ← er) (found y halves.1)

-- an edge inside one tile is in its lot
pub lot-one : (n c r i j : ℕ) {own : ℕ} (t : MergeTree) (s : Site) → tiles t ≡ 1 → IsCut c r t → own ≡ part_number n t s → own ≡ lot_number n t s i j
lot-one n c r i j {own} t s one h e = let same : t ≡ Tile = tree_of_one c r t h one in e ∙ rw same refl
