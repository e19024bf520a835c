-- The points of a contour map.
use Rattle.std.proofs.Common.{◌≡◌, ℕ, suc, ◌+◌, ◌-◌, ◌*◌, ◌/◌, ◌%◌, ◌<◌, ◌≤◌, List, [], ◌∷◌, ◌++◌, map, refl, sym, ap, ◌∙◌, arith}
use Rattle.std.specs.Prelude.{max}
use Rattle.std.specs.List.{range_with_len}
use Rattle.std.proofs.lemmas.List.FromFn.{get_or-map-range_with_len, length-map-range_with_len, map-range_with_len_more}
use Rattle.std.proofs.lemmas.Nat.{div-mul-add, mod-mul-add}
use Rattle.std.proofs.Math.Nat.{mul_comm, mul-le-mul_right, suc-mul}
use Rattle.contour_map.specs.Places.{AreEdgeValues, right_edge, below_edge}
use Rattle.contour_map.specs.Contours.{IsContourMap, contour_map, point_at, point_value, right_value, below_value, corner_value}
use Rattle.contour_map.proofs.EdgeNumbers.{right-joins, below-joins}

-- the point in column x and row y
point-is : (w h : ℕ) (values : List ℕ) (x y : ℕ) → x < 2 * w - 1 → y < 2 * h - 1 → point_at (contour_map w h values) x y ≡ point_value w h values x y
point-is w h values x y column row =
    let c = 2 * w - 1 in
    let rows : suc y * c ≤ (2 * h - 1) * c = mul-le-mul_right c (omega (arith, row)) in
    let low : y * c + x < c * (2 * h - 1) = omega (arith, rows, suc-mul y c, mul_comm c (2 * h - 1), column) in
    get_or-map-range_with_len (λ i. point_value w h values (i % c) (i / c)) 0 (c * (2 * h - 1)) (y * c + x) (y * c + x) 0 low (omega arith)
    ∙ ap (λ (k : ℕ). point_value w h values k ((y * c + x) / c)) (mod-mul-add y c x column)
    ∙ ap (λ (k : ℕ). point_value w h values x k) (div-mul-add y c x column)

even : (x : ℕ) → (2 * x) % 2 ≡ 0
even x = omega arith

odd : (x : ℕ) → (2 * x + 1) % 2 ≡ 1
odd x = omega arith

half-even : (x : ℕ) → (2 * x) / 2 ≡ x
half-even x = omega arith

half-odd : (x : ℕ) → (2 * x + 1) / 2 ≡ x
half-odd x = omega arith

pixel-value : (w h : ℕ) (values : List ℕ) (x y : ℕ) → point_value w h values (2 * x) (2 * y) ≡ 0
pixel-value w h values x y = rw (even x, even y) refl

below-place : (w h : ℕ) (values : List ℕ) (x y : ℕ) → point_value w h values (2 * x) (2 * y + 1) ≡ below_value w values x y
below-place w h values x y = rw (even x, odd y, half-even x, half-odd y) refl

right-place : (w h : ℕ) (values : List ℕ) (x y : ℕ) → point_value w h values (2 * x + 1) (2 * y) ≡ right_value w h values x y
right-place w h values x y = rw (odd x, even y, half-odd x, half-even y) refl

corner-place : (w h : ℕ) (values : List ℕ) (x y : ℕ) → point_value w h values (2 * x + 1) (2 * y + 1) ≡ corner_value w h values x y
corner-place w h values x y = rw (odd x, odd y, half-odd x, half-odd y) refl

right-point : (w h : ℕ) (values : List ℕ) (x y : ℕ) → x + 1 < w → y < h → point_at (contour_map w h values) (2 * x + 1) (2 * y) ≡ right_value w h values x y
right-point w h values x y column row = point-is w h values (2 * x + 1) (2 * y) (omega (arith, column)) (omega (arith, row)) ∙ right-place w h values x y

below-point : (w h : ℕ) (values : List ℕ) (x y : ℕ) → x < w → y + 1 < h → point_at (contour_map w h values) (2 * x) (2 * y + 1) ≡ below_value w values x y
below-point w h values x y column row = point-is w h values (2 * x) (2 * y + 1) (omega (arith, column)) (omega (arith, row)) ∙ below-place w h values x y

corner-point : (w h : ℕ) (values : List ℕ) (x y : ℕ) → x + 1 < w → y + 1 < h →
    point_at (contour_map w h values) (2 * x + 1) (2 * y + 1)
    ≡ max (max (point_at (contour_map w h values) (2 * x + 1) (2 * y)) (point_at (contour_map w h values) (2 * x + 1) (2 * y + 2)))
    (max (point_at (contour_map w h values) (2 * x) (2 * y + 1)) (point_at (contour_map w h values) (2 * x + 2) (2 * y + 1)))
corner-point w h values x y column row =
    let m = contour_map w h values in
    let lower : point_at m (2 * x + 1) (2 * y + 2) ≡ right_value w h values x (y + 1) =
    (let next : 2 * y + 2 ≡ 2 * (y + 1) = omega arith in ap (λ (k : ℕ). point_at m (2 * x + 1) k) next ∙ right-point w h values x (y + 1) column row) in
    let further : point_at m (2 * x + 2) (2 * y + 1) ≡ below_value w values (x + 1) y =
    (let next : 2 * x + 2 ≡ 2 * (x + 1) = omega arith in ap (λ (k : ℕ). point_at m k (2 * y + 1)) next ∙ below-point w h values (x + 1) y column row) in
    point-is w h values (2 * x + 1) (2 * y + 1) (omega (arith, column)) (omega (arith, row)) ∙ corner-place w h values x y
    ∙ sym (
    ap (λ (k : ℕ). max (max k (point_at m (2 * x + 1) (2 * y + 2))) (max (point_at m (2 * x) (2 * y + 1)) (point_at m (2 * x + 2) (2 * y + 1)))) (right-point w h values x y column (omega (arith, row)))
    ∙ ap (λ (k : ℕ). max (max (right_value w h values x y) k) (max (point_at m (2 * x) (2 * y + 1)) (point_at m (2 * x + 2) (2 * y + 1)))) lower
    ∙ ap (λ (k : ℕ). max (max (right_value w h values x y) (right_value w h values x (y + 1))) (max k (point_at m (2 * x + 2) (2 * y + 1)))) (below-point w h values x y (omega (arith, column)) row)
    ∙ ap (λ (k : ℕ). max (max (right_value w h values x y) (right_value w h values x (y + 1))) (max (below_value w values x y) k)) further
    )

-- the map that is made point by point is the contour map
pub is_contour_map : (w h : ℕ) (values : List ℕ) → AreEdgeValues w h values → IsContourMap w h values (contour_map w h values)
is_contour_map w h values are = record {
  columns = refl;
  rows = refl;
  one_each = length-map-range_with_len (λ i. point_value w h values (i % (2 * w - 1)) (i / (2 * w - 1))) 0 ((2 * w - 1) * (2 * h - 1));
  pixels = λ x y column row. point-is w h values (2 * x) (2 * y) (omega (arith, column)) (omega (arith, row)) ∙ pixel-value w h values x y;
  right = λ x y column row. (right_edge w h x y, (right-joins w h x y column row, right-point w h values x y column row));
  below = λ x y column row. (below_edge w x y, (below-joins w h x y column row, below-point w h values x y column row));
  corners = corner-point w h values;
}

-- the grid has few points
pub few-points : (w h : ℕ) → 1 ≤ w → 1 ≤ h → w * h ≤ 1048576 → (2 * w - 1) * (2 * h - 1) ≤ 4194304
few-points w h some_width some_height pixels =
    let first : (2 * w - 1) * (2 * h - 1) ≤ (2 * w) * (2 * h - 1) = mul-le-mul_right (2 * h - 1) (omega arith) in
    let second : (2 * h - 1) * (2 * w) ≤ (2 * h) * (2 * w) = mul-le-mul_right (2 * w) (omega arith) in
    let all : (2 * h) * (2 * w) ≡ 4 * (w * h) = grind arith in
    omega (arith, first, second, all, mul_comm (2 * w) (2 * h - 1), pixels)

-- one more point
pub points-more : (f : ℕ → ℕ) (i value : ℕ) (old new : List ℕ) → old ≡ map f (range_with_len 0 i) → value ≡ f i → new ≡ old ++ value ∷ [] → new ≡ map f (range_with_len 0 (i + 1))
points-more f i value old new so_far is pushed =
    pushed ∙ ap (λ (xs : List ℕ). xs ++ value ∷ []) so_far ∙ ap (λ (v : ℕ). map f (range_with_len 0 i) ++ v ∷ []) is ∙ sym (map-range_with_len_more f 0 i i (omega arith))
