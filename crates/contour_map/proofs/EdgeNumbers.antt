-- The edge of each place, by its number.
use Rattle.std.proofs.Common.{◌≡◌, ℕ, zero, suc, ◌+◌, ◌-◌, ◌*◌, ◌/◌, ◌%◌, ◌<◌, ◌≤◌, true, List, [], ◌∷◌, ◌++◌, length, get_or, inl, inr, refl, sym, ap, ◌∙◌, subst, arith, append_assoc, add-zero, length-append}
use Rattle.std.specs.Prelude.{nat_lt, slice_get, Some}
use Rattle.std.specs.List.{flat_map, range_with_len}
use Rattle.std.proofs.lemmas.Bool.{cases_Bool, le-ltb, lt-ltb, ltb-true}
use Rattle.std.proofs.lemmas.Nat.{div-mul-add, mod-mul-add}
use Rattle.std.proofs.lemmas.Option.{slice_get-get_or}
use Rattle.std.proofs.Math.ListN.{get_or-append}
use Rattle.std.proofs.Math.Nat.{mul_comm, mul-le-mul_right, suc-mul, zero-mul}
use Rattle.std.proofs.Math.Seq.{get_or-append_seam}
use Rattle.pgm_reader.specs.Grid.{Link, right_of, below_of, links}
use Rattle.pgm_reader.proofs.Grids.{links_more}
use Rattle.contour_map.specs.Places.{AreEdgeValues, pixel_at, right_edge, below_edge}

-- the pairs of the first i pixels
abbrev before : ℕ → ℕ → ℕ → List Link
before w h i = flat_map (λ j. right_of w j ++ below_of w h j) (range_with_len 0 i)

-- the k-th of the pairs is l
abbrev pub Has : List Link → ℕ → Link → Type 0
Has xs k l = (k < length xs) × (get_or xs k l ≡ l)

Has-append : (xs ys : List Link) (k : ℕ) (l : Link) → Has xs k l → Has (xs ++ ys) k l
Has-append xs ys k l h = (omega (arith, length-append xs ys, h.0), get_or-append xs ys l k h.0 ∙ h.1)

Has-next : (xs ys : List Link) (l : Link) → Has (xs ++ l ∷ ys) (length xs) l
Has-next xs ys l = (omega (arith, length-append xs (l ∷ ys)), get_or-append_seam xs l ys l)

-- more pixels change none of the pairs before
Has-later : (w h i d k : ℕ) (l : Link) → Has (before w h i) k l → Has (before w h (i + d)) k l
Has-later w h i zero k l has = rw add-zero has
Has-later w h i (suc d) k l has =
    let one : i + suc d ≡ i + d + 1 = omega arith in
    let all = Has-append (before w h (i + d)) (right_of w (i + d) ++ below_of w h (i + d)) k l (Has-later w h i d k l has) in
    subst (λ (n : ℕ). Has (before w h n) k l) (sym one) (subst (λ (xs : List Link). Has xs k l) (sym (links_more w h (i + d))) all)

-- the pairs of a pixel: to the right in each column but the last, below in each row but the last
right-some : (w x y : ℕ) → x + 1 < w → right_of w (y * w + x) ≡ (y * w + x, y * w + x + 1) ∷ []
right-some w x y more =
    let column : (y * w + x) % w ≡ x = mod-mul-add y w x (omega (arith, more)) in
    let test : nat_lt ((y * w + x) % w + 1) w ≡ true = rw column (lt-ltb (x + 1) w more) in
    rw test refl

right-none : (w x y : ℕ) → x + 1 ≡ w → right_of w (y * w + x) ≡ []
right-none w x y last =
    let column : (y * w + x) % w ≡ x = mod-mul-add y w x (omega (arith, last)) in
    elim (cases_Bool (nat_lt ((y * w + x) % w + 1) w)) [
      | inl holds ↦ absurd (omega (arith, ltb-true _ _ holds, column, last))
      | inr fails ↦ rw fails refl
    ]

below-some : (w h x y : ℕ) → x < w → y + 1 < h → below_of w h (y * w + x) ≡ (y * w + x, y * w + x + w) ∷ []
below-some w h x y low more =
    let row : (y * w + x) / w ≡ y = div-mul-add y w x low in
    let test : nat_lt ((y * w + x) / w + 1) h ≡ true = rw row (lt-ltb (y + 1) h more) in
    rw test refl

below-none : (w h x y : ℕ) → x < w → h ≤ y + 1 → below_of w h (y * w + x) ≡ []
below-none w h x y low last =
    let row : (y * w + x) / w ≡ y = div-mul-add y w x low in
    elim (cases_Bool (nat_lt ((y * w + x) / w + 1) h)) [
      | inl holds ↦ absurd (omega (arith, ltb-true _ _ holds, row, last))
      | inr fails ↦ rw fails refl
    ]

-- pixels with s pairs each
run : (w h a s n : ℕ) → ((x : ℕ) → x < n → length (right_of w (a + x) ++ below_of w h (a + x)) ≡ s) → length (before w h (a + n)) ≡ length (before w h a) + n * s
run w h a s zero each = rw add-zero (omega (arith, zero-mul s))
run w h a s (suc n) each =
    let one : a + suc n ≡ a + n + 1 = omega arith in
    let long : length (before w h (a + n + 1)) ≡ length (before w h (a + n)) + s =
    ap length (links_more w h (a + n)) ∙ length-append (before w h (a + n)) (right_of w (a + n) ++ below_of w h (a + n)) ∙ ap (λ (k : ℕ). length (before w h (a + n)) + k) (each n (omega arith)) in
    ap (λ (k : ℕ). length (before w h k)) one ∙ long ∙ omega (arith, run w h a s n (λ x low. each x (omega (arith, low))), suc-mul n s)

-- in a row that isn't the last
inner-pairs : (w h x y : ℕ) → x + 1 < w → y + 1 < h → length (right_of w (y * w + x) ++ below_of w h (y * w + x)) ≡ 2
inner-pairs w h x y right below =
    ap length (ap (λ (xs : List Link). xs ++ below_of w h (y * w + x)) (right-some w x y right)) ∙ ap (λ (xs : List Link). length ((y * w + x, y * w + x + 1) ∷ xs)) (below-some w h x y (omega (arith, right)) below)

inner-count : (w h x y : ℕ) → x < w → y + 1 < h → length (before w h (y * w + x)) ≡ length (before w h (y * w)) + 2 * x
inner-count w h x y low more =
    omega (arith, run w h (y * w) 2 x (λ z lower. inner-pairs w h z y (omega (arith, lower, low)) more))

-- in the last row
last-pairs : (w h x y : ℕ) → x + 1 < w → h ≤ y + 1 → length (right_of w (y * w + x) ++ below_of w h (y * w + x)) ≡ 1
last-pairs w h x y right last =
    ap length (ap (λ (xs : List Link). xs ++ below_of w h (y * w + x)) (right-some w x y right)) ∙ ap (λ (xs : List Link). length ((y * w + x, y * w + x + 1) ∷ xs)) (below-none w h x y (omega (arith, right)) last)

last-count : (w h x y : ℕ) → x < w → h ≤ y + 1 → length (before w h (y * w + x)) ≡ length (before w h (y * w)) + x
last-count w h x y low last =
    omega (arith, run w h (y * w) 1 x (λ z lower. last-pairs w h z y (omega (arith, lower, low)) last))

-- each row but the last has 2 * w - 1 pairs
rows-count : (w h y : ℕ) → 1 ≤ w → y < h → length (before w h (y * w)) ≡ y * (2 * w - 1)
rows-count w h zero some low = rw (zero-mul w, zero-mul (2 * w - 1)) refl
rows-count w h (suc y) some low =
    let v = w - 1 in
    let next : suc y * w ≡ y * w + v + 1 = omega (arith, suc-mul y w, some) in
    let end : length (right_of w (y * w + v) ++ below_of w h (y * w + v)) ≡ 1 =
    ap length (ap (λ (xs : List Link). xs ++ below_of w h (y * w + v)) (right-none w v y (omega (arith, some)))) ∙ ap length (below-some w h v y (omega (arith, some)) (omega (arith, low))) in
    let long : length (before w h (y * w + v + 1)) ≡ length (before w h (y * w + v)) + 1 =
    ap length (links_more w h (y * w + v)) ∙ length-append (before w h (y * w + v)) (right_of w (y * w + v) ++ below_of w h (y * w + v)) ∙ ap (λ (k : ℕ). length (before w h (y * w + v)) + k) end in
    let inner : length (before w h (y * w + v)) ≡ length (before w h (y * w)) + 2 * v = inner-count w h v y (omega (arith, some)) (omega (arith, low)) in
    let so_far : length (before w h (y * w)) ≡ y * (2 * w - 1) = rows-count w h y some (omega (arith, low)) in
    ap (λ (k : ℕ). length (before w h k)) next ∙ omega (arith, long, inner, so_far, suc-mul y (2 * w - 1), some)

-- a pixel is one of the picture's
within : (w h x y : ℕ) → x < w → y < h → y * w + x < w * h
within w h x y column row =
    let rows : suc y * w ≤ h * w = mul-le-mul_right w (omega (arith, row)) in
    omega (arith, rows, suc-mul y w, mul_comm w h, column)

to-all : (w h i k : ℕ) (l : Link) → i < w * h → Has (before w h (i + 1)) k l → Has (links w h) k l
to-all w h i k l low has =
    let rest : i + 1 + (w * h - (i + 1)) ≡ w * h = omega (arith, low) in
    subst (λ (n : ℕ). Has (before w h n) k l) rest (Has-later w h (i + 1) (w * h - (i + 1)) k l has)

-- the number of a pixel's edge to the right
right-number : (w h x y : ℕ) → x < w → y < h → length (before w h (y * w + x)) ≡ right_edge w h x y
right-number w h x y column row =
    let start = rows-count w h y (omega (arith, column)) row in
    elim (cases_Bool (nat_lt (y + 1) h)) [
      | inl holds ↦ rw holds (inner-count w h x y column (ltb-true _ _ holds) ∙ ap (λ (k : ℕ). k + 2 * x) start)
      | inr fails ↦ rw fails (last-count w h x y column (grind (arith, fails)) ∙ ap (λ (k : ℕ). k + x) start)
    ]

right-has : (w h x y : ℕ) → x + 1 < w → y < h → Has (links w h) (right_edge w h x y) (pixel_at w x y, pixel_at w (x + 1) y)
right-has w h x y column row =
    let i = y * w + x in
    let pairs : before w h (i + 1) ≡ before w h i ++ (i, i + 1) ∷ below_of w h i =
    links_more w h i ∙ ap (λ (xs : List Link). before w h i ++ (xs ++ below_of w h i)) (right-some w x y column) in
    let next : Has (before w h (i + 1)) (length (before w h i)) (i, i + 1) = subst (λ (xs : List Link). Has xs (length (before w h i)) (i, i + 1)) (sym pairs) (Has-next (before w h i) (below_of w h i) (i, i + 1)) in
    let all : Has (links w h) (length (before w h i)) (i, i + 1) = to-all w h i (length (before w h i)) (i, i + 1) (within w h x y (omega (arith, column)) row) next in
    let number = right-number w h x y (omega (arith, column)) row in
    let other : i + 1 ≡ y * w + (x + 1) = omega arith in
    subst (λ (k : ℕ). Has (links w h) k (i, y * w + (x + 1))) number (subst (λ (q : ℕ). Has (links w h) (length (before w h i)) (i, q)) other all)

-- the number of a pixel's edge below, after the one to the right if there is one
below-has_at : (w h x y : ℕ) → x < w → y + 1 < h → Has (links w h) (below_edge w x y) (y * w + x, y * w + x + w)
below-has_at w h x y column row =
    let i = y * w + x in
    let l : Link = (i, i + w) in
    let count : length (before w h i) ≡ y * (2 * w - 1) + 2 * x =
    inner-count w h x y column row ∙ ap (λ (k : ℕ). k + 2 * x) (rows-count w h y (omega (arith, column)) (omega (arith, row))) in
    let low = within w h x y column (omega (arith, row)) in
    elim (cases_Bool (nat_lt (x + 1) w)) [
      | inl holds ↦
          let pairs : before w h (i + 1) ≡ (before w h i ++ (i, i + 1) ∷ []) ++ l ∷ [] =
          links_more w h i ∙ ap (λ (xs : List Link). before w h i ++ (xs ++ below_of w h i)) (right-some w x y (ltb-true _ _ holds))
          ∙ ap (λ (xs : List Link). before w h i ++ (i, i + 1) ∷ xs) (below-some w h x y column row)
          ∙ sym (append_assoc (before w h i) ((i, i + 1) ∷ []) (l ∷ [])) in
          let long : length (before w h i ++ (i, i + 1) ∷ []) ≡ y * (2 * w - 1) + (2 * x + 1) = omega (arith, length-append (before w h i) ((i, i + 1) ∷ []), count) in
          let next : Has (before w h (i + 1)) (length (before w h i ++ (i, i + 1) ∷ [])) l =
          subst (λ (xs : List Link). Has xs (length (before w h i ++ (i, i + 1) ∷ [])) l) (sym pairs) (Has-next (before w h i ++ (i, i + 1) ∷ []) [] l) in
          rw holds (subst (λ (k : ℕ). Has (links w h) k l) long (to-all w h i _ l low next))
      | inr fails ↦
          let last : x + 1 ≡ w = grind (arith, fails, column) in
          let pairs : before w h (i + 1) ≡ before w h i ++ l ∷ [] =
          links_more w h i ∙ ap (λ (xs : List Link). before w h i ++ (xs ++ below_of w h i)) (right-none w x y last) ∙ ap (λ (xs : List Link). before w h i ++ xs) (below-some w h x y column row) in
          let long : length (before w h i) ≡ y * (2 * w - 1) + (2 * x + 0) = omega (arith, count) in
          let next : Has (before w h (i + 1)) (length (before w h i)) l = subst (λ (xs : List Link). Has xs (length (before w h i)) l) (sym pairs) (Has-next (before w h i) [] l) in
          rw fails (subst (λ (k : ℕ). Has (links w h) k l) long (to-all w h i _ l low next))
    ]

below-has : (w h x y : ℕ) → x < w → y + 1 < h → Has (links w h) (below_edge w x y) (pixel_at w x y, pixel_at w x (y + 1))
below-has w h x y column row =
    let one : y + 1 ≡ suc y = omega arith in
    let other : y * w + x + w ≡ (y + 1) * w + x = rw one (omega (arith, suc-mul y w)) in
    subst (λ (q : ℕ). Has (links w h) (below_edge w x y) (y * w + x, q)) other (below-has_at w h x y column row)

-- the edge of each place joins its neighbours
pub right-joins : (w h x y : ℕ) → x + 1 < w → y < h → slice_get (links w h) (right_edge w h x y) ≡ Some (pixel_at w x y, pixel_at w (x + 1) y)
right-joins w h x y column row =
    let has = right-has w h x y column row in
    slice_get-get_or (links w h) (right_edge w h x y) (pixel_at w x y, pixel_at w (x + 1) y) has.0 ∙ ap Some has.1

pub below-joins : (w h x y : ℕ) → x < w → y + 1 < h → slice_get (links w h) (below_edge w x y) ≡ Some (pixel_at w x y, pixel_at w x (y + 1))
below-joins w h x y column row =
    let has = below-has w h x y column row in
    slice_get-get_or (links w h) (below_edge w x y) (pixel_at w x y, pixel_at w x (y + 1)) has.0 ∙ ap Some has.1

-- so it has one of the values
pub right-within : (w h x y : ℕ) (values : List ℕ) → AreEdgeValues w h values → x + 1 < w → y < h → right_edge w h x y < length values
right-within w h x y values are column row = subst (λ (n : ℕ). right_edge w h x y < n) (sym are.one_each) (right-has w h x y column row).0

pub below-within : (w h x y : ℕ) (values : List ℕ) → AreEdgeValues w h values → x < w → y + 1 < h → below_edge w x y < length values
below-within w h x y values are column row = subst (λ (n : ℕ). below_edge w x y < n) (sym are.one_each) (below-has w h x y column row).0

-- the numbers are small
pub narrow : (w h : ℕ) (values : List ℕ) → AreEdgeValues w h values → w ≤ 1048576
narrow w h values are = let rows : 1 * w ≤ h * w = mul-le-mul_right w are.some_height in omega (arith, rows, mul_comm w h, are.pixels)

pub first-few : (w h y : ℕ) (values : List ℕ) → AreEdgeValues w h values → y < h → y * (2 * w - 1) ≤ 2097152
first-few w h y values are row =
    let rows : y * (2 * w - 1) ≤ h * (2 * w - 1) = mul-le-mul_right (2 * w - 1) (omega (arith, row)) in
    let wider : (2 * w - 1) * h ≤ (2 * w) * h = mul-le-mul_right h (omega arith) in
    let twice : (2 * w) * h ≡ 2 * (w * h) = grind arith in
    omega (arith, rows, wider, twice, mul_comm h (2 * w - 1), are.pixels)

-- the same as a number from the first edge of the row on, in the last row and before it
pub right-before_last : (w h x y first : ℕ) (values : List ℕ) → AreEdgeValues w h values → x + 1 < w → y + 1 < h → first ≡ y * (2 * w - 1) → first + 2 * x < length values
right-before_last w h x y first values are column row is =
    let known = rw (lt-ltb (y + 1) h row) at (right-within w h x y values are column (omega (arith, row))) in
    omega (arith, known, is)

pub right-in_last : (w h x y first : ℕ) (values : List ℕ) → AreEdgeValues w h values → x + 1 < w → y < h → h ≤ y + 1 → first ≡ y * (2 * w - 1) → first + x < length values
right-in_last w h x y first values are column row last is =
    let known = rw (le-ltb (y + 1) h last) at (right-within w h x y values are column row) in
    omega (arith, known, is)

-- and in the last column and before it
pub below-before_last : (w h x y first : ℕ) (values : List ℕ) → AreEdgeValues w h values → x + 1 < w → y + 1 < h → first ≡ y * (2 * w - 1) → first + (2 * x + 1) < length values
below-before_last w h x y first values are column row is =
    let known = rw (lt-ltb (x + 1) w column) at (below-within w h x y values are (omega (arith, column)) row) in
    omega (arith, known, is)

pub below-in_last : (w h x y first : ℕ) (values : List ℕ) → AreEdgeValues w h values → x < w → w ≤ x + 1 → y + 1 < h → first ≡ y * (2 * w - 1) → first + 2 * x < length values
below-in_last w h x y first values are column last row is =
    let known = rw (le-ltb (x + 1) w last) at (below-within w h x y values are column row) in
    omega (arith, known, is)
