-- The links of a picture, and its graph.
use Rattle.std.proofs.Common.{◌≡◌, ◌≢◌, ℕ, zero, suc, ◌+◌, ◌*◌, ◌/◌, ◌%◌, ◌<◌, ◌≤◌, Bool, true, false, List, [], ◌∷◌, ◌++◌, length, get_or, map, All, inl, inr, refl, sym, ap, ◌∙◌, subst, arith, append_assoc, append-nil, add-zero, length-append}
use Rattle.std.proofs.lemmas.Bool.{cases_Bool}
use Rattle.std.specs.Prelude.{nat_lt, if◌then◌else◌}
use Rattle.std.specs.List.{flat_map, range_with_len}
use Rattle.std.proofs.lemmas.List.Concat.{flat_map-append}
use Rattle.std.proofs.lemmas.List.Elements.{All-nil, All-append, All-push, All-map, All-replicate}
use Rattle.std.proofs.lemmas.List.{get_or-map, length-replicate, length-map}
use Rattle.std.proofs.lemmas.Nat.{div-add-mod', div_below}
use Rattle.std.proofs.Math.Nat.{mul_comm, mul-le-mul_right, suc-mul, mod-lt}
use Rattle.hg_base.specs.Graph.{IsGraph, JoinsTwo}
use Rattle.hg_base.specs.declared.graph.Edge.{Edge}
use Rattle.pgm_reader.specs.Raster.{Raster, IsRaster}
use Rattle.pgm_reader.specs.Grid.{Link, link_of, right_of, below_of, links, edge_between, graph_of}

range_more_from : (n a : ℕ) → range_with_len a (suc n) ≡ range_with_len a n ++ (a + n) ∷ []
range_more_from zero a = rw add-zero refl
range_more_from (suc n) a =
    let next : (a + 1) + n ≡ a + suc n = omega arith in
    ap (λ (xs : List ℕ). a ∷ xs) (range_more_from n (a + 1) ∙ ap (λ (x : ℕ). range_with_len (a + 1) n ++ x ∷ []) next)

range_more : (n : ℕ) → range_with_len 0 (n + 1) ≡ range_with_len 0 n ++ n ∷ []
range_more n =
    let one : n + 1 ≡ suc n = omega arith in
    let none : 0 + n ≡ n = omega arith in
    ap (range_with_len 0) one ∙ range_more_from n 0 ∙ ap (λ (x : ℕ). range_with_len 0 n ++ x ∷ []) none

-- the pairs of one pixel
abbrev pairs_of : ℕ → ℕ → ℕ → List Link
pairs_of w h i = right_of w i ++ below_of w h i

-- the pairs of one pixel more
pub links_more : (w h i : ℕ) → flat_map (pairs_of w h) (range_with_len 0 (i + 1)) ≡ flat_map (pairs_of w h) (range_with_len 0 i) ++ (right_of w i ++ below_of w h i)
links_more w h i =
    ap (flat_map (pairs_of w h)) (range_more i) ∙ flat_map-append (pairs_of w h) (range_with_len 0 i) (i ∷ [])
    ∙ ap (λ (xs : List Link). flat_map (pairs_of w h) (range_with_len 0 i) ++ xs) (append-nil (pairs_of w h i))

pub links_pushed : (w h i : ℕ) (xs ys zs : List Link) → xs ≡ flat_map (pairs_of w h) (range_with_len 0 i) → ys ≡ xs ++ right_of w i → zs ≡ ys ++ below_of w h i
    → zs ≡ flat_map (pairs_of w h) (range_with_len 0 (i + 1))
links_pushed w h i xs ys zs so_far right below =
    below ∙ ap (λ (l : List Link). l ++ below_of w h i) right ∙ append_assoc xs (right_of w i) (below_of w h i)
    ∙ ap (λ (l : List Link). l ++ pairs_of w h i) so_far ∙ sym (links_more w h i)

links_suc : (w h n : ℕ) → flat_map (pairs_of w h) (range_with_len 0 (suc n)) ≡ flat_map (pairs_of w h) (range_with_len 0 n) ++ pairs_of w h n
links_suc w h n = let one : suc n ≡ n + 1 = omega arith in ap (λ (k : ℕ). flat_map (pairs_of w h) (range_with_len 0 k)) one ∙ links_more w h n

-- two pixels of a picture that differ
pub record AreTwo (n : ℕ) (link : Link) : Type 0 where
  pub first : link.0 < n
  pub second : link.1 < n
  pub apart : link.0 ≢ link.1

-- the row of a pixel ends within the picture
row-within : (w h i : ℕ) → 1 ≤ w → i < w * h → (i / w + 1) * w ≤ w * h
row-within w h i some l =
    let turned : w * h ≡ h * w = mul_comm w h in
    let row : i / w < h = div_below i w h some (omega (arith, l, turned)) in
    let rows : (i / w + 1) * w ≤ h * w = mul-le-mul_right w (omega (arith, row)) in
    omega (arith, rows, turned)

next-row : (q w : ℕ) → (q + 1) * w ≡ q * w + w
next-row q w = let one : q + 1 ≡ suc q = omega arith in rw one (suc-mul q w)

right-within : (w h i : ℕ) → 1 ≤ w → i < w * h → i % w + 1 < w → i + 1 < w * h
right-within w h i some l more = omega (arith, row-within w h i some l, next-row (i / w) w, div-add-mod' i w, more)

below-within : (w h i : ℕ) → 1 ≤ w → i / w + 1 < h → i + w < w * h
below-within w h i some more =
    let rows : (i / w + 1 + 1) * w ≤ h * w = mul-le-mul_right w (omega (arith, more)) in
    omega (arith, rows, mul_comm w h, next-row (i / w) w, next-row (i / w + 1) w, div-add-mod' i w, mod-lt i some)

one-link : (n i j : ℕ) → i < n → j < n → i ≢ j → All (AreTwo n) ((i, j) ∷ [])
one-link n i j a b apart = All-push (AreTwo n) [] (i, j) (All-nil (AreTwo n)) (record { first = a; second = b; apart = apart })

pairs-two : (w h i : ℕ) → 1 ≤ w → i < w * h → All (AreTwo (w * h)) (pairs_of w h i)
pairs-two w h i some l = All-append (AreTwo (w * h)) (right_of w i) (below_of w h i)
    (elim (cases_Bool (nat_lt (i % w + 1) w)) [
      | inl holds ↦ rw holds (one-link (w * h) i (i + 1) l (right-within w h i some l (grind (arith, holds))) (λ same. omega (arith, same)))
      | inr fails ↦ rw fails (All-nil (AreTwo (w * h)))
    ])
    (elim (cases_Bool (nat_lt (i / w + 1) h)) [
      | inl holds ↦ rw holds (one-link (w * h) i (i + w) l (below-within w h i some (grind (arith, holds))) (λ same. omega (arith, same, some)))
      | inr fails ↦ rw fails (All-nil (AreTwo (w * h)))
    ])

-- all pairs of the first n pixels
pairs-two-all : (w h n : ℕ) → 1 ≤ w → n ≤ w * h → All (AreTwo (w * h)) (flat_map (pairs_of w h) (range_with_len 0 n))
pairs-two-all w h zero some l = All-nil (AreTwo (w * h))
pairs-two-all w h (suc n) some l =
    subst (All (AreTwo (w * h))) (sym (links_suc w h n))
    (All-append (AreTwo (w * h)) (flat_map (pairs_of w h) (range_with_len 0 n)) (pairs_of w h n) (pairs-two-all w h n some (omega (arith, l))) (pairs-two w h n some (omega (arith, l))))

pub links-two : (w h : ℕ) → 1 ≤ w → All (AreTwo (w * h)) (links w h)
links-two w h some = pairs-two-all w h (w * h) some (omega arith)

-- each pixel has at most two pairs
one-at-most : (b : Bool) (link : Link) → length (if b then link ∷ [] else []) ≤ 1
one-at-most true link = omega arith
one-at-most false link = omega arith

pairs-few : (w h i : ℕ) → length (pairs_of w h i) ≤ 2
pairs-few w h i =
    omega (arith, length-append (right_of w i) (below_of w h i), one-at-most (nat_lt (i % w + 1) w) (i, i + 1), one-at-most (nat_lt (i / w + 1) h) (i, i + w))

pairs-few-all : (w h n : ℕ) → length (flat_map (pairs_of w h) (range_with_len 0 n)) ≤ 2 * n
pairs-few-all w h zero = omega arith
pairs-few-all w h (suc n) =
    subst (λ (xs : List Link). length xs ≤ 2 * suc n) (sym (links_suc w h n))
    (omega (arith, length-append (flat_map (pairs_of w h) (range_with_len 0 n)) (pairs_of w h n), pairs-few w h n, pairs-few-all w h n))

pub links-few : (w h : ℕ) → length (links w h) ≤ 2 * (w * h)
links-few w h = pairs-few-all w h (w * h)

-- what is made of a picture is a graph
pub is-graph : (r : Raster) → IsRaster r → IsGraph (graph_of r)
is-graph r is = record {
  some_vertex = omega (arith, mul-le-mul_right r.height is.some_width, is.some_height);
  vertices = is.pixels;
  one_area_each = length-replicate (r.width * r.height) 1;
  positive_areas = All-replicate (λ (a : ℕ). 1 ≤ a) (r.width * r.height) 1 (omega arith);
  small_areas = All-replicate (λ (a : ℕ). a ≤ 4096) (r.width * r.height) 1 (omega arith);
  edges = omega (arith, length-map (links r.width r.height) (edge_between r.samples), links-few r.width r.height, is.pixels);
  ends = All-map (JoinsTwo (r.width * r.height)) (edge_between r.samples) (links r.width r.height) (λ k d l. let two = links-two r.width r.height is.some_width k d l in record { u = two.first; v = two.second; apart = two.apart });
}

-- a list whose elements are f of those of another
pub map_by_all : {X : Type 0} (f : X → X) (xs ys : List X) → length ys ≡ length xs → ((k : ℕ) (d : X) → k < length xs → get_or ys k d ≡ f (get_or xs k d)) → ys ≡ map f xs
map_by_all f [] [] long at = refl
map_by_all f [] (y ∷ ys) long at = absurd (omega arith)
map_by_all f (x ∷ xs) [] long at = absurd (omega arith)
map_by_all {X} f (x ∷ xs) (y ∷ ys) long at =
    let head : y ≡ f x = at 0 x (omega arith) in
    let rest = map_by_all f xs ys (omega arith) (λ k d l. at (suc k) d (omega arith)) in
    ap (λ (z : X). z ∷ ys) head ∙ ap (λ (zs : List X). f x ∷ zs) rest

-- the pixels of an edge whose link is one of the picture's
pub ends_at : (w h i : ℕ) (e : Edge) (xs : List Edge) → 1 ≤ w → map link_of xs ≡ links w h → i < length xs → e ≡ get_or xs i e → (e.u < w * h) × (e.v < w * h)
ends_at w h i e xs some all l is =
    let long : length xs ≡ length (links w h) = sym (length-map xs link_of) ∙ ap length all in
    let at : get_or (links w h) i (link_of e) ≡ link_of e =
    ap (λ (ls : List Link). get_or ls i (link_of e)) (sym all) ∙ get_or-map link_of xs i e (link_of e) l ∙ ap link_of (sym is) in
    let two = rw at at (links-two w h some i (link_of e) (omega (arith, l, long))) in
    (two.first, two.second)
