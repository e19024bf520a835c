-- Two parts of an input on either side of a form feed.
use Rattle.std.proofs.Common.{◌≡◌, ℕ, ◌+◌, ◌-◌, ◌<◌, ◌≤◌, refl, sym, ◌∙◌, ap, arith, Bool, true, false, List, [], ◌∷◌, ◌++◌, length, map, take, drop}
use Rattle.std.specs.Prelude.{◌==◌, slice_index}
use Rattle.std.proofs.lemmas.List.{drop_more, map-append, take-append-drop}
use Rattle.hg_batch.specs.Cutting.{reads, values}
use Rattle.hg_batch.specs.Pieces.{led_by, pieces, piece_reading, readings}
use Rattle.hg_batch.specs.declared.cutting.Piece.{Piece}
use Rattle.hg_batch.proofs.PieceLemmas.{Readings, count_pieces, pieces_first, pieces_later, take_rest}

led_by-append : (b : ℕ) (ps qs : List (List ℕ)) → 1 ≤ length ps → led_by b (ps ++ qs) ≡ led_by b ps ++ qs
led_by-append b [] qs h = absurd (omega (arith, h))
led_by-append b (p ∷ ps) qs h = refl

-- the pieces of two parts with a form feed between them are those of each
pub pieces_sides : (a b : List ℕ) → pieces (a ++ 12 ∷ b) ≡ pieces a ++ pieces b
pieces_sides [] b = refl
pieces_sides (x ∷ a) b = by (x == 12) refl (pieces_sides a b)
  where
    by : (t : Bool) → (x == 12) ≡ t → pieces (a ++ 12 ∷ b) ≡ pieces a ++ pieces b → pieces (x ∷ (a ++ 12 ∷ b)) ≡ pieces (x ∷ a) ++ pieces b
    by true e rest =
        pieces_first x (a ++ 12 ∷ b) e
        ∙ ap (λ (ps : List (List ℕ)). [] ∷ ps) rest
        ∙ sym (ap (λ (ps : List (List ℕ)). ps ++ pieces b) (pieces_first x a e))
    by false e rest =
        pieces_later x (a ++ 12 ∷ b) e
        ∙ ap (λ (ps : List (List ℕ)). led_by x ps) rest
        ∙ led_by-append x (pieces a) (pieces b) (omega (arith, count_pieces a))
        ∙ sym (ap (λ (ps : List (List ℕ)). ps ++ pieces b) (pieces_later x a e))

-- a list is what stands before a place, what is there, and what stands behind
at_cut : (bytes : List ℕ) (cut : ℕ) → cut < length bytes → slice_index bytes cut ≡ 12 → bytes ≡ take cut bytes ++ 12 ∷ drop (cut + 1) bytes
at_cut bytes cut within is =
    sym (take-append-drop cut bytes)
    ∙ ap (λ (xs : List ℕ). take cut bytes ++ xs) (drop_more bytes cut 0 within)
    ∙ ap (λ (x : ℕ). take cut bytes ++ x ∷ drop (cut + 1) bytes) is

-- the pieces that were read on either side of a form feed
pub read_sides : (front back all : List Piece) (bytes before behind : List ℕ) (cut : ℕ) → cut < length bytes → slice_index bytes cut ≡ 12
    → before ≡ take cut bytes → behind ≡ take (length bytes - (cut + 1)) (drop (cut + 1) bytes)
    → values front ≡ readings before → values back ≡ readings behind → all ≡ front ++ back → values all ≡ readings bytes
read_sides front back all bytes before behind cut within is at_front at_back one other both =
    let rest : behind ≡ drop (cut + 1) bytes = at_back ∙ take_rest (cut + 1) bytes in
    ap values both
    ∙ map-append reads front back
    ∙ ap (λ (rs : Readings). rs ++ values back) (one ∙ ap readings at_front)
    ∙ ap (λ (rs : Readings). readings (take cut bytes) ++ rs) (other ∙ ap readings rest)
    ∙ sym (map-append piece_reading (pieces (take cut bytes)) (pieces (drop (cut + 1) bytes)))
    ∙ ap (λ (ps : List (List ℕ)). map piece_reading ps) (sym (pieces_sides (take cut bytes) (drop (cut + 1) bytes)))
    ∙ ap readings (sym (at_cut bytes cut within is))
