-- Cutting an input at its first form feed.
use Rattle.std.proofs.Common.{◌≡◌, ℕ, suc, ◌+◌, ◌-◌, ◌<◌, ◌≤◌, refl, sym, ◌∙◌, ap, subst, arith, Bool, true, false, cond, List, [], ◌∷◌, ◌++◌, length, map, take, drop, Option, Some, None, Result, add-one, get_or}
use Rattle.std.specs.Prelude.{◌==◌, if◌then◌else◌, not, nat_lt, position}
use Rattle.std.specs.List.{count_by, position_or_len}
use Rattle.std.proofs.Math.Seq.{take-suc}
use Rattle.std.proofs.lemmas.Bool.{le-ltb, lt-ltb}
use Rattle.std.proofs.lemmas.Bool.Decides.{nat_tests}
use Rattle.std.proofs.lemmas.List.{append_assoc, length-drop, map-append, take_all}
use Rattle.std.proofs.lemmas.List.Quantifiers.{position-Some}
use Rattle.std.proofs.lemmas.List.Sums.{position_or_len_is, sum_by-cons}
use Rattle.memchr.specs.Find.{IsFirstByte, is_byte}
use Rattle.hg_base.specs.declared.fault.InputFault.{InputFault}
use Rattle.higra_input.specs.declared.input.Input.{Input}
use Rattle.hg_batch.specs.Cutting.{reads, values}
use Rattle.hg_batch.specs.Pieces.{all_vertices, led_by, pieces, piece_reading, readings, piece_vertices}
use Rattle.hg_batch.specs.declared.cutting.Piece.{Piece}

-- the byte is a form feed
abbrev pub is_cut : ℕ → Bool
is_cut b = b == 12

-- where the first form feed is, if the first byte is one, and if it isn't
at_first : (b : ℕ) (bs : List ℕ) → (b == 12) ≡ true → position_or_len is_cut (b ∷ bs) ≡ 0
at_first b bs e = ap (λ (t : Bool). cond (not t) (1 + position_or_len is_cut bs) 0) e

at_later : (b : ℕ) (bs : List ℕ) → (b == 12) ≡ false → position_or_len is_cut (b ∷ bs) ≡ suc (position_or_len is_cut bs)
at_later b bs e = let one : position_or_len is_cut (b ∷ bs) ≡ 1 + position_or_len is_cut bs = ap (λ (t : Bool). cond (not t) (1 + position_or_len is_cut bs) 0) e in omega arith

-- the pieces, if the first byte is a form feed, and if it isn't
pub pieces_first : (b : ℕ) (bs : List ℕ) → (b == 12) ≡ true → pieces (b ∷ bs) ≡ [] ∷ pieces bs
pieces_first b bs e = ap (λ (t : Bool). if t then [] ∷ pieces bs else led_by b (pieces bs)) e

pub pieces_later : (b : ℕ) (bs : List ℕ) → (b == 12) ≡ false → pieces (b ∷ bs) ≡ led_by b (pieces bs)
pieces_later b bs e = ap (λ (t : Bool). if t then [] ∷ pieces bs else led_by b (pieces bs)) e

-- where there is a form feed, the first piece is what stands before it, and the others are the pieces of what stands behind
pub cut_here : (bytes : List ℕ) → position_or_len is_cut bytes < length bytes → pieces bytes ≡ take (position_or_len is_cut bytes) bytes ∷ pieces (drop (suc (position_or_len is_cut bytes)) bytes)
cut_here [] h = absurd (omega arith)
cut_here (b ∷ bs) h = by (b == 12) refl (λ k. cut_here bs k)
  where
    by : (t : Bool) → (b == 12) ≡ t → (position_or_len is_cut bs < length bs → pieces bs ≡ take (position_or_len is_cut bs) bs ∷ pieces (drop (suc (position_or_len is_cut bs)) bs)) → pieces (b ∷ bs) ≡ take (position_or_len is_cut (b ∷ bs)) (b ∷ bs) ∷ pieces (drop (suc (position_or_len is_cut (b ∷ bs))) (b ∷ bs))
    by true e rest = pieces_first b bs e ∙ sym (ap (λ (n : ℕ). take n (b ∷ bs) ∷ pieces (drop (suc n) (b ∷ bs))) (at_first b bs e))
    by false e rest =
        let l = at_later b bs e in
        let r = rest (omega (arith, h, l)) in
        pieces_later b bs e ∙ ap (λ (ps : List (List ℕ)). led_by b ps) r ∙ sym (ap (λ (n : ℕ). take n (b ∷ bs) ∷ pieces (drop (suc n) (b ∷ bs))) l)

-- where there is none, all is one piece
pub cut_nowhere : (bytes : List ℕ) → length bytes ≤ position_or_len is_cut bytes → pieces bytes ≡ bytes ∷ []
cut_nowhere [] h = refl
cut_nowhere (b ∷ bs) h = by (b == 12) refl (λ k. cut_nowhere bs k)
  where
    by : (t : Bool) → (b == 12) ≡ t → (length bs ≤ position_or_len is_cut bs → pieces bs ≡ bs ∷ []) → pieces (b ∷ bs) ≡ (b ∷ bs) ∷ []
    by true e rest = absurd (let l = at_first b bs e in omega (arith, h, l))
    by false e rest = let l = at_later b bs e in pieces_later b bs e ∙ ap (λ (ps : List (List ℕ)). led_by b ps) (rest (omega (arith, h, l)))

length-led_by : (b : ℕ) (ps : List (List ℕ)) → 1 ≤ length ps → length (led_by b ps) ≡ length ps
length-led_by b [] h = absurd (omega arith)
length-led_by b (p ∷ ps) h = refl

-- there is one piece more than there are form feeds
pub count_pieces : (bytes : List ℕ) → length (pieces bytes) ≡ count_by is_cut bytes + 1
count_pieces [] = refl
count_pieces (b ∷ bs) = by (b == 12) refl (count_pieces bs)
  where
    by : (t : Bool) → (b == 12) ≡ t → length (pieces bs) ≡ count_by is_cut bs + 1 → length (pieces (b ∷ bs)) ≡ count_by is_cut (b ∷ bs) + 1
    by true e r =
        let p : length (pieces (b ∷ bs)) ≡ suc (length (pieces bs)) = ap (λ (ps : List (List ℕ)). length ps) (pieces_first b bs e) in
        let c : count_by is_cut (b ∷ bs) ≡ 1 + count_by is_cut bs = sum_by-cons (λ (y : ℕ). cond (is_cut y) 1 0) b bs ∙ ap (λ (t : Bool). cond t 1 0 + count_by is_cut bs) e in
        omega (arith, p, c, r)
    by false e r =
        let p : length (pieces (b ∷ bs)) ≡ length (pieces bs) = ap (λ (ps : List (List ℕ)). length ps) (pieces_later b bs e) ∙ length-led_by b (pieces bs) (omega (arith, r)) in
        let c : count_by is_cut (b ∷ bs) ≡ 0 + count_by is_cut bs = sum_by-cons (λ (y : ℕ). cond (is_cut y) 1 0) b bs ∙ ap (λ (t : Bool). cond t 1 0 + count_by is_cut bs) e in omega (arith, p, c, r)

-- where the first form feed is at this place
cut_some : (rest : List ℕ) (end : ℕ) → position is_cut rest ≡ Some end → pieces rest ≡ take end rest ∷ pieces (drop (suc end) rest)
cut_some rest end is =
    let first = position-Some is_cut rest end 0 is in
    let at : position_or_len is_cut rest ≡ end = position_or_len_is is_cut rest end 0 (omega (arith, first.0)) first.2 (λ _. first.1) in
    subst (λ (n : ℕ). pieces rest ≡ take n rest ∷ pieces (drop (suc n) rest)) at (cut_here rest (omega (arith, at, first.0)))

none_of : (t : Bool) (n : ℕ) → cond t (Some n) None ≡ None → t ≡ false
none_of true n is = cc
none_of false n is = refl

not_below : (a b : ℕ) → nat_lt a b ≡ false → b ≤ a
not_below a b is = grind (arith, nat_tests)

-- and where there is none
cut_none : (rest : List ℕ) → position is_cut rest ≡ None → pieces rest ≡ rest ∷ []
cut_none rest is = cut_nowhere rest (not_below (position_or_len is_cut rest) (length rest) (none_of (nat_lt (position_or_len is_cut rest) (length rest)) (position_or_len is_cut rest) is))

not_true : (t : Bool) → (t ≡ true → ⊥) → t ≡ false
not_true true h = absurd (h refl)
not_true false h = refl

-- the place at which a search finds the first form feed is its position
pub found_first : (bytes : List ℕ) (found : Option ℕ) → IsFirstByte (is_byte 12) bytes found → found ≡ position is_cut bytes
found_first bytes None nowhere =
    let at = position_or_len_is is_cut bytes (length bytes) 0 (omega arith) (λ k before. not_true _ (nowhere k (omega arith) before)) (λ within. absurd (omega (arith, within))) in
    sym (ap (λ (n : ℕ). cond (nat_lt n (length bytes)) (Some n) None) at ∙ ap (λ (t : Bool). cond t (Some (length bytes)) None) (le-ltb (length bytes) (length bytes) (omega arith)))
found_first bytes (Some end) first =
    let at = position_or_len_is is_cut bytes end 0 (omega (arith, first.0.high)) (λ k before. not_true _ (first.0.before k (omega arith) before)) (λ within. first.1) in
    sym (ap (λ (n : ℕ). cond (nat_lt n (length bytes)) (Some n) None) at ∙ ap (λ (t : Bool). cond t (Some end) None) (lt-ltb end (length bytes) first.0.high))

-- a part of a list from a place to its end
pub take_rest : (n : ℕ) (bs : List ℕ) → take (length bs - n) (drop n bs) ≡ drop n bs
take_rest n bs = take_all (length bs - n) (drop n bs) (omega (arith, length-drop n bs))

-- one piece was counted
pub count_more : (rest : List ℕ) (end : ℕ) → position is_cut rest ≡ Some end → length (pieces rest) ≡ 1 + length (pieces (take (length rest - (end + 1)) (drop (end + 1) rest)))
count_more rest end is =
    let one : length (pieces rest) ≡ suc (length (pieces (drop (suc end) rest))) = ap (λ (ps : List (List ℕ)). length ps) (cut_some rest end is) in
    let left : length (pieces (take (length rest - (end + 1)) (drop (end + 1) rest))) ≡ length (pieces (drop (suc end) rest)) =
    ap (λ (bs : List ℕ). length (pieces bs)) (take_rest (end + 1) rest ∙ ap (λ (n : ℕ). drop n rest) (add-one end)) in
    omega (arith, one, left)

-- what is left is one piece
pub count_last : (rest : List ℕ) → position is_cut rest ≡ None → length (pieces rest) ≡ 1
count_last rest is = ap (λ (ps : List (List ℕ)). length ps) (cut_none rest is)

-- what a list of readings is called here
abbrev pub Readings : Type 0
Readings = List (Result Input InputFault)

pub rest_shorter : (n : ℕ) (bs : List ℕ) → length (take (length bs - n) (drop n bs)) ≤ length bs
rest_shorter n bs = let same = ap (λ (xs : List ℕ). length xs) (take_rest n bs) in omega (arith, same, length-drop n bs)

-- the first piece of what is left was read
pub read_more : (read read' all : Readings) (rest piece : List ℕ) (end : ℕ) → position is_cut rest ≡ Some end → piece ≡ take end rest → read' ≡ read ++ (piece_reading piece ∷ []) → read ++ readings rest ≡ all
    → read' ++ readings (take (length rest - (end + 1)) (drop (end + 1) rest)) ≡ all
read_more read read' all rest piece end is cut more so_far =
    let left : take (length rest - (end + 1)) (drop (end + 1) rest) ≡ drop (suc end) rest = take_rest (end + 1) rest ∙ ap (λ (n : ℕ). drop n rest) (add-one end) in
    let now : readings rest ≡ piece_reading piece ∷ readings (drop (suc end) rest) = ap (λ (ps : List (List ℕ)). map piece_reading ps) (cut_some rest end is) ∙ ap (λ (bs : List ℕ). piece_reading bs ∷ readings (drop (suc end) rest)) (sym cut) in
    ap (λ (bs : List ℕ). read' ++ readings bs) left
    ∙ ap (λ (rs : Readings). rs ++ readings (drop (suc end) rest)) more
    ∙ append_assoc read (piece_reading piece ∷ []) (readings (drop (suc end) rest))
    ∙ sym (ap (λ (rs : Readings). read ++ rs) now)
    ∙ so_far

-- the last piece was read
pub read_last : (read read' all : Readings) (rest : List ℕ) → position is_cut rest ≡ None → read' ≡ read ++ (piece_reading rest ∷ []) → read ++ readings rest ≡ all → read' ≡ all
read_last read read' all rest is more so_far = more ∙ sym (ap (λ (ps : List (List ℕ)). read ++ map piece_reading ps) (cut_none rest is)) ∙ so_far

-- one piece more
pub values_push : (ps : List Piece) (p : Piece) → values (ps ++ (p ∷ [])) ≡ values ps ++ (reads p ∷ [])
values_push ps p = map-append reads ps (p ∷ [])

all_vertices-append : (rs ss : Readings) → all_vertices (rs ++ ss) ≡ all_vertices rs + all_vertices ss
all_vertices-append [] ss = omega arith
all_vertices-append (r ∷ rs) ss = let rest = all_vertices-append rs ss in omega (arith, rest)

-- the vertices of one piece more
pub vertices_more : (ps : List Piece) (k : ℕ) (p : Piece) → k < length ps → p ≡ get_or ps k p → all_vertices (values (take (k + 1) ps)) ≡ all_vertices (values (take k ps)) + piece_vertices (reads p)
vertices_more ps k p h is =
    let more : take (k + 1) ps ≡ take k ps ++ (p ∷ []) = ap (λ (n : ℕ). take n ps) (add-one k) ∙ take-suc ps k p h ∙ ap (λ (x : Piece). take k ps ++ (x ∷ [])) (sym is) in
    let same : all_vertices (values (take (k + 1) ps)) ≡ all_vertices (values (take k ps) ++ (reads p ∷ [])) = ap (λ (xs : List Piece). all_vertices (values xs)) more ∙ ap (λ (rs : Readings). all_vertices rs) (values_push (take k ps) p) in
    let sum = all_vertices-append (values (take k ps)) (reads p ∷ []) in
    omega (arith, same, sum)
