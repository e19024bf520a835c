-- Texts in pieces.
use Rattle.std.proofs.Common.{◌≡◌, ℕ, zero, suc, ◌+◌, ◌-◌, ◌*◌, ◌/◌, ◌≤◌, ◌<◌, List, [], ◌∷◌, ◌++◌, Option, length, get_or, take, drop, set, sym, ap, ◌∙◌, subst, arith, append_assoc, append-nil}
use Rattle.std.proofs.Math.Nat.{suc-mul}
use Rattle.std.proofs.Math.Seq.{split_at, take-append-add}
use Rattle.std.proofs.KnownBytes.{Appends-trans}
use Rattle.std.proofs.lemmas.List.{length-append, take-append-le}
use Rattle.std.proofs.lemmas.List.Concat.{flat_map-append}
use Rattle.std.specs.Io.KnownBytes.{Appends}
use Rattle.std.specs.List.{flat_map}
use Rattle.hg_base.specs.Outside.{AppendsPrefix}
use Rattle.report_lines.proofs.LineForms.{lines_join}
use Rattle.report_lines.specs.Lines.{piece_start, lines_from, lines_of_piece}

-- the text with the lines of one more piece, whose number of pieces is then j
pub piece_more : (f : ℕ → List ℕ) (old so_far piece new : List ℕ) (n k j : ℕ) → j ≡ k + 1 → so_far ≡ old ++ lines_from f 0 (piece_start n k) → piece ≡ lines_of_piece f n k → new ≡ so_far ++ piece → new ≡ old ++ lines_from f 0 (piece_start n j)
piece_more f old so_far piece new n k j next before own pushed =
    let size : suc k * (n / 16 + 1) ≡ k * (n / 16 + 1) + (n / 16 + 1) = suc-mul k (n / 16 + 1) in
    let other : suc k ≡ k + 1 = omega arith in
    let rises : piece_start n k + (piece_start n (k + 1) - piece_start n k) ≡ piece_start n (k + 1) = omega (arith, ap (λ (i : ℕ). i * (n / 16 + 1)) other) in
    let first : piece_start n k ≡ 0 + piece_start n k = omega arith in
    pushed
    ∙ ap (λ (text : List ℕ). text ++ piece) before
    ∙ append_assoc old (lines_from f 0 (piece_start n k)) piece
    ∙ ap (λ (rest : List ℕ). old ++ (lines_from f 0 (piece_start n k) ++ rest)) own
    ∙ ap (λ (i : ℕ). old ++ (lines_from f 0 (piece_start n k) ++ lines_from f i (piece_start n (k + 1) - piece_start n k))) first
    ∙ ap (λ (rest : List ℕ). old ++ rest) (lines_join f 0 (piece_start n k) (piece_start n (k + 1) - piece_start n k))
    ∙ ap (λ (i : ℕ). old ++ lines_from f 0 i) rises
    ∙ ap (λ (i : ℕ). old ++ lines_from f 0 (piece_start n i)) (sym next)

-- a prefix of a piece, behind those before it, is a prefix of the whole
prefix_behind : (first middle last : Option (List ℕ)) (before piece after : List ℕ) → Appends first middle before → AppendsPrefix middle last piece → AppendsPrefix first last (before ++ (piece ++ after))
prefix_behind first middle last before piece after taken (n, few, part) =
    let within : length before + n ≤ length (before ++ (piece ++ after)) = omega (arith, length-append before (piece ++ after), length-append piece after) in
    let front : take n (piece ++ after) ≡ take n piece = take-append-le n piece after few in
    let whole : take (length before + n) (before ++ (piece ++ after)) ≡ before ++ take n piece = take-append-add before (piece ++ after) n ∙ ap (λ (rest : List ℕ). before ++ rest) front in
    (length before + n, within, subst (λ (bytes : List ℕ). Appends first last bytes) (sym whole) (Appends-trans first middle last before (take n piece) taken part))

-- the same of the piece at an index
pub prefix_at : {X : Type 0} (f : X → List ℕ) (xs : List X) (i : ℕ) (x : X) (first middle last : Option (List ℕ)) → i < length xs → x ≡ get_or xs i x → Appends first middle (flat_map f (take i xs)) → AppendsPrefix middle last (f x)
    → AppendsPrefix first last (flat_map f xs)
prefix_at {X} f xs i x first middle last within here taken part =
    let cut_there : xs ≡ take i xs ++ (x ∷ drop (suc i) xs) = split_at xs i x within ∙ ap (λ (y : X). take i xs ++ (y ∷ drop (suc i) xs)) (sym here) in
    let parts : flat_map f xs ≡ flat_map f (take i xs) ++ (f x ++ flat_map f (drop (suc i) xs)) = ap (flat_map f) cut_there ∙ flat_map-append f (take i xs) (x ∷ drop (suc i) xs) in
    subst (λ (bytes : List ℕ). AppendsPrefix first last bytes) (sym parts) (prefix_behind first middle last (flat_map f (take i xs)) (f x) (flat_map f (drop (suc i) xs)) taken part)

-- a text whose last piece, x, has become y, with more bytes behind it
pub last_grown : {X : Type 0} (f : X → List ℕ) (xs : List X) (k : ℕ) (x y : X) (more : List ℕ) → k + 1 ≡ length xs → x ≡ get_or xs k x → f y ≡ f x ++ more → flat_map f (set xs k y) ≡ flat_map f xs ++ more
last_grown f [] k x y more last here grown = absurd (omega arith)
last_grown f (a ∷ []) zero x y more last here grown = append-nil (f y) ∙ grown ∙ ap (λ (bytes : List ℕ). bytes ++ more) (ap f here ∙ sym (append-nil (f a)))
last_grown f (a ∷ (b ∷ bs)) zero x y more last here grown = absurd (omega arith)
last_grown f (a ∷ rest) (suc k) x y more last here grown =
    ap (λ (bytes : List ℕ). f a ++ bytes) (last_grown f rest k x y more (omega arith) here grown) ∙ sym (append_assoc (f a) (flat_map f rest) more)
