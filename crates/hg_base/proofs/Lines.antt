-- Lines that are written number by number.
use Rattle.std.proofs.Common.{◌≡◌, ℕ, zero, suc, ◌+◌, ◌-◌, ◌<◌, ◌≤◌, ◌++◌, List, [], ◌∷◌, length, get_or, take, drop, Some, Result, Ok, Err, OnErr, refl, sym, ◌∙◌, ap, decimal, arith, append_assoc, add-one, drop-cons, length-append}
use Rattle.std.proofs.Math.Seq.{take-append_seam, take-append-add}
use Rattle.std.proofs.Math.ListN.{drop_of_length-le}
use Rattle.hg_base.specs.Outside.{AppendsPrefix}
use Rattle.hg_base.specs.Text.{line}

-- what is to be written of a line once some numbers stand, where ns are those that are left
abbrev pub rest_of_line : ℕ → List ℕ → List ℕ
rest_of_line zero ns = line ns
rest_of_line (suc k) [] = 10 ∷ []
rest_of_line (suc k) (n ∷ ns) = 32 ∷ line (n ∷ ns)

-- the first number stands alone
pub rest_of_line-first : (n : ℕ) (ns : List ℕ) → rest_of_line 0 (n ∷ ns) ≡ decimal n ++ rest_of_line 1 ns
rest_of_line-first n [] = refl
rest_of_line-first n (m ∷ ms) = refl

-- a later number has a space before it
pub rest_of_line-later : (k n : ℕ) (ns : List ℕ) → rest_of_line (suc k) (n ∷ ns) ≡ 32 ∷ (decimal n ++ rest_of_line (suc (suc k)) ns)
rest_of_line-later k n [] = refl
rest_of_line-later k n (m ∷ ms) = refl

-- what the first number leaves to be written
pub first_step : (ns : List ℕ) → 0 < length ns → rest_of_line 0 (drop 0 ns) ≡ decimal (get_or ns 0 0) ++ rest_of_line 1 (drop 1 ns)
first_step [] h = absurd (omega arith)
first_step (n ∷ ns) h = rest_of_line-first n ns

-- what a later number leaves to be written
pub later_step : (ns : List ℕ) (k : ℕ) → suc k < length ns → rest_of_line (suc k) (drop (suc k) ns) ≡ 32 ∷ (decimal (get_or ns (suc k) 0) ++ rest_of_line (suc (suc k)) (drop (suc (suc k)) ns))
later_step ns k h = rw (drop-cons ns (suc k) 0) (rest_of_line-later k (get_or ns (suc k) 0) (drop (suc (suc k)) ns))

-- the text grows by the first number
pub first_number : (t all ns : List ℕ) (i : ℕ) → i < length ns → i ≡ 0 → t ++ rest_of_line i (drop i ns) ≡ all → (t ++ decimal (get_or ns i 0)) ++ rest_of_line (i + 1) (drop (i + 1) ns) ≡ all
first_number t all ns zero h z e = append_assoc t _ _ ∙ ap (λ r. t ++ r) (sym (first_step ns h)) ∙ e
first_number t all ns (suc k) h z e = absurd (omega arith)

-- the text grows by a space and a later number
pub later_number : (t all ns : List ℕ) (i : ℕ) → i < length ns → 0 < i → t ++ rest_of_line i (drop i ns) ≡ all → ((t ++ 32 ∷ []) ++ decimal (get_or ns i 0)) ++ rest_of_line (i + 1) (drop (i + 1) ns) ≡ all
later_number t all ns zero h z e = absurd (omega arith)
later_number t all ns (suc k) h z e =
    rw (add-one, append_assoc (t ++ 32 ∷ []), append_assoc t (32 ∷ [])) (ap (λ r. t ++ r) (sym (later_step ns k h)) ∙ e)

-- nothing is left to write but the line feed
pub line_end : (t all ns : List ℕ) (i : ℕ) → length ns ≤ i → t ++ rest_of_line i (drop i ns) ≡ all → t ++ 10 ∷ [] ≡ all
line_end t all [] zero h e = e
line_end t all (n ∷ ns) zero h e = absurd (omega arith)
line_end t all ns (suc k) h e = let d : drop (suc k) ns ≡ [] = drop_of_length-le ns h in ap (λ r. t ++ rest_of_line (suc k) r) (sym d) ∙ e

-- what is no shorter than the old text, and begins the old text and the line, appended a prefix of the line
pub prefix-of_line : (old new rest bytes : List ℕ) → new ++ rest ≡ old ++ bytes → length old ≤ length new → AppendsPrefix (Some old) (Some new) bytes
prefix-of_line old new rest bytes whole longer =
    let n = length new - length old in
    let len : length old + n ≡ length new = omega arith in
    let all : length new + length rest ≡ length old + length bytes = omega (arith, length-append new rest, length-append old bytes, ap length whole) in (
      n,
      (let fits : n ≤ length bytes = omega arith in fits),
      sym (take-append_seam new rest) ∙ ap (take (length new)) whole ∙ ap (λ k. take k (old ++ bytes)) (sym len) ∙ take-append-add old bytes n,
    )

-- nothing of the old text is gone where more is appended
pub longer-append : (old text more : List ℕ) → length old ≤ length text → length old ≤ length (text ++ more)
longer-append old text more h = omega (arith, h, length-append text more)

-- a prefix of what comes behind some bytes is one of them all
pub prefix-behind : (old middle new before bytes : List ℕ) → middle ≡ old ++ before → AppendsPrefix (Some middle) (Some new) bytes → AppendsPrefix (Some old) (Some new) (before ++ bytes)
prefix-behind old middle new before bytes same h = (
  length before + h.0,
  omega (arith, h.1, length-append before bytes),
  h.2 ∙ ap (λ t. t ++ take h.0 bytes) same ∙ append_assoc old before (take h.0 bytes) ∙ ap (λ t. old ++ t) (sym (take-append-add before bytes h.0)),
)

-- what holds anyway holds after an error
pub on_err : {T E P : Type 0} (r : Result T E) → P → OnErr r P
on_err (Ok x) p = tt
on_err (Err e) p = p
