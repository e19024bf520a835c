-- What std reads of a number's text.
use Rattle.std.proofs.Common.{◌≡◌, ◌∙◌, ℕ, ◌≤◌, ◌<◌, ◌^◌, ◌&&◌, true, List, [], ◌∷◌, length, refl, sym, ap, nat_le, Result, Ok, Err, arith, inl, inr}
use Rattle.std.specs.Char.{is_ascii_digit}
use Rattle.std.specs.List.{list_all}
use Rattle.std.specs.Result.{OkIff, result_ok}
use Rattle.std.specs.Str.{all_ascii_digits}
use Rattle.std.specs.Str.Parse.{digits_value, ParsesUnsigned}
use Rattle.std.proofs.lemmas.Bool.{and_parts, cases_lt, le-ltb, leb-true, lt-ltb}
use Rattle.std.proofs.lemmas.Str.Parse.{numerals_by_value, parse_digits, tells_all_ascii_digits}
use Rattle.higra_words.specs.Request.{is_number_word, number}

-- the two words for digits alone say the same
list_all-is_ascii_digit : (text : List ℕ) → list_all is_ascii_digit text ≡ all_ascii_digits text
list_all-is_ascii_digit [] = refl
list_all-is_ascii_digit (c ∷ cs) = ap (λ b. is_ascii_digit c && b) (list_all-is_ascii_digit cs)

-- of one to twenty digits std reads their value, where it is below 2 ^ 64
pub number_read : {E : Type 0} (text : List ℕ) (r : Result ℕ E) → is_number_word text ≡ true → ParsesUnsigned 64 10 text r → result_ok r ≡ number text
number_read {E} text r is parsed =
    by_result r (parse_digits (numerals_by_value _ tells_all_ascii_digits) 64 text r parsed (sym (list_all-is_ascii_digit text) ∙ digits.0))
  where
    digits : (list_all is_ascii_digit text ≡ true) × ((nat_le 1 (length text) && nat_le (length text) 20) ≡ true)
    digits = and_parts _ _ is

    some : 1 ≤ length text
    some = leb-true _ _ (and_parts _ _ digits.1).0

    by_result : (r : Result ℕ E) → OkIff r ((0 < length text) × (digits_value 10 text < 2 ^ 64)) (digits_value 10 text) → result_ok r ≡ number text
    by_result (Ok n) (fits, same) = rw (is, lt-ltb _ _ fits.1, same) refl
    by_result (Err e) refused = elim (cases_lt (digits_value 10 text) (2 ^ 64)) [
      | inl below ↦ absurd (refused (omega (arith, some), below))
      | inr above ↦ rw (is, le-ltb _ _ above) refl
    ]
