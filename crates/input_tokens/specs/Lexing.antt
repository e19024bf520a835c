-- The tokens that are still to come, seen from where the reading stands.
use Rattle.std.specs.Prelude.{◌≡◌, ℕ, ◌+◌, ◌-◌, ◌*◌, ◌^◌, ◌<◌, ◌≤◌, true, false, ◌&&◌, nat_le, if◌then◌else◌, List, [], ◌∷◌, ◌++◌, length, take, codes}
use Rattle.std.specs.List.{list_all, fold}
use Rattle.std.specs.Char.{is_ascii_digit}
use Rattle.input_tokens.specs.declared.token.Token.{Token}
use Rattle.input_tokens.specs.declared.token.Token.TheVariants as tokens
use Rattle.input_tokens.specs.declared.token.Found.{Found}
use Rattle.input_tokens.specs.declared.text.Text.{Text}
use Rattle.input_tokens.specs.declared.text.Text.TheVariants.{Word, Number, Other}
use Rattle.input_tokens.specs.declared.lexer.Lexer.{Lexer}
use Rattle.input_tokens.specs.declared.lexer.Lexer.TheVariants.{Between, Comment, Inside}
use Rattle.input_tokens.specs.Tokens.{PlacedToken, blanked, word, meaning, tokens_from, ended}

-- the bytes of some token begin so
abbrev pub BeginsToken : Text → Type 0
BeginsToken (Word k) = (1 ≤ k) × (k ≤ 6)
BeginsToken (Number digits value) = (digits ≤ 10) × (value < 10 ^ digits)
BeginsToken Other = Unit {0}

-- what a token says whose bytes so far are these, and which goes on with more
unfoldable pub meaning_with : Text → List ℕ → Token
meaning_with (Word k) more = meaning (take k (codes "graph2") ++ more)
meaning_with (Number digits value) more =
    if list_all is_ascii_digit more && nat_le (digits + length more) 10
    then tokens.Number (fold (λ n b. n * 10 + (b - 48)) value more) else tokens.Other
meaning_with Other more = tokens.Other

-- a number has at most ten digits
abbrev pub HasTenDigitsAtMost : Token → Type 0
HasTenDigitsAtMost (tokens.Number n) = n < 10 ^ 10
HasTenDigitsAtMost _ = Unit {0}

abbrev pub IsLexing : Lexer → Type 0
IsLexing Between = Unit {0}
IsLexing Comment = Unit {0}
IsLexing (Inside start text) = BeginsToken text

-- the tokens that come of the bytes from this place on
unfoldable pub lexed : Lexer → ℕ → List ℕ → List PlacedToken
lexed Between place bytes = tokens_from true place (blanked false bytes)
lexed Comment place bytes = tokens_from true place (blanked true bytes)
lexed (Inside start text) place bytes =
    let more = word (blanked false bytes) in
    record { from = start; to = place + length more; token = meaning_with text more } ∷ tokens_from false place (blanked false bytes)

-- from this place on these bytes lead from one to the other, and end no token
abbrev pub GoesOnAt : ℕ → Lexer → Lexer → List ℕ → Type 0
GoesOnAt place from to bytes = (rest : List ℕ) → lexed from place (bytes ++ rest) ≡ lexed to (place + length bytes) rest

-- and from each place on
abbrev pub GoesOn : Lexer → Lexer → List ℕ → Type 0
GoesOn from to bytes = (place : ℕ) → GoesOnAt place from to bytes

-- a token that was found, and the place behind its last byte
abbrev pub placed_token : Found → ℕ → PlacedToken
placed_token found to = record { from = found.at; to = to; token = found.token }

-- between tokens, the bytes from this place on are these tokens, and each ends in them
pub record LexesTo (place : ℕ) (bytes : List ℕ) (ts : List PlacedToken) : Type 0 where
  pub lexes : (rest : List ℕ) → lexed Between place (bytes ++ rest) ≡ ts ++ lexed Between (place + length bytes) rest
  pub all_ended : (more : ℕ) (us : List PlacedToken) → ended ((place + length bytes) + more) (ts ++ us) ≡ ts ++ ended ((place + length bytes) + more) us

-- the bytes from this place on are the three tokens, between tokens
abbrev pub AreThree : ℕ → List ℕ → Found → Found → Found → Type 0
AreThree place bytes u v w = (a : ℕ) × (b : ℕ) × (c : ℕ) × LexesTo place bytes (placed_token u a ∷ placed_token v b ∷ placed_token w c ∷ [])
