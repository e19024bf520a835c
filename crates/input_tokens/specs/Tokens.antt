-- The tokens of an input. A comment counts as white space; a token is a longest run of bytes that are none.
use Rattle.std.specs.Prelude.{ℕ, ◌+◌, ◌-◌, ◌*◌, Bool, true, false, not, ◌&&◌, ◌||◌, ◌==◌, nat_le, nat_lt, if◌then◌else◌, List, [], ◌∷◌, length, codes, bytes_eq}
use Rattle.std.specs.List.{before_first, list_all, fold, filter}
use Rattle.std.specs.Char.{is_ascii_digit}
use Rattle.input_tokens.specs.declared.token.Token.{Token}
use Rattle.input_tokens.specs.declared.token.Token.TheVariants.{Graph, GraphWithAreas, Number, Other}

-- space, tab, line feed, carriage return
abbrev pub is_space : ℕ → Bool
is_space b = (b == 32) || (b == 9) || (b == 10) || (b == 13)

abbrev pub is_line_end : ℕ → Bool
is_line_end b = (b == 10) || (b == 13)

-- the bytes with a space for each byte of a comment, which runs from a `#` up to the next line end;
-- within says that the first byte stands inside a comment
unfoldable pub blanked : Bool → List ℕ → List ℕ
blanked within [] = []
blanked within (b ∷ bs) = if (within || (b == 35)) && not (is_line_end b) then 32 ∷ blanked true bs else b ∷ blanked false bs

-- the bytes up to the first white space
abbrev pub word : List ℕ → List ℕ
word bytes = before_first is_space bytes

-- one to ten digits
abbrev pub is_number : List ℕ → Bool
is_number text = list_all is_ascii_digit text && nat_le 1 (length text) && nat_le (length text) 10

abbrev pub digits_value : List ℕ → ℕ
digits_value digits = fold (λ n b. n * 10 + (b - 48)) 0 digits

-- what a token's bytes say
unfoldable pub meaning : List ℕ → Token
meaning text =
    if bytes_eq text (codes "graph") then Graph
    else (if bytes_eq text (codes "graph2") then GraphWithAreas
    else (if is_number text then Number (digits_value text) else Other))

-- a token, the place of its first byte, and the place behind its last
pub record PlacedToken : Type 0 where
  pub from : ℕ
  pub to : ℕ
  pub token : Token

-- the token that begins where these bytes do
abbrev pub token_at : ℕ → List ℕ → PlacedToken
token_at place bytes = record { from = place; to = place + length (word bytes); token = meaning (word bytes) }

-- the tokens of bytes without comments that begin at this place; after_space says whether a token may begin there
unfoldable pub tokens_from : Bool → ℕ → List ℕ → List PlacedToken
tokens_from after_space place [] = []
tokens_from after_space place (b ∷ bs) =
    if is_space b then tokens_from true (place + 1) bs
    else (if after_space then token_at place (b ∷ bs) ∷ tokens_from false (place + 1) bs
    else tokens_from false (place + 1) bs)

abbrev pub tokens : List ℕ → List PlacedToken
tokens bytes = tokens_from true 0 (blanked false bytes)

-- the tokens that have ended: a byte stands behind them
abbrev pub ended : ℕ → List PlacedToken → List PlacedToken
ended end ts = filter (λ t. nat_lt t.to end) ts

-- the bytes end, or go on with white space or a comment
abbrev pub goes_on_apart : List ℕ → Bool
goes_on_apart [] = true
goes_on_apart (b ∷ bs) = is_space b || (b == 35)
