-- The token that comes next, seen from where the reading of a header stands.
use Rattle.std.specs.Prelude.{◌≡◌, ℕ, ◌+◌, Bool, true, false, List, [], ◌∷◌, length, drop, Option, Some, None}
use Rattle.std.specs.List.{before_first}
use Rattle.input_tokens.specs.declared.lexer.Lexer.{Lexer}
use Rattle.input_tokens.specs.declared.lexer.Lexer.TheVariants.{Between, Comment, Inside}
use Rattle.input_tokens.specs.declared.token.Found.{Found}
use Rattle.input_tokens.specs.Lexing.{meaning_with, HasTenDigitsAtMost, IsLexing}
use Rattle.pgm_reader.specs.declared.lexer.Step.{Step}
use Rattle.pgm_reader.specs.declared.lexer.Step.TheVariants.{On, Ended}
use Rattle.pgm_reader.specs.Pgm.{CutToken, ends_token, cut}

-- the token that comes next, or that has begun
unfoldable pub next_token : Bool → Lexer → ℕ → List ℕ → Option CutToken
next_token hash_ends Between place bytes = cut hash_ends false place bytes
next_token hash_ends Comment place bytes = cut hash_ends true place bytes
next_token hash_ends (Inside from text) place bytes =
    let more = before_first (ends_token hash_ends) bytes in
    Some (record { from = from; token = meaning_with text more; to = place + length more; rest = drop (length more) bytes })

-- a token that has ended, before these bytes
abbrev pub cut_token : Found → ℕ → List ℕ → CutToken
cut_token found place rest = record { from = found.at; token = found.token; to = place; rest = rest }

-- what the byte at this place does to the token that comes next
abbrev pub Steps : Bool → Lexer → ℕ → ℕ → Step → Type 0
Steps hash_ends lexer place b (On next) = IsLexing next
    × ((rest : List ℕ) → next_token hash_ends lexer place (b ∷ rest) ≡ next_token hash_ends next (place + 1) rest)
Steps hash_ends lexer place b (Ended found) = (ends_token hash_ends b ≡ true) × HasTenDigitsAtMost found.token
    × ((rest : List ℕ) → next_token hash_ends lexer place (b ∷ rest) ≡ Some (cut_token found place (b ∷ rest)))

-- the token that comes next where no byte follows
abbrev pub EndsWith : Lexer → Option Found → Type 0
EndsWith lexer None = (hash_ends : Bool) (place : ℕ) → next_token hash_ends lexer place [] ≡ None
EndsWith lexer (Some found) = HasTenDigitsAtMost found.token × ((hash_ends : Bool) (place : ℕ) → next_token hash_ends lexer place [] ≡ Some (cut_token found place []))
