-- The tokens to come, byte after byte.
use Rattle.std.proofs.Common.{length, ◌≡◌, ◌≢◌, ℕ, suc, ◌+◌, Bool, true, false, List, [], ◌∷◌, refl, arith, add-zero}
use Rattle.std.proofs.lemmas.Bool.{ne_eqb}
use Rattle.input_tokens.specs.declared.text.Text.{Text}
use Rattle.input_tokens.specs.declared.lexer.Lexer.TheVariants.{Between, Comment, Inside}
use Rattle.input_tokens.specs.Tokens.{is_space, is_line_end, blanked, word, token_at, tokens_from, meaning}
use Rattle.input_tokens.specs.Lexing.{meaning_with, lexed}

pub one-add : (n : ℕ) → 1 + n ≡ suc n
one-add n = omega arith

pub shift : (place n : ℕ) → place + suc n ≡ (place + 1) + n
shift place n = omega arith

pub word-space : (b : ℕ) (bs : List ℕ) → is_space b ≡ true → word (b ∷ bs) ≡ []
word-space b bs e = rw e refl

pub word-other : (b : ℕ) (bs : List ℕ) → is_space b ≡ false → word (b ∷ bs) ≡ b ∷ word bs
word-other b bs e = rw (e, one-add) refl

pub tokens-space : (after : Bool) (place b : ℕ) (bs : List ℕ) → is_space b ≡ true → tokens_from after place (b ∷ bs) ≡ tokens_from true (place + 1) bs
unfolding tokens_from
tokens-space after place b bs e = rw e refl

pub tokens-begin : (place b : ℕ) (bs : List ℕ) → is_space b ≡ false → tokens_from true place (b ∷ bs) ≡ token_at place (b ∷ bs) ∷ tokens_from false (place + 1) bs
unfolding tokens_from
tokens-begin place b bs e = rw e refl

pub tokens-within : (place b : ℕ) (bs : List ℕ) → is_space b ≡ false → tokens_from false place (b ∷ bs) ≡ tokens_from false (place + 1) bs
unfolding tokens_from
tokens-within place b bs e = rw e refl

pub blanked-hash : (bs : List ℕ) → blanked false (35 ∷ bs) ≡ 32 ∷ blanked true bs
unfolding blanked
blanked-hash bs = refl

pub blanked-other : (b : ℕ) (bs : List ℕ) → b ≢ 35 → blanked false (b ∷ bs) ≡ b ∷ blanked false bs
unfolding blanked
blanked-other b bs e = rw (ne_eqb b 35 e) refl

pub blanked-end : (b : ℕ) (bs : List ℕ) → is_line_end b ≡ true → blanked true (b ∷ bs) ≡ b ∷ blanked false bs
unfolding blanked
blanked-end b bs e = rw e refl

pub blanked-comment : (b : ℕ) (bs : List ℕ) → is_line_end b ≡ false → blanked true (b ∷ bs) ≡ 32 ∷ blanked true bs
unfolding blanked
blanked-comment b bs e = rw e refl

line_end-is_space : (b : ℕ) → is_line_end b ≡ true → is_space b ≡ true
line_end-is_space b e = grind (arith, e)

pub comment-end : (place b : ℕ) (rest : List ℕ) → is_line_end b ≡ true → lexed Comment place (b ∷ rest) ≡ lexed Between (place + 1) rest
unfolding lexed
comment-end place b rest e = rw (blanked-end b rest e, tokens-space true place b (blanked false rest) (line_end-is_space b e)) refl

pub comment-more : (place b : ℕ) (rest : List ℕ) → is_line_end b ≡ false → lexed Comment place (b ∷ rest) ≡ lexed Comment (place + 1) rest
unfolding lexed
comment-more place b rest e = rw (blanked-comment b rest e, tokens-space true place 32 (blanked true rest) refl) refl

pub between-hash : (place : ℕ) (rest : List ℕ) → lexed Between place (35 ∷ rest) ≡ lexed Comment (place + 1) rest
unfolding lexed
between-hash place rest = rw (blanked-hash rest, tokens-space true place 32 (blanked true rest) refl) refl

pub between-space : (place b : ℕ) (rest : List ℕ) → b ≢ 35 → is_space b ≡ true → lexed Between place (b ∷ rest) ≡ lexed Between (place + 1) rest
unfolding lexed
between-space place b rest e s = rw (blanked-other b rest e, tokens-space true place b (blanked false rest) s) refl

pub between-begin : (text : Text) (place b : ℕ) (rest : List ℕ) → b ≢ 35 → is_space b ≡ false
    → ((more : List ℕ) → meaning_with text more ≡ meaning (b ∷ more))
    → lexed Between place (b ∷ rest) ≡ lexed (Inside place text) (place + 1) rest
unfolding lexed
between-begin text place b rest e s m =
    rw (blanked-other b rest e, tokens-begin place b (blanked false rest) s, word-other b (blanked false rest) s, m (word (blanked false rest)), shift place (length (word (blanked false rest)))) refl

pub inside-hash : (text : Text) (from place : ℕ) (rest : List ℕ)
    → lexed (Inside from text) place (35 ∷ rest) ≡ record { from = from; to = place; token = meaning_with text [] } ∷ lexed Comment (place + 1) rest
unfolding lexed
inside-hash text from place rest = rw (blanked-hash rest, tokens-space false place 32 (blanked true rest) refl, add-zero) refl

pub inside-space : (text : Text) (from place b : ℕ) (rest : List ℕ) → b ≢ 35 → is_space b ≡ true
    → lexed (Inside from text) place (b ∷ rest) ≡ record { from = from; to = place; token = meaning_with text [] } ∷ lexed Between (place + 1) rest
unfolding lexed
inside-space text from place b rest e s =
    rw (blanked-other b rest e, tokens-space false place b (blanked false rest) s, word-space b (blanked false rest) s, add-zero) refl

pub inside-more : (text more : Text) (from place b : ℕ) (rest : List ℕ) → b ≢ 35 → is_space b ≡ false
    → ((bs : List ℕ) → meaning_with more bs ≡ meaning_with text (b ∷ bs))
    → lexed (Inside from text) place (b ∷ rest) ≡ lexed (Inside from more) (place + 1) rest
unfolding lexed
inside-more text more from place b rest e s m =
    rw (blanked-other b rest e, tokens-within place b (blanked false rest) s, word-other b (blanked false rest) s, m (word (blanked false rest)), shift place (length (word (blanked false rest)))) refl
