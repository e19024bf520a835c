-- The token that comes next, byte after byte.
use Rattle.std.proofs.Common.{◌≡◌, ◌≢◌, ℕ, suc, ◌+◌, Bool, true, false, ◌||◌, List, [], ◌∷◌, length, refl, arith, add-zero}
use Rattle.std.specs.Prelude.{Some, None}
use Rattle.std.specs.List.{before_first}
use Rattle.std.proofs.lemmas.Bool.{ne_eqb}
use Rattle.input_tokens.specs.Tokens.{is_space, is_line_end, blanked, meaning}
use Rattle.input_tokens.proofs.ByteByByte.{blanked-hash, blanked-other, blanked-end, blanked-comment}
use Rattle.input_tokens.specs.declared.text.Text.{Text}
use Rattle.input_tokens.specs.declared.lexer.Lexer.TheVariants.{Between, Comment, Inside}
use Rattle.pgm_reader.specs.Pgm.{ends_token, gap, cut, token_cut_at}
use Rattle.input_tokens.specs.Lexing.{meaning_with}
use Rattle.pgm_reader.specs.Lexing.{next_token}

one-add : (n : ℕ) → 1 + n ≡ suc n
one-add n = omega arith

shift : (place n : ℕ) → place + suc n ≡ (place + 1) + n
shift place n = omega arith

line_end-is_space : (b : ℕ) → is_line_end b ≡ true → is_space b ≡ true
line_end-is_space b e = grind (arith, e)

-- one byte more of the white space before a token
pub gap-more : (within into : Bool) (b c : ℕ) (bs : List ℕ) → blanked within (b ∷ bs) ≡ c ∷ blanked into bs → is_space c ≡ true → gap within (b ∷ bs) ≡ suc (gap into bs)
unfolding gap
gap-more within into b c bs e s = rw (e, s, one-add) refl

pub cut-more : (hash within into : Bool) (place b : ℕ) (bs : List ℕ) → gap within (b ∷ bs) ≡ suc (gap into bs) → cut hash within place (b ∷ bs) ≡ cut hash into (place + 1) bs
unfolding cut
cut-more hash within into place b bs e = rw (e, shift place (gap into bs)) refl

pub comment-end : (hash : Bool) (place b : ℕ) (rest : List ℕ) → is_line_end b ≡ true → next_token hash Comment place (b ∷ rest) ≡ next_token hash Between (place + 1) rest
unfolding next_token
comment-end hash place b rest e = cut-more hash true false place b rest (gap-more true false b b rest (blanked-end b rest e) (line_end-is_space b e))

pub comment-more : (hash : Bool) (place b : ℕ) (rest : List ℕ) → is_line_end b ≡ false → next_token hash Comment place (b ∷ rest) ≡ next_token hash Comment (place + 1) rest
unfolding next_token
comment-more hash place b rest e = cut-more hash true true place b rest (gap-more true true b 32 rest (blanked-comment b rest e) refl)

pub between-hash : (hash : Bool) (place : ℕ) (rest : List ℕ) → next_token hash Between place (35 ∷ rest) ≡ next_token hash Comment (place + 1) rest
unfolding next_token
between-hash hash place rest = cut-more hash false true place 35 rest (gap-more false true 35 32 rest (blanked-hash rest) refl)

pub between-space : (hash : Bool) (place b : ℕ) (rest : List ℕ) → b ≢ 35 → is_space b ≡ true → next_token hash Between place (b ∷ rest) ≡ next_token hash Between (place + 1) rest
unfolding next_token
between-space hash place b rest e s = cut-more hash false false place b rest (gap-more false false b b rest (blanked-other b rest e) s)

-- no byte of a gap comes first
gap-none : (b : ℕ) (bs : List ℕ) → b ≢ 35 → is_space b ≡ false → gap false (b ∷ bs) ≡ 0
unfolding gap
gap-none b bs e s = rw (blanked-other b bs e, s) refl

pub ends-not : (hash : Bool) (b : ℕ) → is_space b ≡ false → b ≢ 35 → ends_token hash b ≡ false
ends-not true b s e = rw (s, ne_eqb b 35 e) refl
ends-not false b s e = rw s refl

pub text-ends : (hash : Bool) (b : ℕ) (bs : List ℕ) → ends_token hash b ≡ true → before_first (ends_token hash) (b ∷ bs) ≡ []
text-ends hash b bs e = rw e refl

pub text-more : (hash : Bool) (b : ℕ) (bs : List ℕ) → ends_token hash b ≡ false → before_first (ends_token hash) (b ∷ bs) ≡ b ∷ before_first (ends_token hash) bs
text-more hash b bs e = rw (e, one-add) refl

pub between-begin : (text : Text) (hash : Bool) (place b : ℕ) (rest : List ℕ) → b ≢ 35 → is_space b ≡ false
    → ((more : List ℕ) → meaning_with text more ≡ meaning (b ∷ more))
    → next_token hash Between place (b ∷ rest) ≡ next_token hash (Inside place text) (place + 1) rest
unfolding next_token cut token_cut_at
between-begin text hash place b rest e s m =
    rw (gap-none b rest e s, add-zero, text-more hash b rest (ends-not hash b s e), m (before_first (ends_token hash) rest), shift place (length (before_first (ends_token hash) rest))) refl

pub inside-ends : (text : Text) (hash : Bool) (from place b : ℕ) (rest : List ℕ) → ends_token hash b ≡ true
    → next_token hash (Inside from text) place (b ∷ rest) ≡ Some (record { from = from; token = meaning_with text []; to = place; rest = b ∷ rest })
unfolding next_token
inside-ends text hash from place b rest e = rw (text-ends hash b rest e, add-zero) refl

pub inside-more : (text more : Text) (hash : Bool) (from place b : ℕ) (rest : List ℕ) → ends_token hash b ≡ false
    → ((bs : List ℕ) → meaning_with more bs ≡ meaning_with text (b ∷ bs))
    → next_token hash (Inside from text) place (b ∷ rest) ≡ next_token hash (Inside from more) (place + 1) rest
unfolding next_token
inside-more text more hash from place b rest e m =
    rw (text-more hash b rest e, m (before_first (ends_token hash) rest), shift place (length (before_first (ends_token hash) rest))) refl

or-left : (a : Bool) → (a || false) ≡ true → a ≡ true
or-left true e = refl
or-left false e = cc

-- behind a token comes white space or a comment
pub behind-hash : (hash : Bool) (place : ℕ) (rest : List ℕ) → cut hash false place (35 ∷ rest) ≡ next_token hash Comment (place + 1) rest
unfolding next_token
behind-hash hash place rest = cut-more hash false true place 35 rest (gap-more false true 35 32 rest (blanked-hash rest) refl)

pub behind-space : (hash : Bool) (place b : ℕ) (rest : List ℕ) → b ≢ 35 → ends_token true b ≡ true → cut hash false place (b ∷ rest) ≡ next_token hash Between (place + 1) rest
unfolding next_token
behind-space hash place b rest e s =
    let space = or-left (is_space b) (rw (ne_eqb b 35 e) at s) in
    cut-more hash false false place b rest (gap-more false false b b rest (blanked-other b rest e) space)

-- where no byte follows
pub none-between : (hash : Bool) (place : ℕ) → next_token hash Between place [] ≡ None
unfolding next_token cut token_cut_at gap blanked
none-between hash place = refl

pub none-comment : (hash : Bool) (place : ℕ) → next_token hash Comment place [] ≡ None
unfolding next_token cut token_cut_at gap blanked
none-comment hash place = refl

pub last-inside : (text : Text) (hash : Bool) (from place : ℕ) → next_token hash (Inside from text) place [] ≡ Some (record { from = from; token = meaning_with text []; to = place; rest = [] })
unfolding next_token
last-inside text hash from place = rw add-zero refl
