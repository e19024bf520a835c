-- Runs of bytes that end no token: white space, a comment, the digits of a number.
use Rattle.std.proofs.Common.{◌≡◌, ◌≢◌, ℕ, zero, suc, ◌+◌, ◌-◌, ◌*◌, ◌<◌, ◌≤◌, ◌^◌, true, false, List, [], ◌∷◌, ◌++◌, length, take, drop, zero-add, refl, sym, ap, ◌∙◌, arith, append_assoc, length-append}
use Rattle.std.proofs.Math.Nat.{pow-suc}
use Rattle.std.proofs.Math.Numerals.{add-one}
use Rattle.std.specs.Char.{is_ascii_digit}
use Rattle.std.proofs.lemmas.List.{take_all, length-drop, length-take-le}
use Rattle.std.specs.Prelude.{nat_lt}
use Rattle.input_tokens.specs.Tokens.{PlacedToken, is_space, is_line_end, ended}
use Rattle.input_tokens.specs.declared.text.Text.{Text}
use Rattle.input_tokens.specs.declared.lexer.Lexer.{Lexer}
use Rattle.input_tokens.specs.declared.lexer.Lexer.TheVariants.{Between, Comment, Inside}
use Rattle.input_tokens.specs.declared.text.Text.TheVariants.{Number}
use Rattle.input_tokens.specs.Lexing.{lexed, meaning_with, GoesOnAt, GoesOn, LexesTo}
use Rattle.input_tokens.proofs.ByteByByte.{inside-more, inside-space, between-begin, between-space, comment-more}
use Rattle.input_tokens.proofs.TextMeanings.{meaning-digit, meaning-number}

digit-no-hash : (b : ℕ) → is_ascii_digit b ≡ true → b ≢ 35
digit-no-hash b h e = grind (arith, h, e)

digit-no-space : (b : ℕ) → is_ascii_digit b ≡ true → is_space b ≡ false
digit-no-space b h = grind (arith, h)

pub goes-nowhere : (l : Lexer) → GoesOn l l []
goes-nowhere l place rest = ap (λ (p : ℕ). lexed l p rest) (omega arith)

past : (place n : ℕ) → (place + n) + 1 ≡ place + (n + 1)
past place n = omega arith

-- a run with one byte more
run-more : (from to next : Lexer) (bytes : List ℕ) (b : ℕ)
    → ((place : ℕ) (rest : List ℕ) → lexed to place (b ∷ rest) ≡ lexed next (place + 1) rest)
    → GoesOn from to bytes → GoesOn from next (bytes ++ b ∷ [])
run-more from to next bytes b step goes place rest =
    let long : length (bytes ++ b ∷ []) ≡ length bytes + 1 = length-append bytes (b ∷ []) in
    ap (λ (all : List ℕ). lexed from place all) (append_assoc bytes (b ∷ []) rest)
    ∙ goes place (b ∷ rest) ∙ step (place + length bytes) rest
    ∙ ap (λ (p : ℕ). lexed next p rest) (past place (length bytes) ∙ ap (λ (n : ℕ). place + n) (sym long))

-- one digit more
pub digit-more : (from : Lexer) (at digits value : ℕ) (bytes : List ℕ) (b : ℕ) → is_ascii_digit b ≡ true
    → GoesOn from (Inside at (Number digits value)) bytes
    → GoesOn from (Inside at (Number (digits + 1) (value * 10 + (b - 48)))) (bytes ++ b ∷ [])
digit-more from at digits value bytes b h goes =
    let more = Number (digits + 1) (value * 10 + (b - 48)) in
    run-more from (Inside at (Number digits value)) (Inside at more) bytes b
    (λ place rest. inside-more (Number digits value) more at place b rest (digit-no-hash b h) (digit-no-space b h) (λ bs. meaning-number digits value b bs h)) goes

space-no-hash : (b : ℕ) → is_space b ≡ true → b ≢ 35
space-no-hash b h e = grind (arith, h, e)

-- one byte of white space more
pub space-more : (bytes : List ℕ) (b : ℕ) → is_space b ≡ true → GoesOn Between Between bytes → GoesOn Between Between (bytes ++ b ∷ [])
space-more bytes b h goes = run-more Between Between Between bytes b (λ place rest. between-space place b rest (space-no-hash b h) h) goes

-- one byte of a comment more
pub comment-byte-more : (bytes : List ℕ) (b : ℕ) → is_line_end b ≡ false → GoesOn Comment Comment bytes → GoesOn Comment Comment (bytes ++ b ∷ [])
comment-byte-more bytes b h goes = run-more Comment Comment Comment bytes b (λ place rest. comment-more place b rest h) goes

-- a number from its first digit on
pub number-begins : (to : Lexer) (place b count : ℕ) (others : List ℕ) → 48 ≤ b → b ≤ 57
    → GoesOn (Inside place (Number 1 (b - 48))) to (take count others) → GoesOnAt place Between to (take (count + 1) (b ∷ others))
number-begins to place b count others least most goes rest =
    let h : is_ascii_digit b ≡ true = grind (arith, least, most) in
    let more = take count others in
    let first : take (count + 1) (b ∷ others) ≡ b ∷ more = ap (λ (n : ℕ). take n (b ∷ others)) (add-one count) in
    rw first (
    between-begin (Number 1 (b - 48)) place b (more ++ rest) (digit-no-hash b h) (digit-no-space b h) (λ bs. meaning-digit b bs h most)
    ∙ goes (place + 1) rest
    ∙ ap (λ (p : ℕ). lexed to p rest) (begins place (length more))
    )
  where
    begins : (place n : ℕ) → (place + 1) + n ≡ place + suc n
    begins place n = omega arith

take-none : (n : ℕ) → (let none : List ℕ = [] in take n none) ≡ []
take-none zero = refl
take-none (suc n) = refl

-- some of the first, and then some of what is left
pub take-both : (a b : ℕ) (xs : List ℕ) → take (a + b) xs ≡ take a xs ++ take b (drop a xs)
take-both zero b xs = rw zero-add refl
take-both (suc a) b [] = take-none (suc a + b) ∙ sym (take-none b)
take-both (suc a) b (x ∷ xs) =
    let e : suc a + b ≡ suc (a + b) = omega arith in
    rw e (ap (λ (more : List ℕ). x ∷ more) (take-both a b xs))

-- the white space behind a run that ended inside a token
pub run-ends : (place at b : ℕ) (text : Text) (run : List ℕ) → is_space b ≡ true → GoesOnAt place Between (Inside at text) run
    → LexesTo place (run ++ b ∷ []) (record { from = at; to = place + length run; token = meaning_with text [] } ∷ [])
run-ends place at b text run s goes =
    let long : length (run ++ b ∷ []) ≡ length run + 1 = length-append run (b ∷ []) in
    let there : (place + length run) + 1 ≡ place + length (run ++ b ∷ []) = past place (length run) ∙ ap (λ (n : ℕ). place + n) (sym long) in
    record {
      lexes = λ rest.
          ap (λ (all : List ℕ). lexed Between place all) (append_assoc run (b ∷ []) rest)
          ∙ goes (b ∷ rest) ∙ inside-space text at (place + length run) b rest (space-no-hash b s) s
          ∙ ap (λ (p : ℕ). record { from = at; to = place + length run; token = meaning_with text [] } ∷ lexed Between p rest) there;
      all_ended = λ more us.
          let before : nat_lt (place + length run) ((place + length (run ++ b ∷ [])) + more) ≡ true = grind (arith, there) in
          rw before refl;
    }

-- white space is no token
pub lexes-none : (place : ℕ) (run : List ℕ) → GoesOn Between Between run → LexesTo place run []
lexes-none place run goes = record { lexes = λ rest. goes place rest; all_ended = λ more us. refl }

-- some tokens and then others
pub lexes-both : (place a b : ℕ) (piece : List ℕ) (ts us : List PlacedToken) → a ≤ length piece → b ≤ length (drop a piece)
    → LexesTo place (take a piece) ts → LexesTo (place + a) (take b (drop a piece)) us → LexesTo place (take (a + b) piece) (ts ++ us)
lexes-both place a b piece ts us h k first second =
    let xs = take a piece in
    let ys = take b (drop a piece) in
    let x : length xs ≡ a = length-take-le a piece h in
    let y : length ys ≡ b = length-take-le b (drop a piece) k in
    let all : take (a + b) piece ≡ xs ++ ys = take-both a b piece in
    let z : length (take (a + b) piece) ≡ a + b = rw (all, length-append, x, y) refl in
    record {
      lexes = λ rest.
          ap (λ (bytes : List ℕ). lexed Between place (bytes ++ rest)) all
          ∙ ap (λ (bytes : List ℕ). lexed Between place bytes) (append_assoc xs ys rest)
          ∙ first.lexes (ys ++ rest)
          ∙ ap (λ (n : ℕ). ts ++ lexed Between (place + n) (ys ++ rest)) x
          ∙ ap (λ (more : List PlacedToken). ts ++ more) (second.lexes rest)
          ∙ ap (λ (n : ℕ). ts ++ (us ++ lexed Between n rest)) (onward place a b (length ys) (length (take (a + b) piece)) y z)
          ∙ sym (append_assoc ts us (lexed Between (place + length (take (a + b) piece)) rest));
      all_ended = λ more vs.
          let end = (place + length (take (a + b) piece)) + more in
          let near : (place + length xs) + (b + more) ≡ end = omega (arith, x, z) in
          let far : ((place + a) + length ys) + more ≡ end = omega (arith, y, z) in
          ap (λ (all : List PlacedToken). ended end all) (append_assoc ts us vs)
          ∙ ap (λ (n : ℕ). ended n (ts ++ (us ++ vs))) (sym near)
          ∙ first.all_ended (b + more) (us ++ vs)
          ∙ ap (λ (n : ℕ). ts ++ ended n (us ++ vs)) (near ∙ sym far)
          ∙ ap (λ (more : List PlacedToken). ts ++ more) (second.all_ended more vs)
          ∙ ap (λ (n : ℕ). ts ++ (us ++ ended n vs)) far
          ∙ sym (append_assoc ts us (ended end vs));
    }
  where
    onward : (place a b y z : ℕ) → y ≡ b → z ≡ a + b → (place + a) + y ≡ place + z
    onward place a b y z p q = omega (arith, p, q)

-- a digit more keeps the value below the next power of ten
pub value-more : (n value d : ℕ) → value < 10 ^ n → d ≤ 9 → value * 10 + d < 10 ^ (n + 1)
value-more n value d h k =
    let p : 10 ^ (n + 1) ≡ 10 ^ n * 10 = ap (λ (k : ℕ). 10 ^ k) (add-one n) ∙ pow-suc 10 n in
    omega (arith, h, k, p)

-- a slice from a place on is all that is left there
pub take-rest : (a : ℕ) (xs : List ℕ) → take (length xs - a) (drop a xs) ≡ drop a xs
take-rest a xs = take_all (length xs - a) (drop a xs) (rw length-drop (omega arith))
