-- A decoder that has read some bytes, one byte later and at the end.
use Rattle.std.proofs.Common.{◌≡◌, ℕ, suc, ◌+◌, true, false, List, [], ◌∷◌, ◌++◌, length, refl, sym, ap, ◌∙◌, arith, append_assoc, append-nil, length-append, zero-add, add-zero}
use Rattle.std.specs.Prelude.{Result, Err, nat_lt}
use Rattle.hg_base.specs.Graph.{WeightedGraph}
use Rattle.hg_base.specs.declared.fault.ReadError.{ReadError}
use Rattle.hg_base.specs.declared.fault.ReadError.TheVariants.{OutOfMemory}
use Rattle.input_tokens.specs.declared.token.Token.{Token}
use Rattle.input_tokens.specs.declared.token.Found.{Found}
use Rattle.input_tokens.specs.declared.text.Text.{Text}
use Rattle.input_tokens.specs.declared.lexer.Lexer.{Lexer}
use Rattle.input_tokens.specs.declared.lexer.Lexer.TheVariants.{Between, Comment, Inside}
use Rattle.graph_reader.specs.declared.parser.Stage.{Stage}
use Rattle.graph_reader.specs.declared.parser.Stage.TheVariants as stages
use Rattle.input_tokens.specs.Tokens.{PlacedToken, blanked, tokens_from, ended}
use Rattle.graph_reader.specs.EdgeList.{edge_list, settles}
use Rattle.input_tokens.specs.Lexing.{meaning_with, lexed, placed_token, AreThree}
use Rattle.graph_reader.specs.Parsing.{Parsing, Takes, TakesThree, reading_at, settling, is_over, is_out_of_memory, is_counting, KeepsMemory}
use Rattle.input_tokens.specs.Progress.{Answers}
use Rattle.input_tokens.proofs.Answering.{back, answered as any-answered}
use Rattle.graph_reader.specs.Progress.{Progress, HasRead, onward, with_more, reading_on, settles_with}

abbrev progress : ℕ → Lexer → Parsing → Progress
progress n l p = record { taken = n; lexer = l; parsing = p }

shift : (place n : ℕ) → place + suc n ≡ (place + 1) + n
shift place n = omega arith

past : (place n k : ℕ) → place + (n + k) ≡ (place + n) + k
past place n k = omega arith

within : (n k : ℕ) → nat_lt n ((n + 1) + k) ≡ true
within n k = grind arith

none-past : (n : ℕ) → nat_lt n n ≡ false
none-past n = grind arith

not-counting : (s : Stage) → is_out_of_memory s ≡ true → is_counting s ≡ false
not-counting stages.Edges e = cc
not-counting _ e = refl

pub runs-out : (p q : Parsing) (at : ℕ) (token : Token) → Takes p q at token → is_out_of_memory p.stage ≡ true → is_out_of_memory q.stage ≡ true
runs-out p q at token takes e = takes.memory (not-counting p.stage e) ∙ e

-- nothing has been read
pub read-nothing : (m : Parsing) → m.stage ≡ stages.FirstWord → HasRead (progress 0 Between m) []
unfolding reading_at settling lexed edge_list settles reading_on settles_with
read-nothing m e = rw e (record { taken = refl; reading = λ memory rest. rw zero-add refl; settling = λ rest. rw zero-add refl })

-- bytes that end no token
pub read-quiet : (p : Parsing) (l k : Lexer) (n : ℕ) (more bytes : List ℕ) → ((rest : List ℕ) → lexed l n (more ++ rest) ≡ lexed k (n + length more) rest)
    → HasRead (progress n l p) bytes → HasRead (progress (n + length more) k p) (bytes ++ more)
unfolding reading_on settles_with
read-quiet p l k n more bytes tokens read = record {
  taken = rw (length-append, read.taken) refl;
  reading = λ memory rest. rw (append_assoc, ← read.reading memory (more ++ rest), tokens rest, length-append, past n (length more) (length rest)) refl;
  settling = λ rest. rw (append_assoc, ← read.settling (more ++ rest), tokens rest, length-append, past n (length more) (length rest)) refl;
}

over-reads : (s : Stage) (p : Parsing) (end to : ℕ) (ts us : List PlacedToken) → is_over s ≡ true → is_out_of_memory s ≡ false → reading_at s p end ts ≡ reading_at s p to us
unfolding reading_at
over-reads (stages.Faulty f) p end to ts us e memory = refl
over-reads stages.OutOfMemory p end to ts us e memory = cc
over-reads _ p end to ts us e memory = cc

over-settles : (s : Stage) (ts us : List PlacedToken) → is_over s ≡ true → settling s ts ≡ settling s us
unfolding settling
over-settles (stages.Faulty f) ts us e = refl
over-settles stages.OutOfMemory ts us e = refl
over-settles _ ts us e = cc

-- what follows a known fault is read by counting its bytes
pub read-over : (d : Progress) (more bytes : List ℕ) → is_over d.parsing.stage ≡ true → HasRead d bytes → HasRead (with_more d (length more)) (bytes ++ more)
unfolding reading_on settles_with
read-over d more bytes e read = record {
  taken = rw (length-append, read.taken) refl;
  reading = λ memory rest.
      over-reads d.parsing.stage d.parsing _ _ _ _ e memory
      ∙ read.reading memory (more ++ rest)
      ∙ ap edge_list (sym (append_assoc bytes more rest));
  settling = λ rest.
      over-settles d.parsing.stage _ _ e
      ∙ read.settling (more ++ rest)
      ∙ ap settles (sym (append_assoc bytes more rest));
}

-- one piece and then another are one
pub read-both : (p : Parsing) (k : Lexer) (n a b : ℕ) (bytes first second all : List ℕ) → all ≡ first ++ second
    → HasRead (progress ((n + a) + b) k p) ((bytes ++ first) ++ second) → HasRead (progress (n + (a + b)) k p) (bytes ++ all)
read-both p k n a b bytes first second all e read = rw (e, past n a b, ← append_assoc bytes first second) read

ended-first : (n end at : ℕ) (token : Token) (ts : List PlacedToken) → nat_lt n end ≡ true
    → ended end (record { from = at; to = n; token = token } ∷ ts) ≡ record { from = at; to = n; token = token } ∷ ended end ts
ended-first n end at token ts h = rw h refl

-- the token before the last byte has ended
ended-token : (n k at : ℕ) (token : Token) (ts : List PlacedToken)
    → ended (n + suc k) (record { from = at; to = n; token = token } ∷ ts) ≡ record { from = at; to = n; token = token } ∷ ended ((n + 1) + k) ts
ended-token n k at token ts =
    ap (λ (end : ℕ). ended end (record { from = at; to = n; token = token } ∷ ts)) (shift n k)
    ∙ ended-first n ((n + 1) + k) at token ts (within n k)

-- a byte that ends a token
pub read-token : (p q : Parsing) (l k : Lexer) (n b at : ℕ) (token : Token) (bytes : List ℕ) → Takes p q at token
    → ((rest : List ℕ) → lexed l n (b ∷ rest) ≡ record { from = at; to = n; token = token } ∷ lexed k (n + 1) rest)
    → HasRead (progress n l p) bytes → HasRead (progress (n + 1) k q) (bytes ++ b ∷ [])
unfolding reading_on settles_with
read-token p q l k n b at token bytes takes tokens read = record {
  taken = rw (length-append, read.taken) refl;
  reading = λ memory rest.
      let before = back _ _ (runs-out p q at token takes) memory in
      rw (append_assoc, ← read.reading before (b ∷ rest), tokens rest, shift n (length rest))
      (takes.reading memory n ((n + 1) + length rest) (lexed k (n + 1) rest));
  settling = λ rest.
      takes.settling n (ended ((n + 1) + length rest) (lexed k (n + 1) rest))
      ∙ ap (settling p.stage) (sym (ended-token n (length rest) at token (lexed k (n + 1) rest)))
      ∙ ap (λ (ts : List PlacedToken). settling p.stage (ended (n + suc (length rest)) ts)) (sym (tokens rest))
      ∙ read.settling (b ∷ rest)
      ∙ ap settles (sym (append_assoc bytes (b ∷ []) rest));
}

settled-more : (s : Stage) (ts : List PlacedToken) → settling s [] ≡ true → settling s ts ≡ true
unfolding settling
settled-more stages.FirstWord ts e = cc
settled-more stages.Vertices ts e = cc
settled-more stages.Edges ts e = cc
settled-more _ ts e = refl

settled-not-counting : (s : Stage) → settling s [] ≡ true → is_counting s ≡ false
unfolding settling
settled-not-counting stages.Edges e = cc
settled-not-counting _ e = refl

-- once the header is settled, a token neither changes that nor takes memory
pub keeps-taking : (p q : Parsing) (at : ℕ) (token : Token) → Takes p q at token → KeepsMemory p q
keeps-taking p q at token takes = record {
  out = runs-out p q at token takes;
  settled = λ e. (takes.settling 0 [] ∙ settled-more p.stage _ e, takes.memory (settled-not-counting p.stage e));
}

keeps-then : (p q r : Parsing) → KeepsMemory p q → KeepsMemory q r → KeepsMemory p r
keeps-then p q r first second = record {
  out = λ e. second.out (first.out e);
  settled = λ e.
      let a = first.settled e in
      let b = second.settled a.0 in
      (b.0, b.1 ∙ a.1);
}

pub keeps-three : (p q : Parsing) (u v w : Found) → TakesThree p q u v w → KeepsMemory p q
keeps-three p q u v w takes =
    keeps-then p takes.first q (keeps-taking p takes.first u.at u.token takes.one)
    (keeps-then takes.first takes.second q (keeps-taking takes.first takes.second v.at v.token takes.two) (keeps-taking takes.second q w.at w.token takes.three))

-- bytes that are three tokens
pub read-three : (p q : Parsing) (n : ℕ) (more bytes : List ℕ) (u v w : Found) → TakesThree p q u v w → AreThree n more u v w
    → HasRead (progress n Between p) bytes → HasRead (progress (n + length more) Between q) (bytes ++ more)
unfolding reading_on settles_with
read-three p q n more bytes u v w takes tokens read =
    let lexes = tokens.3 in
    let x = placed_token u tokens.0 in
    let y = placed_token v tokens.1 in
    let z = placed_token w tokens.2 in
    record {
      taken = rw (length-append, read.taken) refl;
      reading = λ memory rest.
          let second = back _ _ (runs-out takes.second q w.at w.token takes.three) memory in
          let first = back _ _ (runs-out takes.first takes.second v.at v.token takes.two) second in
          let before = back _ _ (runs-out p takes.first u.at u.token takes.one) first in
          let end = (n + length more) + length rest in
          let us = lexed Between (n + length more) rest in
          takes.three.reading memory tokens.2 end us
          ∙ takes.two.reading second tokens.1 end (z ∷ us)
          ∙ takes.one.reading first tokens.0 end (y ∷ z ∷ us)
          ∙ ap (λ (ts : List PlacedToken). reading_at p.stage p end ts) (sym (lexes.lexes rest))
          ∙ ap (λ (to : ℕ). reading_at p.stage p to (lexed Between n (more ++ rest))) (whole n more rest)
          ∙ read.reading before (more ++ rest)
          ∙ ap edge_list (sym (append_assoc bytes more rest));
      settling = λ rest.
          let end = (n + length more) + length rest in
          let us = lexed Between (n + length more) rest in
          takes.three.settling tokens.2 (ended end us)
          ∙ takes.two.settling tokens.1 (z ∷ ended end us)
          ∙ takes.one.settling tokens.0 (y ∷ z ∷ ended end us)
          ∙ ap (λ (ts : List PlacedToken). settling p.stage ts) (sym (lexes.all_ended (length rest) us))
          ∙ ap (λ (ts : List PlacedToken). settling p.stage (ended end ts)) (sym (lexes.lexes rest))
          ∙ ap (λ (to : ℕ). settling p.stage (ended to (lexed Between n (more ++ rest)))) (whole n more rest)
          ∙ read.settling (more ++ rest)
          ∙ ap settles (sym (append_assoc bytes more rest));
    }
  where
    whole : (n : ℕ) (more rest : List ℕ) → (n + length more) + length rest ≡ n + length (more ++ rest)
    whole n more rest = sym (past n (length more) (length rest)) ∙ ap (λ (k : ℕ). n + k) (sym (length-append more rest))

-- at the end no token has ended that had not before
none-ends : (l : Lexer) (n : ℕ) → ended (n + 0) (lexed l n []) ≡ []
unfolding lexed blanked tokens_from
none-ends Between n = refl
none-ends Comment n = refl
none-ends (Inside from text) n = rw (none-past (n + 0)) refl

pub sized-exact : (d : Progress) (bytes : List ℕ) → HasRead d bytes → settling d.parsing.stage [] ≡ settles bytes
unfolding settles_with
sized-exact d bytes read = rw (← append-nil bytes, ← read.settling [], none-ends d.lexer d.taken) refl

-- an answer to what is still to come is an answer to all that was read
pub answered : (r : Result WeightedGraph ReadError) (d : Progress) (bytes : List ℕ) → HasRead d bytes
    → (is_out_of_memory d.parsing.stage ≡ false → Answers r (reading_on d []))
    → (is_out_of_memory d.parsing.stage ≡ true → r ≡ Err OutOfMemory)
    → Answers r (edge_list bytes)
answered r d bytes read answers none = any-answered edge_list settles r (onward d) bytes read answers none

-- nothing more is read at the end but a token that goes up to it
pub at-end : (n : ℕ) (p : Parsing) → reading_on (progress n Between p) [] ≡ reading_at p.stage p n []
unfolding reading_on lexed blanked tokens_from
at-end n p = rw add-zero refl

pub at-end-of-comment : (n : ℕ) (p : Parsing) → reading_on (progress n Comment p) [] ≡ reading_at p.stage p n []
unfolding reading_on lexed blanked tokens_from
at-end-of-comment n p = rw add-zero refl

pub at-end-of-token : (n at : ℕ) (text : Text) (p : Parsing)
    → reading_on (progress n (Inside at text) p) [] ≡ reading_at p.stage p n (record { from = at; to = n; token = meaning_with text [] } ∷ [])
unfolding reading_on lexed blanked tokens_from
at-end-of-token n at text p = rw add-zero refl
