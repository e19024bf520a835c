-- A decoder that has read some bytes, one byte later and at the end.
use Rattle.std.proofs.Common.{◌≡◌, ℕ, suc, ◌+◌, Bool, true, false, List, [], ◌∷◌, ◌++◌, length, refl, sym, ap, ◌∙◌, subst, arith, append_assoc, length-append, zero-add, add-zero}
use Rattle.std.specs.Prelude.{Result, Err, None, Some}
use Rattle.hg_base.specs.declared.fault.ReadError.{ReadError}
use Rattle.hg_base.specs.declared.fault.ReadError.TheVariants.{OutOfMemory}
use Rattle.input_tokens.specs.declared.lexer.Lexer.{Lexer}
use Rattle.input_tokens.specs.declared.lexer.Lexer.TheVariants.{Between, Comment, Inside}
use Rattle.pgm_reader.specs.declared.stage.Field.{Field}
use Rattle.pgm_reader.specs.declared.stage.Field.TheVariants as fields
use Rattle.pgm_reader.specs.declared.stage.Stage.{Stage}
use Rattle.pgm_reader.specs.declared.stage.Stage.TheVariants as stages
use Rattle.input_tokens.specs.Progress.{Answers}
use Rattle.input_tokens.proofs.Answering.{back, settled, answered as any-answered}
use Rattle.pgm_reader.specs.Raster.{Raster}
use Rattle.pgm_reader.specs.Pgm.{CutToken, picture, settles, width_settles, height_settles, greatest_settles}
use Rattle.pgm_reader.specs.Lexing.{next_token}
use Rattle.pgm_reader.specs.Parsing.{Parsing, Reads, reading, reading_at, settling, settling_at, field_settles, is_over, is_out_of_memory}
use Rattle.pgm_reader.specs.Progress.{Progress, HasRead, onward, with_more, is_sized}
use Rattle.pgm_reader.proofs.NextToken.{none-between, none-comment, last-inside}

shift : (place n : ℕ) → place + suc n ≡ (place + 1) + n
shift place n = omega arith

-- nothing has been read
pub read-nothing : (d : Progress) → d.parsing.stage ≡ stages.Form → d.taken ≡ 0 → HasRead d []
unfolding reading_at settling_at picture settles
read-nothing d e t = rw (e, t) (record { taken = refl; reading = λ memory rest. rw zero-add refl; settling = λ rest. refl })

-- one byte more has been read
pub read-more : (d e : Progress) (b : ℕ) (bytes : List ℕ) → e.taken ≡ d.taken + 1 → Reads d.parsing e.parsing d.taken b → HasRead d bytes → HasRead e (bytes ++ b ∷ [])
read-more d e b bytes taken reads read = record {
  taken = rw (length-append, taken, read.taken) refl;
  reading = λ memory rest.
      ap (λ (place : ℕ). reading e.parsing place (place + length rest) rest) taken
      ∙ reads.reading memory ((d.taken + 1) + length rest) rest
      ∙ ap (λ (end : ℕ). reading d.parsing d.taken end (b ∷ rest)) (sym (shift d.taken (length rest)))
      ∙ read.reading (back _ _ reads.out memory) (b ∷ rest)
      ∙ ap picture (sym (append_assoc bytes (b ∷ []) rest));
  settling = λ rest.
      ap (λ (place : ℕ). settling e.parsing place rest) taken ∙ reads.settling rest ∙ read.settling (b ∷ rest) ∙ ap settles (sym (append_assoc bytes (b ∷ []) rest));
}

over-reads : (s : Stage) (p : Parsing) (place other end to : ℕ) (ys zs : List ℕ) → is_over s ≡ true → is_out_of_memory s ≡ false
    → reading_at s p place end ys ≡ reading_at s p other to zs
unfolding reading_at
over-reads (stages.Faulty f) p place other end to ys zs over memory = refl
over-reads stages.OutOfMemory p place other end to ys zs over memory = cc
over-reads _ p place other end to ys zs over memory = cc

over-settles : (s : Stage) (p : Parsing) (place other : ℕ) (ys zs : List ℕ) → is_over s ≡ true → settling_at s p place ys ≡ settling_at s p other zs
unfolding settling_at
over-settles (stages.Faulty f) p place other ys zs over = refl
over-settles stages.OutOfMemory p place other ys zs over = refl
over-settles _ p place other ys zs over = cc

-- what follows a known fault is read by counting its bytes
pub read-over : (d : Progress) (more bytes : List ℕ) → is_over d.parsing.stage ≡ true → HasRead d bytes → HasRead (with_more d (length more)) (bytes ++ more)
read-over d more bytes over read = record {
  taken = rw (length-append, read.taken) refl;
  reading = λ memory rest. over-reads d.parsing.stage d.parsing _ _ _ _ _ _ over memory ∙ read.reading memory (more ++ rest) ∙ ap picture (sym (append_assoc bytes more rest));
  settling = λ rest. over-settles d.parsing.stage d.parsing _ _ _ _ over ∙ read.settling (more ++ rest) ∙ ap settles (sym (append_assoc bytes more rest));
}

pub sized-exact : (d : Progress) (bytes : List ℕ) → HasRead d bytes → is_sized d ≡ settles bytes
sized-exact d bytes read = settled picture settles (onward d) bytes read

-- an answer to what is still to come is an answer to all that was read
pub answered : (r : Result Raster ReadError) (d : Progress) (bytes : List ℕ) → HasRead d bytes
    → (is_out_of_memory d.parsing.stage ≡ false → Answers r (reading d.parsing d.taken d.taken []))
    → (is_out_of_memory d.parsing.stage ≡ true → r ≡ Err OutOfMemory)
    → Answers r (picture bytes)
answered r d bytes read answers none =
    any-answered picture settles r (onward d) bytes read
    (λ memory. subst (λ (end : ℕ). Answers r (reading d.parsing d.taken end [])) (sym (add-zero d.taken)) (answers memory)) none

ended-never : (field : Field) (p : Parsing) (token : CutToken) → token.rest ≡ [] → field_settles field p (Some token) ≡ false
unfolding field_settles width_settles height_settles greatest_settles
ended-never fields.Width p token e = rw e refl
ended-never fields.Height p token e = rw e refl
ended-never fields.Greatest p token e = rw e refl

nothing-settles : (field : Field) (p : Parsing) → field_settles field p None ≡ false
unfolding field_settles width_settles height_settles greatest_settles
nothing-settles fields.Width p = refl
nothing-settles fields.Height p = refl
nothing-settles fields.Greatest p = refl

-- a header is not settled before a byte stands behind its token
pub unsettled : (field : Field) (hash : Bool) (lexer : Lexer) (place : ℕ) (p : Parsing) → field_settles field p (next_token hash lexer place []) ≡ false
unsettled field hash Between place p = rw (none-between hash place) (nothing-settles field p)
unsettled field hash Comment place p = rw (none-comment hash place) (nothing-settles field p)
unsettled field hash (Inside from text) place p = rw (last-inside text hash from place) (ended-never field p _ refl)
