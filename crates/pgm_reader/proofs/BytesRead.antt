-- One byte more: what is still to come stays the same.
use Rattle.std.proofs.Common.{◌≡◌, ℕ, suc, ◌+◌, ◌-◌, ◌*◌, ◌<◌, ◌≤◌, Bool, true, false, List, [], ◌∷◌, length, drop, zero, ◌⊎◌, inl, inr, refl, sym, ap, ◌∙◌, arith}
use Rattle.std.specs.Prelude.{Ok, Err, Some, nat_lt}
use Rattle.hg_base.specs.declared.fault.FaultKind.TheVariants.{Trailing}
use Rattle.hg_base.specs.declared.fault.InputFault.{InputFault}
use Rattle.input_tokens.specs.Tokens.{blanked}
use Rattle.input_tokens.specs.declared.token.Found.{Found}
use Rattle.input_tokens.specs.declared.lexer.Lexer.{Lexer}
use Rattle.input_tokens.specs.declared.lexer.Lexer.TheVariants.{Between}
use Rattle.pgm_reader.specs.declared.stage.Field.{Field}
use Rattle.pgm_reader.specs.declared.stage.Field.TheVariants as fields
use Rattle.pgm_reader.specs.declared.stage.Stage.{Stage}
use Rattle.pgm_reader.specs.declared.stage.Stage.TheVariants as stages
use Rattle.pgm_reader.specs.Pgm.{cut, token_cut_at, gap, width, height, greatest, pixels, from_width, from_height, from_greatest, width_settles, height_settles, greatest_settles}
use Rattle.pgm_reader.specs.Lexing.{next_token, cut_token}
use Rattle.pgm_reader.specs.Parsing.{Parsing, Reads, TakesToken, TakesSample, StandsAt, reading, settling, reading_at, settling_at, from_field, from_samples, field_settles, hash_ends, is_out_of_memory, with_sample}
use Rattle.pgm_reader.proofs.Decoding.{unsettled}
use Rattle.pgm_reader.proofs.Samples.{one-byte, two-bytes, none-left}

-- what has been read, with another stage
abbrev pub at_stage : Parsing → Stage → Parsing
at_stage p stage = record { stage = stage; width = p.width; height = p.height; max = p.max; samples = p.samples }

-- what is still to come, at a stage that is known
pub reads-at : (p : Parsing) (stage : Stage) (place end : ℕ) (rest : List ℕ) → p.stage ≡ stage → reading p place end rest ≡ reading_at stage p place end rest
reads-at p stage place end rest e = ap (λ (s : Stage). reading_at s p place end rest) e

settles-at : (p : Parsing) (stage : Stage) (place : ℕ) (rest : List ℕ) → p.stage ≡ stage → settling p place rest ≡ settling_at stage p place rest
settles-at p stage place rest e = ap (λ (s : Stage). settling_at s p place rest) e

pub out-at : (p : Parsing) (stage : Stage) → p.stage ≡ stage → is_out_of_memory p.stage ≡ is_out_of_memory stage
out-at p stage e = ap is_out_of_memory e

pub drop-none : (n : ℕ) → drop {A = ℕ} n [] ≡ []
drop-none zero = refl
drop-none (suc n) = refl

pub form-not-settled : (p : Parsing) (place : ℕ) → p.stage ≡ stages.Form → settling p place [] ≡ false
unfolding settling_at cut token_cut_at gap blanked width_settles
form-not-settled p place e = settles-at p _ place [] e ∙ rw (drop-none (2 - place)) refl

-- once samples are read, or the reading has ended
pub behind-header : (p : Parsing) (place : ℕ) → ((p.stage ≡ stages.Samples) ⊎ (((high : ℕ) × (p.stage ≡ stages.LowByte high)) ⊎ (((f : InputFault) × (p.stage ≡ stages.Faulty f)) ⊎ (p.stage ≡ stages.OutOfMemory))))
    → settling p place [] ≡ true
unfolding settling_at
behind-header p place (inl e) = settles-at p _ place [] e
behind-header p place (inr (inl e)) = settles-at p _ place [] e.1
behind-header p place (inr (inr (inl e))) = settles-at p _ place [] e.1
behind-header p place (inr (inr (inr e))) = settles-at p _ place [] e

-- the first byte of the form
pub form-begins : (p : Parsing) (place b : ℕ) → p.stage ≡ stages.Form → place ≡ 0 → Reads p p place b
unfolding reading_at settling_at
form-begins p place b e t =
    let unsettled = form-not-settled p place e in
    let within = out-at p _ e in
    record {
      stands = rw (e, t) (omega arith);
      reading = λ memory end rest. rw (e, t) refl;
      settling = λ rest. rw (e, t) refl;
      out = λ out. out;
      sized = λ sized. cc;
    }

-- the second byte of the form
pub form-ends : (p : Parsing) (place b : ℕ) → p.stage ≡ stages.Form → place ≡ 1 → Reads p (at_stage p (stages.Header fields.Width Between)) place b
unfolding reading_at settling_at from_field field_settles next_token
form-ends p place b e t =
    let unsettled = form-not-settled p place e in
    let within = out-at p _ e in
    record {
      stands = tt;
      reading = λ memory end rest. rw (e, t) refl;
      settling = λ rest. rw (e, t) refl;
      out = λ out. cc;
      sized = λ sized. cc;
    }

-- where samples are being read before and after
among : (p q : Parsing) (place b : ℕ) → StandsAt q.stage (place + 1) → ((end : ℕ) (rest : List ℕ) → reading q (place + 1) end rest ≡ reading p place end (b ∷ rest))
    → ((rest : List ℕ) → settling q (place + 1) rest ≡ true) → ((rest : List ℕ) → settling p place rest ≡ true) → is_out_of_memory q.stage ≡ false → is_out_of_memory p.stage ≡ false
    → Reads p q place b
among p q place b stands reads after before memory had = record {
  stands = stands;
  reading = λ _. reads;
  settling = λ rest. after rest ∙ sym (before (b ∷ rest));
  out = λ out. cc;
  sized = λ _. (after [], memory ∙ sym had);
}

-- all samples are there, and a byte more
pub reads-trailing : (p : Parsing) (place b : ℕ) → p.stage ≡ stages.Samples → length p.samples ≡ p.width * p.height
    → Reads p (at_stage p (stages.Faulty (record { kind = Trailing; at = place; value = 0 }))) place b
unfolding reading_at settling_at
reads-trailing p place b e all =
    among p _ place b tt (λ end rest. sym (reads-at p _ place end (b ∷ rest) e ∙ none-left p end place b rest all)) (λ rest. refl)
    (λ rest. settles-at p _ place rest e) refl (out-at p _ e)

-- a sample of one byte
pub reads-one : (p q : Parsing) (place b : ℕ) → p.stage ≡ stages.Samples → TakesSample p q place b → length p.samples < p.width * p.height → nat_lt p.max 256 ≡ true → Reads p q place b
unfolding reading_at settling_at
reads-one p q place b s takes some small = among p q place b (takes.stands (place + 1))
    (λ end rest. takes.reading (place + 1) end rest ∙ one-byte p end place b rest some small ∙ sym (reads-at p _ place end (b ∷ rest) s))
    (takes.settling (place + 1)) (λ rest. settles-at p _ place rest s) takes.memory (out-at p _ s)

-- the first byte of two
pub reads-high : (p : Parsing) (place b : ℕ) → p.stage ≡ stages.Samples → Reads p (at_stage p (stages.LowByte b)) place b
unfolding reading_at settling_at from_samples
reads-high p place b e =
    let same : (place + 1) - 1 ≡ place = omega arith in
    among p _ place b (omega arith) (λ end rest. rw same (sym (reads-at p stages.Samples place end (b ∷ rest) e))) (λ rest. refl) (λ rest. settles-at p _ place rest e) refl (out-at p _ e)

-- the second
pub reads-low : (p q : Parsing) (high place b : ℕ) → p.stage ≡ stages.LowByte high → TakesSample p q (place - 1) (high * 256 + b) → 1 ≤ place
    → length p.samples < p.width * p.height → nat_lt p.max 256 ≡ false → Reads p q place b
unfolding reading_at settling_at
reads-low p q high place b s takes behind some large =
    let next : (place - 1) + 2 ≡ place + 1 = omega (arith, behind) in
    among p q place b (takes.stands (place + 1))
    (λ end rest. takes.reading (place + 1) end rest ∙ rw (← next) (two-bytes p end (place - 1) high b rest some large) ∙ sym (reads-at p _ place end (b ∷ rest) s))
    (takes.settling (place + 1)) (λ rest. settles-at p _ place rest s) takes.memory (out-at p _ s)

-- a sample that isn't above the greatest value
pub takes-sample : (p : Parsing) (place s : ℕ) → s ≤ p.max → TakesSample p (with_sample p s) place s
unfolding reading_at settling_at from_samples
takes-sample p place s h =
    let no : nat_lt p.max s ≡ false = grind (arith, h) in
    record { stands = λ next. tt; reading = λ next end rest. rw no refl; settling = λ next rest. refl; memory = refl }

field-same : (field : Field) (p : Parsing) (stage : Stage) (end : ℕ) → from_field field (at_stage p stage) end ≡ from_field field p end
unfolding from_field
field-same fields.Width p stage end = refl
field-same fields.Height p stage end = refl
field-same fields.Greatest p stage end = refl

settles-same : (field : Field) (p : Parsing) (stage : Stage) → field_settles field (at_stage p stage) ≡ field_settles field p
unfolding field_settles
settles-same fields.Width p stage = refl
settles-same fields.Height p stage = refl
settles-same fields.Greatest p stage = refl

-- the header's third token hasn't ended
pub not-settled : (p : Parsing) (field : Field) (lexer : Lexer) (place : ℕ) → p.stage ≡ stages.Header field lexer → settling p place [] ≡ false
unfolding settling_at
not-settled p field lexer place e = settles-at p _ place [] e ∙ unsettled field (hash_ends field) lexer place p

-- a byte of the header that ends no token
pub reads-on : (p : Parsing) (field : Field) (lexer next : Lexer) (place b : ℕ) → p.stage ≡ stages.Header field lexer
    → ((rest : List ℕ) → next_token (hash_ends field) lexer place (b ∷ rest) ≡ next_token (hash_ends field) next (place + 1) rest)
    → Reads p (at_stage p (stages.Header field next)) place b
unfolding reading_at settling_at
reads-on p field lexer next place b e tokens =
    let unsized = not-settled p field lexer place e in
    let within = out-at p _ e in
    record {
      stands = tt;
      reading = λ memory end rest.
          rw (field-same field p (stages.Header field next) end)
          (ap (from_field field p end) (sym (tokens rest)) ∙ sym (reads-at p _ place end (b ∷ rest) e));
      settling = λ rest.
          rw (settles-same field p (stages.Header field next))
          (ap (field_settles field p) (sym (tokens rest)) ∙ sym (settles-at p _ place (b ∷ rest) e));
      out = λ out. cc;
      sized = λ sized. cc;
    }

-- a byte of the header that ends a token
pub reads-token : (p q : Parsing) (field : Field) (lexer : Lexer) (found : Found) (place b : ℕ) → p.stage ≡ stages.Header field lexer
    → ((rest : List ℕ) → next_token (hash_ends field) lexer place (b ∷ rest) ≡ Some (cut_token found place (b ∷ rest)))
    → TakesToken field p q found place b → Reads p q place b
unfolding reading_at settling_at
reads-token p q field lexer found place b s tokens takes =
    let unsized = not-settled p field lexer place s in
    let within = out-at p _ s in
    record {
      stands = takes.stands;
      reading = λ memory end rest. takes.reading memory end rest ∙ ap (from_field field p end) (sym (tokens rest)) ∙ sym (reads-at p _ place end (b ∷ rest) s);
      settling = λ rest. takes.settling rest ∙ ap (field_settles field p) (sym (tokens rest)) ∙ sym (settles-at p _ place (b ∷ rest) s);
      out = λ out. cc;
      sized = λ sized. cc;
    }

some : (n : ℕ) → nat_lt 0 (suc n) ≡ true
some n = grind arith

-- a number with a fault ends the reading
pub width-fault : (p : Parsing) (found : Found) (place b : ℕ) (f : InputFault) → width found.at found.token ≡ Err f → TakesToken fields.Width p (at_stage p (stages.Faulty f)) found place b
unfolding reading_at settling_at from_field field_settles from_width width_settles
width-fault p found place b f e = record { stands = tt; reading = λ memory end rest. rw e refl; settling = λ rest. rw (e, some (length rest)) refl }

pub height-fault : (p : Parsing) (found : Found) (place b : ℕ) (f : InputFault) → height p.width found.at found.token ≡ Err f → TakesToken fields.Height p (at_stage p (stages.Faulty f)) found place b
unfolding reading_at settling_at from_field field_settles from_height height_settles
height-fault p found place b f e = record { stands = tt; reading = λ memory end rest. rw e refl; settling = λ rest. rw (e, some (length rest)) refl }

pub greatest-fault : (p : Parsing) (found : Found) (place b : ℕ) (f : InputFault) → greatest found.at found.token ≡ Err f → TakesToken fields.Greatest p (at_stage p (stages.Faulty f)) found place b
unfolding reading_at settling_at from_field field_settles from_greatest greatest_settles
greatest-fault p found place b f e = record { stands = tt; reading = λ memory end rest. rw e refl; settling = λ rest. rw (some (length rest)) refl }

-- the lexer stands behind this byte
abbrev pub StandsBehind : ℕ → Lexer → Type 0
StandsBehind b next = (place : ℕ) (rest : List ℕ) (hash : Bool) → cut hash false place (b ∷ rest) ≡ next_token hash next (place + 1) rest

pub takes-width : (p : Parsing) (found : Found) (place b w : ℕ) (next : Lexer) → width found.at found.token ≡ Ok w → StandsBehind b next
    → TakesToken fields.Width p (record { stage = stages.Header fields.Height next; width = w; height = p.height; max = p.max; samples = p.samples }) found place b
unfolding reading_at settling_at from_field field_settles from_width width_settles
takes-width p found place b w next e behind = record {
  stands = tt;
  reading = λ memory end rest. rw (e, behind place rest true) refl;
  settling = λ rest. rw (e, some (length rest), behind place rest true) refl;
}

pub takes-height : (p : Parsing) (found : Found) (place b h : ℕ) (next : Lexer) → height p.width found.at found.token ≡ Ok h → StandsBehind b next
    → TakesToken fields.Height p (record { stage = stages.Header fields.Greatest next; width = p.width; height = h; max = p.max; samples = p.samples }) found place b
unfolding reading_at settling_at from_field field_settles from_height height_settles
takes-height p found place b h next e behind = record {
  stands = tt;
  reading = λ memory end rest. rw (e, behind place rest false) refl;
  settling = λ rest. rw (e, some (length rest), behind place rest false) refl;
}

all-left : (n : ℕ) → n - 0 ≡ n
all-left n = omega arith

-- room was taken for all samples
pub takes-greatest : (p : Parsing) (found : Found) (place b m : ℕ) → greatest found.at found.token ≡ Ok m
    → TakesToken fields.Greatest p (record { stage = stages.Samples; width = p.width; height = p.height; max = m; samples = [] }) found place b
unfolding reading_at settling_at from_field field_settles from_greatest greatest_settles pixels from_samples
takes-greatest p found place b m e = record {
  stands = tt;
  reading = λ memory end rest. rw (e, all-left (p.width * p.height)) refl;
  settling = λ rest. rw (some (length rest)) refl;
}

-- there was no room
pub takes-none : (p : Parsing) (found : Found) (place b : ℕ) → TakesToken fields.Greatest p (at_stage p stages.OutOfMemory) found place b
unfolding reading_at settling_at field_settles greatest_settles
takes-none p found place b = record { stands = tt; reading = λ memory. cc; settling = λ rest. rw (some (length rest)) refl }
