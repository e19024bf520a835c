-- What is read where the input ends.
use Rattle.std.proofs.Common.{◌≡◌, ℕ, zero, suc, ◌+◌, ◌-◌, ◌*◌, ◌<◌, Bool, true, false, [], length, refl, sym, ap, ◌∙◌, arith, append-nil}
use Rattle.std.specs.Prelude.{Result, Ok, Err, None, Some, nat_lt, if◌then◌else◌, MatchResult}
use Rattle.hg_base.specs.declared.fault.FaultKind.TheVariants.{Truncated}
use Rattle.hg_base.specs.declared.fault.InputFault.{InputFault}
use Rattle.hg_base.specs.declared.fault.ReadError.{ReadError}
use Rattle.hg_base.specs.declared.fault.ReadError.TheVariants as errors
use Rattle.input_tokens.specs.Tokens.{blanked}
use Rattle.input_tokens.specs.Rules.{fault}
use Rattle.input_tokens.specs.declared.token.Found.{Found}
use Rattle.input_tokens.specs.declared.lexer.Lexer.{Lexer}
use Rattle.pgm_reader.specs.declared.stage.Field.{Field}
use Rattle.pgm_reader.specs.declared.stage.Field.TheVariants as fields
use Rattle.pgm_reader.specs.declared.stage.Stage.TheVariants as stages
use Rattle.input_tokens.specs.Progress.{Answers}
use Rattle.pgm_reader.specs.Pgm.{cut, token_cut_at, gap, width, height, greatest, samples, pixels, from_width, from_height, from_greatest}
use Rattle.pgm_reader.specs.Lexing.{next_token, cut_token}
use Rattle.pgm_reader.specs.Parsing.{Parsing, IsFaultOf, reading, reading_at, from_field, from_samples, hash_ends}
use Rattle.pgm_reader.proofs.BytesRead.{reads-at, drop-none}

pub fault-answers : (p : Parsing) (end : ℕ) (answer : ReadError) → IsFaultOf p end answer → Answers (Err answer) (reading p end end [])
fault-answers p end (errors.Fault f) is = is
fault-answers p end errors.OutOfMemory is = absurd is

-- the fault of a last number, or else that the input ends too early
pub fault-of : (p : Parsing) (end : ℕ) (r : Result ℕ InputFault) (answer : ReadError)
    → MatchResult r (λ n. answer ≡ errors.Fault (record { kind = Truncated; at = end; value = 0 })) (λ f. answer ≡ errors.Fault f)
    → ((n : ℕ) → r ≡ Ok n → reading p end end [] ≡ fault Truncated end 0)
    → ((f : InputFault) → r ≡ Err f → reading p end end [] ≡ Err f)
    → IsFaultOf p end answer
fault-of p end (Ok n) answer m ok err = rw m (ok n refl)
fault-of p end (Err f) answer m ok err = rw m (err f refl)

from-none : (field : Field) (p : Parsing) (end : ℕ) → from_field field p end None ≡ fault Truncated end 0
unfolding from_field from_width from_height from_greatest
from-none fields.Width p end = refl
from-none fields.Height p end = refl
from-none fields.Greatest p end = refl

-- no token was begun
pub last-none : (p : Parsing) (end : ℕ) (field : Field) (lexer : Lexer) → p.stage ≡ stages.Header field lexer
    → ((hash : Bool) (place : ℕ) → next_token hash lexer place [] ≡ None) → reading p end end [] ≡ fault Truncated end 0
unfolding reading_at
last-none p end field lexer e none = reads-at p _ end end [] e ∙ ap (from_field field p end) (none (hash_ends field) end) ∙ from-none field p end

last-token : (p : Parsing) (end : ℕ) (field : Field) (lexer : Lexer) (found : Found) → p.stage ≡ stages.Header field lexer
    → ((hash : Bool) (place : ℕ) → next_token hash lexer place [] ≡ Some (cut_token found place []))
    → reading p end end [] ≡ from_field field p end (Some (cut_token found end []))
unfolding reading_at
last-token p end field lexer found e some = reads-at p _ end end [] e ∙ ap (from_field field p end) (some (hash_ends field) end)

-- what the token of a field is read as, where it is the last
abbrev pub read_as : Field → Parsing → Found → Result ℕ InputFault
read_as fields.Width p found = width found.at found.token
read_as fields.Height p found = height p.width found.at found.token
read_as fields.Greatest p found = greatest found.at found.token

from-fault : (field : Field) (p : Parsing) (end : ℕ) (found : Found) (f : InputFault) → read_as field p found ≡ Err f
    → from_field field p end (Some (cut_token found end [])) ≡ Err f
unfolding from_field from_width from_height from_greatest
from-fault fields.Width p end found f e = rw e refl
from-fault fields.Height p end found f e = rw e refl
from-fault fields.Greatest p end found f e = rw e refl

from-ok : (field : Field) (p : Parsing) (end : ℕ) (found : Found) (n : ℕ) → read_as field p found ≡ Ok n
    → from_field field p end (Some (cut_token found end [])) ≡ fault Truncated end 0
unfolding from_field from_width from_height from_greatest pixels cut token_cut_at gap blanked
from-ok fields.Width p end found n e = rw e refl
from-ok fields.Height p end found n e = rw e refl
from-ok fields.Greatest p end found n e = rw e refl

-- the last token's answer
pub last-answer : (p : Parsing) (end : ℕ) (field : Field) (lexer : Lexer) (found : Found) (r : Result ℕ InputFault) (answer : ReadError)
    → p.stage ≡ stages.Header field lexer
    → ((hash : Bool) (place : ℕ) → next_token hash lexer place [] ≡ Some (cut_token found place []))
    → r ≡ read_as field p found
    → MatchResult r (λ n. answer ≡ errors.Fault (record { kind = Truncated; at = end; value = 0 })) (λ f. answer ≡ errors.Fault f)
    → IsFaultOf p end answer
last-answer p end field lexer found r answer e some read m =
    let last = last-token p end field lexer found e some in
    fault-of p end r answer m (λ n ok. last ∙ from-ok field p end found n (sym read ∙ ok)) (λ f err. last ∙ from-fault field p end found f (sym read ∙ err))

-- the form itself is cut
pub form-last : (p : Parsing) (end : ℕ) → p.stage ≡ stages.Form → reading p end end [] ≡ fault Truncated end 0
unfolding reading_at cut token_cut_at gap blanked from_width
form-last p end e = reads-at p _ end end [] e ∙ rw (drop-none (2 - end)) refl

some-size : (small : Bool) → nat_lt 0 (if small then 1 else 2) ≡ true
some-size true = refl
some-size false = refl

pub sample-cut : (end max k place : ℕ) → samples end max (suc k) place [] ≡ fault Truncated end 0
unfolding samples
sample-cut end max k place = rw (some-size (nat_lt max 256)) refl

left : (n k : ℕ) → k < n → n - k ≡ suc (n - (k + 1))
left n k h = omega arith

-- a sample's second byte is missing
pub low-last : (p : Parsing) (end : ℕ) (high : ℕ) → p.stage ≡ stages.LowByte high → length p.samples < p.width * p.height → nat_lt p.max 256 ≡ false
    → reading p end end [] ≡ fault Truncated end 0
unfolding reading_at from_samples samples
low-last p end high e some large = reads-at p _ end end [] e ∙ rw (left (p.width * p.height) (length p.samples) some, large) refl

-- samples are missing
pub samples-last : (p : Parsing) (end : ℕ) → p.stage ≡ stages.Samples → length p.samples < p.width * p.height → reading p end end [] ≡ fault Truncated end 0
unfolding reading_at from_samples
samples-last p end e some =
    let k = p.width * p.height - (length p.samples + 1) in
    reads-at p _ end end [] e ∙ rw (left (p.width * p.height) (length p.samples) some, sample-cut end p.max k end) refl

-- all samples are there
pub samples-all : (p : Parsing) (end : ℕ) → p.stage ≡ stages.Samples → length p.samples ≡ p.width * p.height
    → reading p end end [] ≡ Ok (record { width = p.width; height = p.height; max = p.max; samples = p.samples })
unfolding reading_at from_samples samples
samples-all p end e all =
    let none : p.width * p.height - length p.samples ≡ zero = omega (arith, all) in
    reads-at p _ end end [] e ∙ rw (none, append-nil p.samples) refl
