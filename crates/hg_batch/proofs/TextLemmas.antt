-- The texts of a batch's jobs.
use Rattle.std.proofs.Common.{◌≡◌, ℕ, zero, suc, ◌+◌, ◌<◌, refl, sym, ◌∙◌, ap, arith, List, [], ◌∷◌, length, get_or, Option, Some, Result, Ok, Err, Vec}
use Rattle.std.specs.Prelude.{IfOk, slice_get}
use Rattle.std.specs.declared.alloc.Global.{Global}
use Rattle.std.proofs.lemmas.List.{length-map}
use Rattle.std.proofs.lemmas.Option.{slice_get_read}
use Rattle.hg_base.specs.declared.fault.InputFault.{InputFault}
use Rattle.higra_report.specs.Reports.{refusal, report_of}
use Rattle.higra_input.specs.declared.input.Input.{Input}
use Rattle.higra_words.specs.declared.request.Request.{Request}
use Rattle.hg_batch.specs.Batch.{job_text, texts_from}
use Rattle.hg_batch.specs.Cutting.{reads, values}
use Rattle.hg_batch.specs.Jobs.{BatchState}
use Rattle.hg_batch.specs.JobsFields.{state_of}
use Rattle.hg_batch.specs.declared.batch.Batch.TheInside.{Inside}
use Rattle.hg_batch.specs.declared.cutting.Piece.{Piece}

-- a job's text is the same for every number of workers
one_worker : (q : Request) (workers i : ℕ) (r : Result Input InputFault) → job_text (record q { workers = workers }) i r ≡ job_text q i r
unfolding job_text refusal report_of
one_worker q workers i (Ok input) = refl
one_worker q workers i (Err fault) = refl

-- and so are the texts of all jobs
pub texts_by_one : (q : Request) (workers k : ℕ) (rs : List (Result Input InputFault)) → texts_from (record q { workers = workers }) k rs ≡ texts_from q k rs
texts_by_one q workers k [] = refl
texts_by_one q workers k (r ∷ rs) =
    ap (λ (t : List ℕ). t ∷ texts_from (record q { workers = workers }) (k + 1) rs) (one_worker q workers k r)
    ∙ ap (λ (ts : List (List ℕ)). job_text q k r ∷ ts) (texts_by_one q workers (k + 1) rs)

-- there are as many texts as pieces
pub length-texts_from : (q : Request) (k : ℕ) (rs : List (Result Input InputFault)) → length (texts_from q k rs) ≡ length rs
length-texts_from q k [] = refl
length-texts_from q k (r ∷ rs) = ap suc (length-texts_from q (k + 1) rs)

pub length-texts : (b : Inside) (s : BatchState) → state_of b ≡ s → length (texts_from s.request 0 s.pieces) ≡ length b.pieces.items
length-texts b s is =
    sym (ap (λ (t : BatchState). length (texts_from t.request 0 t.pieces)) is) ∙ length-texts_from b.request 0 (values b.pieces.items) ∙ length-map b.pieces.items reads

-- the text at a place is that of the piece there
text_of_piece : (q : Request) (k : ℕ) (ps : List Piece) (i n : ℕ) (p : Piece) → slice_get ps i ≡ Some p → k + i ≡ n → slice_get (texts_from q k (values ps)) i ≡ Some (job_text q n (reads p))
text_of_piece q k [] i n p at is = cc
text_of_piece q k (x ∷ ps) zero n p at is =
    let same : x ≡ p = cc in
    let here : k ≡ n = omega (arith, is) in
    ap (λ (m : ℕ). Some (job_text q m (reads x))) here ∙ ap (λ (y : Piece). Some (job_text q n (reads y))) same
text_of_piece q k (x ∷ ps) (suc i) n p at is = text_of_piece q (k + 1) ps i n p at (omega (arith, is))

pub text_at : (b : Inside) (s : BatchState) (job : ℕ) (p : Piece) → state_of b ≡ s → job < length b.pieces.items → p ≡ get_or b.pieces.items job p → slice_get (texts_from s.request 0 s.pieces) job ≡ Some (job_text b.request job (reads p))
text_at b s job p is within at =
    sym (ap (λ (t : BatchState). slice_get (texts_from t.request 0 t.pieces) job) is)
    ∙ text_of_piece b.request 0 b.pieces.items job job p (slice_get_read b.pieces.items (length b.pieces.items) job p refl within at) (omega arith)

-- a text that was made is the one at its place
pub made_text : {E : Type 0} (r : Result (Vec ℕ Global) E) (o : Option (List ℕ)) (t : List ℕ) → o ≡ Some t → IfOk r (λ text. text.items ≡ t) → IfOk r (λ text. o ≡ Some text.items)
made_text (Ok text) o t is made = is ∙ ap Some (sym made)
made_text (Err e) o t is made = tt
