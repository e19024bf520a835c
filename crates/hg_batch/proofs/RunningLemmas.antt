-- What the ends of a batch come to.
use Rattle.std.proofs.Common.{◌≡◌, inl, inr, ℕ, ◌<◌, ◌≤◌, List, length, Option, Some, None, Result, Ok, Err, refl, sym, ap, ◌∙◌, subst, arith}
use Rattle.std.proofs.lemmas.Bool.{lt-ltb, le-ltb}
use Rattle.std.proofs.lemmas.List.{length-map}
use Rattle.std.specs.Prelude.{IsErrAnd}
use Rattle.std.specs.List.{concat}
use Rattle.hg_base.specs.Outside.{Rose}
use Rattle.hg_base.specs.declared.fault.InputFault.{InputFault}
use Rattle.hg_base.specs.declared.fault.FaultKind.TheVariants.{TooManyJobs, TooManyVertices}
use Rattle.higra_input.proofs.ReadingLemmas.{gave_all, gave_some}
use Rattle.higra_input.specs.Inputs.{too_long}
use Rattle.higra_input.specs.Reading.{Told, GaveAll, GaveTooMuch}
use Rattle.higra_report.specs.Reports.{◌before◌}
use Rattle.higra_input.specs.Getting.{StoodStill}
use Rattle.higra_input.specs.declared.input.Input.{Input}
use Rattle.higra_words.specs.declared.request.Request.{Request}
use Rattle.hg_batch.proofs.PieceLemmas.{count_pieces}
use Rattle.hg_batch.proofs.TextLemmas.{length-texts_from, texts_by_one}
use Rattle.hg_batch.specs.Batch.{batch_fault, batch_text, job_fault, texts_from, vertex_fault}
use Rattle.hg_batch.specs.Getting.{Gets}
use Rattle.hg_batch.specs.Pieces.{all_vertices, pieces, piece_reading, readings}
use Rattle.hg_batch.specs.Running.{Ends, EndsWork, HasFault, IsAnswerTo, MakesText, answer_of, batch_request, status_by}
use Rattle.hg_batch.specs.declared.ending.BatchStatus.{BatchStatus}
use Rattle.hg_batch.specs.declared.ending.BatchStatus.TheVariants as statuses

-- what ended the reading of the source ends the batch
Ends-read : (words : List (List ℕ)) (request : Request) (old new out : Told) (status : BatchStatus) → batch_request words ≡ Some request → Gets old new (Err status) → Ends words old new out out status
Ends-read words request old new out (statuses.Input fault) asked gets = ((request, asked), (gets.1.0, inl gets.1.1), gets.0, refl)
Ends-read words request old new out statuses.ReadFailed asked gets = ((request, asked), gets, refl)
Ends-read words request old new out statuses.OutOfMemory asked gets = refl
Ends-read words request old new out statuses.Success asked gets = absurd gets
Ends-read words request old new out statuses.Usage asked gets = absurd gets
Ends-read words request old new out statuses.WriteFailed asked gets = absurd gets

-- and a result with this status as its error says so
pub EndsWork-read : (words : List (List ℕ)) (request : Request) (old new out : Told) (status : BatchStatus) (result : Result (Unit {0}) BatchStatus) → batch_request words ≡ Some request → Gets old new (Err status) → IsErrAnd result (λ e. e ≡ status) → EndsWork words old new out out result
EndsWork-read words request old new out status (Ok x) asked gets is = absurd is
EndsWork-read words request old new out status (Err e) asked gets is = subst (λ (s : BatchStatus). Ends words old new out out s) (sym is) (Ends-read words request old new out status asked gets)

-- up to 4,096 pieces are no fault, and more are
few_jobs : (count : ℕ) → count ≤ 4096 → job_fault count ≡ None
unfolding job_fault
few_jobs count few = rw (le-ltb _ _ few) refl

many_jobs : (count : ℕ) → 4096 < count → job_fault count ≡ Some (record { kind = TooManyJobs; at = 0; value = count })
unfolding job_fault
many_jobs count many = rw (lt-ltb _ _ many) refl

-- up to 4,194,304 vertices are no fault, and more are
few_vertices : (count : ℕ) → count ≤ 4194304 → vertex_fault count ≡ None
unfolding vertex_fault
few_vertices count few = rw (le-ltb _ _ few) refl

many_vertices : (count : ℕ) → 4194304 < count → vertex_fault count ≡ Some (record { kind = TooManyVertices; at = 0; value = count })
unfolding vertex_fault
many_vertices count many = rw (lt-ltb _ _ many) refl

-- a batch of too many jobs
pub refused_jobs : (request : Request) (bytes : List ℕ) (count : ℕ) (status : BatchStatus) → count ≡ length (pieces bytes) → 4096 < count → status ≡ statuses.Input (record { kind = TooManyJobs; at = 0; value = count }) → MakesText request bytes (Err status)
refused_jobs request bytes count status are many is =
    let fault : job_fault (length (pieces bytes)) ≡ Some (record { kind = TooManyJobs; at = 0; value = count }) = subst (λ (n : ℕ). job_fault n ≡ Some (record { kind = TooManyJobs; at = 0; value = count })) are (many_jobs count many) in
    subst (λ (s : BatchStatus). MakesText request bytes (Err s)) (sym is) (ap (λ (f : Option InputFault). f before vertex_fault (all_vertices (readings bytes))) fault)

-- a batch of not too many jobs has the fault of its vertices
fault_by_vertices : (bytes : List ℕ) → length (pieces bytes) ≤ 4096 → batch_fault bytes ≡ vertex_fault (all_vertices (readings bytes))
fault_by_vertices bytes few = ap (λ (f : Option InputFault). f before vertex_fault (all_vertices (readings bytes))) (few_jobs (length (pieces bytes)) few)

-- a batch of too many vertices
pub refused_vertices : (request : Request) (bytes : List ℕ) (count vertices : ℕ) (status : BatchStatus) → count ≡ length (pieces bytes) → count ≤ 4096 → vertices ≡ all_vertices (readings bytes) → 4194304 < vertices
    → status ≡ statuses.Input (record { kind = TooManyVertices; at = 0; value = vertices }) → MakesText request bytes (Err status)
refused_vertices request bytes count vertices status are few have many is =
    let fault : vertex_fault (all_vertices (readings bytes)) ≡ Some (record { kind = TooManyVertices; at = 0; value = vertices }) =
    subst (λ (n : ℕ). vertex_fault n ≡ Some (record { kind = TooManyVertices; at = 0; value = vertices })) have (many_vertices vertices many) in
    subst (λ (s : BatchStatus). MakesText request bytes (Err s)) (sym is) (fault_by_vertices bytes (omega (arith, are, few)) ∙ fault)

-- a batch that isn't refused
pub accepted : (bytes : List ℕ) (count vertices : ℕ) → count ≡ length (pieces bytes) → count ≤ 4096 → vertices ≡ all_vertices (readings bytes) → vertices ≤ 4194304 → batch_fault bytes ≡ None
accepted bytes count vertices are few have some =
    fault_by_vertices bytes (omega (arith, are, few)) ∙ few_vertices (all_vertices (readings bytes)) (omega (arith, have, some))

-- its text, by one worker a job
pub batch_text-by_one : (request : Request) (workers : ℕ) (bytes : List ℕ) (rs : List (Result Input InputFault)) → rs ≡ readings bytes → concat (texts_from (record request { workers = workers }) 0 rs) ≡ batch_text request bytes
batch_text-by_one request workers bytes rs are =
    ap (λ (ts : List (List ℕ)). concat ts) (texts_by_one request workers 0 rs) ∙ ap (λ (ss : List (Result Input InputFault)). concat (texts_from request 0 ss)) are

-- there are as many texts as pieces
count_of_texts : (request : Request) (bytes : List ℕ) (rs : List (Result Input InputFault)) → rs ≡ readings bytes → length (texts_from request 0 rs) ≡ length (pieces bytes)
count_of_texts request bytes rs are = length-texts_from request 0 rs ∙ ap (λ (ss : List (Result Input InputFault)). length ss) are ∙ length-map (pieces bytes) piece_reading

-- so there is one at least, and as few as pieces at most
pub some_texts : (request : Request) (bytes : List ℕ) (rs : List (Result Input InputFault)) → rs ≡ readings bytes → 1 ≤ length (texts_from request 0 rs)
some_texts request bytes rs are = omega (arith, count_of_texts request bytes rs are, count_pieces bytes)

pub few_texts : (request : Request) (bytes : List ℕ) (rs : List (Result Input InputFault)) (count : ℕ) → rs ≡ readings bytes → count ≡ length (pieces bytes) → count ≤ 4096 → length (texts_from request 0 rs) ≤ 4096
few_texts request bytes rs count are have few = omega (arith, count_of_texts request bytes rs are, have, few)

-- a short input has the status of its pieces
answer-short : (bytes : List ℕ) → length bytes ≤ 134217728 → answer_of bytes ≡ status_by (batch_fault bytes)
unfolding answer_of
answer-short bytes short = rw (le-ltb _ _ short) refl

-- and one of more bytes is too long
answer-long : (bytes : List ℕ) → 134217728 < length bytes → answer_of bytes ≡ statuses.Input too_long
unfolding answer_of
answer-long bytes long = rw (lt-ltb _ _ long) refl

-- the status for what was read to its end
answer-all : (old new : Option (List ℕ)) (gave bytes : List ℕ) (fault : Option InputFault) → GaveAll old new gave → old ≡ Some bytes → batch_fault gave ≡ fault → answer_of bytes ≡ status_by fault
answer-all old new gave bytes fault all told is =
    let same : bytes ≡ gave = gave_all old new gave bytes all.gave all.ended told in
    ap answer_of same ∙ answer-short gave all.short ∙ ap status_by is

-- and of what is too long
answer-much : (old new : Option (List ℕ)) (gave bytes : List ℕ) → GaveTooMuch old new gave → old ≡ Some bytes → answer_of bytes ≡ statuses.Input too_long
answer-much old new gave bytes much told =
    let some : length gave ≤ length bytes = gave_some old new gave bytes much.gave told in
    answer-long bytes (omega (arith, much.long, some))

answer-fault : (old new : Option (List ℕ)) (bytes : List ℕ) (fault : InputFault) → HasFault old new fault → old ≡ Some bytes → statuses.Input fault ≡ answer_of bytes
answer-fault old new bytes fault (gave, inl much) told = ap statuses.Input much.1 ∙ sym (answer-much old new gave bytes much.0 told)
answer-fault old new bytes fault (gave, inr all) told = sym (answer-all old new gave bytes (Some fault) all.0 told all.1)

-- where no read fails, the status is that one, unless memory ran out or the texts weren't written
pub complete_from : (words : List (List ℕ)) (request : Request) (bytes : List ℕ) (old new out out' : Told) (status : BatchStatus) → Ends words old new out out' status → batch_request words ≡ Some request
    → old.bytes ≡ Some bytes → StoodStill old.faults new.faults → IsAnswerTo bytes status
complete_from words request bytes old new out out' statuses.Success ends asked told still = inl (sym (answer-all old.bytes new.bytes ends.0.bytes bytes None ends.0.gave told ends.0.accepted))
complete_from words request bytes old new out out' (statuses.Input fault) ends asked told still = inl (answer-fault old.bytes new.bytes bytes fault ends.1 told)
complete_from words request bytes old new out out' statuses.WriteFailed ends asked told still = inr (inr (refl, answer-all old.bytes new.bytes ends.0.bytes bytes None ends.0.gave told ends.0.accepted))
complete_from words request bytes old new out out' statuses.OutOfMemory ends asked told still = inr (inl refl)
complete_from words request bytes old new out out' statuses.Usage ends asked told still = cc
complete_from words request bytes old new out out' statuses.ReadFailed ends asked told still = absurd (risen old.faults new.faults still ends.1)
  where
    risen : (first last : ℕ) → StoodStill first last → Rose first last → ⊥
    risen first last still (inl rose) = omega (arith, still.same)
    risen first last still (inr ended) = omega (arith, still.below, ended.0)
