-- A batch: the text of each job, and why there is none.
use Rattle.std.specs.Prelude.{ℕ, ◌+◌, nat_lt, if◌then◌else◌, List, [], ◌∷◌, ◌++◌, length, codes, decimal, Option, Some, None, Result, Ok, Err}
use Rattle.std.specs.List.{concat}
use Rattle.hg_base.specs.Fault.{number_of}
use Rattle.hg_base.specs.Text.{headed_line}
use Rattle.hg_base.specs.declared.fault.InputFault.{InputFault}
use Rattle.hg_base.specs.declared.fault.FaultKind.TheVariants.{TooManyJobs, TooManyVertices}
use Rattle.higra_cli.specs.Ending.{name_of}
use Rattle.higra_report.specs.Reports.{refusal, report_of, ◌before◌}
use Rattle.higra_input.specs.declared.input.Input.{Input}
use Rattle.higra_words.specs.declared.request.Request.{Request}
use Rattle.hg_batch.specs.Pieces.{pieces, readings, all_vertices}

-- the line of job i that was done, and its report
abbrev pub done_text : ℕ → List ℕ → List ℕ
done_text i report = headed_line (codes "job") (i ∷ 0 ∷ length report ∷ []) ++ report

-- the line of job i that failed: `job I 3 NUMBER NAME AT VALUE`
abbrev pub failed_text : ℕ → InputFault → List ℕ
failed_text i f = codes "job " ++ (decimal i ++ (codes " 3 " ++ (decimal (number_of f.kind) ++ (32 ∷ headed_line (name_of f.kind) (f.at ∷ f.value ∷ [])))))

-- the text of job i that is refused for this reason, or isn't: then its report is this
abbrev pub job_text_by : ℕ → Option InputFault → List ℕ → List ℕ
job_text_by i None report = done_text i report
job_text_by i (Some fault) report = failed_text i fault

-- the text of job i, whose piece gives this
unfoldable pub job_text : Request → ℕ → Result Input InputFault → List ℕ
job_text q i (Ok input) = job_text_by i (refusal q input) (report_of q input)
job_text q i (Err fault) = failed_text i fault

-- the texts of the jobs from i on
abbrev pub texts_from : Request → ℕ → List (Result Input InputFault) → List (List ℕ)
texts_from q i [] = []
texts_from q i (r ∷ rs) = job_text q i r ∷ texts_from q (i + 1) rs

-- the texts of all jobs, end to end
abbrev pub batch_text : Request → List ℕ → List ℕ
batch_text q bytes = concat (texts_from q 0 (readings bytes))

-- more jobs than a batch may have, if they are
unfoldable pub job_fault : ℕ → Option InputFault
job_fault count = if nat_lt 4096 count then Some (record { kind = TooManyJobs; at = 0; value = count }) else None

-- more vertices than a batch may have, if they are
unfoldable pub vertex_fault : ℕ → Option InputFault
vertex_fault count = if nat_lt 4194304 count then Some (record { kind = TooManyVertices; at = 0; value = count }) else None

-- why the batch is refused, if it is: for its number of pieces, or for the vertices of those that are edge lists
abbrev pub batch_fault : List ℕ → Option InputFault
batch_fault bytes = job_fault (length (pieces bytes)) before vertex_fault (all_vertices (readings bytes))
