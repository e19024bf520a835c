-- What workers have done: the texts of the jobs that their hands got.
use Rattle.std.specs.Prelude.{◌≡◌, ℕ, ◌+◌, List, [], ◌∷◌, map, All, length, slice_get, Some, false}
use Rattle.job_shift.specs.Times.{times}
use Rattle.job_shift.specs.Hands.{HandState, ShiftState, IsHandOf, IsFresh, HasMissed}
use Rattle.job_shift.specs.Finishing.{handed_among}
use Rattle.job_shift.specs.declared.working.Done.{Done}
use Rattle.job_shift.specs.declared.working.Worker.{Worker}

-- each text is that of its job
abbrev pub AreTexts : List (List ℕ) → List Done → Type 0
AreTexts texts done = All (λ (d : Done). slice_get texts d.job ≡ Some d.text.items) done

-- the jobs that were done
abbrev pub done_jobs : List Done → List ℕ
done_jobs done = map (λ (d : Done). d.job) done

-- Hands that have gone on until they missed, and what was done since: the text of each job, as often as its number was
-- handed to them.
pub record HaveDone (all : List (List ℕ)) (shift : ShiftState) (old new : List HandState) (done : List Done) : Type 0 where
  pub each : All (λ hand. IsHandOf hand shift) new
  pub missed : All HasMissed new
  pub texts : AreTexts all done
  pub jobs : (j : ℕ) → handed_among new j ≡ handed_among old j + times j (done_jobs done)

-- a worker that has not begun
abbrev pub IsReady : ShiftState → Worker → Type 0
IsReady shift w = IsHandOf w.hand shift × IsFresh w.hand × (w.failed ≡ false)

-- what a worker has done whose hand has missed: the text of each job whose number it got, each once for each time
abbrev pub HasWorked : List (List ℕ) → ShiftState → Worker → Type 0
HasWorked all shift w = w.failed ≡ false → HaveDone all shift [] (w.hand ∷ []) w.done.items

-- the same number of workers, each of which has worked
abbrev pub HaveWorked : List (List ℕ) → ShiftState → List Worker → List Worker → Type 0
HaveWorked all shift old new = All (HasWorked all shift) new × (length new ≡ length old)

-- what a crew of workers comes to that has worked: its hands, and all that it has done
abbrev pub IsCrewOf : List Worker → List HandState → List Done → Type 0
IsCrewOf crew hands done = (all : List (List ℕ)) (shift : ShiftState) → All (HasWorked all shift) crew → HaveDone all shift [] hands done
