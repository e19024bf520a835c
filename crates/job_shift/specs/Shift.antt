-- The rule of a shift: what its word and the views of its hands keep to between any two steps, whatever their order.
use Rattle.std.specs.Prelude.{◌≡◌, ℕ, ◌+◌, ◌<◌, ◌≤◌, [], length, slice_index, true}
use mathlib.Core.Option.{some}
use lib.ListN.{get_elem?}
use Rattle.atomic_table.specs.Table.{State}
use Rattle.job_shift.specs.Times.{total, times_out, jobs, pair_count, missed_share}
use Rattle.job_shift.specs.declared.view.HandView.{HandView}

-- the table of a shift: one word, no slots, and the views of its hands
abbrev pub ShiftTable : Type 0
ShiftTable = State (Unit {0}) HandView

-- the one word: how many steps were made so far
abbrev pub steps : ShiftTable → ℕ
steps s = slice_index s.words 0

-- hand k's view is v
abbrev pub Shows : ShiftTable → ℕ → HandView → Type 0
Shows s k v = get_elem? s.views k ≡ some v

-- The rule of a shift of so many jobs and workers. Share 0 marks a view that was left over by a join: it has no pairs, and
-- each other view has a share of at least 1.
pub record IsShift (count workers : ℕ) (s : ShiftTable) : Type 0 where
  pub some_job : 1 ≤ count
  pub few_jobs : count ≤ 4096
  pub some_worker : 1 ≤ workers
  pub few_workers : workers ≤ 64
  pub word : length s.words ≡ 1
  -- each number below both the word and count is the job of exactly one pair, and no pair has another job
  pub once : (j : ℕ) → j < steps s → j < count → times_out s.views j ≡ 1
  pub not_yet : (j : ℕ) → steps s ≤ j → times_out s.views j ≡ 0
  pub no_job : (j : ℕ) → count ≤ j → times_out s.views j ≡ 0
  pub pairs : total pair_count s.views ≤ steps s
  -- the shares sum to the number of workers, and each hand knows the shift's numbers
  pub shares : total (λ v. v.share) s.views ≡ workers
  pub left_over : (k : ℕ) (v : HandView) → Shows s k v → v.share ≡ 0 → v.pairs ≡ []
  pub known : (k : ℕ) (v : HandView) → Shows s k v → 1 ≤ v.share → (v.count ≡ count) × (v.workers ≡ workers)
  -- where a hand has missed, all numbers were handed out; a hand misses once for each worker that it stands for
  pub missed : (k : ℕ) (v : HandView) → Shows s k v → v.missed ≡ true → count ≤ steps s
  pub misses : steps s ≤ count + total missed_share s.views

-- pair a of view k has job j
pub record IsPairOf (s : ShiftTable) (k a j : ℕ) : Type 0 where
  pub view : HandView
  pub shows : Shows s k view
  pub job : get_elem? (jobs view) a ≡ some j
