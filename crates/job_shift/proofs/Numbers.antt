-- The numbers that were handed out: distinct, and those of the first jobs.
use Rattle.std.proofs.Common.{◌≡◌, ◌≢◌, ℕ, zero, suc, ◌+◌, ◌<◌, ◌≤◌, inl, inr, refl, sym, ◌∙◌, subst, ap, arith, List, [], ◌∷◌, map}
use Rattle.std.proofs.lemmas.Bool.{cases_eq, cases_lt}
use mathlib.Core.Option.{some, some-injective, some-ne-none}
use lib.ListN.{get_elem?}
use Rattle.job_shift.specs.Times.{times, total, jobs, times_out}
use Rattle.job_shift.specs.Shift.{ShiftTable, IsShift, IsPairOf, Shows, steps}
use Rattle.job_shift.specs.declared.view.HandView.{HandView}
use Rattle.job_shift.specs.declared.view.Pair.{Pair}
use Rattle.job_shift.proofs.Sums.{one_if, one_if-same, one_if-other, total_has, total_two}

-- what stands in a list stands there once at least
pub times_has : (x : ℕ) (ys : List ℕ) (a : ℕ) → get_elem? ys a ≡ some x → 1 ≤ times x ys
times_has x [] a e = absurd (some-ne-none x (sym e))
times_has x (y ∷ ys) zero e = let o = one_if-same x y (some-injective y x e) in omega arith
times_has x (y ∷ ys) (suc a) e = let rest = times_has x ys a e in omega arith

-- what stands at two places stands there twice at least
times_two : (x : ℕ) (ys : List ℕ) (a b : ℕ) → a ≢ b → get_elem? ys a ≡ some x → get_elem? ys b ≡ some x → 2 ≤ times x ys
times_two x [] a b ne e f = absurd (some-ne-none x (sym e))
times_two x (y ∷ ys) zero zero ne e f = absurd (ne refl)
times_two x (y ∷ ys) zero (suc b) ne e f = let o = one_if-same x y (some-injective y x e) in let rest = times_has x ys b f in omega arith
times_two x (y ∷ ys) (suc a) zero ne e f = let o = one_if-same x y (some-injective y x f) in let rest = times_has x ys a e in omega arith
times_two x (y ∷ ys) (suc a) (suc b) ne e f = let rest = times_two x ys a b (λ s. ne (ap suc s)) e f in omega arith

-- what stands in a list stands at some place
times_some : (x : ℕ) (ys : List ℕ) → 1 ≤ times x ys → (a : ℕ) × (get_elem? ys a ≡ some x)
times_some x [] h = absurd (omega arith)
times_some x (y ∷ ys) h = elim (cases_eq y x) [
  | inl same ↦ (zero, ap some same)
  | inr ne ↦ (let o = one_if-other x y ne in let rest = times_some x ys (omega arith) in (suc rest.0, rest.1))
]

-- where all have some, a view has some
total_some : (f : HandView → ℕ) (vs : List HandView) → 1 ≤ total f vs → (k : ℕ) × ((v : HandView) × ((get_elem? vs k ≡ some v) × (1 ≤ f v)))
total_some f [] h = absurd (omega arith)
total_some f (v ∷ vs) h = elim (cases_lt 0 (f v)) [
  | inl some_here ↦ (zero, (v, (refl, omega arith)))
  | inr none ↦ (let rest = total_some f vs (omega arith) in (suc rest.0, (rest.1.0, rest.1.1)))
]

module _ (count workers : ℕ) (s : ShiftTable) (b : IsShift count workers s) where
  -- the job of a pair was handed out
  out : (k a j : ℕ) → IsPairOf s k a j → 1 ≤ times_out s.views j
  out k a j p = let h = times_has j (jobs p.view) a p.job in let t = total_has (λ v. times j (jobs v)) s.views k p.view p.shows in omega arith

  is_job : (k a j : ℕ) → IsPairOf s k a j → j < count
  is_job k a j p = elim (cases_lt j count) [
    | inl low ↦ low
    | inr high ↦ absurd (let o = out k a j p in let z = b.no_job j high in omega arith)
  ]

  is_step : (k a j : ℕ) → IsPairOf s k a j → j < steps s
  is_step k a j p = elim (cases_lt j (steps s)) [
    | inl low ↦ low
    | inr high ↦ absurd (let o = out k a j p in let z = b.not_yet j high in omega arith)
  ]

  is_one : (k l a c j : ℕ) (p : IsPairOf s k a j) (q : IsPairOf s l c j) → times_out s.views j ≡ 1
  is_one k l a c j p q = b.once j (is_step k a j p) (is_job k a j p)

  -- two pairs of one job are of one view
  one_view : (k l a c j : ℕ) → IsPairOf s k a j → IsPairOf s l c j → k ≡ l
  one_view k l a c j p q = elim (cases_eq k l) [
    | inl same ↦ same
    | inr ne ↦ absurd (let o = is_one k l a c j p q in let x = times_has j (jobs p.view) a p.job in let y = times_has j (jobs q.view) c q.job in
        let t = total_two (λ v. times j (jobs v)) s.views k l p.view q.view ne p.shows q.shows in omega arith)
  ]

  -- and at one place
  one_place : (k l a c j : ℕ) → k ≡ l → IsPairOf s k a j → IsPairOf s l c j → a ≡ c
  one_place k l a c j same p q = elim (cases_eq a c) [
    | inl here ↦ here
    | inr ne ↦ absurd (let o = is_one k l a c j p q in let x = times_two j (jobs p.view) a c ne p.job job in
        let t = total_has (λ v. times j (jobs v)) s.views k p.view p.shows in omega arith)
  ]
    where
      job : get_elem? (jobs p.view) c ≡ some j
      job = subst (λ (v : HandView). get_elem? (jobs v) c ≡ some j) (some-injective q.view p.view (sym q.shows ∙ subst (λ (n : ℕ). get_elem? s.views n ≡ some p.view) same p.shows)) q.job

  -- each number below both counts is in some pair
  some_pair : (j : ℕ) → j < count → j < steps s → (k : ℕ) × ((a : ℕ) × IsPairOf s k a j)
  some_pair j low step =
      let t = total_some (λ v. times j (jobs v)) s.views (let o = b.once j step low in omega arith) in
      let m = times_some j (jobs t.1.0) t.1.1.1 in
      (t.0, (m.0, record { view = t.1.0; shows = t.1.1.0; job = m.1 }))

-- the laws over all shifts
pub pairs_are_jobs : (count workers k a j : ℕ) (s : ShiftTable) → IsShift count workers s → IsPairOf s k a j → (j < count) × (j < steps s)
pairs_are_jobs count workers k a j s b p = (is_job count workers s b k a j p, is_step count workers s b k a j p)

pub pairs_are_distinct : (count workers k l a c j : ℕ) (s : ShiftTable) → IsShift count workers s → IsPairOf s k a j → IsPairOf s l c j → (k ≡ l) × (a ≡ c)
pairs_are_distinct count workers k l a c j s b p q = let same = one_view count workers s b k l a c j p q in (same, one_place count workers s b k l a c j same p q)

pub pairs_are_all : (count workers j : ℕ) (s : ShiftTable) → IsShift count workers s → j < count → j < steps s → (k : ℕ) × ((a : ℕ) × IsPairOf s k a j)
pairs_are_all count workers j s b low step = some_pair count workers s b j low step

-- where no view has a pair, no step was made
pub none_handed_out : (count workers : ℕ) (s : ShiftTable) → IsShift count workers s → ((k : ℕ) (v : HandView) → Shows s k v → v.pairs ≡ []) → steps s ≡ 0
none_handed_out count workers s b none = elim (cases_lt 0 (steps s)) [
  | inl some_step ↦ absurd (let p = some_pair count workers s b 0 (let j = b.some_job in omega arith) some_step in no_pair p.0 p.1.0 p.1.1)
  | inr no_step ↦ omega arith
]
  where
    no_pair : (k a : ℕ) → IsPairOf s k a 0 → ⊥
    no_pair k a p = let e : jobs p.view ≡ [] = ap (λ (ps : List Pair). map (λ (q : Pair). q.job) ps) (none k p.view p.shows) in some-ne-none 0 (sym (sym (ap (λ (l : List ℕ). get_elem? l a) e) ∙ p.job))
