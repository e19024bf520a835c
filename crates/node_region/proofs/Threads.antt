-- Numbers each of which tells the next: what a change of what they tell means for them.
use Rattle.std.proofs.Common.{◌≡◌, ◌≢◌, ℕ, zero, suc, ◌+◌, ◌-◌, ◌<◌, ◌≤◌, inl, inr, List, [], ◌∷◌, ◌++◌, length, refl, sym, ap, ◌∙◌, subst, zero-add, arith}
use Rattle.std.proofs.lemmas.Bool.{cases_eq}
use Rattle.std.specs.List.{range_with_len}
use Rattle.hg_base.specs.Lists.{IsIn}
use Rattle.hg_base.proofs.Lists.{IsIn-append, IsIn-append_back}
use Rattle.node_region.specs.Pool.{AreDifferent}
use Rattle.node_region.specs.Tables.{next_of, thread, told_after}

-- two tables of links tell the same at each number of a list
abbrev pub TellSame : ℕ → List ℕ → List ℕ → List ℕ → Type 0
TellSame first l m is = (i : ℕ) → IsIn i is → next_of first m i ≡ next_of first l i

pub thread-length : (first : ℕ) (l : List ℕ) (k h : ℕ) → length (thread first l k h) ≡ k
thread-length first l zero h = refl
thread-length first l (suc k) h = omega (arith, thread-length first l k (next_of first l h))

-- one more number
pub thread-last : (first : ℕ) (l : List ℕ) (k h : ℕ) → thread first l (suc k) h ≡ thread first l k h ++ told_after first l k h ∷ []
thread-last first l zero h = refl
thread-last first l (suc k) h = ap (λ is. h ∷ is) (thread-last first l k (next_of first l h))

-- a number of a list is one of a longer list
pub thread-longer : (first : ℕ) (l : List ℕ) (k h i : ℕ) → IsIn i (thread first l k h) → IsIn i (thread first l (suc k) h)
thread-longer first l zero h i is = absurd is
thread-longer first l (suc k) h i (inl same) = inl same
thread-longer first l (suc k) h i (inr is) = inr (thread-longer first l k (next_of first l h) i is)

-- the last number is one of them
pub told-in : (first : ℕ) (l : List ℕ) (k h : ℕ) → IsIn (told_after first l k h) (thread first l (suc k) h)
told-in first l zero h = inl refl
told-in first l (suc k) h = inr (told-in first l k (next_of first l h))

-- the number reached depends on what those before it tell
pub told-same : (first : ℕ) (l m : List ℕ) (k h : ℕ) → TellSame first l m (thread first l k h) → told_after first m k h ≡ told_after first l k h
told-same first l m zero h same = refl
told-same first l m (suc k) h same =
    rw (same h (inl refl)) (told-same first l m k (next_of first l h) (λ i is. same i (inr is)))

-- what the last number tells changes no list
pub thread-same : (first : ℕ) (l m : List ℕ) (k h : ℕ) → TellSame first l m (thread first l k h) → thread first m (suc k) h ≡ thread first l (suc k) h
thread-same first l m zero h same = refl
thread-same first l m (suc k) h same =
    rw (same h (inl refl)) (ap (λ is. h ∷ is) (thread-same first l m k (next_of first l h) (λ i is. same i (inr is))))

pub thread-kept : (first : ℕ) (l m : List ℕ) (k h : ℕ) → TellSame first l m (thread first l k h) → thread first m k h ≡ thread first l k h
thread-kept first l m zero h same = refl
thread-kept first l m (suc k) h same = thread-same first l m k h (λ i is. same i (thread-longer first l k h i is))

-- the same for numbers of another range
pub thread-moved : (first from : ℕ) (l m : List ℕ) (k h : ℕ) → ((i : ℕ) → IsIn i (thread first l k h) → next_of from m i ≡ next_of first l i) → thread from m k h ≡ thread first l k h
thread-moved first from l m zero h same = refl
thread-moved first from l m (suc k) h same =
    rw (same h (inl refl)) (ap (λ is. h ∷ is) (thread-moved first from l m k (next_of first l h) (λ i is. same i (inr is))))

pub told-moved : (first from : ℕ) (l m : List ℕ) (k h : ℕ) → ((i : ℕ) → IsIn i (thread first l k h) → next_of from m i ≡ next_of first l i) → told_after from m k h ≡ told_after first l k h
told-moved first from l m zero h same = refl
told-moved first from l m (suc k) h same =
    rw (same h (inl refl)) (told-moved first from l m k (next_of first l h) (λ i is. same i (inr is)))

-- a list is the numbers up to one, and those from the number that it tells on
pub thread-split : (first : ℕ) (l : List ℕ) (k m h : ℕ) → thread first l (suc (k + m)) h ≡ thread first l (suc k) h ++ thread first l m (next_of first l (told_after first l k h))
thread-split first l zero m h = rw zero-add refl
thread-split first l (suc k) m h =
    let e : suc k + m ≡ suc (k + m) = omega arith in
    rw e (ap (λ is. h ∷ is) (thread-split first l k m (next_of first l h)))

pub told-split : (first : ℕ) (l : List ℕ) (k m h : ℕ) → told_after first l (suc (k + m)) h ≡ told_after first l m (next_of first l (told_after first l k h))
told-split first l zero m h = rw zero-add refl
told-split first l (suc k) m h =
    let e : suc k + m ≡ suc (k + m) = omega arith in
    rw e (told-split first l k m (next_of first l h))

-- numbers that each tell the next one up
pub thread-rising : (first : ℕ) (l : List ℕ) (k h : ℕ) → ((i : ℕ) → h ≤ i → i < h + k → next_of first l i ≡ i + 1) → thread first l k h ≡ range_with_len h k
thread-rising first l zero h up = refl
thread-rising first l (suc k) h up =
    rw (up h (omega arith) (omega arith)) (ap (λ is. h ∷ is) (thread-rising first l k (h + 1) (λ i low high. up i (omega arith) (omega arith))))

pub told-rising : (first : ℕ) (l : List ℕ) (k h : ℕ) → ((i : ℕ) → h ≤ i → i < h + k → next_of first l i ≡ i + 1) → told_after first l k h ≡ h + k
told-rising first l zero h up = omega arith
told-rising first l (suc k) h up =
    rw (up h (omega arith) (omega arith)) (told-rising first l k (h + 1) (λ i low high. up i (omega arith) (omega arith)) ∙ omega arith)

-- a list without repeats, in parts
pub different-front : (xs ys : List ℕ) → AreDifferent (xs ++ ys) → AreDifferent xs
different-front [] ys once = tt
different-front (x ∷ xs) ys once = (λ is. once.0 (IsIn-append x xs ys (inl is)), different-front xs ys once.1)

pub different-apart : (xs ys : List ℕ) → AreDifferent (xs ++ ys) → (i : ℕ) → IsIn i xs → IsIn i ys → ⊥
different-apart [] ys once i is js = is
different-apart (x ∷ xs) ys once i (inl same) js = once.0 (IsIn-append x xs ys (inr (let P : ℕ → Type 0 = λ n. IsIn n ys in subst P (sym same) js)))
different-apart (x ∷ xs) ys once i (inr is) js = different-apart xs ys once.1 i is js

pub different-append : (xs ys : List ℕ) → AreDifferent xs → AreDifferent ys → ((i : ℕ) → IsIn i xs → IsIn i ys → ⊥) → AreDifferent (xs ++ ys)
different-append [] ys once again apart = again
different-append (x ∷ xs) ys once again apart = (
  λ is. elim (IsIn-append_back x xs ys is) [ inl front ↦ once.0 front | inr behind ↦ apart x (inl refl) behind ],
  different-append xs ys once.1 again (λ i is js. apart i (inr is) js),
)

-- a number within a range: all different
pub rising-from : (a n i : ℕ) → IsIn i (range_with_len a n) → (a ≤ i) × (i < a + n)
rising-from a zero i is = absurd is
rising-from a (suc n) i (inl same) = (omega (arith, same), omega (arith, same))
rising-from a (suc n) i (inr is) =
    let rest = rising-from (a + 1) n i is in
    (omega (arith, rest), omega (arith, rest))

pub rising-in : (a n i : ℕ) → a ≤ i → i < a + n → IsIn i (range_with_len a n)
rising-in a zero i low high = absurd (omega (arith, low, high))
rising-in a (suc n) i low high = elim (cases_eq a i) [
  | inl same ↦ inl same
  | inr other ↦ inr (rising-in (a + 1) n i (omega arith) (omega arith))
]

pub rising-different : (a n : ℕ) → AreDifferent (range_with_len a n)
rising-different a zero = tt
rising-different a (suc n) = (λ is. let low = (rising-from (a + 1) n a is).0 in absurd (omega (arith, low)), rising-different (a + 1) n)

-- the first number of a list, and the others
pub thread-first : (first : ℕ) (l : List ℕ) (k h : ℕ) → k ≢ 0 → thread first l k h ≡ h ∷ thread first l (k - 1) (next_of first l h)
thread-first first l zero h some = absurd (some refl)
thread-first first l (suc k) h some = let e : suc k - 1 ≡ k = omega arith in rw e refl
