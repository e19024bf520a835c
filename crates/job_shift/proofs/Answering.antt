-- The end of a shift: one seat has all numbers, and the answer has the hand of each.
use Rattle.std.proofs.Common.{◌≡◌, ◌≢◌, ℕ, zero, suc, ◌+◌, ◌<◌, ◌≤◌, inl, inr, refl, sym, ◌∙◌, subst, ap, arith, true, List, [], ◌∷◌, ◌++◌, length, map}
use Rattle.std.proofs.lemmas.Bool.{cases_eq}
use Rattle.std.proofs.lemmas.List.{length-set, map-append, get_or-set_same, get_or-set_other}
use Rattle.std.specs.Prelude.{slice_index, slice_set}
use mathlib.Core.Option.{some, some-injective, some-ne-none}
use lib.ListN.{get_elem?}
use Rattle.atomic_table.specs.Table.{Final, Seen}
use Rattle.job_shift.specs.Times.{times, total, jobs, times_out}
use Rattle.job_shift.specs.Shift.{ShiftTable, IsShift, Shows, steps}
use Rattle.job_shift.specs.Hands.{HandState, handed, joined_hands}
use Rattle.job_shift.specs.HandedNumbers.{IsHandedTo}
use Rattle.job_shift.specs.Finishing.{entered, handed_among, with_each}
use Rattle.job_shift.specs.declared.view.HandView.{HandView}
use Rattle.job_shift.specs.declared.view.Pair.{Pair}
use Rattle.job_shift.proofs.Sums.{one_if, one_if-same, one_if-other, times-append, total_two}

-- where no other view has anything, one has all
total_only : (f : HandView → ℕ) (vs : List HandView) (k : ℕ) (u : HandView) → get_elem? vs k ≡ some u → ((l : ℕ) (x : HandView) → get_elem? vs l ≡ some x → l ≢ k → f x ≡ 0) → total f vs ≡ f u
total_only f [] k u e none = absurd (some-ne-none u (sym e))
total_only f (x ∷ xs) zero u e none = let same : f x ≡ f u = ap f (some-injective x u e) in let rest = total_none xs (λ l y g. none (suc l) y g (λ h. omega arith)) in omega arith
  where
    total_none : (ys : List HandView) → ((l : ℕ) (y : HandView) → get_elem? ys l ≡ some y → f y ≡ 0) → total f ys ≡ 0
    total_none [] z = refl
    total_none (y ∷ ys) z = let here = z 0 y refl in let rest = total_none ys (λ l w g. z (suc l) w g) in omega arith
total_only f (x ∷ xs) (suc k) u e none = let here = none 0 x refl (λ h. omega arith) in let rest = total_only f xs k u e (λ l y g ne. none (suc l) y g (λ h. ne (omega arith))) in omega arith

-- a view that stands for all workers and has missed has each number once
module _ (count workers id : ℕ) (v : HandView) (s : ShiftTable) (b : IsShift count workers s) (shows : Shows s id v) (missed : v.missed ≡ true) (all : workers ≤ v.share) where
  others_none : (j l : ℕ) (x : HandView) → Shows s l x → l ≢ id → times j (jobs x) ≡ 0
  others_none j l x h ne =
      let t = total_two (λ y. y.share) s.views l id x v ne h shows in let z = b.shares in
      let none : x.pairs ≡ [] = b.left_over l x h (omega arith) in ap (λ (ps : List Pair). times j (map (λ (p : Pair). p.job) ps)) none

  pub all_got : (j : ℕ) → j < count → times j (jobs v) ≡ 1
  all_got j low =
      let t = total_only (λ x. times j (jobs x)) s.views id v shows (others_none j) in
      let o = b.once j (let m = b.missed id v shows missed in omega arith) low in omega arith

pub closed_with_all : (count workers id : ℕ) (v : HandView) (words : List ℕ) (slots : List (Unit {0})) → Final (Seen (IsShift count workers) id v) words slots → v.missed ≡ true → workers ≤ v.share → (j : ℕ) → j < count → times j (jobs v) ≡ 1
closed_with_all count workers id v words slots f missed all j low = all_got count workers id v f.0 f.1.0 f.1.1 missed all j low

-- what two joined views have
pub times-joined : (j : ℕ) (u v : HandView) → times j (jobs (joined_hands u v)) ≡ times j (jobs u) + times j (jobs v)
times-joined j u v = ap (λ (l : List ℕ). times j l) (map-append (λ (p : Pair). p.job) u.pairs v.pairs) ∙ times-append j (jobs u) (jobs v)

pub handed_among-snoc : (hands : List HandState) (hand : HandState) (j : ℕ) → handed_among (hands ++ hand ∷ []) j ≡ handed_among hands j + times j (handed hand)
handed_among-snoc [] hand j = omega arith
handed_among-snoc (h ∷ hs) hand j = let rest = handed_among-snoc hs hand j in omega arith

pub length-with_each : (n : ℕ) (ps xs : List ℕ) → length (with_each n ps xs) ≡ length xs
length-with_each n [] xs = refl
length-with_each n (p ∷ ps) xs = length-with_each n ps (slice_set xs p n) ∙ length-set xs p n

pub length-entered : (hands : List HandState) (xs : List ℕ) → length (entered hands xs) ≡ length xs
length-entered [] xs = refl
length-entered (h ∷ hs) xs = length-entered hs (with_each h.view.number (handed h) xs) ∙ length-with_each h.view.number (handed h) xs

-- a place that isn't named stays
with_each-other : (n : ℕ) (ps xs : List ℕ) (i : ℕ) → times i ps ≡ 0 → slice_index (with_each n ps xs) i ≡ slice_index xs i
with_each-other n [] xs i none = refl
with_each-other n (p ∷ ps) xs i none = elim (cases_eq p i) [
  | inl same ↦ absurd (let o = one_if-same i p same in omega arith)
  | inr ne ↦ (let o = one_if-other i p ne in with_each-other n ps (slice_set xs p n) i (omega arith) ∙ get_or-set_other xs p i n 0 (λ e. ne (sym e)))
]

-- one that is named gets n
with_each-named : (n : ℕ) (ps xs : List ℕ) (i : ℕ) → i < length xs → times i ps ≡ 1 → slice_index (with_each n ps xs) i ≡ n
with_each-named n [] xs i low once = absurd (omega arith)
with_each-named n (p ∷ ps) xs i low once = elim (cases_eq p i) [
  | inl same ↦ (let o = one_if-same i p same in with_each-other n ps (slice_set xs p n) i (omega arith) ∙ subst (λ (q : ℕ). slice_index (slice_set xs q n) i ≡ n) (sym same) (get_or-set_same xs i n 0 low))
  | inr ne ↦ (let o = one_if-other i p ne in with_each-named n ps (slice_set xs p n) i (let l = length-set xs p n in omega arith) (omega arith))
]

entered-other : (hands : List HandState) (xs : List ℕ) (i : ℕ) → handed_among hands i ≡ 0 → slice_index (entered hands xs) i ≡ slice_index xs i
entered-other [] xs i none = refl
entered-other (h ∷ hs) xs i none = entered-other hs (with_each h.view.number (handed h) xs) i (omega arith) ∙ with_each-other h.view.number (handed h) xs i (omega arith)

-- none of the hands got it
among_none : (hands : List HandState) (i : ℕ) → handed_among hands i ≡ 0 → (k : ℕ) (h : HandState) → get_elem? hands k ≡ some h → times i (handed h) ≡ 0
among_none [] i none k h e = absurd (some-ne-none h (sym e))
among_none (g ∷ gs) i none zero h e = let same : times i (handed g) ≡ times i (handed h) = ap (λ (x : HandState). times i (handed x)) (some-injective g h e) in omega arith
among_none (g ∷ gs) i none (suc k) h e = among_none gs i (omega arith) k h e

-- no other than the first hand got it
first_alone : (h : HandState) (hs : List HandState) (i : ℕ) → handed_among hs i ≡ 0 → (k : ℕ) (o : HandState) → get_elem? (h ∷ hs) k ≡ some o → k ≢ 0 → times i (handed o) ≡ 0
first_alone h hs i none zero o e ne = absurd (ne refl)
first_alone h hs i none (suc k) o e ne = among_none hs i none k o e

-- the first hand did not get it
later : (h : HandState) (hs : List HandState) (i n : ℕ) → times i (handed h) ≡ 0 → IsHandedTo hs i n → IsHandedTo (h ∷ hs) i n
later h hs i n none t = record { place = suc t.place; hand = t.hand; stands = t.stands; number = t.number; once = t.once; others = alone }
  where
    alone : (k : ℕ) (o : HandState) → get_elem? (h ∷ hs) k ≡ some o → k ≢ suc t.place → times i (handed o) ≡ 0
    alone zero o e ne = ap (λ (x : HandState). times i (handed x)) (sym (some-injective h o e)) ∙ none
    alone (suc k) o e ne = t.others k o e (λ s. ne (ap suc s))

-- the answer at a number that was handed out once is the number of its hand
pub entered_to : (hands : List HandState) (xs : List ℕ) (i : ℕ) → i < length xs → handed_among hands i ≡ 1 → IsHandedTo hands i (slice_index (entered hands xs) i)
entered_to [] xs i low once = absurd (omega arith)
entered_to (h ∷ hs) xs i low once = elim (cases_eq (times i (handed h)) 0) [
  | inr here ↦ record {
    place = 0;
    hand = h;
    stands = refl;
    number = sym (entered-other hs (with_each h.view.number (handed h) xs) i (omega arith) ∙ with_each-named h.view.number (handed h) xs i low (omega arith));
    once = omega arith;
    others = first_alone h hs i (omega arith);
  }
  | inl none ↦ later h hs i _ none (entered_to hs (with_each h.view.number (handed h) xs) i (let l = length-with_each h.view.number (handed h) xs in omega arith) (omega arith))
]

pub popped_among : (hands left : List HandState) (hand : HandState) (j : ℕ) → hands ≡ left ++ hand ∷ [] → handed_among hands j ≡ handed_among left j + times j (handed hand)
popped_among hands left hand j e = ap (λ (l : List HandState). handed_among l j) e ∙ handed_among-snoc left hand j
