-- Texts at the places of their jobs.
use Rattle.std.proofs.Common.{◌≡◌, ◌≢◌, ℕ, zero, suc, ◌+◌, ◌<◌, ◌≤◌, ◌⊎◌, inl, inr, refl, sym, ◌∙◌, subst, ap, arith, List, [], ◌∷◌, ◌++◌, map, take, length, get_or, append-nil}
use Rattle.std.proofs.lemmas.Bool.{cases_eq}
use Rattle.std.proofs.lemmas.List.{length-set, length-map, map-append, map-set, map_more, get_or-set_same}
use Rattle.std.proofs.lemmas.List.Folds.{concat-append}
use Rattle.std.proofs.lemmas.Option.{slice_get-get_or, slice_get_within}
use Rattle.std.specs.Prelude.{All, Some, slice_get, slice_set, Vec}
use Rattle.std.specs.List.{concat}
use Rattle.std.specs.declared.alloc.Global.{Global}
use mathlib.Core.Option.{some, some-injective, some-ne-none}
use lib.ListN.{get_elem?}
use Rattle.job_shift.specs.Times.{times}
use Rattle.job_shift.specs.Hands.{HandState, ShiftState, handed}
use Rattle.job_shift.specs.HandedNumbers.{IsHandedTo}
use Rattle.job_shift.specs.Finishing.{handed_among}
use Rattle.job_shift.specs.Doing.{AreTexts, HaveDone, done_jobs}
use Rattle.job_shift.specs.Placing.{bytes_of_texts}
use Rattle.job_shift.specs.declared.working.Done.{Done}
use Rattle.job_shift.proofs.Sums.{one_if, one_if-other, times-append}
use Rattle.job_shift.proofs.Popped.{popped_front, popped_last}

abbrev pub Texts : Type 0
Texts = List (Vec ℕ Global)

-- what stands at a place that was set, and at the others
set_here : {X : Type 0} (xs : List X) (i : ℕ) (v : X) → i < length xs → slice_get (slice_set xs i v) i ≡ Some v
set_here xs i v low = slice_get-get_or (slice_set xs i v) i v (let l = length-set xs i v in omega arith) ∙ ap Some (get_or-set_same xs i v v low)

set_other : {X : Type 0} (xs : List X) (i j : ℕ) (v : X) → j ≢ i → slice_get (slice_set xs i v) j ≡ slice_get xs j
set_other [] i j v ne = refl
set_other (x ∷ xs) zero zero v ne = absurd (ne refl)
set_other (x ∷ xs) zero (suc j) v ne = refl
set_other (x ∷ xs) (suc i) zero v ne = refl
set_other (x ∷ xs) (suc i) (suc j) v ne = set_other xs i j v (λ e. ne (ap suc e))

-- lists of one length that agree at each place are one
same_lists : {X : Type 0} (xs ys : List X) → length xs ≡ length ys → ((k : ℕ) → k < length xs → slice_get xs k ≡ slice_get ys k) → xs ≡ ys
same_lists [] [] l e = refl
same_lists [] (y ∷ ys) l e = absurd (omega arith)
same_lists (x ∷ xs) [] l e = absurd (omega arith)
same_lists (x ∷ xs) (y ∷ ys) l e =
    let first : Some x ≡ Some y = e zero (omega arith) in
    let rest : xs ≡ ys = same_lists xs ys (omega arith) (λ k h. e (suc k) (omega arith)) in cc

-- Of the jobs that were done at the start, these are left; each other's text stands at its place.
abbrev pub IsPlaced : List Done → List Done → Texts → Type 0
IsPlaced start left places = (texts : List (List ℕ)) → AreTexts texts start
    → AreTexts texts left × ((j : ℕ) → 1 ≤ times j (done_jobs start) → (1 ≤ times j (done_jobs left)) ⊎ (slice_get (bytes_of_texts places) j ≡ slice_get texts j))

pub none_placed : (start : List Done) (places : Texts) → IsPlaced start start places
none_placed start places texts are = (are, λ j h. inl h)

-- one more text is placed
pub one_placed : (start rest front : List Done) (d : Done) (places placed : Texts) → IsPlaced start rest places → rest ≡ front ++ d ∷ [] → d.job < length places → placed ≡ slice_set places d.job d.text → IsPlaced start front placed
one_placed start rest front d places placed old e low set texts are = (popped_front (λ (x : Done). slice_get texts x.job ≡ Some x.text.items) rest front d e (old texts are).0, at)
  where
    after : bytes_of_texts placed ≡ slice_set (bytes_of_texts places) d.job d.text.items
    after = ap (λ (l : Texts). bytes_of_texts l) set ∙ map-set (λ (t : Vec ℕ Global). t.items) places d.job d.text

    here : slice_get (bytes_of_texts placed) d.job ≡ slice_get texts d.job
    here = ap (λ (l : List (List ℕ)). slice_get l d.job) after ∙ set_here (bytes_of_texts places) d.job d.text.items (let l = length-map places (λ (t : Vec ℕ Global). t.items) in omega arith)
        ∙ sym (popped_last (λ (x : Done). slice_get texts x.job ≡ Some x.text.items) rest front d e (old texts are).0)

    at : (j : ℕ) → 1 ≤ times j (done_jobs start) → (1 ≤ times j (done_jobs front)) ⊎ (slice_get (bytes_of_texts placed) j ≡ slice_get texts j)
    at j h = elim (cases_eq d.job j) [
      | inl same ↦ inr (subst (λ (k : ℕ). slice_get (bytes_of_texts placed) k ≡ slice_get texts k) same here)
      | inr ne ↦ elim ((old texts are).1 j h) [
        | inl more ↦ inl (let a : times j (done_jobs rest) ≡ times j (done_jobs front ++ d.job ∷ []) = ap (λ (l : List Done). times j (done_jobs l)) e ∙ ap (λ (l : List ℕ). times j l) (map-append (λ (x : Done). x.job) front (d ∷ [])) in
            let b = times-append j (done_jobs front) (d.job ∷ []) in let o = one_if-other j d.job ne in omega arith)
        | inr right ↦ inr (ap (λ (l : List (List ℕ)). slice_get l j) after ∙ set_other (bytes_of_texts places) d.job j d.text.items (λ k. ne (sym k)) ∙ right)
      ]
    ]

-- where none is left, all are placed
pub all_placed : (start left : List Done) (places : Texts) (texts : List (List ℕ)) (j : ℕ) → IsPlaced start left places → left ≡ [] → AreTexts texts start → 1 ≤ times j (done_jobs start) → slice_get (bytes_of_texts places) j ≡ slice_get texts j
all_placed start left places texts j placed e are h = elim ((placed texts are).1 j h) [
  | inl more ↦ absurd (let z : times j (done_jobs left) ≡ 0 = ap (λ (l : List Done). times j (done_jobs l)) e in omega arith)
  | inr right ↦ right
]

-- the jobs that were done are jobs
pub done_below : (texts : List (List ℕ)) (done : List Done) (count : ℕ) → count ≡ length texts → AreTexts texts done → All (λ d. d.job < count) done
done_below texts done count same are = λ k d h. (let w = slice_get_within texts _ _ (are k d h) in omega arith)

-- one text more
pub one_more : (texts : Texts) (i : ℕ) (t : Vec ℕ Global) (bytes more : List ℕ) → i < length texts → t ≡ get_or texts i t → bytes ≡ concat (bytes_of_texts (take i texts)) → more ≡ bytes ++ t.items → more ≡ concat (bytes_of_texts (take (i + 1) texts))
one_more texts i t bytes more low is old e =
    let a = ap (λ (l : List (List ℕ)). concat l) (map_more (λ (x : Vec ℕ Global). x.items) texts i t low) in
    let b = concat-append (bytes_of_texts (take i texts)) ((get_or texts i t).items ∷ []) in
    let c : (get_or texts i t).items ++ [] ≡ t.items = append-nil (get_or texts i t).items ∙ ap (λ (x : Vec ℕ Global). x.items) (sym is) in
    e ∙ ap (λ (l : List ℕ). l ++ t.items) old ∙ sym (a ∙ b ∙ ap (λ (l : List ℕ). concat (bytes_of_texts (take i texts)) ++ l) c)

-- a hand got no more than all
among_has : (hands : List HandState) (k j : ℕ) (h : HandState) → get_elem? hands k ≡ some h → times j (handed h) ≤ handed_among hands j
among_has [] k j h e = absurd (some-ne-none h (sym e))
among_has (g ∷ gs) zero j h e = let same : times j (handed g) ≡ times j (handed h) = ap (λ (x : HandState). times j (handed x)) (some-injective g h e) in omega arith
among_has (g ∷ gs) (suc k) j h e = let rest = among_has gs k j h e in omega arith

-- a number that was handed to one of the hands was done
was_done : (texts : List (List ℕ)) (shift : ShiftState) (new : List HandState) (done : List Done) (j n : ℕ) → HaveDone texts shift [] new done → IsHandedTo new j n → 1 ≤ times j (done_jobs done)
was_done texts shift new done j n have to =
    let b = have.jobs j in let c = among_has new to.place j to.hand to.stands in let d = to.once in omega arith

-- all places have their texts
pub all_texts : (texts : List (List ℕ)) (shift : ShiftState) (new : List HandState) (done : List Done) (places : Texts) (answer : ℕ → ℕ) → HaveDone texts shift [] new done
    → length places ≡ length texts → ((j : ℕ) → 1 ≤ times j (done_jobs done) → slice_get (bytes_of_texts places) j ≡ slice_get texts j) → ((i : ℕ) → i < length texts → IsHandedTo new i (answer i)) → bytes_of_texts places ≡ texts
all_texts texts shift new done places answer have long placed to =
    same_lists (bytes_of_texts places) texts (length-map places (λ (t : Vec ℕ Global). t.items) ∙ long)
    (λ k low. placed k (was_done texts shift new done k (answer k) have (to k (let l = length-map places (λ (t : Vec ℕ Global). t.items) in omega arith))))
