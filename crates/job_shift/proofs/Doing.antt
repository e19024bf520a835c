-- What workers do with the numbers that their hands get.
use Rattle.std.proofs.Common.{◌≡◌, ℕ, ◌+◌, ◌-◌, ◌<◌, ◌≤◌, refl, sym, ◌∙◌, subst, ap, arith, true, false, List, [], ◌∷◌, ◌++◌, map, length}
use Rattle.std.proofs.lemmas.List.{map-append}
use Rattle.std.proofs.lemmas.List.Elements.{All-nil, All-cons, All-append}
use Rattle.std.specs.Prelude.{All, Some, slice_get}
use Rattle.job_shift.specs.Times.{times, jobs, pair_count}
use Rattle.job_shift.specs.Hands.{HandState, ShiftState, IsHandOf, IsFresh, HasMissed, handed}
use Rattle.job_shift.specs.HandedNumbers.{Gets, Misses}
use Rattle.job_shift.specs.Finishing.{handed_among}
use Rattle.job_shift.specs.Doing.{AreTexts, HaveDone, HasWorked, IsCrewOf, IsReady, done_jobs}
use Rattle.job_shift.specs.declared.view.HandView.{HandView}
use Rattle.job_shift.specs.declared.working.Done.{Done}
use Rattle.job_shift.specs.declared.working.Worker.{Worker}
use Rattle.job_shift.proofs.Popped.{popped_front, popped_last}
use Rattle.job_shift.proofs.Sums.{one_if, times-append, times-with_job, pair_count-with_job}
use Rattle.job_shift.proofs.Stepping.{got_before}

-- a hand that got a number has that one more, and has not missed
pub got_times : (old new : HandView) (n j : ℕ) → Gets old new n → times j (jobs new) ≡ times j (jobs old) + one_if j n
got_times old new n j g = ap (λ (v : HandView). times j (jobs v)) g.view ∙ times-with_job j n old

pub got_fresh : (old new : HandView) (n : ℕ) → Gets old new n → old.missed ≡ false → new.missed ≡ false
got_fresh old new n g f = ap (λ (v : HandView). v.missed) g.view ∙ f

-- it is closer to having all
pub got_closer : (old new : HandView) (n : ℕ) → Gets old new n → new.count - length new.pairs < old.count - length old.pairs
got_closer old new n g =
    let c : new.count ≡ old.count = ap (λ (v : HandView). v.count) g.view in
    let p : pair_count new ≡ pair_count old + 1 = ap (λ (v : HandView). pair_count v) g.view ∙ pair_count-with_job n old in
    let b = got_before old n g.moment in let l = g.below in omega arith

-- a hand that missed has what it had
pub missed_times : (old new : HandView) (j : ℕ) → Misses old new → times j (jobs new) ≡ times j (jobs old)
missed_times old new j m = ap (λ (v : HandView). times j (jobs v)) m.view

pub missed_now : (old new : HandView) → Misses old new → new.missed ≡ true
missed_now old new m = ap (λ (v : HandView). v.missed) m.view

-- one more job that was done
pub done_more : (done more : List Done) (d : Done) (n j : ℕ) → more ≡ done ++ d ∷ [] → d.job ≡ n → times j (done_jobs more) ≡ times j (done_jobs done) + one_if j n
done_more done more d n j e same =
    let a : times j (done_jobs more) ≡ times j (done_jobs done ++ d.job ∷ []) = ap (λ (l : List Done). times j (done_jobs l)) e ∙ ap (λ (l : List ℕ). times j l) (map-append (λ (x : Done). x.job) done (d ∷ [])) in
    let b = times-append j (done_jobs done) (d.job ∷ []) in
    let c : one_if j d.job ≡ one_if j n = ap (λ (x : ℕ). one_if j x) same in omega arith

pub texts_more : (all : List (List ℕ)) (done more : List Done) (d : Done) → more ≡ done ++ d ∷ [] → slice_get all d.job ≡ Some d.text.items → AreTexts all done → AreTexts all more
texts_more all done more d e text old = subst (λ (l : List Done). AreTexts all l) (sym e) (All-append P done (d ∷ []) old (All-cons P d [] text (All-nil P)))
  where
    P : Done → Type 0
    P x = slice_get all x.job ≡ Some x.text.items

-- what one hand has done
pub one_done : (all : List (List ℕ)) (shift : ShiftState) (old new : HandState) (done : List Done) → IsHandOf new shift → HasMissed new → AreTexts all done
    → ((j : ℕ) → times j (handed new) ≡ times j (handed old) + times j (done_jobs done)) → HaveDone all shift (old ∷ []) (new ∷ []) done
one_done all shift old new done of missed texts same_times = record {
  each = All-cons (λ hand. IsHandOf hand shift) new [] of (All-nil (λ hand. IsHandOf hand shift));
  missed = All-cons HasMissed new [] missed (All-nil HasMissed);
  texts = texts;
  jobs = λ j. (let t = same_times j in omega arith);
}

among-append : (hands more : List HandState) (j : ℕ) → handed_among (hands ++ more) j ≡ handed_among hands j + handed_among more j
among-append [] more j = omega arith
among-append (h ∷ hs) more j = let rest = among-append hs more j in omega arith

-- what two lists of hands have done, put together
pub both_done : (all : List (List ℕ)) (shift : ShiftState) (front front' back back' : List HandState) (done more : List Done) → HaveDone all shift front front' done → HaveDone all shift back back' more
    → HaveDone all shift (front ++ back) (front' ++ back') (done ++ more)
both_done all shift front front' back back' done more a b = record {
  each = All-append (λ hand. IsHandOf hand shift) front' back' a.each b.each;
  missed = All-append HasMissed front' back' a.missed b.missed;
  texts = All-append (λ (d : Done). slice_get all d.job ≡ Some d.text.items) done more a.texts b.texts;
  jobs = λ j. (let x = among-append front' back' j in let y = among-append front back j in let c = a.jobs j in let d = b.jobs j in
      let t : times j (done_jobs (done ++ more)) ≡ times j (done_jobs done) + times j (done_jobs more) = ap (λ (l : List ℕ). times j l) (map-append (λ (d : Done). d.job) done more) ∙ times-append j (done_jobs done) (done_jobs more) in omega arith);
}

-- no hands have done nothing
pub none_done : (all : List (List ℕ)) (shift : ShiftState) → HaveDone all shift [] [] []
none_done all shift = record {
  each = All-nil (λ hand. IsHandOf hand shift);
  missed = All-nil HasMissed;
  texts = All-nil (λ (d : Done). slice_get all d.job ≡ Some d.text.items);
  jobs = λ j. refl;
}

-- a hand that was fresh has done all that it got
pub from_fresh : (all : List (List ℕ)) (shift : ShiftState) (old new : HandState) (done : List Done) → IsFresh old → HaveDone all shift (old ∷ []) (new ∷ []) done → HaveDone all shift [] (new ∷ []) done
from_fresh all shift old new done fresh have = record {
  each = have.each;
  missed = have.missed;
  texts = have.texts;
  jobs = λ j. (let h = have.jobs j in let z : times j (handed old) ≡ 0 = ap (λ (l : List ℕ). times j l) fresh.0 in omega arith);
}

-- what was collected of a crew, of which these workers are left
abbrev pub IsLeft : List Worker → List Worker → List HandState → List Done → Type 0
IsLeft start left hands done = (all : List (List ℕ)) (shift : ShiftState) → All (HasWorked all shift) start → All (HasWorked all shift) left × HaveDone all shift [] hands done

pub left_first : (start : List Worker) (hands : List HandState) (done : List Done) → hands ≡ [] → done ≡ [] → IsLeft start start hands done
left_first start hands done e f all shift worked =
    (worked, subst (λ (h : List HandState). HaveDone all shift [] h done) (sym e) (subst (λ (d : List Done). HaveDone all shift [] [] d) (sym f) (none_done all shift)))

-- one worker more was collected
pub left_fewer : (start left front : List Worker) (w : Worker) (hands hands' : List HandState) (done done' : List Done) → IsLeft start left hands done → left ≡ front ++ w ∷ [] → w.failed ≡ false
    → hands' ≡ hands ++ w.hand ∷ [] → done' ≡ done ++ w.done.items → IsLeft start front hands' done'
left_fewer start left front w hands hands' done done' old e well h d all shift worked =
    let o = old all shift worked in
    let mine : HaveDone all shift [] (w.hand ∷ []) w.done.items = popped_last (HasWorked all shift) left front w e o.0 well in (
      popped_front (HasWorked all shift) left front w e o.0,
      subst (λ (x : List HandState). HaveDone all shift [] x done') (sym h) (subst (λ (x : List Done). HaveDone all shift [] (hands ++ w.hand ∷ []) x) (sym d)
          (both_done all shift [] hands [] (w.hand ∷ []) done w.done.items o.1 mine)),
    )

pub left_none : (start left : List Worker) (hands : List HandState) (done : List Done) → IsLeft start left hands done → IsCrewOf start hands done
left_none start left hands done old all shift worked = (old all shift worked).1

-- a crew of fresh hands
pub ready_more : (shift : ShiftState) (crew more : List Worker) (w : Worker) → more ≡ crew ++ w ∷ [] → IsReady shift w → All (IsReady shift) crew → All (IsReady shift) more
ready_more shift crew more w e ready old = subst (λ (l : List Worker). All (IsReady shift) l) (sym e) (All-append (IsReady shift) crew (w ∷ []) old (All-cons (IsReady shift) w [] ready (All-nil (IsReady shift))))
