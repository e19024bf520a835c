-- The hands of a shift that is started.
use Rattle.std.proofs.Common.{◌≡◌, ℕ, zero, suc, ◌+◌, ◌-◌, ◌≤◌, refl, sym, ◌∙◌, subst, ap, arith, List, [], ◌∷◌, ◌++◌, map, length}
use Rattle.std.specs.Prelude.{All, reverse}
use Rattle.std.specs.List.{range_with_len}
use Rattle.std.proofs.lemmas.List.{append_assoc, length-map, reverse-append, reverse-reverse}
use Rattle.std.proofs.lemmas.List.Elements.{All-map}
use Rattle.std.proofs.lemmas.List.FromFn.{length-range_with_len, map-range_with_len_more}
use mathlib.Core.Option.{some, some-injective, some-ne-none}
use lib.ListN.{get_elem?}
use Rattle.job_shift.specs.Hands.{HandState, ShiftState, IsHandOf, IsFresh, AreAllHands, hand_numbers, first_view, fresh_hand, fresh_hands, split_left, split_right}
use Rattle.job_shift.specs.HandedNumbers.{IsUnstarted}
use Rattle.job_shift.specs.declared.view.HandView.{HandView}
use Rattle.job_shift.specs.declared.view.Pair.{Pair}
use Rattle.job_shift.proofs.Numbers.{none_handed_out}

-- a hand that got no numbers has no pairs
pub no_pairs : (ps : List Pair) → map (λ (p : Pair). p.job) ps ≡ [] → ps ≡ []
no_pairs [] e = refl
no_pairs (p ∷ ps) e = cc

-- the hands of the first n numbers, the least number last
abbrev pub hands_down : ShiftState → ℕ → List HandState
hands_down b n = reverse (map (fresh_hand b) (range_with_len 0 n))

hands_more : (b : ShiftState) (n : ℕ) → hands_down b (n + 1) ≡ fresh_hand b n ∷ hands_down b n
hands_more b n =
    ap (λ (l : List HandState). reverse l) (map-range_with_len_more (fresh_hand b) 0 n n (omega arith)) ∙ reverse-append (map (fresh_hand b) (range_with_len 0 n)) (fresh_hand b n ∷ [])

-- the first hand while it stands for so many workers
abbrev pub first_hand : ShiftState → ℕ → HandState
first_hand b share = record { table = b.table; view = record (first_view b.count b.workers) { share = share } }

-- after the first hand was split it stands for one worker fewer
pub first_left : (b : ShiftState) (share : ℕ) (first left : HandState) → first ≡ first_hand b share → left ≡ record { table = first.table; view = split_left first.view } → left ≡ first_hand b (share - 1)
first_left b share first left f l = l ∙ ap (λ (s : HandState). record { table = s.table; view = split_left s.view }) f

-- what was split off it is the next of all hands
pub next_dealt : (b : ShiftState) (share : ℕ) (hands more : List HandState) (first new : HandState) → 1 ≤ share → first ≡ first_hand b share → new ≡ record { table = first.table; view = split_right first.view } → more ≡ hands ++ new ∷ []
    → hands ++ hands_down b share ≡ hands_down b b.workers → more ++ hands_down b (share - 1) ≡ hands_down b b.workers
next_dealt b share hands more first new low f n m e =
    let dealt : new ≡ fresh_hand b (share - 1) = n ∙ ap (λ (s : HandState). record { table = s.table; view = split_right s.view }) f in
    let again : share - 1 + 1 ≡ share = omega arith in
    ap (λ (l : List HandState). l ++ hands_down b (share - 1)) (m ∙ ap (λ (s : HandState). hands ++ s ∷ []) dealt) ∙ append_assoc hands (fresh_hand b (share - 1) ∷ []) (hands_down b (share - 1))
    ∙ ap (λ (l : List HandState). hands ++ l) (sym (hands_more b (share - 1)) ∙ ap (λ (k : ℕ). hands_down b k) again) ∙ e

-- the last in the list is the first hand, and turned round the list is that of all hands
pub all_dealt : (b : ShiftState) (hands more turned : List HandState) (first : HandState) → first ≡ first_hand b 1 → more ≡ hands ++ first ∷ [] → hands ++ hands_down b 1 ≡ hands_down b b.workers → turned ≡ reverse more → turned ≡ fresh_hands b
all_dealt b hands more turned first f m e t =
    let last : more ≡ hands_down b b.workers = m ∙ ap (λ (h : HandState). hands ++ h ∷ []) f ∙ e in
    t ∙ ap (λ (l : List HandState). reverse l) last ∙ reverse-reverse (fresh_hands b)

-- what holds of each new hand holds of all
pub all_fresh : (P : HandState → Type 0) (b : ShiftState) → ((n : ℕ) → P (fresh_hand b n)) → All P (fresh_hands b)
all_fresh P b each = All-map P (fresh_hand b) (range_with_len 0 b.workers) (λ k d h. each _)

pub fresh_all : (b : ShiftState) → AreAllHands (fresh_hands b) b
fresh_all b = record { count = length-map (range_with_len 0 b.workers) (fresh_hand b) ∙ length-range_with_len 0 b.workers; each = all_fresh (λ hand. IsHandOf hand b) b (λ n. record { table = refl; count = refl; workers = refl }) }

pub fresh_ready : (b : ShiftState) → All IsFresh (fresh_hands b)
fresh_ready b = all_fresh IsFresh b (λ n. (refl, refl))

numbers_of : (b : ShiftState) (ns : List ℕ) → map (λ (hand : HandState). hand.view.number) (map (fresh_hand b) ns) ≡ ns
numbers_of b [] = refl
numbers_of b (n ∷ ns) = ap (λ (l : List ℕ). n ∷ l) (numbers_of b ns)

pub fresh_numbers : (b : ShiftState) → hand_numbers (fresh_hands b) ≡ range_with_len 0 b.workers
fresh_numbers b = numbers_of b (range_with_len 0 b.workers)

fresh_pairs : (b : ShiftState) (ns : List ℕ) (place : ℕ) (hand : HandState) → get_elem? (map (fresh_hand b) ns) place ≡ some hand → hand.view.pairs ≡ []
fresh_pairs b [] place hand e = absurd (some-ne-none hand (sym e))
fresh_pairs b (n ∷ ns) zero hand e = ap (λ (h : HandState). h.view.pairs) (sym (some-injective (fresh_hand b n) hand e))
fresh_pairs b (n ∷ ns) (suc place) hand e = fresh_pairs b ns place hand e

-- while just these hands show, no step was made
pub unstarted : (b : ShiftState) → IsUnstarted (fresh_hands b) b
unstarted b s rule shown = none_handed_out b.count b.workers s rule (λ k v h. (let t = shown k v h in
    ap (λ (u : HandView). u.pairs) (sym t.1.1.1) ∙ fresh_pairs b (range_with_len 0 b.workers) t.0 t.1.0 t.1.1.0))
