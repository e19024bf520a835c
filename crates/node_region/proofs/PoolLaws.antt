-- Each change of a pool keeps what every pool keeps to.
use Rattle.std.proofs.Common.{◌≡◌, ◌≢◌, ℕ, suc, ◌+◌, ◌-◌, ◌<◌, ◌≤◌, inl, inr, Bool, true, false, cond, List, ◌∷◌, length, get_or, set, drop, count_by, is_none, replicate, Option, Some, None, IsSome, refl, sym, ap, ◌∙◌, subst, arith, length-append}
use Rattle.std.proofs.lemmas.Bool.{cases_eq, cases_lt}
use Rattle.std.proofs.lemmas.List.{length-set, length-replicate, get_or-replicate}
use Rattle.std.proofs.lemmas.List.Sums.{sum_by-set, sum_by-append}
use Rattle.std.proofs.lemmas.List.Folds.{sum_by-replicate}
use Rattle.std.proofs.lemmas.List.FromFn.{length-range_with_len}
use Rattle.hg_base.specs.Lists.{IsIn}
use Rattle.hg_base.specs.declared.graph.Room.{Room}
use Rattle.hg_base.proofs.Lists.{IsIn-append, IsIn-append_back}
use Rattle.node_region.specs.declared.cell.Cell.{Cell}
use Rattle.node_region.specs.declared.cell.Hint.{Hint}
use Rattle.node_region.specs.Pool.{CellPool, IsPool, IsCovered, IsUsed, IsNextTo, AreDifferent, cell_at, entry, fresh_pool, with_cell, with_taken, with_given_back, with_leaf, with_hint, with_finger, appended, next_turn, turn_of}
use Rattle.node_region.proofs.Threads.{rising-from, rising-in, rising-different, different-append}
use Rattle.node_region.proofs.Entries.{entry-is, entry-set_same, entry-set_other, entry-covered, nothing-is_not, entry-append_left, entry-append_right}

-- a number that has a cell is one of the range
pub used-covered : (p : CellPool) (id : ℕ) → IsUsed p id → IsCovered p id
used-covered p id used = entry-covered p.first p.cells id used

pub used-none : (p : CellPool) (id : ℕ) → IsUsed p id → cell_at p id ≡ None → ⊥
used-none p id used none = nothing-is_not (cell_at p id) none used

-- no free number has a cell
pub used-not_free : (p : CellPool) → IsPool p → (id : ℕ) → IsUsed p id → IsIn id p.free → ⊥
used-not_free p h id used free = used-none p id used (h.free_has_no_cell id free)

none-no : (o : Option Cell) → IsSome o → is_none o ≡ false
none-no None some = cc
none-no (Some x) some = refl

no-cell : (x : Cell) → Some x ≡ None → ⊥
no-cell x same = cc

-- how many have no cell after a write, where b says whether there was none before
counted-set : (cells : List (Option Cell)) (n : ℕ) (o : Option Cell) (b : Bool) → n < length cells → is_none (get_or cells n None) ≡ b
    → count_by is_none (set cells n o) + cond b 1 0 ≡ count_by is_none cells + cond (is_none o) 1 0
counted-set cells n o b within was = rw (← was) (sum_by-set (λ x. cond (is_none x) 1 0) cells n o None within)

-- a pool in which a number has another cell, or none, and other numbers are free
pub cells-written : (p : CellPool) → IsPool p → (id : ℕ) → IsCovered p id → (o : Option Cell) (free turns : List ℕ) (hints : List (Option Hint))
    → length turns ≡ length p.turns → length hints ≡ length p.hints
    → ((i : ℕ) → IsIn i free → IsCovered p i × (entry p.first (set p.cells (id - p.first) o) i ≡ None))
    → ((i : ℕ) → IsCovered p i → entry p.first (set p.cells (id - p.first) o) i ≡ None → IsIn i free)
    → AreDifferent free → length free ≡ count_by is_none (set p.cells (id - p.first) o)
    → IsPool (record p { cells = set p.cells (id - p.first) o; free = free; turns = turns; hints = hints })
cells-written p h id covered o free turns hints as_turns as_hints none rest once counted =
    let long = length-set p.cells (id - p.first) o in
    record {
      leafs = h.leafs ∙ sym long;
      turns = as_turns ∙ h.turns ∙ sym long;
      hints = as_hints ∙ h.hints ∙ sym long;
      fingers = h.fingers ∙ sym long;
      some_number = omega (arith, h.some_number, long);
      few_numbers = omega (arith, h.few_numbers, long);
      range = h.range;
      some_chunk = h.some_chunk;
      few_chunks = h.few_chunks;
      no_empty_chunk = omega (arith, h.no_empty_chunk, long);
      chunk_room = h.chunk_room;
      free_is_covered = λ i is. let at = (none i is).0 in (at.0, omega (arith, at.1, long));
      free_has_no_cell = λ i is. (none i is).1;
      rest_is_free = λ i at. rest i (at.0, omega (arith, at.1, long));
      free_once = once;
      free_count = counted;
    }

-- another cell in place of one
pub with_cell-pool : (p : CellPool) → IsPool p → (id : ℕ) → IsUsed p id → (c : Cell) → IsPool (with_cell p id (Some c))
with_cell-pool p h id used c =
    let covered = used-covered p id used in
    let is = entry-set_same p.first p.cells id (Some c) covered.0 covered.1 in
    let other = λ (i : ℕ) (low : p.first ≤ i) (off : i ≢ id). entry-set_other p.first p.cells id i (Some c) covered.0 low off in
    let had = entry-is p.first p.cells id covered.0 in
    let sum = counted-set p.cells (id - p.first) (Some c) false (omega (arith, covered.0, covered.1)) (none-no _ (subst (λ o. IsSome o) had used)) in
    cells-written p h id covered (Some c) p.free p.turns p.hints refl refl
    (λ i free. (h.free_is_covered i free, other i (h.free_is_covered i free).0 (λ same. used-not_free p h id used (subst (λ (n : ℕ). IsIn n p.free) same free)) ∙ h.free_has_no_cell i free))
    (λ i at none. elim (cases_eq i id) [
      | inl same ↦ absurd (no-cell c (sym is ∙ ap (λ (n : ℕ). entry p.first (set p.cells (id - p.first) (Some c)) n) (sym same) ∙ none))
      | inr off ↦ h.rest_is_free i at (sym (other i at.0 off) ∙ none)
    ])
    h.free_once (h.free_count ∙ omega (arith, sum))

-- the first free number has a cell
pub with_taken-pool : (p : CellPool) → IsPool p → (id : ℕ) (rest : List ℕ) → p.free ≡ id ∷ rest → (c : Cell) → IsPool (with_taken p id c)
with_taken-pool p h id rest split c =
    let listed = λ (i : ℕ) (is : IsIn i (id ∷ rest)). subst (λ (xs : List ℕ). IsIn i xs) (sym split) is in
    let first = listed id (inl refl) in
    let covered = h.free_is_covered id first in
    let once = subst (λ (xs : List ℕ). AreDifferent xs) split h.free_once in
    let is = entry-set_same p.first p.cells id (Some c) covered.0 covered.1 in
    let other = λ (i : ℕ) (low : p.first ≤ i) (off : i ≢ id). entry-set_other p.first p.cells id i (Some c) covered.0 low off in
    let had : is_none (get_or p.cells (id - p.first) None) ≡ true = ap is_none (sym (entry-is p.first p.cells id covered.0) ∙ h.free_has_no_cell id first) in
    let sum = counted-set p.cells (id - p.first) (Some c) true (omega (arith, covered.0, covered.1)) had in
    let long : length p.free ≡ suc (length rest) = ap length split in
    let left : drop 1 p.free ≡ rest = ap (λ (xs : List ℕ). drop 1 xs) split in
    rw left (cells-written p h id covered (Some c) rest (set p.turns (id - p.first) (next_turn (turn_of p id))) (set p.hints (id - p.first) None)
    (length-set p.turns (id - p.first) (next_turn (turn_of p id))) (length-set p.hints (id - p.first) None)
    (λ i free. (h.free_is_covered i (listed i (inr free)), other i (h.free_is_covered i (listed i (inr free))).0 (λ same. once.0 (subst (λ (n : ℕ). IsIn n rest) same free)) ∙ h.free_has_no_cell i (listed i (inr free))))
    (λ i at none. elim (cases_eq i id) [
      | inl same ↦ absurd (no-cell c (sym is ∙ ap (λ (n : ℕ). entry p.first (set p.cells (id - p.first) (Some c)) n) (sym same) ∙ none))
      | inr off ↦ elim (subst (λ (xs : List ℕ). IsIn i xs) split (h.rest_is_free i at (sym (other i at.0 off) ∙ none))) [
        | inl same ↦ absurd (off (sym same))
        | inr in_rest ↦ in_rest
      ]
    ])
    once.1 (omega (arith, sum, long, h.free_count)))

-- a number has no cell any more
pub with_given_back-pool : (p : CellPool) → IsPool p → (id : ℕ) → IsUsed p id → IsPool (with_given_back p id)
with_given_back-pool p h id used =
    let covered = used-covered p id used in
    let is = entry-set_same p.first p.cells id None covered.0 covered.1 in
    let other = λ (i : ℕ) (low : p.first ≤ i) (off : i ≢ id). entry-set_other p.first p.cells id i None covered.0 low off in
    let had = entry-is p.first p.cells id covered.0 in
    let sum = counted-set p.cells (id - p.first) None false (omega (arith, covered.0, covered.1)) (none-no _ (subst (λ o. IsSome o) had used)) in
    cells-written p h id covered None (id ∷ p.free) p.turns p.hints refl refl
    (λ i free. elim free [
      | inl same ↦ subst (λ (n : ℕ). IsCovered p n × (entry p.first (set p.cells (id - p.first) None) n ≡ None)) same (covered, is)
      | inr there ↦ (h.free_is_covered i there, other i (h.free_is_covered i there).0 (λ same. used-not_free p h id used (subst (λ (n : ℕ). IsIn n p.free) same there)) ∙ h.free_has_no_cell i there)
    ])
    (λ i at none. elim (cases_eq i id) [
      | inl same ↦ inl (sym same)
      | inr off ↦ inr (h.rest_is_free i at (sym (other i at.0 off) ∙ none))
    ])
    (used-not_free p h id used, h.free_once) (omega (arith, sum, h.free_count))

-- what stands above a place, and what is noted, is no matter
pub others-written : (p : CellPool) → IsPool p → (leafs : List (Option ℕ)) (hints fingers : List (Option Hint)) → length leafs ≡ length p.leafs → length hints ≡ length p.hints → length fingers ≡ length p.fingers
    → IsPool (record p { leafs = leafs; hints = hints; fingers = fingers })
others-written p h leafs hints fingers as_leafs as_hints as_fingers = record {
  leafs = as_leafs ∙ h.leafs;
  turns = h.turns;
  hints = as_hints ∙ h.hints;
  fingers = as_fingers ∙ h.fingers;
  some_number = h.some_number;
  few_numbers = h.few_numbers;
  range = h.range;
  some_chunk = h.some_chunk;
  few_chunks = h.few_chunks;
  no_empty_chunk = h.no_empty_chunk;
  chunk_room = h.chunk_room;
  free_is_covered = h.free_is_covered;
  free_has_no_cell = h.free_has_no_cell;
  rest_is_free = h.rest_is_free;
  free_once = h.free_once;
  free_count = h.free_count;
}

pub with_leaf-pool : (p : CellPool) → IsPool p → (place : ℕ) (up : Option ℕ) → IsPool (with_leaf p place up)
with_leaf-pool p h place up = others-written p h (set p.leafs (place - p.first) up) p.hints p.fingers (length-set p.leafs (place - p.first) up) refl refl

pub with_hint-pool : (p : CellPool) → IsPool p → (id : ℕ) (hint : Option Hint) → IsPool (with_hint p id hint)
with_hint-pool p h id hint = others-written p h p.leafs (set p.hints (id - p.first) hint) p.fingers refl (length-set p.hints (id - p.first) hint) refl

pub with_finger-pool : (p : CellPool) → IsPool p → (place : ℕ) (finger : Option Hint) → IsPool (with_finger p place finger)
with_finger-pool p h place finger = others-written p h p.leafs p.hints (set p.fingers (place - p.first) finger) refl refl (length-set p.fingers (place - p.first) finger)

-- a pool without cells
pub fresh_pool-pool : (first count : ℕ) (room : Room) → 1 ≤ count → count ≤ room.places → first + room.places ≤ 1048576 → 1 ≤ room.chunks → room.chunks ≤ 65536 → IsPool (fresh_pool first count room)
fresh_pool-pool first n room some few range some_chunk few_chunks =
    let none : Option Cell = None in
    let long = length-replicate n none in
    record {
      leafs = length-replicate n None ∙ sym long;
      turns = length-replicate n 0 ∙ sym long;
      hints = length-replicate n None ∙ sym long;
      fingers = length-replicate n None ∙ sym long;
      some_number = omega (arith, long, some);
      few_numbers = omega (arith, long, few);
      range = range;
      some_chunk = omega arith;
      few_chunks = some_chunk;
      no_empty_chunk = omega (arith, long, some);
      chunk_room = few_chunks;
      free_is_covered = λ i is. let at = rising-from first n i is in (at.0, omega (arith, at.1, long));
      free_has_no_cell = λ i is. let at = rising-from first n i is in
          entry-is first (replicate n None) i at.0 ∙ get_or-replicate n (i - first) None None (omega (arith, at.0, at.1));
      rest_is_free = λ i at none. rising-in first n i at.0 (omega (arith, at.1, long));
      free_once = rising-different first n;
      free_count = length-range_with_len first n ∙ sym (sum_by-replicate (λ x. cond (is_none x) 1 0) n none ∙ omega arith);
    }

-- one pool behind another
pub appended-pool : (p q : CellPool) → IsPool p → IsPool q → IsNextTo p q → IsPool (appended p q)
appended-pool p q h k n =
    let long = length-append p.cells q.cells in
    let left = λ (i : ℕ) (at : IsCovered p i). entry-append_left p.first p.cells q.cells i at.0 at.1 in
    let right = λ (i : ℕ) (low : q.first ≤ i). entry-append_right p.first p.cells q.cells i q.first n.next low in
    record {
      leafs = length-append p.leafs q.leafs ∙ omega (arith, h.leafs, k.leafs, long);
      turns = length-append p.turns q.turns ∙ omega (arith, h.turns, k.turns, long);
      hints = length-append p.hints q.hints ∙ omega (arith, h.hints, k.hints, long);
      fingers = length-append p.fingers q.fingers ∙ omega (arith, h.fingers, k.fingers, long);
      some_number = omega (arith, h.some_number, long);
      few_numbers = omega (arith, n.places, long);
      range = h.range;
      some_chunk = omega (arith, h.some_chunk);
      few_chunks = n.chunks;
      no_empty_chunk = omega (arith, h.no_empty_chunk, k.no_empty_chunk, long);
      chunk_room = h.chunk_room;
      free_is_covered = λ i is. elim (IsIn-append_back i p.free q.free is) [
        | inl front ↦ let at = h.free_is_covered i front in (at.0, omega (arith, at.1, long))
        | inr behind ↦ let at = k.free_is_covered i behind in (omega (arith, at.0, n.next), omega (arith, at.1, n.next, long))
      ];
      free_has_no_cell = λ i is. elim (IsIn-append_back i p.free q.free is) [
        | inl front ↦ left i (h.free_is_covered i front) ∙ h.free_has_no_cell i front
        | inr behind ↦ right i (k.free_is_covered i behind).0 ∙ k.free_has_no_cell i behind
      ];
      rest_is_free = λ i at none. elim (cases_lt i q.first) [
        | inl low ↦ let here : IsCovered p i = (at.0, omega (arith, low, n.next)) in IsIn-append i p.free q.free (inl (h.rest_is_free i here (sym (left i here) ∙ none)))
        | inr high ↦ let here : IsCovered q i = (high, omega (arith, at.1, n.next, long)) in IsIn-append i p.free q.free (inr (k.rest_is_free i here (sym (right i high) ∙ none)))
      ];
      free_once = different-append p.free q.free h.free_once k.free_once
          (λ i front behind. let low = (h.free_is_covered i front).1 in let high = (k.free_is_covered i behind).0 in absurd (omega (arith, low, high, n.next)));
      free_count = length-append p.free q.free ∙ omega (arith, h.free_count, k.free_count, sum_by-append (λ x. cond (is_none x) 1 0) p.cells q.cells);
    }
