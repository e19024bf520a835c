-- One list of free numbers put behind another.
use Rattle.std.proofs.Common.{◌≡◌, ◌≢◌, ℕ, suc, ◌+◌, ◌-◌, ◌≤◌, inl, inr, List, [], ◌∷◌, ◌++◌, set, map, Some, None, false, refl, sym, ap, ◌∙◌, subst, arith}
use Rattle.std.proofs.lemmas.Bool.{cases_Bool}
use Rattle.std.proofs.lemmas.List.{length-map}
use Rattle.hg_base.specs.Lists.{IsIn}
use Rattle.hg_base.proofs.Lists.{IsIn-append}
use Rattle.node_region.specs.declared.cell.Cell.{Cell}
use Rattle.node_region.specs.declared.chunk.Slot.{Slot}
use Rattle.node_region.specs.declared.chunk.FreeList.{FreeList}
use Rattle.node_region.specs.declared.tables.Tables.{Tables}
use Rattle.node_region.specs.Pool.{AreDifferent}
use Rattle.node_region.specs.Tables.{entries_of, cells_in, links_in, cell_of, hint_kept, next_of, thread, told_after, free_in, IsTail}
use Rattle.node_region.specs.Kept.{KeepsTables, IsFree, CanLink, IsLinked}
use Rattle.node_region.proofs.Threads.{thread-last, thread-longer, told-in, told-same, thread-same, thread-kept, thread-split, told-split, different-front, different-apart}
use Rattle.node_region.proofs.Entries.{next-set_same, entry-read}
use Rattle.node_region.proofs.Slots.{IsEntry, field-written, field-kept, others-tell_same}

-- the list made of both
abbrev pub both : FreeList → FreeList → FreeList
both front behind = record { count = front.count + behind.count; head = front.head; tail = behind.tail }

-- the last of the first list tells the first of the second
pub linked : (first : ℕ) (slots : List Slot) (front behind : FreeList) (k b : ℕ) → front.count ≡ suc k → behind.count ≡ suc b
    → IsTail first slots front → IsTail first slots behind → AreDifferent (free_in first slots front ++ free_in first slots behind)
    → ((i : ℕ) → IsIn i (free_in first slots front ++ free_in first slots behind) → first ≤ i)
    → (n : ℕ) (s y : Slot) → IsEntry first slots n front.tail s → y.link ≡ behind.head
    → (free_in first (set slots n y) (both front behind) ≡ free_in first slots front ++ free_in first slots behind) × IsTail first (set slots n y) (both front behind)
linked first slots front behind k b some more tail behind_tail once from n s y e link =
    let l = links_in slots in
    let m = links_in (set slots n y) in
    let fi = free_in first slots front in
    let bi = free_in first slots behind in
    let at : told_after first l k front.head ≡ front.tail = tail k (omega (arith, some)) in
    let long : fi ≡ thread first l (suc k) front.head = ap (λ c. thread first l c front.head) some in
    let last : fi ≡ thread first l k front.head ++ front.tail ∷ [] = long ∙ thread-last first l k front.head ∙ ap (λ i. thread first l k front.head ++ i ∷ []) at in
    let in_front : IsIn front.tail fi = subst (λ (xs : List ℕ). IsIn front.tail xs) (sym last) (IsIn-append front.tail (thread first l k front.head) (front.tail ∷ []) (inr (inl refl))) in
    let low : first ≤ front.tail = from front.tail (IsIn-append front.tail fi bi (inl in_front)) in
    let apart_front : (i : ℕ) → IsIn i (thread first l k front.head) → (first ≤ i) × (i ≢ front.tail) = λ i is. (
      from i (IsIn-append i fi bi (inl (subst (λ (xs : List ℕ). IsIn i xs) (sym last) (IsIn-append i (thread first l k front.head) (front.tail ∷ []) (inl is))))),
      λ same. different-apart (thread first l k front.head) (front.tail ∷ []) (subst (λ (xs : List ℕ). AreDifferent xs) last (different-front fi bi once)) i is (inl (sym same)),
    ) in
    let apart_behind : (i : ℕ) → IsIn i bi → (first ≤ i) × (i ≢ front.tail) = λ i is.
    (from i (IsIn-append i fi bi (inr is)), λ same. different-apart fi bi once i (subst (λ (j : ℕ). IsIn j fi) (sym same) in_front) is) in
    let same_front = others-tell_same first slots n front.tail s y e (thread first l k front.head) apart_front in
    let same_behind = others-tell_same first slots n front.tail s y e bi apart_behind in
    let told : next_of first m front.tail ≡ behind.head = ap (λ x. next_of first x front.tail) (field-written (λ x. x.link) first slots n front.tail s y e)
    ∙ next-set_same first l front.tail y.link low (omega (arith, e.number, e.within, length-map slots (λ x. x.link))) ∙ link in
    let reached : next_of first m (told_after first m k front.head) ≡ behind.head = ap (λ i. next_of first m i) (told-same first l m k front.head same_front ∙ at) ∙ told in
    let sum : front.count + behind.count ≡ suc (k + behind.count) = omega (arith, some) in (
      ap (λ c. thread first m c front.head) sum ∙ thread-split first m k behind.count front.head
          ∙ ap (λ xs. xs ++ thread first m behind.count (next_of first m (told_after first m k front.head))) (thread-same first l m k front.head same_front ∙ sym long)
          ∙ ap (λ i. fi ++ thread first m behind.count i) reached
          ∙ ap (λ xs. fi ++ xs) (thread-kept first l m behind.count behind.head same_behind),
      λ j total.
          let there : j ≡ suc (k + b) = omega (arith, total, some, more) in
          ap (λ c. told_after first m c front.head) there ∙ told-split first m k b front.head ∙ ap (λ i. told_after first m b i) reached
          ∙ told-same first l m b behind.head (λ i is. same_behind i (rw more (thread-longer first l b behind.head i is)))
          ∙ behind_tail b (omega (arith, more)),
    )

-- the tail of a list that isn't empty is one of its numbers
pub tail-free : (t : Tables) (front behind : FreeList) → CanLink t front behind → front.count ≢ 0 → IsFree t front.tail
tail-free t front behind can some =
    let first = t.first in
    let l = links_in (entries_of t.slots.items) in
    let k = front.count - 1 in
    let more : front.count ≡ suc k = omega (arith, some) in
    let at : told_after first l k front.head ≡ front.tail = can.tail k (omega (arith, more)) in
    let here : IsIn front.tail (free_in first (entries_of t.slots.items) front) =
    subst (λ (i : ℕ). IsIn i (free_in first (entries_of t.slots.items) front)) at (subst (λ (c : ℕ). IsIn (told_after first l k front.head) (thread first l c front.head)) (sym more) (told-in first l k front.head)) in
    can.free front.tail (IsIn-append front.tail (free_in first (entries_of t.slots.items) front) (free_in first (entries_of t.slots.items) behind) (inl here))

-- an entry tells no cell exactly where it isn't used
none-unused : (s : Slot) → cell_of s ≡ None → s.used ≡ false
none-unused s none = elim (cases_Bool s.used) [
  | inl used ↦ absurd (some-none _ (rw used at none))
  | inr unused ↦ unused
]
  where
    some-none : (c : Cell) → Some c ≡ None → ⊥
    some-none c same = cc

unused-none : (s : Slot) → s.used ≡ false → cell_of s ≡ None
unused-none s unused = rw unused refl

-- the entry of the last number of the first list was written
pub linked-written : (t u : Tables) (front behind : FreeList) → CanLink t front behind → front.count ≢ 0 → behind.count ≢ 0
    → (n : ℕ) (s y : Slot) → IsEntry t.first (entries_of t.slots.items) n front.tail s → KeepsTables t u
    → entries_of u.slots.items ≡ set (entries_of t.slots.items) n y → entries_of u.places.items ≡ entries_of t.places.items
    → y.used ≡ s.used → y.link ≡ behind.head → y.turn ≡ s.turn → hint_kept y ≡ hint_kept s → IsLinked t front behind u (both front behind)
linked-written t u front behind can some more n s y e kept slots places used link turn hint =
    let first = t.first in
    let old = entries_of t.slots.items in
    let free = tail-free t front behind can some in
    let none : cell_of s ≡ None = sym (entry-read (λ x. cell_of x) first old n front.tail s e.number e.within e.read) ∙ free.no_cell in
    let cell : cell_of y ≡ cell_of s = unused-none y (used ∙ none-unused s none) ∙ sym none in
    let one = linked first old front behind (front.count - 1) (behind.count - 1) (omega (arith, some)) (omega (arith, more)) can.tail can.behind_tail can.apart (λ i is. (can.free i is).from) n s y e link in
    record {
      kept = kept;
      places = places;
      cells = ap cells_in slots ∙ field-kept (λ x. cell_of x) first old n front.tail s y e cell;
      turns = ap (λ xs. map (λ x. x.turn) xs) slots ∙ field-kept (λ x. x.turn) first old n front.tail s y e turn;
      hints = ap (λ xs. map (λ x. hint_kept x) xs) slots ∙ field-kept (λ x. hint_kept x) first old n front.tail s y e hint;
      free = ap (λ k. free_in k (entries_of u.slots.items) (both front behind)) kept.first ∙ ap (λ xs. free_in first xs (both front behind)) slots ∙ one.0;
      count = refl;
      tail = rw (kept.first, slots) one.1;
    }
