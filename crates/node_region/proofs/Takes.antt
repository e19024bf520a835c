-- What a region is seen as after a number was taken or given back.
use Rattle.std.proofs.Common.{◌≡◌, ◌≢◌, ℕ, zero, suc, ◌+◌, ◌-◌, ◌≤◌, inl, inr, List, ◌∷◌, set, map, drop, is_none, Some, None, refl, sym, ap, ◌∙◌, subst, add-one, arith}
use Rattle.std.proofs.lemmas.List.{length-map, get_or-map}
use Rattle.hg_base.specs.Lists.{IsIn}
use Rattle.node_region.specs.declared.cell.Cell.{Cell}
use Rattle.node_region.specs.declared.chunk.Slot.{Slot}
use Rattle.node_region.specs.declared.chunk.FreeList.{FreeList}
use Rattle.node_region.specs.declared.tables.Tables.{Tables}
use Rattle.node_region.specs.declared.region.Region.TheInside.{Inside}
use Rattle.node_region.specs.Pool.{CellPool, IsCovered, IsUsed, AreDifferent, with_taken, with_given_back, next_turn}
use Rattle.node_region.specs.Tables.{entries_of, cells_in, links_in, cell_of, hint_kept, next_of, thread, told_after, free_in, IsTail}
use Rattle.node_region.specs.RegionFields.{pool_of, IsRegion}
use Rattle.node_region.proofs.Threads.{told-same, thread-longer, thread-first, thread-length}
use Rattle.std.proofs.lemmas.List.Sums.{count_by-le-length}
use Rattle.node_region.proofs.Entries.{next-set_same}
use Rattle.node_region.proofs.Slots.{IsEntry, field-written, field-kept, others-tell_same, free-kept}
use Rattle.node_region.proofs.PoolLaws.{used-covered, with_taken-pool, with_given_back-pool}
use Rattle.node_region.proofs.Views.{SlotWritten, IsSeenAs, region_with, slot-seen, free-apart, turn-read}

-- the first free number, and the others
pub free-split : (r : Inside) → r.free.count ≢ 0 → (pool_of r).free ≡ r.free.head ∷ thread r.tables.first (links_in (entries_of r.tables.slots.items)) (r.free.count - 1) (next_of r.tables.first (links_in (entries_of r.tables.slots.items)) r.free.head)
free-split r some = thread-first r.tables.first (links_in (entries_of r.tables.slots.items)) r.free.count r.free.head some

pub head-free : (r : Inside) → r.free.count ≢ 0 → IsIn r.free.head (pool_of r).free
head-free r some = rw (free-split r some) (inl refl)

-- it is one of the range and has no cell
pub head-covered : (r : Inside) → IsRegion r → r.free.count ≢ 0 → IsCovered (pool_of r) r.free.head
head-covered r h some = h.pool.free_is_covered r.free.head (head-free r some)

-- what the number of an entry tells
pub entry-tells : (r : Inside) (n id : ℕ) (s : Slot) → IsEntry r.tables.first (entries_of r.tables.slots.items) n id s → next_of r.tables.first (links_in (entries_of r.tables.slots.items)) id ≡ s.link
entry-tells r n id s e =
    let place : id - r.tables.first ≡ n = omega (arith, e.number) in
    rw place (get_or-map (λ (x : Slot). x.link) (entries_of r.tables.slots.items) n s 0 e.within ∙ ap (λ (x : Slot). x.link) (sym e.read))

-- the first free number was taken
pub taken-seen : (r : Inside) → IsRegion r → r.free.count ≢ 0 → (t : Tables) (n : ℕ) (s y : Slot) → SlotWritten r t n r.free.head s y → (next : ℕ) (c : Cell)
    → s.link ≡ next → cell_of y ≡ Some c → y.turn ≡ next_turn s.turn → hint_kept y ≡ None
    → IsSeenAs (region_with r (record { count = r.free.count - 1; head = next; tail = r.free.tail }) t) (with_taken (pool_of r) r.free.head c)
taken-seen r h some t n s y w next c was cell turn hint =
    let first = r.tables.first in
    let slots = entries_of r.tables.slots.items in
    let id = r.free.head in
    let f : FreeList = record { count = r.free.count - 1; head = next; tail = r.free.tail } in
    let told : next_of first (links_in slots) id ≡ next = entry-tells r n id s w.entry ∙ was in
    let rest = free_in first slots f in
    let split : (pool_of r).free ≡ id ∷ rest = free-split r some ∙ ap (λ k. id ∷ thread first (links_in slots) (r.free.count - 1) k) told in
    let left : drop 1 (pool_of r).free ≡ rest = ap (λ (xs : List ℕ). drop 1 xs) split in
    let once = subst (λ (xs : List ℕ). AreDifferent xs) split h.pool.free_once in
    let apart : (i : ℕ) → IsIn i rest → (first ≤ i) × (i ≢ id) = λ i is.
    ((h.pool.free_is_covered i (subst (λ (xs : List ℕ). IsIn i xs) (sym split) (inr is))).0, λ same. once.0 (subst (λ (k : ℕ). IsIn k rest) same is)) in
    slot-seen r h t n id s y w f _ _ _ _
    (field-written (λ x. cell_of x) first slots n id s y w.entry ∙ ap (λ o. set (cells_in slots) (id - first) o) cell)
    (free-kept first slots n id s y w.entry f apart ∙ sym left)
    (field-written (λ x. x.turn) first slots n id s y w.entry ∙ ap (λ k. set (map (λ x. x.turn) slots) (id - first) k) (turn ∙ ap next_turn (sym (turn-read r n id s w.entry))))
    (field-written (λ x. hint_kept x) first slots n id s y w.entry ∙ ap (λ o. set (map (λ x. hint_kept x) slots) (id - first) o) hint)
    (with_taken-pool (pool_of r) h.pool id rest split c)
    (λ k more.
    let long : r.free.count - 1 ≡ suc k = omega (arith, more) in
    let same = others-tell_same first slots n id s y w.entry (thread first (links_in slots) k next)
    (λ i is. apart i (rw long (thread-longer first (links_in slots) k next i is))) in
    told-same first (links_in slots) (links_in (set slots n y)) k next same
    ∙ ap (λ j. told_after first (links_in slots) k j) (sym told) ∙ h.tail (suc k) (omega (arith, more, some)))

pub taken-split : (r : Inside) → IsRegion r → r.free.count ≢ 0 → (t : Tables) (n : ℕ) (s y : Slot) → SlotWritten r t n r.free.head s y → (next : ℕ) (c : Cell)
    → s.link ≡ next → cell_of y ≡ Some c → y.turn ≡ next_turn s.turn → hint_kept y ≡ None
    → (pool_of r).free ≡ r.free.head ∷ (pool_of (region_with r (record { count = r.free.count - 1; head = next; tail = r.free.tail }) t)).free
taken-split r h some t n s y w next c was cell turn hint =
    let seen = (taken-seen r h some t n s y w next c was cell turn hint).0 in
    let split = free-split r some in
    rw (ap (λ (q : CellPool). q.free) seen) (split ∙ ap (λ xs. r.free.head ∷ xs) (sym (ap (λ (xs : List ℕ). drop 1 xs) split)))

-- a list of free numbers with one more in front
pub record IsInFront (free : FreeList) (id : ℕ) (f : FreeList) : Type 0 where
  pub count : f.count ≡ free.count + 1
  pub head : f.head ≡ id
  pub only : free.count ≡ 0 → f.tail ≡ id
  pub tail : free.count ≢ 0 → f.tail ≡ free.tail

-- a number was given back
pub given_back-seen : (r : Inside) → IsRegion r → (t : Tables) (n id : ℕ) (s y : Slot) → SlotWritten r t n id s y → (f : FreeList) → IsInFront r.free id f → IsUsed (pool_of r) id
    → cell_of y ≡ None → y.link ≡ r.free.head → y.turn ≡ s.turn → hint_kept y ≡ hint_kept s → IsSeenAs (region_with r f t) (with_given_back (pool_of r) id)
given_back-seen r h t n id s y w f front used cell link turn hint =
    let first = r.tables.first in
    let slots = entries_of r.tables.slots.items in
    let l = links_in slots in
    let m = links_in (set slots n y) in
    let apart = free-apart r h id used in
    let covered = used-covered (pool_of r) id used in
    let written = field-written (λ x. x.link) first slots n id s y w.entry in
    let told : next_of first m id ≡ r.free.head = ap (λ x. next_of first x id) written
    ∙ next-set_same first l id y.link covered.0 (omega (arith, w.entry.number, w.entry.within, length-map slots (λ x. x.link))) ∙ link in
    let kept = free-kept first slots n id s y w.entry r.free apart in
    slot-seen r h t n id s y w f _ _ _ _
    (field-written (λ x. cell_of x) first slots n id s y w.entry ∙ ap (λ o. set (cells_in slots) (id - first) o) cell)
    (ap (λ k. thread first m k f.head) (front.count ∙ add-one r.free.count) ∙ ap (λ k. thread first m (suc r.free.count) k) front.head ∙ ap (λ k. id ∷ thread first m r.free.count k) told ∙ ap (λ xs. id ∷ xs) kept)
    (field-kept (λ x. x.turn) first slots n id s y w.entry turn)
    (field-kept (λ x. hint_kept x) first slots n id s y w.entry hint)
    (with_given_back-pool (pool_of r) h.pool id used)
    (ends told)
  where
    ends : next_of r.tables.first (links_in (set (entries_of r.tables.slots.items) n y)) id ≡ r.free.head → IsTail r.tables.first (set (entries_of r.tables.slots.items) n y) f
    ends told zero more = front.head ∙ sym (front.only (omega (arith, more, front.count)))
    ends told (suc k) more =
        let first = r.tables.first in
        let slots = entries_of r.tables.slots.items in
        let long : r.free.count ≡ suc k = omega (arith, more, front.count) in
        let same = others-tell_same first slots n id s y w.entry (thread first (links_in slots) k r.free.head)
        (λ i is. free-apart r h id used i (rw long (thread-longer first (links_in slots) k r.free.head i is))) in
        ap (λ j. told_after first (links_in (set slots n y)) k (next_of first (links_in (set slots n y)) j)) front.head
        ∙ ap (λ j. told_after first (links_in (set slots n y)) k j) told
        ∙ told-same first (links_in slots) (links_in (set slots n y)) k r.free.head same
        ∙ h.tail k (omega (arith, long)) ∙ sym (front.tail (omega (arith, long)))

-- there are fewer free numbers than numbers while one has a cell
pub few-free : (r : Inside) → IsRegion r → r.free.count ≤ 1048576
few-free r h =
    let counted = h.pool.free_count in
    let long = thread-length r.tables.first (links_in (entries_of r.tables.slots.items)) r.free.count r.free.head in
    let most = count_by-le-length is_none (pool_of r).cells in
    omega (arith, counted, long, most, h.pool.few_numbers, h.pool.range)
