-- What a region is seen as that was made anew, or of two.
use Rattle.std.proofs.Common.{◌≡◌, ℕ, zero, suc, ◌+◌, ◌-◌, ◌<◌, ◌≤◌, List, ◌∷◌, ◌++◌, length, get_or, map, replicate, count_by, is_none, None, refl, sym, ap, ◌∙◌, subst, arith, length-append}
use Rattle.std.specs.List.{range_with_len}
use Rattle.std.proofs.lemmas.List.{length-map, map-append, get_or_append_left, get_or-append_right}
use Rattle.std.proofs.lemmas.List.FromFn.{get_or-map-range_with_len}
use Rattle.std.proofs.lemmas.List.Sums.{count_by-le-length}
use Rattle.hg_base.specs.Lists.{IsIn}
use Rattle.hg_base.specs.declared.graph.Room.{Room}
use Rattle.node_region.specs.declared.chunk.Slot.{Slot}
use Rattle.node_region.specs.declared.chunk.Place.{Place}
use Rattle.node_region.specs.declared.chunk.FreeList.{FreeList}
use Rattle.node_region.specs.declared.tables.Tables.{Tables}
use Rattle.node_region.specs.declared.region.Region.TheInside.{Inside}
use Rattle.node_region.specs.Pool.{IsPool, IsNextTo, appended, fresh_pool}
use Rattle.node_region.specs.Tables.{entries_of, cells_in, links_in, cell_of, hint_kept, leaf_kept, finger_kept, next_of, free_in, IsTail, fresh_slot, fresh_slots, fresh_place}
use Rattle.node_region.specs.Kept.{room_of, CanLink, IsLinked}
use Rattle.node_region.specs.RegionFields.{pool_of, IsRegion}
use Rattle.node_region.proofs.Threads.{thread-length, thread-moved, told-moved, thread-longer, thread-rising, told-rising}
use Rattle.node_region.proofs.Pools.{pool-same}
use Rattle.node_region.proofs.PoolLaws.{appended-pool, fresh_pool-pool}
use Rattle.node_region.proofs.Views.{IsSeenAs, region_with}

-- the tables of two regions, one behind the other
pub record TablesOfBoth (r q : Inside) (t : Tables) : Type 0 where
  pub first : t.first ≡ r.tables.first
  pub slots : entries_of t.slots.items ≡ entries_of r.tables.slots.items ++ entries_of q.tables.slots.items
  pub places : entries_of t.places.items ≡ entries_of r.tables.places.items ++ entries_of q.tables.places.items
  pub chunks : length t.firsts.items ≡ length r.tables.firsts.items + length q.tables.firsts.items
  pub capacity : room_of r.tables ≤ room_of t

links-both : (r q : Inside) (t : Tables) → TablesOfBoth r q t → links_in (entries_of t.slots.items) ≡ links_in (entries_of r.tables.slots.items) ++ links_in (entries_of q.tables.slots.items)
links-both r q t b = ap links_in b.slots ∙ map-append (λ x. x.link) (entries_of r.tables.slots.items) (entries_of q.tables.slots.items)

-- the numbers of the first region tell what they told
left-tells : (r q : Inside) → IsRegion r → (t : Tables) → TablesOfBoth r q t → (i : ℕ) → IsIn i (pool_of r).free
    → next_of t.first (links_in (entries_of t.slots.items)) i ≡ next_of r.tables.first (links_in (entries_of r.tables.slots.items)) i
left-tells r q h t b i is =
    let l = links_in (entries_of r.tables.slots.items) in
    let m = links_in (entries_of q.tables.slots.items) in
    let at = h.pool.free_is_covered i is in
    let long = length-map (entries_of r.tables.slots.items) (λ x. x.link) in
    let cells = length-map (entries_of r.tables.slots.items) (λ x. cell_of x) in
    ap (λ k. next_of k (links_in (entries_of t.slots.items)) i) b.first ∙ ap (λ xs. next_of r.tables.first xs i) (links-both r q t b)
    ∙ get_or_append_left l m 0 (i - r.tables.first) (omega (arith, at.0, at.1, long, cells))

-- so do those of the second
right-tells : (r q : Inside) → IsRegion q → IsNextTo (pool_of r) (pool_of q) → (t : Tables) → TablesOfBoth r q t → (i : ℕ) → IsIn i (pool_of q).free
    → next_of t.first (links_in (entries_of t.slots.items)) i ≡ next_of q.tables.first (links_in (entries_of q.tables.slots.items)) i
right-tells r q k n t b i is =
    let l = links_in (entries_of r.tables.slots.items) in
    let m = links_in (entries_of q.tables.slots.items) in
    let at = k.pool.free_is_covered i is in
    let long = length-map (entries_of r.tables.slots.items) (λ x. x.link) in
    let cells = length-map (entries_of r.tables.slots.items) (λ x. cell_of x) in
    let next : q.tables.first ≡ r.tables.first + length l = omega (arith, n.next, long, cells) in
    let place : i - r.tables.first - length l ≡ i - q.tables.first = omega (arith, next) in
    ap (λ j. next_of j (links_in (entries_of t.slots.items)) i) b.first ∙ ap (λ xs. next_of r.tables.first xs i) (links-both r q t b)
    ∙ get_or-append_right l m (length l) (i - r.tables.first) 0 refl (omega (arith, at.0, next)) ∙ ap (λ j. get_or m j 0) place

left-free : (r q : Inside) → IsRegion r → (t : Tables) → TablesOfBoth r q t → free_in t.first (entries_of t.slots.items) r.free ≡ (pool_of r).free
left-free r q h t b = thread-moved r.tables.first t.first (links_in (entries_of r.tables.slots.items)) (links_in (entries_of t.slots.items)) r.free.count r.free.head (left-tells r q h t b)

right-free : (r q : Inside) → IsRegion q → IsNextTo (pool_of r) (pool_of q) → (t : Tables) → TablesOfBoth r q t → free_in t.first (entries_of t.slots.items) q.free ≡ (pool_of q).free
right-free r q k n t b = thread-moved q.tables.first t.first (links_in (entries_of q.tables.slots.items)) (links_in (entries_of t.slots.items)) q.free.count q.free.head (right-tells r q k n t b)

-- and the last number is the last
moved-tail : (r : Inside) → IsRegion r → (t : Tables)
    → ((i : ℕ) → IsIn i (pool_of r).free → next_of t.first (links_in (entries_of t.slots.items)) i ≡ next_of r.tables.first (links_in (entries_of r.tables.slots.items)) i)
    → IsTail t.first (entries_of t.slots.items) r.free
moved-tail r h t tells k more =
    let l = links_in (entries_of r.tables.slots.items) in
    let long : r.free.count ≡ suc k = omega (arith, more) in
    told-moved r.tables.first t.first l (links_in (entries_of t.slots.items)) k r.free.head
    (λ i is. tells i (rw long (thread-longer r.tables.first l k r.free.head i is)))
    ∙ h.tail k more

cells-both : (r q : Inside) (t : Tables) → TablesOfBoth r q t → cells_in (entries_of t.slots.items) ≡ (pool_of r).cells ++ (pool_of q).cells
cells-both r q t b = ap cells_in b.slots ∙ map-append (λ x. cell_of x) (entries_of r.tables.slots.items) (entries_of q.tables.slots.items)

-- the two lists of free numbers can be linked
pub both-can_link : (r q : Inside) → IsRegion r → IsRegion q → IsNextTo (pool_of r) (pool_of q) → (t : Tables) → TablesOfBoth r q t → CanLink t r.free q.free
both-can_link r q h k n t b =
    let both = appended-pool (pool_of r) (pool_of q) h.pool k.pool n in
    let lists : free_in t.first (entries_of t.slots.items) r.free ++ free_in t.first (entries_of t.slots.items) q.free ≡ (pool_of r).free ++ (pool_of q).free =
    ap (λ xs. xs ++ free_in t.first (entries_of t.slots.items) q.free) (left-free r q h t b) ∙ ap (λ xs. (pool_of r).free ++ xs) (right-free r q k n t b) in
    let cells = cells-both r q t b in
    let long : length (entries_of t.slots.items) ≡ length ((pool_of r).cells ++ (pool_of q).cells) = sym (length-map (entries_of t.slots.items) (λ x. cell_of x)) ∙ ap length cells in
    let counted : r.free.count + q.free.count ≡ count_by is_none ((pool_of r).cells ++ (pool_of q).cells) =
    omega (
      arith,
      both.free_count,
      length-append (pool_of r).free (pool_of q).free,
      thread-length r.tables.first (links_in (entries_of r.tables.slots.items)) r.free.count r.free.head,
      thread-length q.tables.first (links_in (entries_of q.tables.slots.items)) q.free.count q.free.head,
    ) in
    record {
      free = λ i is.
          let here = subst (λ (xs : List ℕ). IsIn i xs) lists is in
          let at = both.free_is_covered i here in
          record {
            from = omega (arith, at.0, b.first);
            below = omega (arith, at.1, b.first, long, t.counted);
            no_cell = rw (b.first, cells) (both.free_has_no_cell i here);
          };
      apart = rw lists both.free_once;
      tail = moved-tail r h t (left-tells r q h t b);
      behind_tail = moved-tail q k t (right-tells r q k n t b);
      few = omega (arith, counted, count_by-le-length is_none ((pool_of r).cells ++ (pool_of q).cells), both.few_numbers, both.range);
    }

-- one region behind another
pub appended-seen : (r q : Inside) → IsRegion r → IsRegion q → IsNextTo (pool_of r) (pool_of q) → (t : Tables) → TablesOfBoth r q t
    → (u : Tables) (f : FreeList) → IsLinked t r.free q.free u f → IsSeenAs (region_with r f u) (appended (pool_of r) (pool_of q))
appended-seen r q h k n t b u f w =
    let a = entries_of r.tables.slots.items in
    let c = entries_of q.tables.slots.items in
    let seen : pool_of (region_with r f u) ≡ appended (pool_of r) (pool_of q) = pool-same _ _ (record {
      first = w.kept.first ∙ b.first;
      cells = w.cells ∙ cells-both r q t b;
      leafs = ap (λ xs. map (λ x. leaf_kept x) xs) (w.places ∙ b.places) ∙ map-append (λ (x : Place). leaf_kept x) (entries_of r.tables.places.items) (entries_of q.tables.places.items);
      free = w.free ∙ ap (λ xs. xs ++ free_in t.first (entries_of t.slots.items) q.free) (left-free r q h t b) ∙ ap (λ xs. (pool_of r).free ++ xs) (right-free r q k n t b);
      chunks = w.kept.chunks ∙ b.chunks;
      room = refl;
      turns = w.turns ∙ ap (λ xs. map (λ x. x.turn) xs) b.slots ∙ map-append (λ (x : Slot). x.turn) a c;
      hints = w.hints ∙ ap (λ xs. map (λ x. hint_kept x) xs) b.slots ∙ map-append (λ (x : Slot). hint_kept x) a c;
      fingers = ap (λ xs. map (λ x. finger_kept x) xs) (w.places ∙ b.places) ∙ map-append (λ (x : Place). finger_kept x) (entries_of r.tables.places.items) (entries_of q.tables.places.items);
    }) in
    (seen, record { pool = subst (λ p. IsPool p) (sym seen) (appended-pool (pool_of r) (pool_of q) h.pool k.pool n); tail = w.tail; capacity = omega (arith, h.capacity, b.capacity, w.kept.capacity) })

-- what is read from entries of numbers that were never taken
fresh-field : {X : Type 0} (f : Slot → X) (x : X) → ((i : ℕ) → f (fresh_slot i) ≡ x) → (a n : ℕ) → map f (fresh_slots a n) ≡ replicate n x
fresh-field f x same a zero = refl
fresh-field f x same a (suc n) = rw (same a) (ap (λ xs. x ∷ xs) (fresh-field f x same (a + 1) n))

fresh-links : (a n : ℕ) → links_in (fresh_slots a n) ≡ map (λ i. i + 1) (range_with_len a n)
fresh-links a zero = refl
fresh-links a (suc n) = ap (λ xs. (a + 1) ∷ xs) (fresh-links (a + 1) n)

fresh-tells : (a n i : ℕ) → a ≤ i → i < a + n → next_of a (links_in (fresh_slots a n)) i ≡ i + 1
fresh-tells a n i low high = ap (λ xs. next_of a xs i) (fresh-links a n) ∙ get_or-map-range_with_len (λ j. j + 1) a n (i - a) i 0 (omega arith) (omega arith)

-- what is read from places with nothing above them
fresh-place_field : {X : Type 0} (f : Place → X) (n : ℕ) → map f (replicate n fresh_place) ≡ replicate n (f fresh_place)
fresh-place_field f zero = refl
fresh-place_field f (suc n) = ap (λ xs. f fresh_place ∷ xs) (fresh-place_field f n)

-- a region without cells
pub fresh-seen : (first n : ℕ) (room : Room) → 1 ≤ n → n ≤ room.places → first + room.places ≤ 1048576 → 1 ≤ room.chunks → room.chunks ≤ 65536
    → (t : Tables) → t.first ≡ first → entries_of t.slots.items ≡ fresh_slots first n → entries_of t.places.items ≡ replicate n fresh_place → length t.firsts.items ≡ 1 → room.chunks ≤ room_of t
    → (f : FreeList) → f.count ≡ n → f.head ≡ first → f.tail ≡ first + n - 1 → IsSeenAs (record { room = room; free = f; tables = t }) (fresh_pool first n room)
fresh-seen first n room some few range some_chunk few_chunks t at slots places one capacity f long head tail =
    let v : Inside = record { room = room; free = f; tables = t } in
    let up = λ (i : ℕ) (low : first ≤ i) (high : i < first + n). fresh-tells first n i low high in
    let seen : pool_of v ≡ fresh_pool first n room = pool-same _ _ (record {
      first = at;
      cells = ap cells_in slots ∙ fresh-field (λ x. cell_of x) None (λ i. refl) first n;
      leafs = ap (λ xs. map (λ x. leaf_kept x) xs) places ∙ fresh-place_field (λ x. leaf_kept x) n;
      free = rw (at, slots, long, head) (thread-rising first (links_in (fresh_slots first n)) n first up);
      chunks = one;
      room = refl;
      turns = ap (λ xs. map (λ x. x.turn) xs) slots ∙ fresh-field (λ x. x.turn) 0 (λ i. refl) first n;
      hints = ap (λ xs. map (λ x. hint_kept x) xs) slots ∙ fresh-field (λ x. hint_kept x) None (λ i. refl) first n;
      fingers = ap (λ xs. map (λ x. finger_kept x) xs) places ∙ fresh-place_field (λ x. finger_kept x) n;
    }) in (
      seen,
      record {
        pool = subst (λ p. IsPool p) (sym seen) (fresh_pool-pool first n room some few range some_chunk few_chunks);
        tail = λ k more.
            let m : n ≡ k + 1 = sym long ∙ more in
            rw (at, slots, head) (told-rising first (links_in (fresh_slots first n)) k first (λ i low high. up i low (omega (arith, high, m))) ∙ omega (arith, tail, m));
        capacity = capacity;
      },
    )
