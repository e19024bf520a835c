-- Tables in a row: where the entries of each stand among all entries, and what a write to one changes.
use Rattle.std.proofs.Common.{◌≡◌, ℕ, zero, suc, ◌+◌, ◌-◌, ◌<◌, ◌≤◌, List, [], ◌∷◌, ◌++◌, length, get_or, set, take, refl, sym, ap, ◌∙◌, arith, zero-add, add-zero, length-append}
use Rattle.std.specs.Prelude.{Vec}
use Rattle.std.specs.declared.alloc.Global.{Global}
use Rattle.std.specs.List.{flat_map, sum_by, AllByRecursion}
use Rattle.std.proofs.Math.Seq.{map-set_same}
use Rattle.std.proofs.lemmas.List.{take_more, append-nil, set-append_left, set-append_right, take_all, length-map, map-append}
use Rattle.std.proofs.lemmas.List.Sums.{sum_by-cons}
use Rattle.std.proofs.lemmas.List.Concat.{flat_map-append, get_or-flat_map}
use Rattle.std.proofs.lemmas.List.FromFn.{map-range_with_len_more, length-map-range_with_len}
use Rattle.node_region.specs.declared.chunk.At.{At}
use Rattle.node_region.specs.declared.chunk.Slot.{Slot}
use Rattle.node_region.specs.declared.chunk.Place.{Place}
use Rattle.node_region.specs.Tables.{entries_of, lengths_of, start_of, firsts_from, AreInRow, IsAt, entry_number, fresh_slot, fresh_slots}

-- an element of one piece is replaced: so it is in the pieces put end to end
pub set-flat_map : {X A : Type 0} (f : X → List A) (xs : List X) (i j : ℕ) (y e : X) (a : A) → i < length xs → j < length (f (get_or xs i e))
    → f y ≡ set (f (get_or xs i e)) j a → flat_map f (set xs i y) ≡ set (flat_map f xs) (length (flat_map f (take i xs)) + j) a
set-flat_map f [] i j y e a hi hj same = absurd (omega (arith, hi))
set-flat_map f (x ∷ xs) zero j y e a hi hj same = ap (λ p. p ++ flat_map f xs) same ∙ sym (rw zero-add (set-append_left (f x) (flat_map f xs) j a hj))
set-flat_map f (x ∷ xs) (suc i) j y e a hi hj same =
    let before = length (flat_map f (take i xs)) in
    let long : length (f x ++ flat_map f (take i xs)) ≡ length (f x) + before = length-append (f x) (flat_map f (take i xs)) in
    let left : length (f x) + before + j - length (f x) ≡ before + j = omega arith in
    let behind = set-append_right (f x) (flat_map f xs) (length (f x)) (length (f x) + before + j) a refl (omega arith) in
    rw (long, behind, left) (ap (λ p. f x ++ p) (set-flat_map f xs i j y e a (omega (arith, hi)) hj same))

-- how many that are together
abbrev total : List ℕ → ℕ
total ns = sum_by (λ n. n) ns

total-more : (n : ℕ) (ns : List ℕ) → total (n ∷ ns) ≡ n + total ns
total-more n ns = sum_by-cons (λ n. n) n ns

-- as many entries stand before a table as the tables before it have in all
start-total : {A : Type 0} (tables : List (Vec A Global)) (k : ℕ) → start_of tables k ≡ total (take k (lengths_of tables))
start-total tables zero = refl
start-total [] (suc k) = refl
start-total (v ∷ vs) (suc k) = length-append v.items (entries_of (take k vs)) ∙ ap (λ n. length v.items + n) (start-total vs k) ∙ sym (total-more (length v.items) (take k (lengths_of vs)))

-- and in all
all-total : {A : Type 0} (tables : List (Vec A Global)) → length (entries_of tables) ≡ total (lengths_of tables)
all-total [] = refl
all-total (v ∷ vs) = length-append v.items (entries_of vs) ∙ ap (λ n. length v.items + n) (all-total vs) ∙ sym (total-more (length v.items) (lengths_of vs))

-- no entry stands behind the last table
pub start-all : {A : Type 0} (tables : List (Vec A Global)) (k : ℕ) → k ≡ length tables → start_of tables k ≡ length (entries_of tables)
start-all tables k last = ap (λ xs. length (entries_of xs)) (take_all k tables (omega (arith, last)))

-- the next table begins where this one ends
start-more : {A : Type 0} (tables : List (Vec A Global)) (k : ℕ) (d : Vec A Global) → k < length tables → start_of tables (k + 1) ≡ start_of tables k + length (get_or tables k d).items
start-more tables k d h =
    let v = get_or tables k d in
    ap (λ xs. length (entries_of xs)) (take_more tables k d h)
    ∙ ap length (flat_map-append (λ x. x.items) (take k tables) (v ∷ []))
    ∙ length-append (entries_of (take k tables)) (v.items ++ [])
    ∙ ap (λ xs. start_of tables k + length xs) (append-nil v.items)

-- there is one first number for each table
firsts-length : (first : ℕ) (ns : List ℕ) → length (firsts_from first ns) ≡ length ns
firsts-length first [] = refl
firsts-length first (n ∷ ns) = ap suc (firsts-length (first + n) ns)

-- a table's first number comes behind the numbers of the tables before it
firsts-at : (first : ℕ) (ns : List ℕ) (k d : ℕ) → k < length ns → get_or (firsts_from first ns) k d ≡ first + total (take k ns)
firsts-at first [] k d h = absurd (omega (arith, h))
firsts-at first (n ∷ ns) zero d h = sym (add-zero first)
firsts-at first (n ∷ ns) (suc k) d h =
    let on : first + n + total (take k ns) ≡ first + total (n ∷ take k ns) = omega (arith, total-more n (take k ns)) in
    firsts-at (first + n) ns k d (omega (arith, h)) ∙ on

-- where tables stand behind others
firsts-append : (first : ℕ) (ns ms : List ℕ) → firsts_from first (ns ++ ms) ≡ firsts_from first ns ++ firsts_from (first + total ns) ms
firsts-append first [] ms = rw add-zero refl
firsts-append first (n ∷ ns) ms =
    let on : first + n + total ns ≡ first + total (n ∷ ns) = omega (arith, total-more n ns) in
    ap (λ l. first ∷ l) (firsts-append (first + n) ns ms ∙ ap (λ k. firsts_from (first + n) ns ++ firsts_from k ms) on)

some-append : (ns ms : List ℕ) → AllByRecursion (λ n. 1 ≤ n) ns → AllByRecursion (λ n. 1 ≤ n) ms → AllByRecursion (λ n. 1 ≤ n) (ns ++ ms)
some-append [] ms front behind = behind
some-append (n ∷ ns) ms front behind = (front.0, some-append ns ms front.1 behind)

-- there are as many tables of numbers as first numbers
pub slots-many : (first : ℕ) (firsts : List ℕ) (slots : List (Vec Slot Global)) (places : List (Vec Place Global)) → AreInRow first firsts slots places → length slots ≡ length firsts
slots-many first firsts slots places row = sym (ap length row.0 ∙ firsts-length first (lengths_of slots) ∙ length-map slots (λ v. length v.items))

-- and as many tables of places
pub places-many : (first : ℕ) (firsts : List ℕ) (slots : List (Vec Slot Global)) (places : List (Vec Place Global)) → AreInRow first firsts slots places → length places ≡ length firsts
places-many first firsts slots places row =
    sym (length-map places (λ v. length v.items)) ∙ ap length row.1.0 ∙ length-map slots (λ v. length v.items) ∙ slots-many first firsts slots places row

-- a table's first number
pub row-first : (first : ℕ) (firsts : List ℕ) (slots : List (Vec Slot Global)) (places : List (Vec Place Global)) → AreInRow first firsts slots places
    → (k v : ℕ) → k < length firsts → v ≡ get_or firsts k v → v ≡ first + start_of slots k
row-first first firsts slots places row k v h read =
    let many = slots-many first firsts slots places row in
    read ∙ ap (λ l. get_or l k v) row.0 ∙ firsts-at first (lengths_of slots) k v (omega (arith, h, many, length-map slots (λ v. length v.items))) ∙ ap (λ n. first + n) (sym (start-total slots k))

-- as many places as numbers stand before a table
places-before : (first : ℕ) (firsts : List ℕ) (slots : List (Vec Slot Global)) (places : List (Vec Place Global)) → AreInRow first firsts slots places
    → (k : ℕ) → start_of places k ≡ start_of slots k
places-before first firsts slots places row k = start-total places k ∙ ap (λ ns. total (take k ns)) row.1.0 ∙ sym (start-total slots k)

-- and in all
pub places-all : (first : ℕ) (firsts : List ℕ) (slots : List (Vec Slot Global)) (places : List (Vec Place Global)) → AreInRow first firsts slots places
    → length (entries_of places) ≡ length (entries_of slots)
places-all first firsts slots places row = all-total places ∙ ap total row.1.0 ∙ sym (all-total slots)

-- where there is an entry of a number, there is one of a place
pub place-at : (first : ℕ) (firsts : List ℕ) (slots : List (Vec Slot Global)) (places : List (Vec Place Global)) → AreInRow first firsts slots places
    → (at : At) → IsAt slots at → IsAt places at
place-at first firsts slots places row at is = record {
  chunk = omega (arith, is.chunk, slots-many first firsts slots places row, places-many first firsts slots places row);
  index = omega (arith, is.index, places-before first firsts slots places row at.chunk, places-before first firsts slots places row (at.chunk + 1));
}

-- and both have one place among all
pub place-number : (first : ℕ) (firsts : List ℕ) (slots : List (Vec Slot Global)) (places : List (Vec Place Global)) → AreInRow first firsts slots places
    → (at : At) → entry_number places at ≡ entry_number slots at
place-number first firsts slots places row at = ap (λ n. n + at.index) (places-before first firsts slots places row at.chunk)

-- tables as long as these stand in the same row
pub row-kept : (first : ℕ) (firsts : List ℕ) (slots : List (Vec Slot Global)) (places : List (Vec Place Global)) → AreInRow first firsts slots places
    → (ss : List (Vec Slot Global)) (ps : List (Vec Place Global)) → lengths_of ss ≡ lengths_of slots → lengths_of ps ≡ lengths_of places → AreInRow first firsts ss ps
row-kept first firsts slots places row ss ps as_slots as_places = rw (as_slots, as_places) row

-- one row behind another
pub row-append : (first : ℕ) (firsts : List ℕ) (slots : List (Vec Slot Global)) (places : List (Vec Place Global)) → AreInRow first firsts slots places
    → (m : ℕ) → m ≡ length (entries_of slots) → (fs : List ℕ) (ss : List (Vec Slot Global)) (ps : List (Vec Place Global)) → AreInRow (first + m) fs ss ps
    → AreInRow first (firsts ++ fs) (slots ++ ss) (places ++ ps)
row-append first firsts slots places row m long fs ss ps behind =
    let slot_lengths : lengths_of (slots ++ ss) ≡ lengths_of slots ++ lengths_of ss = map-append (λ v. length v.items) slots ss in
    let place_lengths : lengths_of (places ++ ps) ≡ lengths_of places ++ lengths_of ps = map-append (λ v. length v.items) places ps in
    let both = firsts-append first (lengths_of slots) (lengths_of ss) in
    let on : first + m ≡ first + total (lengths_of slots) = ap (λ n. first + n) (long ∙ all-total slots) in
    rw (slot_lengths, place_lengths) (
      ap (λ l. l ++ fs) row.0 ∙ ap (λ l. firsts_from first (lengths_of slots) ++ l) (behind.0 ∙ ap (λ n. firsts_from n (lengths_of ss)) on) ∙ sym both,
      (ap (λ l. l ++ lengths_of ps) row.1.0 ∙ ap (λ l. lengths_of slots ++ l) behind.1.0, some-append (lengths_of slots) (lengths_of ss) row.1.1 behind.1.1),
    )

-- the entry is in its table
pub at-within : {A : Type 0} (tables : List (Vec A Global)) (at : At) → IsAt tables at → (v : Vec A Global) → v ≡ get_or tables at.chunk v → at.index < length v.items
at-within tables at is v table =
    let there : length (get_or tables at.chunk v).items ≡ length v.items = ap (λ (x : Vec _ Global). length x.items) (sym table) in
    omega (arith, is.index, start-more tables at.chunk v is.chunk, there)

-- an entry of a table is one
pub at-located : {A : Type 0} (tables : List (Vec A Global)) (at : At) → at.chunk < length tables → (v : Vec A Global) → v ≡ get_or tables at.chunk v → at.index < length v.items → IsAt tables at
at-located tables at chunk v table index =
    let there : length (get_or tables at.chunk v).items ≡ length v.items = ap (λ (x : Vec _ Global). length x.items) (sym table) in
    record { chunk = chunk; index = omega (arith, index, start-more tables at.chunk v chunk, there) }

-- where there is an entry there is a table
pub some-tables : {A : Type 0} (tables : List (Vec A Global)) → 1 ≤ length (entries_of tables) → 0 < length tables
some-tables [] some = absurd (omega (arith, some))
some-tables (v ∷ vs) some = omega arith

-- what stands in a table stands among all
pub entry-read : {A : Type 0} (tables : List (Vec A Global)) (at : At) → IsAt tables at → (v : Vec A Global) (a : A) → v ≡ get_or tables at.chunk v → a ≡ get_or v.items at.index a
    → a ≡ get_or (entries_of tables) (entry_number tables at) a
entry-read tables at is v a table entry =
    let within = at-within tables at is v table in
    let there = get_or-flat_map (λ x. x.items) tables at.chunk at.index v a is.chunk (rw table at within) in
    entry ∙ ap (λ (x : Vec _ Global). get_or x.items at.index a) table ∙ sym there

-- a write into a table is a write among all
pub entry-written : {A : Type 0} (tables : List (Vec A Global)) (at : At) → IsAt tables at → (v y : Vec A Global) (a : A) → v ≡ get_or tables at.chunk v → y.items ≡ set v.items at.index a
    → entries_of (set tables at.chunk y) ≡ set (entries_of tables) (entry_number tables at) a
entry-written tables at is v y a table written =
    let within = at-within tables at is v table in
    set-flat_map (λ x. x.items) tables at.chunk at.index y v a is.chunk (rw table at within)
    (written ∙ ap (λ (x : Vec _ Global). set x.items at.index a) table)

-- and leaves the tables as long as they were
pub lengths-written : {A : Type 0} (tables : List (Vec A Global)) (k : ℕ) (v y : Vec A Global) → v ≡ get_or tables k v → length y.items ≡ length v.items → lengths_of (set tables k y) ≡ lengths_of tables
lengths-written tables k v y table long = map-set_same (λ x. length x.items) tables k y v (long ∙ ap (λ (x : Vec _ Global). length x.items) table)

-- one more entry of a number that was never taken
pub fresh-more : (first id : ℕ) → first ≤ id → fresh_slots first (id + 1 - first) ≡ fresh_slots first (id - first) ++ fresh_slot id ∷ []
fresh-more first id h =
    let one : id + 1 - first ≡ id - first + 1 = omega arith in
    rw one (map-range_with_len_more fresh_slot first (id - first) id (omega arith))

-- so many entries
pub fresh-length : (first count : ℕ) → length (fresh_slots first count) ≡ count
fresh-length first count = length-map-range_with_len fresh_slot first count

-- the numbers of two lists of tables add up
pub both-count : {A : Type 0} (xs ys zs : List (Vec A Global)) → zs ≡ xs ++ ys → length (entries_of zs) ≡ length (entries_of xs) + length (entries_of ys)
both-count xs ys zs joined = rw (joined, flat_map-append (λ x. x.items) xs ys) (length-append (entries_of xs) (entries_of ys))

-- the entries of one table
pub one-entries : {A : Type 0} (tables : List (Vec A Global)) (v : Vec A Global) → tables ≡ v ∷ [] → entries_of tables ≡ v.items
one-entries tables v one = ap (λ l. entries_of l) one ∙ append-nil v.items

-- one table of numbers stands in a row
pub one-row : (first count : ℕ) (firsts : List ℕ) (slots : List (Vec Slot Global)) (places : List (Vec Place Global)) (s : Vec Slot Global) (p : Vec Place Global)
    → 1 ≤ count → firsts ≡ first ∷ [] → slots ≡ s ∷ [] → places ≡ p ∷ [] → length s.items ≡ count → length p.items ≡ count → AreInRow first firsts slots places
one-row first count firsts slots places s p some one one_slots one_places as_slots as_places =
    rw (one_slots, one_places) (one, (ap (λ n. n ∷ []) (as_places ∙ sym as_slots), (omega (arith, as_slots, some), tt)))
