-- The tables of a region: one after another they have an entry for each number and for each place.
use Rattle.std.specs.Prelude.{◌≡◌, ℕ, zero, suc, ◌+◌, ◌-◌, ◌<◌, ◌≤◌, List, [], ◌∷◌, length, map, take, get_or, Option, Some, None, false, if◌then◌else◌, Vec}
use Rattle.std.specs.List.{flat_map, range_with_len, AllByRecursion, AllByRecursion-prop}
use Rattle.std.specs.Coded.{×_prop, Coded-set, coded_list, coded_ℕ, le_prop}
use Rattle.std.specs.declared.alloc.Global.{Global}
use Rattle.node_region.specs.declared.cell.Cell.{Cell}
use Rattle.node_region.specs.declared.cell.Hint.{Hint}
use Rattle.node_region.specs.declared.chunk.Slot.{Slot}
use Rattle.node_region.specs.declared.chunk.Place.{Place}
use Rattle.node_region.specs.declared.chunk.At.{At}
use Rattle.node_region.specs.declared.chunk.FreeList.{FreeList}

-- all entries of tables, in order
abbrev pub entries_of : {A : Type 0} → List (Vec A Global) → List A
entries_of tables = flat_map (λ v. v.items) tables

-- how many entries each table has
abbrev pub lengths_of : {A : Type 0} → List (Vec A Global) → List ℕ
lengths_of tables = map (λ v. length v.items) tables

-- how many entries stand before a table
abbrev pub start_of : {A : Type 0} → List (Vec A Global) → ℕ → ℕ
start_of tables k = length (entries_of (take k tables))

-- the first number of each table, where the tables have so many numbers and the first of them begins with this one
abbrev pub firsts_from : ℕ → List ℕ → List ℕ
firsts_from first [] = []
firsts_from first (n ∷ ns) = first ∷ firsts_from (first + n) ns

-- the tables begin at these numbers one after another, and each has some numbers and as many places
abbrev pub AreInRow : ℕ → List ℕ → List (Vec Slot Global) → List (Vec Place Global) → Type 0
AreInRow first firsts slots places = (firsts ≡ firsts_from first (lengths_of slots)) × ((lengths_of places ≡ lengths_of slots) × AllByRecursion (λ n. 1 ≤ n) (lengths_of slots))

pub AreInRow-prop : (first : ℕ) (firsts : List ℕ) (slots : List (Vec Slot Global)) (places : List (Vec Place Global)) → IsProp (AreInRow first firsts slots places)
AreInRow-prop first firsts slots places =
    ×_prop (Coded-set (coded_list coded_ℕ) firsts (firsts_from first (lengths_of slots)))
    (×_prop (Coded-set (coded_list coded_ℕ) (lengths_of places) (lengths_of slots)) (AllByRecursion-prop (λ n. 1 ≤ n) (λ n. le_prop) (lengths_of slots)))

-- there is such an entry
pub record IsAt {A : Type 0} (tables : List (Vec A Global)) (at : At) : Type 0 where
  pub chunk : at.chunk < length tables
  pub index : start_of tables at.chunk + at.index < start_of tables (at.chunk + 1)

-- the place of an entry among all
abbrev pub entry_number : {A : Type 0} → List (Vec A Global) → At → ℕ
entry_number tables at = start_of tables at.chunk + at.index

-- what stands where nothing is noted
abbrev pub no_hint : Hint
no_hint = record { cell = 0; turn = 0; rank = 0 }

-- the entry of a number that was never taken
abbrev pub fresh_slot : ℕ → Slot
fresh_slot id = record { rank = 0; link = id + 1; turn = 0; used = false; linked = false; noted = false; note = no_hint }

abbrev pub fresh_slots : ℕ → ℕ → List Slot
fresh_slots first count = map fresh_slot (range_with_len first count)

-- the entry of a place with nothing above it
abbrev pub fresh_place : Place
fresh_place = record { link = 0; linked = false; noted = false; note = no_hint }

-- the cell that an entry tells, where there is one
abbrev pub cell_of : Slot → Option Cell
cell_of s = if s.used then Some (record { rank = s.rank; up = if s.linked then Some s.link else None }) else None

-- what an entry tells of what is noted at a number
abbrev pub hint_kept : Slot → Option Hint
hint_kept s = if s.noted then Some s.note else None

-- what an entry tells of the first cell above a place
abbrev pub leaf_kept : Place → Option ℕ
leaf_kept p = if p.linked then Some p.link else None

-- what an entry tells of what is noted at a place
abbrev pub finger_kept : Place → Option Hint
finger_kept p = if p.noted then Some p.note else None

-- the cells of the numbers that have one
abbrev pub cells_in : List Slot → List (Option Cell)
cells_in slots = map (λ s. cell_of s) slots

-- what each number tells
abbrev pub links_in : List Slot → List ℕ
links_in slots = map (λ s. s.link) slots

-- the number that a number tells
abbrev pub next_of : ℕ → List ℕ → ℕ → ℕ
next_of first links id = get_or links (id - first) 0

-- so many numbers, each told by the one before it
abbrev pub thread : ℕ → List ℕ → ℕ → ℕ → List ℕ
thread first links zero head = []
thread first links (suc k) head = head ∷ thread first links k (next_of first links head)

-- the number that is reached in so many steps
abbrev pub told_after : ℕ → List ℕ → ℕ → ℕ → ℕ
told_after first links zero head = head
told_after first links (suc k) head = told_after first links k (next_of first links head)

-- the free numbers of a list
abbrev pub free_in : ℕ → List Slot → FreeList → List ℕ
free_in first slots free = thread first (links_in slots) free.count free.head

-- the last free number of a list that isn't empty
abbrev pub IsTail : ℕ → List Slot → FreeList → Type 0
IsTail first slots free = (k : ℕ) → free.count ≡ k + 1 → told_after first (links_in slots) k free.head ≡ free.tail
