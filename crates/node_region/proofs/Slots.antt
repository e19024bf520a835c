-- What a write of the entry of a number changes of the lists that are read from the entries.
use Rattle.std.proofs.Common.{◌≡◌, ◌≢◌, ℕ, suc, ◌+◌, ◌-◌, ◌<◌, ◌≤◌, List, length, get_or, set, map, ap, ◌∙◌, arith}
use Rattle.std.proofs.lemmas.List.{map-set}
use Rattle.std.proofs.Math.Seq.{map-set_same}
use Rattle.hg_base.specs.Lists.{IsIn}
use Rattle.node_region.specs.declared.chunk.Slot.{Slot}
use Rattle.node_region.specs.declared.chunk.FreeList.{FreeList}
use Rattle.node_region.specs.Tables.{links_in, next_of, thread, free_in, IsTail}
use Rattle.node_region.proofs.Threads.{TellSame, thread-kept, told-same, thread-longer}
use Rattle.node_region.proofs.Entries.{next-set_other}

-- the entry of number id, which stands at place n, reads s
pub record IsEntry {A : Type 0} (first : ℕ) (xs : List A) (n id : ℕ) (s : A) : Type 0 where
  pub number : first + n ≡ id
  pub within : n < length xs
  pub read : s ≡ get_or xs n s

-- what a write changes of a list that is read from the entries
pub field-written : {A B : Type 0} (f : A → B) (first : ℕ) (xs : List A) (n id : ℕ) (s y : A) → IsEntry first xs n id s → map f (set xs n y) ≡ set (map f xs) (id - first) (f y)
field-written f first xs n id s y e =
    let place : id - first ≡ n = omega (arith, e.number) in
    rw place (map-set f xs n y)

-- nothing, where the new entry reads the same
pub field-kept : {A B : Type 0} (f : A → B) (first : ℕ) (xs : List A) (n id : ℕ) (s y : A) → IsEntry first xs n id s → f y ≡ f s → map f (set xs n y) ≡ map f xs
field-kept f first xs n id s y e same = map-set_same f xs n y s (same ∙ ap f e.read)

-- numbers that aren't the one of the entry tell what they told
pub others-tell_same : (first : ℕ) (slots : List Slot) (n id : ℕ) (s y : Slot) → IsEntry first slots n id s → (is : List ℕ)
    → ((i : ℕ) → IsIn i is → (first ≤ i) × (i ≢ id)) → TellSame first (links_in slots) (links_in (set slots n y)) is
others-tell_same first slots n id s y e is apart i here =
    let written = field-written (λ x. x.link) first slots n id s y e in
    ap (λ l. next_of first l i) written ∙ next-set_other first (links_in slots) id i y.link (omega (arith, e.number)) (apart i here).0 (apart i here).1

-- a list of free numbers without that of the entry stays
pub free-kept : (first : ℕ) (slots : List Slot) (n id : ℕ) (s y : Slot) → IsEntry first slots n id s → (free : FreeList)
    → ((i : ℕ) → IsIn i (free_in first slots free) → (first ≤ i) × (i ≢ id)) → free_in first (set slots n y) free ≡ free_in first slots free
free-kept first slots n id s y e free apart =
    thread-kept first (links_in slots) (links_in (set slots n y)) free.count free.head (others-tell_same first slots n id s y e (free_in first slots free) apart)

pub tail-kept : (first : ℕ) (slots : List Slot) (n id : ℕ) (s y : Slot) → IsEntry first slots n id s → (free : FreeList)
    → ((i : ℕ) → IsIn i (free_in first slots free) → (first ≤ i) × (i ≢ id)) → IsTail first slots free → IsTail first (set slots n y) free
tail-kept first slots n id s y e free apart tail k more =
    let long : free.count ≡ suc k = omega (arith, more) in
    let some = others-tell_same first slots n id s y e (thread first (links_in slots) k free.head)
    (λ i is. apart i (rw long (thread-longer first (links_in slots) k free.head i is))) in
    told-same first (links_in slots) (links_in (set slots n y)) k free.head some ∙ tail k more
