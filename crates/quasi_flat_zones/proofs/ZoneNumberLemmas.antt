-- New numbers of kept nodes, and the nearest kept node of each.
use Rattle.std.proofs.Common.{◌≡◌, ℕ, suc, ◌+◌, ◌<◌, ◌≤◌, Bool, true, false, cond, inl, inr, sym, ◌∙◌, ap, arith, List, [], ◌∷◌, ◌++◌, length, map, get_or, append-nil}
use Rattle.std.specs.Prelude.{filter, nat_le}
use Rattle.std.specs.List.{range_with_len}
use Rattle.std.proofs.lemmas.Bool.{cases_Bool}
use Rattle.std.proofs.lemmas.List.{map-append}
use Rattle.std.proofs.lemmas.List.FromFn.{get_or-map-range_with_len, map-range_with_len_more}
use Rattle.hg_base.specs.Counting.{count_below}
use Rattle.tree_laws.specs.Tree.{ParentTree, parent}
use Rattle.tree_laws.specs.Levels.{IsClimbing}
use Rattle.tree_laws.specs.Zones.{keeps, zone_number, nearest, maker}
use Rattle.hg_base.proofs.Passing.{passing, passing-suc}
use Rattle.tree_laws.proofs.Kept.{IsDropped, keeps-false, nearest-kept, nearest-dropped}
use Rattle.tree_laws.proofs.Zones.{high-more}
use Rattle.partition_tree.specs.TreeLists.{nodes}
use Rattle.partition_tree.specs.NearestStops.{StopsAt, IsNearestStop, AreOfStops}
use Rattle.partition_tree.proofs.NearestStops.{stop-induction, stop-within}
use Rattle.quasi_flat_zones.specs.ZoneNumbers.{zone_numbers, AreNearestNumbers}

-- the next kept inner node, and its maker
pub makers_more : (t : ParentTree) (i v : ℕ) (items new : List ℕ) → t.leaves ≤ i → items ≡ map (maker t) (filter (nat_le t.leaves) (passing (keeps t) i)) → keeps t i ≡ true → v ≡ maker t i → new ≡ items ++ v ∷ [] →
    new ≡ map (maker t) (filter (nat_le t.leaves) (passing (keeps t) (i + 1)))
makers_more t i v items new inner so_far passes value pushed =
    let e : i + 1 ≡ suc i = omega arith in
    let kept_i = filter (nat_le t.leaves) (passing (keeps t) i) in
    let one : filter (nat_le t.leaves) (passing (keeps t) (suc i)) ≡ kept_i ++ i ∷ [] =
    high-more (keeps t) t.leaves i inner ∙ ap (λ (b : Bool). kept_i ++ cond b (i ∷ []) []) passes in
    pushed
    ∙ ap (λ (xs : List ℕ). xs ++ v ∷ []) so_far
    ∙ ap (λ (x : ℕ). map (maker t) kept_i ++ x ∷ []) value
    ∙ sym (map-append (maker t) kept_i (i ∷ []))
    ∙ ap (map (maker t)) (sym one)
    ∙ ap (λ (n : ℕ). map (maker t) (filter (nat_le t.leaves) (passing (keeps t) n))) (sym e)

pub makers_same : (t : ParentTree) (i : ℕ) (items : List ℕ) → t.leaves ≤ i → items ≡ map (maker t) (filter (nat_le t.leaves) (passing (keeps t) i)) → keeps t i ≡ false →
    items ≡ map (maker t) (filter (nat_le t.leaves) (passing (keeps t) (i + 1)))
makers_same t i items inner so_far fails =
    let e : i + 1 ≡ suc i = omega arith in
    let kept_i = filter (nat_le t.leaves) (passing (keeps t) i) in
    let one : filter (nat_le t.leaves) (passing (keeps t) (suc i)) ≡ kept_i ++ [] =
    high-more (keeps t) t.leaves i inner ∙ ap (λ (b : Bool). kept_i ++ cond b (i ∷ []) []) fails in
    so_far ∙ ap (map (maker t)) (sym (append-nil kept_i) ∙ sym one) ∙ ap (λ (n : ℕ). map (maker t) (filter (nat_le t.leaves) (passing (keeps t) n))) (sym e)

-- the count of kept nodes goes on
pub kept_more : (t : ParentTree) (i n : ℕ) → n ≡ zone_number t i → keeps t i ≡ true → n + 1 ≡ zone_number t (i + 1)
kept_more t i n so_far passes =
    let e : i + 1 ≡ suc i = omega arith in
    ap (λ (k : ℕ). k + 1) so_far ∙ sym (ap (λ (b : Bool). count_below (keeps t) i + cond b 1 0) passes) ∙ ap (zone_number t) (sym e)

pub kept_same : (t : ParentTree) (i n : ℕ) → n ≡ zone_number t i → keeps t i ≡ false → n ≡ zone_number t (i + 1)
kept_same t i n so_far fails =
    let e : i + 1 ≡ suc i = omega arith in
    let none' : zone_number t i ≡ zone_number t i + 0 = omega arith in
    so_far ∙ none' ∙ sym (ap (λ (b : Bool). count_below (keeps t) i + cond b 1 0) fails) ∙ ap (zone_number t) (sym e)

-- the nearest node at which paths stop is the nearest kept one
nearest-of_stop : (t : ParentTree) → IsClimbing t → (i j : ℕ) → i < nodes t → IsNearestStop t (keeps t) i j → nearest t i ≡ j
nearest-of_stop t c = stop-induction t c (keeps t) (λ i j. nearest t i ≡ j) here up
  where
    here : (i : ℕ) → i < nodes t → StopsAt t (keeps t) i → nearest t i ≡ i
    here i h (inl on) = nearest-kept t i on
    here i h (inr root) = elim (cases_Bool (keeps t i)) [
      | inl on ↦ nearest-kept t i on
      | inr off ↦ (let d : IsDropped t i = keeps-false t i off in absurd (d.below root))
    ]

    up : (i j : ℕ) → i < nodes t → keeps t i ≡ false → (parent t i ≡ i → ⊥) → IsNearestStop t (keeps t) (parent t i) j → nearest t (parent t i) ≡ j → nearest t i ≡ j
    up i j h off below n rest = nearest-dropped t c i h off ∙ rest

-- new numbers that were sent down to it are those of the nearest kept nodes
pub nearest-of_stops : (t : ParentTree) → IsClimbing t → (own numbers : List ℕ) → own ≡ zone_numbers t → AreOfStops t (keeps t) own numbers → AreNearestNumbers t numbers
nearest-of_stops t c own numbers same a = record {
  one_each = a.one_each;
  each = λ i h.
      let s = a.each i h in
      let high : s.0 < nodes t = stop-within t c (keeps t) i s.0 h s.1.0 in
      s.1.1 ∙ ap (λ (xs : List ℕ). get_or xs s.0 0) same ∙ get_or-map-range_with_len (zone_number t) 0 (nodes t) s.0 s.0 0 high (omega arith) ∙ ap (zone_number t) (sym (nearest-of_stop t c i s.0 h s.1.0));
}
