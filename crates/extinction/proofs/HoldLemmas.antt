-- Which minima a node of a tree holds: the tests, and from child to parent.
use Rattle.std.proofs.Common.{◌≡◌, ℕ, zero, suc, ◌+◌, ◌<◌, ◌≤◌, Bool, true, false, inl, inr, refl, sym, ◌∙◌, subst, ap, arith, List, [], ◌∷◌, length, get_or}
use Rattle.std.specs.Prelude.{◌==◌, ◌||◌, not, nat_lt, Option, Some, None, find, unwrap_or}
use Rattle.std.specs.List.{range_with_len}
use Rattle.std.proofs.lemmas.Bool.{cases_Bool, both_ways, and_parts, and_from, or_cases, or_left, or_right, not-true, not_from_false, false_from_ne_true, ne_eqb, eq-eqb, cases_eq, lt-ltb, ltb-true}
use Rattle.hg_base.specs.Lists.{IsIn}
use Rattle.hg_base.specs.Labels.{IsLabel}
use Rattle.tree_laws.specs.Tree.{ParentTree, parent, IsAbove}
use Rattle.tree_laws.specs.Levels.{IsClimbing, is_above}
use Rattle.tree_laws.proofs.Climbs.{above-parent}
use Rattle.hg_base.proofs.Leasts.{first_of}
use Rattle.tree_laws.proofs.Tops.{is_above-from, is_above-to}
use Rattle.partition_tree.specs.TreeLists.{IsWellFormed}
use Rattle.partition_tree.specs.Children.{is_child, child_count, IsChildAt}
use Rattle.partition_tree.proofs.ChildLemmas.{count-nth, child-parent, child-other}
use Rattle.partition_tree.proofs.WellFormed.{well_formed-climbs, well_formed-leaves}
use Rattle.watershed_cut.specs.MinimumLabels.{LabelledMinima}
use Rattle.partition_tree.proofs.ListTests.{any-from, any-to, all-from, all-to, range-to, range-from}
use Rattle.extinction.specs.Holding.{HoldsMinimum, holds_minimum, holds, least_held, child, child_holds}
use Rattle.extinction.proofs.SideLemmas.{child-found}

-- the test of holding
pub holds_minimum-from : (t : ParentTree) (m : LabelledMinima) → IsClimbing t → t.leaves ≤ length t.parents → (i label : ℕ) → HoldsMinimum t m i label → holds_minimum t m i label ≡ true
holds_minimum-from t m c few i label h = all-from (λ x. not (get_or m.vertices x 0 == label) || is_above t i x) (range_with_len 0 t.leaves) (λ x j.
    let hx : x < 0 + t.leaves = (range-to 0 t.leaves x j).1 in
    elim (cases_eq (get_or m.vertices x 0) label) [
      | inl same ↦ or_right _ _ (is_above-from t c i x (omega arith) (h.all x (omega arith) same))
      | inr other ↦ or_left _ _ (not_from_false _ (ne_eqb (get_or m.vertices x 0) label other))
    ])

pub holds_minimum-to : (t : ParentTree) (m : LabelledMinima) (i label : ℕ) → IsLabel m.count label → holds_minimum t m i label ≡ true → HoldsMinimum t m i label
holds_minimum-to t m i label is h = record {
  minimum = is;
  all = λ x hx same. elim (or_cases (not (get_or m.vertices x 0 == label)) (is_above t i x) (all-to (λ x'. not (get_or m.vertices x' 0 == label) || is_above t i x') (range_with_len 0 t.leaves) h x (range-from 0 t.leaves x (omega arith) (omega arith)))) [
    | inl other ↦ absurd (both_ways _ (not-true _ other) (eq-eqb (get_or m.vertices x 0) label same))
    | inr over ↦ is_above-to t i x over
  ];
}

-- a number of the labels' range
label-in : (count label : ℕ) → IsLabel count label → IsIn label (range_with_len 1 count)
label-in count label is = let low : 1 ≤ label = is.positive in let high : label ≤ count = is.most in range-from 1 count label low (omega arith)

pub in-label : (count label : ℕ) → IsIn label (range_with_len 1 count) → IsLabel count label
in-label count label i = let r = range-to 1 count label i in record { positive = r.0; most = (let high : label < 1 + count = r.1 in omega arith) }

pub holds-from : (t : ParentTree) (m : LabelledMinima) → IsClimbing t → t.leaves ≤ length t.parents → (i label : ℕ) → HoldsMinimum t m i label → holds t m i ≡ true
holds-from t m c few i label h = any-from (holds_minimum t m i) label (range_with_len 1 m.count) (label-in m.count label h.minimum) (holds_minimum-from t m c few i label h)

pub holds-to : (t : ParentTree) (m : LabelledMinima) (i : ℕ) → holds t m i ≡ true → (label : ℕ) × HoldsMinimum t m i label
holds-to t m i h =
    let found = any-to (holds_minimum t m i) (range_with_len 1 m.count) h in
    (found.0, holds_minimum-to t m i found.0 (in-label m.count found.0 found.1.0) found.1.1)

-- a parent holds what its child holds
pub holds-up : (t : ParentTree) (m : LabelledMinima) → IsClimbing t → t.leaves ≤ length t.parents → (c i : ℕ) → parent t c ≡ i → holds t m c ≡ true → holds t m i ≡ true
holds-up t m climbs few c i up h =
    let l = holds-to t m c h in
    holds-from t m climbs few i l.0 (record { minimum = l.1.minimum; all = λ x hx same. subst (λ (k : ℕ). IsAbove t k x) up (above-parent t c x (l.1.all x hx same)) })

-- a search over a range that finds nothing
pub find-none : (p : ℕ → Bool) (a n : ℕ) → ((x : ℕ) → a ≤ x → x < a + n → p x ≡ false) → find p (range_with_len a n) ≡ None
find-none p a zero h = refl
find-none p a (suc n) h =
    let here : p a ≡ false = h a (omega arith) (omega arith) in
    let rest : find p (range_with_len (a + 1) n) ≡ None = find-none p (a + 1) n (λ x low high. h x (omega arith) (omega arith)) in
    rw here rest

-- what a search finds is of the list
pub found-in : {X : Type 0} (p : X → Bool) (xs : List X) (x : X) → find p xs ≡ Some x → IsIn x xs
found-in {X} p [] x h = absurd (cc)
found-in {X} p (y ∷ ys) x h = elim (cases_Bool (p y)) [
  | inl here ↦ inl (same-some y x (sym (found-first p y ys here) ∙ h))
  | inr off ↦ inr (found-in p ys x (sym (found-later p y ys off) ∙ h))
]
  where
    same-some : (y x : X) → Some y ≡ Some x → y ≡ x
    same-some y x e = cc

    found-first : (p : X → Bool) (y : X) (ys : List X) → p y ≡ true → find p (y ∷ ys) ≡ Some y
    found-first p y ys here = rw here refl

    found-later : (p : X → Bool) (y : X) (ys : List X) → p y ≡ false → find p (y ∷ ys) ≡ find p ys
    found-later p y ys off = rw off refl

-- the least label that is held
pub least-none : (t : ParentTree) (m : LabelledMinima) (i : ℕ) → holds t m i ≡ false → least_held t m i ≡ 0
least-none t m i h = ap (λ (o : Option ℕ). unwrap_or o 0) (find-none (holds_minimum t m i) 1 m.count (λ x low high.
    false_from_ne_true (holds_minimum t m i x) (λ y. both_ways _ h (any-from (holds_minimum t m i) x (range_with_len 1 m.count) (range-from 1 m.count x low high) y))))

pub least-some : (t : ParentTree) (m : LabelledMinima) (i : ℕ) → holds t m i ≡ true → IsLabel m.count (least_held t m i)
least-some t m i h =
    let found = any-to (holds_minimum t m i) (range_with_len 1 m.count) h in
    let r = range-to 1 m.count found.0 found.1.0 in
    let f = first_of (holds_minimum t m i) 1 m.count found.0 r.0 r.1 found.1.1 in
    let at : least_held t m i ≡ f.at = ap (λ (o : Option ℕ). unwrap_or o 0) f.found in
    subst (IsLabel m.count) (sym at) (in-label m.count f.at (found-in (holds_minimum t m i) (range_with_len 1 m.count) f.at f.found))

-- the child before which k others come
pub child-there : (t : ParentTree) → IsWellFormed t → (i k : ℕ) → k < child_count t i → IsChildAt t i k (child t i k)
child-there t f i k h =
    let found = count-nth (is_child t i) (length t.parents) k h in
    let j = found.0 in
    let own : is_child t i j ≡ true = found.1.1.0 in
    let up : parent t j ≡ i = child-parent t i j own in
    let rises : j ≤ parent t j = f.rises j found.1.0 in
    let other : parent t j ≡ j → ⊥ = child-other t i j own in
    let at : IsChildAt t i k j = record { node = found.1.0; parent_is = up; less = grind (arith, up, rises, other); before = found.1.1.1 } in
    subst (IsChildAt t i k) (sym (child-found t i k j at)) at

-- a child that holds: it is there, and the node holds too
pub child_holds-to : (t : ParentTree) (m : LabelledMinima) (i k : ℕ) → child_holds t m i k ≡ true → (k < child_count t i) × (holds t m (child t i k) ≡ true)
child_holds-to t m i k h = let p = and_parts (nat_lt k (child_count t i)) (holds t m (child t i k)) h in (ltb-true k (child_count t i) p.0, p.1)

pub child_holds-from : (t : ParentTree) (m : LabelledMinima) (i k : ℕ) → k < child_count t i → holds t m (child t i k) ≡ true → child_holds t m i k ≡ true
child_holds-from t m i k h c = and_from _ _ (lt-ltb k (child_count t i) h) c

pub child_holds-up : (t : ParentTree) (m : LabelledMinima) → IsWellFormed t → (i k : ℕ) → child_holds t m i k ≡ true → holds t m i ≡ true
child_holds-up t m f i k h =
    let p = child_holds-to t m i k h in
    holds-up t m (well_formed-climbs t f) (well_formed-leaves t f) (child t i k) i (child-there t f i k p.0).parent_is p.1
