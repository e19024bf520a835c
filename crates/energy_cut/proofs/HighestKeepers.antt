-- The nodes that keep their own energies: the highest of them are the least cut.
use Rattle.std.proofs.Common.{◌≡◌, ℕ, ◌+◌, ◌-◌, ◌<◌, ◌≤◌, Bool, true, false, inl, inr, refl, ◌∙◌, subst, ap, arith, List, length, get_or}
use Rattle.std.specs.Prelude.{◌&&◌, not, min, nat_lt}
use Rattle.std.specs.List.{list_any}
use Rattle.std.proofs.lemmas.Bool.{cases_eq, cases_lt, and_parts, and_from, eqb-true, eq-eqb, false_from_ne_true, both_ways, cond-true, cond-false, lt-ltb, le-ltb}
use Rattle.hg_base.specs.Lists.{IsIn}
use Rattle.tree_laws.specs.Tree.{ParentTree, IsAbove}
use Rattle.tree_laws.specs.Levels.{is_above}
use Rattle.tree_laws.proofs.Climbs.{above-on, above-within}
use Rattle.hg_base.proofs.Passing.{passing}
use Rattle.tree_laws.proofs.Tops.{is_above-from, is_above-to}
use Rattle.partition_tree.specs.TreeLists.{IsWellFormed}
use Rattle.partition_tree.specs.Children.{is_child}
use Rattle.partition_tree.proofs.WellFormed.{well_formed-climbs, well_formed-leaves}
use Rattle.energy_cut.specs.Cuts.{IsCut, IsLeastCut, cut_energy, leaf_numbers}
use Rattle.energy_cut.specs.LeastEnergies.{AreLeast, children_sum, keeps_own}
use Rattle.energy_cut.proofs.Totals.{total, sum-passing, total-agree, total-flat, total-le, total-tight}
use Rattle.partition_tree.proofs.ListTests.{any-from, any-to, range-from, range-to}
use Rattle.energy_cut.proofs.ListMembers.{has, has-from, passing-from, passing-to, rising-passing, passing-rises}
use Rattle.energy_cut.proofs.Covers.{free, free-to, highest, highest-one}
use Rattle.energy_cut.proofs.Balance.{is_root, waits, below_sum, lost, balance, waits-roots}

-- the value of a node, by number
abbrev pub value : List ℕ → ℕ → ℕ
value xs i = get_or xs i 0

-- a leaf is below node i
abbrev pub has_leaf : ParentTree → ℕ → Bool
has_leaf t i = list_any (is_above t i) (leaf_numbers t)

pub has_leaf-from : (t : ParentTree) → IsWellFormed t → (i x : ℕ) → x < t.leaves → IsAbove t i x → has_leaf t i ≡ true
has_leaf-from t f i x h a =
    any-from (is_above t i) x (leaf_numbers t) (range-from 0 t.leaves x (omega arith) (omega arith))
    (is_above-from t (well_formed-climbs t f) i x (let few = well_formed-leaves t f in omega arith) a)

pub has_leaf-to : (t : ParentTree) (i : ℕ) → has_leaf t i ≡ true → (x : ℕ) × ((x < t.leaves) × IsAbove t i x)
has_leaf-to t i h =
    let found = any-to (is_above t i) (leaf_numbers t) h in
    let r = range-to 0 t.leaves found.0 found.1.0 in
    (found.0, (omega (arith, r.1), is_above-to t i found.0 found.1.1))

-- the children's sum, in both forms
children-below : (t : ParentTree) (b : List ℕ) (i : ℕ) → children_sum t b i ≡ below_sum t (value b) i
children-below t b i = sum-passing (is_child t i) (value b) (length t.parents)

-- no node's least energy is above its own
pub least-own : (t : ParentTree) (e b : List ℕ) → AreLeast t e b → (i : ℕ) → i < length t.parents → value b i ≤ value e i
least-own t e b a i h = elim (cases_lt i t.leaves) [
  | inl leaf ↦ let same : value b i ≡ value e i = a.each i h ∙ cond-true (nat_lt i t.leaves) _ _ (lt-ltb i t.leaves leaf) in omega arith
  | inr inner ↦ let same : value b i ≡ min (value e i) (children_sum t b i) = a.each i h ∙ cond-false (nat_lt i t.leaves) _ _ (le-ltb i t.leaves inner) in omega arith
]

-- an inner node's is not above its children's sum
least-below : (t : ParentTree) (e b : List ℕ) → AreLeast t e b → (i : ℕ) → i < length t.parents → t.leaves ≤ i → value b i ≤ below_sum t (value b) i
least-below t e b a i h inner =
    let same : value b i ≡ min (value e i) (children_sum t b i) = a.each i h ∙ cond-false (nat_lt i t.leaves) _ _ (le-ltb i t.leaves inner) in
    let sums : children_sum t b i ≡ below_sum t (value b) i = children-below t b i in
    omega arith

-- a node that doesn't keep its own is an inner one, and has its children's
pub leaf-keeps : (t : ParentTree) (e b : List ℕ) → AreLeast t e b → (i : ℕ) → i < length t.parents → i < t.leaves → keeps_own e b i ≡ true
leaf-keeps t e b a i h leaf = eq-eqb (value b i) (value e i) (a.each i h ∙ cond-true (nat_lt i t.leaves) _ _ (lt-ltb i t.leaves leaf))

gives-up : (t : ParentTree) (e b : List ℕ) → AreLeast t e b → (i : ℕ) → i < length t.parents → keeps_own e b i ≡ false → value b i ≡ below_sum t (value b) i
gives-up t e b a i h off = elim (cases_lt i t.leaves) [
  | inl leaf ↦ absurd (both_ways (keeps_own e b i) off (leaf-keeps t e b a i h leaf))
  | inr inner ↦
      let same : value b i ≡ min (value e i) (children_sum t b i) = a.each i h ∙ cond-false (nat_lt i t.leaves) _ _ (le-ltb i t.leaves inner) in
      let sums : children_sum t b i ≡ below_sum t (value b) i = children-below t b i in
      let other : value b i ≡ value e i → ⊥ = λ q. both_ways (keeps_own e b i) off (eq-eqb (value b i) (value e i) q) in
      grind (arith, same, sums, other)
]

-- the least energies at the roots, summed
abbrev pub at_roots : ParentTree → List ℕ → ℕ
at_roots t b = total (is_root t) (value b) (length t.parents)

-- a cut's nodes are nodes
pub cut-within : (t : ParentTree) → IsWellFormed t → (d : List ℕ) → IsCut t d → (i : ℕ) → IsIn i d → i < length t.parents
cut-within t f d c i m =
    let x = c.in_paths i m in
    let few = well_formed-leaves t f in
    above-within t (well_formed-climbs t f) i x.0 (let low : x.0 < t.leaves = x.1.0 in omega arith) x.1.1

-- the energy of a rising list of nodes
pub energy-has : (t : ParentTree) (e d : List ℕ) → IsWellFormed t → IsCut t d → cut_energy e d ≡ total (has d) (value e) (length t.parents)
energy-has t e d f c =
    ap (cut_energy e) (rising-passing (length t.parents) d c.rising (λ i m. cut-within t f d c i m)) ∙ sum-passing (has d) (value e) (length t.parents)

-- a free node outside of a cut is an inner one
cut-inner : (t : ParentTree) → IsWellFormed t → (d : List ℕ) → IsCut t d → (k : ℕ) → k < length t.parents → free t (has d) k ≡ true → has d k ≡ false → t.leaves ≤ k
cut-inner t f d c k h open' off = elim (cases_lt k t.leaves) [
  | inr inner ↦ inner
  | inl leaf ↦
      let one = c.one_each k leaf in
      absurd (elim (cases_eq one.node k) [
        | inl same ↦ both_ways (has d k) off (has-from d k (subst (λ (i : ℕ). IsIn i d) same one.member))
        | inr other ↦ free-to t (well_formed-climbs t f) (has d) k h open' (record { node = one.node; above = one.above; passes = has-from d one.node one.member; other = other })
      ])
]

-- the least energies at the roots are no more than those of a cut's nodes
pub roots-cut : (t : ParentTree) (e b d : List ℕ) → IsWellFormed t → AreLeast t e b → IsCut t d → at_roots t b ≤ total (has d) (value b) (length t.parents)
roots-cut t e b d f a c =
    let up = well_formed-climbs t f in
    let n = length t.parents in
    let sums : total (waits t (has d) n) (value b) n + lost t (has d) (value b) n ≡ total (λ k. free t (has d) k && has d k) (value b) n =
    balance t up (has d) (value b) (λ k h open' off. least-below t e b a k h (cut-inner t f d c k h open' off)) n (omega arith) in
    let roots : total (waits t (has d) n) (value b) n ≡ at_roots t b = waits-roots t up (has d) (value b) in
    let part : total (λ k. free t (has d) k && has d k) (value b) n ≤ total (has d) (value b) n =
    total-le (λ k. free t (has d) k && has d k) (has d) (value b) (value b) n (λ j h p. (and_parts _ _ p).1) (λ j h. omega arith) in
    omega arith

-- no cut has less energy than the least energies at the roots
pub roots-least : (t : ParentTree) (e b d : List ℕ) → IsWellFormed t → AreLeast t e b → IsCut t d → at_roots t b ≤ cut_energy e d
roots-least t e b d f a c =
    let low = roots-cut t e b d f a c in
    let more : total (has d) (value b) (length t.parents) ≤ total (has d) (value e) (length t.parents) =
    total-le (has d) (has d) (value b) (value e) (length t.parents) (λ j h p. p) (λ j h. least-own t e b a j h) in
    let same : cut_energy e d ≡ total (has d) (value e) (length t.parents) = energy-has t e d f c in
    omega arith

-- node k keeps_own its own energy, is below no other that does, and is above a leaf
abbrev pub is_best : ParentTree → List ℕ → List ℕ → ℕ → Bool
is_best t e b k = (free t (keeps_own e b) k && keeps_own e b k) && has_leaf t k

-- the nodes that do
abbrev pub best_nodes : ParentTree → List ℕ → List ℕ → List ℕ
best_nodes t e b = passing (is_best t e b) (length t.parents)

-- they cost no more than the least energies at the roots
pub best-energy : (t : ParentTree) (e b : List ℕ) → IsWellFormed t → AreLeast t e b → cut_energy e (best_nodes t e b) ≤ at_roots t b
best-energy t e b f a =
    let up = well_formed-climbs t f in
    let n = length t.parents in
    let p = keeps_own e b in
    let sums : total (waits t p n) (value b) n + lost t p (value b) n ≡ total (λ k. free t p k && p k) (value b) n =
    balance t up p (value b) (λ k h open' off. let same : value b k ≡ below_sum t (value b) k = gives-up t e b a k h off in omega arith) n (omega arith) in
    let none' : lost t p (value b) n ≡ 0 =
    total-flat (λ k. free t p k && not (p k)) (λ k. below_sum t (value b) k - value b k) n (λ k h q. level k h (and_parts _ _ q).1) in
    let roots : total (waits t p n) (value b) n ≡ at_roots t b = waits-roots t up p (value b) in
    let own : total (λ k. free t p k && p k) (value b) n ≡ total (λ k. free t p k && p k) (value e) n =
    total-agree (λ k. free t p k && p k) (λ k. free t p k && p k) (value b) (value e) n (λ j h. refl) (λ j h q. eqb-true (value b j) (value e j) (and_parts _ _ q).1) in
    let part : total (is_best t e b) (value e) n ≤ total (λ k. free t p k && p k) (value e) n =
    total-le (is_best t e b) (λ k. free t p k && p k) (value e) (value e) n (λ j h q. (and_parts _ _ q).0) (λ j h. omega arith) in
    let listed : cut_energy e (best_nodes t e b) ≡ total (is_best t e b) (value e) n = sum-passing (is_best t e b) (value e) n in
    omega arith
  where
    level : (k : ℕ) → k < length t.parents → not (keeps_own e b k) ≡ true → below_sum t (value b) k - value b k ≡ 0
    level k h q =
        let off : keeps_own e b k ≡ false = false_from_ne_true (keeps_own e b k) (λ q'. both_ways (not (keeps_own e b k)) (ap not q') q) in
        let same : value b k ≡ below_sum t (value b) k = gives-up t e b a k h off in
        omega arith

-- above a node that keeps_own its own energy and is above a leaf there is one of them
pub best-above : (t : ParentTree) (e b : List ℕ) → IsWellFormed t → (k x : ℕ) → k < length t.parents → keeps_own e b k ≡ true → x < t.leaves → IsAbove t k x →
    (i : ℕ) × (IsIn i (best_nodes t e b) × IsAbove t i k)
best-above t e b f k x h kept low a =
    let up = well_formed-climbs t f in
    let found = highest t up (keeps_own e b) (length t.parents) k h (omega arith) kept in
    let over = above-on t found.0 k x found.1.0 a in (
      found.0,
      (
        passing-from (is_best t e b) (length t.parents) found.0 (above-within t up found.0 k h found.1.0)
            (and_from _ _ (and_from _ _ found.1.1.1 found.1.1.0) (has_leaf-from t f found.0 x low over)),
        found.1.0,
      ),
    )

-- what a member of them is
pub best-member : (t : ParentTree) (e b : List ℕ) (i : ℕ) → IsIn i (best_nodes t e b) → ((free t (keeps_own e b) i ≡ true) × (keeps_own e b i ≡ true)) × ((x : ℕ) × ((x < t.leaves) × IsAbove t i x))
best-member t e b i m =
    let k = passing-to (is_best t e b) (length t.parents) i m in
    let parts = and_parts _ _ k.0 in
    (and_parts _ _ parts.0, has_leaf-to t i parts.1)

-- they are a cut
pub best-cut : (t : ParentTree) (e b : List ℕ) → IsWellFormed t → AreLeast t e b → IsCut t (best_nodes t e b)
best-cut t e b f a = record {
  rising = passing-rises (is_best t e b) (length t.parents);
  in_paths = λ i m. (best-member t e b i m).1;
  one_each = λ x h.
      let few = well_formed-leaves t f in
      let low : x < length t.parents = omega arith in
      let found = best-above t e b f x x low (leaf-keeps t e b a x low h) h (0, refl) in record {
        node = found.0;
        member = found.1.0;
        above = found.1.1;
        only = λ j m over.
            let p = (best-member t e b j m).0 in
            let q = (best-member t e b found.0 found.1.0).0 in
            highest-one t (well_formed-climbs t f) (keeps_own e b) x j found.0 low over found.1.1 p.1 p.0 q.1 q.0;
      };
}

-- and the least
pub best-least : (t : ParentTree) (e b : List ℕ) → IsWellFormed t → AreLeast t e b → IsLeastCut t e (best_nodes t e b)
best-least t e b f a = record {
  cut = best-cut t e b f a;
  least = λ d c. (let high = best-energy t e b f a in let low = roots-least t e b d f a c in omega arith);
  coarsest = λ d c same k m.
      let x = c.in_paths k m in
      let h = cut-within t f d c k m in
      best-above t e b f k x.0 h (eq-eqb (value b k) (value e k) (tight d c same k h (has-from d k m))) x.1.0 x.1.1;
}
  where
    tight : (d : List ℕ) → IsCut t d → cut_energy e d ≡ cut_energy e (best_nodes t e b) → (k : ℕ) → k < length t.parents → has d k ≡ true → value b k ≡ value e k
    tight d c same =
        let high = best-energy t e b f a in
        let low = roots-cut t e b d f a c in
        let cost : cut_energy e d ≡ total (has d) (value e) (length t.parents) = energy-has t e d f c in
        total-tight (has d) (value b) (value e) (length t.parents) (λ j h. least-own t e b a j h) (omega arith)
