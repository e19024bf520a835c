-- How many components are left once edges are put on a list, one after the other.
use Rattle.std.proofs.Common.{◌≡◌, ℕ, zero, suc, ◌+◌, ◌<◌, ◌≤◌, Bool, true, false, cond, ◌⊎◌, inl, inr, refl, ◌∙◌, ap, arith, List, [], ◌∷◌, length}
use Rattle.std.specs.Prelude.{not, filter}
use Rattle.std.specs.List.{range_with_len}
use Rattle.std.proofs.lemmas.Bool.{cases_Bool, both_ways, false_from_ne_true, eqb-true}
use Rattle.edge_laws.specs.Edges.{ListedEdge, EdgeList, AreWithin, joined, link, components}
use Rattle.hg_base.specs.Lists.{IsIn}
use Rattle.hg_base.specs.Counting.{count_below, is_least}
use Rattle.edge_laws.proofs.Components.{link-count, components-agree}
use Rattle.hg_base.proofs.CountMore.{count_below-cut, count_below-wider}
use Rattle.hg_base.proofs.Counts.{count_below-agree, count_below-all, is_least-from, is_least-to, is_least-agree}
use Rattle.edge_laws.proofs.Leaving.{link-same}
use Rattle.edge_laws.proofs.Walks.{IsSame-joined}

-- an edge whose ends weren't joined leaves one component fewer
pub components-apart : (n : ℕ) (e : ListedEdge) (m : EdgeList) → e.u < n → e.v < n → joined m e.u e.v ≡ false → components n (e ∷ m) + 1 ≡ components n m
components-apart n e m hu hv apart =
    ap (λ (c : ℕ). c + 1) (count_below-agree (is_least (joined (e ∷ m))) (is_least (link (joined m) e.u e.v)) n (λ x lt. is_least-agree (joined (e ∷ m)) (link (joined m) e.u e.v) (λ a b. refl) x))
    ∙ link-count (joined m) (IsSame-joined m) e.u e.v n hu hv apart

-- and each edge at most one fewer
pub components-most : (n : ℕ) (e : ListedEdge) (m : EdgeList) → e.u < n → e.v < n → components n m ≤ components n (e ∷ m) + 1
components-most n e m hu hv = elim (cases_Bool (joined m e.u e.v)) [
  | inl old ↦
      let same : components n (e ∷ m) ≡ components n m = components-agree n (e ∷ m) m (λ x y. link-same (joined m) (IsSame-joined m) e.u e.v x y old) in
      omega (arith, same)
  | inr apart ↦ let one = components-apart n e m hu hv apart in omega (arith, one)
]

-- the edges of f put on m, the first one first
abbrev pub pile : EdgeList → EdgeList → EdgeList
pile [] m = m
pile (e ∷ f) m = pile f (e ∷ m)

pub pile-from : (x : ListedEdge) (f m : EdgeList) → IsIn x f ⊎ IsIn x m → IsIn x (pile f m)
pile-from x [] m (inl i) = absurd i
pile-from x [] m (inr j) = j
pile-from x (e ∷ f) m (inl (inl same)) = pile-from x f (e ∷ m) (inr (inl same))
pile-from x (e ∷ f) m (inl (inr i)) = pile-from x f (e ∷ m) (inl i)
pile-from x (e ∷ f) m (inr j) = pile-from x f (e ∷ m) (inr (inr j))

pub pile-to : (x : ListedEdge) (f m : EdgeList) → IsIn x (pile f m) → IsIn x f ⊎ IsIn x m
pile-to x [] m i = inr i
pile-to x (e ∷ f) m i = elim (pile-to x f (e ∷ m) i) as (λ _. IsIn x (e ∷ f) ⊎ IsIn x m) [
  | inl j ↦ inl (inr j)
  | inr j ↦ elim j as (λ _. IsIn x (e ∷ f) ⊎ IsIn x m) [ inl same ↦ inl (inl same) | inr k ↦ inr k ]
]

-- each edge joins something new
abbrev pub IsFree : EdgeList → EdgeList → Type 0
IsFree m [] = Unit {0}
IsFree m (e ∷ f) = (joined m e.u e.v ≡ false) × IsFree (e ∷ m) f

-- then the components fall by the length
pub free-count : (n : ℕ) (f m : EdgeList) → AreWithin n f → IsFree m f → components n (pile f m) + length f ≡ components n m
free-count n [] m within free = omega arith
free-count n (e ∷ f) m within free =
    let rest : components n (pile f (e ∷ m)) + length f ≡ components n (e ∷ m) = free-count n f (e ∷ m) (λ g i. within g (inr i)) free.1 in
    let one : components n (e ∷ m) + 1 ≡ components n m = components-apart n e m (within e (inl refl)).0 (within e (inl refl)).1 free.0 in
    omega arith

-- and for any edges by no more
pub most-count : (n : ℕ) (f m : EdgeList) → AreWithin n f → components n m ≤ components n (pile f m) + length f
most-count n [] m within = omega arith
most-count n (e ∷ f) m within =
    let rest : components n (e ∷ m) ≤ components n (pile f (e ∷ m)) + length f = most-count n f (e ∷ m) (λ g i. within g (inr i)) in
    let one : components n m ≤ components n (e ∷ m) + 1 = components-most n e m (within e (inl refl)).0 (within e (inl refl)).1 in
    omega arith

-- a list that joins more has no more components
pub components-more : (n : ℕ) (s t : EdgeList) → ((x y : ℕ) → x < n → y < n → joined s x y ≡ true → joined t x y ≡ true) → components n t ≤ components n s
components-more n s t more =
    count_below-wider (is_least (joined t)) (is_least (joined s)) n
    (λ x hx least. is_least-from (joined s) x (λ y low. false_from_ne_true (joined s x y) (λ j. both_ways _ (is_least-to (joined t) x least y low) (more x y hx (omega arith) j))))

-- where all are joined there is one component
pub components-one : (n : ℕ) (s : EdgeList) → 1 ≤ n → ((x y : ℕ) → x < n → y < n → joined s x y ≡ true) → components n s ≡ 1
components-one n s some all =
    count_below-cut (is_least (joined s)) 1 n some
    (λ x low high. false_from_ne_true (is_least (joined s) x) (λ least. both_ways _ (is_least-to (joined s) x least 0 (omega arith)) (all x 0 high (omega arith))))

-- no edges: each vertex is a component
pub components-none : (n : ℕ) → components n [] ≡ n
components-none n = count_below-all (is_least (joined [])) n (λ x lt. is_least-from (joined []) x (λ y low. false_from_ne_true (joined [] x y) (λ j. let same : x ≡ y = eqb-true x y j in omega arith)))

-- those that pass below a + k: those below a, and those in the range from a
pub count-from : (p : ℕ → Bool) (a k : ℕ) → count_below p (a + k) ≡ count_below p a + length (filter p (range_with_len a k))
count-from p a zero = let e : a + 0 ≡ a = omega arith in ap (count_below p) e ∙ omega arith
count-from p a (suc k) =
    let e : a + suc k ≡ (a + 1) + k = omega arith in
    let f : a + 1 ≡ suc a = omega arith in
    let next : count_below p (a + 1) ≡ count_below p a + cond (p a) 1 0 = ap (count_below p) f in
    let rest : count_below p ((a + 1) + k) ≡ count_below p (a + 1) + length (filter p (range_with_len (a + 1) k)) = count-from p (a + 1) k in
    let here : length (filter p (range_with_len a (suc k))) ≡ cond (p a) 1 0 + length (filter p (range_with_len (a + 1) k)) = head_length (p a) (filter p (range_with_len (a + 1) k)) in
    ap (count_below p) e ∙ omega (arith, next, rest, here)
  where
    head_length : (b : Bool) (xs : List ℕ) → length (cond b (a ∷ xs) xs) ≡ cond b 1 0 + length xs
    head_length true xs = omega arith
    head_length false xs = omega arith

-- those that pass and those that don't are all
pub count-not : (p : ℕ → Bool) (n : ℕ) → count_below (λ x. not (p x)) n + count_below p n ≡ n
count-not p zero = refl
count-not p (suc n) =
    let rest : count_below (λ x. not (p x)) n + count_below p n ≡ n = count-not p n in
    let one : cond (not (p n)) 1 0 + cond (p n) 1 0 ≡ 1 = either (p n) in
    omega (arith, rest, one)
  where
    either : (b : Bool) → cond (not b) 1 0 + cond b 1 0 ≡ 1
    either true = refl
    either false = refl
