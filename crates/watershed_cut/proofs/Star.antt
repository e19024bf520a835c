-- All minima as one: a star of edges from one vertex in a minimum to all others. And each vertex reaches a minimum.
use Rattle.std.proofs.Common.{◌≡◌, ℕ, zero, suc, ◌+◌, ◌-◌, ◌<◌, ◌≤◌, Bool, true, false, cond, ◌⊎◌, inl, inr, refl, sym, ◌∙◌, subst, ap, arith, List, [], ◌∷◌, length, map}
use Rattle.std.specs.Prelude.{not, filter}
use Rattle.std.specs.List.{range_with_len}
use Rattle.std.proofs.lemmas.Bool.{cases_Bool, cases_lt, cases_order, both_ways, false_from_ne_true}
use Rattle.std.proofs.lemmas.List.{length-map}
use Rattle.edge_laws.specs.Edges.{ListedEdge, EdgeList, AreWithin, joined, components}
use Rattle.hg_base.specs.Lists.{IsIn}
use Rattle.hg_base.specs.Counting.{count_below}
use Rattle.hg_base.proofs.Counts.{LeastBelow, least_below, count_below-zero}
use Rattle.hg_base.proofs.Lists.{IsIn-kept, IsIn-filter}
use Rattle.edge_laws.proofs.Sets.{joined-among}
use Rattle.edge_laws.proofs.Walks.{IsSame-joined, joined-ends, Joined-joined}
use Rattle.edge_laws.proofs.Drops.{holds}
use Rattle.watershed_cut.specs.Minima.{level, IsMinimumEdge, HasNoEdge, InMinimum}
use Rattle.watershed_cut.specs.MinimumTests.{in_minimum}
use Rattle.partition_tree.proofs.ListTests.{range-to, range-from}
use Rattle.watershed_cut.proofs.Counting.{pile, pile-from, pile-to, IsFree, free-count, components-none, count-from, count-not}
use Rattle.watershed_cut.proofs.MinimumWalks.{level-to, joined-own, stays, in_minimum-to, in_minimum-from}

-- the first edge that passes of those with the least weight, or none passes
pub record IsLightest (p : ListedEdge → Bool) (s : EdgeList) (e : ListedEdge) : Type 0 where
  pub member : IsIn e s
  pub passes : p e ≡ true
  pub least : (f : ListedEdge) → IsIn f s → p f ≡ true → e.weight ≤ f.weight

lightest : (p : ListedEdge → Bool) (s : EdgeList) → ((e : ListedEdge) × IsLightest p s e) ⊎ ((f : ListedEdge) → IsIn f s → p f ≡ false)
lightest p [] = inr (λ f i. absurd i)
lightest p (g ∷ s) = elim (cases_Bool (p g)) [ inl here ↦ inl (with_first here (lightest p s)) | inr off ↦ without off (lightest p s) ]
  where
    first_least : p g ≡ true → (bound : ℕ) → bound ≤ g.weight → ((f : ListedEdge) → IsIn f s → p f ≡ true → bound ≤ f.weight) → (f : ListedEdge) → IsIn f (g ∷ s) → p f ≡ true → bound ≤ f.weight
    first_least here bound low rest f (inl same) q = let w : g.weight ≡ f.weight = ap (λ (x : ListedEdge). x.weight) same in omega arith
    first_least here bound low rest f (inr i) q = rest f i q

    with_first : p g ≡ true → ((e : ListedEdge) × IsLightest p s e) ⊎ ((f : ListedEdge) → IsIn f s → p f ≡ false) → (e : ListedEdge) × IsLightest p (g ∷ s) e
    with_first here (inl l) = elim (cases_lt l.0.weight g.weight) [
      | inl lower ↦ (l.0, record { member = inr l.1.member; passes = l.1.passes; least = first_least here l.0.weight (omega arith) l.1.least })
      | inr no_lower ↦ (g, record { member = inl refl; passes = here; least = first_least here g.weight (omega arith) (λ f i q. let w : l.0.weight ≤ f.weight = l.1.least f i q in omega arith) })
    ]
    with_first here (inr none') = (g, record { member = inl refl; passes = here; least = first_least here g.weight (omega arith) (λ f i q. absurd (both_ways _ (none' f i) q)) })

    least_off : p g ≡ false → (l : (e : ListedEdge) × IsLightest p s e) → (f : ListedEdge) → IsIn f (g ∷ s) → p f ≡ true → l.0.weight ≤ f.weight
    least_off off l f (inl same) q = absurd (both_ways _ (subst (λ (x : ListedEdge). p x ≡ false) same off) q)
    least_off off l f (inr i) q = l.1.least f i q

    none_off : p g ≡ false → ((f : ListedEdge) → IsIn f s → p f ≡ false) → (f : ListedEdge) → IsIn f (g ∷ s) → p f ≡ false
    none_off off none' f (inl same) = subst (λ (x : ListedEdge). p x ≡ false) same off
    none_off off none' f (inr i) = none' f i

    without : p g ≡ false → ((e : ListedEdge) × IsLightest p s e) ⊎ ((f : ListedEdge) → IsIn f s → p f ≡ false) → ((e : ListedEdge) × IsLightest p (g ∷ s) e) ⊎ ((f : ListedEdge) → IsIn f (g ∷ s) → p f ≡ false)
    without off (inl l) = inl (l.0, record { member = inr l.1.member; passes = l.1.passes; least = least_off off l })
    without off (inr none') = inr (none_off off none')

-- each vertex is joined to one in a minimum
pub minimum-reached : (n : ℕ) (s : EdgeList) → AreWithin n s → (x : ℕ) → x < n → (y : ℕ) × (InMinimum n s y × (joined s x y ≡ true))
minimum-reached n s within x hx = elim (lightest (λ f. joined s x f.u) s) [
  | inl l ↦ (l.0.u, (record { vertex = (within l.0 l.1.member).0; either = inr (l.0, (minimum l.0 l.1, inl refl)) }, l.1.passes))
  | inr none' ↦ (x, (record { vertex = hx; either = inl (λ e i ends. both_ways _ (none' e i) (joined-own s e x e.u i ends (inl refl))) }, (IsSame-joined s).self x))
]
  where
    minimum : (e : ListedEdge) → IsLightest (λ f. joined s x f.u) s e → IsMinimumEdge s e
    minimum e l = record {
      member = l.member;
      lowest = λ a b f enda w i endb.
          let to_a : joined s x a ≡ true = (IsSame-joined s).on x e.u a l.passes (joined-own s e e.u a l.member (inl refl) enda) in
          let to_b : joined s a b ≡ true = joined-among (level s e.weight) s a b (λ g j. (level-to s e.weight g j).0) (holds (level s e.weight) a b w) in
          let to_f : joined s b f.u ≡ true = joined-own s f b f.u i endb (inl refl) in
          l.least f i ((IsSame-joined s).on x a f.u to_a ((IsSame-joined s).on a b f.u to_b to_f));
    }

-- an edge of the star
abbrev pub spoke : ℕ → ℕ → ListedEdge
spoke r y = record { rank = 0; u = r; v = y; weight = 0; number = 0 }

abbrev pub spokes : (ℕ → Bool) → ℕ → ℕ → ℕ → EdgeList
spokes p r a k = map (spoke r) (filter p (range_with_len a k))

-- spokes to vertices beyond those of a list join something new
spokes-free : (p : ℕ → Bool) (r a k : ℕ) (m : EdgeList) → r < a → ((e : ListedEdge) → IsIn e m → (e.u < a) × (e.v < a)) → IsFree m (spokes p r a k)
spokes-free p r a zero m low within = tt
spokes-free p r a (suc k) m low within =
    elim (p a) as (λ b. IsFree m (map (spoke r) (cond b (a ∷ filter p (range_with_len (a + 1) k)) (filter p (range_with_len (a + 1) k))))) [
      | true ↦ (new, spokes-free p r (a + 1) k (spoke r a ∷ m) (omega arith) wider)
      | false ↦ spokes-free p r (a + 1) k m (omega arith) (λ e i. (let u : e.u < a = (within e i).0 in omega arith, let v : e.v < a = (within e i).1 in omega arith))
    ]
  where
    none_at : HasNoEdge m a
    none_at e i (inl u) = let h : e.u < a = (within e i).0 in omega arith
    none_at e i (inr v) = let h : e.v < a = (within e i).1 in omega arith

    new : joined m r a ≡ false
    new = false_from_ne_true (joined m r a) (λ j. let w = Joined-joined m a r ((IsSame-joined m).back r a j) in let same : a ≡ r = stays m m a w.0 r none_at (λ e i. i) w.1 in omega arith)

    wider : (e : ListedEdge) → IsIn e (spoke r a ∷ m) → (e.u < a + 1) × (e.v < a + 1)
    wider e (inl same) = (let u : r ≡ e.u = ap (λ (x : ListedEdge). x.u) same in omega arith, let v : a ≡ e.v = ap (λ (x : ListedEdge). x.v) same in omega arith)
    wider e (inr i) = (let u : e.u < a = (within e i).0 in omega arith, let v : e.v < a = (within e i).1 in omega arith)

-- what is in the values of a function at a list
pub in-map : {X Y : Type 0} (f : X → Y) (y : Y) (xs : List X) → IsIn y (map f xs) → (x : X) × (IsIn x xs × (f x ≡ y))
in-map f y [] i = absurd i
in-map f y (x ∷ xs) (inl same) = (x, (inl refl, same))
in-map f y (x ∷ xs) (inr i) = let r = in-map f y xs i in (r.0, (inr r.1.0, r.1.1))

pub map-in : {X Y : Type 0} (f : X → Y) (x : X) (xs : List X) → IsIn x xs → IsIn (f x) (map f xs)
map-in f x [] i = absurd i
map-in f x (y ∷ ys) (inl same) = inl (ap f same)
map-in f x (y ∷ ys) (inr i) = inr (map-in f x ys i)

-- All minima as one: only vertices in minima are ends, all of them are joined, and there are as many components as
-- vertices in no minimum, and one more.
pub record IsStar (n : ℕ) (s k : EdgeList) : Type 0 where
  pub ends : (e : ListedEdge) → IsIn e k → (in_minimum n s e.u ≡ true) × (in_minimum n s e.v ≡ true)
  pub joins : (x y : ℕ) → in_minimum n s x ≡ true → in_minimum n s y ≡ true → joined k x y ≡ true
  pub count : components n k ≡ suc (count_below (λ x. not (in_minimum n s x)) n)

-- the star from the least vertex in a minimum
star-from : (n : ℕ) (s : EdgeList) → LeastBelow (in_minimum n s) n → (k : EdgeList) × IsStar n s k
star-from n s l = (k, record { ends = ends; joins = λ x y px py. (IsSame-joined k).on x r y ((IsSame-joined k).back r x (from_root x px)) (from_root y py); count = counted })
  where
    p : ℕ → Bool
    p = in_minimum n s

    r : ℕ
    r = l.at

    f : EdgeList
    f = spokes p r (suc r) (n - suc r)

    k : EdgeList
    k = pile f []

    low : r < n
    low = l.low

    member : (e : ListedEdge) → IsIn e k → (y : ℕ) × ((p y ≡ true) × ((y < n) × (spoke r y ≡ e)))
    member e i = elim (pile-to e f [] i) [
      | inl j ↦ (let y = in-map (spoke r) e (filter p (range_with_len (suc r) (n - suc r))) j in
          let q = IsIn-kept p y.0 (range_with_len (suc r) (n - suc r)) y.1.0 in
          let high = (range-to (suc r) (n - suc r) y.0 q.1).1 in (y.0, (q.0, (omega arith, y.1.1))))
      | inr j ↦ absurd j
    ]

    ends : (e : ListedEdge) → IsIn e k → (p e.u ≡ true) × (p e.v ≡ true)
    ends e i = let y = member e i in (ap (λ (x : ListedEdge). p x.u) (sym y.1.1.1) ∙ l.passes, ap (λ (x : ListedEdge). p x.v) (sym y.1.1.1) ∙ y.1.0)

    from_root : (y : ℕ) → p y ≡ true → joined k r y ≡ true
    from_root y py = elim (cases_order r y) [
      | inl level ↦ subst (λ (z : ℕ). joined k r z ≡ true) level ((IsSame-joined k).self r)
      | inr other ↦ elim other [
        | inl higher ↦ joined-ends k (spoke r y) (pile-from (spoke r y) f [] (inl (map-in (spoke r) y (filter p (range_with_len (suc r) (n - suc r)))
            (IsIn-filter p y (range_with_len (suc r) (n - suc r)) py (range-from (suc r) (n - suc r) y (omega arith) (let hy = (in_minimum-to n s y py).vertex in omega arith))))))
        | inr lower ↦ absurd (both_ways _ (l.least y lower) py)
      ]
    ]

    within : AreWithin n f
    within e i = let y = member e (pile-from e f [] (inl i)) in (
      (let u : r ≡ e.u = ap (λ (x : ListedEdge). x.u) y.1.1.1 in omega arith),
      (let v : y.0 ≡ e.v = ap (λ (x : ListedEdge). x.v) y.1.1.1 in let hy : y.0 < n = y.1.1.0 in omega arith),
    )

    counted : components n k ≡ suc (count_below (λ x. not (p x)) n)
    counted =
        let all : components n k + length f ≡ components n [] = free-count n f [] within (spokes-free p r (suc r) (n - suc r) [] (omega arith) (λ e i. absurd i)) in
        let none' : components n [] ≡ n = components-none n in
        let long : length f ≡ length (filter p (range_with_len (suc r) (n - suc r))) = length-map (filter p (range_with_len (suc r) (n - suc r))) (spoke r) in
        let e : suc r + (n - suc r) ≡ n = omega arith in
        let some : count_below p (suc r + (n - suc r)) ≡ count_below p (suc r) + length (filter p (range_with_len (suc r) (n - suc r))) = count-from p (suc r) (n - suc r) in
        let whole : count_below p (suc r + (n - suc r)) ≡ count_below p n = ap (count_below p) e in
        let before : count_below p r ≡ 0 = count_below-zero p r l.least in
        let here : count_below p (suc r) ≡ count_below p r + 1 = ap (λ (b : Bool). count_below p r + cond b 1 0) l.passes in
        let rest : count_below (λ x. not (p x)) n + count_below p n ≡ n = count-not p n in
        omega (arith, all, none', long, some, whole, before, here, rest)

-- there is one
pub star-found : (n : ℕ) (s : EdgeList) → 1 ≤ n → AreWithin n s → (k : EdgeList) × IsStar n s k
star-found n s some within = elim (least_below (in_minimum n s) n) [
  | inl l ↦ star-from n s l
  | inr none' ↦ absurd (let y = minimum-reached n s within 0 (omega arith) in both_ways _ (none' y.0 y.1.0.vertex) (in_minimum-from n s y.0 y.1.0))
]
