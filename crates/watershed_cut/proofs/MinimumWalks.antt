-- The tests of minima say what is said by walks.
use Rattle.std.proofs.Common.{◌≡◌, ℕ, ◌<◌, ◌≤◌, true, inl, inr, refl, sym, ◌∙◌, subst, arith, List, [], ◌∷◌}
use Rattle.std.specs.Prelude.{◌↔◌, ◌==◌, ◌&&◌, ◌||◌, nat_lt}
use Rattle.std.specs.List.{list_any}
use Rattle.std.proofs.lemmas.Bool.{cases_lt, or_cases, or_left, or_right, and_parts, and_from, both_ways, not-true, not_from_false, false_from_ne_true, eqb-true, eq-eqb, ltb-true, lt-ltb}
use Rattle.edge_laws.specs.Edges.{ListedEdge, EdgeList, AreEnds, IsWalk, joined}
use Rattle.hg_base.specs.Lists.{IsIn}
use Rattle.hg_base.specs.Counting.{is_least}
use Rattle.hg_base.proofs.Lists.{IsIn-filter, IsIn-kept}
use Rattle.edge_laws.proofs.Walks.{IsSame-joined, joined-ends, joined-walk, Joined-joined}
use Rattle.edge_laws.proofs.Drops.{holds}
use Rattle.hg_base.proofs.Counts.{is_least-from, is_least-to}
use Rattle.watershed_cut.specs.Minima.{level, IsEnd, IsMinimumEdge, HasNoEdge, InMinimum, SameMinimum, IsHead}
use Rattle.watershed_cut.specs.MinimumTests.{has_end, is_lower, is_minimum, minimum_edges, has_no_edge, in_minimum, same_minimum, is_head}
use Rattle.partition_tree.proofs.ListTests.{any-from, any-to}

-- ends
pub end-to : (x : ℕ) (e : ListedEdge) → has_end x e ≡ true → IsEnd x e
end-to x e h = elim (or_cases (e.u == x) (e.v == x) h) [ inl u ↦ inl (eqb-true e.u x u) | inr v ↦ inr (eqb-true e.v x v) ]

pub end-from : (x : ℕ) (e : ListedEdge) → IsEnd x e → has_end x e ≡ true
end-from x e (inl u) = or_left (e.u == x) (e.v == x) (eq-eqb e.u x u)
end-from x e (inr v) = or_right (e.u == x) (e.v == x) (eq-eqb e.v x v)

-- an edge of a level
pub level-to : (s : EdgeList) (k : ℕ) (e : ListedEdge) → IsIn e (level s k) → IsIn e s × (e.weight ≡ k)
level-to s k e i = let p = IsIn-kept (λ (f : ListedEdge). f.weight == k) e s i in (p.1, eqb-true e.weight k p.0)

pub level-from : (s : EdgeList) (k : ℕ) (e : ListedEdge) → IsIn e s → e.weight ≡ k → IsIn e (level s k)
level-from s k e i w = IsIn-filter (λ f. f.weight == k) e s (eq-eqb e.weight k w) i

-- an edge joins each two of its ends
pub joined-own : (s : EdgeList) (e : ListedEdge) (x y : ℕ) → IsIn e s → IsEnd x e → IsEnd y e → joined s x y ≡ true
joined-own s e x y i (inl a) (inl b) = subst (λ (z : ℕ). joined s x z ≡ true) (sym a ∙ b) ((IsSame-joined s).self x)
joined-own s e x y i (inl a) (inr b) = subst (λ (z : ℕ). joined s z y ≡ true) a (subst (λ (z : ℕ). joined s e.u z ≡ true) b (joined-ends s e i))
joined-own s e x y i (inr a) (inl b) =
    (IsSame-joined s).back y x (subst (λ (z : ℕ). joined s z x ≡ true) b (subst (λ (z : ℕ). joined s e.u z ≡ true) a (joined-ends s e i)))
joined-own s e x y i (inr a) (inr b) = subst (λ (z : ℕ). joined s x z ≡ true) (sym a ∙ b) ((IsSame-joined s).self x)

-- the ends of a step's edge
pub step-first : (e : ListedEdge) (x y : ℕ) → AreEnds e x y → IsEnd x e
step-first e x y (inl ends) = inl ends.0
step-first e x y (inr ends) = inr ends.0

pub step-second : (e : ListedEdge) (x y : ℕ) → AreEnds e x y → IsEnd y e
step-second e x y (inl ends) = inr ends.1
step-second e x y (inr ends) = inl ends.1

-- a lesser edge with an end that the edges of e's weight join to e
lower-to : (s : EdgeList) (e f : ListedEdge) → is_lower s e f ≡ true → (f.weight < e.weight) × ((y : ℕ) × (IsEnd y f × (joined (level s e.weight) e.u y ≡ true)))
lower-to s e f h =
    let p = and_parts (nat_lt f.weight e.weight) (joined (level s e.weight) e.u f.u || joined (level s e.weight) e.u f.v) h in (
      ltb-true f.weight e.weight p.0,
      elim (or_cases (joined (level s e.weight) e.u f.u) (joined (level s e.weight) e.u f.v) p.1) [ inl u ↦ (f.u, (inl refl, u)) | inr v ↦ (f.v, (inr refl, v)) ],
    )

lower-from : (s : EdgeList) (e f : ListedEdge) (y : ℕ) → f.weight < e.weight → IsEnd y f → joined (level s e.weight) e.u y ≡ true → is_lower s e f ≡ true
lower-from s e f y lt ends j = and_from _ _ (lt-ltb f.weight e.weight lt) (either ends)
  where
    either : IsEnd y f → (joined (level s e.weight) e.u f.u || joined (level s e.weight) e.u f.v) ≡ true
    either (inl u) = or_left _ _ (subst (λ (z : ℕ). joined (level s e.weight) e.u z ≡ true) (sym u) j)
    either (inr v) = or_right _ _ (subst (λ (z : ℕ). joined (level s e.weight) e.u z ≡ true) (sym v) j)

-- the test of a minimum edge
pub minimum-to : (s : EdgeList) (e : ListedEdge) → IsIn e s → is_minimum s e ≡ true → IsMinimumEdge s e
minimum-to s e i h = record {
  member = i;
  lowest = λ x y f ends w j over. elim (cases_lt f.weight e.weight) [
    | inl lower ↦
        let on : joined (level s e.weight) e.u y ≡ true =
        (IsSame-joined (level s e.weight)).on e.u x y (joined-own (level s e.weight) e e.u x (level-from s e.weight e i refl) (inl refl) ends) (holds (level s e.weight) x y w) in
        absurd (both_ways _ (not-true _ h) (any-from (is_lower s e) f s j (lower-from s e f y lower over on)))
    | inr no_lower ↦ no_lower
  ];
}

pub minimum-from : (s : EdgeList) (e : ListedEdge) → IsMinimumEdge s e → is_minimum s e ≡ true
minimum-from s e m = not_from_false _ (false_from_ne_true (list_any (is_lower s e) s) (λ h.
    let f = any-to (is_lower s e) s h in
    let l = lower-to s e f.0 f.1.1 in
    let lt : f.0.weight < e.weight = l.0 in
    let le : e.weight ≤ f.0.weight = m.lowest e.u l.1.0 f.0 (inl refl) (Joined-joined (level s e.weight) e.u l.1.0 l.1.1.1) f.1.0 l.1.1.0 in
    omega arith))

-- the minimum edges
pub minimum_edges-to : (s : EdgeList) (e : ListedEdge) → IsIn e (minimum_edges s) → IsMinimumEdge s e
minimum_edges-to s e i = let p = IsIn-kept (is_minimum s) e s i in minimum-to s e p.1 p.0

pub minimum_edges-from : (s : EdgeList) (e : ListedEdge) → IsMinimumEdge s e → IsIn e (minimum_edges s)
minimum_edges-from s e m = IsIn-filter (is_minimum s) e s (minimum-from s e m) m.member

-- the test of a vertex without edges
pub no_edge-to : (s : EdgeList) (x : ℕ) → has_no_edge s x ≡ true → HasNoEdge s x
no_edge-to s x h e i ends = both_ways _ (not-true _ h) (any-from (has_end x) e s i (end-from x e ends))

pub no_edge-from : (s : EdgeList) (x : ℕ) → HasNoEdge s x → has_no_edge s x ≡ true
no_edge-from s x h = not_from_false _ (false_from_ne_true (list_any (has_end x) s) (λ t. let e = any-to (has_end x) s t in h e.0 e.1.0 (end-to x e.0 e.1.1)))

-- the test of a vertex in a minimum
pub in_minimum-to : (n : ℕ) (s : EdgeList) (x : ℕ) → in_minimum n s x ≡ true → InMinimum n s x
in_minimum-to n s x h =
    let p = and_parts (nat_lt x n) (has_no_edge s x || list_any (has_end x) (minimum_edges s)) h in record {
      vertex = ltb-true x n p.0;
      either = elim (or_cases (has_no_edge s x) (list_any (has_end x) (minimum_edges s)) p.1) [
        | inl none' ↦ inl (no_edge-to s x none')
        | inr some' ↦ let e = any-to (has_end x) (minimum_edges s) some' in inr (e.0, (minimum_edges-to s e.0 e.1.0, end-to x e.0 e.1.1))
      ];
    }

pub in_minimum-from : (n : ℕ) (s : EdgeList) (x : ℕ) → InMinimum n s x → in_minimum n s x ≡ true
in_minimum-from n s x m = and_from _ _ (lt-ltb x n m.vertex) (elim m.either [
  | inl none' ↦ or_left _ _ (no_edge-from s x none')
  | inr e ↦ or_right _ _ (any-from (has_end x) e.0 (minimum_edges s) (minimum_edges-from s e.0 e.1.0) (end-from x e.0 e.1.1))
])

-- an edge of a minimum edge's weight with an end in common is a minimum edge too
pub minimum-next : (s : EdgeList) (e f : ListedEdge) (x : ℕ) → IsMinimumEdge s e → IsEnd x e → IsIn f s → f.weight ≡ e.weight → IsEnd x f → IsMinimumEdge s f
minimum-next s e f x m ends i same over = record {
  member = i;
  lowest = λ a b h enda w j endb.
      let to : joined (level s e.weight) x a ≡ true = joined-own (level s e.weight) f x a (level-from s e.weight f i same) over enda in
      let on : joined (level s e.weight) a b ≡ true = subst (λ (k : ℕ). joined (level s k) a b ≡ true) same (holds (level s f.weight) a b w) in
      let le : e.weight ≤ h.weight = m.lowest x b h ends (Joined-joined (level s e.weight) x b ((IsSame-joined (level s e.weight)).on x a b to on)) j endb in
      omega arith;
}

-- minimum edges with an end in common have one weight
pub minimum-weight : (s : EdgeList) (e f : ListedEdge) (x : ℕ) → IsMinimumEdge s e → IsMinimumEdge s f → IsEnd x e → IsEnd x f → e.weight ≡ f.weight
minimum-weight s e f x m l a b =
    let le : e.weight ≤ f.weight = m.lowest x x f a ([], refl) l.member b in
    let ge : f.weight ≤ e.weight = l.lowest x x e b ([], refl) m.member a in omega arith

-- where edges of a minimum edge's weight lead, minimum edges of that weight lead
pub record IsPlateauWalk (s : EdgeList) (k x : ℕ) (zs : List ℕ) (y : ℕ) : Type 0 where
  pub walk : IsWalk (minimum_edges s) x zs y
  pub edge : ListedEdge
  pub minimum : IsMinimumEdge s edge
  pub weight : edge.weight ≡ k
  pub at : IsEnd y edge

pub plateau-walk : (s : EdgeList) (k : ℕ) (e : ListedEdge) (x : ℕ) (zs : List ℕ) (y : ℕ) → IsMinimumEdge s e → e.weight ≡ k → IsEnd x e → IsWalk (level s k) x zs y → IsPlateauWalk s k x zs y
plateau-walk s k e x [] y m we ends w = record { walk = w; edge = e; minimum = m; weight = we; at = subst (λ (z : ℕ). IsEnd z e) w ends }
plateau-walk s k e x (z ∷ zs) y m we ends w =
    let f = w.0.0 in
    let i = level-to s k f w.0.1.0 in
    let n = minimum-next s e f x m ends i.0 (i.1 ∙ sym we) (step-first f x z w.0.1.1) in
    let rest = plateau-walk s k f z zs y n i.1 (step-second f x z w.0.1.1) w.1 in
    record { walk = ((f, (minimum_edges-from s f n, w.0.1.1)), rest.walk); edge = rest.edge; minimum = rest.minimum; weight = rest.weight; at = rest.at }

-- where minimum edges lead from a minimum edge, edges of its weight lead
pub level-walk : (s : EdgeList) (k : ℕ) (e : ListedEdge) (x : ℕ) (zs : List ℕ) (y : ℕ) → IsMinimumEdge s e → e.weight ≡ k → IsEnd x e → IsWalk (minimum_edges s) x zs y → IsWalk (level s k) x zs y
level-walk s k e x [] y m we ends w = w
level-walk s k e x (z ∷ zs) y m we ends w =
    let f = w.0.0 in
    let n = minimum_edges-to s f w.0.1.0 in
    let wf : f.weight ≡ k = sym (minimum-weight s e f x m n ends (step-first f x z w.0.1.1)) ∙ we in
    ((f, (level-from s k f n.member wf, w.0.1.1)), level-walk s k f z zs y n wf (step-second f x z w.0.1.1) w.1)

-- no walk leads away from a vertex without edges
pub stays : (s t : EdgeList) (x : ℕ) (zs : List ℕ) (y : ℕ) → HasNoEdge s x → ((e : ListedEdge) → IsIn e t → IsIn e s) → IsWalk t x zs y → x ≡ y
stays s t x [] y none' more w = w
stays s t x (z ∷ zs) y none' more w = absurd (none' w.0.0 (more w.0.0 w.0.1.0) (step-first w.0.0 x z w.0.1.1))

-- the test of two vertices in one minimum
pub same_minimum-to : (n : ℕ) (s : EdgeList) (x y : ℕ) → same_minimum n s x y ≡ true → SameMinimum n s x y
same_minimum-to n s x y h =
    let p = and_parts (in_minimum n s x) (in_minimum n s y && joined (minimum_edges s) x y) h in
    let q = and_parts (in_minimum n s y) (joined (minimum_edges s) x y) p.1 in
    let first = in_minimum-to n s x p.0 in
    let w = Joined-joined (minimum_edges s) x y q.1 in record {
      first = first;
      second = in_minimum-to n s y q.0;
      joined = elim first.either [
        | inl none' ↦ inl (stays s (minimum_edges s) x w.0 y none' (λ e i. (IsIn-kept (is_minimum s) e s i).1) w.1)
        | inr e ↦ inr (e.0, ((e.1.0, e.1.1), (w.0, level-walk s e.0.weight e.0 x w.0 y e.1.0 refl e.1.1 w.1)))
      ];
    }

pub same_minimum-from : (n : ℕ) (s : EdgeList) (x y : ℕ) → SameMinimum n s x y → same_minimum n s x y ≡ true
same_minimum-from n s x y m = and_from _ _ (in_minimum-from n s x m.first) (and_from _ _ (in_minimum-from n s y m.second) (elim m.joined [
  | inl same ↦ subst (λ (z : ℕ). joined (minimum_edges s) x z ≡ true) same ((IsSame-joined (minimum_edges s)).self x)
  | inr e ↦ joined-walk (minimum_edges s) x e.1.1.0 y (plateau-walk s e.0.weight e.0 x e.1.1.0 y e.1.0.0 refl e.1.0.1 e.1.1.1).walk
]))

-- the test of heads
pub head-to : (n : ℕ) (s : EdgeList) (x : ℕ) → is_head n s x ≡ true → IsHead n s x
head-to n s x h =
    let p = and_parts (in_minimum n s x) (is_least (same_minimum n s) x) h in record {
      member = in_minimum-to n s x p.0;
      least = λ y m. elim (cases_lt y x) [
        | inl lower ↦ absurd (both_ways _ (is_least-to (same_minimum n s) x p.1 y lower) (same_minimum-from n s x y m))
        | inr no_lower ↦ no_lower
      ];
    }

pub head-from : (n : ℕ) (s : EdgeList) (x : ℕ) → IsHead n s x → is_head n s x ≡ true
head-from n s x h = and_from _ _ (in_minimum-from n s x h.member) (is_least-from (same_minimum n s) x (λ y lower.
    false_from_ne_true (same_minimum n s x y) (λ t. let le : x ≤ y = h.least y (same_minimum-to n s x y t) in omega arith)))

-- both ways
pub is_minimum-walks : (s : EdgeList) (e : ListedEdge) → IsIn e s → (is_minimum s e ≡ true) ↔ IsMinimumEdge s e
is_minimum-walks s e i = (minimum-to s e i, minimum-from s e)

pub in_minimum-walks : (n : ℕ) (s : EdgeList) (x : ℕ) → (in_minimum n s x ≡ true) ↔ InMinimum n s x
in_minimum-walks n s x = (in_minimum-to n s x, in_minimum-from n s x)

pub same_minimum-walks : (n : ℕ) (s : EdgeList) (x y : ℕ) → (same_minimum n s x y ≡ true) ↔ SameMinimum n s x y
same_minimum-walks n s x y = (same_minimum-to n s x y, same_minimum-from n s x y)

pub head-walks : (n : ℕ) (s : EdgeList) (x : ℕ) → (is_head n s x ≡ true) ↔ IsHead n s x
head-walks n s x = (head-to n s x, head-from n s x)
