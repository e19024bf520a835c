-- Which edges lead out of a component, and how that changes when two components are joined.
use Rattle.std.proofs.Common.{◌≡◌, ℕ, Bool, true, false, cond, ◌⊎◌, inl, inr, refl, sym, ◌∙◌, ap, arith}
use Rattle.std.specs.Prelude.{not, ◌&&◌, ◌||◌}
use Rattle.std.proofs.lemmas.Bool.{or_parts, and_parts, false_from_ne_true, cases_Bool, or_cases, or_left, or_right, true≢false}
use Rattle.edge_laws.specs.Edges.{ListedEdge, EdgeList, joined, below, link}
use Rattle.edge_laws.proofs.Link.{IsSame, link_cases, link-old, link-over, link-back}
use Rattle.edge_laws.proofs.Sets.{same_test}

-- one of two, and not both
abbrev pub xor : Bool → Bool → Bool
xor true b = not b
xor false b = b

-- e leads out of x's component among the edges of lower rank
abbrev pub leaves : EdgeList → ℕ → ListedEdge → Bool
leaves s x e = xor (joined (below s e.rank) x e.u) (joined (below s e.rank) x e.v)

-- equal vertices have equal rows
pub row-same : (r : ℕ → ℕ → Bool) → IsSame r → (x a y : ℕ) → r x a ≡ true → r x y ≡ r a y
row-same r same x a y h =
    same_test (r x y) (r a y) (λ k. same.on a x y (same.back x a h) k) (λ k. same.on x a y h k)

-- nothing changes where the two were joined before
pub link-same : (r : ℕ → ℕ → Bool) → IsSame r → (a b x y : ℕ) → r a b ≡ true → link r a b x y ≡ r x y
link-same r same a b x y h =
    same_test (link r a b x y) (r x y)
    (λ k. grind (arith, link_cases r a b x y k, same.on, same.back))
    (λ k. link-old r a b x y k)

-- a vertex that is joined to neither of the two keeps its row
pub link-elsewhere : (r : ℕ → ℕ → Bool) (a b x y : ℕ) → r x a ≡ false → r x b ≡ false → link r a b x y ≡ r x y
link-elsewhere r a b x y ha hb = rw (ha, hb) (or-nothing (r x y))
  where
    or-nothing : (p : Bool) → (p || (false || false)) ≡ p
    or-nothing true = refl
    or-nothing false = refl

-- a vertex that is joined to one of the two gets the rows of both
pub link-both : (r : ℕ → ℕ → Bool) → IsSame r → (a b x y : ℕ) → r a b ≡ false → (r x a || r x b) ≡ true → link r a b x y ≡ (r a y || r b y)
link-both r same a b x y apart h =
    same_test (link r a b x y) (r a y || r b y)
    (λ k. grind (arith, link_cases r a b x y k, same.on, same.back, h))
    (λ k. grind (arith, same.on, same.back, h, k))

-- what leaves one of two or the other, where no vertex is in both
xor-or : (p q p' q' : Bool) → (p && q) ≡ false → (p' && q') ≡ false → xor (p || q) (p' || q') ≡ xor (xor p p') (xor q q')
xor-or true true p' q' h k = absurd (true≢false h)
xor-or true false true true h k = absurd (true≢false k)
xor-or true false true false h k = refl
xor-or true false false true h k = refl
xor-or true false false false h k = refl
xor-or false true true true h k = absurd (true≢false k)
xor-or false true true false h k = refl
xor-or false true false true h k = refl
xor-or false true false false h k = refl
xor-or false false true true h k = absurd (true≢false k)
xor-or false false true false h k = refl
xor-or false false false true h k = refl
xor-or false false false false h k = refl

-- no vertex belongs to two that are apart
apart-rows : (r : ℕ → ℕ → Bool) → IsSame r → (a b u : ℕ) → r a b ≡ false → (r a u && r b u) ≡ false
apart-rows r same a b u h =
    false_from_ne_true (r a u && r b u) (λ k. let p = and_parts (r a u) (r b u) k in true≢false (sym (sym h ∙ same.on a u b p.0 (same.back b u p.1))))

-- What leaves the component of x once a and b are joined: what leaves either and not both, where x is in one of
-- them; what left before, where x is in neither.
pub xor-link : (r : ℕ → ℕ → Bool) → IsSame r → (a b x u v : ℕ) → r a b ≡ false →
    xor (link r a b x u) (link r a b x v) ≡ cond (r x a || r x b) (xor (xor (r a u) (r a v)) (xor (r b u) (r b v))) (xor (r x u) (r x v))
xor-link r same a b x u v apart =
    elim (cases_Bool (r x a || r x b)) [
      | inl one ↦ rw (one, link-both r same a b x u apart one, link-both r same a b x v apart one)
          (xor-or (r a u) (r b u) (r a v) (r b v) (apart-rows r same a b u apart) (apart-rows r same a b v apart))
      | inr neither ↦ (let ha = or_parts (r x a) (r x b) neither in
          rw (neither, link-elsewhere r a b x u ha.0 ha.1, link-elsewhere r a b x v ha.0 ha.1) refl)
    ]

-- an edge that leaves the component of x is one that joins and touches x
pub joins_touching : (r : ℕ → ℕ → Bool) → IsSame r → (x u v : ℕ) → (not (r u v) && (r x u || r x v)) ≡ xor (r x u) (r x v)
joins_touching r same x u v = go (r x u) (r x v) (r u v) (λ p q. same.on u x v (same.back x u p) q) (λ p q. same.on x u v p q) (λ p q. same.on x v u p (same.back u v q))
  where
    go : (p q t : Bool) → (p ≡ true → q ≡ true → t ≡ true) → (p ≡ true → t ≡ true → q ≡ true) → (q ≡ true → t ≡ true → p ≡ true) → (not t && (p || q)) ≡ xor p q
    go true true true f g h = refl
    go true true false f g h = sym (f refl refl)
    go true false true f g h = g refl refl
    go true false false f g h = refl
    go false true true f g h = h refl refl
    go false true false f g h = refl
    go false false true f g h = refl
    go false false false f g h = refl

not-or : (p q : Bool) → not (p || q) ≡ (not p && not q)
not-or true q = refl
not-or false q = refl

pub xor_cases : (p q : Bool) → xor p q ≡ true → ((p ≡ true) × (q ≡ false)) ⊎ ((p ≡ false) × (q ≡ true))
xor_cases true true h = absurd (true≢false (sym h))
xor_cases true false h = inl (refl, refl)
xor_cases false true h = inr (refl, refl)
xor_cases false false h = absurd (true≢false (sym h))

-- whom b is joined to, a isn't
pub not_both : (r : ℕ → ℕ → Bool) → IsSame r → (a b y : ℕ) → r a b ≡ false → r b y ≡ true → r a y ≡ false
not_both r same a b y apart h =
    false_from_ne_true (r a y) (λ k. true≢false (sym (sym apart ∙ same.on a y b k (same.back b y h))))

-- an edge from one component to the other leaves both
pub crossing_leaves : (r : ℕ → ℕ → Bool) → IsSame r → (a b u v : ℕ) → r a b ≡ false → r a u ≡ true → r b v ≡ true →
    (xor (r a u) (r a v) && xor (r b u) (r b v)) ≡ true
crossing_leaves r same a b u v apart hu hv =
    let nav : r a v ≡ false = not_both r same a b v apart hv in
    let nbu : r b u ≡ false = not_both r same b a u (false_from_ne_true (r b a) (λ k. true≢false (sym (sym apart ∙ same.back b a k)))) hu in
    rw (hu, hv, nav, nbu) refl

-- the same from the other end
pub crossing_back : (r : ℕ → ℕ → Bool) → IsSame r → (a b u v : ℕ) → r a b ≡ false → r a v ≡ true → r b u ≡ true →
    (xor (r a u) (r a v) && xor (r b u) (r b v)) ≡ true
crossing_back r same a b u v apart hv hu =
    let nau : r a u ≡ false = not_both r same a b u apart hu in
    let nbv : r b v ≡ false = not_both r same b a v (false_from_ne_true (r b a) (λ k. true≢false (sym (sym apart ∙ same.back b a k)))) hv in
    rw (hu, hv, nau, nbv) refl

-- the ends of an edge that the link joins were joined, or the edge leaves both components
linked_leaves : (r : ℕ → ℕ → Bool) → IsSame r → (a b u v : ℕ) → r a b ≡ false → link r a b u v ≡ true → (r u v || (xor (r a u) (r a v) && xor (r b u) (r b v))) ≡ true
linked_leaves r same a b u v apart h =
    elim (link_cases r a b u v h) [
      | inl old ↦ or_left _ _ old
      | inr over ↦ or_right (r u v) _ (elim over [
        | inl p ↦ crossing_leaves r same a b u v apart (same.back u a p.0) p.1
        | inr p ↦ crossing_back r same a b u v apart p.1 (same.back u b p.0)
      ])
    ]

-- an edge that leaves both components has its ends joined by the link
leaving_linked : (r : ℕ → ℕ → Bool) → IsSame r → (a b u v : ℕ) → r a b ≡ false → (r u v || (xor (r a u) (r a v) && xor (r b u) (r b v))) ≡ true → link r a b u v ≡ true
leaving_linked r same a b u v apart h =
    elim (or_cases _ _ h) [
      | inl old ↦ link-old r a b u v old
      | inr both ↦ (let p = and_parts _ _ both in
          elim (xor_cases (r a u) (r a v) p.0) [
            | inl first ↦ elim (xor_cases (r b u) (r b v) p.1) [
              | inl clash ↦ absurd (true≢false (sym (same.on a u b first.0 (same.back b u clash.0)) ∙ apart))
              | inr second ↦ link-over r a b u v (same.back a u first.0) second.1
            ]
            | inr first ↦ elim (xor_cases (r b u) (r b v) p.1) [
              | inl second ↦ link-back r a b u v (same.back b u second.0) first.1
              | inr clash ↦ absurd (true≢false (sym (same.on a v b first.1 (same.back b v clash.1)) ∙ apart))
            ]
          ])
    ]

-- Whether an edge still joins once a and b are joined: not where it leaves both.
pub joins-link : (r : ℕ → ℕ → Bool) → IsSame r → (a b u v : ℕ) → r a b ≡ false →
    not (link r a b u v) ≡ (not (r u v) && not (xor (r a u) (r a v) && xor (r b u) (r b v)))
joins-link r same a b u v apart =
    ap not (same_test (link r a b u v) (r u v || (xor (r a u) (r a v) && xor (r b u) (r b v)))
    (λ k. linked_leaves r same a b u v apart k)
    (λ k. leaving_linked r same a b u v apart k))
    ∙ not-or (r u v) (xor (r a u) (r a v) && xor (r b u) (r b v))
