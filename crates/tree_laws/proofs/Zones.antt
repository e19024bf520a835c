-- The zones of a tree: where each kept node went, who is above whom, and that they are a forest.
use Rattle.std.proofs.Common.{◌≡◌, ℕ, zero, suc, ◌+◌, ◌-◌, ◌<◌, ◌≤◌, Bool, true, false, ◌⊎◌, inl, inr, cond, refl, sym, ◌∙◌, subst, ap, arith, List, [], ◌∷◌, ◌++◌, length, length-append, map}
use Rattle.std.specs.Prelude.{◌↔◌, Option, unwrap_or, filter, nat_le}
use Rattle.std.proofs.lemmas.Bool.{cases_lt, cases_eq, both_ways, le-leb, lt-leb}
use Rattle.std.proofs.lemmas.List.{length-map}
use Rattle.std.proofs.lemmas.List.Elements.{filter-append}
use Rattle.tree_laws.specs.Tree.{ParentTree, parent, altitude, ancestor, IsAbove}
use Rattle.tree_laws.specs.Levels.{IsClimbing}
use Rattle.tree_laws.specs.Zones.{keeps, kept, zone_number, next_kept, maker, zones_of}
use Rattle.hg_base.proofs.Lists.{slice_get-mapped}
use Rattle.hg_base.proofs.Counts.{count_below-all}
use Rattle.tree_laws.proofs.Climbs.{ancestor-add, above-on, above-within, above-rises, ancestor-within}
use Rattle.hg_base.proofs.Passing.{IsPassing, passing, passing-suc, length-passing, passing-at, passing-index, count_below-grows, count_below-rises, count_below-one}
use Rattle.tree_laws.proofs.Kept.{keeps-leaf, next_kept-is, next_kept-above}

-- as many zones as kept nodes
pub length-zones : (t : ParentTree) → length (zones_of t).parents ≡ zone_number t (length t.parents)
length-zones t = length-map (kept t) (λ i. zone_number t (next_kept t i)) ∙ length-passing (keeps t) (length t.parents)

-- which kept node a zone is
pub zone-of : (t : ParentTree) (j : ℕ) → j < length (zones_of t).parents → (i : ℕ) × IsPassing (keeps t) (length t.parents) j i
zone-of t j h =
    let e : length (zones_of t).parents ≡ length (kept t) = length-map (kept t) (λ i. zone_number t (next_kept t i)) in
    passing-index (keeps t) (length t.parents) j (omega arith)

-- a kept node's number is one of the zones'
pub zone_number-within : (t : ParentTree) (i : ℕ) → i < length t.parents → keeps t i ≡ true → zone_number t i < length (zones_of t).parents
zone_number-within t i h k = omega (arith, length-zones t, count_below-rises (keeps t) i (length t.parents) h k)

-- leaves keep their numbers
pub zone_number-leaf : (t : ParentTree) (x : ℕ) → x ≤ t.leaves → zone_number t x ≡ x
zone_number-leaf t x h = count_below-all (keeps t) x (λ y l. keeps-leaf t y (omega arith))

-- the parent of a kept node among the zones
pub parent-zone : (t : ParentTree) (i : ℕ) → i < length t.parents → keeps t i ≡ true → parent (zones_of t) (zone_number t i) ≡ zone_number t (next_kept t i)
parent-zone t i h k =
    ap (λ (o : Option ℕ). unwrap_or o (zone_number t i))
    (slice_get-mapped (λ j. zone_number t (next_kept t j)) (kept t) (zone_number t i) i (passing-at (keeps t) (length t.parents) i h k))

-- a kept node keeps its altitude
pub altitude-zone : (t : ParentTree) (i : ℕ) → i < length t.parents → keeps t i ≡ true → altitude (zones_of t) (zone_number t i) ≡ altitude t i
altitude-zone t i h k =
    ap (λ (o : Option ℕ). unwrap_or o 0)
    (slice_get-mapped (altitude t) (kept t) (zone_number t i) i (passing-at (keeps t) (length t.parents) i h k))

-- i, the zone j, is above x
pub record IsZoneAbove (t : ParentTree) (x j i : ℕ) : Type 0 where
  pub within : i < length t.parents
  pub stays : keeps t i ≡ true
  pub number : zone_number t i ≡ j
  pub above : IsAbove t i x

-- each node on a path among the zones is a kept node of the path
pub zone-path : (t : ParentTree) → IsClimbing t → (x : ℕ) → x < length t.parents → keeps t x ≡ true → (d : ℕ) → (i : ℕ) × IsZoneAbove t x (ancestor (zones_of t) d (zone_number t x)) i
zone-path t c x h k zero = (x, record { within = h; stays = k; number = refl; above = (0, refl) })
zone-path t c x h k (suc d) =
    let before = zone-path t c x h k d in
    let i = before.0 in
    let up = next_kept-above t c i before.1.within in (
      next_kept t i,
      record {
        within = above-within t c (next_kept t i) i before.1.within up;
        stays = (next_kept-is t c i before.1.within).stays;
        number = sym (parent-zone t i before.1.within before.1.stays) ∙ ap (parent (zones_of t)) before.1.number;
        above = above-on t (next_kept t i) i x up before.1.above;
      },
    )

-- a kept node that is met within m links is above among the zones too
zone-climb : (t : ParentTree) → IsClimbing t → (m a d i : ℕ) → a < length t.parents → keeps t a ≡ true → d < m → ancestor t d a ≡ i → keeps t i ≡ true → IsAbove (zones_of t) (zone_number t i) (zone_number t a)
zone-climb t c zero a d i h ka l e ki = absurd (omega arith)
zone-climb t c (suc m) a zero i h ka l e ki = (0, ap (zone_number t) e)
zone-climb t c (suc m) a (suc d) i h ka l e ki =
    let n = next_kept-is t c a h in
    elim (cases_lt d n.steps) [
      | inl early ↦ absurd (both_ways _ (n.before d early) (ap (keeps t) e ∙ ki))
      | inr rest ↦
          let split : (d - n.steps) + suc n.steps ≡ suc d = omega arith in
          let on : ancestor t (d - n.steps) (next_kept t a) ≡ i = ap (ancestor t (d - n.steps)) (sym n.at) ∙ sym (ancestor-add t (d - n.steps) (suc n.steps) a) ∙ ap (λ (j : ℕ). ancestor t j a) split ∙ e in
          let up = zone-climb t c m (next_kept t a) (d - n.steps) i (above-within t c (next_kept t a) a h (suc n.steps, n.at)) n.stays (omega arith) on ki in
          above-on (zones_of t) (zone_number t i) (zone_number t (next_kept t a)) (zone_number t a) up (1, parent-zone t a h ka)
    ]

-- a kept node is above another exactly where it is among the zones
pub zone-above : (t : ParentTree) → IsClimbing t → (i x : ℕ) → i < length t.parents → x < length t.parents → keeps t i ≡ true → keeps t x ≡ true →
    IsAbove (zones_of t) (zone_number t i) (zone_number t x) ↔ IsAbove t i x
zone-above t c i x hi hx ki kx = (
  λ a.
      let p = zone-path t c x hx kx a.0 in
      let same : p.0 ≡ i = count_below-one (keeps t) p.0 i p.1.stays ki (p.1.number ∙ a.1) in
      subst (λ (j : ℕ). IsAbove t j x) same p.1.above,
  λ a. zone-climb t c (suc a.0) x a.0 i hx kx (omega arith) a.1 ki,
)

-- what lies above an inner or another node is an inner node
ancestor-inner : (t : ParentTree) → IsClimbing t → ((j : ℕ) → j < length t.parents → (parent t j ≡ j → ⊥) → t.leaves ≤ parent t j) →
    (i : ℕ) → i < length t.parents → (d : ℕ) → (ancestor t d i ≡ i) ⊎ (t.leaves ≤ ancestor t d i)
ancestor-inner t c inner i h zero = inl refl
ancestor-inner t c inner i h (suc d) =
    let a = ancestor t d i in
    elim (cases_eq (parent t a) a) [
      | inl root ↦ subst (λ (j : ℕ). (j ≡ i) ⊎ (t.leaves ≤ j)) (sym root) (ancestor-inner t c inner i h d)
      | inr other ↦ inr (inner a (ancestor-within t c d i h) other)
    ]

-- parents among the zones rise
pub zones-rise : (t : ParentTree) → IsClimbing t → IsClimbing (zones_of t)
zones-rise t c = record { rises = rising; within = staying }
  where
    rising : (j : ℕ) → j < length (zones_of t).parents → j ≤ parent (zones_of t) j
    rising j h =
        let z = zone-of t j h in
        let up = above-rises t c (next_kept t z.0) z.0 z.1.low (next_kept-above t c z.0 z.1.low) in
        subst (λ (k : ℕ). k ≤ parent (zones_of t) k) z.1.place
        (omega (arith, parent-zone t z.0 z.1.low z.1.passes, count_below-grows (keeps t) z.0 (next_kept t z.0) up))

    staying : (j : ℕ) → j < length (zones_of t).parents → parent (zones_of t) j < length (zones_of t).parents
    staying j h =
        let z = zone-of t j h in
        let n = next_kept-is t c z.0 z.1.low in
        let within = above-within t c (next_kept t z.0) z.0 z.1.low (next_kept-above t c z.0 z.1.low) in
        subst (λ (k : ℕ). parent (zones_of t) k < length (zones_of t).parents) z.1.place
        (omega (arith, parent-zone t z.0 z.1.low z.1.passes, zone_number-within t (next_kept t z.0) within n.stays))

-- a zone that isn't its own parent has an inner one
pub zones-inner : (t : ParentTree) → IsClimbing t → ((j : ℕ) → j < length t.parents → (parent t j ≡ j → ⊥) → t.leaves ≤ parent t j) →
    (j : ℕ) → j < length (zones_of t).parents → (parent (zones_of t) j ≡ j → ⊥) → t.leaves ≤ parent (zones_of t) j
zones-inner t c inner j h other =
    let z = zone-of t j h in
    let n = next_kept-is t c z.0 z.1.low in
    let up : parent (zones_of t) j ≡ zone_number t (next_kept t z.0) = ap (parent (zones_of t)) (sym z.1.place) ∙ parent-zone t z.0 z.1.low z.1.passes in
    elim (ancestor-inner t c inner z.0 z.1.low (suc n.steps)) [
      | inl same ↦ absurd (other (up ∙ ap (zone_number t) (sym n.at ∙ same) ∙ z.1.place))
      | inr high ↦
          let high' : t.leaves ≤ next_kept t z.0 = subst (λ (k : ℕ). t.leaves ≤ k) n.at high in
          omega (arith, up, zone_number-leaf t t.leaves (omega arith), count_below-grows (keeps t) t.leaves (next_kept t z.0) high')
    ]

-- leaves keep their altitude
pub zones-low : (t : ParentTree) (x : ℕ) → x < t.leaves → x < length t.parents → altitude (zones_of t) x ≡ altitude t x
zones-low t x leaf h =
    ap (altitude (zones_of t)) (sym (zone_number-leaf t x (omega arith))) ∙ altitude-zone t x h (keeps-leaf t x leaf)

-- no number below m passes the test "at least l", where m is at most l
low-out : (p : ℕ → Bool) (l m : ℕ) → m ≤ l → filter (nat_le l) (passing p m) ≡ []
low-out p l zero h = refl
low-out p l (suc m) h =
    ap (filter (nat_le l)) (passing-suc p m)
    ∙ filter-append (nat_le l) (passing p m) (cond (p m) (m ∷ []) [])
    ∙ rw (low-out p l m (omega arith)) (alone (p m))
  where
    alone : (b : Bool) → filter (nat_le l) (cond b (m ∷ []) []) ≡ []
    alone true = let off : nat_le l m ≡ false = lt-leb l m (omega arith) in rw off refl
    alone false = refl

-- one more number that is at least l
pub high-more : (p : ℕ → Bool) (l m : ℕ) → l ≤ m → filter (nat_le l) (passing p (suc m)) ≡ filter (nat_le l) (passing p m) ++ cond (p m) (m ∷ []) []
high-more p l m h =
    ap (filter (nat_le l)) (passing-suc p m)
    ∙ filter-append (nat_le l) (passing p m) (cond (p m) (m ∷ []) [])
    ∙ ap (λ (xs : List ℕ). filter (nat_le l) (passing p m) ++ xs) (alone (p m))
  where
    alone : (b : Bool) → filter (nat_le l) (cond b (m ∷ []) []) ≡ cond b (m ∷ []) []
    alone true = let on : nat_le l m ≡ true = le-leb l m h in rw on refl
    alone false = refl

-- where all below l pass, those at least l are the others
high-count : (p : ℕ → Bool) (l d : ℕ) → ((i : ℕ) → i < l → p i ≡ true) → l + length (filter (nat_le l) (passing p (l + d))) ≡ length (passing p (l + d))
high-count p l zero h =
    let e : l + 0 ≡ l = omega arith in
    rw e (rw (low-out p l l (omega arith)) (omega (arith, length-passing p l, count_below-all p l h)))
high-count p l (suc d) h =
    let e : l + suc d ≡ suc (l + d) = omega arith in
    let before = high-count p l d h in
    let high : length (filter (nat_le l) (passing p (suc (l + d)))) ≡ length (filter (nat_le l) (passing p (l + d))) + length (cond (p (l + d)) ((l + d) ∷ []) []) =
    ap (λ (xs : List ℕ). length xs) (high-more p l (l + d) (omega arith)) ∙ length-append (filter (nat_le l) (passing p (l + d))) (cond (p (l + d)) ((l + d) ∷ []) []) in
    let all : length (passing p (suc (l + d))) ≡ length (passing p (l + d)) + length (cond (p (l + d)) ((l + d) ∷ []) []) =
    ap (λ (xs : List ℕ). length xs) (passing-suc p (l + d)) ∙ length-append (passing p (l + d)) (cond (p (l + d)) ((l + d) ∷ []) []) in
    rw e (omega (arith, before, high, all))

-- no maker for a leaf, and one for each inner zone
pub zones-makers : (t : ParentTree) → t.leaves ≤ length t.parents → t.leaves + length (zones_of t).makers ≡ length (zones_of t).parents
zones-makers t few =
    let e : t.leaves + (length t.parents - t.leaves) ≡ length t.parents = omega arith in
    let counted = subst (λ (n : ℕ). t.leaves + length (filter (nat_le t.leaves) (passing (keeps t) n)) ≡ length (passing (keeps t) n)) e
    (high-count (keeps t) t.leaves (length t.parents - t.leaves) (λ i h. keeps-leaf t i h)) in
    let made : length (zones_of t).makers ≡ length (filter (nat_le t.leaves) (kept t)) = length-map (filter (nat_le t.leaves) (kept t)) (maker t) in
    let all : length (zones_of t).parents ≡ length (kept t) = length-map (kept t) (λ i. zone_number t (next_kept t i)) in
    omega (arith, counted, made, all)

-- nothing is made below the leaves
pub makers-none : (t : ParentTree) → map (maker t) (filter (nat_le t.leaves) (passing (keeps t) t.leaves)) ≡ []
makers-none t = ap (map (maker t)) (low-out (keeps t) t.leaves t.leaves (omega arith))
