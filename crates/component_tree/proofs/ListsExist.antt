-- The lists that the passes build are there for each tree of a flood, so a graph has a component tree.
use Rattle.std.proofs.Common.{◌≡◌, ℕ, zero, suc, ◌+◌, ◌<◌, ◌≤◌, Bool, false, inl, inr, refl, subst, arith, List, [], ◌∷◌, length, map, get_or, set}
use Rattle.std.specs.Prelude.{IsPermutation, min, replicate, filter}
use Rattle.std.specs.List.{range_with_len}
use Rattle.std.specs.List.Sorted.{IsSortedBy}
use Rattle.std.specs.Cmp.{IsStrictWeakOrder}
use Rattle.std.proofs.lemmas.Bool.{cases_Bool}
use Rattle.std.proofs.lemmas.List.{length-replicate}
use Rattle.std.proofs.lemmas.List.Sorted.{IsPermutation-refl, IsPermutation-sym, IsPermutation-trans, IsPermutation-cons, IsPermutation-middle}
use Rattle.tree_laws.specs.Tree.{ParentTree, parent}
use Rattle.partition_tree.specs.TreeLists.{IsWellFormed}
use Rattle.partition_tree.proofs.WellFormed.{well_formed-climbs, well_formed-leaves}
use Rattle.partition_tree.proofs.NearestStops.{stops-exist}
use Rattle.component_tree.specs.declared.nodes.Component.{Component}
use Rattle.component_tree.specs.NodeComponents.{is_component, component_at, component_of, HasLeaves, AreLeasts, AreComponents, ArePlaces}
use Rattle.component_tree.proofs.Leasts.{AreLeastsTo, leasts-first, leasts-next, leasts-all}
use Rattle.component_tree.proofs.Sorting.{component_lt, component-order, sorted-components}
use Rattle.component_tree.proofs.Placing.{AreOwnTo, own-next, places-of_stops}

-- a list put in order
module _ {X : Type 0} (lt : X → X → Bool) (o : IsStrictWeakOrder lt) where
  sorted-tail : (y : X) (ys : List X) → IsSortedBy lt (y ∷ ys) → IsSortedBy lt ys
  sorted-tail y ys up k d low high =
      let e : suc k + 1 ≡ suc (k + 1) = omega arith in
      subst (λ (m : ℕ). lt (get_or (y ∷ ys) m d) (get_or ys k d) ≡ false) e (up (suc k) d (omega arith) (omega arith))

  sorted-cons : (y : X) (ys : List X) → IsSortedBy lt ys → ((d : X) → 0 < length ys → lt (get_or ys 0 d) y ≡ false) → IsSortedBy lt (y ∷ ys)
  sorted-cons y ys up first zero d low high = first d (omega arith)
  sorted-cons y ys up first (suc k) d low high =
      let e : suc (k + 1) ≡ suc k + 1 = omega arith in
      subst (λ (m : ℕ). lt (get_or (y ∷ ys) m d) (get_or ys k d) ≡ false) e (up k d (omega arith) (omega arith))

  -- zs has x and what ys has, in order, and begins with x or as ys
  record IsPut (x : X) (ys zs : List X) : Type 0 where
    pub permutation : IsPermutation (x ∷ ys) zs
    pub sorted : IsSortedBy lt zs
    pub first : (z : X) → lt x z ≡ false → ((d : X) → 0 < length ys → lt (get_or ys 0 d) z ≡ false) → (d : X) → 0 < length zs → lt (get_or zs 0 d) z ≡ false

  put : (x : X) (ys : List X) → IsSortedBy lt ys → (zs : List X) × IsPut x ys zs
  put x [] up = (x ∷ [], record { permutation = IsPermutation-refl (x ∷ []); sorted = λ k d low high. absurd (omega arith); first = λ z a b d h. a })
  put x (y ∷ ys) up =
      elim (cases_Bool (lt x y)) [
        | inl before ↦ (
          x ∷ y ∷ ys,
          record {
            permutation = IsPermutation-refl (x ∷ y ∷ ys);
            sorted = sorted-cons x (y ∷ ys) up (λ d h. o.one_way x y before);
            first = λ z a b d h. a;
          },
        )
        | inr after ↦ (let r = put x ys (sorted-tail y ys up) in (
          y ∷ r.0,
          record {
            permutation = IsPermutation-trans (x ∷ y ∷ ys) (y ∷ x ∷ ys) (y ∷ r.0) (IsPermutation-sym (y ∷ x ∷ ys) (x ∷ y ∷ ys) (IsPermutation-middle (y ∷ []) x ys)) (IsPermutation-cons y (x ∷ ys) r.0 r.1.permutation);
            sorted = sorted-cons y r.0 r.1.sorted (r.1.first y after (λ d h. up 0 d (omega arith) (omega arith)));
            first = λ z a b d h. b d (omega arith);
          },
        ))
      ]

  pub in-order : (xs : List X) → (ys : List X) × (IsPermutation xs ys × IsSortedBy lt ys)
  in-order [] = ([], (IsPermutation-refl [], λ k d low high. absurd (omega arith)))
  in-order (x ∷ xs) =
      let r = in-order xs in
      let p = put x r.0 r.1.1 in
      (p.0, (IsPermutation-trans (x ∷ xs) (x ∷ r.0) p.0 (IsPermutation-cons x xs r.0 r.1.0) p.1.permutation, p.1.sorted))

module _ (t : ParentTree) (forest : IsWellFormed t) where
  -- the least leaf below each node
  leasts-to : HasLeaves t → (i : ℕ) → i ≤ length t.parents → (leasts : List ℕ) × AreLeastsTo t i leasts
  leasts-to leaves zero le = (range_with_len 0 (length t.parents), leasts-first t (range_with_len 0 (length t.parents)) refl)
  leasts-to leaves (suc i) le =
      let r = leasts-to leaves i (omega arith) in
      let e : i + 1 ≡ suc i = omega arith in
      let next : List ℕ = set r.0 (parent t i) (min (get_or r.0 (parent t i) 0) (get_or r.0 i 0)) in
      (next, subst (λ (k : ℕ). AreLeastsTo t k next) e (leasts-next t (well_formed-climbs t forest) (well_formed-leaves t forest) leaves i r.0 (omega arith) r.1))

  pub leasts-exist : HasLeaves t → (leasts : List ℕ) × AreLeasts t leasts
  leasts-exist leaves =
      let r = leasts-to leaves (length t.parents) (omega arith) in
      (r.0, leasts-all t (well_formed-climbs t forest) (well_formed-leaves t forest) leaves r.0 r.1)

  -- the components in order
  pub components-exist : (levels leasts : List ℕ) → (list : List Component) × AreComponents t levels leasts list
  components-exist levels leasts =
      let r = in-order component_lt component-order (map (component_of levels leasts) (filter (is_component t levels) (range_with_len 0 (length t.parents)))) in
      (r.0, sorted-components t levels leasts r.0 forest.small r.1.0 r.1.1)

  -- the place of the component at or above each node
  module _ (levels leasts : List ℕ) (list : List Component) (c : AreComponents t levels leasts list) where
    own-to : (k : ℕ) → k ≤ length list → (places : List ℕ) × AreOwnTo t list k places
    own-to zero le = (replicate (length t.parents) 0, record { one_each = length-replicate (length t.parents) 0; own = λ j h. absurd (omega arith) })
    own-to (suc k) le =
        let r = own-to k (omega arith) in
        let e : k + 1 ≡ suc k = omega arith in
        let next : List ℕ = set r.0 (component_at list k).node k in
        (next, subst (λ (m : ℕ). AreOwnTo t list m next) e (own-next t levels leasts list k r.0 c (omega arith) r.1))

    pub places-exist : (places : List ℕ) × ArePlaces t levels list places
    places-exist =
        let r = own-to (length list) (omega arith) in
        let s = stops-exist t (well_formed-climbs t forest) (is_component t levels) r.0 r.1.one_each in
        (s.0, places-of_stops t levels leasts list r.0 s.0 (well_formed-climbs t forest) c (record { one_each = r.1.one_each; own = r.1.own }) s.1)
