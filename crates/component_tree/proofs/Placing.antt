-- The passes that note at each node the place of the component at or above it.
use Rattle.std.proofs.Common.{◌≡◌, ℕ, ◌+◌, ◌<◌, ◌≤◌, true, false, inl, inr, refl, sym, ◌∙◌, subst, ap, arith, List, length, length-set, get_or, set}
use Rattle.std.proofs.lemmas.Bool.{cases_eq, cases_Bool}
use Rattle.std.proofs.lemmas.List.{get_or-set_same, get_or-set_other}
use Rattle.tree_laws.specs.Tree.{ParentTree, parent, IsAbove}
use Rattle.tree_laws.specs.Levels.{IsClimbing}
use Rattle.partition_tree.specs.TreeLists.{nodes}
use Rattle.partition_tree.specs.NearestStops.{StopsAt, IsNearestStop, AreOfStops}
use Rattle.partition_tree.proofs.NearestStops.{stop-induction, stop-within}
use Rattle.component_tree.specs.declared.nodes.Component.{Component}
use Rattle.component_tree.specs.NodeComponents.{is_component, component_at, AreComponents, AreOwnPlaces, ArePlaces, IsNearestPlace}
use Rattle.component_tree.proofs.Floods.{component-none}

-- the first k components have their places at their nodes
pub record AreOwnTo (t : ParentTree) (list : List Component) (k : ℕ) (places : List ℕ) : Type 0 where
  pub one_each : length places ≡ length t.parents
  pub own : (j : ℕ) → j < k → get_or places (component_at list j).node 0 ≡ j

pub own-next : (t : ParentTree) (levels leasts : List ℕ) (list : List Component) (k : ℕ) (places : List ℕ) → AreComponents t levels leasts list → k < length list → AreOwnTo t list k places →
    AreOwnTo t list (k + 1) (set places (component_at list k).node k)
own-next t levels leasts list k places c lt o = record {
  one_each = length-set places (component_at list k).node k ∙ o.one_each;
  own = λ j h. elim (cases_eq j k) [
    | inl same ↦ subst (λ (m : ℕ). get_or (set places (component_at list k).node k) (component_at list m).node 0 ≡ m) (sym same)
        (get_or-set_same places (component_at list k).node k 0 (let n = c.node k lt in let e = o.one_each in omega (arith, n, e)))
    | inr other ↦ (let low : j < k = grind (arith, h, other) in
        get_or-set_other places (component_at list k).node (component_at list j).node k 0 (c.once j k low lt) ∙ o.own j low)
  ];
}

-- the levels of a node and of the nearest component are one
stop-level : (t : ParentTree) (levels : List ℕ) → IsClimbing t → (i j : ℕ) → i < nodes t → IsNearestStop t (is_component t levels) i j → get_or levels j 0 ≡ get_or levels i 0
stop-level t levels c = stop-induction t c (is_component t levels) (λ i j. get_or levels j 0 ≡ get_or levels i 0) (λ i h s. refl)
    (λ i j h off below n rest. rest ∙ sym (component-none t levels i off).1)

-- a path stops at components alone
stop-is : (t : ParentTree) (levels : List ℕ) (j : ℕ) → StopsAt t (is_component t levels) j → is_component t levels j ≡ true
stop-is t levels j (inl on) = on
stop-is t levels j (inr root) = elim (cases_Bool (is_component t levels j)) [ inl on ↦ on | inr off ↦ absurd ((component-none t levels j off).0 root) ]

-- places that were sent down from the components are those of the components at or above the nodes
pub places-of_stops : (t : ParentTree) (levels leasts : List ℕ) (list : List Component) (own places : List ℕ) → IsClimbing t → AreComponents t levels leasts list → AreOwnPlaces t list own →
    AreOfStops t (is_component t levels) own places → ArePlaces t levels list places
places-of_stops t levels leasts list own places climbs c o a = record { one_each = a.one_each; each = each }
  where
    each : (i : ℕ) → i < length t.parents → IsNearestPlace t levels list i (get_or places i 0)
    each i h =
        let s = a.each i h in
        let high : s.0 < nodes t = stop-within t climbs (is_component t levels) i s.0 h s.1.0 in
        let k = c.all s.0 high (stop-is t levels s.0 s.1.0.stop) in
        let at : get_or places i 0 ≡ k.0 = s.1.1 ∙ subst (λ (m : ℕ). get_or own m 0 ≡ k.0) k.1.1 (o.own k.0 k.1.0) in
        subst (IsNearestPlace t levels list i) (sym at) (record {
          within = k.1.0;
          above = subst (λ (m : ℕ). IsAbove t m i) (sym k.1.1) s.1.0.above;
          level = ap (λ (m : ℕ). get_or levels m 0) k.1.1 ∙ stop-level t levels climbs i s.0 h s.1.0;
        })
