-- The printed forest of a graph is rooted in the minima.
use Rattle.std.proofs.Common.{◌≡◌, ℕ, zero, suc, ◌+◌, ◌<◌, ◌≤◌, Bool, true, false, cond, inl, inr, refl, sym, ◌∙◌, subst, ap, arith, List, [], ◌∷◌, ◌++◌, length, get_or, map, All}
use Rattle.std.specs.Prelude.{◌==◌, not, ◌&&◌, filter}
use Rattle.std.specs.List.{IsDistinct, AllByRecursion, range_with_len}
use Rattle.std.proofs.lemmas.Bool.{both_ways, and_parts, not-true, ne_eqb}
use Rattle.std.proofs.lemmas.List.{length-map}
use Rattle.hg_base.specs.Graph.{WeightedGraph, IsGraph}
use Rattle.edge_laws.specs.Edges.{ListedEdge, EdgeList, AreApart, AreWithin, is_joining}
use Rattle.hg_base.specs.Lists.{IsIn}
use Rattle.edge_laws.specs.Rank.{numbers, number_at, listed, ranked}
use Rattle.edge_laws.proofs.Drops.{holds}
use Rattle.hg_base.proofs.Lists.{IsIn-filter, IsIn-kept}
use Rattle.edge_laws.proofs.Ranked.{ranked-at, IsIn-ranked, AreWithin-ranked}
use Rattle.edge_laws.proofs.Ranks.{number_at-below, rank-number_at, rank-injective}
use Rattle.edge_laws.proofs.Walks.{IsSame-joined, Joined-joined}
use Rattle.watershed_cut.specs.Minima.{IsMinimumEdge}
use Rattle.watershed_cut.specs.MinimumTests.{is_minimum, minimum_edges}
use Rattle.watershed_cut.specs.MinimumLabels.{numbered}
use Rattle.watershed_cut.specs.Forest.{reaches, is_forest, IsForestList, forest}
use Rattle.watershed_cut.specs.Rooted.{IsRooted}
use Rattle.partition_tree.proofs.ListTests.{range-to, range-from}
use Rattle.watershed_cut.proofs.ForestLaws.{forest-reach, forest-one, forest-long}
use Rattle.watershed_cut.proofs.MinimumWalks.{minimum-from}
use Rattle.watershed_cut.proofs.Star.{in-map, map-in}

-- what holds of all that is in a list holds at each place
pub in-at : {X : Type 0} (xs : List X) (k : ℕ) (d : X) → k < length xs → IsIn (get_or xs k d) xs
in-at [] k d h = absurd (omega arith)
in-at (x ∷ xs) zero d h = inl refl
in-at (x ∷ xs) (suc k) d h = inr (in-at xs k d (omega arith))

pub all-from : {X : Type 0} (P : X → Type 0) (xs : List X) → ((x : X) → IsIn x xs → P x) → All P xs
all-from P xs each k d h = each (get_or xs k d) (in-at xs k d h)

pub all-to : {X : Type 0} (P : X → Type 0) (xs : List X) (x : X) → All P xs → IsIn x xs → P x
all-to P [] x all i = absurd i
all-to P (y ∷ ys) x all (inl same) = subst P same (all 0 y (omega arith))
all-to P (y ∷ ys) x all (inr i) = all-to P ys x (λ k d h. all (suc k) d (omega arith)) i

-- the edges with numbers of a range have different ranks
numbers-apart : (g : WeightedGraph) (p : ℕ → Bool) (a k : ℕ) → a + k ≤ length g.edges → AreApart (map (numbered g) (filter p (range_with_len a k)))
numbers-apart g p a zero h = tt
numbers-apart g p a (suc k) h =
    elim (p a) as (λ b. AreApart (map (numbered g) (cond b (a ∷ filter p (range_with_len (a + 1) k)) (filter p (range_with_len (a + 1) k))))) [
      | true ↦ (apart, numbers-apart g p (a + 1) k (omega arith))
      | false ↦ numbers-apart g p (a + 1) k (omega arith)
    ]
  where
    apart : (f : ListedEdge) → IsIn f (map (numbered g) (filter p (range_with_len (a + 1) k))) → (numbered g a).rank ≡ f.rank → ⊥
    apart f i r =
        let e = in-map (numbered g) f (filter p (range_with_len (a + 1) k)) i in
        let at = range-to (a + 1) k e.0 (IsIn-kept p e.0 (range_with_len (a + 1) k) e.1.0).1 in
        let low : a + 1 ≤ e.0 = at.0 in
        let high : e.0 < a + 1 + k = at.1 in
        let same : a ≡ e.0 = rank-injective g a e.0 (omega arith) (omega arith) (r ∙ sym (ap (λ (x : ListedEdge). x.rank) e.1.1)) in
        omega arith

-- a test that is false of each of a list
by_recursion : (a : ℕ) (xs : List ℕ) → ((y : ℕ) → IsIn y xs → (a == y) ≡ false) → AllByRecursion (λ y. (a == y) ≡ false) xs
by_recursion a [] none' = tt
by_recursion a (x ∷ xs) none' = (none' x (inl refl), by_recursion a xs (λ y i. none' y (inr i)))

-- the numbers of a range differ
range-distinct : (p : ℕ → Bool) (a k : ℕ) → IsDistinct (λ x y. x == y) (filter p (range_with_len a k))
unfolding IsDistinct
range-distinct p a zero = tt
range-distinct p a (suc k) =
    elim (p a) as (λ b. IsDistinct (λ x y. x == y) (cond b (a ∷ filter p (range_with_len (a + 1) k)) (filter p (range_with_len (a + 1) k)))) [
      | true ↦ (new, range-distinct p (a + 1) k)
      | false ↦ range-distinct p (a + 1) k
    ]
  where
    new : AllByRecursion (λ y. (a == y) ≡ false) (filter p (range_with_len (a + 1) k))
    new = by_recursion a (filter p (range_with_len (a + 1) k)) (λ y i.
        let at = range-to (a + 1) k y (IsIn-kept p y (range_with_len (a + 1) k) i).1 in
        let low : a + 1 ≤ y = at.0 in ne_eqb a y (λ same. omega arith))

-- the edge at its rank is the edge by its number
pub ranked-numbered : (g : WeightedGraph) (e : ListedEdge) → IsIn e (ranked g) → (i : ℕ) × ((i < length g.edges) × (numbered g i ≡ e))
ranked-numbered g e m =
    let at = ranked-at g e m in
    let low : e.rank < length g.edges = at.0 in
    let i = number_at g e.rank in
    (i, (number_at-below g e.rank (omega arith), ap (λ (r : ℕ). listed g r i) (rank-number_at g e.rank low) ∙ sym at.1))

-- the test of a graph's forest edges by number
abbrev in_forest : WeightedGraph → ℕ → Bool
in_forest g e = is_forest g.n (ranked g) (numbered g e)

-- a number of the forest is that of a forest edge
pub forest-member : (g : WeightedGraph) (i : ℕ) → IsIn i (forest g) → (i < length g.edges) × (is_forest g.n (ranked g) (numbered g i) ≡ true)
forest-member g i m = let k = IsIn-kept (in_forest g) i (numbers g) m in let at = range-to 0 (length g.edges) i k.1 in let high : i < 0 + length g.edges = at.1 in (omega arith, k.0)

-- the edges with the forest's numbers are the forest edges
pub graph-forest : (g : WeightedGraph) → IsForestList g.n (ranked g) (map (numbered g) (forest g))
graph-forest g = record {
  apart = numbers-apart g (in_forest g) 0 (length g.edges) (omega arith);
  forest = λ e i. (let j = in-map (numbered g) e (forest g) i in
      let m = forest-member g j.0 j.1.0 in
      (subst (λ (x : ListedEdge). IsIn x (ranked g)) j.1.1 (IsIn-ranked g j.0 m.0), subst (λ (x : ListedEdge). is_forest g.n (ranked g) x ≡ true) j.1.1 m.1));
  all = λ e i f. (let j = ranked-numbered g e i in
      let high : j.0 < length g.edges = j.1.0 in
      subst (λ (x : ListedEdge). IsIn x (map (numbered g) (forest g))) j.1.1
      (map-in (numbered g) j.0 (forest g) (IsIn-filter (in_forest g) j.0 (numbers g) (subst (λ (x : ListedEdge). is_forest g.n (ranked g) x ≡ true) (sym j.1.1) f) (range-from 0 (length g.edges) j.0 (omega arith) (omega arith)))));
}

-- a forest edge is no minimum edge
forest-outside : (n : ℕ) (s : EdgeList) (e : ListedEdge) → is_forest n s e ≡ true → ¬ IsMinimumEdge s e
forest-outside n s e f m =
    let p = and_parts (is_joining s e) (not (is_minimum s e) && not (reaches n s e.rank e.u && reaches n s e.rank e.v)) f in
    let q = and_parts (not (is_minimum s e)) (not (reaches n s e.rank e.u && reaches n s e.rank e.v)) p.1 in
    both_ways _ (not-true _ q.0) (minimum-from s e m)

-- the printed forest is rooted in the minima
pub forest-rooted : (g : WeightedGraph) → IsGraph g → IsRooted g (forest g)
forest-rooted g h = record {
  numbers = all-from (λ e. e < length g.edges) (forest g) (λ i m. (forest-member g i m).0);
  distinct = range-distinct (in_forest g) 0 (length g.edges);
  outside = all-from (λ e. ¬ IsMinimumEdge (ranked g) (numbered g e)) (forest g) (λ i m. forest-outside g.n (ranked g) (numbered g i) (forest-member g i m).1);
  as_long = sym (length-map (forest g) (numbered g)) ∙ forest-long g.n s f h.some_vertex within list;
  reach = forest-reach g.n s f within list;
  one = λ x y z hx my jy mz jz. forest-one g.n s f within list y z my mz
      (Joined-joined all y z ((IsSame-joined all).on y x z ((IsSame-joined all).back x y (holds all x y jy)) (holds all x z jz)));
}
  where
    s : EdgeList
    s = ranked g

    f : EdgeList
    f = map (numbered g) (forest g)

    all : EdgeList
    all = f ++ minimum_edges s

    list : IsForestList g.n s f
    list = graph-forest g

    within : AreWithin g.n s
    within = AreWithin-ranked g h
