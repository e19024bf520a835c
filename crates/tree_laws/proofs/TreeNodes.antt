-- The nodes of the tree of an edge list one by one, and the fronts that hold the edges up to a weight.
use Rattle.std.proofs.Common.{◌≡◌, ℕ, suc, ◌+◌, ◌-◌, ◌<◌, ◌≤◌, ◌⊎◌, inl, inr, refl, subst, ap, arith, [], ◌∷◌, length}
use Rattle.std.specs.Prelude.{Option, Some, None, nat_le}
use Rattle.std.proofs.lemmas.Option.{slice_get_within}
use Rattle.std.proofs.lemmas.Bool.{cases_order, le-leb, leb-true}
use Rattle.edge_laws.specs.Edges.{ListedEdge, EdgeList, IsSameSet, AreApart, below, joins, next}
use Rattle.hg_base.specs.Lists.{IsIn}
use Rattle.tree_laws.specs.Tree.{parent, place, node_or, tree_of}
use Rattle.edge_laws.specs.Saliency.{at_most, AreByWeight}
use Rattle.hg_base.proofs.Lists.{IsIn-filter, IsIn-kept, slice_get-some}
use Rattle.edge_laws.proofs.Members.{IsIn-below, IsIn-below_kept}
use Rattle.edge_laws.proofs.Sets.{IsIn-joins}
use Rattle.edge_laws.proofs.Fronts.{apart-one}
use Rattle.edge_laws.proofs.Leaving.{leaves}
use Rattle.edge_laws.proofs.Next.{IsFirst, next-first}
use Rattle.tree_laws.proofs.Nodes.{joins-at, joins-index, length-parents, parent-leaf, parent-inner}
use Rattle.tree_laws.proofs.Paths.{leaving-joins}
use Rattle.tree_laws.proofs.Meeting.{place-less}

-- the edge made node i
pub record IsMaker (n : ℕ) (s : EdgeList) (i : ℕ) (e : ListedEdge) : Type 0 where
  pub member : IsIn e (joins s)
  pub node : n + place s e ≡ i

-- each node is a leaf, or a joining edge made it
pub node-cases : (n : ℕ) (s : EdgeList) → AreApart s → (i : ℕ) → i < n + length (joins s) → (i < n) ⊎ ((e : ListedEdge) × IsMaker n s i e)
node-cases n s h i lt =
    elim (cases_order i n) [
      | inl level ↦ inr (made (omega arith))
      | inr other ↦ elim other [ inl low ↦ inl low | inr high ↦ inr (made (omega arith)) ]
    ]
  where
    made : n ≤ i → (e : ListedEdge) × IsMaker n s i e
    made le =
        let found = slice_get-some (joins s) (i - n) (omega arith) in
        let at = joins-index s h (i - n) found.0 found.1 in
        (found.0, record { member = at.0; node = (let p : place s found.0 ≡ i - n = at.1 in omega arith) })

-- the number of an inner node is one of the tree's
pub made-within : (n : ℕ) (s : EdgeList) → AreApart s → (e : ListedEdge) → IsIn e (joins s) → n + place s e < length (tree_of n s).parents
made-within n s h e i =
    let p : place s e < length (joins s) = slice_get_within (joins s) (place s e) e (joins-at s h e i) in
    let q : length (tree_of n s).parents ≡ n + length (joins s) = length-parents n s in
    omega arith

-- node i is its own parent, or a joining edge that f comes after made its parent
pub record HasParent (n : ℕ) (s : EdgeList) (i : ℕ) (f : ListedEdge) : Type 0 where
  pub member : IsIn f (joins s)
  pub is : parent (tree_of n s) i ≡ n + place s f
  pub up : i < n + place s f

-- the parent of a leaf is made by a joining edge, if it isn't the leaf itself
pub leaf-parent : (n : ℕ) (s : EdgeList) → AreApart s → (i : ℕ) → i < n → (parent (tree_of n s) i ≡ i) ⊎ ((f : ListedEdge) × HasParent n s i f)
leaf-parent n s h i lt = go (next s i 0) (parent-leaf n s i lt) (next-first s h i 0)
  where
    go : (o : Option ListedEdge) → parent (tree_of n s) i ≡ node_or n s i o → IsFirst (leaves s i) s 0 o → (parent (tree_of n s) i ≡ i) ⊎ ((f : ListedEdge) × HasParent n s i f)
    go None eq first = inl eq
    go (Some f) eq first = inr (f, record { member = IsIn-joins s f first.0.0 (leaving-joins s i f first.0.1.0); is = eq; up = omega arith })

-- the parent of the node that e made is made by a joining edge of higher rank, if it isn't the node itself
pub made-parent : (n : ℕ) (s : EdgeList) → AreApart s → (i : ℕ) (e : ListedEdge) → IsMaker n s i e →
    (parent (tree_of n s) i ≡ i) ⊎ ((f : ListedEdge) × (HasParent n s i f × (e.rank < f.rank)))
made-parent n s h i e m = go (next s e.u (suc e.rank)) own (next-first s h e.u (suc e.rank))
  where
    own : parent (tree_of n s) i ≡ node_or n s i (next s e.u (suc e.rank))
    own = subst (λ (k : ℕ). parent (tree_of n s) k ≡ node_or n s k (next s e.u (suc e.rank))) m.node (parent-inner n s h e m.member)

    go : (o : Option ListedEdge) → parent (tree_of n s) i ≡ node_or n s i o → IsFirst (leaves s e.u) s (suc e.rank) o →
        (parent (tree_of n s) i ≡ i) ⊎ ((f : ListedEdge) × (HasParent n s i f × (e.rank < f.rank)))
    go None eq first = inl eq
    go (Some f) eq first =
        let kept : IsIn f (joins s) = IsIn-joins s f first.0.0 (leaving-joins s e.u f first.0.1.0) in
        let higher : e.rank < f.rank = first.0.1.1 in
        let later : place s e < place s f = place-less s h e f m.member kept higher in
        let node : n + place s e ≡ i = m.node in
        inr (f, (record { member = kept; is = eq; up = omega arith }, higher))

-- an edge up to e's rank weighs no more than e
pub up_to-weight : (s : EdgeList) → AreApart s → AreByWeight s → (e f : ListedEdge) → IsIn e s → IsIn f s → f.rank < suc e.rank → f.weight ≤ e.weight
up_to-weight s h by e f i j lt =
    elim (cases_order f.rank e.rank) [
      | inl level ↦ (let same : f ≡ e = apart-one s h f e j i level in let q : f.weight ≡ e.weight = ap (λ (x : ListedEdge). x.weight) same in omega arith)
      | inr other ↦ elim other [ inl low ↦ by f e j i low | inr high ↦ absurd (omega arith) ]
    ]

-- the edges up to e's rank are among those that weigh no more than e
pub front-light : (s : EdgeList) → AreApart s → AreByWeight s → (e : ListedEdge) → IsIn e s → (f : ListedEdge) → IsIn f (below s (suc e.rank)) → IsIn f (at_most s e.weight)
front-light s h by e i f j =
    let p = IsIn-below_kept f s (suc e.rank) j in
    IsIn-filter (λ (g : ListedEdge). nat_le g.weight e.weight) f s (le-leb f.weight e.weight (up_to-weight s h by e f i p.0 p.1)) p.0

-- a list has an edge of highest rank, or no edge
pub highest : (l : EdgeList) → ((f : ListedEdge) → IsIn f l → ⊥) ⊎ ((e : ListedEdge) × (IsIn e l × ((f : ListedEdge) → IsIn f l → f.rank ≤ e.rank)))
highest [] = inl (λ f i. i)
highest (g ∷ l) =
    elim (highest l) [
      | inl none' ↦ inr (
        g,
        (
          inl refl,
          λ f i. elim i as (λ _. f.rank ≤ g.rank) [
            | inl same ↦ (let q : g.rank ≡ f.rank = ap (λ (x : ListedEdge). x.rank) same in omega arith)
            | inr later ↦ absurd (none' f later)
          ],
        ),
      )
      | inr top ↦ elim (cases_order g.rank top.0.rank) [
        | inl level ↦ inr (lower top.0 top.1.0 top.1.1 (omega arith))
        | inr other ↦ elim other [
          | inl low ↦ inr (lower top.0 top.1.0 top.1.1 (omega arith))
          | inr high ↦ inr (
            g,
            (
              inl refl,
              λ f i. elim i as (λ _. f.rank ≤ g.rank) [
                | inl same ↦ (let q : g.rank ≡ f.rank = ap (λ (x : ListedEdge). x.rank) same in omega arith)
                | inr later ↦ (let q : f.rank ≤ top.0.rank = top.1.1 f later in omega arith)
              ],
            ),
          )
        ]
      ]
    ]
  where
    lower : (e : ListedEdge) → IsIn e l → ((f : ListedEdge) → IsIn f l → f.rank ≤ e.rank) → g.rank ≤ e.rank → (e : ListedEdge) × (IsIn e (g ∷ l) × ((f : ListedEdge) → IsIn f (g ∷ l) → f.rank ≤ e.rank))
    lower e i most le = (
      e,
      (
        inr i,
        λ f j. elim j as (λ _. f.rank ≤ e.rank) [
          | inl same ↦ (let q : g.rank ≡ f.rank = ap (λ (x : ListedEdge). x.rank) same in omega arith)
          | inr later ↦ most f later
        ],
      ),
    )

-- the edges of weight at most k are those of a front
pub weights-front : (s : EdgeList) → AreApart s → AreByWeight s → (k : ℕ) → (r : ℕ) × IsSameSet (at_most s k) (below s r)
weights-front s h by k =
    elim (highest (at_most s k)) [
      | inl none' ↦ (
        0,
        record {
          on = λ f i. absurd (none' f i);
          back = λ f i. absurd (let p : f.rank < 0 = (IsIn-below_kept f s 0 i).1 in omega arith);
        },
      )
      | inr top ↦ (
        suc top.0.rank,
        record {
          on = λ f i. (let p = IsIn-kept (λ (g : ListedEdge). nat_le g.weight k) f s i in
              IsIn-below f s (suc top.0.rank) p.1 (let q : f.rank ≤ top.0.rank = top.1.1 f i in omega arith));
          back = λ f i. (let p = IsIn-below_kept f s (suc top.0.rank) i in
              let t = IsIn-kept (λ (g : ListedEdge). nat_le g.weight k) top.0 s top.1.0 in
              let light : top.0.weight ≤ k = leb-true top.0.weight k t.0 in
              let up : f.weight ≤ top.0.weight = up_to-weight s h by top.0 f t.1 p.0 p.1 in
              IsIn-filter (λ (g : ListedEdge). nat_le g.weight k) f s (le-leb f.weight k (omega arith)) p.0);
        },
      )
    ]
