-- The tree of an edge list is a front tree: its nodes' vertex sets are exactly the components of the fronts, each once.
use Rattle.std.proofs.Common.{◌≡◌, ℕ, zero, suc, ◌+◌, ◌-◌, ◌<◌, ◌≤◌, Bool, true, false, ◌⊎◌, inl, inr, refl, sym, ◌∙◌, subst, arith, [], length}
use Rattle.std.specs.Prelude.{not, ◌↔◌}
use Rattle.std.proofs.lemmas.Option.{slice_get_within}
use Rattle.std.proofs.lemmas.Bool.{false_from_ne_true, cases_Bool, cases_order, true≢false}
use Rattle.edge_laws.specs.Edges.{ListedEdge, EdgeList, AreApart, AreWithin, Joined, joined, below, is_joining, joins}
use Rattle.hg_base.specs.Lists.{IsIn}
use Rattle.tree_laws.specs.Tree.{IsAbove, place, tree_of, HasComponent}
use Rattle.edge_laws.proofs.Link.{IsSame, link_cases}
use Rattle.edge_laws.proofs.Walks.{IsSame-joined, joined-walk, Joined-joined}
use Rattle.edge_laws.proofs.Sets.{IsIn-joins, IsIn-joins_kept}
use Rattle.edge_laws.proofs.Fronts.{rank_found, joined-step_with, apart-one, joined-first_front}
use Rattle.edge_laws.proofs.Leaving.{leaves}
use Rattle.edge_laws.proofs.Next.{component-stays}
use Rattle.edge_laws.proofs.Merged.{joined-to_end}
use Rattle.tree_laws.proofs.Nodes.{place-one, joins-at, joins-index, length-parents}
use Rattle.hg_base.proofs.Lists.{slice_get-some}
use Rattle.tree_laws.proofs.Paths.{IsIn-joins_made, ancestor-path, made-above, leaving-joins}

-- no edge of rank from j up to k leaves the component of x
abbrev pub IsStill : EdgeList → ℕ → ℕ → ℕ → Type 0
IsStill s x j k = (f : ListedEdge) → IsIn f s → j ≤ f.rank → f.rank < k → leaves s x f ≡ false

-- the last edge of rank below k that leaves the component of x
pub record LastBelow (s : EdgeList) (x k : ℕ) : Type 0 where
  pub edge : ListedEdge
  pub member : IsIn edge s
  pub leaving : leaves s x edge ≡ true
  pub low : edge.rank < k
  pub still : IsStill s x (suc edge.rank) k

-- there is a last one, or none
pub last_below : (s : EdgeList) → AreApart s → (x k : ℕ) → LastBelow s x k ⊎ IsStill s x 0 k
last_below s h x zero = inr (λ f i low high. absurd (omega arith))
last_below s h x (suc k) =
    elim (rank_found s k) [
      | inl found ↦ elim (cases_Bool (leaves s x found.0)) [
        | inl out ↦ inl (record {
          edge = found.0;
          member = found.1.0;
          leaving = out;
          low = let r : found.0.rank ≡ k = found.1.1 in omega arith;
          still = λ f i low high. absurd (let r : found.0.rank ≡ k = found.1.1 in omega arith);
        })
        | inr inside ↦ further found.0 found.1.0 found.1.1 inside (last_below s h x k)
      ]
      | inr never ↦ unless never (last_below s h x k)
    ]
  where
    longer : (j : ℕ) → ((f : ListedEdge) → IsIn f s → f.rank ≡ k → leaves s x f ≡ false) → IsStill s x j k → IsStill s x j (suc k)
    longer j at still f i low high =
        elim (cases_order f.rank k) [
          | inl level ↦ at f i level
          | inr other ↦ elim other [ inl under ↦ still f i low under | inr over ↦ absurd (omega arith) ]
        ]

    extended : ((f : ListedEdge) → IsIn f s → f.rank ≡ k → leaves s x f ≡ false) → LastBelow s x k ⊎ IsStill s x 0 k → LastBelow s x (suc k) ⊎ IsStill s x 0 (suc k)
    extended at (inl l) = inl (record { edge = l.edge; member = l.member; leaving = l.leaving; low = (let low : l.edge.rank < k = l.low in omega arith); still = longer (suc l.edge.rank) at l.still })
    extended at (inr still) = inr (longer 0 at still)

    further : (e : ListedEdge) → IsIn e s → e.rank ≡ k → leaves s x e ≡ false → LastBelow s x k ⊎ IsStill s x 0 k → LastBelow s x (suc k) ⊎ IsStill s x 0 (suc k)
    further e i r inside before =
        extended (λ f j q. subst (λ (g : ListedEdge). leaves s x g ≡ false) (apart-one s h e f i j (r ∙ sym q)) inside) before

    unless : ((f : ListedEdge) → IsIn f s → f.rank ≡ k → ⊥) → LastBelow s x k ⊎ IsStill s x 0 k → LastBelow s x (suc k) ⊎ IsStill s x 0 (suc k)
    unless never before = extended (λ f i q. absurd (never f i q)) before

-- behind a joining edge, who is joined to its end left by it or was at its other end
leaving-behind : (s : EdgeList) → AreApart s → (e : ListedEdge) → IsIn e s → is_joining s e ≡ true → (y : ℕ) → joined (below s (suc e.rank)) y e.u ≡ true → leaves s y e ≡ true
leaving-behind s h e i j y k =
    let r = joined (below s e.rank) in
    let same = IsSame-joined (below s e.rank) in
    let apart : joined (below s e.rank) e.u e.v ≡ false = not-true (joined (below s e.rank) e.u e.v) j in
    elim (link_cases (joined (below s e.rank)) e.u e.v y e.u (sym (joined-step_with s h e i y e.u) ∙ k)) [
      | inl old ↦ at_first same apart old
      | inr over ↦ elim over [ inl p ↦ at_first same apart p.0 | inr p ↦ at_second same apart p.0 ]
    ]
  where
    not-true : (b : Bool) → not b ≡ true → b ≡ false
    not-true true h' = absurd (true≢false (sym h'))
    not-true false h' = refl

    at_first : IsSame (joined (below s e.rank)) → joined (below s e.rank) e.u e.v ≡ false → joined (below s e.rank) y e.u ≡ true → leaves s y e ≡ true
    at_first same apart p =
        let q : joined (below s e.rank) y e.v ≡ false = false_from_ne_true (joined (below s e.rank) y e.v) (λ z. true≢false (sym (sym apart ∙ same.on e.u y e.v (same.back y e.u p) z))) in
        rw (p, q) refl

    at_second : IsSame (joined (below s e.rank)) → joined (below s e.rank) e.u e.v ≡ false → joined (below s e.rank) y e.v ≡ true → leaves s y e ≡ true
    at_second same apart p =
        let q : joined (below s e.rank) y e.u ≡ false = false_from_ne_true (joined (below s e.rank) y e.u) (λ z. true≢false (sym (sym apart ∙ same.on e.u y e.v (same.back y e.u z) p))) in
        rw (q, p) refl

-- the leaves below the node of e: whom the edges of rank up to e's join to its first end
pub above-made : (n : ℕ) (s : EdgeList) → AreApart s → (e : ListedEdge) → IsIn e s → is_joining s e ≡ true → (y : ℕ) → y < n →
    IsAbove (tree_of n s) (n + place s e) y ↔ (joined (below s (suc e.rank)) y e.u ≡ true)
above-made n s h e i j y lt = (down, up)
  where
    down : IsAbove (tree_of n s) (n + place s e) y → joined (below s (suc e.rank)) y e.u ≡ true
    down a =
        elim (ancestor-path n s h y lt a.0) [
          | inl leaf ↦ absurd (let q : n + place s e ≡ y = sym a.1 ∙ leaf in omega arith)
          | inr made ↦ (let q : n + place s e ≡ n + place s made.0 = sym a.1 ∙ made.1.node in
              let same : made.0 ≡ e = place-one s h made.0 e (IsIn-joins_made n s y _ made.0 made.1) (IsIn-joins s e i j) (omega arith) in
              subst (λ (g : ListedEdge). joined (below s (suc g.rank)) y g.u ≡ true) same (joined-to_end s made.0 y made.1.member made.1.leaving))
        ]

    up : joined (below s (suc e.rank)) y e.u ≡ true → IsAbove (tree_of n s) (n + place s e) y
    up k = made-above n s h y lt e i (leaving-behind s h e i j y k)

-- a leaf that no edge leaves yet is a component of its own
pub component-leaf : (n : ℕ) (s : EdgeList) → AreApart s → (x k : ℕ) → x < n → IsStill s x 0 k → HasComponent (tree_of n s) n s x k x
component-leaf n s h x k lt still y lty = (down, up)
  where
    down : IsAbove (tree_of n s) x y → Joined (below s k) x y
    down a =
        elim (ancestor-path n s h y lty a.0) [
          | inl leaf ↦ ([], sym a.1 ∙ leaf)
          | inr made ↦ absurd (let q : x ≡ n + place s made.0 = sym a.1 ∙ made.1.node in omega arith)
        ]

    up : Joined (below s k) x y → IsAbove (tree_of n s) x y
    up j =
        let t : joined (below s k) x y ≡ true = joined-walk (below s k) x j.0 y j.1 in
        let z : joined (below s 0) x y ≡ true = sym (component-stays s h 0 k x y (omega arith) still) ∙ t in
        (0, sym (joined-first_front s x y z))

-- the vertices that the edges of rank below k join to x are those below the node of the last edge that left x's component
pub component-made : (n : ℕ) (s : EdgeList) → AreApart s → (x k : ℕ) → (l : LastBelow s x k) → HasComponent (tree_of n s) n s (n + place s l.edge) k x
component-made n s h x k l y lty = (down, up)
  where
    same : IsSame (joined (below s (suc l.edge.rank)))
    same = IsSame-joined (below s (suc l.edge.rank))

    to_end : joined (below s (suc l.edge.rank)) x l.edge.u ≡ true
    to_end = joined-to_end s l.edge x l.member l.leaving

    law : IsAbove (tree_of n s) (n + place s l.edge) y ↔ (joined (below s (suc l.edge.rank)) y l.edge.u ≡ true)
    law = above-made n s h l.edge l.member (leaving-joins s x l.edge l.leaving) y lty

    stays : joined (below s k) x y ≡ joined (below s (suc l.edge.rank)) x y
    stays = component-stays s h (suc l.edge.rank) k x y l.low l.still

    down : IsAbove (tree_of n s) (n + place s l.edge) y → Joined (below s k) x y
    down a = Joined-joined (below s k) x y (stays ∙ same.on x l.edge.u y to_end (same.back y l.edge.u (law.0 a)))

    up : Joined (below s k) x y → IsAbove (tree_of n s) (n + place s l.edge) y
    up j = law.1 (same.back l.edge.u y (same.on l.edge.u x y (same.back x l.edge.u to_end) (sym stays ∙ joined-walk (below s k) x j.0 y j.1)))

-- the number of an inner node is one of the tree's
node-less : (n : ℕ) (s : EdgeList) → AreApart s → (e : ListedEdge) → IsIn e (joins s) → n + place s e < length (tree_of n s).parents
node-less n s h e i =
    let p : place s e < length (joins s) = slice_get_within (joins s) (place s e) e (joins-at s h e i) in
    let q : length (tree_of n s).parents ≡ n + length (joins s) = length-parents n s in
    omega arith

-- each component of a front has a node
pub front-component : (n : ℕ) (s : EdgeList) → AreApart s → (k x : ℕ) → x < n →
    (i : ℕ) × ((i < length (tree_of n s).parents) × HasComponent (tree_of n s) n s i k x)
front-component n s h k x lt =
    elim (last_below s h x k) [
      | inl l ↦ (n + place s l.edge, (node-less n s h l.edge (IsIn-joins s l.edge l.member (leaving-joins s x l.edge l.leaving)), component-made n s h x k l))
      | inr still ↦ (x, (let q : length (tree_of n s).parents ≡ n + length (joins s) = length-parents n s in omega arith, component-leaf n s h x k lt still))
    ]

-- each node has a component of a front
pub front-node : (n : ℕ) (s : EdgeList) → AreApart s → AreWithin n s → (i : ℕ) → i < length (tree_of n s).parents →
    (k : ℕ) × ((x : ℕ) × ((x < n) × HasComponent (tree_of n s) n s i k x))
front-node n s h within i lt =
    elim (split i n) [
      | inl leaf ↦ (0, (i, (leaf, component-leaf n s h i 0 leaf (λ f j low high. absurd (omega arith)))))
      | inr inner ↦ inner_node inner.0 inner.1
    ]
  where
    split : (a b : ℕ) → (a < b) ⊎ ((j : ℕ) × (a ≡ b + j))
    split a b = elim (cases_order a b) [
      | inl level ↦ inr (0, omega arith)
      | inr other ↦ elim other [ inl low ↦ inl low | inr high ↦ inr (a - b, omega arith) ]
    ]

    inner_node : (j : ℕ) → i ≡ n + j → (k : ℕ) × ((x : ℕ) × ((x < n) × HasComponent (tree_of n s) n s i k x))
    inner_node j eq =
        let q : length (tree_of n s).parents ≡ n + length (joins s) = length-parents n s in
        let found = slice_get-some (joins s) j (omega arith) in
        let at = joins-index s h j found.0 found.1 in
        let kept = IsIn-joins_kept s found.0 at.0 in
        let same = IsSame-joined (below s (suc found.0.rank)) in
        let node : n + place s found.0 ≡ i = (let p : place s found.0 ≡ j = at.1 in omega arith) in
        let last : LastBelow s found.0.u (suc found.0.rank) = record {
          edge = found.0;
          member = kept.0;
          leaving = leaving-behind s h found.0 kept.0 kept.1 found.0.u (same.self found.0.u);
          low = omega arith;
          still = λ f m low high. absurd (omega arith);
        } in (
          suc found.0.rank,
          (
            found.0.u,
            (
              (within found.0 kept.0).0,
              subst (λ (m : ℕ). HasComponent (tree_of n s) n s m (suc found.0.rank) found.0.u) node (component-made n s h found.0.u (suc found.0.rank) last),
            ),
          ),
        )
