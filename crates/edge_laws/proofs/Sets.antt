-- Who is joined, which edges join and the chains depend on the set of edges alone.
use Rattle.std.proofs.Common.{◌≡◌, ℕ, ◌<◌, ◌≤◌, Bool, true, false, refl, sym, ◌∙◌, ap, arith}
use Rattle.std.specs.Prelude.{not, filter}
use Rattle.std.proofs.lemmas.List.Elements.{filter_agree}
use Rattle.edge_laws.specs.Edges.{ListedEdge, EdgeList, AreApart, joined, below, in_order, is_joining, joins, touches, chain, next}
use Rattle.hg_base.specs.Lists.{IsIn}
use Rattle.edge_laws.proofs.Members.{IsSameSet, IsSameSet-below, IsSameSet-in_order, IsIn-below, IsIn-below_kept, IsRising, IsRising-filter, IsRising-in_order, rising-same}
use Rattle.hg_base.proofs.Lists.{IsIn-filter, IsIn-kept}
use Rattle.edge_laws.proofs.Walks.{walk-among, joined-walk, Joined-joined}

-- two tests are one where each answers true when the other does
pub same_test : (a b : Bool) → (a ≡ true → b ≡ true) → (b ≡ true → a ≡ true) → a ≡ b
same_test true true f g = refl
same_test true false f g = sym (f refl)
same_test false true f g = g refl
same_test false false f g = refl

-- who is joined stays joined among more edges
pub joined-among : (s t : EdgeList) (x y : ℕ) → ((e : ListedEdge) → IsIn e s → IsIn e t) → joined s x y ≡ true → joined t x y ≡ true
joined-among s t x y more h =
    let w = Joined-joined s x y h in joined-walk t x w.0 y (walk-among s t more x w.0 y w.1)

-- the same edges join the same vertices
pub joined-same : (s t : EdgeList) (x y : ℕ) → IsSameSet s t → joined s x y ≡ joined t x y
joined-same s t x y h = same_test _ _ (joined-among s t x y h.on) (joined-among t s x y h.back)

-- the edges of lower rank of the same sets join the same vertices
pub joined_below-same : (s t : EdgeList) (k x y : ℕ) → IsSameSet s t → joined (below s k) x y ≡ joined (below t k) x y
joined_below-same s t k x y h = joined-same _ _ x y (IsSameSet-below s t k h)

-- the edges of rank below k are among those of rank below a higher one
pub joined_below-more : (s : EdgeList) (j k x y : ℕ) → j ≤ k → joined (below s j) x y ≡ true → joined (below s k) x y ≡ true
joined_below-more s j k x y h =
    joined-among (below s j) (below s k) x y
    (λ e i. let p = IsIn-below_kept e s j i in IsIn-below e s k p.0 (let low : e.rank < j = p.1 in omega arith))

pub is_joining-same : (s t : EdgeList) (e : ListedEdge) → IsSameSet s t → is_joining s e ≡ is_joining t e
is_joining-same s t e h = ap not (joined_below-same s t e.rank e.u e.v h)

-- the sorted lists of one set are one
pub in_order-same : (s t : EdgeList) → AreApart s → AreApart t → IsSameSet s t → in_order s ≡ in_order t
in_order-same s t hs ht h = rising-same (in_order s) (in_order t) (IsRising-in_order s hs) (IsRising-in_order t ht)
    (record {
      on = λ e i. (IsSameSet-in_order t).on e (h.on e ((IsSameSet-in_order s).back e i));
      back = λ e i. (IsSameSet-in_order s).on e (h.back e ((IsSameSet-in_order t).back e i));
    })

-- the joining edges depend on the set of edges alone
pub joins-same : (s t : EdgeList) → AreApart s → AreApart t → IsSameSet s t → joins s ≡ joins t
joins-same s t hs ht h =
    filter_agree (is_joining s) (is_joining t) (λ e. is_joining-same s t e h) (in_order s)
    ∙ ap (filter (is_joining t)) (in_order-same s t hs ht h)

pub touches-same : (s t : EdgeList) (x : ℕ) (e : ListedEdge) → IsSameSet s t → touches s x e ≡ touches t x e
touches-same s t x e h = rw (joined_below-same s t e.rank x e.u h, joined_below-same s t e.rank x e.v h)

-- the chain of a vertex depends on the set of edges alone
pub chain-same : (s t : EdgeList) (x : ℕ) → AreApart s → AreApart t → IsSameSet s t → chain s x ≡ chain t x
chain-same s t x hs ht h =
    filter_agree (touches s x) (touches t x) (λ e. touches-same s t x e h) (joins s)
    ∙ ap (filter (touches t x)) (joins-same s t hs ht h)

pub next-same : (s t : EdgeList) (x k : ℕ) → AreApart s → AreApart t → IsSameSet s t → next s x k ≡ next t x k
next-same s t x k hs ht h = rw (chain-same s t x hs ht h)

-- the joining edges rise
pub IsRising-joins : (s : EdgeList) → AreApart s → IsRising (joins s)
IsRising-joins s h = IsRising-filter (is_joining s) (in_order s) (IsRising-in_order s h)

-- the chain of a vertex rises
pub IsRising-chain : (s : EdgeList) (x : ℕ) → AreApart s → IsRising (chain s x)
IsRising-chain s x h = IsRising-filter (touches s x) (joins s) (IsRising-joins s h)

-- a joining edge is one of the list whose ends aren't joined below it
pub IsIn-joins : (s : EdgeList) (e : ListedEdge) → IsIn e s → is_joining s e ≡ true → IsIn e (joins s)
IsIn-joins s e i h = IsIn-filter (is_joining s) e (in_order s) h ((IsSameSet-in_order s).on e i)

pub IsIn-joins_kept : (s : EdgeList) (e : ListedEdge) → IsIn e (joins s) → IsIn e s × (is_joining s e ≡ true)
IsIn-joins_kept s e i = let p = IsIn-kept (is_joining s) e (in_order s) i in ((IsSameSet-in_order s).back e p.1, p.0)

-- an edge of the chain of x
pub record IsOnChain (s : EdgeList) (x : ℕ) (e : ListedEdge) : Type 0 where
  pub member : IsIn e s
  pub joining : is_joining s e ≡ true
  pub touching : touches s x e ≡ true

pub IsIn-chain : (s : EdgeList) (x : ℕ) (e : ListedEdge) → IsOnChain s x e → IsIn e (chain s x)
IsIn-chain s x e h = IsIn-filter (touches s x) e (joins s) h.touching (IsIn-joins s e h.member h.joining)

pub IsIn-chain_kept : (s : EdgeList) (x : ℕ) (e : ListedEdge) → IsIn e (chain s x) → IsOnChain s x e
IsIn-chain_kept s x e i =
    let p = IsIn-kept (touches s x) e (joins s) i in
    let q = IsIn-joins_kept s e p.1 in
    record { member = q.0; joining = q.1; touching = p.0 }
