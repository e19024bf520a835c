-- Other names for the vertices change no rank, no joining edge and no chain but for the names.
use Rattle.std.proofs.Common.{◌≡◌, ℕ, ◌<◌, Bool, true, false, cond, inl, inr, refl, ◌∙◌, ap, [], ◌∷◌, map}
use Rattle.std.specs.Prelude.{not, ◌==◌, filter, nat_lt, nat_le, option_map}
use Rattle.std.proofs.lemmas.Bool.{eqb-true, eq-eqb}
use Rattle.edge_laws.specs.Edges.{ListedEdge, EdgeList, AreWithin, joined, below, placed_by_rank, in_order, is_joining, joins, touches, chain, first_edge, next, renamed_edge, renamed}
use Rattle.hg_base.specs.Lists.{IsIn}
use Rattle.hg_base.specs.Counting.{IsOneToOne}
use Rattle.edge_laws.proofs.Members.{IsIn-below_kept, IsSameSet-in_order}
use Rattle.edge_laws.proofs.Sets.{same_test, IsIn-joins_kept}

-- a filter of a mapped list is the mapped filter, where the tests agree
pub filter-mapped : (g : ListedEdge → ListedEdge) (p q : ListedEdge → Bool) (s : EdgeList) → ((e : ListedEdge) → IsIn e s → p (g e) ≡ q e) → filter p (map g s) ≡ map g (filter q s)
filter-mapped g p q [] h = refl
filter-mapped g p q (e ∷ s) h =
    let rest : filter p (map g s) ≡ map g (filter q s) = filter-mapped g p q s (λ f i. h f (inr i)) in
    ap (λ (b : Bool). cond b (g e ∷ filter p (map g s)) (filter p (map g s))) (h e (inl refl))
    ∙ ap (λ (t : EdgeList). cond (q e) (g e ∷ t) t) rest
    ∙ inside (q e) (filter q s)
  where
    inside : (b : Bool) (t : EdgeList) → cond b (g e ∷ map g t) (map g t) ≡ map g (cond b (e ∷ t) t)
    inside true t = refl
    inside false t = refl

-- who is joined is joined under the other names
pub joined-renamed : (n : ℕ) (f : ℕ → ℕ) → IsOneToOne n f → (s : EdgeList) → AreWithin n s → (x y : ℕ) → x < n → y < n →
    joined (renamed f s) (f x) (f y) ≡ joined s x y
joined-renamed n f one [] within x y lx ly =
    same_test (f x == f y) (x == y)
    (λ k. eq-eqb x y (one x y lx ly (eqb-true (f x) (f y) k)))
    (λ k. eq-eqb (f x) (f y) (ap f (eqb-true x y k)))
joined-renamed n f one (e ∷ s) within x y lx ly =
    let w : AreWithin n s = λ g i. within g (inr i) in
    let ends = within e (inl refl) in
    rw (
      joined-renamed n f one s w x y lx ly,
      joined-renamed n f one s w x e.u lx ends.0,
      joined-renamed n f one s w e.v y ends.1 ly,
      joined-renamed n f one s w x e.v lx ends.1,
      joined-renamed n f one s w e.u y ends.0 ly,
    ) refl

below-renamed : (f : ℕ → ℕ) (s : EdgeList) (k : ℕ) → below (renamed f s) k ≡ renamed f (below s k)
below-renamed f s k = filter-mapped (renamed_edge f) (λ e. nat_lt e.rank k) (λ e. nat_lt e.rank k) s (λ e i. refl)

joined_below-renamed : (n : ℕ) (f : ℕ → ℕ) → IsOneToOne n f → (s : EdgeList) → AreWithin n s → (k x y : ℕ) → x < n → y < n →
    joined (below (renamed f s) k) (f x) (f y) ≡ joined (below s k) x y
joined_below-renamed n f one s within k x y lx ly =
    ap (λ (t : EdgeList). joined t (f x) (f y)) (below-renamed f s k)
    ∙ joined-renamed n f one (below s k) (λ e i. within e (IsIn-below_kept e s k i).0) x y lx ly

placed-renamed : (f : ℕ → ℕ) (e : ListedEdge) (s : EdgeList) → placed_by_rank (renamed_edge f e) (renamed f s) ≡ renamed f (placed_by_rank e s)
placed-renamed f e [] = refl
placed-renamed f e (g ∷ s) =
    ap (λ (t : EdgeList). cond (nat_lt e.rank g.rank) (renamed_edge f e ∷ renamed_edge f g ∷ renamed f s) (renamed_edge f g ∷ t)) (placed-renamed f e s)
    ∙ inside (nat_lt e.rank g.rank)
  where
    inside : (b : Bool) → cond b (renamed_edge f e ∷ renamed_edge f g ∷ renamed f s) (renamed_edge f g ∷ renamed f (placed_by_rank e s))
        ≡ renamed f (cond b (e ∷ g ∷ s) (g ∷ placed_by_rank e s))
    inside true = refl
    inside false = refl

in_order-renamed : (f : ℕ → ℕ) (s : EdgeList) → in_order (renamed f s) ≡ renamed f (in_order s)
in_order-renamed f [] = refl
in_order-renamed f (e ∷ s) = ap (placed_by_rank (renamed_edge f e)) (in_order-renamed f s) ∙ placed-renamed f e (in_order s)

-- the joining edges under the other names
pub joins-renamed : (n : ℕ) (f : ℕ → ℕ) → IsOneToOne n f → (s : EdgeList) → AreWithin n s → joins (renamed f s) ≡ renamed f (joins s)
joins-renamed n f one s within =
    ap (filter (is_joining (renamed f s))) (in_order-renamed f s)
    ∙ filter-mapped (renamed_edge f) (is_joining (renamed f s)) (is_joining s) (in_order s)
    (λ e i. let ends = within e ((IsSameSet-in_order s).back e i) in
    ap not (joined_below-renamed n f one s within e.rank e.u e.v ends.0 ends.1))

-- the chain of a vertex under the other names
pub chain-renamed : (n : ℕ) (f : ℕ → ℕ) → IsOneToOne n f → (s : EdgeList) → AreWithin n s → (x : ℕ) → x < n → chain (renamed f s) (f x) ≡ renamed f (chain s x)
chain-renamed n f one s within x lx =
    ap (filter (touches (renamed f s) (f x))) (joins-renamed n f one s within)
    ∙ filter-mapped (renamed_edge f) (touches (renamed f s) (f x)) (touches s x) (joins s)
    (λ e i. let ends = within e (IsIn-joins_kept s e i).0 in
    rw (joined_below-renamed n f one s within e.rank x e.u lx ends.0, joined_below-renamed n f one s within e.rank x e.v lx ends.1) refl)

first_edge-renamed : (f : ℕ → ℕ) (s : EdgeList) → first_edge (renamed f s) ≡ option_map (renamed_edge f) (first_edge s)
first_edge-renamed f [] = refl
first_edge-renamed f (e ∷ s) = refl

-- the next edge under the other names
pub next-renamed : (n : ℕ) (f : ℕ → ℕ) → IsOneToOne n f → (s : EdgeList) → AreWithin n s → (x k : ℕ) → x < n → next (renamed f s) (f x) k ≡ option_map (renamed_edge f) (next s x k)
next-renamed n f one s within x k lx =
    ap (λ (c : EdgeList). first_edge (filter (λ e. nat_le k e.rank) c)) (chain-renamed n f one s within x lx)
    ∙ ap first_edge (filter-mapped (renamed_edge f) (λ e. nat_le k e.rank) (λ e. nat_le k e.rank) (chain s x) (λ e i. refl))
    ∙ first_edge-renamed f (filter (λ e. nat_le k e.rank) (chain s x))
