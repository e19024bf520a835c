-- Edges that are given one after another.
use Rattle.std.proofs.lemmas.List.{take_more, append-nil}
use Rattle.border_climb.specs.Parts.{KeepsPart, as_listed, CanTake}
use Rattle.border_climb.proofs.Writes.{range-on}
use Rattle.border_climb.proofs.Parts.{covered-on}
use Rattle.std.proofs.Common.{◌≡◌, ◌≢◌, ℕ, zero, suc, ◌+◌, ◌<◌, ◌⊎◌, inl, inr, refl, sym, ◌∙◌, subst, ap, arith, List, [], ◌∷◌, ◌++◌, length, map, take, drop, get_or, append_assoc, length-append}
use Rattle.edge_laws.specs.Edges.{ListedEdge, EdgeList, IsSameSet, AreApart}
use Rattle.hg_base.specs.Lists.{IsIn}
use Rattle.edge_laws.specs.Placed.{placed, ranks}
use Rattle.hg_base.specs.declared.graph.PlacedEdge.{PlacedEdge}
use Rattle.hg_base.proofs.Lists.{IsIn-append, IsIn-append_back}
use Rattle.edge_laws.proofs.Sets.{chain-same}
use Rattle.edge_laws.proofs.SideBySide.{AreApart-turned}
use Rattle.node_region.specs.Pool.{IsCovered, leaf_of}
use Rattle.border_climb.specs.Stands.{PartState, IsClimb, Stands, IsNewRank}

-- The order of the edges is free: a part that stands for a list stands for each other one with the same edges.
pub stands-same : (part : PartState) (s t : EdgeList) → IsSameSet s t → AreApart t → length s ≡ length t → Stands part s → Stands part t
stands-same part s t same h long st = record {
  first_ends = λ e i. st.first_ends e (same.back e i);
  second_ends = λ e i. st.second_ends e (same.back e i);
  two_ends = λ e i. st.two_ends e (same.back e i);
  apart = h;
  small = λ e i. st.small e (same.back e i);
  traces = λ x cov. subst (λ (c : EdgeList). IsClimb part.region (leaf_of part.region x) (ranks c)) (chain-same s t x st.apart h same) (st.traces x cov);
  met = st.met;
  alone = st.alone;
  given = st.given ∙ long;
}

-- an edge in front and the same edge at the end
pub stands-last : (part : PartState) (f : ListedEdge) (s : EdgeList) → Stands part (f ∷ s) → Stands part (s ++ (f ∷ []))
stands-last part f s st =
    stands-same part (f ∷ s) (s ++ (f ∷ [])) (record { on = on; back = back }) (AreApart-turned (f ∷ []) s st.apart)
    (let n = length-append s (f ∷ []) in omega (arith, n)) st
  where
    on : (e : ListedEdge) → IsIn e (f ∷ s) → IsIn e (s ++ (f ∷ []))
    on e (inl same) = IsIn-append e s (f ∷ []) (inr (inl same))
    on e (inr later) = IsIn-append e s (f ∷ []) (inl later)

    back : (e : ListedEdge) → IsIn e (s ++ (f ∷ [])) → IsIn e (f ∷ s)
    back e i = go (IsIn-append_back e s (f ∷ []) i)
      where
        go : IsIn e s ⊎ IsIn e (f ∷ []) → IsIn e (f ∷ s)
        go (inl there) = inr there
        go (inr (inl same)) = inl same
        go (inr (inr none)) = absurd none

-- edges of two lists that have different ranks together
pub apart-across : (s r : EdgeList) → AreApart (s ++ r) → (g h : ListedEdge) → IsIn g s → IsIn h r → g.rank ≢ h.rank
apart-across [] r a g h none j eq = none
apart-across (e ∷ s) r a g h (inl same) j eq = a.0 h (IsIn-append h s r (inr j)) (ap (λ (x : ListedEdge). x.rank) same ∙ eq)
apart-across (e ∷ s) r a g h (inr i) j eq = apart-across s r a.1 g h i j eq

apart-behind : (s r : EdgeList) → AreApart (s ++ r) → AreApart r
apart-behind [] r a = a
apart-behind (e ∷ s) r a = apart-behind s r a.1

-- what is in a list is so under a map
IsIn-map : {X Y : Type 0} (f : X → Y) (x : X) (xs : List X) → IsIn x xs → IsIn (f x) (map f xs)
IsIn-map f x [] none = none
IsIn-map f x (y ∷ ys) (inl same) = inl (ap f same)
IsIn-map f x (y ∷ ys) (inr later) = inr (IsIn-map f x ys later)

-- an edge in the middle has another rank than those before it
before-middle : (xs : List PlacedEdge) (e : PlacedEdge) (ys : List PlacedEdge) → AreApart (map as_listed (xs ++ (e ∷ ys))) → (t : EdgeList) → map placed t ≡ xs → (g : ListedEdge) → IsIn g t → g.rank ≢ e.rank
before-middle xs e ys a [] eq g i r = i
before-middle [] e ys a (h ∷ t) eq g i r = absurd (never eq)
  where
    never : placed h ∷ map placed t ≡ [] → ⊥
    never q = cc
before-middle (x ∷ xs) e ys a (h ∷ t) eq g (inl same) r =
    a.0 (as_listed e) (IsIn-map as_listed e (xs ++ (e ∷ ys)) (IsIn-append e xs (e ∷ ys) (inr (inl refl))))
    (ap (λ (p : PlacedEdge). p.rank) (sym (head eq)) ∙ ap (λ (k : ListedEdge). k.rank) same ∙ r)
  where
    head : placed h ∷ map placed t ≡ x ∷ xs → placed h ≡ x
    head q = cc
before-middle (x ∷ xs) e ys a (h ∷ t) eq g (inr later) r = before-middle xs e ys a.1 t (tail eq) g later r
  where
    tail : placed h ∷ map placed t ≡ x ∷ xs → map placed t ≡ xs
    tail q = cc

-- the next edge of a list has a rank that is new among those before it
pub new-next : (part : PartState) (edges : List PlacedEdge) (s : EdgeList) → CanTake part edges s → (xs : List PlacedEdge) (e : PlacedEdge) (ys : List PlacedEdge) → edges ≡ xs ++ (e ∷ ys) →
    (t : EdgeList) → map placed t ≡ xs → IsNewRank e.rank (s ++ t)
new-next part edges s m xs e ys eq t same g i = go (IsIn-append_back g s t i)
  where
    go : IsIn g s ⊎ IsIn g t → g.rank ≢ e.rank
    go (inl in_s) = apart-across s (map as_listed edges) m.apart g (as_listed e) in_s (IsIn-map as_listed e edges (subst (λ (l : List PlacedEdge). IsIn e l) (sym eq) (IsIn-append e xs (e ∷ ys) (inr (inl refl)))))
    go (inr in_t) = before-middle xs e ys (subst (λ (l : List PlacedEdge). AreApart (map as_listed l)) eq (apart-behind s (map as_listed edges) m.apart)) t same g in_t

-- a list of edges that is one longer than another
record IsLonger (t : EdgeList) (xs : List PlacedEdge) (e : PlacedEdge) : Type 0 where
  front : EdgeList
  last : ListedEdge
  is : t ≡ front ++ (last ∷ [])
  front_is : map placed front ≡ xs
  last_is : placed last ≡ e

longer : (xs : List PlacedEdge) (e : PlacedEdge) (t : EdgeList) → map placed t ≡ xs ++ (e ∷ []) → IsLonger t xs e
longer [] e [] eq = absurd (never eq)
  where
    never : [] ≡ e ∷ [] → ⊥
    never q = cc
longer (x ∷ xs) e [] eq = absurd (never eq)
  where
    never : [] ≡ x ∷ (xs ++ (e ∷ [])) → ⊥
    never q = cc
longer [] e (h ∷ []) eq = record { front = []; last = h; is = refl; front_is = refl; last_is = head eq }
  where
    head : placed h ∷ [] ≡ e ∷ [] → placed h ≡ e
    head q = cc
longer [] e (h ∷ k ∷ t) eq = absurd (never (tail eq))
  where
    tail : placed h ∷ (placed k ∷ map placed t) ≡ e ∷ [] → placed k ∷ map placed t ≡ []
    tail q = cc

    never : placed k ∷ map placed t ≡ [] → ⊥
    never q = cc
longer (x ∷ xs) e (h ∷ t) eq =
    let w = longer xs e t (tail eq) in
    record { front = h ∷ w.front; last = w.last; is = ap (λ (l : EdgeList). h ∷ l) w.is; front_is = both w.front eq w.front_is; last_is = w.last_is }
  where
    tail : placed h ∷ map placed t ≡ x ∷ (xs ++ (e ∷ [])) → map placed t ≡ xs ++ (e ∷ [])
    tail q = cc

    both : (f : EdgeList) → placed h ∷ map placed t ≡ x ∷ (xs ++ (e ∷ [])) → map placed f ≡ xs → placed h ∷ map placed f ≡ x ∷ xs
    both f q r = cc

-- One more edge: what the part stands for then.
pub stands-more : (old new : PartState) (s : EdgeList) (xs : List PlacedEdge) (e : PlacedEdge) → ((t : EdgeList) → map placed t ≡ xs → Stands old (s ++ t)) → ((t : EdgeList) → map placed t ≡ xs → IsNewRank e.rank (s ++ t)) →
    ((f : ListedEdge) (u : EdgeList) → placed f ≡ e → Stands old u → IsNewRank e.rank u → Stands new (f ∷ u)) → (t : EdgeList) → map placed t ≡ xs ++ (e ∷ []) → Stands new (s ++ t)
stands-more old new s xs e before fresh given t eq =
    let w = longer xs e t eq in
    let st = stands-last new w.last (s ++ w.front) (given w.last (s ++ w.front) w.last_is (before w.front w.front_is) (fresh w.front w.front_is)) in
    subst (λ (l : EdgeList). Stands new (s ++ l)) (sym w.is) (subst (λ (l : EdgeList). Stands new l) (append_assoc s w.front (w.last ∷ [])) st)

-- the lists of placed edges as they are listed
pub listed-placed : (xs : List PlacedEdge) → map placed (map as_listed xs) ≡ xs
listed-placed [] = refl
listed-placed (x ∷ xs) = ap (λ (l : List PlacedEdge). x ∷ l) (listed-placed xs)

-- a list around its i-th element
pub around : (xs : List PlacedEdge) (i : ℕ) (d : PlacedEdge) → i < length xs → xs ≡ take i xs ++ (get_or xs i d ∷ drop (suc i) xs)
around [] i d lt = absurd (omega arith)
around (x ∷ xs) zero d lt = refl
around (x ∷ xs) (suc i) d lt = ap (λ (l : List PlacedEdge). x ∷ l) (around xs i d (omega arith))

-- the first i edges of a list were given
pub record AreGiven (old new : PartState) (edges : List PlacedEdge) (i : ℕ) : Type 0 where
  pub stands : (s t : EdgeList) → CanTake old edges s → map placed t ≡ take i edges → Stands new (s ++ t)
  pub kept : KeepsPart old new

pub given-none : (old : PartState) (edges : List PlacedEdge) → AreGiven old old edges 0
given-none old edges = record {
  stands = λ s t m eq. subst (λ (l : EdgeList). Stands old (s ++ l)) (sym (empty t eq)) (subst (λ (l : EdgeList). Stands old l) (sym (append-nil s)) m.stands);
  kept = record { range = record { first = refl; count = refl; chunks = refl; room = refl }; lots = refl };
}
  where
    empty : (t : EdgeList) → map placed t ≡ [] → t ≡ []
    empty [] eq = refl
    empty (h ∷ t) eq = absurd (never eq)
      where
        never : placed h ∷ map placed t ≡ [] → ⊥
        never q = cc

pub given-more : (old mid new : PartState) (edges : List PlacedEdge) (i : ℕ) (e : PlacedEdge) → i < length edges → e ≡ get_or edges i e → AreGiven old mid edges i →
    ((f : ListedEdge) (u : EdgeList) → placed f ≡ e → Stands mid u → IsNewRank e.rank u → Stands new (f ∷ u)) → KeepsPart mid new → AreGiven old new edges (i + 1)
given-more old mid new edges i e lt at m given kept = record {
  stands = λ s t can eq. stands-more mid new s (take i edges) e (λ u is. m.stands s u can is)
      (λ u is. new-next old edges s can (take i edges) e (drop (suc i) edges) (around edges i e lt ∙ ap (λ (x : PlacedEdge). take i edges ++ (x ∷ drop (suc i) edges)) (sym at)) u is)
      given t (eq ∙ take_more edges i e lt ∙ ap (λ (x : PlacedEdge). take i edges ++ (x ∷ [])) (sym at));
  kept = record { range = range-on old.region mid.region new.region m.kept.range kept.range; lots = kept.lots ∙ m.kept.lots };
}

-- what the next edge needs
pub given-next : (old mid : PartState) (edges : List PlacedEdge) (i : ℕ) (e : PlacedEdge) → i < length edges → e ≡ get_or edges i e → AreGiven old mid edges i → (s : EdgeList) → CanTake old edges s →
    (IsCovered mid.region e.a × IsCovered mid.region e.b) × ((e.a ≢ e.b) × ((u : EdgeList) × (Stands mid u × IsNewRank e.rank u)))
given-next old mid edges i e lt at m s can =
    let there : edges ≡ take i edges ++ (e ∷ drop (suc i) edges) = around edges i e lt ∙ ap (λ (x : PlacedEdge). take i edges ++ (x ∷ drop (suc i) edges)) (sym at) in
    let inside : IsIn e edges = subst (λ (l : List PlacedEdge). IsIn e l) (sym there) (IsIn-append e (take i edges) (e ∷ drop (suc i) edges) (inr (inl refl))) in (
      (covered-on old.region mid.region m.kept.range e.a (can.a e inside), covered-on old.region mid.region m.kept.range e.b (can.b e inside)),
      (
        can.two e inside,
        (
          s ++ map as_listed (take i edges),
          (
            m.stands s (map as_listed (take i edges)) can (listed-placed (take i edges)),
            new-next old edges s can (take i edges) e (drop (suc i) edges) there (map as_listed (take i edges)) (listed-placed (take i edges)),
          ),
        ),
      ),
    )

-- the lots have no say in what a part stands for
pub stands-noted : (p q : PartState) (s : EdgeList) (lots : List ℕ) → q ≡ record p { lots = lots } → Stands p s → Stands q s
stands-noted p q s lots eq st = subst (λ (w : PartState). Stands w s) (sym eq) (record {
  first_ends = st.first_ends;
  second_ends = st.second_ends;
  two_ends = st.two_ends;
  apart = st.apart;
  small = st.small;
  traces = st.traces;
  met = st.met;
  alone = st.alone;
  given = st.given;
})
