-- Parts: what a splice means for the list that a part stands for, and the answers.
use Rattle.std.proofs.Common.{◌≡◌, ◌≢◌, ℕ, zero, suc, ◌+◌, ◌-◌, ◌<◌, ◌≤◌, inl, inr, refl, sym, ◌∙◌, subst, ap, arith, [], ◌∷◌, get_or, length, replicate, ◌^◌, nat_le}
use Rattle.std.specs.Prelude.{Option, Some, None, IfSome}
use Rattle.std.specs.Option.{option_map_or}
use Rattle.std.proofs.lemmas.Bool.{cases_Bool}
use Rattle.edge_laws.specs.Edges.{ListedEdge, EdgeList, AreApart, Joined, below, components}
use Rattle.hg_base.specs.Lists.{IsIn}
use Rattle.edge_laws.specs.Placed.{placed}
use Rattle.hg_base.specs.declared.graph.PlacedEdge.{PlacedEdge}
use Rattle.hg_base.specs.declared.graph.Room.{Room}
use Rattle.edge_laws.specs.Saliency.{MeetFirst}
use Rattle.hg_base.proofs.Pigeons.{pigeonhole}
use Rattle.edge_laws.proofs.Members.{IsIn-below_kept}
use Rattle.edge_laws.proofs.LawForms.{Joined-among}
use Rattle.node_region.specs.Pool.{CellPool, IsPool, count, IsCovered, entry, cell_at, fresh_pool}
use Rattle.node_region.specs.declared.cell.Cell.{Cell}
use Rattle.border_climb.specs.declared.given.Given.{Given}
use Rattle.border_climb.specs.declared.given.Given.TheVariants as answers
use Rattle.border_climb.specs.Stands.{PartState, Stands, IsNewRank}
use Rattle.border_climb.specs.Linked.{Points}
use Rattle.border_climb.specs.Notes.{IsSound}
use Rattle.border_climb.specs.Splicing.{KeepsRange, IsLinkedList, IsSpliced, Tells, rank_of}
use Rattle.border_climb.specs.Parts.{IsLeastRank, IsAnswer, empty_part, as_listed}
use Rattle.border_climb.proofs.Linked.{Stands-linked, linked-Stands, between-Stands}
use Rattle.border_climb.proofs.Counting.{free-components}

-- a list that a part stands for
pub list-Stands : (part : PartState) (s : EdgeList) (r : ℕ) → Stands part s → IsNewRank r s → IsLinkedList part.region s r
list-Stands part s r st new = record { between = between-Stands part s st; links = linked-Stands part s st; fresh = new }

-- the rank of the i-th edge
abbrev rank_at : EdgeList → ℕ → ℕ
rank_at [] i = 0
rank_at (e ∷ s) zero = e.rank
rank_at (e ∷ s) (suc i) = rank_at s i

at-edge : (s : EdgeList) (i : ℕ) → i < length s → (f : ListedEdge) × (IsIn f s × (rank_at s i ≡ f.rank))
at-edge [] i lt = absurd (omega arith)
at-edge (e ∷ s) zero lt = (e, (inl refl, refl))
at-edge (e ∷ s) (suc i) lt = let w = at-edge s i (omega arith) in (w.0, (inr w.1.0, w.1.1))

at-one : (s : EdgeList) → AreApart s → (i j : ℕ) → i < length s → j < length s → rank_at s i ≡ rank_at s j → i ≡ j
at-one [] h i j a b r = absurd (omega arith)
at-one (e ∷ s) h zero zero a b r = refl
at-one (e ∷ s) h zero (suc j) a b r = let w = at-edge s j (omega arith) in absurd (h.0 w.0 w.1.0 (r ∙ w.1.1))
at-one (e ∷ s) h (suc i) zero a b r = let w = at-edge s i (omega arith) in absurd (h.0 w.0 w.1.0 (sym r ∙ w.1.1))
at-one (e ∷ s) h (suc i) (suc j) a b r = ap suc (at-one s h.1 i j (omega arith) (omega arith) r)

-- edges with different ranks of 32 bits aren't more than there are such ranks
pub few-edges : (s : EdgeList) → AreApart s → ((e : ListedEdge) → IsIn e s → e.rank < 2 ^ 32) → length s ≤ 2 ^ 32
few-edges s h small =
    pigeonhole (length s) (2 ^ 32) (rank_at s)
    (λ i lt. let w = at-edge s i lt in let low : w.0.rank < 2 ^ 32 = small w.0 w.1.0 in let r : rank_at s i ≡ w.0.rank = w.1.1 in omega arith)
    (λ i j a b r. at-one s h i j a b r)

pub given-small : (part : PartState) (s : EdgeList) → Stands part s → part.given ≤ 2 ^ 32
given-small part s st = let few = few-edges s st.apart st.small in let n : part.given ≡ length s = st.given in omega (arith, few)

-- covered places stay covered
pub covered-on : (p q : CellPool) → KeepsRange p q → (x : ℕ) → IsCovered p x → IsCovered q x
covered-on p q k x c =
    let first : q.first ≡ p.first = k.first in let n : count q ≡ count p = k.count in
    let low : p.first ≤ x = c.0 in let high : x < p.first + count p = c.1 in
    (omega arith, omega arith)

-- After a splice the part stands for the list with the edge.
pub stands-spliced : (old new : PartState) (e : PlacedEdge) (answer : Given) → IsCovered old.region e.a → IsCovered old.region e.b → e.a ≢ e.b → e.rank < 2 ^ 32 → KeepsRange old.region new.region → new.given ≡ old.given + 1 →
    (f : ListedEdge) (s : EdgeList) → placed f ≡ e → Stands old s → IsNewRank e.rank s → IsSpliced new.region f s answer → Stands new (f ∷ s)
stands-spliced old new e answer a b two small keeps given f s is st fresh sp =
    Stands-linked new (f ∷ s) (record {
      first_ends = λ g i. covered-on old.region new.region keeps g.u (elim i [ inl same ↦ subst (λ (h : ListedEdge). IsCovered old.region h.u) same (subst (λ (p : PlacedEdge). IsCovered old.region p.a) (sym is) a) | inr later ↦ st.first_ends g later ]);
      second_ends = λ g i. covered-on old.region new.region keeps g.v (elim i [ inl same ↦ subst (λ (h : ListedEdge). IsCovered old.region h.v) same (subst (λ (p : PlacedEdge). IsCovered old.region p.b) (sym is) b) | inr later ↦ st.second_ends g later ]);
      two_ends = λ g i. elim i [ inl same ↦ subst (λ (h : ListedEdge). h.u ≢ h.v) same (subst (λ (p : PlacedEdge). p.a ≢ p.b) (sym is) two) | inr later ↦ st.two_ends g later ];
      apart = ((λ g i r. fresh g i (sym r ∙ rank)), st.apart);
      small = λ g i. elim i [ inl same ↦ subst (λ (h : ListedEdge). h.rank < 2 ^ 32) same (subst (λ (p : PlacedEdge). p.rank < 2 ^ 32) (sym is) small) | inr later ↦ st.small g later ];
    }) sp.links (let n : old.given ≡ length s = st.given in omega arith)
  where
    rank : f.rank ≡ e.rank
    rank = ap (λ (p : PlacedEdge). p.rank) is

below-joined : (s : EdgeList) (k a b : ℕ) → Joined (below s k) a b → Joined s a b
below-joined s k a b j = Joined-among (below s k) s a b (λ e i. (IsIn-below_kept e s k i).0) j

least-first : (s : EdgeList) (a b : ℕ) (f : ListedEdge) → MeetFirst s a b f → IsLeastRank s a b f.rank
least-first s a b f m = record {
  joins = m.behind (suc f.rank) (omega arith);
  least = λ k j. (let up : f.rank < suc k = m.before (suc k) j in omega arith);
}

-- What was told is the answer.
pub answer-told : (s : EdgeList) (e : PlacedEdge) (answer : Given) → Tells (as_listed e) s answer → IsAnswer s e answer
answer-told s e answers.Redundant t = record {
  redundant = ((λ same. t), (λ j. refl));
  joined = ((λ same. cc), (λ never. absurd (never (below-joined s e.rank e.a e.b t))));
  replaced = λ z. ((λ same. cc), (λ p. absurd (p.0 t)));
}
answer-told s e answers.Joined t = record {
  redundant = ((λ same. cc), (λ j. absurd (t.0 j)));
  joined = ((λ same. t.1), (λ never. refl));
  replaced = λ z. ((λ same. cc), (λ p. absurd (t.1 (below-joined s (suc z) e.a e.b p.1.joins))));
}
answer-told s e (answers.Replaced y) t = record {
  redundant = ((λ same. cc), (λ j. absurd (t.0 j)));
  joined = ((λ same. cc), (λ never. absurd (never (below-joined s (suc t.1.0.rank) e.a e.b (t.1.1.0.behind (suc t.1.0.rank) (omega arith))))));
  replaced = λ z. (
    (λ same. (t.0, subst (λ (n : ℕ). IsLeastRank s e.a e.b n) (t.1.1.1 ∙ one z same) (least-first s e.a e.b t.1.0 t.1.1.0))),
    (λ p. let first = least-first s e.a e.b t.1.0 t.1.1.0 in
        let up : t.1.0.rank ≤ z = first.least z p.1.joins in
        let down : z ≤ t.1.0.rank = p.1.least t.1.0.rank first.joins in
        let at : t.1.0.rank ≡ y = t.1.1.1 in
        let same : y ≡ z = omega arith in
        ap answers.Replaced same),
  );
}
  where
    one : (z : ℕ) → answers.Replaced y ≡ answers.Replaced z → y ≡ z
    one z h = cc

-- nothing in a list of copies of none
none-copies : {X : Type 0} (n k : ℕ) → get_or {A = Option X} (replicate n None) k None ≡ None
none-copies zero k = refl
none-copies (suc n) zero = refl
none-copies (suc n) (suc k) = none-copies n k

none-fresh : {X : Type 0} (first n i : ℕ) → entry {X = X} first (replicate n None) i ≡ None
none-fresh {X} first n i =
    elim (cases_Bool (nat_le first i)) [
      | inl low ↦ rw low (none-copies n (i - first))
      | inr high ↦ rw high refl
    ]

-- a fresh part is sound, and stands for no edge
pub sound-fresh : (first n : ℕ) (room : Room) → IsSound (fresh_pool first n room)
sound-fresh first n room = record {
  leafs = λ x j cov up. absurd (never j (sym (none-fresh first n x) ∙ up));
  ups = λ i j c is up. absurd (empty c (sym (none-fresh first n i) ∙ is));
  hints = λ i c h is eq v. absurd (empty c (sym (none-fresh first n i) ∙ is));
  fingers = λ x h cov eq v. absurd (empty v.cell (sym (none-fresh first n h.cell) ∙ v.is));
  old = record {
    hints = λ i h eq fresh. absurd (nothing (sym (none-fresh first n i) ∙ eq));
    fingers = λ x h eq fresh. absurd (nothing (sym (none-fresh first n x) ∙ eq));
    turned = λ i c is. absurd (empty c (sym (none-fresh first n i) ∙ is));
  };
}
  where
    never : (j : ℕ) → None ≡ Some j → ⊥
    never j h = cc

    empty : (c : Cell) → None ≡ Some c → ⊥
    empty c h = cc

    nothing : {X : Type 0} {x : X} → None ≡ Some x → ⊥
    nothing {X} {x} h = cc

pub stands-fresh : (first n : ℕ) (room : Room) → Stands (empty_part first n room) []
stands-fresh first n room =
    Stands-linked (empty_part first n room) [] (record { first_ends = λ e i. absurd i; second_ends = λ e i. absurd i; two_ends = λ e i. absurd i; apart = tt; small = λ e i. absurd i })
    (record {
      leafs = λ x cov. subst (λ (o : Option ℕ). Points (fresh_pool first n room) o None) (sym (none-fresh first n x)) tt;
      cells = λ i c is. absurd (empty c (sym (none-fresh first n i) ∙ is));
      alone = λ i j b c eb ec r. absurd (empty b (sym (none-fresh first n i) ∙ eb));
    }) refl
  where
    empty : (c : Cell) → None ≡ Some c → ⊥
    empty c h = cc

-- As many components as free numbers.
pub components-Stands : (part : PartState) (s : EdgeList) → IsPool part.region → Stands part s → length part.region.free + part.region.first ≡ components (part.region.first + count part.region) s
components-Stands part s p st = free-components part.region p s (between-Stands part s st) (linked-Stands part s st)

-- what stands above a cell has a higher rank
pub higher-up : (p : CellPool) → IsSound p → (id : ℕ) (c : Cell) → cell_at p id ≡ Some c → IfSome c.up (λ above. rank_of p id < rank_of p above)
higher-up p s id c is = go c.up refl
  where
    go : (o : Option ℕ) → c.up ≡ o → IfSome o (λ above. rank_of p id < rank_of p above)
    go None eq = tt
    go (Some j) eq =
        let n = s.ups id j c is eq in
        let own : rank_of p id ≡ c.rank = ap (λ (o : Option Cell). option_map_or (λ y. y.rank) o 0) is in
        let top : rank_of p j ≡ n.0.rank = ap (λ (o : Option Cell). option_map_or (λ y. y.rank) o 0) n.1.0 in
        let up : c.rank < n.0.rank = n.1.1 in
        omega arith
