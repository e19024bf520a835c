-- Edges read by rank, and put into their lots one after the other.
use Rattle.std.proofs.Common.{◌≡◌, ℕ, zero, suc, ◌+◌, ◌<◌, ◌≤◌, Bool, true, false, cond, ◌⊎◌, inl, inr, refl, sym, ◌∙◌, subst, ap, arith, List, [], ◌∷◌, ◌++◌, length, get_or, take, drop, map}
use Rattle.std.specs.Prelude.{◌==◌, filter, slice_index}
use Rattle.std.proofs.lemmas.Bool.{cases_eq, eq-eqb}
use Rattle.std.proofs.lemmas.List.{append-nil, map-append, get_or-map, get_or-drop, take_more, length-map, length-drop}
use Rattle.std.proofs.lemmas.List.Elements.{filter-append}
use Rattle.edge_laws.specs.Edges.{ListedEdge, EdgeList, renamed, renamed_edge}
use Rattle.hg_base.specs.Lists.{IsIn}
use Rattle.edge_laws.specs.Placed.{placed}
use Rattle.edge_laws.specs.Rising.{IsRising}
use Rattle.hg_base.specs.declared.graph.RankedEdge.{RankedEdge}
use Rattle.hg_base.specs.declared.graph.PlacedEdge.{PlacedEdge}
use Rattle.hg_base.proofs.Lists.{IsIn-append_back}
use Rattle.edge_laws.proofs.Components.{IsRising-append}
use Rattle.edge_order.specs.Order.{with_number}
use Rattle.tile_plan.specs.Placing.{count_of, start_by, place_by}
use Rattle.tile_plan.proofs.Counting.{place-is, place-below}
use Rattle.tile_plan.proofs.Growing.{count_more, count_same}
use Rattle.tile_plan.proofs.Descents.{eq-false}

-- what is in a list with one more edge
pub IsIn-push : (e f : ListedEdge) (s : EdgeList) → IsIn f (s ++ e ∷ []) → IsIn f s ⊎ (e ≡ f)
IsIn-push e f s i = elim (IsIn-append_back f s (e ∷ []) i) [
  | inl old ↦ inl old
  | inr new ↦ elim new [ inl same ↦ inr same | inr none ↦ absurd none ]
]

-- one more edge of a higher rank
pub IsRising-push : (e : ListedEdge) (s : EdgeList) → IsRising s → ((f : ListedEdge) → IsIn f s → f.rank < e.rank) → IsRising (s ++ e ∷ [])
IsRising-push e s h low = IsRising-append s (e ∷ []) h (λ f i. absurd i, tt) (λ f g i j. elim j [ inl same ↦ subst (λ (x : ListedEdge). f.rank < x.rank) same (low f i) | inr none ↦ absurd none ])

-- the elements at the places of a key, of one more number
taken_more : {X : Type 0} (f : ℕ → ℕ) (n m k : ℕ) (out : List X) (y d : X) → m < n → length out ≡ n → get_or out (place_by f n m) d ≡ y
    → take (count_of f (m + 1) k) (drop (start_by f n k) out) ≡ take (count_of f m k) (drop (start_by f n k) out) ++ cond (f m == k) (y ∷ []) []
taken_more {X} f n m k out y d l long at =
    elim (cases_eq (f m) k) [
      | inl e ↦ own e
      | inr off ↦ rw (count_same f m k off, eq-false (f m) k off, append-nil (take (count_of f m k) (drop (start_by f n k) out))) refl
    ]
  where
    own : f m ≡ k → take (count_of f (m + 1) k) (drop (start_by f n k) out) ≡ take (count_of f m k) (drop (start_by f n k) out) ++ cond (f m == k) (y ∷ []) []
    own e =
        let place : place_by f n m ≡ start_by f n k + count_of f m k = subst (λ (z : ℕ). place_by f n m ≡ start_by f n z + count_of f m z) e (place-is f n m l) in
        let below = place-below f n m l in
        let rest = drop (start_by f n k) out in
        let room : count_of f m k < length rest = rw (length-drop (start_by f n k) out) (omega (arith, place, below, long)) in
        let read : get_or rest (count_of f m k) d ≡ y = get_or-drop (start_by f n k) out (count_of f m k) d ∙ ap (λ (z : ℕ). get_or out z d) (sym place) ∙ at in
        rw (count_more f m k e, eq-eqb (f m) k e)
        (take_more rest (count_of f m k) d room ∙ ap (λ (z : X). take (count_of f m k) rest ++ z ∷ []) read)

-- the edges of a lot, of one more
pub lot_more : (g : ListedEdge → PlacedEdge) (p : ListedEdge → Bool) (s : EdgeList) (e : ListedEdge) → map g (filter p (s ++ e ∷ [])) ≡ map g (filter p s) ++ cond (p e) (g e ∷ []) []
lot_more g p s e = ap (map g) (filter-append p s (e ∷ [])) ∙ map-append g (filter p s) (filter p (e ∷ [])) ∙ ap (λ (t : List PlacedEdge). map g (filter p s) ++ t) (one (p e))
  where
    one : (b : Bool) → map g (cond b (e ∷ []) []) ≡ cond b (g e ∷ []) []
    one true = refl
    one false = refl

-- the edge that is put into its lot
pub placed_lot : (f : ℕ → ℕ) (k number : ℕ) (e : RankedEdge) → e.rank ≡ k → ◌≡◌ {A = PlacedEdge} (record { rank = k; a = f e.u; b = f e.v }) (placed (renamed_edge f (with_number e number)))
placed_lot f k number e at = rw (← at) refl

pub renamed_lot : (f : ℕ → ℕ) (s : EdgeList) → map placed (renamed f s) ≡ map (λ e. placed (renamed_edge f e)) s
renamed_lot f [] = refl
renamed_lot f (e ∷ s) = ap (λ (t : List PlacedEdge). placed (renamed_edge f e) ∷ t) (renamed_lot f s)

-- the edges of a lot stand side by side, in order of rank
pub lot-taken : (lot : ListedEdge → ℕ) (g : ListedEdge → PlacedEdge) (keys : List ℕ) (s : EdgeList) (k m : ℕ) (out : List PlacedEdge) (d : PlacedEdge) (e : ListedEdge)
    → keys ≡ map lot s → length out ≡ length keys → m ≤ length keys
    → ((i : ℕ) → i < length keys → get_or out (place_by (slice_index keys) (length keys) i) d ≡ g (get_or s i e))
    → take (count_of (slice_index keys) m k) (drop (start_by (slice_index keys) (length keys) k) out) ≡ map g (filter (λ x. lot x == k) (take m s))
lot-taken lot g keys s k zero out d e same long low at = refl
lot-taken lot g keys s k (suc m) out d e same long low at =
    let f = slice_index keys in
    let n : ℕ = length keys in
    let x = get_or s m e in
    let one : suc m ≡ m + 1 = omega arith in
    let count : length s ≡ length keys = sym (ap length same ∙ length-map s lot) in
    let so_far = lot-taken lot g keys s k m out d e same long (omega arith) at in
    let next : take (suc m) s ≡ take m s ++ x ∷ [] = ap (λ (z : ℕ). take z s) one ∙ take_more s m e (omega (arith, count)) in
    let key : f m ≡ lot x = ap (λ (xs : List ℕ). get_or xs m 0) same ∙ get_or-map lot s m e 0 (omega (arith, count)) in
    ap (λ (z : ℕ). take (count_of f z k) (drop (start_by f n k) out)) one
    ∙ taken_more f n m k out (g x) d (omega arith) long (at m (omega arith))
    ∙ ap (λ (t : List PlacedEdge). t ++ cond (f m == k) (g x ∷ []) []) so_far
    ∙ ap (λ (z : ℕ). map g (filter (λ y. lot y == k) (take m s)) ++ cond (z == k) (g x ∷ []) []) key
    ∙ sym (ap (λ (t : EdgeList). map g (filter (λ y. lot y == k) t)) next ∙ lot_more g (λ y. lot y == k) (take m s) x)
