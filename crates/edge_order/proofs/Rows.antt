-- What the readers of an order give.
use Rattle.std.proofs.Common.{◌≡◌, ℕ, ◌+◌, ◌*◌, ◌^◌, ◌<◌, ◌==◌, inl, inr, Bool, true, false, cond, nat_lt, Err, List, [], ◌∷◌, ◌++◌, Some, slice_get, length, get_or, take, refl, sym, ap, ◌∙◌, subst, arith}
use Rattle.std.specs.List.{HoldsAt}
use Rattle.std.specs.List.Sorted.{IsBinarySearchResult}
use Rattle.std.specs.Ordering.{nat_cmp}
use Rattle.std.specs.declared.cmp.Ordering.TheVariants.{Less, Equal, Greater}
use Rattle.std.proofs.Math.Nat.{div-add-mod}
use Rattle.std.proofs.lemmas.Bool.{cases_lt, eqb-true}
use Rattle.std.proofs.lemmas.Bool.Decides.{nat_tests}
use Rattle.std.proofs.lemmas.Cmp.{nat_cmp_total}
use Rattle.std.proofs.lemmas.List.Sorted.{searchable_from_sorted}
use Rattle.std.proofs.lemmas.Option.{slice_get-get_or, slice_get_read, get_or_from_slice_get}
use Rattle.std.proofs.lemmas.List.{get_or-map, length-map, take_more}
use Rattle.std.proofs.lemmas.List.FromFn.{length-map-range_with_len, get_or-map-range_with_len}
use Rattle.hg_base.specs.Graph.{WeightedGraph, JoinsTwo, weight, with_unit_areas}
use Rattle.edge_laws.specs.Edges.{ListedEdge}
use Rattle.edge_laws.specs.Rank.{number_at, rank, listed, ranked}
use Rattle.hg_base.specs.declared.graph.Edge.{Edge}
use Rattle.edge_order.specs.Keys.{unpacked}
use Rattle.edge_order.specs.Order.{order_of, number_at_rank}
use Rattle.edge_order.specs.OrderFields.{graph_in, order_in, IsTable}
use Rattle.edge_order.specs.Tables.{key, sorted_keys_of}
use Rattle.edge_order.specs.declared.key.Key.{Key}
use Rattle.edge_order.specs.declared.order.Order.TheInside.{Inside}
use Rattle.edge_laws.proofs.Ranks.{rank-below, number_at-rank, number_at-below, rank-number_at}

-- numbers compare as equal exactly where they are
same-cmp : (n : ℕ) → nat_cmp n n ≡ Equal
same-cmp n = grind (arith, nat_tests)

equal-cmp : (m n : ℕ) → nat_cmp m n ≡ Equal → m ≡ n
equal-cmp m n same = by_tests (nat_lt m n) (m == n) refl same
  where
    by_tests : (l e : Bool) → (m == n) ≡ e → cond l Less (cond e Equal Greater) ≡ Equal → m ≡ n
    by_tests true e h is = cc
    by_tests false true h is = eqb-true m n h
    by_tests false false h is = cc

-- there are as many ranks as edges
pub ranked-length : (g : WeightedGraph) → length (ranked g) ≡ length g.edges
ranked-length g = length-map-range_with_len (λ j. listed g j (number_at g j)) 0 (length g.edges)

-- there is a key for each edge
pub keys-length : (o : Inside) → IsTable o → length o.keys.items ≡ length o.edges.items
keys-length o t =
    let g = graph_in o in
    sym (length-map o.keys.items unpacked) ∙ ap length t.keys ∙ length-map-range_with_len (λ k. key g (number_at g k)) 0 (length g.edges)

-- the key at rank k holds the weight and the number of the edge of that rank
pub key-at : (o : Inside) → IsTable o → (k : ℕ) (d : Key) → k < length o.edges.items → unpacked (get_or o.keys.items k d) ≡ key (graph_in o) (number_at (graph_in o) k)
key-at o t k d h =
    let g = graph_in o in
    sym (get_or-map unpacked o.keys.items k d (0, 0) (omega (arith, h, keys-length o t)))
    ∙ ap (λ (xs : List (ℕ × ℕ)). get_or xs k (0, 0)) t.keys
    ∙ get_or-map-range_with_len (λ j. key g (number_at g j)) 0 (length g.edges) k k (0, 0) h (omega arith)

-- the listed edge at rank k
listed_at : (g : WeightedGraph) (k : ℕ) → k < length g.edges → slice_get (ranked g) k ≡ Some (listed g k (number_at g k))
listed_at g k h =
    let at_rank = λ (j : ℕ). listed g j (number_at g j) in
    slice_get-get_or (ranked g) k (at_rank 0) (rw (ranked-length g) h)
    ∙ ap (λ (x : ListedEdge). Some x) (get_or-map-range_with_len at_rank 0 (length g.edges) k k (at_rank 0) h (omega arith))

-- the number at a rank, in the order of a graph
pub number_at_rank-of : (g : WeightedGraph) (k : ℕ) → k < length g.edges → number_at_rank (order_of g) k ≡ number_at g k
number_at_rank-of g k h = rw (listed_at g k h) refl

-- the number of a key is that of an edge
pub number-below : (o : Inside) → IsTable o → (k : ℕ) (at : Key) → k < length o.edges.items → at ≡ get_or o.keys.items k at → (unpacked at).1 < length o.edges.items
number-below o t k at h is =
    let P : ℕ × ℕ → Type 0 = λ p. p.1 < length o.edges.items in
    subst P (sym (ap unpacked is ∙ key-at o t k at h)) (number_at-below (graph_in o) k (omega arith))

-- the weight of a key, with the ends of the edge of its number, is the listed edge of its rank
pub row-value : (o : Inside) → IsTable o → (k : ℕ) (at : Key) (e w : ℕ) (x : Edge) → k < length o.edges.items → at ≡ get_or o.keys.items k at
    → e ≡ (unpacked at).1 → w ≡ (unpacked at).0 → x ≡ get_or o.edges.items e x
    → slice_get (order_in o).edges k ≡ Some (record { rank = k; u = x.u; v = x.v; weight = w; number = number_at_rank (order_in o) k })
row-value o t k at e w x h is number heavy found =
    let g = graph_in o in
    let holds : unpacked at ≡ key g (number_at g k) = ap unpacked is ∙ key-at o t k at h in
    let its_number : e ≡ number_at g k = number ∙ ap (λ (p : ℕ × ℕ). p.1) holds in
    let its_weight : weight g (number_at g k) ≡ w = sym (heavy ∙ ap (λ (p : ℕ × ℕ). p.0) holds) in
    let within : e < length g.edges = rw number (number-below o t k at h is) in
    let read : slice_get g.edges (number_at g k) ≡ Some x = ap (slice_get g.edges) (sym its_number) ∙ slice_get_read g.edges (length g.edges) e x refl within found in
    let shown : ℕ → ℕ → ListedEdge = λ w' e'. record { rank = k; u = x.u; v = x.v; weight = w'; number = e' } in
    let row : listed g k (number_at g k) ≡ shown (weight g (number_at g k)) (number_at g k) = rw read refl in
    let same = ap (λ (w' : ℕ). shown w' (number_at g k)) its_weight ∙ ap (shown w) (sym (number_at_rank-of g k h)) in
    listed_at g k h ∙ ap (λ (y : ListedEdge). Some y) (row ∙ same)

-- it comes next after the listed edges of lower rank
pub row-next : (o : Inside) (k : ℕ) (x : ListedEdge) → k < length o.edges.items → slice_get (order_in o).edges k ≡ Some x → take (k + 1) (order_in o).edges ≡ take k (order_in o).edges ++ x ∷ []
row-next o k x h value =
    take_more (order_in o).edges k x (rw (ranked-length (graph_in o)) h)
    ∙ ap (λ (e : ListedEdge). take k (order_in o).edges ++ e ∷ []) (get_or_from_slice_get (order_in o).edges k x x value)

-- its ends are two vertices
pub row-ends : (o : Inside) → IsTable o → (e : ℕ) (x : Edge) (w : ℕ) → e < length o.edges.items → x ≡ get_or o.edges.items e x → JoinsTwo o.n (record { u = x.u; v = x.v; w = w })
row-ends o t e x w h is =
    let ends : JoinsTwo o.n x = rw is (t.ends e x h) in
    record { u = ends.u; v = ends.v; apart = ends.apart }

-- it is the number at its rank
pub number-value : (o : Inside) → IsTable o → (k : ℕ) (at : Key) → k < length o.edges.items → at ≡ get_or o.keys.items k at → (unpacked at).1 ≡ number_at_rank (order_in o) k
number-value o t k at h is =
    ap (λ (x : Key). (unpacked x).1) is ∙ ap (λ (p : ℕ × ℕ). p.1) (key-at o t k at h) ∙ sym (number_at_rank-of (graph_in o) k h)

-- ranks depend on the edges alone: a graph's order is that of its edges
pub own-keys : (g : WeightedGraph) (n : ℕ) (edges : List Edge) → edges ≡ g.edges → sorted_keys_of g ≡ sorted_keys_of (with_unit_areas n edges)
own-keys g n edges same = ap (λ (xs : List Edge). sorted_keys_of (with_unit_areas n xs)) (sym same)

pub own-order : (g : WeightedGraph) (n : ℕ) (edges : List Edge) → n ≡ g.n → edges ≡ g.edges → order_of (with_unit_areas n edges) ≡ order_of g
own-order g n edges same_n same = ap (λ (m : ℕ). order_of (with_unit_areas m edges)) same_n ∙ ap (λ (xs : List Edge). order_of (with_unit_areas g.n xs)) same

-- the key that holds a weight and a number is packed in one way
packed-unpacked : (x y : Key) → unpacked x ≡ unpacked y → x.packed ≡ y.packed
packed-unpacked x y same =
    sym (div-add-mod x.packed (2 ^ 32)) ∙ ap (λ (p : ℕ × ℕ). 2 ^ 32 * p.0 + p.1) same ∙ div-add-mod y.packed (2 ^ 32)

-- the key of an edge stands at its rank
pub key-at_rank : (o : Inside) → IsTable o → (e : ℕ) (x : Edge) (at d : Key) → e < length o.edges.items → x ≡ get_or o.edges.items e x → unpacked at ≡ (x.w, e)
    → (rank (graph_in o) e < length o.edges.items) × ((get_or o.keys.items (rank (graph_in o) e) d).packed ≡ at.packed)
key-at_rank o t e x at d h is holds =
    let g = graph_in o in
    let within = rank-below g e h in
    let read = slice_get_read g.edges (length g.edges) e x refl h is in
    let its_key : key g e ≡ (x.w, e) = rw read refl in
    (within, packed-unpacked (get_or o.keys.items (rank g e) d) at (key-at o t (rank g e) d within ∙ ap (key g) (number_at-rank g e h) ∙ its_key ∙ sym holds))

-- so a search for it doesn't miss
pub key-found : (o : Inside) → IsTable o → (e i : ℕ) (x : Edge) (at : Key) → e < length o.edges.items → x ≡ get_or o.edges.items e x → unpacked at ≡ (x.w, e)
    → IsBinarySearchResult (λ (k : Key). nat_cmp k.packed at.packed) o.keys.items (Err i) → ⊥
key-found o t e i x at h is holds missed =
    let g = graph_in o in
    let found = key-at_rank o t e x at at h is holds in
    let parted = missed (searchable_from_sorted nat_cmp_total (λ (k : Key). k.packed) o.keys.items at.packed t.rising) in
    let equal : nat_cmp (get_or o.keys.items (rank g e) at).packed at.packed ≡ Equal = rw found.1 (same-cmp at.packed) in
    elim (cases_lt (rank g e) i) [
      | inl below ↦ let lower = parted.0 (rank g e) at (omega arith) below in cc
      | inr above ↦ let higher = parted.1 (rank g e) at above (omega (arith, found.0, keys-length o t)) in cc
    ]

-- and where it is found, is the edge's rank
pub found-number : (o : Inside) → IsTable o → (e w r : ℕ) (at : Key) → r < length o.edges.items → unpacked at ≡ (w, e)
    → HoldsAt (λ (k : Key). nat_cmp k.packed at.packed ≡ Equal) o.keys.items r → number_at_rank (order_in o) r ≡ e
found-number o t e w r at h holds equal =
    let same : unpacked (get_or o.keys.items r at) ≡ unpacked at = ap (λ (n : ℕ). unpacked (record { packed = n })) (equal-cmp (get_or o.keys.items r at).packed at.packed (equal at)) in
    number_at_rank-of (graph_in o) r h ∙ ap (λ (p : ℕ × ℕ). p.1) (sym (key-at o t r at h) ∙ same ∙ holds)

-- an edge has one rank
pub rank-only : (o : Inside) (e r k : ℕ) → r < length o.edges.items → k < length o.edges.items → number_at_rank (order_in o) r ≡ e → number_at_rank (order_in o) k ≡ e → k ≡ r
rank-only o e r k hr hk at_r at_k =
    let g = graph_in o in
    sym (rank-number_at g k hk) ∙ ap (rank g) (sym (number_at_rank-of g k hk) ∙ at_k ∙ sym at_r ∙ number_at_rank-of g r hr) ∙ rank-number_at g r hr
