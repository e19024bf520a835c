-- A part that is given the edges of a list rank by rank, in any order of the ranks.
use Rattle.std.proofs.Common.{◌≡◌, ◌≢◌, ℕ, zero, suc, ◌+◌, ◌<◌, ◌==◌, false, inl, inr, refl, sym, ◌∙◌, subst, ap, arith, List, [], ◌∷◌, ◌++◌, length, map, get_or}
use Rattle.std.specs.Prelude.{IsPermutation}
use Rattle.std.specs.List.{range_with_len, IsDistinct}
use Rattle.std.proofs.lemmas.Bool.{cases_order, true≢false}
use Rattle.std.proofs.lemmas.Bool.Decides.{eqb_tells}
use Rattle.std.proofs.lemmas.List.{map-append, get_or-map, length-map}
use Rattle.std.proofs.lemmas.List.FromFn.{length-range_with_len, get_or-range_with_len}
use Rattle.std.proofs.lemmas.List.Elements.{Contains-get_or}
use Rattle.std.proofs.lemmas.List.Sorted.{IsPermutation-sym, Contains-permutation, length_permutation}
use Rattle.std.proofs.lemmas.Map.Keys.{IsDistinct-IsPermutation, IsDistinct-from_apart, apart_from_distinct}
use Rattle.edge_laws.specs.Placed.{placed}
use Rattle.edge_laws.specs.Edges.{ListedEdge, EdgeList, IsSameSet}
use Rattle.hg_base.specs.Lists.{IsIn}
use Rattle.border_climb.specs.Stands.{PartState, Stands, IsNewRank}
use Rattle.border_climb.proofs.Lots.{stands-same}
use Rattle.partition_tree.specs.declared.list.Ranked.{Ranked}
use Rattle.partition_tree.specs.declared.block_keys.BlockKey.{BlockKey}
use Rattle.partition_tree.specs.Ranked.{edge_at, edges_of}
use Rattle.partition_tree.specs.BlockKeys.{AreBlockKeys}
use Rattle.partition_tree.proofs.ListLemmas.{edges-apart, edges-placed, placed-edges, length-edges, placed-read}

-- the ranks of keys
abbrev pub ranks_of : List BlockKey → List ℕ
ranks_of block_keys = map (λ (t : BlockKey). t.rank) block_keys

-- the numbers below n, each once
abbrev pub IsOrder : ℕ → List ℕ → Type 0
IsOrder n order = IsPermutation (range_with_len 0 n) order

-- the edges of the first k ranks in an order, the last in front
abbrev pub given_by : List Ranked → List ℕ → ℕ → EdgeList
given_by list order zero = []
given_by list order (suc k) = edge_at list (get_or order k 0) ∷ given_by list order k

-- one number more
range-more : (a n j : ℕ) → a + n ≡ j → range_with_len a (n + 1) ≡ range_with_len a n ++ j ∷ []
range-more a zero j e = let z : a ≡ j = omega (arith, e) in ap (λ x. x ∷ []) z
range-more a (suc n) j e =
    let z : suc n + 1 ≡ suc (n + 1) = omega arith in
    ap (range_with_len a) z ∙ ap (λ (l : List ℕ). a ∷ l) (range-more (a + 1) n j (omega (arith, e)))

-- one key more
pub block_keys-more : (block_keys more : List BlockKey) (t : BlockKey) (k : ℕ) → ranks_of block_keys ≡ range_with_len 0 k → more ≡ block_keys ++ t ∷ [] → t.rank ≡ k → ranks_of more ≡ range_with_len 0 (k + 1)
block_keys-more block_keys more t k is push rank =
    ap ranks_of push
    ∙ map-append (λ (x : BlockKey). x.rank) block_keys (t ∷ [])
    ∙ ap (λ (l : List ℕ). l ++ t.rank ∷ []) is
    ∙ ap (λ (r : ℕ). range_with_len 0 k ++ r ∷ []) rank
    ∙ sym (range-more 0 k k (omega arith))

-- as many ranks as numbers
pub order-length : (n : ℕ) (order : List ℕ) → IsOrder n order → length order ≡ n
order-length n order o = length_permutation (range_with_len 0 n) order o ∙ length-range_with_len 0 n

-- each of them below n
pub order-within : (n : ℕ) (order : List ℕ) (k : ℕ) → IsOrder n order → k < n → get_or order k 0 < n
order-within n order k o lt =
    let long = order-length n order o in
    let c = Contains-permutation order (range_with_len 0 n) (get_or order k 0) (IsPermutation-sym (range_with_len 0 n) order o) (Contains-get_or order k 0 (omega (arith, long))) in
    let low : c.0 < n = omega (arith, c.1, length-range_with_len 0 n) in
    let is : get_or order k 0 ≡ 0 + c.0 = sym c.2 ∙ get_or-range_with_len 0 n c.0 (get_or order k 0) low in
    omega arith

-- each number has a place
order-has : (n : ℕ) (order : List ℕ) (r : ℕ) → IsOrder n order → r < n → (k : ℕ) × ((k < n) × (get_or order k 0 ≡ r))
order-has n order r o lt =
    let c = Contains-permutation (range_with_len 0 n) order r o (r, omega (arith, length-range_with_len 0 n), (get_or-range_with_len 0 n r r lt ∙ (let z : 0 + r ≡ r = omega arith in z))) in
    let long = order-length n order o in
    (c.0, (omega (arith, c.1, long), other_default order c.0 r c.1 c.2))
  where
    other_default : (xs : List ℕ) (i r : ℕ) → i < length xs → get_or xs i r ≡ r → get_or xs i 0 ≡ r
    other_default [] i r lt e = absurd (omega arith)
    other_default (x ∷ xs) zero r lt e = e
    other_default (x ∷ xs) (suc i) r lt e = other_default xs i r (omega arith) e

eqb-flips : (x y : ℕ) → (x == y) ≡ (y == x)
eqb-flips x y = elim (eqb_tells x y) [
  | inl w ↦ elim (eqb_tells y x) [ inl v ↦ w.0 ∙ sym v.0 | inr v ↦ absurd (v.1 (sym w.1)) ]
  | inr w ↦ elim (eqb_tells y x) [ inl v ↦ absurd (w.1 (sym v.1)) | inr v ↦ w.0 ∙ sym v.0 ]
]

apart-eqb : (x y : ℕ) → x ≢ y → (x == y) ≡ false
apart-eqb x y apart = elim (eqb_tells x y) [ inl w ↦ absurd (apart w.1) | inr w ↦ w.0 ]

eqb-apart : (x y : ℕ) → (x == y) ≡ false → x ≢ y
eqb-apart x y differ same = elim (eqb_tells x y) [ inl w ↦ absurd (true≢false (sym w.0 ∙ differ)) | inr w ↦ w.1 same ]

-- no number has two places
order-apart : (n : ℕ) (order : List ℕ) (i j : ℕ) → IsOrder n order → i < j → j < n → get_or order i 0 ≢ get_or order j 0
order-apart n order i j o lt within =
    let long = order-length n order o in
    eqb-apart (get_or order i 0) (get_or order j 0)
    (apart_from_distinct (λ x y. x == y) order i j 0 (IsDistinct-IsPermutation (λ x y. x == y) eqb-flips (range_with_len 0 n) order o numbers) lt (omega (arith, long)))
  where
    numbers : IsDistinct (λ x y. x == y) (range_with_len 0 n)
    numbers = IsDistinct-from_apart (λ x y. x == y) (range_with_len 0 n) (λ a b d low high.
        let long = length-range_with_len 0 n in
        let one : get_or (range_with_len 0 n) a d ≡ 0 + a = get_or-range_with_len 0 n a d (omega (arith, long)) in
        let other : get_or (range_with_len 0 n) b d ≡ 0 + b = get_or-range_with_len 0 n b d (omega (arith, long)) in
        apart-eqb (get_or (range_with_len 0 n) a d) (get_or (range_with_len 0 n) b d) (λ same. omega (arith, one, other, same)))

-- an edge that was given has a place in the order
given-placed : (list : List Ranked) (order : List ℕ) (k : ℕ) (e : ListedEdge) → IsIn e (given_by list order k) → (j : ℕ) × ((j < k) × (edge_at list (get_or order j 0) ≡ e))
given-placed list order zero e i = absurd i
given-placed list order (suc k) e (inl same) = (k, (omega arith, same))
given-placed list order (suc k) e (inr later) = let p = given-placed list order k e later in (p.0, (omega (arith, p.1.0), p.1.1))

placed-given : (list : List Ranked) (order : List ℕ) (k j : ℕ) → j < k → IsIn (edge_at list (get_or order j 0)) (given_by list order k)
placed-given list order zero j lt = absurd (omega arith)
placed-given list order (suc k) j lt =
    elim (cases_order j k) [
      | inl level ↦ inl (ap (λ (x : ℕ). edge_at list (get_or order x 0)) (sym level))
      | inr other ↦ elim other [ inl low ↦ inr (placed-given list order k j low) | inr high ↦ absurd (omega arith) ]
    ]

-- as many edges as keys
length-given : (list : List Ranked) (order : List ℕ) (k : ℕ) → length (given_by list order k) ≡ k
length-given list order zero = refl
length-given list order (suc k) = ap suc (length-given list order k)

-- the rank of the next edge is new
pub given-new : (list : List Ranked) (n : ℕ) (order : List ℕ) (k : ℕ) → IsOrder n order → k < n → IsNewRank (get_or order k 0) (given_by list order k)
given-new list n order k o lt e i rank =
    let p = given-placed list order k e i in
    order-apart n order p.0 k o p.1.0 lt (ap (λ (x : ListedEdge). x.rank) p.1.1 ∙ rank)

-- the edges of the list, whatever the order in which they were given
given-same : (list : List Ranked) (order : List ℕ) → IsOrder (length list) order → IsSameSet (given_by list order (length list)) (edges_of list)
given-same list order o = record {
  on = λ e i. (let p = given-placed list order (length list) e i in
      subst (λ (x : ListedEdge). IsIn x (edges_of list)) p.1.1 (placed-edges list (get_or order p.0 0) (order-within (length list) order p.0 o p.1.0)));
  back = λ e i. (let p = edges-placed list e i in
      let k = order-has (length list) order p.at o p.low in
      subst (λ (x : ListedEdge). IsIn x (given_by list order (length list))) (ap (edge_at list) k.1.1 ∙ p.is) (placed-given list order (length list) k.0 k.1.0));
}

-- A part to which all edges were given in some order stands for the list.
pub given-whole : (part : PartState) (list : List Ranked) (order : List ℕ) → IsOrder (length list) order → Stands part (given_by list order (length list)) → Stands part (edges_of list)
given-whole part list order o st =
    stands-same part (given_by list order (length list)) (edges_of list) (given-same list order o) (edges-apart list) (length-given list order (length list) ∙ sym (length-edges list)) st

-- the rank of a key
key-rank : (block_keys : List BlockKey) (k : ℕ) (d : BlockKey) → k < length block_keys → get_or (ranks_of block_keys) k 0 ≡ (get_or block_keys k d).rank
key-rank block_keys k d lt = get_or-map (λ (t : BlockKey). t.rank) block_keys k d 0 lt

-- as many keys as edges
pub block_keys-length : (list : List Ranked) (block_keys : List BlockKey) → AreBlockKeys list block_keys → length block_keys ≡ length list
block_keys-length list block_keys o = sym (length-map block_keys (λ (t : BlockKey). t.rank)) ∙ order-length (length list) (ranks_of block_keys) o

-- the rank of a key is a place of the list
pub key-low : (list : List Ranked) (block_keys : List BlockKey) (k : ℕ) (d : BlockKey) → AreBlockKeys list block_keys → k < length block_keys → (get_or block_keys k d).rank < length list
key-low list block_keys k d o lt =
    let long = block_keys-length list block_keys o in
    subst (λ (r : ℕ). r < length list) (key-rank block_keys k d lt) (order-within (length list) (ranks_of block_keys) k o (omega (arith, long)))

-- which no key before it has
pub key-new : (list : List Ranked) (block_keys : List BlockKey) (k : ℕ) (d : BlockKey) → AreBlockKeys list block_keys → k < length block_keys → IsNewRank (get_or block_keys k d).rank (given_by list (ranks_of block_keys) k)
key-new list block_keys k d o lt =
    let long = block_keys-length list block_keys o in
    subst (λ (r : ℕ). IsNewRank r (given_by list (ranks_of block_keys) k)) (key-rank block_keys k d lt) (given-new list (length list) (ranks_of block_keys) k o (omega (arith, long)))

-- the edge of a key, as a part is given it
pub key-read : (list : List Ranked) (block_keys : List BlockKey) (k : ℕ) (d : BlockKey) (e : Ranked) → AreBlockKeys list block_keys → k < length block_keys →
    placed (edge_at list (get_or (ranks_of block_keys) k 0)) ≡ record { rank = (get_or block_keys k d).rank; a = (get_or list (get_or block_keys k d).rank e).u; b = (get_or list (get_or block_keys k d).rank e).v }
key-read list block_keys k d e o lt =
    ap (λ (r : ℕ). placed (edge_at list r)) (key-rank block_keys k d lt) ∙ placed-read list (get_or block_keys k d).rank e (key-low list block_keys k d o lt)
