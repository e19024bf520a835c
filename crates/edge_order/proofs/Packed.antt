-- Packed keys compare as the weights and numbers that they hold.
use Rattle.std.proofs.Common.{◌≡◌, ℕ, ◌+◌, ◌*◌, ◌^◌, ◌<◌, ◌==◌, Bool, true, false, cond, ◌&&◌, ◌||◌, List, [], ◌∷◌, ◌++◌, Some, slice_get, get_or, map, nat_lt, refl, sym, ap, ◌∙◌, arith}
use Rattle.std.specs.Prelude.{IsPermutation, IsSorted}
use Rattle.std.specs.List.{range_with_len}
use Rattle.std.specs.Ordering.{nat_cmp, is_lt}
use Rattle.std.specs.declared.cmp.Ordering.TheVariants.{Less, Equal, Greater}
use Rattle.std.proofs.Math.Nat.{div-add-mod}
use Rattle.std.proofs.lemmas.Bool.Decides.{nat_tests}
use Rattle.std.proofs.lemmas.List.{get_or-map, length-map, map-append}
use Rattle.std.proofs.lemmas.List.FromFn.{map-range_with_len_more}
use Rattle.std.proofs.lemmas.List.Sorted.{IsPermutation-map}
use Rattle.hg_base.specs.Graph.{WeightedGraph}
use Rattle.hg_base.specs.declared.graph.Edge.{Edge}
use Rattle.edge_order.specs.Keys.{unpacked}
use Rattle.edge_order.specs.Tables.{AreRising, key, keys_of, sorted_keys_of}
use Rattle.edge_order.specs.declared.key.Key.{Key}
use Rattle.edge_order.proofs.Sorted.{key_cmp, key_lt, tests_agree, sorted_keys-is}

-- numbers in one number compare by the high one, then by the low one
pairs-lt : (high low high' low' : ℕ) → low < 2 ^ 32 → low' < 2 ^ 32 → (nat_lt high high' || ((high == high') && nat_lt low low')) ≡ nat_lt (2 ^ 32 * high + low) (2 ^ 32 * high' + low')
pairs-lt high low high' low' small small' = grind (arith, nat_tests)

cmp-lt : (l e : Bool) → is_lt (cond l Less (cond e Equal Greater)) ≡ l
cmp-lt true e = refl
cmp-lt false true = refl
cmp-lt false false = refl

-- a packed key is lower exactly where its weight and number are
unpacked-lt : (x y : Key) → key_lt (unpacked x) (unpacked y) ≡ is_lt (nat_cmp x.packed y.packed)
unpacked-lt x y =
    let a = unpacked x in
    let b = unpacked y in
    let whole = ap (λ (n : ℕ). nat_lt n y.packed) (div-add-mod x.packed (2 ^ 32)) in
    let whole' = ap (λ (n : ℕ). nat_lt (2 ^ 32 * a.0 + a.1) n) (div-add-mod y.packed (2 ^ 32)) in
    tests_agree (nat_lt a.0 b.0) (a.0 == b.0) (nat_lt a.1 b.1) (a.1 == b.1) ∙ pairs-lt a.0 a.1 b.0 b.1 (omega arith) (omega arith) ∙ whole' ∙ whole ∙ sym (cmp-lt (nat_lt x.packed y.packed) (x.packed == y.packed))

-- what rising keys hold is sorted
unpacked-sorted : (keys : List Key) → AreRising keys → IsSorted key_cmp (map unpacked keys)
unpacked-sorted keys rising k d from next =
    let long = length-map keys unpacked in
    let e : Key = record { packed = 0 } in
    rw (get_or-map unpacked keys (k + 1) e d (omega (arith, next, long)), get_or-map unpacked keys k e d (omega (arith, next, long)))
    (unpacked-lt (get_or keys (k + 1) e) (get_or keys k e) ∙ rising k e from (omega (arith, next, long)))

-- keys of a graph that were put in rising order are those by rank
pub sorted_keys-unpacked : (g : WeightedGraph) (keys sorted : List Key) → map unpacked keys ≡ keys_of g → IsPermutation keys sorted → AreRising sorted → map unpacked sorted ≡ sorted_keys_of g
sorted_keys-unpacked g keys sorted own same rising =
    sorted_keys-is g (map unpacked sorted) (rw own at (IsPermutation-map unpacked keys sorted same)) (unpacked-sorted sorted rising)

-- one more key, by number
pub keys_more : (g : WeightedGraph) (e : ℕ) (x : Edge) (k : Key) (keys : List Key) → slice_get g.edges e ≡ Some x → unpacked k ≡ (x.w, e)
    → map unpacked keys ≡ map (key g) (range_with_len 0 e) → map unpacked (keys ++ k ∷ []) ≡ map (key g) (range_with_len 0 (e + 1))
keys_more g e x k keys found holds so_far =
    let its_key : key g e ≡ unpacked k = rw (found, holds) refl in
    rw (map-append unpacked keys (k ∷ []), map-range_with_len_more (key g) 0 e e (omega arith), so_far, its_key) refl
