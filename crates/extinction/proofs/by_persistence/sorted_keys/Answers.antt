use Rattle.std.proofs.Common.{◌≡◌, ℕ, List, refl, sym, ◌∙◌, ap, subst, arith, length, map}
use Rattle.std.specs.Prelude.{IsPermutation}
use Rattle.std.specs.List.{range_with_len}
use Rattle.edge_order.specs.Tables.{key, keys_of}
use Rattle.edge_order.proofs.Sorted.{sorted_keys-is}
use Rattle.extinction.proofs.PersistenceRanks.{weighed, weighed-length}
use Rattle.extinction.proofs.PersistenceTree.{keys-next, sorted-order}
use Rattle.extinction.proofs.by_persistence.sorted_keys.Goals as goal

pub loop-place-preserved : goal.loop-place-preserved
loop-place-preserved c = keys-next c.args.persistences.now c.loop-place.keys.items c.push.new.self.items c.loop-place.place _ c.loop-place.invariant refl c.in_ok-push.ensures.items

pub returns : goal.returns
returns c =
    let xs = c.args.persistences.now in
    let whole : c.loop-place.place ≡ length xs = omega arith in
    let made : c.loop-place.keys.items ≡ map (key (weighed xs)) (range_with_len 0 (length xs)) = c.loop-place.invariant ∙ ap (λ (n : ℕ). map (key (weighed xs)) (range_with_len 0 n)) whole in
    let all : c.loop-place.keys.items ≡ keys_of (weighed xs) = made ∙ ap (λ (n : ℕ). map (key (weighed xs)) (range_with_len 0 n)) (sym (weighed-length xs)) in
    let same : IsPermutation (keys_of (weighed xs)) c.sort_unstable.new.self.items = subst (λ (ks : List (ℕ × ℕ)). IsPermutation ks c.sort_unstable.new.self.items) all c.sort_unstable.ensures.permutation in
    sorted-order xs c.loop-place.keys.items c.sort_unstable.new.self.items made c.sort_unstable.ensures.permutation (sorted_keys-is (weighed xs) c.sort_unstable.new.self.items same c.sort_unstable.ensures.sorted)
