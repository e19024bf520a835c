-- The sorted keys are a permutation of the keys by number.
use Rattle.std.proofs.Common.{◌≡◌, ℕ, List, ◌++◌, ◌∙◌, ap, map, take, drop, length, subst, arith}
use Rattle.std.specs.Prelude.{IsPermutation}
use Rattle.std.proofs.Math.Seq.{take-append_seam}
use Rattle.edge_order.specs.Keys.{unpacked}
use Rattle.edge_order.specs.declared.key.Key.{Key}
use Rattle.edge_order.proofs.Packed.{sorted_keys-unpacked}
use Rattle.edge_order.proofs.order.sorted_keys.Goals as goal

pub returns-clause-keys : goal.returns-clause-keys
returns-clause-keys g c =
    let keys = c.in_ok-keys.keys.items in
    let sorted = c.sort.new.keys in
    let rest : List Key = drop (length sorted) keys in
    let long : c.in_ok-keys.keys.len ≡ length sorted = omega (arith, c.in_ok-keys.keys.ok, c.deref_mut.ensures.len, c.sort.ensures.len) in
    let same = subst (λ (xs : List Key). IsPermutation xs sorted) c.deref_mut.ensures.value c.sort.ensures.permutation in
    ap (map unpacked) (ap (λ (n : ℕ). take n (sorted ++ rest)) long ∙ take-append_seam sorted rest)
    ∙ sorted_keys-unpacked c.args.graph.now keys sorted c.in_ok-keys.ensures same c.sort.ensures.rising
