-- The tests of forest edges say what is said by walks.
use Rattle.std.proofs.Common.{◌≡◌, ℕ, suc, true, false, inl, inr, refl, sym, ◌∙◌, arith}
use Rattle.std.specs.Prelude.{◌↔◌, not, ◌&&◌}
use Rattle.std.specs.List.{range_with_len}
use Rattle.std.proofs.lemmas.Bool.{and_parts, and_from, and_cases, and_left, and_right, both_ways, not-true, not_from_false, false_from_ne_true, cond-true, cond-false}
use Rattle.edge_laws.specs.Edges.{ListedEdge, EdgeList, AreWithin, joined, below, is_joining}
use Rattle.hg_base.specs.Lists.{IsIn}
use Rattle.hg_base.specs.Counting.{count_below}
use Rattle.hg_base.specs.Labels.{least_of}
use Rattle.edge_laws.proofs.Sets.{IsIn-joins, IsIn-joins_kept}
use Rattle.edge_laws.proofs.Walks.{Joined-joined}
use Rattle.edge_laws.proofs.Drops.{holds}
use Rattle.watershed_cut.specs.Minima.{IsMinimumEdge, InMinimum}
use Rattle.watershed_cut.specs.MinimumTests.{is_minimum, in_minimum, same_minimum, is_head, vertex_label, edge_label}
use Rattle.watershed_cut.specs.Forest.{Reaches, reaches, IsForestEdge, is_forest}
use Rattle.partition_tree.proofs.ListTests.{any-from, any-to, range-from}
use Rattle.watershed_cut.proofs.MinimumWalks.{minimum-to, minimum-from, in_minimum-to, in_minimum-from}

-- what is in no minimum has the label 0, and nothing else has
pub label-zero : (n : ℕ) (s : EdgeList) (x : ℕ) → (vertex_label n s x ≡ 0) ↔ (¬ InMinimum n s x)
label-zero n s x = (
  λ z m. (let e : vertex_label n s x ≡ suc (count_below (is_head n s) (least_of (same_minimum n s) x)) = cond-true (in_minimum n s x) _ _ (in_minimum-from n s x m) in omega (arith, z, e)),
  λ none'. cond-false (in_minimum n s x) _ _ (false_from_ne_true (in_minimum n s x) (λ t. none' (in_minimum-to n s x t))),
)

-- an edge that is no minimum edge has the label 0, and no other edge has
pub edge_label-zero : (n : ℕ) (s : EdgeList) → AreWithin n s → (e : ListedEdge) → IsIn e s → (edge_label n s e ≡ 0) ↔ (¬ IsMinimumEdge s e)
edge_label-zero n s within e i = (
  λ z m.
      let is : edge_label n s e ≡ vertex_label n s e.u = cond-true (is_minimum s e) _ _ (minimum-from s e m) in
      (label-zero n s e.u).0 (sym is ∙ z) (record { vertex = (within e i).0; either = inr (e, (m, inl refl)) }),
  λ none'. cond-false (is_minimum s e) _ _ (false_from_ne_true (is_minimum s e) (λ t. none' (minimum-to s e i t))),
)

-- the test of a minimum that is reached
pub reaches-to : (n : ℕ) (s : EdgeList) (k x : ℕ) → reaches n s k x ≡ true → Reaches n s k x
reaches-to n s k x h =
    let y = any-to (λ y. in_minimum n s y && joined (below s k) x y) (range_with_len 0 n) h in
    let p = and_parts (in_minimum n s y.0) (joined (below s k) x y.0) y.1.1 in
    (y.0, (in_minimum-to n s y.0 p.0, Joined-joined (below s k) x y.0 p.1))

pub reaches-from : (n : ℕ) (s : EdgeList) (k x : ℕ) → Reaches n s k x → reaches n s k x ≡ true
reaches-from n s k x r =
    let vertex = r.1.0.vertex in
    any-from (λ y. in_minimum n s y && joined (below s k) x y) r.0 (range_with_len 0 n) (range-from 0 n r.0 (omega arith) (omega arith))
    (and_from _ _ (in_minimum-from n s r.0 r.1.0) (holds (below s k) x r.0 r.1.1))

pub reaches-walks : (n : ℕ) (s : EdgeList) (k x : ℕ) → (reaches n s k x ≡ true) ↔ Reaches n s k x
reaches-walks n s k x = (reaches-to n s k x, reaches-from n s k x)

-- where the test is false no minimum is reached
reaches-not : (n : ℕ) (s : EdgeList) (k x : ℕ) → reaches n s k x ≡ false → ¬ Reaches n s k x
reaches-not n s k x h r = both_ways _ h (reaches-from n s k x r)

not-reaches : (n : ℕ) (s : EdgeList) (k x : ℕ) → (¬ Reaches n s k x) → reaches n s k x ≡ false
not-reaches n s k x h = false_from_ne_true (reaches n s k x) (λ t. h (reaches-to n s k x t))

-- the test of forest edges
pub forest-to : (n : ℕ) (s : EdgeList) (e : ListedEdge) → IsIn e s → is_forest n s e ≡ true → IsForestEdge n s e
forest-to n s e i h =
    let p = and_parts (is_joining s e) (not (is_minimum s e) && not (reaches n s e.rank e.u && reaches n s e.rank e.v)) h in
    let q = and_parts (not (is_minimum s e)) (not (reaches n s e.rank e.u && reaches n s e.rank e.v)) p.1 in record {
      joins = IsIn-joins s e i p.0;
      outside = λ m. both_ways _ (not-true _ q.0) (minimum-from s e m);
      grows = elim (and_cases (reaches n s e.rank e.u) (reaches n s e.rank e.v) (not-true _ q.1)) [
        | inl u ↦ inl (reaches-not n s e.rank e.u u)
        | inr v ↦ inr (reaches-not n s e.rank e.v v)
      ];
    }

pub forest-from : (n : ℕ) (s : EdgeList) (e : ListedEdge) → IsForestEdge n s e → is_forest n s e ≡ true
forest-from n s e f =
    let j = IsIn-joins_kept s e f.joins in
    and_from _ _ j.1 (and_from _ _ (not_from_false _ (false_from_ne_true (is_minimum s e) (λ t. f.outside (minimum-to s e j.0 t)))) (not_from_false _ (elim f.grows [
      | inl u ↦ and_left _ _ (not-reaches n s e.rank e.u u)
      | inr v ↦ and_right _ _ (not-reaches n s e.rank e.v v)
    ])))

pub forest-walks : (n : ℕ) (s : EdgeList) (e : ListedEdge) → IsIn e s → (is_forest n s e ≡ true) ↔ IsForestEdge n s e
forest-walks n s e i = (forest-to n s e i, forest-from n s e)
