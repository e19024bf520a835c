use Rattle.std.proofs.Common.{rules, ◌≡◌, ℕ, ◌≤◌, true, arith, ap, sym, subst, ◌∙◌}
use mathlib.Core.Option.{some}
use lib.ListN.{get_elem?}
use Rattle.tile_plan.specs.Plan.{TilePlan, root}
use Rattle.merge_board.specs.Fits.{Fits}
use Rattle.merge_board.proofs.Doors.{some_plan}
use Rattle.merge_board.proofs.Ending.{is_root, root_fits}
use Rattle.merge_board.proofs.receipt.root_part.Goals as goal

-- src/receipt.rt:134:22
pub emptied-requires-clause-kept : goal.emptied-requires-clause-kept
emptied-requires-clause-kept c =
    let known : c.args.plan.now ≡ c.board.inside.table.shared.key.plan.value = search rules in
    let r : c.root-root.result ≡ root c.board.inside.table.shared.key.plan.value = c.root-root.ensures ∙ ap (λ (q : TilePlan). root q) known in
    let l = c.close_with-closed.ensures.counts.1 in
    let s = c.board.invariant.slots in
    let t = some_plan c.board.inside.table.shared.key.plan.value c.board.invariant.plan in omega arith

-- src/receipt.rt:135:9
pub unreachable-requires : goal.unreachable-requires
unreachable-requires c =
    let known : c.args.plan.now ≡ c.board.inside.table.shared.key.plan.value = search rules in
    let r : c.root-root.result ≡ root c.board.inside.table.shared.key.plan.value = c.root-root.ensures ∙ ap (λ (q : TilePlan). root q) known in
    let missed : c.seat.inside.token.me.0.missed ≡ true = search rules in
    let all : c.board.inside.table.shared.key.workers ≤ c.seat.inside.token.me.0.share = search rules in
    is_root c.board.inside.table.shared.key.plan.value c.board.inside.table.shared.key.workers c.close_with-closed.result.words.items c.close_with-closed.result.slots.items c.seat.inside.token.id c.seat.inside.token.me.0
    c.close_with-closed.ensures.values.2 missed all
    c.emptied.result (subst (λ (k : ℕ). get_elem? c.close_with-closed.result.slots.items k ≡ some c.emptied.result) r c.emptied.ensures) c.in_default.is

-- src/receipt.rt:123:1
pub returns : goal.returns
returns c =
    let known : c.args.plan.now ≡ c.board.inside.table.shared.key.plan.value = search rules in
    let same : c.args.board.plan ≡ c.board.inside.table.shared.key.plan.value = search rules in
    let r : c.root-root.result ≡ root c.board.inside.table.shared.key.plan.value = c.root-root.ensures ∙ ap (λ (q : TilePlan). root q) known in
    let missed : c.seat.inside.token.me.0.missed ≡ true = search rules in
    let all : c.board.inside.table.shared.key.workers ≤ c.seat.inside.token.me.0.share = search rules in
    subst (λ (q : TilePlan). Fits q (root q) c.in-Some.part) (sym same)
    (root_fits c.board.inside.table.shared.key.plan.value c.board.inside.table.shared.key.workers c.close_with-closed.result.words.items c.close_with-closed.result.slots.items c.seat.inside.token.id c.seat.inside.token.me.0
    c.close_with-closed.ensures.values.2 missed all
    c.emptied.result c.in-Some.part (subst (λ (k : ℕ). get_elem? c.close_with-closed.result.slots.items k ≡ some c.emptied.result) r c.emptied.ensures) c.in-Some.is)
