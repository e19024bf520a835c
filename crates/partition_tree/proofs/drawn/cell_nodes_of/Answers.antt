use Rattle.std.proofs.Common.{◌≡◌, ◌≤◌, sym, subst, arith, length}
use Rattle.std.proofs.lemmas.Result.{IfOk-weaker}
use Rattle.partition_tree.specs.CellNodes.{AreByRank}
use Rattle.partition_tree.proofs.CellLemmas.{numbered-linked, numbered-drawn}
use Rattle.partition_tree.proofs.drawn.cell_nodes_of.Goals as goal

pub returns-clause-linked : goal.returns-clause-linked
returns-clause-linked g c =
    let region = c.args.part.now.region in
    let cells = c.deref.result.now in
    let few : length cells ≤ 4194304 = omega (arith, c.deref.ensures.len, c.in_ok-cells.ensures.len, c.requires.few) in
    let noted = subst (λ l. AreByRank region l) (sym c.deref.ensures.value) c.in_ok-cells.ensures.cells in
    IfOk-weaker c.of.result _ _ (λ x h. numbered-linked c.args.part.now _ cells _ _ _ _ _ _ c.requires.cells noted few h) c.of.ensures

pub returns-clause-drawn : goal.returns-clause-drawn
returns-clause-drawn g c =
    let region = c.args.part.now.region in
    let cells = c.deref.result.now in
    let all : length cells ≡ c.args.ranks = omega (arith, c.deref.ensures.len, c.in_ok-cells.ensures.len) in
    let noted = subst (λ l. AreByRank region l) (sym c.deref.ensures.value) c.in_ok-cells.ensures.cells in
    IfOk-weaker c.of.result _ _ (λ x h. numbered-drawn c.args.part.now _ _ _ cells _ _ _ _ _ _ all noted h) c.of.ensures
