use Rattle.std.proofs.Common.{arith}
use Rattle.tile_plan.proofs.Cuts.{columns_sum, rows_sum}
use Rattle.tile_plan.proofs.site.Grid.halves.Goals as goal

pub returns-then-rows-columns-clause-sum : goal.returns-then-rows-columns-clause-sum
returns-then-rows-columns-clause-sum c = columns_sum _ _ _ (omega arith)

pub returns-else-rows-columns-clause-sum : goal.returns-else-rows-columns-clause-sum
returns-else-rows-columns-clause-sum c = rows_sum _ _ _ (omega arith)
