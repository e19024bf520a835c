use Rattle.std.specs.Prelude.{slice_index}
use Rattle.merge_board.proofs.Turns.{turns_kept, out_kept, out_turned}
use Rattle.merge_board.proofs.laws.exchanges_keep_the_rule.Goals as goal

pub returns-clause-turns : goal.returns-clause-turns
returns-clause-turns c s me x = turns_kept me.0.plan me.0.hand me.1 x

pub returns-clause-out : goal.returns-clause-out
returns-clause-out c key s me x = out_kept key.plan.value (slice_index s.words) me.1 x

pub returns-clause-turned : goal.returns-clause-turned
returns-clause-turned c key s = out_turned key.plan.value (slice_index s.words)
