use Rattle.input_tokens.proofs.LongestRuns.{runs, all-in, rising}
use Rattle.input_tokens.proofs.laws.tokens_are_longest_runs.Goals as goal

pub returns-clause-runs : goal.returns-clause-runs
returns-clause-runs c = runs

pub returns-clause-all : goal.returns-clause-all
returns-clause-all c = all-in

pub returns-clause-in_order : goal.returns-clause-in_order
returns-clause-in_order c = rising
