use Rattle.input_tokens.proofs.QuietRuns.{number-begins}
use Rattle.input_tokens.proofs.runs.read_number.Goals as goal

pub returns-clause-tokens : goal.returns-clause-tokens
returns-clause-tokens c = number-begins _ c.args.place c.args.first _ c.args.others.now c.requires.least c.requires.most (rw c.from.ensures at c.read_digits-now.ensures.tokens)
