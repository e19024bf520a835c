use Rattle.std.proofs.Common.{◌∙◌}
use Rattle.higra_words.proofs.CommandLemmas.{found_by-read, found_by-error}
use Rattle.higra_words.proofs.command.matches_by.Goals as goal

pub returns-in-Ok-clause-found : goal.returns-in-Ok-clause-found
returns-in-Ok-clause-found c = found_by-read _ _ c.in-Ok.matches c.requires c.in-Ok.ensures.matches c.in-Ok.ensures.kinds

pub returns-clause-usage : goal.returns-clause-usage
returns-clause-usage c usage = found_by-error _ _ c.in-Err.error c.requires c.in-Err.ensures.kinds (λ memory. c.in_default.not-OutOfMemory (c.kind.ensures ∙ memory))
