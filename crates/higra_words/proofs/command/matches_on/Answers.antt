use Rattle.std.proofs.lemmas.Result.{IfOk-weaker}
use Rattle.higra_words.proofs.CommandLemmas.{higra-readable, rows_on-found}
use Rattle.higra_words.proofs.command.matches_on.Goals as goal

pub matches_by-requires : goal.matches_by-requires
matches_by-requires c = higra-readable _ c.in_ok-command.ensures

pub returns-clause-found : goal.returns-clause-found
returns-clause-found c = IfOk-weaker c.matches_by.result _ _ (λ matches found. rows_on-found _ _ _ c.in_ok-command.ensures found) c.matches_by.ensures.found

pub returns-clause-usage : goal.returns-clause-usage
returns-clause-usage c usage = rows_on-found _ _ _ c.in_ok-command.ensures (c.matches_by.ensures.usage usage)
