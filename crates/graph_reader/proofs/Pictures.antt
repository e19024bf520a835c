-- What begins with `P` is no edge list.
use Rattle.std.proofs.Common.{◌≡◌, ℕ, false, List, ◌∷◌, refl}
use Rattle.hg_base.specs.declared.fault.FaultKind.TheVariants.{UnknownForm}
use Rattle.input_tokens.specs.declared.token.Token.TheVariants.{Other}
use Rattle.input_tokens.specs.Tokens.{blanked, word, meaning, tokens_from}
use Rattle.graph_reader.specs.EdgeList.{edge_list, first_word, graph}
use Rattle.input_tokens.specs.Rules.{fault}
use Rattle.input_tokens.proofs.ByteByByte.{word-other}

-- the first token is neither of the words
first-token : (rest : List ℕ) → meaning (word (80 ∷ blanked false rest)) ≡ Other
unfolding meaning
first-token rest = rw (word-other 80 (blanked false rest) refl) refl

pub begins-with-P : (rest : List ℕ) → edge_list (80 ∷ rest) ≡ fault UnknownForm 0 0
unfolding edge_list graph first_word blanked tokens_from
begins-with-P rest = rw (first-token rest) refl
