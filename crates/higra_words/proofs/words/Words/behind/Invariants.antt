-- The name, and the words up to this one.
use Rattle.std.proofs.Common.{◌≡◌, ◌∷◌, map, take}
use Rattle.std.specs.Prelude.{string_bytes}
use Rattle.higra_words.proofs.words.Words.behind.Given as goal

abbrev pub invariant-loop-text : goal.invariant-loop-text
invariant-loop-text l = map (λ s. s.now) l.line.items ≡ l.name ∷ map string_bytes (take l.text-index l.text-items)
