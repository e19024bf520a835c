use Rattle.std.proofs.Common.{◌≡◌, ◌++◌, drop}
use Rattle.hg_base.specs.Text.{line}
use Rattle.hg_base.proofs.Lines.{rest_of_line}
use Rattle.energy_cut.proofs.report.push_numbers.Given as goal

-- what is written and what is left make the whole line
abbrev pub invariant-loop-place : goal.invariant-loop-place
invariant-loop-place l = l.text.items ++ rest_of_line l.place (drop l.place l.numbers) ≡ l.fn.text.items ++ line l.fn.numbers
