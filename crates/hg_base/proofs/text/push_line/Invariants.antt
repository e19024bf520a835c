use Rattle.std.proofs.Common.{◌≡◌, ◌≤◌, ◌++◌, length, drop}
use Rattle.hg_base.specs.Text.{line}
use Rattle.hg_base.proofs.Lines.{rest_of_line}
use Rattle.hg_base.proofs.text.push_line.Given as goal

-- what is written and what is left make the whole line; nothing of the old text is gone
abbrev pub invariant-loop-place : goal.invariant-loop-place
invariant-loop-place l = record {
  whole : l.text.items ++ rest_of_line l.place (drop l.place l.numbers) ≡ l.fn.text.items ++ line l.fn.numbers;
  longer : length l.fn.text.items ≤ length l.text.items;
}
