use Rattle.std.proofs.Common.{ℕ, List, [], ◌∷◌, ◌++◌, ◌∙◌, ap, length, append_assoc}
use Rattle.std.specs.Prelude.{codes}
use Rattle.std.specs.List.{range_with_len, flat_map}
use Rattle.hg_base.specs.Text.{headed_line}
use Rattle.extinction.specs.Report.{extinction_line}
use Rattle.extinction.proofs.report.with_extinctions.Goals as goal

pub returns : goal.returns
returns g c =
    let values = c.args.extinctions.now in
    let lines = flat_map (extinction_line values) (range_with_len 0 (length values)) in
    c.in_ok-push_lines.ensures
    ∙ ap (λ (text : List ℕ). text ++ flat_map (extinction_line values) (range_with_len 0 (length values))) c.in_ok-push_headed_line.ensures
    ∙ append_assoc c.args.pieces (headed_line (codes "extinctions") (length values ∷ [])) lines
