use Rattle.std.proofs.Common.{ap, ◌∙◌}
use Rattle.std.specs.Prelude.{codes}
use Rattle.clap.specs.Words.{App}
use Rattle.higra_words.specs.Command.{with_option}
use Rattle.contour_run.specs.Command.{higra_contours}
use Rattle.contour_run.proofs.command.command.Goals as goal

pub returns : goal.returns
unfolding higra_contours
returns c =
    c.in_ok-command-5.ensures ∙ ap (λ (a : App). with_option (codes "seed") a)
    (c.in_ok-command-4.ensures ∙ ap (λ (a : App). with_option (codes "make") a)
    (c.in_ok-command-3.ensures ∙ ap (λ (a : App). with_option (codes "workers") a)
    (c.in_ok-command-2.ensures ∙ ap (λ (a : App). with_option (codes "tile") a)
    (c.in_ok-command.ensures ∙ ap (λ (a : App). with_option (codes "kind") a) c.new-command.ensures.app))))
