use Rattle.std.proofs.Common.{◌*◌, ℕ, ap, ◌∙◌, rules}
use Rattle.label_writer.specs.Report.{labels_picture}
use Rattle.higra_report.proofs.DrawingLemmas.{few_labels, many_labels}
use Rattle.higra_report.proofs.drawing.draw.Goals as goal

pub write_pgm-requires-clause-pixels : goal.write_pgm-requires-clause-pixels
write_pgm-requires-clause-pixels c =
    ap (λ (n : ℕ). n * c.height.result) c.width.ensures.value ∙ ap (λ (n : ℕ). c.args.picture.now.width * n) c.height.ensures.value ∙ c.requires

pub returns-in_ok-of-in-Ok : goal.returns-in_ok-of-in-Ok
returns-in_ok-of-in-Ok c = (
  few_labels c.args.labels.now.count (λ more. let wrong = c.in-Ok.ensures.too_many.1 more in cc),
  c.in_ok-of-in-Ok.ensures
      ∙ c.in-Ok.ensures.picture
      ∙ ap (λ (n : ℕ). labels_picture c.args.labels.now n c.height.result) c.width.ensures.value
      ∙ ap (λ (n : ℕ). labels_picture c.args.labels.now c.args.picture.now.width n) c.height.ensures.value,
)

pub returns-in-Err-TooManyLabels : goal.returns-in-Err-TooManyLabels
returns-in-Err-TooManyLabels c =
    let named = c.in-Err-TooManyLabels.field-0-is in
    let many = c.in-Err-TooManyLabels.ensures.how_many c.in-Err-TooManyLabels.count cc in
    many_labels c.args.labels.now.count c.from.result (search rules) (c.in-Err-TooManyLabels.ensures.too_many.0 cc)
