-- The reasons for which an input is refused; none is that it is too long.
use Rattle.std.proofs.Common.{◌≡◌, ◌≢◌, ℕ, Bool, true, false, Option, Some, None, ap, ◌∙◌, subst}
use Rattle.std.specs.Prelude.{if◌then◌else◌, nat_lt, Result, Err}
use Rattle.hg_base.specs.Labels.{Labelling}
use Rattle.hg_base.specs.declared.fault.FaultKind.TheVariants.{TooLong}
use Rattle.hg_base.specs.declared.fault.InputFault.{InputFault}
use Rattle.higra_words.specs.declared.request.Form.{Form}
use Rattle.higra_words.specs.declared.request.Form.TheVariants as forms
use Rattle.higra_words.specs.declared.request.Report.{Report}
use Rattle.higra_words.specs.declared.request.Request.{Request}
use Rattle.higra_input.specs.Inputs.{input_graph}
use Rattle.higra_input.specs.declared.input.Input.{Input}
use Rattle.higra_input.specs.declared.input.Input.TheVariants.{Edges, Picture}
use Rattle.higra_report.specs.declared.fault.ReportFault.{ReportFault}
use Rattle.higra_report.specs.declared.fault.ReportFault.TheVariants as faults
use Rattle.higra_report.specs.Reports.{IsReportIn, drawing_fault, label_fault, labels_fault, labels_of, needs_picture, picture_fault, refusal, tile_fault, request_tiles, ◌before◌}

-- it isn't that
abbrev pub IsOther : Option InputFault → Type 0
IsOther None = Unit {0}
IsOther (Some f) = f.kind ≢ TooLong

other-before : (a b : Option InputFault) → IsOther a → IsOther b → IsOther (a before b)
other-before None b p q = q
other-before (Some f) b p q = p

other-if : (b : Bool) (f : InputFault) → f.kind ≢ TooLong → IsOther (if b then Some f else None)
other-if true f p = p
other-if false f p = tt

other-picture : (form : Form) (report : Report) (input : Input) → IsOther (picture_fault form report input)
other-picture form report (Edges graph) = other-if (needs_picture form report) _ (λ e. cc)
other-picture form report (Picture raster) = tt

pub other-tiles : (count : ℕ) → IsOther (tile_fault count)
unfolding tile_fault
other-tiles count = other-if (nat_lt 65536 count) _ (λ e. cc)

other-label : (count : ℕ) → IsOther (label_fault count)
unfolding label_fault
other-label count = other-if (nat_lt 65535 count) _ (λ e. cc)

other-labels : (labels : Option Labelling) → IsOther (labels_fault labels)
other-labels None = tt
other-labels (Some labels) = other-label labels.count

other-drawing : (form : Form) (report : Report) (input : Input) → IsOther (drawing_fault form report input)
other-drawing forms.Text report input = tt
other-drawing forms.Pgm report input = other-labels (labels_of report (input_graph input))

pub refusal-other : (request : Request) (input : Input) (f : InputFault) → refusal request input ≡ Some f → f.kind ≢ TooLong
unfolding refusal
refusal-other request input f is =
    subst IsOther is
    (other-before (picture_fault request.form request.report input) (tile_fault (request_tiles request input) before drawing_fault request.form request.report input) (other-picture request.form request.report input)
    (other-before (tile_fault (request_tiles request input)) (drawing_fault request.form request.report input) (other-tiles (request_tiles request input)) (other-drawing request.form request.report input)))

-- what was answered in place of a report is why there is none
pub refused_for : {T : Type 0} (request : Request) (input : Input) (fault : ReportFault) (f : InputFault) (answer : Result T ReportFault) → IsReportIn request.form request.tile request.report input (Err fault) → answer ≡ Err fault → answer ≡ Err (faults.Input f)
    → refusal request input ≡ Some f
unfolding refusal
refused_for request input (faults.Input g) f answer is by same = let one : g ≡ f = cc in is ∙ ap Some one
refused_for request input faults.OutOfMemory f answer is by same = cc
