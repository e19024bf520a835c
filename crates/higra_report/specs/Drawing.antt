-- What drawing labels as a picture answers.
use Rattle.std.specs.Prelude.{◌≡◌, ℕ, List, Option, Some, None, Result, Ok, Err}
use Rattle.hg_base.specs.Labels.{Labelling}
use Rattle.label_writer.specs.Report.{labels_picture}
use Rattle.pgm_reader.specs.Raster.{Raster}
use Rattle.higra_report.specs.Reports.{label_fault}
use Rattle.higra_report.specs.declared.fault.ReportFault.{ReportFault}
use Rattle.higra_report.specs.declared.fault.ReportFault.TheVariants as faults

-- the labels as samples of the picture's pixels; or that there are too many labels, or that memory ran out
abbrev pub IsDrawn : Labelling → Raster → Result (List ℕ) ReportFault → Type 0
IsDrawn labels raster (Ok bytes) = (label_fault labels.count ≡ None) × (bytes ≡ labels_picture labels raster.width raster.height)
IsDrawn labels raster (Err (faults.Input fault)) = label_fault labels.count ≡ Some fault
IsDrawn labels raster (Err faults.OutOfMemory) = Unit {0}

-- the same of labels that are there
abbrev pub AreLabelsDrawn : Option Labelling → Raster → Result (List ℕ) ReportFault → Type 0
AreLabelsDrawn None raster drawn = ⊥
AreLabelsDrawn (Some labels) raster drawn = IsDrawn labels raster drawn
