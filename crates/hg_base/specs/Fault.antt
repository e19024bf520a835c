-- The numbers and names of the kinds of fault, and the words for a fault.
use Rattle.std.specs.Prelude.{ℕ, List, ◌∷◌, ◌++◌, codes, decimal}
use Rattle.hg_base.specs.declared.fault.InputFault.{InputFault}
use Rattle.hg_base.specs.declared.fault.FaultKind.{FaultKind}
use Rattle.hg_base.specs.declared.fault.FaultKind.TheVariants as kinds

abbrev pub number_of : FaultKind → ℕ
number_of kinds.UnknownForm = 1
number_of kinds.BadNumber = 2
number_of kinds.TooLarge = 3
number_of kinds.Truncated = 4
number_of kinds.Trailing = 5
number_of kinds.OutOfRange = 6
number_of kinds.Loop = 7
number_of kinds.NoVertex = 8
number_of kinds.SampleAboveMax = 9
number_of kinds.TooLong = 10
number_of kinds.NotAPicture = 11
number_of kinds.TooManyTiles = 12
number_of kinds.TooManyLabels = 14
number_of kinds.TooManyJobs = 15
number_of kinds.TooManyVertices = 16

-- the name of a kind of fault
abbrev pub name_of : FaultKind → List ℕ
name_of kinds.UnknownForm = codes "UnknownForm"
name_of kinds.BadNumber = codes "BadNumber"
name_of kinds.TooLarge = codes "TooLarge"
name_of kinds.Truncated = codes "Truncated"
name_of kinds.Trailing = codes "Trailing"
name_of kinds.OutOfRange = codes "OutOfRange"
name_of kinds.Loop = codes "Loop"
name_of kinds.NoVertex = codes "NoVertex"
name_of kinds.SampleAboveMax = codes "SampleAboveMax"
name_of kinds.TooLong = codes "TooLong"
name_of kinds.NotAPicture = codes "NotAPicture"
name_of kinds.TooManyTiles = codes "TooManyTiles"
name_of kinds.TooManyLabels = codes "TooManyLabels"
name_of kinds.TooManyJobs = codes "TooManyJobs"
name_of kinds.TooManyVertices = codes "TooManyVertices"

-- the words for a fault of the input: `input NUMBER NAME at PLACE value VALUE`
abbrev pub input_words : InputFault → List ℕ
input_words f = codes "input " ++ (decimal (number_of f.kind) ++ (32 ∷ (name_of f.kind ++ (codes " at " ++ (decimal f.at ++ (codes " value " ++ decimal f.value))))))
