-- How long the parts of a fault line are.
use Rattle.std.proofs.Common.{◌≡◌, ℕ, ◌+◌, ◌/◌, ◌%◌, ◌^◌, ◌<◌, ◌≤◌, List, [], ◌∷◌, ◌++◌, length, decimal, arith, ap, sym, ◌∙◌, append_assoc, length-append, lit≤, lit<}
use Rattle.std.proofs.lemmas.Fmt.{decimal_step, decimal_digit, length-decimal-le}
use Rattle.hg_base.specs.declared.fault.FaultKind.{FaultKind}
use Rattle.hg_base.specs.declared.fault.FaultKind.TheVariants as kinds
use Rattle.hg_base.specs.Fault.{number_of}
use Rattle.higra_cli.specs.Ending.{name_of}

-- a digit more is one byte more
pub length_decimal_step : (n : ℕ) → 10 ≤ n → n < 2 ^ 64 → length (decimal n) ≡ length (decimal (n / 10)) + 1
length_decimal_step n h k = simp length-append at (ap length (decimal_step n h k))

-- a digit is one byte
pub length_decimal_digit : (n : ℕ) → n < 10 → length (decimal n) ≡ 1
length_decimal_digit n h = ap length (decimal_digit n h)

-- a number of the machine has at most twenty digits
pub length_decimal_le : (n : ℕ) → n < 2 ^ 64 → length (decimal n) ≤ 20
length_decimal_le n h = length-decimal-le 20 n (lit< tt) (omega arith) h

number_below : (kind : FaultKind) → number_of kind < 17
number_below kinds.UnknownForm = lit< tt
number_below kinds.BadNumber = lit< tt
number_below kinds.TooLarge = lit< tt
number_below kinds.Truncated = lit< tt
number_below kinds.Trailing = lit< tt
number_below kinds.OutOfRange = lit< tt
number_below kinds.Loop = lit< tt
number_below kinds.NoVertex = lit< tt
number_below kinds.SampleAboveMax = lit< tt
number_below kinds.TooLong = lit< tt
number_below kinds.NotAPicture = lit< tt
number_below kinds.TooManyTiles = lit< tt
number_below kinds.TooManyLabels = lit< tt
number_below kinds.TooManyJobs = lit< tt
number_below kinds.TooManyVertices = lit< tt

-- the number of a kind of fault has at most two digits
pub length_kind_le : (kind : FaultKind) → length (decimal (number_of kind)) ≤ 2
length_kind_le kind =
    let below : number_of kind < 17 = number_below kind in
    length-decimal-le 2 (number_of kind) (lit< tt) (omega arith) (omega arith)

-- no kind of fault has a longer name than that of too many vertices
pub length_name_le : (kind : FaultKind) → length (name_of kind) ≤ 15
length_name_le kinds.UnknownForm = lit≤ tt
length_name_le kinds.BadNumber = lit≤ tt
length_name_le kinds.TooLarge = lit≤ tt
length_name_le kinds.Truncated = lit≤ tt
length_name_le kinds.Trailing = lit≤ tt
length_name_le kinds.OutOfRange = lit≤ tt
length_name_le kinds.Loop = lit≤ tt
length_name_le kinds.NoVertex = lit≤ tt
length_name_le kinds.SampleAboveMax = lit≤ tt
length_name_le kinds.TooLong = lit≤ tt
length_name_le kinds.NotAPicture = lit≤ tt
length_name_le kinds.TooManyTiles = lit≤ tt
length_name_le kinds.TooManyLabels = lit≤ tt
length_name_le kinds.TooManyJobs = lit≤ tt
length_name_le kinds.TooManyVertices = lit≤ tt

pub ruleset line_lengths = (length_decimal_step, length_decimal_digit, length_decimal_le, length_kind_le, length_name_le)

-- the digits but the last, and then the last
pub put_digit : (old more new : List ℕ) (n : ℕ) → 10 ≤ n → n < 2 ^ 64 → more ≡ old ++ decimal (n / 10) → new ≡ more ++ ((48 + n % 10) ∷ []) → new ≡ old ++ decimal n
put_digit old more new n two fits digits last =
    let joined : (old ++ decimal (n / 10)) ++ ((48 + n % 10) ∷ []) ≡ old ++ decimal n =
    append_assoc old (decimal (n / 10)) ((48 + n % 10) ∷ []) ∙ ap (λ ds. old ++ ds) (sym (decimal_step n two fits)) in
    last ∙ ap (λ ds. ds ++ ((48 + n % 10) ∷ [])) digits ∙ joined
