-- What a decoder has read of an input that comes in pieces, said by what is still to come; and what it answers.
use Rattle.std.specs.Prelude.{◌≡◌, ℕ, Bool, false, List, ◌++◌, length, Result, Ok, Err}
use Rattle.hg_base.specs.declared.fault.InputFault.{InputFault}
use Rattle.hg_base.specs.declared.fault.ReadError.{ReadError}
use Rattle.hg_base.specs.declared.fault.ReadError.TheVariants as errors

-- how a decoder goes on: the number of bytes that were fed, whether memory ran out, what reading on through bytes to the end gives,
-- and whether the header is settled after bytes
pub record Onward (A : Type 0) : Type 0 where
  pub taken : ℕ
  pub out_of_memory : Bool
  pub reading : List ℕ → Result A InputFault
  pub settling : List ℕ → Bool

-- These bytes have been read: whatever follows, reading on is reading them and what follows. What an input gives, and whether
-- it settles the header, is said by its form.
pub record ReadsOnFrom {A : Type 0} (gives : List ℕ → Result A InputFault) (settles : List ℕ → Bool) (bytes : List ℕ) (onward : Onward A) : Type 0 where
  pub taken : onward.taken ≡ length bytes
  pub reading : onward.out_of_memory ≡ false → (rest : List ℕ) → onward.reading rest ≡ gives (bytes ++ rest)
  pub settling : (rest : List ℕ) → onward.settling rest ≡ settles (bytes ++ rest)

-- an answer is the value or the fault that was read, unless memory ran out
abbrev pub Answers : {A : Type 0} → Result A ReadError → Result A InputFault → Type 0
Answers (Ok x) read = read ≡ Ok x
Answers (Err (errors.Fault fault)) read = read ≡ Err fault
Answers (Err errors.OutOfMemory) read = Unit {0}
