-- What reading gives: a value, or the first fault from the left; and the rules for numbers. A rule says what a token at a place gives.
use Rattle.std.specs.Prelude.{ℕ, nat_lt, if◌then◌else◌, Result, Ok, Err}
use Rattle.hg_base.specs.declared.fault.FaultKind.{FaultKind}
use Rattle.hg_base.specs.declared.fault.FaultKind.TheVariants.{BadNumber, TooLarge}
use Rattle.hg_base.specs.declared.fault.InputFault.{InputFault}
use Rattle.input_tokens.specs.declared.token.Token.{Token}
use Rattle.input_tokens.specs.declared.token.Token.TheVariants.{Graph, GraphWithAreas, Number, Other}

infixl 10 ◌>>=◌
abbrev pub ◌>>=◌ : {A B : Type 0} → Result A InputFault → (A → Result B InputFault) → Result B InputFault
(Ok x) >>= f = f x
(Err fault) >>= f = Err fault

abbrev pub fault : {A : Type 0} → FaultKind → ℕ → ℕ → Result A InputFault
fault kind at value = Err (record { kind = kind; at = at; value = value })

unfoldable pub number_read : ℕ → Token → Result ℕ InputFault
number_read at (Number n) = Ok n
number_read at Graph = fault BadNumber at 0
number_read at GraphWithAreas = fault BadNumber at 0
number_read at Other = fault BadNumber at 0

abbrev pub within_limit : ℕ → ℕ → ℕ → Result ℕ InputFault
within_limit limit at n = if nat_lt limit n then fault TooLarge at n else Ok n
