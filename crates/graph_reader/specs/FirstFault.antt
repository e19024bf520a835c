-- The first fault from the left: what stands before it is right, and what follows it changes nothing.
use Rattle.std.specs.Prelude.{◌≡◌, ◌≢◌, ◌⊎◌, ℕ, ◌≤◌, true, List, [], ◌++◌, length, take, Err, Contains}
use Rattle.hg_base.specs.declared.fault.FaultKind.TheVariants.{UnknownForm, Truncated}
use Rattle.hg_base.specs.declared.fault.InputFault.{InputFault}
use Rattle.input_tokens.specs.Tokens.{PlacedToken, tokens, goes_on_apart}
use Rattle.graph_reader.specs.EdgeList.{edge_list}

-- these bytes have no fault but that they end
abbrev pub IsRightSoFar : List ℕ → Type 0
IsRightSoFar bytes = (f : InputFault) → edge_list bytes ≡ Err f → f.at ≡ length bytes

-- every token before this place is right: up to its end, the bytes have no fault but that they end
abbrev pub IsRightBefore : ℕ → List ℕ → Type 0
IsRightBefore place bytes = (t : PlacedToken) → Contains (tokens bytes) t → t.to ≤ place → IsRightSoFar (take t.to bytes)

-- the token is the first wrong one, by this fault at its first byte, whatever follows it
pub record IsFirstWrong (bytes : List ℕ) (t : PlacedToken) (f : InputFault) : Type 0 where
  pub token : Contains (tokens bytes) t
  pub place : f.at ≡ t.from
  pub right_before : IsRightBefore t.from bytes
  pub whatever_follows : (rest : List ℕ) → goes_on_apart rest ≡ true → edge_list (take t.to bytes ++ rest) ≡ Err f
  pub not_missing : f.kind ≢ Truncated

-- every token is right, and the bytes end where another one is wanted
pub record EndsTooEarly (bytes : List ℕ) (f : InputFault) : Type 0 where
  pub place : f.at ≡ length bytes
  pub value : f.value ≡ 0
  pub right_before : IsRightBefore (length bytes) bytes
  pub kind : ((tokens bytes ≡ []) × (f.kind ≡ UnknownForm)) ⊎ ((tokens bytes ≢ []) × (f.kind ≡ Truncated))
