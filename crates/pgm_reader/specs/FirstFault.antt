-- The first fault of a picture from the left: what stands before it is right, and what follows it changes nothing.
use Rattle.std.specs.Prelude.{◌≡◌, ◌≢◌, ◌⊎◌, ℕ, ◌<◌, ◌≤◌, true, false, List, [], ◌∷◌, ◌++◌, length, take, drop, Option, Some, None, Result, Ok, Err, All}
use Rattle.hg_base.specs.declared.fault.FaultKind.TheVariants.{Truncated}
use Rattle.hg_base.specs.declared.fault.InputFault.{InputFault}
use Rattle.input_tokens.specs.declared.token.Token.{Token}
use Rattle.pgm_reader.specs.Pgm.{CutToken, cut, width, height, greatest, picture}

-- what stands behind a right token; behind a wrong one nothing is read
abbrev pub where_right : Result ℕ InputFault → (ℕ → List CutToken) → List CutToken
where_right (Ok n) behind = behind n
where_right (Err fault) behind = []

-- a token that is read by this rule, and the tokens behind it
abbrev pub right_tokens : (ℕ → Token → Result ℕ InputFault) → (ℕ → ℕ → List ℕ → List CutToken) → Option CutToken → List CutToken
right_tokens rule behind None = []
right_tokens rule behind (Some t) = t ∷ where_right (rule t.from t.token) (λ n. behind n t.to t.rest)

abbrev pub greatest_tokens : ℕ → ℕ → List ℕ → List CutToken
greatest_tokens h place bytes = right_tokens greatest (λ max to rest. []) (cut false false place bytes)

abbrev pub height_tokens : ℕ → ℕ → List ℕ → List CutToken
height_tokens w place bytes = right_tokens (height w) greatest_tokens (cut true false place bytes)

-- the tokens that are read of the header: the width, the height and the greatest value, up to the first that is wrong or missing
unfoldable pub header : List ℕ → List CutToken
header bytes = right_tokens width height_tokens (cut true false 2 (drop 2 bytes))

-- the token doesn't go on across this place
abbrev pub IsBeside : ℕ → CutToken → Type 0
IsBeside place t = (place ≤ t.from) ⊎ (t.to ≤ place)

-- no token of the header is parted where the bytes are cut at this place
abbrev pub PartsNone : ℕ → List ℕ → Type 0
PartsNone place bytes = All (IsBeside place) (header bytes)

-- more is wanted where an input of this length ends
abbrev pub ended_early : ℕ → InputFault
ended_early end = record { kind = Truncated; at = end; value = 0 }

-- the fault is found before the bytes end, whatever follows them; and no cut has another fault but that it ends
pub record IsFirst (bytes : List ℕ) (f : InputFault) : Type 0 where
  pub below : f.at < length bytes
  pub not_missing : f.kind ≢ Truncated
  pub whatever_follows : (rest : List ℕ) → PartsNone (length bytes) (bytes ++ rest) → picture (bytes ++ rest) ≡ Err f
  pub of_cuts : (place : ℕ) (g : InputFault) → place < length bytes → PartsNone place bytes → picture (take place bytes) ≡ Err g → (g ≡ f) ⊎ (g ≡ ended_early place)
