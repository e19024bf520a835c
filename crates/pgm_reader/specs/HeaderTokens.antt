-- The tokens of a picture's header beside those of an edge list.
use Rattle.std.specs.Prelude.{◌≡◌, Bool, true, List, [], ◌∷◌, Option, Some, None}
use Rattle.input_tokens.specs.Tokens.{PlacedToken}
use Rattle.pgm_reader.specs.Pgm.{CutToken}

-- The token that was cut begins where the first of these does; where a `#` ends it, it is that token. Or there is none of either.
abbrev pub IsFirstOf : Bool → List PlacedToken → Option CutToken → Type 0
IsFirstOf hash_ends [] None = Unit {0}
IsFirstOf hash_ends (t ∷ ts) (Some c) = (c.from ≡ t.from) × (hash_ends ≡ true → (c.to ≡ t.to) × (c.token ≡ t.token))
IsFirstOf hash_ends _ _ = ⊥
