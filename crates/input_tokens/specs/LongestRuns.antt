-- The tokens told byte by byte: longest runs of bytes that are neither white space nor in a comment.
use Rattle.std.specs.Prelude.{◌≡◌, ℕ, suc, ◌-◌, ◌<◌, ◌≤◌, false, List, length, take, drop, get_or}
use Rattle.input_tokens.specs.Tokens.{PlacedToken, is_space, is_line_end, meaning}

-- a comment covers this place: a `#` stands at it or before, and no line end from the `#` up to it
pub record IsCommented (bytes : List ℕ) (place : ℕ) : Type 0 where
  pub from : ℕ
  pub before : from ≤ place
  pub hash : get_or bytes from 0 ≡ 35
  pub one_line : (k : ℕ) → from ≤ k → k ≤ place → is_line_end (get_or bytes k 0) ≡ false

-- the byte at this place belongs to a token
pub record IsTokenByte (bytes : List ℕ) (place : ℕ) : Type 0 where
  pub there : place < length bytes
  pub no_space : is_space (get_or bytes place 0) ≡ false
  pub no_comment : IsCommented bytes place → ⊥

-- the token is a longest run of such bytes, and says what they mean
pub record IsLongestRun (bytes : List ℕ) (t : PlacedToken) : Type 0 where
  pub some : t.from < t.to
  pub run : (place : ℕ) → t.from ≤ place → place < t.to → IsTokenByte bytes place
  pub begins : (place : ℕ) → suc place ≡ t.from → IsTokenByte bytes place → ⊥
  pub ends : IsTokenByte bytes t.to → ⊥
  pub says : t.token ≡ meaning (take (t.to - t.from) (drop t.from bytes))
