-- The grammar of pictures: Netpbm's PGM format in its binary form P5, with comments cut as this project cuts them,
-- and the first fault from the left. After `P5` come the width, the height and the greatest value, each a number;
-- one byte of white space; and the samples.
use Rattle.std.specs.Prelude.{ℕ, zero, suc, ◌+◌, ◌*◌, Bool, true, false, ◌&&◌, ◌||◌, ◌==◌, nat_lt, if◌then◌else◌, List, [], ◌∷◌, length, take, drop, Option, Some, None, Result, Ok, Err, codes, nat_eq}
use Rattle.std.specs.List.{before_first, prefix_len, fold, starts_with}
use Rattle.hg_base.specs.declared.fault.FaultKind.TheVariants.{BadNumber, TooLarge, Truncated, Trailing, NoVertex, SampleAboveMax}
use Rattle.hg_base.specs.declared.fault.InputFault.{InputFault}
use Rattle.input_tokens.specs.declared.token.Token.{Token}
use Rattle.input_tokens.specs.Tokens.{is_space, blanked, meaning, goes_on_apart}
use Rattle.input_tokens.specs.Rules.{◌>>=◌, fault, number_read, within_limit}
use Rattle.pgm_reader.specs.Raster.{Raster}

-- whether the bytes begin a picture: `P5`, and then the end, white space or a comment
unfoldable pub is_picture : List ℕ → Bool
is_picture bytes = starts_with nat_eq bytes (codes "P5") && goes_on_apart (drop 2 bytes)

-- a token that was cut off: the place of its first byte, what it says, the place behind its last byte, and the bytes from there on
pub record CutToken : Type 0 where
  pub from : ℕ
  pub token : Token
  pub to : ℕ
  pub rest : List ℕ

-- whether a token ends before this byte: at white space, and where it is said also at a `#`
abbrev pub ends_token : Bool → ℕ → Bool
ends_token hash_ends b = is_space b || (hash_ends && (b == 35))

-- the token that begins where these bytes do
unfoldable pub token_cut_at : Bool → ℕ → List ℕ → Option CutToken
token_cut_at hash_ends place [] = None
token_cut_at hash_ends place (b ∷ bs) =
    let text = before_first (ends_token hash_ends) (b ∷ bs) in
    Some (record { from = place; token = meaning text; to = place + length text; rest = drop (length text) (b ∷ bs) })

-- how many bytes of white space and comments come first; within says that the first byte stands inside a comment
unfoldable pub gap : Bool → List ℕ → ℕ
gap within bytes = prefix_len is_space (blanked within bytes)

-- the first token of the bytes from this place on
unfoldable pub cut : Bool → Bool → ℕ → List ℕ → Option CutToken
cut hash_ends within place bytes = token_cut_at hash_ends (place + gap within bytes) (drop (gap within bytes) bytes)

-- A rule says what a token at a place gives.

unfoldable pub width : ℕ → Token → Result ℕ InputFault
width at token = do
  n ← number_read at token
  if n == 0 then fault NoVertex at 0 else within_limit 1048576 at n

-- the height of a picture of this width: it has at most 1,048,576 pixels
unfoldable pub height : ℕ → ℕ → Token → Result ℕ InputFault
height w at token = do
  n ← number_read at token
  if n == 0 then fault NoVertex at 0 else (if nat_lt 1048576 (w * n) then fault TooLarge at (w * n) else Ok n)

unfoldable pub greatest : ℕ → Token → Result ℕ InputFault
greatest at token = do
  n ← number_read at token
  if n == 0 then fault BadNumber at 0 else within_limit 65535 at n

-- a sample has one byte where the greatest value is below 256, else two
abbrev pub sample_size : ℕ → ℕ
sample_size max = if nat_lt max 256 then 1 else 2

-- the number of these bytes, the most significant first
abbrev pub big_endian : List ℕ → ℕ
big_endian bytes = fold (λ n b. n * 256 + b) 0 bytes

-- so many samples from this place on, each up to the greatest value, and nothing after them
unfoldable pub samples : ℕ → ℕ → ℕ → ℕ → List ℕ → Result (List ℕ) InputFault
samples end max zero place [] = Ok []
samples end max zero place (b ∷ bs) = fault Trailing place 0
samples end max (suc k) place bytes =
    if nat_lt (length bytes) (sample_size max) then fault Truncated end 0
    else (if nat_lt max (big_endian (take (sample_size max) bytes)) then fault SampleAboveMax place (big_endian (take (sample_size max) bytes))
    else (samples end max k (place + sample_size max) (drop (sample_size max) bytes) >>= λ more. Ok (big_endian (take (sample_size max) bytes) ∷ more)))

-- what comes after the greatest value: a byte of white space and the samples
unfoldable pub pixels : ℕ → ℕ → ℕ → ℕ → ℕ → List ℕ → Result Raster InputFault
pixels end w h max place [] = fault Truncated end 0
pixels end w h max place (b ∷ bs) = do
  greys ← samples end max (w * h) (place + 1) bs
  Ok (record { width = w; height = h; max = max; samples = greys })

-- what comes after width and height, from the token of the greatest value on; a `#` doesn't end this token
unfoldable pub from_greatest : ℕ → ℕ → ℕ → Option CutToken → Result Raster InputFault
from_greatest end w h None = fault Truncated end 0
from_greatest end w h (Some t) = do
  max ← greatest t.from t.token
  pixels end w h max t.to t.rest

-- what comes after the width, from the height's token on
unfoldable pub from_height : ℕ → ℕ → Option CutToken → Result Raster InputFault
from_height end w None = fault Truncated end 0
from_height end w (Some t) = do
  h ← height w t.from t.token
  from_greatest end w h (cut false false t.to t.rest)

-- what comes after `P5`, from the width's token on
unfoldable pub from_width : ℕ → Option CutToken → Result Raster InputFault
from_width end None = fault Truncated end 0
from_width end (Some t) = do
  w ← width t.from t.token
  from_height end w (cut true false t.to t.rest)

-- The picture of bytes that begin one, or its first fault.
unfoldable pub picture : List ℕ → Result Raster InputFault
picture bytes = from_width (length bytes) (cut true false 2 (drop 2 bytes))

-- whether a byte stands behind the token
abbrev pub is_ended : CutToken → Bool
is_ended t = nat_lt 0 (length t.rest)

-- a fault settles it, and else what follows
abbrev pub settled_by : Result ℕ InputFault → (ℕ → Bool) → Bool
settled_by (Ok n) follows = follows n
settled_by (Err fault) follows = true

-- whether the ended tokens settle how much memory the samples take: the header's three, or an earlier one with a fault

unfoldable pub greatest_settles : Option CutToken → Bool
greatest_settles None = false
greatest_settles (Some t) = is_ended t

unfoldable pub height_settles : ℕ → Option CutToken → Bool
height_settles w None = false
height_settles w (Some t) = is_ended t && settled_by (height w t.from t.token) (λ h. greatest_settles (cut false false t.to t.rest))

unfoldable pub width_settles : Option CutToken → Bool
width_settles None = false
width_settles (Some t) = is_ended t && settled_by (width t.from t.token) (λ w. height_settles w (cut true false t.to t.rest))

unfoldable pub settles : List ℕ → Bool
settles bytes = width_settles (cut true false 2 (drop 2 bytes))
