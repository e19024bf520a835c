-- No fault of a picture, or of an input as a whole, is that the input is too long.
use Rattle.std.proofs.Common.{◌≡◌, ◌≢◌, ℕ, zero, suc, ◌+◌, ◌*◌, Bool, true, false, List, [], ◌∷◌, length, take, drop, Option, Some, None, subst}
use Rattle.std.specs.Prelude.{Result, Ok, Err, if◌then◌else◌, nat_lt, ◌==◌}
use Rattle.hg_base.specs.Graph.{WeightedGraph}
use Rattle.hg_base.specs.declared.fault.FaultKind.TheVariants.{BadNumber, NoVertex, SampleAboveMax, TooLarge, TooLong, Truncated}
use Rattle.hg_base.specs.declared.fault.InputFault.{InputFault}
use Rattle.input_tokens.specs.declared.token.Token.{Token}
use Rattle.input_tokens.specs.Rules.{◌>>=◌, within_limit, fault, number_read}
use Rattle.graph_reader.specs.EdgeList.{edge_list}
use Rattle.pgm_reader.specs.Pgm.{CutToken, big_endian, cut, from_greatest, from_height, from_width, greatest, height, is_picture, picture, pixels, sample_size, samples, width}
use Rattle.pgm_reader.specs.Raster.{Raster}
use Rattle.higra_input.specs.Inputs.{edges_as_input, input_of, picture_as_input, read_as}
use Rattle.higra_input.specs.declared.input.Input.{Input}
use Rattle.higra_input.proofs.EdgeListFaults.{IsShort, rule-number, short-edge_list, short-either, short-most, short-then}

short-width : (at : ℕ) (token : Token) → IsShort (width at token)
unfolding width
short-width at token = short-then (number_read at token) (λ n. if n == 0 then fault NoVertex at 0 else within_limit 1048576 at n) (rule-number at token)
    (λ n. short-either (n == 0) (fault NoVertex at 0) (within_limit 1048576 at n) (λ e. cc) (short-most 1048576 at n))

short-height : (w at : ℕ) (token : Token) → IsShort (height w at token)
unfolding height
short-height w at token =
    let many : ℕ → Result ℕ InputFault = λ n. if nat_lt 1048576 (w * n) then fault TooLarge at (w * n) else Ok n in
    short-then (number_read at token) (λ n. if n == 0 then fault NoVertex at 0 else many n) (rule-number at token)
    (λ n. short-either (n == 0) (fault NoVertex at 0) (many n) (λ e. cc) (short-either (nat_lt 1048576 (w * n)) (fault TooLarge at (w * n)) (Ok n) (λ e. cc) tt))

short-greatest : (at : ℕ) (token : Token) → IsShort (greatest at token)
unfolding greatest
short-greatest at token = short-then (number_read at token) (λ n. if n == 0 then fault BadNumber at 0 else within_limit 65535 at n) (rule-number at token)
    (λ n. short-either (n == 0) (fault BadNumber at 0) (within_limit 65535 at n) (λ e. cc) (short-most 65535 at n))

short-samples : (end max k place : ℕ) (bytes : List ℕ) → IsShort (samples end max k place bytes)
unfolding samples
short-samples end max zero place [] = tt
short-samples end max zero place (b ∷ bs) = λ e. cc
short-samples end max (suc k) place bytes =
    let grey = big_endian (take (sample_size max) bytes) in
    let rest = samples end max k (place + sample_size max) (drop (sample_size max) bytes) in
    let more : Result (List ℕ) InputFault = rest >>= λ greys. Ok (grey ∷ greys) in
    let low : Result (List ℕ) InputFault = if nat_lt max grey then fault SampleAboveMax place grey else more in
    short-either (nat_lt (length bytes) (sample_size max)) (fault Truncated end 0) low (λ e. cc)
    (short-either (nat_lt max grey) (fault SampleAboveMax place grey) more (λ e. cc)
    (short-then rest (λ greys. Ok (grey ∷ greys)) (short-samples end max k (place + sample_size max) (drop (sample_size max) bytes)) (λ greys. tt)))

short-pixels : (end w h max place : ℕ) (bytes : List ℕ) → IsShort (pixels end w h max place bytes)
unfolding pixels
short-pixels end w h max place [] = λ e. cc
short-pixels end w h max place (b ∷ bs) =
    let drawn : List ℕ → Result Raster InputFault = λ greys. Ok (record { width = w; height = h; max = max; samples = greys }) in
    short-then (samples end max (w * h) (place + 1) bs) drawn (short-samples end max (w * h) (place + 1) bs) (λ greys. tt)

short-from_greatest : (end w h : ℕ) (token : Option CutToken) → IsShort (from_greatest end w h token)
unfolding from_greatest
short-from_greatest end w h None = λ e. cc
short-from_greatest end w h (Some t) = short-then (greatest t.from t.token) (λ max. pixels end w h max t.to t.rest) (short-greatest t.from t.token) (λ max. short-pixels end w h max t.to t.rest)

short-from_height : (end w : ℕ) (token : Option CutToken) → IsShort (from_height end w token)
unfolding from_height
short-from_height end w None = λ e. cc
short-from_height end w (Some t) = short-then (height w t.from t.token) (λ h. from_greatest end w h (cut false false t.to t.rest)) (short-height w t.from t.token)
    (λ h. short-from_greatest end w h (cut false false t.to t.rest))

short-from_width : (end : ℕ) (token : Option CutToken) → IsShort (from_width end token)
unfolding from_width
short-from_width end None = λ e. cc
short-from_width end (Some t) = short-then (width t.from t.token) (λ w. from_height end w (cut true false t.to t.rest)) (short-width t.from t.token)
    (λ w. short-from_height end w (cut true false t.to t.rest))

short-picture : (bytes : List ℕ) → IsShort (picture bytes)
unfolding picture
short-picture bytes = short-from_width (length bytes) (cut true false 2 (drop 2 bytes))

-- so none of an input is
picture-short : (r : Result Raster InputFault) → IsShort r → IsShort (picture_as_input r)
picture-short (Ok x) h = tt
picture-short (Err f) h = h

edges-short : (r : Result WeightedGraph InputFault) → IsShort r → IsShort (edges_as_input r)
edges-short (Ok x) h = tt
edges-short (Err f) h = h

short-read : (b : Bool) (bytes : List ℕ) → IsShort (read_as b bytes)
unfolding read_as
short-read true bytes = picture-short (picture bytes) (short-picture bytes)
short-read false bytes = edges-short (edge_list bytes) (short-edge_list bytes)

pub input-other : (bytes : List ℕ) (f : InputFault) → input_of bytes ≡ Err f → f.kind ≢ TooLong
input-other bytes f is = subst (λ (r : Result Input InputFault). IsShort r) is (short-read (is_picture bytes) bytes)
