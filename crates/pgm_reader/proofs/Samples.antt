-- One sample more.
use Rattle.std.proofs.Common.{◌≡◌, ℕ, suc, ◌+◌, ◌-◌, ◌*◌, ◌<◌, Bool, true, false, List, [], ◌∷◌, ◌++◌, length, refl, arith, append_assoc, length-append, zero-add}
use Rattle.std.specs.Prelude.{nat_lt, if◌then◌else◌, Result, Ok, Err}
use Rattle.hg_base.specs.declared.fault.FaultKind.TheVariants.{SampleAboveMax, Trailing}
use Rattle.hg_base.specs.declared.fault.InputFault.{InputFault}
use Rattle.input_tokens.specs.Rules.{◌>>=◌, fault}
use Rattle.pgm_reader.specs.Raster.{Raster}
use Rattle.pgm_reader.specs.Pgm.{samples}
use Rattle.pgm_reader.specs.Parsing.{Parsing, from_samples, with_sample, with_samples}

-- a sample that begins at this place, and those after it
abbrev pub judged : ℕ → ℕ → ℕ → ℕ → ℕ → ℕ → List ℕ → Result (List ℕ) InputFault
judged end max k place s next rest = if nat_lt max s then fault SampleAboveMax place s else (samples end max k next rest >>= λ more. Ok (s ∷ more))

some-left : (n : ℕ) → nat_lt (suc n) 1 ≡ false
some-left n = grind arith

two-left : (n : ℕ) → nat_lt (suc (suc n)) 2 ≡ false
two-left n = grind arith

pub samples-one : (end max k place b : ℕ) (rest : List ℕ) → nat_lt max 256 ≡ true → samples end max (suc k) place (b ∷ rest) ≡ judged end max k place b (place + 1) rest
unfolding samples
samples-one end max k place b rest h = rw (h, some-left (length rest), zero-add) refl

pub samples-two : (end max k place high low : ℕ) (rest : List ℕ) → nat_lt max 256 ≡ false → samples end max (suc k) place (high ∷ low ∷ rest) ≡ judged end max k place (high * 256 + low) (place + 2) rest
unfolding samples
samples-two end max k place high low rest h = rw (h, two-left (length rest), zero-add) refl

-- where a sample is taken: a fault, or the samples after it
abbrev one_taken : Parsing → ℕ → ℕ → ℕ → ℕ → List ℕ → Result Raster InputFault
one_taken p end place s next rest = if nat_lt p.max s then fault SampleAboveMax place s else from_samples (with_sample p s) end next rest

kept : (p : Parsing) (s : ℕ) (r : Result (List ℕ) InputFault) → (r >>= λ more. Ok (with_samples (with_sample p s) more)) ≡ ((r >>= λ more. Ok (s ∷ more)) >>= λ more. Ok (with_samples p more))
kept p s (Ok more) = rw append_assoc refl
kept p s (Err f) = refl

judged-kept : (above : Bool) (p : Parsing) (place s : ℕ) (r : Result (List ℕ) InputFault)
    → (if above then fault {A = Raster} SampleAboveMax place s else (r >>= λ more. Ok (with_samples (with_sample p s) more)))
    ≡ ((if above then fault {A = List ℕ} SampleAboveMax place s else (r >>= λ more. Ok (s ∷ more))) >>= λ more. Ok (with_samples p more))
judged-kept true p place s r = refl
judged-kept false p place s r = kept p s r

left : (n k : ℕ) → k < n → n - k ≡ suc (n - (k + 1))
left n k h = omega arith

length-more : (xs : List ℕ) (x : ℕ) → length (xs ++ x ∷ []) ≡ length xs + 1
length-more xs x = rw length-append refl

-- a sample of one byte
pub one-byte : (p : Parsing) (end place b : ℕ) (rest : List ℕ) → length p.samples < p.width * p.height → nat_lt p.max 256 ≡ true
    → one_taken p end place b (place + 1) rest ≡ from_samples p end place (b ∷ rest)
unfolding from_samples
one-byte p end place b rest h small =
    let k = p.width * p.height - (length p.samples + 1) in
    rw (length-more p.samples b, left (p.width * p.height) (length p.samples) h, samples-one end p.max k place b rest small)
    (judged-kept (nat_lt p.max b) p place b (samples end p.max k (place + 1) rest))

-- a sample of two bytes
pub two-bytes : (p : Parsing) (end place high low : ℕ) (rest : List ℕ) → length p.samples < p.width * p.height → nat_lt p.max 256 ≡ false
    → one_taken p end place (high * 256 + low) (place + 2) rest ≡ from_samples p end place (high ∷ low ∷ rest)
unfolding from_samples
two-bytes p end place high low rest h large =
    let k = p.width * p.height - (length p.samples + 1) in
    rw (length-more p.samples (high * 256 + low), left (p.width * p.height) (length p.samples) h, samples-two end p.max k place high low rest large)
    (judged-kept (nat_lt p.max (high * 256 + low)) p place (high * 256 + low) (samples end p.max k (place + 2) rest))

-- no sample is left
pub none-left : (p : Parsing) (end place b : ℕ) (rest : List ℕ) → length p.samples ≡ p.width * p.height → from_samples p end place (b ∷ rest) ≡ fault Trailing place 0
unfolding from_samples samples
none-left p end place b rest h = let e : p.width * p.height - length p.samples ≡ 0 = omega (arith, h) in rw e refl
