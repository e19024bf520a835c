-- What the bytes that a source gave say of the bytes that it had.
use Rattle.std.proofs.Common.{◌≡◌, ℕ, ◌+◌, ◌-◌, ◌<◌, ◌≤◌, Bool, List, [], ◌∷◌, ◌++◌, length, take, drop, Option, Some, None, Result, Ok, Err, inl, inr, refl, sym, ap, ◌∙◌, subst, arith, append-nil, append_assoc, length-append}
use Rattle.std.proofs.lemmas.Grind.{common_steps}
use Rattle.std.proofs.lemmas.List.{length-take-le, length-drop, take-append-le}
use Rattle.std.proofs.Math.Seq.{take-append-add}
use borrow.Rule.Slice.PartMut.{put_mid, post_of, same_len_mid}
use Rattle.std.proofs.KnownBytes.{Consumes-nil, Consumes-trans}
use Rattle.std.specs.Io.KnownBytes.{Consumes, IsAtEnd}
use Rattle.hg_base.specs.Outside.{Rose}
use Rattle.hg_base.specs.declared.fault.InputFault.{InputFault}
use Rattle.hg_base.specs.declared.fault.ReadError.{ReadError}
use Rattle.hg_base.specs.declared.fault.ReadError.TheVariants as errors
use Rattle.pgm_reader.specs.Pgm.{is_picture}
use Rattle.higra_input.proofs.PictureFaults.{input-other}
use Rattle.higra_input.specs.Feeding.{EndsDecoding, GaveToOneMore, HasBegun, HasFed, HasFedAll, HasRead, HasReadAll, ReadsOn, StopsFeeding, reads_picture, taken}
use Rattle.higra_input.specs.Inputs.{input_of, read_as, read_of, too_long}
use Rattle.higra_input.specs.Reading.{Told, AreRead, EndsReading, GaveAll, GaveAtMost, GaveTooMuch, StopsReading, read_fault}
use Rattle.higra_input.specs.declared.decoding.InputDecoder.{InputDecoder}
use Rattle.higra_input.specs.declared.input.Input.{Input}
use Rattle.higra_input.specs.declared.fault.ReadFault.{ReadFault}
use Rattle.higra_input.specs.declared.fault.ReadFault.TheVariants as faults

-- the bytes of an input that isn't too long are read
pub read-short : (bytes : List ℕ) → length bytes ≤ 134217728 → read_of bytes ≡ input_of bytes
unfolding read_of
read-short bytes h = grind (arith, common_steps)

-- an input of more bytes is too long
pub read-long : (bytes : List ℕ) → 134217728 < length bytes → read_of bytes ≡ Err too_long
unfolding read_of
read-long bytes h = grind (arith, common_steps)

-- three bytes tell the form
pub form-settled : (first more : List ℕ) → 3 ≤ length first → is_picture (first ++ more) ≡ is_picture first
unfolding is_picture
form-settled [] more h = absurd (omega (arith, h))
form-settled (a ∷ []) more h = absurd (omega (arith, h))
form-settled (a ∷ b ∷ []) more h = absurd (omega (arith, h))
form-settled (a ∷ b ∷ c ∷ rest) more h = refl

-- a source that is at its end gave all that it had
pub gave_all : (old new : Option (List ℕ)) (bytes all : List ℕ) → Consumes old new bytes → IsAtEnd new → old ≡ Some all → all ≡ bytes
gave_all None new bytes all gave ended is = cc
gave_all (Some xs) None bytes all gave ended is = absurd gave
gave_all (Some xs) (Some ys) bytes all gave ended is =
    let same : xs ≡ all = cc in
    sym same ∙ gave ∙ ap (λ rest. bytes ++ rest) ended ∙ append-nil bytes

-- a source had at least as many bytes as it gave
pub gave_some : (old new : Option (List ℕ)) (bytes all : List ℕ) → Consumes old new bytes → old ≡ Some all → length bytes ≤ length all
gave_some None new bytes all gave is = cc
gave_some (Some xs) None bytes all gave is = absurd gave
gave_some (Some xs) (Some ys) bytes all gave is =
    let same : all ≡ bytes ++ ys = cc in
    omega (arith, ap length same, length-append bytes ys)

-- a source that tells its bytes gave one number of them
pub gave_once : (old new : Option (List ℕ)) (had a b : List ℕ) → old ≡ Some had → Consumes old new a → Consumes old new b → length a ≡ length b
gave_once None new had a b is first second = cc
gave_once (Some xs) None had a b is first second = absurd first
gave_once (Some xs) (Some ys) had a b is first second =
    omega (arith, ap length (sym first ∙ second), length-append a ys, length-append b ys)

-- and none where it is untouched
pub gave_nothing : (old new : Option (List ℕ)) (had a : List ℕ) → old ≡ Some had → new ≡ old → Consumes old new a → length a ≡ 0
gave_nothing old new had a is same gave = gave_once old new had a [] is gave (subst (λ (o : Option (List ℕ)). Consumes old o []) (sym same) (Consumes-nil old))

-- what the bytes of a source give that was read to its end
pub AreRead-all : (old new : Option (List ℕ)) (bytes : List ℕ) (read : Result Input InputFault) → GaveAll old new bytes → input_of bytes ≡ read → AreRead old read
AreRead-all old new bytes read all is had told =
    ap read_of (gave_all old new bytes had all.gave all.ended told) ∙ read-short bytes all.short ∙ is

-- and of one that gave one byte more than an input may have
pub AreRead-long : (old new : Option (List ℕ)) (bytes : List ℕ) → GaveTooMuch old new bytes → AreRead old (Err too_long)
AreRead-long old new bytes much had told =
    let some : length bytes ≤ length had = gave_some old new bytes had much.gave told in
    read-long had (omega (arith, much.long, some))

-- the bytes so far, and a piece that makes one byte too many
pub one_more : (old middle new : Option (List ℕ)) (before after : ℕ) (more buffer : List ℕ) (count : ℕ) → Consumes old middle more → Consumes middle new (take count buffer) → count ≤ length buffer
    → after ≡ before + length more → after + count ≡ 134217729 → (all : List ℕ) × (Consumes old new all × (before + length all ≡ 134217729))
one_more old middle new before after more buffer count so_far here within fed long =
    let piece : length (take count buffer) ≡ count = grind (arith, common_steps) in
    let sum : before + length (more ++ take count buffer) ≡ 134217729 = omega (arith, length-append more (take count buffer), piece, fed, long) in
    (more ++ take count buffer, (Consumes-trans old middle new more (take count buffer) so_far here, sum))

-- a buffer whose first bytes stay and behind them others are written
pub front_more : (count more : ℕ) (buffer into : List ℕ) → count ≤ length buffer → more ≤ length into → take (count + more) (put_mid count (length buffer - count) buffer into) ≡ take count buffer ++ take more into
front_more count more buffer into h k =
    ap (λ (n : ℕ). take (n + more) (put_mid count (length buffer - count) buffer into)) (sym (length-take-le count buffer h))
    ∙ take-append-add (take count buffer) (into ++ post_of count (length buffer - count) buffer) more
    ∙ ap (λ (bytes : List ℕ). take count buffer ++ bytes) (take-append-le more into (post_of count (length buffer - count) buffer) k)

-- the bytes at the front of the buffer, and those of one more read
pub first_more : (old middle new : Option (List ℕ)) (count more : ℕ) (buffer into : List ℕ) → count ≤ length buffer → more ≤ length into → Consumes old middle (take count buffer) → Consumes middle new (take more into)
    → Consumes old new (take (count + more) (put_mid count (length buffer - count) buffer into))
first_more old middle new count more buffer into h k so_far here =
    subst (λ (bytes : List ℕ). Consumes old new bytes) (sym (front_more count more buffer into h k)) (Consumes-trans old middle new (take count buffer) (take more into) so_far here)

-- the buffer keeps its length
pub length-front : (count : ℕ) (buffer into : List ℕ) → count ≤ length buffer → length into ≡ length buffer - count → length (put_mid count (length buffer - count) buffer into) ≡ length buffer
length-front count buffer into h long =
    same_len_mid count (length buffer - count) buffer into (long ∙ sym (length-take-le (length buffer - count) (drop count buffer) (omega (arith, length-drop count buffer))))

-- the bytes so far, and a piece through which the decoder read on
pub fed_more : (old middle new : Told) (before between after : InputDecoder) (more buffer : List ℕ) (count : ℕ) → HasFed old middle before between more → Consumes middle.bytes new.bytes (take count buffer)
    → ReadsOn between after (take count buffer) → count ≤ length buffer → taken between + count ≤ 134217728 → new.faults ≡ middle.faults → (all : List ℕ) × HasFed old new before after all
fed_more old middle new before between after more buffer count fed here on within short quiet =
    let piece : length (take count buffer) ≡ count = length-take-le count buffer within in
    let whole : ReadsOn before after (more ++ take count buffer) = record {
      form = on.form ∙ fed.on.form;
      taken = omega (arith, on.taken, fed.on.taken, length-append more (take count buffer));
      read = λ bytes h. subst (λ (bs : List ℕ). HasRead after bs) (append_assoc bytes more (take count buffer)) (on.read (bytes ++ more) (fed.on.read bytes h));
    } in (
      more ++ take count buffer,
      record {
        gave = Consumes-trans old.bytes middle.bytes new.bytes more (take count buffer) fed.gave here;
        on = whole;
        short = omega (arith, on.taken, piece, short);
        quiet = quiet ∙ fed.quiet;
      },
    )

-- all that the source gave, where the piece isn't too long
pub fed_most : (old middle new : Told) (before between : InputDecoder) (more buffer : List ℕ) (count : ℕ) → HasFed old middle before between more → Consumes middle.bytes new.bytes (take count buffer)
    → count ≤ length buffer → taken between + count ≤ 134217729 → GaveToOneMore old new before
fed_most old middle new before between more buffer count fed here within short =
    let piece : length (take count buffer) ≡ count = length-take-le count buffer within in
    (more ++ take count buffer, (Consumes-trans old.bytes middle.bytes new.bytes more (take count buffer) fed.gave here, omega (arith, length-append more (take count buffer), piece, fed.on.taken, short)))

-- what ended the feeding ended the reading
pub StopsReading-fed : (old middle new : Told) (first : List ℕ) (before : InputDecoder) (fault : ReadFault) → HasBegun old middle first → taken before ≡ length first → StopsFeeding middle new before fault → StopsReading old new fault
StopsReading-fed old middle new first before (faults.Input fault) begun fed stopped =
    let more = stopped.1.1 in
    let much : GaveTooMuch old.bytes new.bytes (first ++ more.0) = record {
      gave = Consumes-trans old.bytes middle.bytes new.bytes first more.0 begun.gave more.1.0;
      long = length-append first more.0 ∙ ap (λ n. n + length more.0) (sym fed) ∙ more.1.1;
    } in
    (stopped.1.0 ∙ begun.quiet, subst (λ (f : InputFault). AreRead old.bytes (Err f)) (sym stopped.0) (AreRead-long old.bytes new.bytes (first ++ more.0) much), inl (stopped.0, (first ++ more.0, much)))
StopsReading-fed old middle new first before faults.ReadFailed begun fed stopped = subst (λ (n : ℕ). Rose n new.faults) begun.quiet stopped
StopsReading-fed old middle new first before faults.OutOfMemory begun fed stopped = tt

-- a source of fewer than three bytes
pub HasReadAll-first : (old new : Told) (first : List ℕ) (fresh d : InputDecoder) → HasBegun old new first → length first < 3
    → HasRead fresh [] → reads_picture fresh ≡ is_picture first → ReadsOn fresh d first → HasReadAll old new d
HasReadAll-first old new first fresh d begun few none form on = record {
  bytes = first;
  all = record { gave = begun.gave; ended = begun.all few; short = omega (arith, begun.short) };
  read = on.read [] none;
  form = on.form ∙ form;
  quiet = begun.quiet;
}

-- a source of three bytes or more
pub HasReadAll-fed : (old middle new : Told) (first : List ℕ) (fresh before after : InputDecoder) → HasBegun old middle first → 3 ≤ length first
    → HasRead fresh [] → taken fresh ≡ 0 → reads_picture fresh ≡ is_picture first → ReadsOn fresh before first → HasFedAll middle new before after → HasReadAll old new after
HasReadAll-fed old middle new first fresh before after begun some none zero form on fed =
    let more = fed.0 in
    let had = fed.1.0 in
    record {
      bytes = first ++ more;
      all = record {
        gave = Consumes-trans old.bytes middle.bytes new.bytes first more begun.gave had.gave;
        ended = fed.1.1;
        short = omega (arith, length-append first more, had.on.taken, had.short, on.taken, zero);
      };
      read = had.on.read first (on.read [] none);
      form = had.on.form ∙ on.form ∙ form ∙ sym (form-settled first more some);
      quiet = had.quiet ∙ begun.quiet;
    }

-- what a decoder of this form answers about the bytes that it has read
abbrev pub Decodes : InputDecoder → Result Input ReadError → Type 0
Decodes d result = (bytes : List ℕ) → HasRead d bytes → EndsDecoding (read_as (reads_picture d) bytes) result

Decodes-all : (old new : Told) (d : InputDecoder) (result : Result Input ReadError) (read : HasReadAll old new d) → Decodes d result → EndsDecoding (input_of read.bytes) result
Decodes-all old new d result read decodes = subst (λ (b : Bool). EndsDecoding (read_as b read.bytes) result) read.form (decodes read.bytes read.read)

-- what couldn't be decoded ended the reading
StopsReading-decoded : (old new : Told) (d : InputDecoder) (error : ReadError) → HasReadAll old new d → Decodes d (Err error) → StopsReading old new (read_fault error)
StopsReading-decoded old new d (errors.Fault fault) read decodes =
    let found : input_of read.bytes ≡ Err fault = Decodes-all old new d (Err (errors.Fault fault)) read decodes in
    (read.quiet, AreRead-all old.bytes new.bytes read.bytes (Err fault) read.all found, inr (input-other read.bytes fault found, (read.bytes, read.all)))
StopsReading-decoded old new d errors.OutOfMemory read decodes = tt

pub EndsReading-refused : (old new : Told) (d : InputDecoder) (error : ReadError) (fault : ReadFault) → HasReadAll old new d → Decodes d (Err error) → fault ≡ read_fault error → EndsReading old new (Err fault)
EndsReading-refused old new d error fault read decodes is = subst (λ (f : ReadFault). StopsReading old new f) (sym is) (StopsReading-decoded old new d error read decodes)

-- a source gave no more than its first bytes
pub most_from_first : (old new : Option (List ℕ)) → GaveAtMost 65536 old new → GaveAtMost 134217729 old new
most_from_first old new gave = (gave.0, (gave.1.0, omega (arith, gave.1.1)))

-- or the bytes that were fed behind them
pub most_from_fed : (old middle new : Told) (first : List ℕ) (before : InputDecoder) → HasBegun old middle first → taken before ≡ length first → GaveToOneMore middle new before → GaveAtMost 134217729 old.bytes new.bytes
most_from_fed old middle new first before begun fed gave =
    (first ++ gave.0, (Consumes-trans old.bytes middle.bytes new.bytes first gave.0 begun.gave gave.1.0, omega (arith, length-append first gave.0, fed, gave.1.1)))
