-- What the ends of a run come to.
use Rattle.std.proofs.Common.{◌≡◌, ◌≢◌, ◌⊎◌, inl, inr, ℕ, List, Option, Some, None, Ok, Err, refl, sym, ap, ◌∙◌, subst, arith}
use Rattle.std.specs.Io.KnownBytes.{Appends}
use Rattle.hg_base.specs.Outside.{AppendsPrefix}
use Rattle.hg_base.specs.declared.fault.FaultKind.TheVariants.{TooLong}
use Rattle.hg_base.specs.declared.fault.InputFault.{InputFault}
use Rattle.merge_board.specs.Seats.{ReceiptState}
use Rattle.higra_words.specs.declared.request.Made.{Made}
use Rattle.higra_input.proofs.GettingLemmas.{TookBy-got, TookBy-stopped, got_short, input_for-got, risen, took_long}
use Rattle.higra_input.proofs.ReadingLemmas.{gave_nothing}
use Rattle.higra_input.specs.Getting.{AreBytesOf, GotInput, StoodStill, StopsGetting, TookBy}
use Rattle.higra_input.specs.Inputs.{input_graph, input_for, too_long}
use Rattle.higra_input.specs.Reading.{GaveTooMuch, Told}
use Rattle.higra_input.specs.declared.fault.ReadFault.{ReadFault}
use Rattle.higra_input.specs.declared.fault.ReadFault.TheVariants as reads
use Rattle.higra_input.specs.declared.input.Input.{Input}
use Rattle.higra_input.specs.declared.input.Input.TheVariants.{Edges, Picture}
use Rattle.higra_report.proofs.RefusalLemmas.{IsOther, other-tiles}
use Rattle.higra_report.specs.Reports.{input_plan}
use Rattle.higra_report.specs.Theorems.{IsHierarchy}
use Rattle.higra_report.specs.declared.fault.ReportFault.{ReportFault}
use Rattle.higra_report.specs.declared.fault.ReportFault.TheVariants as refusals
use Rattle.higra_cli.specs.Ending.{status_of_read, status_of_write}
use Rattle.higra_cli.specs.Running.{status_by}
use Rattle.higra_cli.specs.declared.fault.WriteFault.{WriteFault}
use Rattle.higra_cli.specs.declared.fault.WriteFault.TheVariants as writes
use Rattle.higra_cli.specs.declared.status.Status.{Status}
use Rattle.higra_cli.specs.declared.status.Status.TheVariants as statuses
use Rattle.tile_plan.specs.Plan.{tile_count}
use Rattle.contour_run.specs.Command.{contours_requested}
use Rattle.contour_run.specs.Drawing.{AreContoursOf, AreDrawn, contours_receipt, contours_refusal}
use Rattle.contour_run.specs.Running.{Draws, DrawsWith, Ends, EndsWriting, HasStatus, IsAnswerTo, IsFor, Writes, answer_of, status_for}
use Rattle.contour_run.specs.declared.request.ContourRequest.{ContourRequest}

-- the status of a request that got its input is that of the input
IsFor-got : (request : ContourRequest) (old new : Option (List ℕ)) (input : Input) → GotInput request.made old new input → IsFor request old (status_by (contours_receipt request input) (contours_refusal request.tile input))
unfolding answer_of
IsFor-got request old new input got bytes are = ap (status_for request) (input_for-got request.made old new input got bytes are)

-- a fault of what was read is the status
IsFor-stopped : (request : ContourRequest) (m : Option Made) (old new : Told) (fault : InputFault) → request.made ≡ m → StopsGetting m old new (reads.Input fault) → IsFor request old.bytes (statuses.Input fault)
unfolding answer_of
IsFor-stopped request (Some m) old new fault is stopped bytes are = cc
IsFor-stopped request None old new fault is stopped bytes are =
    let none : AreBytesOf None old.bytes bytes = subst (λ (o : Option Made). AreBytesOf o old.bytes bytes) is are in
    ap (λ (o : Option Made). status_for request (input_for o bytes)) is ∙ ap (status_for request) (stopped.1 bytes none)

-- what ended the getting of the input ends the run
Ends-by : (words : List (List ℕ)) (request : ContourRequest) (m : Option Made) (old new out : Told) (fault : ReadFault) → contours_requested words ≡ Some request → request.made ≡ m → StopsGetting m old new fault → Ends words old new out out (status_of_read fault)
Ends-by words request (Some m) old new out fault asked is stopped = subst (λ (f : ReadFault). Ends words old new out out (status_of_read f)) (sym stopped) refl
Ends-by words request None old new out (reads.Input fault) asked is stopped =
    let took : TookBy request.made fault old.bytes new.bytes = subst (λ (m : Option Made). TookBy m fault old.bytes new.bytes) (sym is) (TookBy-stopped None old new fault stopped) in
    ((request, (asked, IsFor-stopped request None old new fault is stopped)), (request, (asked, took)), stopped.0, refl)
Ends-by words request None old new out reads.ReadFailed asked is stopped = ((request, asked), stopped, refl)
Ends-by words request None old new out reads.OutOfMemory asked is stopped = refl

pub Ends-stopped : (words : List (List ℕ)) (request : ContourRequest) (old new out : Told) (fault : ReadFault) (status : Status) → status ≡ status_of_read fault → contours_requested words ≡ Some request → StopsGetting request.made old new fault → Ends words old new out out status
Ends-stopped words request old new out fault status is asked stopped =
    subst (λ (s : Status). Ends words old new out out s) (sym is) (Ends-by words request request.made old new out fault asked refl stopped)

-- no reason for which contours are refused is that the input is too long
refusal-other : (tile : ℕ) (input : Input) → IsOther (contours_refusal tile input)
refusal-other tile (Edges graph) = λ e. cc
refusal-other tile (Picture raster) = other-tiles (tile_count (input_plan tile (Picture raster)))

refused-other : (tile : ℕ) (input : Input) (fault : InputFault) → contours_refusal tile input ≡ Some fault → fault.kind ≢ TooLong
refused-other tile input fault is = subst IsOther is (refusal-other tile input)

-- the input is accepted
HasStatus-success : (words : List (List ℕ)) (request : ContourRequest) (input : Input) (old new : Option (List ℕ)) → contours_requested words ≡ Some request → GotInput request.made old new input → contours_refusal request.tile input ≡ None
    → HasStatus words old (statuses.Success (contours_receipt request input))
HasStatus-success words request input old new asked got accepted =
    (request, (asked, subst (λ (o : Option InputFault). IsFor request old (status_by (contours_receipt request input) o)) accepted (IsFor-got request old new input got)))

-- and something was done with its contours
Draws-done : (words : List (List ℕ)) (request : ContourRequest) (input : Input) (old new : Option (List ℕ)) (Done : List ℕ → Type 0) → contours_requested words ≡ Some request → GotInput request.made old new input → Writes request input Done → Draws words old new Done
Draws-done words request input old new Done asked got writes = record { request = request; asked = asked; input = input; got = got; writes = writes }

-- something was done with the bytes of contours
pub contours_written : (request : ContourRequest) (input : Input) (Done : List ℕ → Type 0) (drawn bytes : List ℕ) → contours_refusal request.tile input ≡ None → AreContoursOf request.kind input drawn → bytes ≡ drawn → Done bytes
    → IsHierarchy (input_graph input) → Writes request input Done
contours_written request input Done drawn bytes accepted contours are done hierarchy =
    record { accepted = accepted; bytes = drawn; contours = contours; done = subst Done are done; hierarchy = hierarchy }

-- where no contours were drawn, none were written
pub none_drawn : (request : ContourRequest) (input : Input) (out out' : Told) (fault : ReportFault) → AreDrawn request input (Err fault) → out'.faults ≡ out.faults → EndsWriting request input out out' (Err (writes.Report fault))
none_drawn request input out out' (refusals.Input fault) is quiet = (is, quiet)
none_drawn request input out out' refusals.OutOfMemory is quiet = quiet

-- the contours were written
pub Ends-written : (words : List (List ℕ)) (request : ContourRequest) (input : Input) (old new out out' : Told) (receipt : ReceiptState) → contours_requested words ≡ Some request → new.faults ≡ old.faults → GotInput request.made old.bytes new.bytes input
    → EndsWriting request input out out' (Ok receipt) → Ends words old new out out' (statuses.Success receipt)
unfolding Draws-done
Ends-written words request input old new out out' receipt asked quiet got ends = (
  subst (λ (r : ReceiptState). HasStatus words old.bytes (statuses.Success r)) (sym ends.1) (HasStatus-success words request input old.bytes new.bytes asked got ends.0.accepted),
  (Draws-done words request input old.bytes new.bytes (Appends out.bytes out'.bytes) asked got ends.0, ends.1),
  quiet,
  ends.2,
)

-- or they weren't
Ends-failed : (words : List (List ℕ)) (request : ContourRequest) (input : Input) (old new out out' : Told) (fault : WriteFault) → contours_requested words ≡ Some request → new.faults ≡ old.faults → GotInput request.made old.bytes new.bytes input
    → EndsWriting request input out out' (Err fault) → Ends words old new out out' (status_of_write fault)
Ends-failed words request input old new out out' writes.WriteFailed asked quiet got ends =
    ((contours_receipt request input, HasStatus-success words request input old.bytes new.bytes asked got ends.0.accepted), Draws-done words request input old.bytes new.bytes (AppendsPrefix out.bytes out'.bytes) asked got ends.0, quiet, ends.1)
Ends-failed words request input old new out out' (writes.Report (refusals.Input fault)) asked quiet got ends =
    ((request, (asked, subst (λ (o : Option InputFault). IsFor request old.bytes (status_by (contours_receipt request input) o)) ends.0 (IsFor-got request old.bytes new.bytes input got))), (request, (asked, TookBy-got request.made old.bytes new.bytes input fault got (refused-other request.tile input fault ends.0))), quiet, ends.1)
Ends-failed words request input old new out out' (writes.Report refusals.OutOfMemory) asked quiet got ends = ends

pub Ends-unwritten : (words : List (List ℕ)) (request : ContourRequest) (input : Input) (old new out out' : Told) (fault : WriteFault) (status : Status) → status ≡ status_of_write fault → contours_requested words ≡ Some request → new.faults ≡ old.faults → GotInput request.made old.bytes new.bytes input
    → EndsWriting request input out out' (Err fault) → Ends words old new out out' status
Ends-unwritten words request input old new out out' fault status is asked quiet got ends =
    subst (λ (s : Status). Ends words old new out out' s) (sym is) (Ends-failed words request input old new out out' fault asked quiet got ends)

-- a success has one receipt
pub with_receipt : (words : List (List ℕ)) (old new : Option (List ℕ)) (Done : List ℕ → Type 0) (a b : ReceiptState) → statuses.Success a ≡ statuses.Success b → DrawsWith words old new Done a → DrawsWith words old new Done b
with_receipt words old new Done a b same draws = let one : a ≡ b = cc in subst (λ (r : ReceiptState). DrawsWith words old new Done r) one draws

-- the words give one request
one_request : (words : List (List ℕ)) (a b : ContourRequest) → contours_requested words ≡ Some a → contours_requested words ≡ Some b → a ≡ b
one_request words a b first second = cc

pub made_of_one : (words : List (List ℕ)) (a b : ContourRequest) (m : Made) → contours_requested words ≡ Some a → contours_requested words ≡ Some b → b.made ≡ Some m → a.made ≡ Some m
made_of_one words a b m first second is = ap (λ (r : ContourRequest). r.made) (one_request words a b first second) ∙ is

-- the status of a request whose source has these bytes
status-is : (words : List (List ℕ)) (left : Option (List ℕ)) (status : Status) (request : ContourRequest) (bytes : List ℕ) → HasStatus words left status → contours_requested words ≡ Some request → AreBytesOf request.made left bytes → status ≡ answer_of request bytes
status-is words left status request bytes has asked are =
    let same : has.0 ≡ request = one_request words has.0 request has.1.0 asked in
    sym (subst (λ (r : ContourRequest). IsFor r left status) same has.1.1 bytes are)

-- where no read fails, the status is that one, unless memory ran out or the contours weren't written
pub complete_from : (words : List (List ℕ)) (request : ContourRequest) (bytes : List ℕ) (old new out out' : Told) (status : Status) → Ends words old new out out' status → contours_requested words ≡ Some request
    → AreBytesOf request.made old.bytes bytes → StoodStill old.faults new.faults → IsAnswerTo request bytes status
complete_from words request bytes old new out out' (statuses.Success receipt) ends asked are still = inl (status-is words old.bytes (statuses.Success receipt) request bytes ends.0 asked are)
complete_from words request bytes old new out out' (statuses.Input fault) ends asked are still = inl (status-is words old.bytes (statuses.Input fault) request bytes ends.0 asked are)
complete_from words request bytes old new out out' statuses.WriteFailed ends asked are still = inr (inr (refl, (ends.0.0, sym (status-is words old.bytes (statuses.Success ends.0.0) request bytes ends.0.1 asked are))))
complete_from words request bytes old new out out' statuses.OutOfMemory ends asked are still = inr (inl refl)
complete_from words request bytes old new out out' statuses.Usage ends asked are still = cc
complete_from words request bytes old new out out' statuses.ReadFailed ends asked are still = absurd (risen old.faults new.faults still ends.1)

-- where a source that tells its bytes gave one more than an input may have, and no read failed, the input is too long, or memory ran out
pub too_long_from : (words : List (List ℕ)) (had bytes : List ℕ) (old new out out' : Told) (status : Status) → Ends words old new out out' status → (status ≡ statuses.Usage → new.bytes ≡ old.bytes)
    → old.bytes ≡ Some had → GaveTooMuch old.bytes new.bytes bytes → StoodStill old.faults new.faults → (status ≡ statuses.Input too_long) ⊎ (status ≡ statuses.OutOfMemory)
too_long_from words had bytes old new out out' (statuses.Success receipt) ends unread is much still = absurd (got_short ends.1.0.request.made old.bytes new.bytes ends.1.0.input had bytes ends.1.0.got is much)
too_long_from words had bytes old new out out' (statuses.Input fault) ends unread is much still =
    inl (ap (λ (f : InputFault). statuses.Input f) (took_long ends.1.0.made old.bytes new.bytes fault had bytes ends.1.1.1 is much))
too_long_from words had bytes old new out out' statuses.WriteFailed ends unread is much still = absurd (got_short ends.1.request.made old.bytes new.bytes ends.1.input had bytes ends.1.got is much)
too_long_from words had bytes old new out out' statuses.OutOfMemory ends unread is much still = inr refl
too_long_from words had bytes old new out out' statuses.Usage ends unread is much still = absurd (omega (arith, gave_nothing old.bytes new.bytes had bytes is (unread refl) much.gave, much.long))
too_long_from words had bytes old new out out' statuses.ReadFailed ends unread is much still = absurd (risen old.faults new.faults still ends.1)
