-- What the ends of a run come to.
use Rattle.std.proofs.Common.{◌≡◌, ◌≢◌, inl, inr, ℕ, ◌≤◌, List, [], length, take_all, ◌⊎◌, Option, Some, None, Result, Ok, Err, OnOk, OnErr, refl, sym, ap, ◌∙◌, subst, arith}
use Rattle.std.proofs.KnownBytes.{Appends-nil}
use Rattle.std.specs.Io.KnownBytes.{Appends}
use Rattle.hg_base.specs.Outside.{AppendsPrefix}
use Rattle.hg_base.specs.declared.fault.InputFault.{InputFault}
use Rattle.merge_board.specs.Seats.{ReceiptState}
use Rattle.higra_words.specs.Command.{requested}
use Rattle.higra_words.specs.declared.request.Made.{Made}
use Rattle.higra_words.specs.declared.request.Request.{Request}
use Rattle.higra_input.proofs.GettingLemmas.{TookBy-got, TookBy-stopped, got_short, input_for-got, risen, took_long}
use Rattle.higra_input.proofs.ReadingLemmas.{gave_nothing}
use Rattle.higra_input.specs.Getting.{AreBytesOf, GotInput, StoodStill, StopsGetting, TookBy}
use Rattle.higra_input.specs.Inputs.{input_graph, input_for, too_long}
use Rattle.higra_input.specs.Reading.{GaveTooMuch, Told}
use Rattle.higra_input.specs.declared.fault.ReadFault.{ReadFault}
use Rattle.higra_input.specs.declared.fault.ReadFault.TheVariants as reads
use Rattle.higra_input.specs.declared.input.Input.{Input}
use Rattle.higra_report.proofs.RefusalLemmas.{refusal-other}
use Rattle.higra_report.specs.Reports.{IsReportIn, component_side, request_receipt, refusal, report_of}
use Rattle.higra_report.specs.Theorems.{HasComponents, IsHierarchy}
use Rattle.higra_report.specs.declared.fault.ReportFault.{ReportFault}
use Rattle.higra_report.specs.declared.fault.ReportFault.TheVariants as refusals
use Rattle.higra_cli.specs.Ending.{status_of_read, status_of_write}
use Rattle.higra_cli.specs.Running.{Ends, EndsWriting, HasStatus, IsAnswerTo, IsFor, Reports, ReportsWith, Writes, answer_of, status_by, status_for}
use Rattle.higra_cli.specs.declared.fault.WriteFault.{WriteFault}
use Rattle.higra_cli.specs.declared.fault.WriteFault.TheVariants as writes
use Rattle.higra_cli.specs.declared.status.Status.{Status}
use Rattle.higra_cli.specs.declared.status.Status.TheVariants as statuses

-- all of the bytes are a prefix of them
pub AppendsPrefix-whole : (old new : Option (List ℕ)) (bytes : List ℕ) → Appends old new bytes → AppendsPrefix old new bytes
AppendsPrefix-whole old new bytes all =
    let some : length bytes ≤ length bytes = omega arith in
    (length bytes, some, subst (λ (bs : List ℕ). Appends old new bs) (sym (take_all (length bytes) bytes some)) all)

-- where nothing was written, there is nothing to append
pub nothing_written : (old : Option (List ℕ)) (bytes : List ℕ) → bytes ≡ [] → Appends old old bytes
nothing_written old bytes none = subst (λ (bs : List ℕ). Appends old old bs) (sym none) (Appends-nil old)

-- what a write appended, whether or not it failed
pub AppendsPrefix-either : {T E : Type 0} (r : Result T E) (old new : Option (List ℕ)) (bytes line : List ℕ) → bytes ≡ line → OnOk r (Appends old new bytes) → OnErr r (AppendsPrefix old new bytes) → AppendsPrefix old new line
AppendsPrefix-either (Ok x) old new bytes line same all part = subst (λ (bs : List ℕ). AppendsPrefix old new bs) same (AppendsPrefix-whole old new bytes all)
AppendsPrefix-either (Err e) old new bytes line same all part = subst (λ (bs : List ℕ). AppendsPrefix old new bs) same part

-- so its status is that of the input
IsFor-got : (request : Request) (old new : Option (List ℕ)) (input : Input) → GotInput request.made old new input → IsFor request old (status_by (request_receipt request input) (refusal request input))
unfolding answer_of
IsFor-got request old new input got bytes are = ap (status_for request) (input_for-got request.made old new input got bytes are)

-- a fault of what was read is the status
IsFor-stopped : (request : Request) (m : Option Made) (old new : Told) (fault : InputFault) → request.made ≡ m → StopsGetting m old new (reads.Input fault) → IsFor request old.bytes (statuses.Input fault)
unfolding answer_of
IsFor-stopped request (Some m) old new fault is stopped bytes are = cc
IsFor-stopped request None old new fault is stopped bytes are =
    let none : AreBytesOf None old.bytes bytes = subst (λ (o : Option Made). AreBytesOf o old.bytes bytes) is are in
    ap (λ (o : Option Made). status_for request (input_for o bytes)) is ∙ ap (status_for request) (stopped.1 bytes none)

-- what ended the getting of the input ends the run
Ends-by : (words : List (List ℕ)) (request : Request) (m : Option Made) (old new out : Told) (fault : ReadFault) → requested words ≡ Some request → request.made ≡ m → StopsGetting m old new fault → Ends words old new out out (status_of_read fault)
Ends-by words request (Some m) old new out fault asked is stopped = subst (λ (f : ReadFault). Ends words old new out out (status_of_read f)) (sym stopped) refl
Ends-by words request None old new out (reads.Input fault) asked is stopped =
    let took : TookBy request.made fault old.bytes new.bytes = subst (λ (m : Option Made). TookBy m fault old.bytes new.bytes) (sym is) (TookBy-stopped None old new fault stopped) in
    ((request, (asked, IsFor-stopped request None old new fault is stopped)), (request, (asked, took)), stopped.0, refl)
Ends-by words request None old new out reads.ReadFailed asked is stopped = ((request, asked), stopped, refl)
Ends-by words request None old new out reads.OutOfMemory asked is stopped = refl

pub Ends-stopped : (words : List (List ℕ)) (request : Request) (old new out : Told) (fault : ReadFault) (status : Status) → status ≡ status_of_read fault → requested words ≡ Some request → StopsGetting request.made old new fault → Ends words old new out out status
Ends-stopped words request old new out fault status is asked stopped =
    subst (λ (s : Status). Ends words old new out out s) (sym is) (Ends-by words request request.made old new out fault asked refl stopped)

-- a fault of reading isn't that the words ask for nothing
pub read_not_usage : (fault : ReadFault) → status_of_read fault ≢ statuses.Usage
read_not_usage (reads.Input fault) = λ is. cc
read_not_usage reads.ReadFailed = λ is. cc
read_not_usage reads.OutOfMemory = λ is. cc

-- nor is one of writing
pub write_not_usage : (fault : WriteFault) → status_of_write fault ≢ statuses.Usage
write_not_usage (writes.Report (refusals.Input fault)) = λ is. cc
write_not_usage (writes.Report refusals.OutOfMemory) = λ is. cc
write_not_usage writes.WriteFailed = λ is. cc

-- the input is accepted
HasStatus-success : (words : List (List ℕ)) (request : Request) (input : Input) (old new : Option (List ℕ)) → requested words ≡ Some request → GotInput request.made old new input → refusal request input ≡ None → HasStatus words old (statuses.Success (request_receipt request input))
HasStatus-success words request input old new asked got accepted =
    (request, (asked, subst (λ (o : Option InputFault). IsFor request old (status_by (request_receipt request input) o)) accepted (IsFor-got request old new input got)))

-- and something was done with its report
Reports-done : (words : List (List ℕ)) (request : Request) (input : Input) (old new : Option (List ℕ)) (Done : List ℕ → Type 0) → requested words ≡ Some request → GotInput request.made old new input → Writes request input Done → Reports words old new Done
Reports-done words request input old new Done asked got writes = record {
  request = request;
  asked = asked;
  input = input;
  got = got;
  accepted = writes.accepted;
  done = writes.done;
  hierarchy = writes.hierarchy;
  components = writes.components;
}

-- something was done with the bytes of a report
pub reports_written : (request : Request) (input : Input) (Done : List ℕ → Type 0) (bytes : List ℕ) → refusal request input ≡ None → bytes ≡ report_of request input → Done bytes → IsHierarchy (input_graph input)
    → HasComponents (component_side request.report) input → Writes request input Done
reports_written request input Done bytes accepted are done hierarchy components = record { accepted = accepted; done = subst Done are done; hierarchy = hierarchy; components = components }

-- where no report was made, none was written
pub none_made : (request : Request) (input : Input) (out out' : Told) (fault : ReportFault) → IsReportIn request.form request.tile request.report input (Err fault) → out'.faults ≡ out.faults → EndsWriting request input out out' (Err (writes.Report fault))
unfolding refusal
none_made request input out out' (refusals.Input fault) is quiet = (is, quiet)
none_made request input out out' refusals.OutOfMemory is quiet = quiet

-- the report was written
pub Ends-written : (words : List (List ℕ)) (request : Request) (input : Input) (old new out out' : Told) (receipt : ReceiptState) → requested words ≡ Some request → new.faults ≡ old.faults → GotInput request.made old.bytes new.bytes input
    → EndsWriting request input out out' (Ok receipt) → Ends words old new out out' (statuses.Success receipt)
unfolding Reports-done
Ends-written words request input old new out out' receipt asked quiet got ends = (
  subst (λ (r : ReceiptState). HasStatus words old.bytes (statuses.Success r)) (sym ends.1) (HasStatus-success words request input old.bytes new.bytes asked got ends.0.accepted),
  (Reports-done words request input old.bytes new.bytes (Appends out.bytes out'.bytes) asked got ends.0, ends.1),
  quiet,
  ends.2,
)

-- or it wasn't
Ends-failed : (words : List (List ℕ)) (request : Request) (input : Input) (old new out out' : Told) (fault : WriteFault) → requested words ≡ Some request → new.faults ≡ old.faults → GotInput request.made old.bytes new.bytes input
    → EndsWriting request input out out' (Err fault) → Ends words old new out out' (status_of_write fault)
Ends-failed words request input old new out out' writes.WriteFailed asked quiet got ends =
    ((request_receipt request input, HasStatus-success words request input old.bytes new.bytes asked got ends.0.accepted), Reports-done words request input old.bytes new.bytes (AppendsPrefix out.bytes out'.bytes) asked got ends.0, quiet, ends.1)
Ends-failed words request input old new out out' (writes.Report (refusals.Input fault)) asked quiet got ends =
    ((request, (asked, subst (λ (o : Option InputFault). IsFor request old.bytes (status_by (request_receipt request input) o)) ends.0 (IsFor-got request old.bytes new.bytes input got))), (request, (asked, TookBy-got request.made old.bytes new.bytes input fault got (refusal-other request input fault ends.0))), quiet, ends.1)
Ends-failed words request input old new out out' (writes.Report refusals.OutOfMemory) asked quiet got ends = ends

pub Ends-unwritten : (words : List (List ℕ)) (request : Request) (input : Input) (old new out out' : Told) (fault : WriteFault) (status : Status) → status ≡ status_of_write fault → requested words ≡ Some request → new.faults ≡ old.faults → GotInput request.made old.bytes new.bytes input
    → EndsWriting request input out out' (Err fault) → Ends words old new out out' status
Ends-unwritten words request input old new out out' fault status is asked quiet got ends =
    subst (λ (s : Status). Ends words old new out out' s) (sym is) (Ends-failed words request input old new out out' fault asked quiet got ends)

-- where no write failed, the sink is as it was
pub unwritten_by : {K : Type 0} (fault : WriteFault) (status : Status) (old new : K) → status ≡ status_of_write fault → (fault ≢ writes.WriteFailed → new ≡ old) → status ≢ statuses.WriteFailed → new ≡ old
unwritten_by (writes.Report (refusals.Input fault)) status old new is same other = same (λ w. cc)
unwritten_by (writes.Report refusals.OutOfMemory) status old new is same other = same (λ w. cc)
unwritten_by writes.WriteFailed status old new is same other = absurd (other is)

-- a success has one receipt
pub with_receipt : (words : List (List ℕ)) (old new : Option (List ℕ)) (Done : List ℕ → Type 0) (a b : ReceiptState) → statuses.Success a ≡ statuses.Success b → ReportsWith words old new Done a → ReportsWith words old new Done b
with_receipt words old new Done a b same reports = let one : a ≡ b = cc in subst (λ (r : ReceiptState). ReportsWith words old new Done r) one reports

-- the words give one request
pub one_request : (words : List (List ℕ)) (a b : Request) → requested words ≡ Some a → requested words ≡ Some b → a ≡ b
one_request words a b first second = cc

pub made_of_one : (words : List (List ℕ)) (a b : Request) (m : Made) → requested words ≡ Some a → requested words ≡ Some b → b.made ≡ Some m → a.made ≡ Some m
made_of_one words a b m first second is = ap (λ (r : Request). r.made) (one_request words a b first second) ∙ is

-- the status of a request whose source has these bytes
status-is : (words : List (List ℕ)) (left : Option (List ℕ)) (status : Status) (request : Request) (bytes : List ℕ) → HasStatus words left status → requested words ≡ Some request → AreBytesOf request.made left bytes → status ≡ answer_of request bytes
status-is words left status request bytes has asked are =
    let same : has.0 ≡ request = one_request words has.0 request has.1.0 asked in
    sym (subst (λ (r : Request). IsFor r left status) same has.1.1 bytes are)

-- where no read fails, the status is that one, unless memory ran out or the report wasn't written
pub complete_from : (words : List (List ℕ)) (request : Request) (bytes : List ℕ) (old new out out' : Told) (status : Status) → Ends words old new out out' status → requested words ≡ Some request
    → AreBytesOf request.made old.bytes bytes → StoodStill old.faults new.faults → IsAnswerTo request bytes status
complete_from words request bytes old new out out' (statuses.Success receipt) ends asked are still = inl (status-is words old.bytes (statuses.Success receipt) request bytes ends.0 asked are)
complete_from words request bytes old new out out' (statuses.Input fault) ends asked are still = inl (status-is words old.bytes (statuses.Input fault) request bytes ends.0 asked are)
complete_from words request bytes old new out out' statuses.WriteFailed ends asked are still = inr (inr (refl, (ends.0.0, sym (status-is words old.bytes (statuses.Success ends.0.0) request bytes ends.0.1 asked are))))
complete_from words request bytes old new out out' statuses.OutOfMemory ends asked are still = inr (inl refl)
complete_from words request bytes old new out out' statuses.Usage ends asked are still = cc
complete_from words request bytes old new out out' statuses.ReadFailed ends asked are still = absurd (risen old.faults new.faults still ends.1)

-- where a source that tells its bytes gave one more than an input may have, and no read failed, the input is too long, or memory ran out
pub too_long_from : (words : List (List ℕ)) (had bytes : List ℕ) (old new out out' : Told) (status : Status) → Ends words old new out out' status → (status ≡ statuses.Usage → new.bytes ≡ old.bytes)
    → old.bytes ≡ Some had → GaveTooMuch old.bytes new.bytes bytes → StoodStill old.faults new.faults → (status ≡ statuses.Input too_long) ⊎ (status ≡ statuses.OutOfMemory)
too_long_from words had bytes old new out out' (statuses.Success receipt) ends unread is much still = absurd (got_short ends.1.0.request.made old.bytes new.bytes ends.1.0.input had bytes ends.1.0.got is much)
too_long_from words had bytes old new out out' (statuses.Input fault) ends unread is much still =
    inl (ap (λ (f : InputFault). statuses.Input f) (took_long ends.1.0.made old.bytes new.bytes fault had bytes ends.1.1.1 is much))
too_long_from words had bytes old new out out' statuses.WriteFailed ends unread is much still = absurd (got_short ends.1.request.made old.bytes new.bytes ends.1.input had bytes ends.1.got is much)
too_long_from words had bytes old new out out' statuses.OutOfMemory ends unread is much still = inr refl
too_long_from words had bytes old new out out' statuses.Usage ends unread is much still = absurd (omega (arith, gave_nothing old.bytes new.bytes had bytes is (unread refl) much.gave, much.long))
too_long_from words had bytes old new out out' statuses.ReadFailed ends unread is much still = absurd (risen old.faults new.faults still ends.1)
