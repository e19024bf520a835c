-- What a parse of the program's command line says.
use Rattle.std.specs.Prelude.{Option}
use Rattle.std.proofs.Common.{◌≡◌, ◌≢◌, ◌∙◌, true, List, ℕ, [], ◌∷◌, Some, None, refl, sym, ap, inl, inr}
use Rattle.clap.specs.Kinds.{HasKind, Kinds}
use Rattle.clap.specs.Words.{App, HasMatchesOf, Row, fault_of, found_of, is_simple, is_simple_and_free, kind_of, matches_of, rows_of}
use Rattle.clap.specs.declared.error.Error.{Error}
use Rattle.clap.specs.declared.error.kind.ErrorKind.TheVariants.{OutOfMemory}
use Rattle.clap.specs.declared.parser.matches.ArgMatches.{ArgMatches}
use Rattle.clap.proofs.OnLiterals.{clap_on_literals}
use Rattle.higra_words.specs.Command.{IsReadable, found_by, higra, rows_on, with_option, with_report, without_fault}

-- `clap` says of such a command what it finds
higra-simple : is_simple higra ≡ true
unfolding clap_on_literals higra with_option with_report
higra-simple = refl

-- and by which fault it refuses a line
higra-free : is_simple_and_free higra ≡ true
unfolding clap_on_literals higra with_option with_report
higra-free = refl

-- where there is no fault, all that was found is there
without_fault-none : (kinds : Kinds) (rows : List Row) → kinds ≡ [] → without_fault kinds rows ≡ Some rows
without_fault-none kinds rows none = ap (λ (ks : Kinds). without_fault ks rows) none

-- where memory hasn't run out, an error has a fault
without_fault-some : (kinds : Kinds) (rows : List Row) (e : Error) → HasKind kinds e → kind_of e ≢ OutOfMemory → without_fault kinds rows ≡ None
without_fault-some kinds rows e (inl memory) other = absurd (other memory)
without_fault-some (kind ∷ kinds) rows e (inr among) other = refl
without_fault-some [] rows e (inr among) other = absurd among

-- what a parse finds
found_by-matches : (command : App) (line : List (List ℕ)) (m : ArgMatches) → is_simple command ≡ true → HasMatchesOf command line m → fault_of command line ≡ [] → found_by command line ≡ Some (rows_of (found_of m))
found_by-matches command line m simple matches none = without_fault-none (fault_of command line) (matches_of command line) none ∙ ap Some (sym (matches simple).0)

pub found_by-read : (command : App) (line : List (List ℕ)) (m : ArgMatches) → IsReadable command → HasMatchesOf command line m → (is_simple_and_free command ≡ true → fault_of command line ≡ []) → found_by command line ≡ Some (rows_of (found_of m))
found_by-read command line m can matches none = found_by-matches command line m can.simple matches (none can.free)

-- a parse that fails, but not for want of memory
pub found_by-error : (command : App) (line : List (List ℕ)) (e : Error) → IsReadable command → (is_simple_and_free command ≡ true → HasKind (fault_of command line) e) → kind_of e ≢ OutOfMemory → found_by command line ≡ None
found_by-error command line e can fails other = without_fault-some (fault_of command line) (matches_of command line) e (fails can.free) other

-- the command `higra` is such a command
pub higra-readable : (command : App) → command ≡ higra → IsReadable command
higra-readable command is = record { simple = ap is_simple is ∙ higra-simple; free = ap is_simple_and_free is ∙ higra-free }

-- what its lines give
pub rows_on-found : (command : App) (line : List (List ℕ)) (found : Option (List Row)) → command ≡ higra → found_by command line ≡ found → rows_on line ≡ found
unfolding rows_on
rows_on-found command line found is by = ap (λ (a : App). found_by a line) (sym is) ∙ by
