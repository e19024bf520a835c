-- Each command line can be spelled: `clap` finds its texts again.
use Rattle.std.proofs.Common.{◌≡◌, ℕ, List, Option, Some, None, refl, ap}
use Rattle.clap.proofs.OnLiterals.{clap_on_literals}
use Rattle.higra_words.specs.Command.{given_by, higra, requested, rows_on, with_option, with_report}
use Rattle.higra_words.specs.Request.{CommandLine, ◌>>=◌, request_by}
use Rattle.higra_words.specs.Spelled.{words_of}

abbrev Text : Type 0
Text = List ℕ

abbrev line_of : (report : Text) (tile workers kind level form make seed : Option Text) → CommandLine
line_of report tile workers kind level form make seed =
    record { report = report; tile = tile; workers = workers; kind = kind; level = level; form = form; make = make; seed = seed }

abbrev IsFound : CommandLine → Type 0
IsFound line = given_by (words_of line) ≡ Some line

-- by which of five options are given, without `--make` and `--seed`
plain : (r : Text) (t w k l f : Option Text) → IsFound (line_of r t w k l f None None)
unfolding clap_on_literals higra rows_on with_option with_report
plain r None None None None None = refl
plain r None None None None (Some f) = refl
plain r None None None (Some l) None = refl
plain r None None None (Some l) (Some f) = refl
plain r None None (Some k) None None = refl
plain r None None (Some k) None (Some f) = refl
plain r None None (Some k) (Some l) None = refl
plain r None None (Some k) (Some l) (Some f) = refl
plain r None (Some w) None None None = refl
plain r None (Some w) None None (Some f) = refl
plain r None (Some w) None (Some l) None = refl
plain r None (Some w) None (Some l) (Some f) = refl
plain r None (Some w) (Some k) None None = refl
plain r None (Some w) (Some k) None (Some f) = refl
plain r None (Some w) (Some k) (Some l) None = refl
plain r None (Some w) (Some k) (Some l) (Some f) = refl
plain r (Some t) None None None None = refl
plain r (Some t) None None None (Some f) = refl
plain r (Some t) None None (Some l) None = refl
plain r (Some t) None None (Some l) (Some f) = refl
plain r (Some t) None (Some k) None None = refl
plain r (Some t) None (Some k) None (Some f) = refl
plain r (Some t) None (Some k) (Some l) None = refl
plain r (Some t) None (Some k) (Some l) (Some f) = refl
plain r (Some t) (Some w) None None None = refl
plain r (Some t) (Some w) None None (Some f) = refl
plain r (Some t) (Some w) None (Some l) None = refl
plain r (Some t) (Some w) None (Some l) (Some f) = refl
plain r (Some t) (Some w) (Some k) None None = refl
plain r (Some t) (Some w) (Some k) None (Some f) = refl
plain r (Some t) (Some w) (Some k) (Some l) None = refl
plain r (Some t) (Some w) (Some k) (Some l) (Some f) = refl

-- with `--make`
made : (r : Text) (t w k l f : Option Text) (m : Text) → IsFound (line_of r t w k l f (Some m) None)
unfolding clap_on_literals higra rows_on with_option with_report
made r None None None None None m = refl
made r None None None None (Some f) m = refl
made r None None None (Some l) None m = refl
made r None None None (Some l) (Some f) m = refl
made r None None (Some k) None None m = refl
made r None None (Some k) None (Some f) m = refl
made r None None (Some k) (Some l) None m = refl
made r None None (Some k) (Some l) (Some f) m = refl
made r None (Some w) None None None m = refl
made r None (Some w) None None (Some f) m = refl
made r None (Some w) None (Some l) None m = refl
made r None (Some w) None (Some l) (Some f) m = refl
made r None (Some w) (Some k) None None m = refl
made r None (Some w) (Some k) None (Some f) m = refl
made r None (Some w) (Some k) (Some l) None m = refl
made r None (Some w) (Some k) (Some l) (Some f) m = refl
made r (Some t) None None None None m = refl
made r (Some t) None None None (Some f) m = refl
made r (Some t) None None (Some l) None m = refl
made r (Some t) None None (Some l) (Some f) m = refl
made r (Some t) None (Some k) None None m = refl
made r (Some t) None (Some k) None (Some f) m = refl
made r (Some t) None (Some k) (Some l) None m = refl
made r (Some t) None (Some k) (Some l) (Some f) m = refl
made r (Some t) (Some w) None None None m = refl
made r (Some t) (Some w) None None (Some f) m = refl
made r (Some t) (Some w) None (Some l) None m = refl
made r (Some t) (Some w) None (Some l) (Some f) m = refl
made r (Some t) (Some w) (Some k) None None m = refl
made r (Some t) (Some w) (Some k) None (Some f) m = refl
made r (Some t) (Some w) (Some k) (Some l) None m = refl
made r (Some t) (Some w) (Some k) (Some l) (Some f) m = refl

-- with `--seed`
seeded : (r : Text) (t w k l f : Option Text) (s : Text) → IsFound (line_of r t w k l f None (Some s))
unfolding clap_on_literals higra rows_on with_option with_report
seeded r None None None None None s = refl
seeded r None None None None (Some f) s = refl
seeded r None None None (Some l) None s = refl
seeded r None None None (Some l) (Some f) s = refl
seeded r None None (Some k) None None s = refl
seeded r None None (Some k) None (Some f) s = refl
seeded r None None (Some k) (Some l) None s = refl
seeded r None None (Some k) (Some l) (Some f) s = refl
seeded r None (Some w) None None None s = refl
seeded r None (Some w) None None (Some f) s = refl
seeded r None (Some w) None (Some l) None s = refl
seeded r None (Some w) None (Some l) (Some f) s = refl
seeded r None (Some w) (Some k) None None s = refl
seeded r None (Some w) (Some k) None (Some f) s = refl
seeded r None (Some w) (Some k) (Some l) None s = refl
seeded r None (Some w) (Some k) (Some l) (Some f) s = refl
seeded r (Some t) None None None None s = refl
seeded r (Some t) None None None (Some f) s = refl
seeded r (Some t) None None (Some l) None s = refl
seeded r (Some t) None None (Some l) (Some f) s = refl
seeded r (Some t) None (Some k) None None s = refl
seeded r (Some t) None (Some k) None (Some f) s = refl
seeded r (Some t) None (Some k) (Some l) None s = refl
seeded r (Some t) None (Some k) (Some l) (Some f) s = refl
seeded r (Some t) (Some w) None None None s = refl
seeded r (Some t) (Some w) None None (Some f) s = refl
seeded r (Some t) (Some w) None (Some l) None s = refl
seeded r (Some t) (Some w) None (Some l) (Some f) s = refl
seeded r (Some t) (Some w) (Some k) None None s = refl
seeded r (Some t) (Some w) (Some k) None (Some f) s = refl
seeded r (Some t) (Some w) (Some k) (Some l) None s = refl
seeded r (Some t) (Some w) (Some k) (Some l) (Some f) s = refl

-- with both
made_and_seeded : (r : Text) (t w k l f : Option Text) (m s : Text) → IsFound (line_of r t w k l f (Some m) (Some s))
unfolding clap_on_literals higra rows_on with_option with_report
made_and_seeded r None None None None None m s = refl
made_and_seeded r None None None None (Some f) m s = refl
made_and_seeded r None None None (Some l) None m s = refl
made_and_seeded r None None None (Some l) (Some f) m s = refl
made_and_seeded r None None (Some k) None None m s = refl
made_and_seeded r None None (Some k) None (Some f) m s = refl
made_and_seeded r None None (Some k) (Some l) None m s = refl
made_and_seeded r None None (Some k) (Some l) (Some f) m s = refl
made_and_seeded r None (Some w) None None None m s = refl
made_and_seeded r None (Some w) None None (Some f) m s = refl
made_and_seeded r None (Some w) None (Some l) None m s = refl
made_and_seeded r None (Some w) None (Some l) (Some f) m s = refl
made_and_seeded r None (Some w) (Some k) None None m s = refl
made_and_seeded r None (Some w) (Some k) None (Some f) m s = refl
made_and_seeded r None (Some w) (Some k) (Some l) None m s = refl
made_and_seeded r None (Some w) (Some k) (Some l) (Some f) m s = refl
made_and_seeded r (Some t) None None None None m s = refl
made_and_seeded r (Some t) None None None (Some f) m s = refl
made_and_seeded r (Some t) None None (Some l) None m s = refl
made_and_seeded r (Some t) None None (Some l) (Some f) m s = refl
made_and_seeded r (Some t) None (Some k) None None m s = refl
made_and_seeded r (Some t) None (Some k) None (Some f) m s = refl
made_and_seeded r (Some t) None (Some k) (Some l) None m s = refl
made_and_seeded r (Some t) None (Some k) (Some l) (Some f) m s = refl
made_and_seeded r (Some t) (Some w) None None None m s = refl
made_and_seeded r (Some t) (Some w) None None (Some f) m s = refl
made_and_seeded r (Some t) (Some w) None (Some l) None m s = refl
made_and_seeded r (Some t) (Some w) None (Some l) (Some f) m s = refl
made_and_seeded r (Some t) (Some w) (Some k) None None m s = refl
made_and_seeded r (Some t) (Some w) (Some k) None (Some f) m s = refl
made_and_seeded r (Some t) (Some w) (Some k) (Some l) None m s = refl
made_and_seeded r (Some t) (Some w) (Some k) (Some l) (Some f) m s = refl

by_parts : (r : Text) (t w k l f m s : Option Text) → IsFound (line_of r t w k l f m s)
by_parts r t w k l f None None = plain r t w k l f
by_parts r t w k l f (Some m) None = made r t w k l f m
by_parts r t w k l f None (Some s) = seeded r t w k l f s
by_parts r t w k l f (Some m) (Some s) = made_and_seeded r t w k l f m s

-- the words that spell a command line give it
pub given_by_words_of : (line : CommandLine) → given_by (words_of line) ≡ Some line
given_by_words_of line = by_parts line.report line.tile line.workers line.kind line.level line.form line.make line.seed

-- and ask for what its texts ask for
pub requested_words_of : (line : CommandLine) → requested (words_of line) ≡ request_by line
requested_words_of line = ap (λ (o : Option CommandLine). o >>= request_by) (given_by_words_of line)
