-- Each choice of texts can be spelled: `clap` finds them again.
use Rattle.std.proofs.Common.{◌≡◌, ℕ, List, Option, Some, None, refl, ap}
use Rattle.clap.proofs.OnLiterals.{clap_on_literals}
use Rattle.higra_words.specs.Command.{with_option}
use Rattle.higra_words.specs.Request.{◌>>=◌}
use Rattle.contour_run.specs.Command.{contours_requested, higra_contours, options_given, rows_on}
use Rattle.contour_run.specs.Request.{OptionTexts, request_by}
use Rattle.contour_run.specs.Spelled.{words_of}

abbrev texts_of_parts : (kind tile workers make seed : Option (List ℕ)) → OptionTexts
texts_of_parts kind tile workers make seed = record { kind = kind; tile = tile; workers = workers; make = make; seed = seed }

-- by which of the options are given
by_parts : (k t w m s : Option (List ℕ)) → options_given (words_of (texts_of_parts k t w m s)) ≡ Some (texts_of_parts k t w m s)
unfolding clap_on_literals higra_contours rows_on with_option
by_parts None None None None None = refl
by_parts None None None None (Some s) = refl
by_parts None None None (Some m) None = refl
by_parts None None None (Some m) (Some s) = refl
by_parts None None (Some w) None None = refl
by_parts None None (Some w) None (Some s) = refl
by_parts None None (Some w) (Some m) None = refl
by_parts None None (Some w) (Some m) (Some s) = refl
by_parts None (Some t) None None None = refl
by_parts None (Some t) None None (Some s) = refl
by_parts None (Some t) None (Some m) None = refl
by_parts None (Some t) None (Some m) (Some s) = refl
by_parts None (Some t) (Some w) None None = refl
by_parts None (Some t) (Some w) None (Some s) = refl
by_parts None (Some t) (Some w) (Some m) None = refl
by_parts None (Some t) (Some w) (Some m) (Some s) = refl
by_parts (Some k) None None None None = refl
by_parts (Some k) None None None (Some s) = refl
by_parts (Some k) None None (Some m) None = refl
by_parts (Some k) None None (Some m) (Some s) = refl
by_parts (Some k) None (Some w) None None = refl
by_parts (Some k) None (Some w) None (Some s) = refl
by_parts (Some k) None (Some w) (Some m) None = refl
by_parts (Some k) None (Some w) (Some m) (Some s) = refl
by_parts (Some k) (Some t) None None None = refl
by_parts (Some k) (Some t) None None (Some s) = refl
by_parts (Some k) (Some t) None (Some m) None = refl
by_parts (Some k) (Some t) None (Some m) (Some s) = refl
by_parts (Some k) (Some t) (Some w) None None = refl
by_parts (Some k) (Some t) (Some w) None (Some s) = refl
by_parts (Some k) (Some t) (Some w) (Some m) None = refl
by_parts (Some k) (Some t) (Some w) (Some m) (Some s) = refl

-- the words that spell texts give them
pub options_given_words_of : (texts : OptionTexts) → options_given (words_of texts) ≡ Some texts
options_given_words_of texts = by_parts texts.kind texts.tile texts.workers texts.make texts.seed

-- and ask for what these texts ask for
pub requested_words_of : (texts : OptionTexts) → contours_requested (words_of texts) ≡ request_by texts
requested_words_of texts = ap (λ (o : Option OptionTexts). o >>= request_by) (options_given_words_of texts)
