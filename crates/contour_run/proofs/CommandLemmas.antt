-- What a parse of the program's command line says.
use Rattle.std.specs.Prelude.{Option, codes, map}
use Rattle.std.proofs.Common.{◌≡◌, ◌∙◌, true, List, ◌∷◌, Some, None, ℕ, refl, sym, ap}
use Rattle.clap.specs.Words.{App, Row, is_simple, is_simple_and_free}
use Rattle.clap.proofs.OnLiterals.{clap_on_literals}
use Rattle.higra_words.specs.Command.{IsReadable, found_by, with_option}
use Rattle.higra_words.specs.Request.{◌>>=◌}
use Rattle.contour_run.specs.Command.{contours_requested, higra_contours, request_in, rows_on, texts_in}
use Rattle.contour_run.specs.Request.{request_by}
use Rattle.contour_run.specs.declared.request.ContourRequest.{ContourRequest}

-- `clap` says of such a command what it finds
contours-simple : is_simple higra_contours ≡ true
unfolding clap_on_literals higra_contours with_option
contours-simple = refl

-- and by which fault it refuses a line
contours-free : is_simple_and_free higra_contours ≡ true
unfolding clap_on_literals higra_contours with_option
contours-free = refl

-- the command `higra_contours` is such a command
pub contours-readable : (command : App) → command ≡ higra_contours → IsReadable command
contours-readable command is = record { simple = ap is_simple is ∙ contours-simple; free = ap is_simple_and_free is ∙ contours-free }

-- what its lines give
pub rows_on-found : (command : App) (line : List (List ℕ)) (found : Option (List Row)) → command ≡ higra_contours → found_by command line ≡ found → rows_on line ≡ found
unfolding rows_on
rows_on-found command line found is by = ap (λ (a : App). found_by a line) (sym is) ∙ by

-- the texts of a line that was copied
pub lined : {A : Type 0} (f : A → List ℕ) (copy own : List A) (line : List (List ℕ)) → copy ≡ own → map f own ≡ line → map f copy ≡ line
lined f copy own line same is = ap (λ xs. map f xs) same ∙ is

-- the request of what may be found
abbrev asked_of : Option (List Row) → Option ContourRequest
asked_of found = (found >>= (λ rows. Some (texts_in rows))) >>= request_by

-- where something is found in the line of the words, they give its request
pub asked_some : (words line : List (List ℕ)) (rows : List Row) → line ≡ codes "higra_contours" ∷ words → rows_on line ≡ Some rows → contours_requested words ≡ request_in rows
asked_some words line rows is found = ap asked_of (ap rows_on (sym is) ∙ found)

-- and where nothing is, they give none
pub asked_none : (words line : List (List ℕ)) → line ≡ codes "higra_contours" ∷ words → rows_on line ≡ None → contours_requested words ≡ None
asked_none words line is found = ap asked_of (ap rows_on (sym is) ∙ found)
