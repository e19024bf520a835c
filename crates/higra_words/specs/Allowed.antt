-- What a request may be about: the limits to which each request of the table keeps.
use Rattle.std.specs.Prelude.{◌≡◌, ◌⊎◌, ◌≤◌, true}
use Rattle.higra_words.specs.Request.{can_be_drawn}
use Rattle.higra_words.specs.declared.request.Form.{Form}
use Rattle.higra_words.specs.declared.request.Form.TheVariants as forms
use Rattle.higra_words.specs.declared.request.Made.{Made}
use Rattle.higra_words.specs.declared.request.Report.{Report}
use Rattle.higra_words.specs.declared.request.Request.{Request}

-- the report can have the form: it is a text, or a picture where it can be drawn
abbrev pub IsFormOf : Report → Form → Type 0
IsFormOf report form = (form ≡ forms.Text) ⊎ (can_be_drawn report ≡ true)

-- what a report may be asked for
pub record CanReport (request : Request) : Type 0 where
  pub some_tile : 1 ≤ request.tile
  pub tile : request.tile ≤ 1048576
  pub some_worker : 1 ≤ request.workers
  pub workers : request.workers ≤ 64
  pub form : IsFormOf request.report request.form

-- the side of a picture that can be made
pub record CanMake (m : Made) : Type 0 where
  pub some : 1 ≤ m.side
  pub most : m.side ≤ 1024
