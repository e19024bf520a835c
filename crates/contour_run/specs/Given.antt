-- The texts that the code reads of a command line.
use Rattle.std.specs.Prelude.{option_map}
use Rattle.contour_run.specs.Request.{OptionTexts}
use Rattle.contour_run.specs.declared.command.GivenOptions.{GivenOptions}

abbrev pub texts_of : GivenOptions → OptionTexts
texts_of given = record {
  kind = option_map (λ s. s.now) given.kind;
  tile = option_map (λ s. s.now) given.tile;
  workers = option_map (λ s. s.now) given.workers;
  make = option_map (λ s. s.now) given.make;
  seed = option_map (λ s. s.now) given.seed;
}
