-- The texts that the code reads of a command line.
use Rattle.std.specs.Prelude.{option_map}
use Rattle.higra_words.specs.Request.{CommandLine}
use Rattle.higra_words.specs.declared.command.CommandTexts.{CommandTexts}

abbrev pub texts_of : CommandTexts → CommandLine
texts_of texts = record {
  report = texts.report.now;
  tile = option_map (λ s. s.now) texts.tile;
  workers = option_map (λ s. s.now) texts.workers;
  kind = option_map (λ s. s.now) texts.kind;
  level = option_map (λ s. s.now) texts.level;
  form = option_map (λ s. s.now) texts.form;
  make = option_map (λ s. s.now) texts.make;
  seed = option_map (λ s. s.now) texts.seed;
}
