-- How a picture is spelled: three numbers, a byte of white space, and the bytes of the samples.
use Rattle.std.specs.Prelude.{◌≡◌, ℕ, ◌≤◌, true, false, List, ◌∷◌, drop, Some}
use Rattle.std.specs.List.{flat_map}
use Rattle.hg_base.specs.Samples.{sample_bytes}
use Rattle.input_tokens.specs.declared.token.Token.TheVariants.{Number}
use Rattle.pgm_reader.specs.Raster.{Raster, IsRaster}
use Rattle.pgm_reader.specs.Pgm.{CutToken, cut}

-- behind `P5` the bytes spell the picture by these tokens
pub record Spells (bytes : List ℕ) (r : Raster) (width height greatest : CutToken) (space : ℕ) : Type 0 where
  pub picture : IsRaster r
  pub depth : r.max ≤ 65535
  pub first : cut true false 2 (drop 2 bytes) ≡ Some width
  pub second : cut true false width.to width.rest ≡ Some height
  pub third : cut false false height.to height.rest ≡ Some greatest
  pub says_width : width.token ≡ Number r.width
  pub says_height : height.token ≡ Number r.height
  pub says_greatest : greatest.token ≡ Number r.max
  pub samples : greatest.rest ≡ space ∷ flat_map (sample_bytes r.max) r.samples
