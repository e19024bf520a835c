-- What the fields of a picture stand for.
use Rattle.pgm_reader.specs.Raster.{Raster}
pub use Rattle.pgm_reader.specs.Raster.{IsRaster}
use Rattle.pgm_reader.specs.declared.picture.Picture.TheInside.{Inside}

abbrev pub raster_of : Inside → Raster
raster_of p = record { width = p.width; height = p.height; max = p.max; samples = p.samples.items }
