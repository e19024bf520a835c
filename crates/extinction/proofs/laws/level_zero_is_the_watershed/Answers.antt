use Rattle.extinction.proofs.LevelZero.{level-zero}
use Rattle.extinction.proofs.laws.level_zero_is_the_watershed.Goals as goal

pub returns : goal.returns
returns c g kind x y h hx hy = level-zero g h kind x y hx hy
