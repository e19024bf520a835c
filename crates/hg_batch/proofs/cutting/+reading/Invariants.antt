use Rattle.std.proofs.Common.{◌+◌, ◌*◌}
use Rattle.hg_batch.proofs.cutting.+reading.Given as goal

abbrev pub decreases-read_pieces : goal.decreases-read_pieces
decreases-read_pieces g l = 2 * l.workers

abbrev pub decreases-read_front : goal.decreases-read_front
decreases-read_front g l = 2 * l.half + 1

abbrev pub decreases-read_back : goal.decreases-read_back
decreases-read_back g l = 2 * l.others + 1
