use Rattle.std.proofs.Common.{◌≡◌, take}
use Rattle.std.specs.List.{flat_map}
use Rattle.std.specs.Io.KnownBytes.{Appends}
use Rattle.report_lines.proofs.pieces.write_pieces.Given as goal

-- the pieces so far were taken, and no write has failed
abbrev pub invariant-loop-piece : goal.invariant-loop-piece
invariant-loop-piece g l = record {
  taken : Appends (g.K.Sink.content l.fn.sink) (g.K.Sink.content l.sink) (flat_map (λ piece. piece.items) (take l.piece-index l.piece-items));
  quiet : g.K.Sink.faults l.sink ≡ g.K.Sink.faults l.fn.sink;
}
