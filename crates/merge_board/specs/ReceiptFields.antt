-- What the fields of a receipt hold.
use Rattle.merge_board.specs.Seats.{ReceiptState}
use Rattle.merge_board.specs.declared.receipt.Receipt.TheInside.{Inside}

abbrev pub receipt_of : Inside → ReceiptState
receipt_of r = record { tiles = r.tiles; workers = r.workers; edges = r.edges }
