use Rattle.std.proofs.Common.{◌≡◌, ◌+◌, true, List, ℕ, ◌++◌, take}
use Rattle.pgm_reader.specs.Progress.{HasRead, is_out_of_memory, is_sized}
use Rattle.pgm_reader.proofs.decoder.PictureDecoder.feed.Given as goal

abbrev pub invariant-loop-b : goal.invariant-loop-b
invariant-loop-b l = record {
  taken : l.self.taken ≡ l.initial.self.taken + l.b-index;
  read : (bytes : List ℕ) → HasRead l.initial.self bytes → HasRead l.self (bytes ++ take l.b-index l.piece);
  stays : is_out_of_memory l.initial.self ≡ true → is_out_of_memory l.self ≡ true;
  sized : is_sized l.initial.self ≡ true → (is_sized l.self ≡ true) × (is_out_of_memory l.self ≡ is_out_of_memory l.initial.self);
}
