use Rattle.std.proofs.Common.{◌≡◌, false, [], inl, inr, arith}
use Rattle.std.specs.Prelude.{nat_lt}
use Rattle.pgm_reader.specs.Parsing.{reading_at}
use Rattle.pgm_reader.specs.ParserFields.{parsing_of}
use Rattle.pgm_reader.proofs.Endings.{fault-answers, form-last, low-last}
use Rattle.pgm_reader.proofs.BytesRead.{reads-at}
use Rattle.pgm_reader.proofs.parser.Parser.finish.Goals as goal

pub returns-in-Header-clause-read : goal.returns-in-Header-clause-read
returns-in-Header-clause-read c = λ memory. fault-answers _ c.args.end c.last_fault.result c.last_fault.ensures

pub returns-in-Form-clause-read : goal.returns-in-Form-clause-read
returns-in-Form-clause-read c =
    let p = parsing_of c.self.inside in
    λ memory. rw (c.truncated.ensures, ← c.self.view_is) (elim c.in-Form.is [
      | inl e ↦ form-last p c.args.end e
      | inr e ↦
          let keeps = rw e.1 at c.self.invariant in
          let large : nat_lt c.self.inside.max 256 ≡ false = grind (arith, keeps.0.two_bytes) in
          low-last p c.args.end e.0 e.1 keeps.0.sample_left large
    ])

pub returns-in-Faulty-clause-read : goal.returns-in-Faulty-clause-read
unfolding reading_at
returns-in-Faulty-clause-read c = λ memory. rw (← c.self.view_is) (reads-at (parsing_of c.self.inside) _ c.args.end c.args.end [] c.in-Faulty.is)
