use Rattle.std.proofs.Common.{inl, inr}
use Rattle.graph_reader.proofs.Decoding.{answered, at-end, at-end-of-comment, at-end-of-token}
use Rattle.graph_reader.proofs.decoder.Decoder.finish.Goals as goal

pub returns-in-Inside-clause-read : goal.returns-in-Inside-clause-read
returns-in-Inside-clause-read c =
    let s = c.self.inside in
    λ bytes read. answered c.finish_with.result _ bytes (rw (← c.self.view_is, c.in-Inside.is) at read)
    (λ memory. rw (at-end-of-token s.taken c.in-Inside.at c.in-Inside.text s.parser, ← c.token.ensures.value) (c.finish_with.ensures.read memory s.taken))
    (λ out. c.finish_with.ensures.memory.0 out)

pub returns-in-Between-clause-read : goal.returns-in-Between-clause-read
returns-in-Between-clause-read c =
    let s = c.self.inside in
    λ bytes read. elim c.in-Between.is [
      | inl e ↦ answered c.finish.result _ bytes (rw (← c.self.view_is, e) at read) (λ memory. rw (at-end s.taken s.parser) (c.finish.ensures.read memory)) (λ out. c.finish.ensures.memory.0 out)
      | inr e ↦ answered c.finish.result _ bytes (rw (← c.self.view_is, e) at read) (λ memory. rw (at-end-of-comment s.taken s.parser) (c.finish.ensures.read memory)) (λ out. c.finish.ensures.memory.0 out)
    ]
