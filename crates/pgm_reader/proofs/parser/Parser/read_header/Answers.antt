use Rattle.pgm_reader.proofs.BytesRead.{reads-on, reads-token}
use Rattle.pgm_reader.proofs.parser.Parser.read_header.Goals as goal

pub returns-in-On : goal.returns-in-On
returns-in-On c =
    let tokens = rw c.hash_ends.ensures at (c.in-On.ensures.1) in
    rw (← c.self.view_is) (reads-on _ c.args.field c.args.lexer c.in-On.next c.args.place c.args.b (rw (← c.self.view_is) at c.requires.stage) tokens)

pub returns-in-Ended : goal.returns-in-Ended
returns-in-Ended c =
    let tokens = rw c.hash_ends.ensures at (c.in-Ended.ensures.2) in
    reads-token _ _ c.args.field c.args.lexer c.in-Ended.found c.args.place c.args.b c.requires.stage tokens c.take_token.ensures
