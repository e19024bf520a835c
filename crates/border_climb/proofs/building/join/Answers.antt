use Rattle.std.proofs.Common.{◌++◌, map}
use Rattle.border_climb.specs.Parts.{as_listed}
use Rattle.border_climb.proofs.Lots.{stands-noted, listed-placed}
use Rattle.border_climb.proofs.Uniting.{united-from, border-taken, given-sum}
use Rattle.border_climb.proofs.building.join.Goals as goal

pub unite-part-requires-clause-lists : goal.unite-part-requires-clause-lists
unite-part-requires-clause-lists c =
    let w = c.requires.lists in (w.0, (w.1.0, united-from c.args.left c.args.right c.args.border.now w.0 w.1.0 w.1.1))

pub give_all-requires : goal.give_all-requires
give_all-requires c =
    let w = c.requires.lists in (
      w.0 ++ w.1.0,
      border-taken c.args.left c.args.right c.unite-part.result c.args.border.now w.0 w.1.0 c.keeps_its_rules.ensures.pool c.keeps_its_rules-2.ensures.pool c.requires.next w.1.1 c.unite-part.ensures.region
          (c.unite-part.ensures.stands w.0 w.1.0 (united-from c.args.left c.args.right c.args.border.now w.0 w.1.0 w.1.1)),
    )

pub returns-clause-stands : goal.returns-clause-stands
returns-clause-stands c = λ s r b m eq.
    stands-noted _ _ ((s ++ r) ++ b) _ c.note.ensures (c.give_all.ensures.stands (s ++ r) b
    (border-taken c.args.left c.args.right c.unite-part.result c.args.border.now s r c.keeps_its_rules.ensures.pool c.keeps_its_rules-2.ensures.pool c.requires.next m c.unite-part.ensures.region
    (c.unite-part.ensures.stands s r (united-from c.args.left c.args.right c.args.border.now s r m))) eq)

pub returns-clause-given : goal.returns-clause-given
returns-clause-given c =
    let w = c.requires.lists in
    given-sum c.args.left c.args.right c.note.new.self c.args.border.now w.0 w.1.0 w.1.1
    (stands-noted _ _ ((w.0 ++ w.1.0) ++ map as_listed c.args.border.now) _ c.note.ensures (c.give_all.ensures.stands (w.0 ++ w.1.0) (map as_listed c.args.border.now)
    (border-taken c.args.left c.args.right c.unite-part.result c.args.border.now w.0 w.1.0 c.keeps_its_rules.ensures.pool c.keeps_its_rules-2.ensures.pool c.requires.next w.1.1 c.unite-part.ensures.region
    (c.unite-part.ensures.stands w.0 w.1.0 (united-from c.args.left c.args.right c.args.border.now w.0 w.1.0 w.1.1))) (listed-placed c.args.border.now)))
