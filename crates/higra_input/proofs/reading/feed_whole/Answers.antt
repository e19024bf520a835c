use Rattle.std.proofs.Common.{take, arith}
use Rattle.std.proofs.lemmas.List.{length-take-le}
use Rattle.higra_input.proofs.ReadingLemmas.{HasReadAll-first, HasReadAll-fed, StopsReading-fed, most_from_fed}
use Rattle.higra_input.specs.Reading.{told}
use Rattle.higra_input.proofs.reading.feed_whole.Goals as goal

pub returns-then-count-lt-FORM_BYTES-clause-ends : goal.returns-then-count-lt-FORM_BYTES-clause-ends
returns-then-count-lt-FORM_BYTES-clause-ends g c =
    let long = length-take-le c.in-Ok.count c.first_bytes.new.buffer c.in-Ok.ensures.within in
    HasReadAll-first _ _ (take c.in-Ok.count c.first_bytes.new.buffer) c.in_ok-decoder.decoder c.feed.new.self c.in-Ok.ensures.begun (omega (arith, long))
    c.in_ok-decoder.ensures.read c.in_ok-decoder.ensures.form c.feed.ensures

pub returns-in-Ok-feed_all-clause-ends : goal.returns-in-Ok-feed_all-clause-ends
returns-in-Ok-feed_all-clause-ends g c =
    let long = length-take-le c.in-Ok.count c.first_bytes.new.buffer c.in-Ok.ensures.within in
    HasReadAll-fed (told (g.S.Source.left c.args.source.now) (g.S.Source.faults c.args.source.now)) (told (g.S.Source.left c.first_bytes.new.source) (g.S.Source.faults c.first_bytes.new.source)) (told (g.S.Source.left c.feed_all.new.source) (g.S.Source.faults c.feed_all.new.source)) (take c.in-Ok.count c.first_bytes.new.buffer) c.in_ok-decoder.decoder c.feed.new.self c.feed_all.new.decoder c.in-Ok.ensures.begun (omega (arith, long))
    c.in_ok-decoder.ensures.read c.in_ok-decoder.ensures.taken c.in_ok-decoder.ensures.form c.feed.ensures c.in-Ok-feed_all.ensures.ends

pub returns-in-Ok-feed_all-clause-most : goal.returns-in-Ok-feed_all-clause-most
returns-in-Ok-feed_all-clause-most g c =
    most_from_fed (told (g.S.Source.left c.args.source.now) (g.S.Source.faults c.args.source.now)) (told (g.S.Source.left c.first_bytes.new.source) (g.S.Source.faults c.first_bytes.new.source)) (told (g.S.Source.left c.feed_all.new.source) (g.S.Source.faults c.feed_all.new.source)) (take c.in-Ok.count c.first_bytes.new.buffer) c.feed.new.self c.in-Ok.ensures.begun (omega (arith, c.feed.ensures.taken, c.in_ok-decoder.ensures.taken)) c.in-Ok-feed_all.ensures.most

pub returns-in-Err-clause-ends : goal.returns-in-Err-clause-ends
returns-in-Err-clause-ends g c =
    StopsReading-fed (told (g.S.Source.left c.args.source.now) (g.S.Source.faults c.args.source.now)) (told (g.S.Source.left c.first_bytes.new.source) (g.S.Source.faults c.first_bytes.new.source)) (told (g.S.Source.left c.feed_all.new.source) (g.S.Source.faults c.feed_all.new.source)) (take c.in-Ok.count c.first_bytes.new.buffer) c.feed.new.self c.in-Err.fault c.in-Ok.ensures.begun (omega (arith, c.feed.ensures.taken, c.in_ok-decoder.ensures.taken)) c.in-Err.ensures.ends

pub returns-in-Err-clause-most : goal.returns-in-Err-clause-most
returns-in-Err-clause-most g c =
    most_from_fed (told (g.S.Source.left c.args.source.now) (g.S.Source.faults c.args.source.now)) (told (g.S.Source.left c.first_bytes.new.source) (g.S.Source.faults c.first_bytes.new.source)) (told (g.S.Source.left c.feed_all.new.source) (g.S.Source.faults c.feed_all.new.source)) (take c.in-Ok.count c.first_bytes.new.buffer) c.feed.new.self c.in-Ok.ensures.begun (omega (arith, c.feed.ensures.taken, c.in_ok-decoder.ensures.taken)) c.in-Err.ensures.most
