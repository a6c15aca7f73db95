use Rattle.std.proofs.Common.{arith, ap, sym, ◌∙◌, map, []}
use Rattle.csv.specs.Records.{fields_of}
use Rattle.rob_model.proofs.PartLemmas.{drop_at}
use Rattle.rob_replay.proofs.GatherLemmas.{left_past, left_stops}
use Rattle.rob_replay.proofs.HeaderLemmas.{named_place, named_places}
use Rattle.rob_replay.specs.Gathering.{gathered}
use Rattle.rob_replay.specs.Headers.{place_from}
use Rattle.rob_replay.proofs.header.places_of.Goals as goal

pub returns-in-None : goal.returns-in-None
returns-in-None g c =
    let header = fields_of c.args.header.now in
    let place = named_place g.N.Exact.value header in
    let params = c.args.params.now in
    let k = c.loop-param.param-index in
    let item = c.param-item.result in
    record {
      places = sym
          (left_stops place params k item
          (drop_at params k item c.loop-param-test.true c.param-item.is) c.loop-param.places
          (sym (c.in-None.ensures.place ∙ ap (place_from 0 header) c.bytes.ensures.list)))
          ∙ c.loop-param.invariant ∙ named_places g.N.Exact.value header params;
    }

pub returns : goal.returns
returns g c =
    let header = fields_of c.args.header.now in
    let place = named_place g.N.Exact.value header in
    let params = c.args.params.now in
    record {
      places = sym
          (left_past place params c.loop-param.param-index c.loop-param.places (gathered [] (map place params))
          (omega (arith, c.loop-param-test.false)) c.loop-param.invariant)
          ∙ named_places g.N.Exact.value header params;
    }
