use Rattle.std.proofs.Common.{arith, ap, sym, ◌∙◌, map, [], ◌∷◌, drop, ◌+◌}
use Rattle.std.proofs.lemmas.List.{map-append}
use Rattle.csv.specs.Records.{fields_of}
use Rattle.rob_replay.proofs.GatherLemmas.{left_more, left_stops}
use Rattle.rob_replay.proofs.HeaderLemmas.{field_missing, field_there}
use Rattle.rob_replay.specs.Fields.{number_in}
use Rattle.rob_replay.specs.Gathering.{gathered}
use Rattle.rob_replay.proofs.record.read_numbers.Goals as goal

pub returns-in-None-clause-numbers : goal.returns-in-None-clause-numbers
returns-in-None-clause-numbers g c =
    absurd (omega (
      arith,
      field_missing (fields_of c.args.row.now) c.loop-i.i c.in-None.ensures.value,
      c.loop-i-test.true,
      c.loop-i.invariant.len,
    ))

pub returns-in-None-read_number-clause-numbers : goal.returns-in-None-read_number-clause-numbers
returns-in-None-read_number-clause-numbers g c =
    let fields = fields_of c.args.row.now in
    let f = c.in-Some.field.now in
    let split = field_there fields c.loop-i.i f c.in-Some.ensures.value in
    sym (left_stops (number_in g.N.Exact.limit) fields c.loop-i.i f split (map g.N.Exact.value c.loop-i.numbers)
    (sym c.in-None-read_number.ensures.number))
    ∙ c.loop-i.invariant.rest

pub loop-i-preserved : goal.loop-i-preserved
loop-i-preserved g c =
    let value = g.N.Exact.value in
    let fields = fields_of c.args.row.now in
    let f = c.in-Some.field.now in
    let split = field_there fields c.loop-i.i f c.in-Some.ensures.value in
    let x = c.in-Some-read_number.number in
    let left = map (number_in g.N.Exact.limit) (drop (c.loop-i.i + 1) fields) in
    record {
      rest = ap (λ l. gathered l left) (ap (map value) c.in_ok-push-in-Some-read_number.ensures.appended
          ∙ map-append value c.loop-i.numbers (x ∷ []))
          ∙ sym (left_more (number_in g.N.Exact.limit) fields c.loop-i.i f split (map value c.loop-i.numbers) (value x)
          (sym c.in-Some-read_number.ensures.number))
          ∙ c.loop-i.invariant.rest;
      len = c.loop-i.invariant.len;
      ops = omega (arith, c.loop-i.invariant.ops, c.read_number.ensures.counted.ops);
      wides = omega (arith, c.loop-i.invariant.wides, c.read_number.ensures.counted.wides);
    }
