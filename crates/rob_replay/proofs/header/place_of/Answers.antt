use Rattle.std.proofs.Common.{sym, ◌∙◌}
use Rattle.csv.specs.Records.{fields_of}
use Rattle.rob_replay.proofs.HeaderLemmas.{field_missing, field_there, place_found, place_later, place_none}
use Rattle.rob_replay.proofs.header.place_of.Goals as goal

pub returns-in-None : goal.returns-in-None
returns-in-None c =
    let fields = fields_of c.args.header.now in
    record {
      place = sym
          (place_none fields c.loop-i.i c.args.name.now (field_missing fields c.loop-i.i c.in-None.ensures.value))
          ∙ c.loop-i.invariant.rest;
    }

pub returns-then-is_name : goal.returns-then-is_name
returns-then-is_name c =
    let fields = fields_of c.args.header.now in
    record {
      place = sym
          (place_found fields c.loop-i.i c.in-Some.field.now c.args.name.now
          (field_there fields c.loop-i.i c.in-Some.field.now c.in-Some.ensures.value)
          (sym c.is_name.ensures.same ∙ c.if-is_name.true))
          ∙ c.loop-i.invariant.rest;
    }

pub loop-i-preserved : goal.loop-i-preserved
loop-i-preserved c =
    let fields = fields_of c.args.header.now in
    record {
      rest = place_later fields c.loop-i.i c.in-Some.field.now c.args.name.now
          (field_there fields c.loop-i.i c.in-Some.field.now c.in-Some.ensures.value)
          (sym c.is_name.ensures.same ∙ c.if-is_name.false)
          ∙ c.loop-i.invariant.rest;
      len = c.loop-i.invariant.len;
    }
