use Rattle.std.proofs.Common.{◌<◌, map, length, arith}
use Rattle.std.proofs.lemmas.List.{length-map}
use Rattle.rob_cells.proofs.CellLemmas.{member_in, member_made}
use Rattle.rob_cells.proofs.ListLemmas.{mapped_all, mapped_more}
use Rattle.rob_meaning.specs.WellFormed.{IsMember}
use Rattle.rob_model.specs.View.{member_of, parameter_of, robust}
use Rattle.rob_pieces.specs.SplitModel.{member_over}
use Rattle.rob_cells.proofs.lines.members_over.Goals as goal
use Rattle.rob_meaning.proofs.Lists.EachLemmas.{each_get}

pub param_in-requires-clause-inside : goal.param_in-requires-clause-inside
param_in-requires-clause-inside g c =
    let value = g.N.Exact.value in
    let inside : c.member-item.result.param < length (map (parameter_of value) c.args.model.now.params)
    = (each_get (IsMember (robust value c.args.model.now)) (member_of value) c.args.members.now
    c.loop-member.member-index
    c.member-item.result c.loop-member-test.true c.member-item.is c.requires.inside).0 in
    omega (arith, inside, length-map c.args.model.now.params (parameter_of value))

pub loop-member-preserved : goal.loop-member-preserved
loop-member-preserved g c =
    let view = member_of g.N.Exact.value in
    let over = member_over (robust g.N.Exact.value c.args.model.now) c.args.c in
    mapped_more view view over c.args.members.now (map over (map view c.args.members.now))
    c.loop-member.member-index c.member-item.result
    (member_in c.param_in.result c.member-item.result)
    c.loop-member.over c.push.new.self c.loop-member-test.true c.member-item.is
    (member_made g.N.Exact.value (robust g.N.Exact.value c.args.model.now) c.args.c c.member-item.result
    c.param_in.ensures.number)
    c.in_ok-push.ensures.appended c.loop-member.invariant

pub returns : goal.returns
returns g c =
    let view = member_of g.N.Exact.value in
    let over = member_over (robust g.N.Exact.value c.args.model.now) c.args.c in
    record {
      over = mapped_all view view over c.args.members.now (map over (map view c.args.members.now))
          c.loop-member.member-index c.loop-member.over c.loop-member-test.false c.loop-member.invariant;
    }
