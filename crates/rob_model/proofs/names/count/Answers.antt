use Rattle.std.proofs.Common.{arith, length, ap}
use Rattle.rob_model.specs.NameGroups.{names_in}
use Rattle.rob_model.specs.View.{robust}
use Rattle.rob_model.proofs.NamingLemmas.{left_all, left_none, count_of_more}
use Rattle.rob_model.proofs.NameCountLemmas.{group_few, kind_few}
use Rattle.rob_model.proofs.names.count.Goals as goal

pub loop-i-init : goal.loop-i-init
loop-i-init g c =
    let m = robust g.N.Exact.value c.args.model.now in
    record { rest = omega (arith, ap length (left_all c.args.kind m)); end = c.group_count-i-end.ensures.count }

pub count-total-requires : goal.count-total-requires
count-total-requires g c =
    let value = g.N.Exact.value in
    record {
      few = group_few (robust value c.args.model.now) c.requires.valid.limits c.args.kind c.loop-i.i
          (names_in value c.group_at.result) c.group_at.ensures.group;
    }

pub overflow_add-total : goal.overflow_add-total
overflow_add-total g c =
    let value = g.N.Exact.value in
    let m = robust value c.args.model.now in
    omega (
      arith,
      c.count-total.ensures.count,
      kind_few m c.requires.valid.limits c.args.kind,
      count_of_more c.args.kind m c.loop-i.i c.loop-i.total (names_in value c.group_at.result) c.group_at.ensures.group
          c.loop-i.invariant.rest,
    )

pub loop-i-preserved : goal.loop-i-preserved
loop-i-preserved g c =
    let value = g.N.Exact.value in
    let m = robust value c.args.model.now in
    record {
      rest = omega (
        arith,
        c.count-total.ensures.count,
        count_of_more c.args.kind m c.loop-i.i c.loop-i.total (names_in value c.group_at.result)
            c.group_at.ensures.group c.loop-i.invariant.rest,
      );
      end = c.loop-i.invariant.end;
    }

pub returns : goal.returns
returns g c =
    let value = g.N.Exact.value in
    let m = robust value c.args.model.now in
    record {
      count = omega (
        arith,
        c.loop-i.invariant.rest,
        ap length (left_none c.args.kind m c.loop-i.i (omega (arith, c.loop-i.invariant.end, c.loop-i-test.false))),
      );
    }
