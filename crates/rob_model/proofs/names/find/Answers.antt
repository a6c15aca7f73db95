use Rattle.std.proofs.Common.{arith, length, ap, sym, ◌≡◌, ◌+◌, subst}
use Rattle.rob_model.specs.NameGroups.{names_in, names}
use Rattle.rob_model.specs.View.{robust}
use Rattle.rob_model.proofs.NamingLemmas.{LaterOf, left_all, left_none, left_more, count_of_more, names_left, later_all, later_found, later_missing, later_none, found_within}
use Rattle.rob_model.proofs.NameCountLemmas.{group_few, kind_few}
use Rattle.rob_model.proofs.names.find.Goals as goal

pub loop-i-init : goal.loop-i-init
loop-i-init g c =
    let m = robust g.N.Exact.value c.args.model.now in
    record {
      later = later_all (names_left c.args.kind m 0) (names c.args.kind m) c.args.name.now (left_all c.args.kind m);
      rest = omega (arith, ap length (left_all c.args.kind m));
      end = c.group_count-i-end.ensures.count;
    }

pub find-requires : goal.find-requires
find-requires g c = record {
  few = group_few (robust g.N.Exact.value c.args.model.now) c.requires.valid.limits c.args.kind c.loop-i.i _
      c.group_at-group.ensures.group;
}

pub count-first-requires : goal.count-first-requires
count-first-requires g c = record {
  few = group_few (robust g.N.Exact.value c.args.model.now) c.requires.valid.limits c.args.kind c.loop-i.i _
      c.group_at-group.ensures.group;
}

pub overflow_add-result : goal.overflow_add-result
overflow_add-result g c =
    let value = g.N.Exact.value in
    let m = robust value c.args.model.now in
    let names = names_in value c.group_at-group.result in
    omega (
      arith,
      found_within names c.args.name.now c.in-Some.k c.in-Some.ensures.found,
      kind_few m c.requires.valid.limits c.args.kind,
      count_of_more c.args.kind m c.loop-i.i c.loop-i.first names c.group_at-group.ensures.group
          c.loop-i.invariant.rest,
    )

pub returns-in-Some : goal.returns-in-Some
returns-in-Some g c =
    let value = g.N.Exact.value in
    let m = robust value c.args.model.now in
    let group = names_in value c.group_at-group.result in
    record {
      found = later_found c.loop-i.first group (names_left c.args.kind m (c.loop-i.i + 1))
          (names_left c.args.kind m c.loop-i.i) (names c.args.kind m) c.args.name.now c.in-Some.k
          (left_more c.args.kind m c.loop-i.i group c.group_at-group.ensures.group) c.loop-i.invariant.later
          c.in-Some.ensures.found;
    }

pub overflow_add-first : goal.overflow_add-first
overflow_add-first g c =
    let value = g.N.Exact.value in
    let m = robust value c.args.model.now in
    omega (
      arith,
      c.count-first.ensures.count,
      kind_few m c.requires.valid.limits c.args.kind,
      count_of_more c.args.kind m c.loop-i.i c.loop-i.first (names_in value c.group_at-group.result)
          c.group_at-group.ensures.group c.loop-i.invariant.rest,
    )

pub loop-i-preserved : goal.loop-i-preserved
loop-i-preserved g c =
    let value = g.N.Exact.value in
    let m = robust value c.args.model.now in
    let group = names_in value c.group_at-group.result in
    let count : length group ≡ c.count-first.result = sym c.count-first.ensures.count in
    record {
      later = subst (λ n. LaterOf (c.loop-i.first + n) (names_left c.args.kind m (c.loop-i.i + 1))
          (names c.args.kind m) c.args.name.now) count
          (later_missing c.loop-i.first group (names_left c.args.kind m (c.loop-i.i + 1))
          (names_left c.args.kind m c.loop-i.i) (names c.args.kind m) c.args.name.now
          (left_more c.args.kind m c.loop-i.i group c.group_at-group.ensures.group) c.loop-i.invariant.later
          c.in-None.ensures.found);
      rest = omega (
        arith,
        count,
        count_of_more c.args.kind m c.loop-i.i c.loop-i.first group c.group_at-group.ensures.group
            c.loop-i.invariant.rest,
      );
      end = c.loop-i.invariant.end;
    }

pub returns : goal.returns
returns g c =
    let value = g.N.Exact.value in
    let m = robust value c.args.model.now in
    record {
      found = later_none c.loop-i.first (names_left c.args.kind m c.loop-i.i) (names c.args.kind m) c.args.name.now
          (left_none c.args.kind m c.loop-i.i (omega (arith, c.loop-i.invariant.end, c.loop-i-test.false)))
          c.loop-i.invariant.later;
    }
