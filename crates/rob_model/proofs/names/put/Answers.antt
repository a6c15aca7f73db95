use Rattle.std.proofs.Common.{arith, length, ap, sym, ◌∙◌, ◌≡◌, ◌+◌, ◌-◌, rules}
use Rattle.std.specs.Prelude.{slice_get}
use Rattle.rob_model.specs.NameGroups.{names_in, names}
use Rattle.rob_model.specs.Spelling.{name_of}
use Rattle.rob_model.specs.View.{robust}
use Rattle.rob_model.proofs.NamingLemmas.{left_all, left_more, names_left, behind_group, told}
use Rattle.rob_model.proofs.NameCountLemmas.{group_few}
use Rattle.rob_model.proofs.names.put.Goals as goal

pub loop-i-init : goal.loop-i-init
loop-i-init g c =
    let m = robust g.N.Exact.value c.args.model.now in
    record {
      here = ap (λ ns. slice_get ns c.args.index) (left_all c.args.kind m);
      inside = omega (arith, c.requires.inside, ap length (left_all c.args.kind m));
      end = c.group_count-i-end.ensures.count;
      unchanged = search rules;
    }

pub count-count-requires : goal.count-count-requires
count-count-requires g c =
    let value = g.N.Exact.value in
    record {
      few = group_few (robust value c.args.model.now) c.requires.valid.limits c.args.kind c.loop-i.i
          (names_in value c.group_at-group.result) c.group_at-group.ensures.group;
    }

pub name-requires-clause-few : goal.name-requires-clause-few
name-requires-clause-few g c =
    let value = g.N.Exact.value in
    group_few (robust value c.args.model.now) c.requires.valid.limits c.args.kind c.loop-i.i
    (names_in value c.group_at-group.result) c.group_at-group.ensures.group

pub returns-then-left-count-clause-appended : goal.returns-then-left-count-clause-appended
returns-then-left-count-clause-appended g c =
    let value = g.N.Exact.value in
    let m = robust value c.args.model.now in
    let group = names_in value c.group_at-group.result in
    rw (← c.loop-i.invariant.unchanged)
    (told c.put.result group (names_left c.args.kind m (c.loop-i.i + 1)) (names_left c.args.kind m c.loop-i.i)
    (names c.args.kind m) c.loop-i.left c.args.index
    (name_of c.name.result) c.loop-i.out c.put.new.out
    (left_more c.args.kind m c.loop-i.i group c.group_at-group.ensures.group) c.name.ensures.name
    c.loop-i.invariant.here c.put.ensures.appended)

pub loop-i-preserved : goal.loop-i-preserved
loop-i-preserved g c =
    let value = g.N.Exact.value in
    let m = robust value c.args.model.now in
    let group = names_in value c.group_at-group.result in
    let count : length group ≡ c.count-count.result = sym c.count-count.ensures.count in
    let h = behind_group group (names_left c.args.kind m (c.loop-i.i + 1))
    (names_left c.args.kind m c.loop-i.i) c.loop-i.left
    (left_more c.args.kind m c.loop-i.i group c.group_at-group.ensures.group)
    (omega (arith, count, c.if-left-count.false)) c.loop-i.invariant.inside in
    record {
      here = ap (λ n. slice_get (names_left c.args.kind m (c.loop-i.i + 1)) (c.loop-i.left - n))
          c.count-count.ensures.count ∙ sym h.0 ∙ c.loop-i.invariant.here;
      inside = omega (arith, h.1, count);
      end = c.loop-i.invariant.end;
      unchanged = c.loop-i.invariant.unchanged;
    }
