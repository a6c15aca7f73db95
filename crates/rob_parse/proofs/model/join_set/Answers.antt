use Rattle.std.proofs.Common.{◌≡◌, length, map, take, ap, sym, ◌∙◌, arith, append-nil, subst, get_or, ◌++◌}
use Rattle.rob_meaning.specs.RobustModel.{in_set}
use Rattle.rob_model.specs.View.{parameter_of}
use Rattle.rob_parse.proofs.Sets.JoinLemmas.{join_step, same_end}
use Rattle.rob_algebra.proofs.ListLemmas.{long_enough}
use Rattle.rob_parse.proofs.model.join_set.Goals as goal

pub loop-k-init : goal.loop-k-init
loop-k-init g c = sym (append-nil (map (parameter_of g.N.Exact.value) c.args.params.now))

pub offset_bounds-items-k : goal.offset_bounds-items-k
offset_bounds-items-k g c =
    let long = long_enough (parameter_of g.N.Exact.value) c.args.params.now c.loop-k.params _ c.loop-k.invariant in
    omega (arith, long, ap length c.items.ensures.list, c.loop-k-test.true, c.requires.count)

pub bounds-items-k : goal.bounds-items-k
bounds-items-k g c =
    let long = long_enough (parameter_of g.N.Exact.value) c.args.params.now c.loop-k.params _ c.loop-k.invariant in
    omega (arith, long, ap length c.items.ensures.list, c.loop-k-test.true, c.requires.count)

pub loop-k-preserved : goal.loop-k-preserved
loop-k-preserved g c =
    let long = long_enough (parameter_of g.N.Exact.value) c.args.params.now c.loop-k.params _ c.loop-k.invariant in
    join_step (parameter_of g.N.Exact.value) (in_set c.args.set.now) c.args.params.now c.loop-k.params c.loop-k.k
    c.index-items-k.result c.in_ok-param.param
    (omega (arith, c.loop-k-test.true, c.requires.count)) (omega (arith, long, c.loop-k-test.true, c.requires.count))
    c.loop-k.invariant
    (subst (λ l. c.index-items-k.result ≡ get_or l c.loop-k.k c.index-items-k.result) c.items.ensures.list
    c.index-items-k.is) c.in_ok-param.ensures.parameter c.in_ok-push.ensures.appended

pub returns : goal.returns
returns g c =
    record {
      joint =
          c.loop-k.invariant
          ∙ ap (λ n. map (parameter_of g.N.Exact.value) c.args.params.now ++ map (in_set c.args.set.now)
          (take n (map (parameter_of g.N.Exact.value) c.args.params.now)))
          (same_end c.loop-k.k c.args.count c.loop-k.auto.k-end c.loop-k-test.false);
    }
