use Rattle.std.proofs.Common.{◌<◌, ◌≤◌, length, sym, ap, ◌∙◌, arith}
use Rattle.rob_rules.specs.Stages.{padded}
use Rattle.rob_rules.proofs.Joining.PaddedLemmas.{padded_more, padded_all}
use Rattle.rob_rules.proofs.lines.pad.Goals as goal

pub loop-value-preserved : goal.loop-value-preserved
loop-value-preserved g c =
    let few : length c.loop-value.list.items < c.args.count = omega (arith, c.loop-value.list.ok.0) in
    ap (padded c.args.count c.args.value) c.in_ok-push.ensures.items
    ∙ padded_more c.args.count c.args.value c.loop-value.list.items few ∙ c.loop-value.invariant

pub returns : goal.returns
returns g c =
    let enough : c.args.count ≤ length c.loop-value.list.items = omega (arith, c.loop-value.list.ok.0) in
    record {
      padded =
          sym (padded_all c.args.count c.args.value c.loop-value.list.items enough) ∙ c.loop-value.invariant;
    }
