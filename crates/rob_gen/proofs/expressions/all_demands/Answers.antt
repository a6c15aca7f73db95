use Rattle.std.proofs.Common.{◌≡◌, sym, ◌∙◌, ap, arith}
use Rattle.rob_meaning.specs.Expressions.{parameter}
use Rattle.rob_gen.specs.Generated.{total}
use Rattle.rob_model.proofs.PartLemmas.{parameter_is}
use Rattle.rob_gen.proofs.TreeLemmas.{total_of}
use Rattle.rob_gen.proofs.expressions.all_demands.Goals as goal

pub returns-then-count-eq1 : goal.returns-then-count-eq1
returns-then-count-eq1 g c = record {
  made = parameter_is g.N.Exact.value 0 ∙ sym (ap (λ count. total count parameter)
      (let e : c.args.count ≡ 1 = omega arith in e));
}

pub returns : goal.returns
returns g c = record {
  made = total_of g.N.Exact.value parameter c.args.count c.add_demands.new.terms (omega (arith, c.requires.some))
      c.new-terms.ensures.empty c.in_ok-add_demands.ensures.made;
}
