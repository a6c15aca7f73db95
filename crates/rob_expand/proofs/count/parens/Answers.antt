use Rattle.std.proofs.Common.{sym, ap, ◌∙◌}
use Rattle.rob_index.specs.Counting as counting
use Rattle.rob_expand.specs.Count.{is_closed}
use Rattle.rob_expand.specs.declared.count.Inside.{Inside}
use Rattle.rob_expand.proofs.count.parens.Goals as goal

pub returns-in-Sum : goal.returns-in-Sum
returns-in-Sum c = record {
  parens = λ limit. c.part_parens.ensures.parens limit
      ∙ ap (λ (i : Inside). counting.parens limit (is_closed i c.args.shape)) (sym c.in-Sum.is);
}

pub returns-in-Product : goal.returns-in-Product
returns-in-Product c = record {
  parens = λ limit. c.factor_parens.ensures.parens limit
      ∙ ap (λ (i : Inside). counting.parens limit (is_closed i c.args.shape)) (sym c.in-Product.is);
}
