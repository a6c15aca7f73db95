use Rattle.std.proofs.Common.{List, ap, ◌∙◌, arith}
use Rattle.rob_syntax.specs.declared.syntax.Summand.{Summand}
use Rattle.rob_syntax.specs.declared.syntax.Syntax.TheVariants.{Sum}
use Rattle.rob_expand.proofs.Expanding.MakeLemmas.{one_left, more_left}
use Rattle.rob_expand.proofs.make.summed.Goals as goal

pub returns-then-len-gt1 : goal.returns-then-len-gt1
returns-then-len-gt1 c = record {
  sum =
      ap (λ (l : List Summand). Sum l) c.from.ensures
      ∙ more_left c.args.made.items c.len.result (c.len.ensures ∙ c.args.made.ok.0) (omega (arith, c.if-len-gt1.true));
}

pub returns-in-Some : goal.returns-in-Some
returns-in-Some c = record {
  sum = one_left c.args.made.items _ c.in-Some.only c.in-Some.ensures.items c.len.result
      (c.len.ensures ∙ c.args.made.ok.0) (omega (arith, c.if-len-gt1.false));
}
