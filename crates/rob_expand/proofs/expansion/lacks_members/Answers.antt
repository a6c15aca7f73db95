use Rattle.std.proofs.Common.{List, [], ap, ◌∙◌}
use Rattle.std.proofs.lemmas.Result.{IfOk-weaker}
use Rattle.rob_settings.specs.declared.item.Item.{Item}
use Rattle.rob_expand.specs.Growing.{is_bare}
use Rattle.rob_expand.proofs.Expanding.ExpandLemmas.{lacks_budget, lacks_other}
use Rattle.rob_expand.proofs.expansion.lacks_members.Goals as goal

pub returns-in-Budget : goal.returns-in-Budget
returns-in-Budget c = record {
  lacks =
      IfOk-weaker c.are_bare.result _ _
      (λ b e own.
      e ∙ ap (λ (l : List Item). is_bare l []) c.items.ensures.list
      ∙ lacks_budget own c.args.statement.now _ c.args.line.now c.in-Budget.is c.requires.line) c.are_bare.ensures.bare;
}

pub returns-in_default : goal.returns-in_default
returns-in_default c = record { lacks = λ own. lacks_other own c.args.statement.now c.in_default.not-Budget }
