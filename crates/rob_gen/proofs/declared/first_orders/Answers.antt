use Rattle.std.proofs.Common.{List, ℕ, ◌++◌, ◌∙◌, ap}
use Rattle.std.specs.Prelude.{codes}
use Rattle.rob_model.specs.View.{variable_of}
use Rattle.rob_gen.proofs.MadeLemmas.{first_order_is, one_item}
use Rattle.rob_gen.proofs.declared.first_orders.Goals as goal

pub returns-clause-made : goal.returns-clause-made
returns-clause-made g c =
    one_item g.N.Exact.value (variable_of g.N.Exact.value) c.new-list.result _ _ c.new-list.ensures.empty
    c.in_ok-push-2.ensures.appended
    (first_order_is g.N.Exact.value c.push.new.self c.whole-least.result
    (c.in_ok-push.ensures.appended ∙ ap (λ (xs : List ℕ). xs ++ codes "x") c.new-name.ensures.empty)
    c.whole-least.ensures.value)
