use Rattle.std.proofs.Common.{suc, ◌++◌, List, map, ◌∙◌, ap}
use Rattle.rob_meaning.specs.Places.{tabulate}
use Rattle.rob_model.specs.View.{Signed, signed_of}
use Rattle.rob_gen.specs.Generated.{added, order, stock}
use Rattle.rob_gen.proofs.TreeLemmas.{sum_of}
use Rattle.rob_gen.proofs.expressions.cost.Goals as goal

pub returns : goal.returns
returns g c = record {
  made =
      sum_of g.N.Exact.value c.add_stocks.new.terms _
      (c.in_ok-add_stocks.ensures.made
      ∙ ap (λ (front : List Signed). front ++ tabulate c.args.count (λ place. added (stock (suc place))))
      (c.in_ok-add_orders.ensures.made
      ∙ ap (λ (front : List Signed). front ++ tabulate c.args.count (λ place. added (order place)))
      (ap (map (signed_of g.N.Exact.value)) c.new-terms.ensures.empty)));
}
