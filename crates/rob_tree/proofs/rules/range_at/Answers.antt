use Rattle.std.proofs.Common.{ap, sym, ◌∙◌}
use Rattle.std.specs.Prelude.{Some, option_map}
use Rattle.rob_reach.specs.Ranges.{range_between}
use Rattle.rob_tree.proofs.Numbers.RangeLemmas.{lacks_upper, range_here, range_past}
use Rattle.rob_tree.proofs.rules.range_at.Goals as goal

pub returns-in-Some-Some : goal.returns-in-Some-Some
returns-in-Some-Some g c =
    let value = g.N.Exact.value in
    record {
      range = range_here value c.items.result.now c.args.model.now.vars c.args.column
          c.items.ensures.list c.in-Some.var.now
          c.range.result c.in-Some.ensures.lookup.3.0 (c.in-Some.ensures.lookup.3.1 c.in-Some.var.now)
          (c.range.ensures.range
          ∙ ap (λ l. range_between (option_map value l) (Some (value c.in-Some-Some.upper))) (sym c.in-Some-Some.is-0)
          ∙ ap (λ u. range_between (option_map value c.in-Some.var.now.lower) (option_map value u))
          (sym c.in-Some-Some.is-1));
    }

pub returns-in_default : goal.returns-in_default
returns-in_default g c =
    let value = g.N.Exact.value in
    record {
      range = range_here value c.items.result.now c.args.model.now.vars c.args.column
          c.items.ensures.list c.in-Some.var.now
          1 c.in-Some.ensures.lookup.3.0 (c.in-Some.ensures.lookup.3.1 c.in-Some.var.now)
          (lacks_upper (option_map value c.in-Some.var.now.lower)
          ∙ ap (λ u. range_between (option_map value c.in-Some.var.now.lower) (option_map value u))
          (sym c.in_default.is-1));
    }

pub returns-in_default-2 : goal.returns-in_default-2
returns-in_default-2 g c =
    let value = g.N.Exact.value in
    record {
      range = range_here value c.items.result.now c.args.model.now.vars c.args.column
          c.items.ensures.list c.in-Some.var.now
          1 c.in-Some.ensures.lookup.3.0 (c.in-Some.ensures.lookup.3.1 c.in-Some.var.now)
          (ap (λ l. range_between (option_map value l) (option_map value c.in-Some.var.now.upper))
          (sym c.in_default.is-0));
    }

pub returns-in-None : goal.returns-in-None
returns-in-None g c = record {
  range = range_past g.N.Exact.value c.items.result.now c.args.model.now.vars c.args.column c.items.ensures.list
      c.in-None.ensures.lookup.3;
}
