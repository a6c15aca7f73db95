use Rattle.std.proofs.Common.{arith, ap, ◌∙◌, add-one}
use Rattle.rob_meaning.specs.Places.{tabulate}
use Rattle.rob_sets.specs.Appending.{row_of}
use Rattle.rob_sets.specs.Tables.{numbers_of}
use Rattle.rob_sets.proofs.WholeRows.RowLemmas.{parameter_more, lift_more}
use Rattle.rob_sets.proofs.row.row_numbers.Goals as goal

pub loop-k-preserved : goal.loop-k-preserved
loop-k-preserved g c =
    let value = g.N.Exact.value in
    let row = row_of (numbers_of value c.args.table.now) in
    record {
      numbers = parameter_more value c.loop-k.numbers.items c.push-in-loop-k.new.self.items c.number-number.result
          c.loop-k.k row.limit row.on_parameters
          c.loop-k.invariant.numbers c.in_ok-push-2.ensures.items
          (c.number-number.ensures.value ∙ ap (λ n. numbers_of value c.args.table.now n 0) (add-one c.loop-k.k));
      counted = record {
        ops = omega (arith, c.loop-k.invariant.counted.ops, c.number-number.ensures.counted.ops);
        wides = omega (arith, c.loop-k.invariant.counted.wides, c.number-number.ensures.counted.wides);
      };
    }

pub loop-t-preserved : goal.loop-t-preserved
loop-t-preserved g c =
    let value = g.N.Exact.value in
    let row = row_of (numbers_of value c.args.table.now) in
    record {
      numbers = lift_more value c.loop-t.numbers.items c.push-in-loop-t.new.self.items
          c.number-number-in-loop-t.result c.loop-t.t
          (tabulate c.args.parameters row.on_parameters) row.limit row.on_lifts
          c.loop-t.invariant.numbers c.in_ok-push-3.ensures.items
          (c.number-number-in-loop-t.ensures.value
          ∙ ap (λ n. numbers_of value c.args.table.now 0 n) (add-one c.loop-t.t));
      counted = record {
        ops = omega (arith, c.loop-t.invariant.counted.ops, c.number-number-in-loop-t.ensures.counted.ops);
        wides = omega (arith, c.loop-t.invariant.counted.wides, c.number-number-in-loop-t.ensures.counted.wides);
      };
    }
