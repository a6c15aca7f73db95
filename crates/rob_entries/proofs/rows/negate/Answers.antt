use Rattle.std.proofs.Common.{◌≡◌, ◌∙◌, ap, arith, map, neg_ℤ}
use Rattle.rob_linear.specs.Vectors.{at}
use Rattle.rob_entries.proofs.MappedRows.{number_read, written_more, kept_behind}
use Rattle.rob_entries.proofs.rows.negate.Goals as goal

pub loop-k-preserved : goal.loop-k-preserved
loop-k-preserved g c =
    let k = c.loop-k.k in
    let value = g.E.Entry.value in
    let e : g.E.Entry.value c.index-row-k.result ≡ at (map g.E.Entry.value c.loop-k.row) c.loop-k.k =
    number_read g.E.Entry.value c.loop-k.row k c.index-row-k.result (omega arith) c.index-row-k.is in
    record {
      done =
          written_more value c.loop-k.row (λ j. neg_ℤ (at (map value c.args.row.now) j)) k c.minus.result
          (omega arith) c.loop-k.invariant.done
          (c.minus.ensures.value ∙ ap neg_ℤ (e ∙ c.loop-k.invariant.same k (omega arith)));
      same = kept_behind value c.loop-k.row (at (map value c.args.row.now)) k c.minus.result c.loop-k.invariant.same;
    }
