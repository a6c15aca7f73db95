use Rattle.std.proofs.Common.{◌∙◌, ap, arith, length, pos}
use Rattle.std.proofs.lemmas.List.{ext_get_or, length-set}
use Rattle.rob_entries.proofs.WrittenRows.{one_more}
use Rattle.rob_entries.proofs.cells.Cells.deepened.Goals as goal

pub loop-k-preserved : goal.loop-k-preserved
loop-k-preserved g c = record {
  size = ap length c.set.ensures.written ∙ length-set c.loop-k.cells c.loop-k.k (g.E.Entry.value c.deeper.result)
      ∙ c.loop-k.invariant.size;
  done = one_more c.loop-k.cells c.set.new.self c.args.other.now c.loop-k.k (g.E.Entry.value c.deeper.result)
      c.loop-k.invariant.size (omega arith) c.set.ensures.written (c.deeper.ensures.value ∙ c.get.ensures.entry)
      c.loop-k.invariant.done;
}

pub returns : goal.returns
returns g c =
    record {
      same = ext_get_or (pos 0) c.loop-k.cells c.args.other.now c.loop-k.invariant.size
          (λ i l. c.loop-k.invariant.done i (omega arith));
    }
