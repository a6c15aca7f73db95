use Rattle.std.proofs.Common.{◌≡◌, ◌∙◌, arith, map, ◌*ℤ◌}
use Rattle.rob_linear.specs.Vectors.{at}
use Rattle.rob_entries.proofs.MappedRows.{number_read, alone_narrow, alone_read, written_more, kept_behind}
use Rattle.rob_entries.proofs.updates.scale_entries.Goals as goal

pub fused-requires : goal.fused-requires
fused-requires g c =
    let k = c.loop-k.k in
    let value = g.E.Entry.value in
    let a : g.E.Entry.value c.index-row-k.result ≡ at (map g.E.Entry.value c.loop-k.row) c.loop-k.k =
    number_read value c.loop-k.row k c.index-row-k.result (omega arith) c.index-row-k.is in
    record {
      narrow = alone_narrow g.E.Entry.top (value c.args.p) (value c.index-row-k.result) (value c.of-zero.result) _
          (a ∙ c.loop-k.invariant.same k (omega arith)) c.of-zero.ensures.value
          (c.requires.narrow k c.loop-k-test.true);
    }

pub loop-k-preserved : goal.loop-k-preserved
loop-k-preserved g c =
    let k = c.loop-k.k in
    let value = g.E.Entry.value in
    let a : g.E.Entry.value c.index-row-k.result ≡ at (map g.E.Entry.value c.loop-k.row) c.loop-k.k =
    number_read value c.loop-k.row k c.index-row-k.result (omega arith) c.index-row-k.is in
    record {
      done =
          written_more value c.loop-k.row (λ j. value c.args.p *ℤ at (map value c.args.row.now) j) k c.fused.result
          (omega arith) c.loop-k.invariant.done
          (alone_read (value c.fused.result) (value c.args.p) (value c.index-row-k.result) (value c.of-zero.result)
          (at (map value c.args.row.now) k) c.fused.ensures.value (a ∙ c.loop-k.invariant.same k (omega arith))
          c.of-zero.ensures.value);
      same = kept_behind value c.loop-k.row (at (map value c.args.row.now)) k c.fused.result c.loop-k.invariant.same;
    }
