use Rattle.std.proofs.Common.{◌≡◌, ◌≤◌, ◌+◌, ◌*◌, length, arith}
use Rattle.rob_linear.specs.Vectors.{at}
use Rattle.rob_table.proofs.RowMoves.{copied_more, copied_rest, set_size}
use Rattle.rob_table.proofs.row_moves.copy_entries.Goals as goal

pub loop-k-preserved : goal.loop-k-preserved
loop-k-preserved g c =
    let ln : length c.loop-k.rows ≡ length c.args.rows.now = c.loop-k.invariant.size in
    let fl : c.args.from * c.args.width + c.args.width ≤ length c.loop-k.rows = omega (arith, c.requires.from_in) in
    let tl : c.args.to * c.args.width + c.args.width ≤ length c.loop-k.rows = omega (arith, c.requires.to_in) in
    record {
      done =
          copied_more c.loop-k.rows c.args.rows.now c.args.width c.args.from c.args.to c.loop-k.k fl tl
          c.loop-k-test.true c.loop-k.invariant.same c.copy_entry.new.rows c.copy_entry.ensures.copied
          c.loop-k.invariant.done;
      same =
          copied_rest c.loop-k.rows c.args.rows.now c.args.width c.args.from c.args.to c.loop-k.k fl tl
          c.loop-k-test.true c.loop-k.invariant.same c.copy_entry.new.rows c.copy_entry.ensures.copied;
      size =
          set_size c.loop-k.rows c.copy_entry.new.rows (c.args.to * c.args.width + c.loop-k.k)
          (at c.loop-k.rows (c.args.from * c.args.width + c.loop-k.k)) (length c.args.rows.now) c.loop-k.invariant.size
          c.copy_entry.ensures.copied;
    }
