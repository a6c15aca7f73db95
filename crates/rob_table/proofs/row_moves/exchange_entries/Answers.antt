use Rattle.std.proofs.Common.{◌≡◌, ◌≤◌, ◌+◌, ◌*◌, length, arith}
use Rattle.rob_linear.specs.Vectors.{at}
use Rattle.rob_table.proofs.RowMoves.{exchanged_more, exchanged_rest, swap_size}
use Rattle.rob_table.proofs.row_moves.exchange_entries.Goals as goal

pub loop-k-preserved : goal.loop-k-preserved
loop-k-preserved g c =
    let ln : length c.loop-k.rows ≡ length c.args.rows.now = c.loop-k.invariant.size in
    let al : c.args.a * c.args.width + c.args.width ≤ length c.loop-k.rows = omega (arith, c.requires.a_in) in
    let bl : c.args.b * c.args.width + c.args.width ≤ length c.loop-k.rows = omega (arith, c.requires.b_in) in
    record {
      done =
          exchanged_more c.loop-k.rows c.args.rows.now c.args.width c.args.a c.args.b c.loop-k.k al bl
          c.loop-k-test.true c.loop-k.invariant.done c.loop-k.invariant.same c.swap.new.self c.swap.ensures.swapped;
      same =
          exchanged_rest c.loop-k.rows c.args.rows.now c.args.width c.args.a c.args.b c.loop-k.k al bl
          c.loop-k-test.true c.loop-k.invariant.same c.swap.new.self c.swap.ensures.swapped;
      size =
          swap_size c.loop-k.rows c.swap.new.self (c.args.a * c.args.width + c.loop-k.k)
          (c.args.b * c.args.width + c.loop-k.k) (at c.loop-k.rows (c.args.b * c.args.width + c.loop-k.k))
          (at c.loop-k.rows (c.args.a * c.args.width + c.loop-k.k)) (length c.args.rows.now) c.loop-k.invariant.size
          c.swap.ensures.swapped;
    }
