use Rattle.std.proofs.Common.{◌≡◌, ◌≤◌, ◌+◌, ◌*◌, ◌∙◌, length, arith, inr, pos}
use Rattle.rob_table.proofs.RowMoves.{row_more, zero_elsewhere, set_size}
use Rattle.rob_table.proofs.row_moves.empty_row.Goals as goal

pub loop-k-preserved : goal.loop-k-preserved
loop-k-preserved g c =
    let ln : length c.loop-k.rows ≡ length c.args.rows.now = c.loop-k.invariant.size in
    let il : c.args.i * c.args.width + c.args.width ≤ length c.loop-k.rows = omega (arith, c.requires.inside) in
    record {
      zero =
          row_more c.loop-k.rows c.args.rows.now c.args.width c.args.i c.loop-k.k il c.loop-k-test.true
          c.write_number.new.rows c.write_number.ensures.written c.loop-k.invariant.zero;
      same =
          λ j k d kl. zero_elsewhere c.loop-k.rows c.args.rows.now c.args.width c.args.i c.loop-k.k il
          c.loop-k-test.true c.write_number.new.rows c.write_number.ensures.written j k kl (inr d)
          ∙ c.loop-k.invariant.same j k d kl;
      size =
          set_size c.loop-k.rows c.write_number.new.rows (c.args.i * c.args.width + c.loop-k.k) (pos 0)
          (length c.args.rows.now) c.loop-k.invariant.size c.write_number.ensures.written;
    }
