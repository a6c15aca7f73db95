use Rattle.std.proofs.Common.{◌≡◌, ◌≤◌, ◌+◌, ◌*◌, length, arith, pos}
use Rattle.rob_table.proofs.Places.{row_within}
use Rattle.rob_table.proofs.RowMoves.{emptied_more, emptied_rest, set_size}
use Rattle.rob_table.proofs.row_moves.empty_place.Goals as goal

pub loop-i-preserved : goal.loop-i-preserved
loop-i-preserved g c =
    let ln : length c.loop-i.rows ≡ length c.args.rows.now = c.loop-i.invariant.size in
    let rw : c.loop-i.i * c.args.width + c.args.width ≤ c.args.count * c.args.width =
    row_within c.args.count c.args.width c.loop-i.i c.loop-i-test.true in
    let il : c.loop-i.i * c.args.width + c.args.width ≤ length c.loop-i.rows = omega (arith, c.requires.inside) in
    record {
      zero =
          emptied_more c.loop-i.rows c.args.rows.now c.args.width c.loop-i.i c.args.place il c.requires.place_in
          c.write_number.new.rows c.write_number.ensures.written c.loop-i.invariant.zero;
      same =
          emptied_rest c.loop-i.rows c.args.rows.now c.args.width c.loop-i.i c.args.place il c.requires.place_in
          c.write_number.new.rows c.write_number.ensures.written c.loop-i.invariant.same;
      size =
          set_size c.loop-i.rows c.write_number.new.rows (c.loop-i.i * c.args.width + c.args.place) (pos 0)
          (length c.args.rows.now) c.loop-i.invariant.size c.write_number.ensures.written;
    }
