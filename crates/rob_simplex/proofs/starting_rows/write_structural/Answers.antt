use Rattle.std.proofs.Common.{◌≡◌, ◌<◌, ◌≤◌, ◌+◌, ◌-◌, ◌*◌, ◌^◌, arith, length, get_or, pos, nat_abs, inr, to_z, of_z, w64}
use Rattle.rob_linear.specs.Vectors.{at}
use Rattle.rob_number.proofs.CastLemmas.{seen_within}
use Rattle.rob_table.proofs.RowMoves.{written_more, written_elsewhere, set_size}
use Rattle.rob_simplex.proofs.starting_rows.write_structural.Goals as goal

pub loop-k-preserved : goal.loop-k-preserved
loop-k-preserved g c =
    let z = to_z w64 (of_z w64 (get_or c.args.numbers.now c.loop-k.k (pos 0))) in
    let small : nat_abs (get_or c.args.numbers.now c.loop-k.k (pos 0)) < 2 ^ 62 =
    c.requires.within c.loop-k.k c.loop-k-test.true in
    let seen : to_z w64 (of_z w64 (get_or c.args.numbers.now c.loop-k.k (pos 0))) ≡ get_or c.args.numbers.now c.loop-k.k
    (pos 0) = seen_within (2 ^ 62 - 1) (get_or c.args.numbers.now c.loop-k.k (pos 0)) (omega arith) (omega arith) in
    let ln : length c.loop-k.rows ≡ length c.args.rows.now = c.loop-k.invariant.size in
    let il : c.args.i * c.args.width + c.args.width ≤ length c.loop-k.rows = omega (arith, c.requires.inside) in
    let kl : c.loop-k.k < c.args.width = omega (arith, c.requires.room, c.loop-k-test.true) in
    record {
      done =
          λ j jk. written_more c.loop-k.rows c.args.rows.now c.args.width c.args.i c.loop-k.k z il kl
          c.write_number.new.rows c.write_number.ensures.written (at c.args.numbers.now) 0 seen
          (λ i l k. c.loop-k.invariant.done i k) j (omega arith) jk;
      same =
          λ j k d l. written_elsewhere c.loop-k.rows c.args.rows.now c.args.width c.args.i c.loop-k.k z il kl
          c.write_number.new.rows c.write_number.ensures.written j k l (inr d) (c.loop-k.invariant.same j k d l);
      size =
          set_size c.loop-k.rows c.write_number.new.rows (c.args.i * c.args.width + c.loop-k.k) z
          (length c.args.rows.now) c.loop-k.invariant.size c.write_number.ensures.written;
    }
