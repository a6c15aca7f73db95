use Rattle.std.proofs.Common.{◌≡◌, ◌≤◌, ◌+◌, ◌*◌, length, arith, inr}
use Rattle.rob_table.specs.Lowering.{step_row}
use Rattle.rob_table.proofs.RowMoves.{written_more, written_elsewhere, set_size}
use Rattle.rob_table.proofs.lowering.write_steps.Goals as goal

pub loop-k-preserved : goal.loop-k-preserved
loop-k-preserved g c =
    let ln : length c.loop-k.rows ≡ length c.args.rows.now = c.loop-k.invariant.size in
    let il : c.args.i * c.args.width + c.args.width ≤ length c.loop-k.rows = omega (arith, c.requires.inside) in
    record {
      done =
          λ j jk. written_more c.loop-k.rows c.args.rows.now c.args.width c.args.i c.loop-k.k
          (g.E.Entry.value c.step_entry.result) il c.loop-k-test.true c.set.new.self c.set.ensures.written
          (step_row c.args.step.one c.args.step.place (g.E.Entry.value c.args.step.number)) 0 c.step_entry.ensures.value
          (λ i l k. c.loop-k.invariant.done i k) j (omega arith) jk;
      same =
          λ j k d kl. written_elsewhere c.loop-k.rows c.args.rows.now c.args.width c.args.i c.loop-k.k
          (g.E.Entry.value c.step_entry.result) il c.loop-k-test.true c.set.new.self c.set.ensures.written j k kl
          (inr d) (c.loop-k.invariant.same j k d kl);
      size =
          set_size c.loop-k.rows c.set.new.self (c.args.i * c.args.width + c.loop-k.k)
          (g.E.Entry.value c.step_entry.result) (length c.args.rows.now) c.loop-k.invariant.size c.set.ensures.written;
    }
