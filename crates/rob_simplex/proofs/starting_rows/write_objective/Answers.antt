use Rattle.std.proofs.Common.{◌≡◌, ◌∙◌, ◌<◌, ◌≤◌, ◌+◌, ◌*◌, arith, length, pos, inr, to_z, of_z, w64}
use Rattle.std.proofs.lemmas.Int.{ints}
use lib.IntN.{neg_ℤ}
use Rattle.rob_linear.specs.Vectors.{at}
use Rattle.rob_table.proofs.RowMoves.{written_more, written_elsewhere, set_size}
use Rattle.rob_simplex.specs.Starts.{start_entry}
use Rattle.rob_simplex.proofs.starting_rows.write_objective.Goals as goal

pub loop-k-preserved : goal.loop-k-preserved
loop-k-preserved g c =
    let w = length c.args.cost.now + 4 in
    let z = to_z w64 (of_z w64 c.cost_entry.result) in
    let f = start_entry (length c.args.cost.now) (λ k. neg_ℤ (at c.args.cost.now k)) (pos 0) (pos 0) in
    let seen : to_z w64 (of_z w64 c.cost_entry.result) ≡ c.cost_entry.result =
    omega (arith, ints, c.cost_entry.type_inv) in
    let ln : length c.loop-k.rows ≡ length c.args.rows.now = c.loop-k.invariant.size in
    let il : c.args.i * (length c.args.cost.now + 4) + (length c.args.cost.now + 4) ≤ length c.loop-k.rows =
    omega (arith, c.requires.inside) in
    let kl : c.loop-k.k < length c.args.cost.now + 4 = omega (arith, c.loop-k.auto.k-end, c.loop-k-test.true) in
    record {
      done =
          λ j jk. written_more c.loop-k.rows c.args.rows.now w c.args.i c.loop-k.k z il kl c.write_number.new.rows
          c.write_number.ensures.written f 0 (seen ∙ c.cost_entry.ensures.value) (λ i l k. c.loop-k.invariant.done i k)
          j (omega arith) jk;
      same =
          λ j k d l. written_elsewhere c.loop-k.rows c.args.rows.now w c.args.i c.loop-k.k z il kl
          c.write_number.new.rows c.write_number.ensures.written j k l (inr d) (c.loop-k.invariant.same j k d l);
      size =
          set_size c.loop-k.rows c.write_number.new.rows (c.args.i * (length c.args.cost.now + 4) + c.loop-k.k) z
          (length c.args.rows.now) c.loop-k.invariant.size c.write_number.ensures.written;
    }
