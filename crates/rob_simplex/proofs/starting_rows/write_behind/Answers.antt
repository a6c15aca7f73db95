use Rattle.std.proofs.Common.{◌≡◌, ◌∙◌, ◌<◌, ◌≤◌, ◌+◌, ◌*◌, arith, length, pos, inl, inr, to_z, of_z, w64}
use Rattle.std.proofs.lemmas.Int.{ints}
use lib.IntN.{neg_ℤ}
use Rattle.rob_linear.specs.Vectors.{at}
use Rattle.rob_table.proofs.RowMoves.{written_more, written_elsewhere, set_size}
use Rattle.rob_simplex.specs.Starts.{start_entry}
use Rattle.rob_simplex.proofs.starting_rows.write_behind.Goals as goal

pub loop-k-preserved : goal.loop-k-preserved
loop-k-preserved g c =
    let w = length c.args.numbers.now + 4 in
    let z = to_z w64 (of_z w64 c.constraint_entry.result) in
    let f =
    start_entry (length c.args.numbers.now) (at c.args.numbers.now) (neg_ℤ (pos 1))
    (to_z w64 (of_z w64 c.args.right)) in
    let seen : to_z w64 (of_z w64 c.constraint_entry.result) ≡ c.constraint_entry.result =
    omega (arith, ints, c.constraint_entry.type_inv) in
    let ln : length c.loop-k.rows ≡ length c.args.rows.now = c.loop-k.invariant.size in
    let il : c.args.i * (length c.args.numbers.now + 4) + (length c.args.numbers.now + 4) ≤ length c.loop-k.rows =
    omega (arith, c.requires.inside) in
    let kl : c.loop-k.k < length c.args.numbers.now + 4 = omega (arith, c.loop-k.auto.k-end, c.loop-k-test.true) in
    let kn : length c.args.numbers.now ≤ c.loop-k.k = c.loop-k.auto.k in
    record {
      done =
          λ j lj jk. written_more c.loop-k.rows c.args.rows.now w c.args.i c.loop-k.k z il kl c.write_number.new.rows
          c.write_number.ensures.written f (length c.args.numbers.now) (seen ∙ c.constraint_entry.ensures.value)
          c.loop-k.invariant.done j lj jk;
      same =
          λ j k l d. written_elsewhere c.loop-k.rows c.args.rows.now w c.args.i c.loop-k.k z il kl
          c.write_number.new.rows c.write_number.ensures.written j k l
          (elim d [ inl o ↦ inr o | inr s ↦ inl (λ e. absurd (omega arith)) ]) (c.loop-k.invariant.same j k l d);
      size =
          set_size c.loop-k.rows c.write_number.new.rows (c.args.i * (length c.args.numbers.now + 4) + c.loop-k.k) z
          (length c.args.rows.now) c.loop-k.invariant.size c.write_number.ensures.written;
    }
