use Rattle.std.proofs.Common.{ℕ, ◌<◌, ◌≤◌, ◌+◌, ◌^◌, sym, subst, refl, arith, length, pos, nat_abs, set}
use Rattle.std.proofs.lemmas.Int.{ints}
use lib.IntN.{ℤ, neg_ℤ}
use Rattle.rob_linear.specs.Vectors.{at}
use Rattle.rob_table.specs.Tables.{row_at}
use Rattle.rob_table.proofs.RowMoves.{written_bounds}
use Rattle.rob_simplex.proofs.Turns.StartLemmas.{entry_within, largest_within}
use Rattle.rob_simplex.proofs.starting_rows.write_cost.Goals as goal

pub returns-clause-bounded : goal.returns-clause-bounded
returns-clause-bounded g c =
    let w = length c.args.cost.now + 4 in
    let one : 1 ≤ g.E.Entry.top = omega (arith, g.met.E.Entry.top_low) in
    let small = (λ (k : ℕ) (l : k < length c.args.cost.now + 4).
    subst (λ (z : ℤ). nat_abs z ≤ g.E.Entry.top) (sym (c.write_objective.ensures.row k l))
    (entry_within (length c.args.cost.now) g.E.Entry.top (λ j. neg_ℤ (at c.args.cost.now j)) (pos 0) (pos 0)
    (λ k l. let h : nat_abs (at c.args.cost.now k) < 2 ^ 62 =
    c.requires.within k l in omega (arith, ints, g.met.E.Entry.top_low)) (omega arith) (omega arith) one k)) in
    written_bounds g.E.Entry.top w c.args.rows.now c.write_objective.new.rows c.args.bounds.now
    (set c.args.bounds.now c.args.i c.largest.result) c.args.i c.largest.result c.requires.bounded
    c.write_objective.ensures.size c.requires.inside refl
    (largest_within g.E.Entry.top w c.largest.result (row_at c.write_objective.new.rows w c.args.i) small
    c.largest.ensures.reached) c.largest.ensures.bound c.write_objective.ensures.others
