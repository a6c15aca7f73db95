use Rattle.std.proofs.Common.{◌≡◌, ◌∙◌, ℕ, ◌<◌, ◌≤◌, ◌+◌, sym, subst, refl, arith, length, pos, nat_abs, set, inl, inr, to_z, of_z, w64}
use Rattle.std.proofs.lemmas.Bool.{cases_lt}
use Rattle.std.proofs.lemmas.Int.{to_z-of_z}
use lib.IntN.{ℤ, neg_ℤ}
use Rattle.rob_linear.specs.Vectors.{at}
use Rattle.rob_table.specs.Tables.{row_at}
use Rattle.rob_table.proofs.RowMoves.{written_bounds}
use Rattle.rob_simplex.specs.Starts.{start_entry}
use Rattle.rob_simplex.proofs.Turns.StartLemmas.{entry_low, entry_within, largest_within}
use Rattle.rob_simplex.proofs.starting_rows.write_row.Goals as goal

pub returns-clause-bounded : goal.returns-clause-bounded
returns-clause-bounded g c =
    let n = length c.args.numbers.now in
    let w = length c.args.numbers.now + 4 in
    let one : 1 ≤ g.E.Entry.top = omega (arith, g.met.E.Entry.top_low) in
    let seen : to_z w64 (of_z w64 c.args.right) ≡ c.args.right = to_z-of_z w64 c.args.right c.ranges.right in
    let right : nat_abs (to_z w64 (of_z w64 c.args.right)) ≤ g.E.Entry.top =
    subst (λ (z : ℤ). nat_abs z ≤ g.E.Entry.top) (sym seen) (omega (arith, c.requires.right, g.met.E.Entry.top_low)) in
    let row =
    (λ (k : ℕ) (l : k < length c.args.numbers.now + 4).
    elim (cases_lt k (length c.args.numbers.now)) as
    (λ _. row_at c.write_behind.new.rows w c.args.i k ≡ start_entry n (at c.args.numbers.now) (neg_ℤ (pos 1))
    (to_z w64 (of_z w64 c.args.right)) k) [
      | inl h ↦ c.write_behind.ensures.others c.args.i k l (inr h) ∙ c.write_structural.ensures.entries k h
          ∙ sym (entry_low n (at c.args.numbers.now) (neg_ℤ (pos 1)) (to_z w64 (of_z w64 c.args.right)) k h)
      | inr h ↦ c.write_behind.ensures.entries k h l
    ]) in
    let small = (λ (k : ℕ) (l : k < length c.args.numbers.now + 4).
    subst (λ (z : ℤ). nat_abs z ≤ g.E.Entry.top) (sym (row k l))
    (entry_within n g.E.Entry.top (at c.args.numbers.now) (neg_ℤ (pos 1)) (to_z w64 (of_z w64 c.args.right))
    (λ k l. omega (arith, c.requires.within k l, g.met.E.Entry.top_low)) (omega (arith, one)) right one k)) in
    written_bounds g.E.Entry.top w c.args.rows.now c.write_behind.new.rows c.args.bounds.now
    (set c.args.bounds.now c.args.i c.largest.result) c.args.i c.largest.result c.requires.bounded
    (c.write_behind.ensures.size ∙ c.write_structural.ensures.size) c.requires.inside refl
    (largest_within g.E.Entry.top w c.largest.result (row_at c.write_behind.new.rows w c.args.i) small
    c.largest.ensures.reached) c.largest.ensures.bound
    (λ j k d l. c.write_behind.ensures.others j k l (inl d) ∙ c.write_structural.ensures.others j k d l)
