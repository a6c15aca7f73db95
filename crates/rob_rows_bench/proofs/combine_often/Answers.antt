use Rattle.std.proofs.Common.{◌≤◌, nat_abs, arith}
use Rattle.std.proofs.lemmas.Int.{ints}
use Rattle.rob_number.specs.Lowest.{limit_of}
use Rattle.rob_rows_bench.proofs.combine_often.Goals as goal

pub combine-requires-clause-p_within : goal.combine-requires-clause-p_within
unfolding limit_of
combine-requires-clause-p_within c =
    let h : nat_abs c.within-p.result ≤ 4611686018427387903 = c.within-p.ensures.within in
    omega (arith, ints)

pub combine-requires-clause-q_within : goal.combine-requires-clause-q_within
unfolding limit_of
combine-requires-clause-q_within c =
    let h : nat_abs c.within-q.result ≤ 4611686018427387903 = c.within-q.ensures.within in
    omega (arith, ints)

pub combine-requires-clause-rows : goal.combine-requires-clause-rows
unfolding limit_of
combine-requires-clause-rows c = record {
  top_length = omega arith;
  low_length = omega arith;
  top_within = c.requires.top_within;
  low_within = c.requires.low_within;
}
