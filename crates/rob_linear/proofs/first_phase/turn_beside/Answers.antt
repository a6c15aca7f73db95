use Rattle.rob_linear.proofs.KeptOut.BesideTurns.{least_is_other}
use Rattle.rob_linear.proofs.KeptOut.BesidePaths.{beside_turn, beside_leaves, beside_leaves_exact, exchanged_q}
use Rattle.rob_linear.proofs.KeptOut.BesideChoices.{enters_beside_or_none, beside_pivot_exists, least_or_none}
use Rattle.rob_linear.specs.Programs.{auxiliary_of}
use Rattle.rob_linear.specs.Paths.{auxiliary_column}
use Rattle.std.proofs.Common.{ap, inl, inr}
use Rattle.rob_linear.proofs.first_phase.turn_beside.Goals as goal

pub returns : goal.returns
returns c = record {
  stays = λ P k basis q f col p rows rows' t s v w l.
      let x = beside_turn P basis q f col p rows rows' s (k, t) v w l in
      ((basis, t, x.0), x.1);
  leaves = λ P k basis q f col rows rows' t s v w n.
      let x = beside_leaves P basis q f col rows rows' s (k, t) v w n in
      ((basis, t, x.0), x.1, x.2);
  leaves_exact = λ P basis q f col rows rows' r s. beside_leaves_exact P basis q f col rows rows' s r;
  goes_on = λ P q rows. elim (enters_beside_or_none P q rows) [
    | inl h ↦ inl (
      h.0,
      h.1,
      (beside_pivot_exists P q h.0 rows h.1.improving).0,
      (beside_pivot_exists P q h.0 rows h.1.improving).1,
      least_or_none (auxiliary_of P) (auxiliary_column P) (beside_pivot_exists P q h.0 rows h.1.improving).0,
    )
    | inr n ↦ inr n
  ];
  other = λ P basis q f col p rows rows' s v w.
      least_is_other P q col rows rows' s.inside s.below v.inside v.improving w p;
  row = λ q p rows. ap rows (exchanged_q q p);
}
