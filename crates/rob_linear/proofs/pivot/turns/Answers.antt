use Rattle.rob_linear.proofs.Bases.Lexical.{turn_keeps_order, turn_rises}
use Rattle.rob_linear.proofs.Bases.Turns.{rows_turn, turn_unique}
use Rattle.rob_linear.proofs.Bases.Solutions.{tags_in}
use Rattle.rob_linear.proofs.pivot.turns.Goals as goal

pub returns : goal.returns
returns c = record {
  order = λ S own own' rows rows' e col g. turn_keeps_order S own own' rows rows' e col (tags_in S g) g.last;
  rises = turn_rises;
  bases = rows_turn;
  one = turn_unique;
}
