use Rattle.rob_syntax.proofs.Fronts.PartLemmas.{refused_up}
use Rattle.rob_syntax.proofs.Fronts.KindLemmas.{no_row, no_row_colon, no_demand, row_read}
use Rattle.rob_syntax.proofs.indexed.statement.row.Goals as goal

pub returns-in_err-name : goal.returns-in_err-name
returns-in_err-name c = record { read = refused_up _ _ _ c.from_residual.ensures.1 no_row c.in_err-name.ensures.read }

pub returns-in_default : goal.returns-in_default
returns-in_default c = record { read = no_row_colon c.in_ok-name.ensures.read c.in_default.ensures.read }

pub returns-in_err-sides : goal.returns-in_err-sides
returns-in_err-sides c = record {
  read = refused_up _ _ _ c.from_residual-in_err-sides.ensures.1
      (no_demand c.in_ok-name.ensures.read c.in-Some.ensures.read) c.in_err-sides.ensures.read;
}

pub returns : goal.returns
returns c = record { read = row_read c.in_ok-name.ensures.read c.in-Some.ensures.read c.in_ok-sides.ensures.read }
