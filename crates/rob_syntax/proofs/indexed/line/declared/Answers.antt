use Rattle.rob_syntax.proofs.Fronts.PartLemmas.{refused_up}
use Rattle.rob_syntax.proofs.Fronts.LineLemmas.{no_declared, no_declared_bounds, declared_found}
use Rattle.rob_syntax.proofs.indexed.line.declared.Goals as goal

pub returns-in_err-name : goal.returns-in_err-name
returns-in_err-name c =
    record { read = refused_up _ _ _ c.from_residual.ensures.1 no_declared c.in_err-name.ensures.read }

pub returns-in_err-bounds : goal.returns-in_err-bounds
returns-in_err-bounds c = record {
  read = refused_up _ _ _ c.from_residual-in_err-bounds.ensures.1 (no_declared_bounds c.in_ok-name.ensures.read)
      c.in_err-bounds.ensures.read;
}

pub returns : goal.returns
returns c = record { read = declared_found c.in_ok-name.ensures.read c.in_ok-bounds.ensures.read }
