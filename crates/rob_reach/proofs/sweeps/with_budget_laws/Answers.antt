use Rattle.std.proofs.Common.{refl}
use Rattle.rob_reach.proofs.NameLemmas.{set_row_names-with_budget}
use Rattle.rob_reach.proofs.SweepLemmas.{with_budget_model, with_budget_named, limit_here, limit_elsewhere, admits_more, bound_at_less}
use Rattle.rob_reach.proofs.sweeps.with_budget_laws.Goals as goal

pub returns : goal.returns
returns c = record {
  model = with_budget_model;
  named = with_budget_named;
  set_rows = set_row_names-with_budget;
  here = λ m k g limit members e. limit_here k g limit members m.set_lines e;
  elsewhere = λ m n k g other. limit_elsewhere n k g m.set_lines other;
  rest = λ m n g. refl;
  admits = admits_more;
  bound = bound_at_less;
}
