use Rattle.std.proofs.Common.{◌∙◌, arith, inl, inr, length, true, false}
use Rattle.std.proofs.lemmas.Bool.{cases_lt}
use Rattle.std.proofs.lemmas.List.{get_or_default, get_or_past}
use Rattle.rob_simplex.proofs.known_rows.is_any_known.Goals as goal

pub returns : goal.returns
returns c = record {
  none = λ off j. elim (cases_lt j (length c.args.known.now)) [
    | inl l ↦ get_or_default c.args.known.now j false true l ∙ c.loop-k.invariant off j (omega arith)
    | inr l ↦ get_or_past c.args.known.now j false l
  ];
}
