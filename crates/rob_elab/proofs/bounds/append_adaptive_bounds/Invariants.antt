use Rattle.std.specs.Prelude.{◌≡◌, zero}
use Rattle.rob_number.specs.Counts.{NeverFell}
use Rattle.rob_meaning.specs.Forms.{adaptive_forms}
use Rattle.rob_model.specs.View.{robust}
use Rattle.rob_elab.proofs.AppendLemmas.{FormProgress}
use Rattle.rob_elab.proofs.LeftLemmas.{other_rules}
use Rattle.rob_elab.proofs.bounds.append_adaptive_bounds.Given as goal

-- the forms of the adaptive variables so far are done
abbrev pub invariant-loop-rule : goal.invariant-loop-rule
invariant-loop-rule g l =
    let value = g.N.Exact.value in
    let m = robust value l.model in
    record {
      number : l.number ≡ l.rule-index;
      progress : FormProgress g.N.Exact.limit m (adaptive_forms zero m.adaptives)
          (other_rules value l.model.adaptives l.rule-index) l.fn.matrices l.matrices;
      counted : NeverFell g.L.Ledger.ops g.L.Ledger.wides l.fn.ledger l.ledger;
    }
