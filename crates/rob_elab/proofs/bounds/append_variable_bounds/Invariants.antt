use Rattle.std.specs.Prelude.{◌≡◌, zero}
use Rattle.rob_number.specs.Counts.{NeverFell}
use Rattle.rob_meaning.specs.Forms.{variable_forms}
use Rattle.rob_model.specs.View.{robust}
use Rattle.rob_elab.proofs.AppendLemmas.{FormProgress}
use Rattle.rob_elab.proofs.LeftLemmas.{other_variables}
use Rattle.rob_elab.proofs.bounds.append_variable_bounds.Given as goal

-- the forms of the variables so far are done
abbrev pub invariant-loop-variable : goal.invariant-loop-variable
invariant-loop-variable g l =
    let value = g.N.Exact.value in
    let m = robust value l.model in
    record {
      number : l.number ≡ l.variable-index;
      progress : FormProgress g.N.Exact.limit m (variable_forms zero m.variables)
          (other_variables value l.model.vars l.variable-index) l.fn.matrices l.matrices;
      counted : NeverFell g.L.Ledger.ops g.L.Ledger.wides l.fn.ledger l.ledger;
    }
