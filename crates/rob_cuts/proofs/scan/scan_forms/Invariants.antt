use Rattle.std.specs.Prelude.{◌≡◌}
use Rattle.rob_elab.specs.Forms.{IsForms}
use Rattle.rob_meaning.specs.RobustModel.{RobustModel}
use Rattle.rob_meaning.specs.WellFormed.{IsModel}
use Rattle.rob_number.specs.Counts.{NeverFell}
use Rattle.rob_sets.specs.SetForm.{IsSetForm}
use Rattle.rob_worst.specs.Finders.{IsFinder}
use Rattle.rob_cuts.specs.Scans.{KeptUpTo, vector_of}
use Rattle.rob_cuts.proofs.scan.scan_forms.Given as goal

-- the forms so far are kept
abbrev pub invariant-loop-form : goal.invariant-loop-form
invariant-loop-form g l = record {
  finder : IsFinder l.model.set.now l.finder;
  kept : (m : RobustModel) → IsModel m → IsForms m l.model.forms.now → IsSetForm m l.model.set.now
      → KeptUpTo m g.N.Exact.value (vector_of g.N.Exact.value l.target) l.form l.scale l.covers;
  wides : g.L.Ledger.wides l.ledger ≡ g.L.Ledger.wides l.fn.ledger;
  counted : NeverFell g.L.Ledger.ops g.L.Ledger.wides l.fn.ledger l.ledger;
}
