use Rattle.std.proofs.Common.{◌≡◌, length, map, drop}
use Rattle.rob_number.specs.Counts.{NeverFell}
use Rattle.rob_cert.specs.View.{cover_of}
use Rattle.rob_check.specs.Covers.{cover_tests}
use Rattle.rob_check.specs.LiftedSet.{lifted_of}
use Rattle.rob_check.specs.Verdicts.{verdict}
use Rattle.rob_check.specs.View.{HasColumns, covering_of}
use Rattle.rob_check.proofs.RunLemmas.{IsRest}
use Rattle.rob_elab.specs.Forms.{MatrixFits}
use Rattle.rob_meaning.specs.Places.{Each}
use Rattle.rob_check.proofs.covers.check_covers.Given as goal

-- the forms so far are covered, so the verdict is that on those that are left; the multipliers that are left are theirs
abbrev pub invariant-loop-index : goal.invariant-loop-index
invariant-loop-index g l =
    let value = g.N.Exact.value in
    record {
      rest : verdict
          (cover_tests g.N.Exact.limit (lifted_of l.set) (covering_of value l.covering) l.index
          (drop l.index l.forms.matrices))
          ≡ verdict (cover_tests g.N.Exact.limit (lifted_of l.set) (covering_of value l.covering) 0 l.forms.matrices);
      left : IsRest (length l.set.rows) l.index (map (cover_of value) l.covering.covers.now)
          (map (cover_of value) l.rest);
      fits : Each (MatrixFits g.N.Exact.limit) (drop l.index l.forms.matrices);
      columns : Each (HasColumns (length l.covering.columns.now)) (drop l.index l.forms.matrices);
      counted : NeverFell g.L.Ledger.ops g.L.Ledger.wides l.fn.ledger l.ledger;
    }
