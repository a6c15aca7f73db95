use Rattle.std.proofs.Common.{◌≡◌, ◌-◌, ◌+◌, [], ◌∷◌, ◌++◌, map}
use Rattle.rob_number.specs.Counts.{NeverFell}
use Rattle.std.specs.Prelude.{option_map}
use Rattle.rob_cert.specs.View.{item_of}
use Rattle.rob_check.specs.Conditions.{sum_test, sum_tests}
use Rattle.rob_check.specs.Sums.{numbers_from}
use Rattle.rob_check.specs.Verdicts.{verdict}
use Rattle.rob_model.specs.View.{sense_of}
use Rattle.rob_check.proofs.columns.check_sums.Given as goal

-- the sums so far are right, so the verdict is that on the columns that are left
abbrev pub invariant-loop-column : goal.invariant-loop-column
invariant-loop-column g l =
    let value = g.N.Exact.value in
    let test = sum_test g.N.Exact.limit l.forms.matrices (sense_of l.forms.sense) l.forms.columns
    (option_map value l.value) (map (item_of value) l.items) in
    record {
      rest : verdict (map test (numbers_from l.column ((l.forms.columns + 2) - l.column)) ++ test 0 ∷ [])
          ≡ verdict (sum_tests g.N.Exact.limit l.forms.matrices (sense_of l.forms.sense) l.forms.columns
          (option_map value l.value) (map (item_of value) l.items));
      counted : NeverFell g.L.Ledger.ops g.L.Ledger.wides l.fn.ledger l.ledger;
    }
