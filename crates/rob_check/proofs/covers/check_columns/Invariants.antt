use Rattle.std.proofs.Common.{◌≡◌, ◌-◌, [], ◌∷◌, ◌++◌, map}
use Rattle.rob_number.specs.Counts.{NeverFell}
use Rattle.rob_cert.specs.View.{cover_of}
use Rattle.rob_check.specs.Covers.{column_test, column_tests, constant_test}
use Rattle.rob_check.specs.LiftedSet.{lifted_of}
use Rattle.rob_check.specs.Sums.{numbers_from}
use Rattle.rob_check.specs.Verdicts.{verdict}
use Rattle.rob_check.specs.View.{covering_of}
use Rattle.rob_meaning.specs.Clearing.{fractions}
use Rattle.rob_check.proofs.covers.check_columns.Given as goal

-- the set columns so far are right, so the verdict is that on those that are left
abbrev pub invariant-loop-column : goal.invariant-loop-column
invariant-loop-column g l =
    let value = g.N.Exact.value in
    let limit = g.N.Exact.limit in
    let set = lifted_of l.set in
    let form = fractions l.form in
    let mine = map (cover_of value) l.mine in
    record {
      rest : verdict
          (map (column_test limit set (covering_of value l.covering) l.index form mine)
          (numbers_from l.column (l.set.columns - l.column))
          ++ constant_test limit set (covering_of value l.covering) l.index form mine ∷ [])
          ≡ verdict (column_tests limit set (covering_of value l.covering) l.index form mine);
      counted : NeverFell g.L.Ledger.ops g.L.Ledger.wides l.fn.ledger l.ledger;
    }
