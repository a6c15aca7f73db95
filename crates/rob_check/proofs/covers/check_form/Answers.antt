use Rattle.std.proofs.Common.{arith, map, ◌∙◌}
use Rattle.rob_cert.specs.View.{cover_of}
use Rattle.rob_check.specs.Covers.{column_tests, sign_test}
use Rattle.rob_check.specs.LiftedSet.{lifted_of}
use Rattle.rob_check.specs.View.{covering_of}
use Rattle.rob_meaning.specs.Clearing.{fractions}
use Rattle.rob_check.proofs.VerdictLemmas.{goes, stops}
use Rattle.rob_check.proofs.covers.check_form.Goals as goal

pub returns-in-Accepted-clause-exact : goal.returns-in-Accepted-clause-exact
returns-in-Accepted-clause-exact g c =
    let value = g.N.Exact.value in
    let cover = covering_of value c.args.covering.now in
    let mine = map (cover_of value) c.args.mine.now in
    c.check_columns.ensures.exact
    ∙ goes (map (sign_test cover c.args.index) mine)
    (column_tests g.N.Exact.limit (lifted_of c.args.set.now) cover c.args.index (fractions c.args.form.now) mine)
    c.in-Accepted.ensures.exact

pub returns-in_default-clause-exact : goal.returns-in_default-clause-exact
returns-in_default-clause-exact g c =
    let value = g.N.Exact.value in
    let cover = covering_of value c.args.covering.now in
    let mine = map (cover_of value) c.args.mine.now in
    stops (map (sign_test cover c.args.index) mine)
    (column_tests g.N.Exact.limit (lifted_of c.args.set.now) cover c.args.index (fractions c.args.form.now) mine)
    c.check_signs.result c.in_default.not-Accepted c.check_signs.ensures.exact

pub returns-in_default-clause-counted : goal.returns-in_default-clause-counted
returns-in_default-clause-counted g c =
    record {
      ops = omega arith;
      wides = omega arith;
      rose = c.check_signs.ensures.rose (g.L.Ledger.wides c.args.ledger.now);
    }
