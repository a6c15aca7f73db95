use Rattle.std.proofs.Common.{◌≡◌, length, arith}
use Rattle.std.proofs.lemmas.Result.{IfOk-weaker}
use Rattle.rob_linear.specs.Programs.{Program}
use Rattle.rob_rows.specs.LinearPrograms.{program_of}
use Rattle.rob_counterpart.proofs.Pairs.TabulateLemmas.{length-tabulate}
use Rattle.rob_solver.specs.Solving.{IsSolved}
use Rattle.rob_dualize.specs.Ending.{IsSolvedAs}
use Rattle.rob_dualize.specs.Told.{listed}
use Rattle.rob_dualize.specs.Wholes.{wholes, counterpart_of}
use Rattle.rob_dualize.proofs.CounterpartLists.{listed_same, reform_within}
use Rattle.rob_dualize.proofs.MakingLemmas.{has_stopped}
use Rattle.rob_dualize.proofs.Soundness.{can_be_told, form_fits, left_fits, right_fits, sense_small}
use Rattle.rob_dualize.proofs.ToldLemmas.{listed_is}
use Rattle.rob_dualize.proofs.route.solve_counterpart.Goals as goal

pub solve-requires-clause-ready : goal.solve-requires-clause-ready
solve-requires-clause-ready g c =
    can_be_told g.N.Exact.limit c.args.model.forms.now c.args.model.set.now g.met.N.Exact.limit_high
    c.requires.model.elaborated
    c.requires.model.few

pub solve-requires-clause-few : goal.solve-requires-clause-few
solve-requires-clause-few g c =
    let Q : Program = counterpart_of c.args.model.forms.now c.args.model.set.now in
    let n : length (listed Q).c ≡ Q.n = length-tabulate Q.n Q.c in
    let m : length (listed Q).b ≡ Q.m = length-tabulate Q.m Q.b in
    omega (arith, n, m, c.requires.model.few)

pub solve-requires-clause-numbers : goal.solve-requires-clause-numbers
solve-requires-clause-numbers g c =
    let limit = g.N.Exact.limit in
    let h = c.requires.model.elaborated.forms_fit in
    let k = c.requires.model.elaborated.set_fits in
    let Q : Program = counterpart_of c.args.model.forms.now c.args.model.set.now in
    reform_within (wholes c.args.model.forms.now c.args.model.set.now) limit
    (form_fits limit c.args.model.forms.now c.args.model.set.now h k)
    (left_fits limit c.args.model.forms.now c.args.model.set.now h k)
    (right_fits limit c.args.model.forms.now c.args.model.set.now h k)
    (sense_small limit c.args.model.forms.now g.met.N.Exact.limit_low) (listed Q) (listed_is Q)

pub returns-clause-solved : goal.returns-clause-solved
returns-clause-solved g c =
    let Q : Program = counterpart_of c.args.model.forms.now c.args.model.set.now in
    IfOk-weaker c.solve.result (IsSolved (program_of (listed Q))) (IsSolvedAs Q)
    (λ s h. record { program = program_of (listed Q); same = listed_same Q (listed Q) (listed_is Q); answer = h })
    c.solve.ensures.solved

pub returns-clause-stopped : goal.returns-clause-stopped
returns-clause-stopped g c =
    let Q : Program = counterpart_of c.args.model.forms.now c.args.model.set.now in
    has_stopped g.N.Exact.limit (program_of (listed Q)) Q (listed_same Q (listed Q) (listed_is Q)) c.solve.result
    c.solve.ensures.stopped c.solve.ensures.caused
