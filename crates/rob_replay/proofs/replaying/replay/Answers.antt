use Rattle.std.proofs.Common.{ap, sym, ◌∙◌, map, List, Ok}
use Rattle.csv.specs.Records.{Row, fields_of}
use Rattle.rob_model.specs.View.{plan_of, robust}
use Rattle.rob_replay.proofs.OutcomeLemmas.{file_refuses, outcome_first}
use Rattle.rob_replay.proofs.TableLemmas.{exact_refusal, exact_table, file_shows, file_table}
use Rattle.rob_replay.specs.Outcome.{outcome}
use Rattle.rob_replay.specs.View.{line_of}
use Rattle.rob_replay.proofs.replaying.replay.Goals as goal

-- the file is refused
refused : goal.returns-in-Err-replay_rows-clause-refused
refused g c =
    let limit = g.N.Exact.limit in
    let m = robust g.N.Exact.value c.args.model.now in
    let plan = plan_of g.N.Exact.value c.args.plan.now in
    let (rows, is, first) = c.in-Ok.ensures.rows in
    file_refuses (outcome limit m plan) c.args.text.now
    (outcome limit m plan (map fields_of c.as_slice.result.now)) rows is
    (ap (λ (rs : List Row). outcome limit m plan (map fields_of rs)) c.as_slice.ensures.value
    ∙ ap (outcome limit m plan) first ∙ outcome_first limit m plan rows)
    c.in-Err-replay_rows.error c.in-Err-replay_rows.ensures.lines

pub returns-in-Err-replay_rows-clause-refused : goal.returns-in-Err-replay_rows-clause-refused
returns-in-Err-replay_rows-clause-refused g c = refused g c

pub returns-in-Err-replay_rows-clause-exact : goal.returns-in-Err-replay_rows-clause-exact
returns-in-Err-replay_rows-clause-exact g c rows file =
    exact_refusal
    (outcome g.N.Exact.limit (robust g.N.Exact.value c.args.model.now) (plan_of g.N.Exact.value c.args.plan.now))
    c.args.text.now
    c.in-Err-replay_rows.error (refused g c) rows file

-- the file gives the table
given : goal.returns-clause-table
given g c =
    let limit = g.N.Exact.limit in
    let m = robust g.N.Exact.value c.args.model.now in
    let plan = plan_of g.N.Exact.value c.args.plan.now in
    let (rows, is, first) = c.in-Ok.ensures.rows in (
      rows,
      is,
      sym (ap (λ (rs : List Row). outcome limit m plan (map fields_of rs)) c.as_slice.ensures.value
          ∙ ap (outcome limit m plan) first ∙ outcome_first limit m plan rows)
          ∙ c.in-Ok-replay_rows.ensures.lines,
    )

pub returns-clause-table : goal.returns-clause-table
returns-clause-table g c = given g c

pub returns-clause-replayed : goal.returns-clause-replayed
returns-clause-replayed g c =
    file_table g.N.Exact.limit (robust g.N.Exact.value c.args.model.now) c.requires.valid.well_formed
    (plan_of g.N.Exact.value c.args.plan.now) c.args.text.now
    (map (line_of g.N.Exact.value) c.in-Ok-replay_rows.lines) (given g c)

pub returns-clause-bounded : goal.returns-clause-bounded
returns-clause-bounded g c bound =
    file_shows g.N.Exact.limit (robust g.N.Exact.value c.args.model.now) c.requires.valid.well_formed
    (plan_of g.N.Exact.value c.args.plan.now) (g.N.Exact.value c.args.plan.now.bound) bound c.args.text.now
    (map (line_of g.N.Exact.value) c.in-Ok-replay_rows.lines) (given g c)

pub returns-clause-exact : goal.returns-clause-exact
returns-clause-exact g c rows file =
    exact_table
    (outcome g.N.Exact.limit (robust g.N.Exact.value c.args.model.now) (plan_of g.N.Exact.value c.args.plan.now))
    c.args.text.now
    (Ok (map (line_of g.N.Exact.value) c.in-Ok-replay_rows.lines)) (given g c) rows file
