use Rattle.std.proofs.Common.{◌≡◌, ◌<◌, arith, ap, subst, sym, ◌∙◌, length, map, drop, take, ◌-◌, None, Some, Ok, MatchResult, List, ℕ, Result, option_map}
use Rattle.std.proofs.lemmas.Bool.Decides.{nat_tests}
use Rattle.std.proofs.lemmas.List.{length-map}
use Rattle.csv.specs.Records.{Row, fields_of}
use Rattle.rob_meaning.specs.RobustModel.{Parameter}
use Rattle.rob_model.specs.Naming.{parameter_names}
use Rattle.rob_model.specs.View.{parameter_of, plan_of, robust}
use Rattle.rob_model.specs.declared.model.Param.{Param}
use Rattle.rob_replay.proofs.OutcomeLemmas.{outcome_headless, outcome_many, outcome_table, places_count, rest_count, rest_whole, rows_split}
use Rattle.rob_replay.specs.Headers.{header_places}
use Rattle.rob_replay.specs.Lines.{Line}
use Rattle.rob_replay.specs.Outcome.{Refusal, outcome, records_outcome}
use Rattle.rob_replay.specs.View.{Refuses, line_of}
use Rattle.rob_replay.proofs.replaying.replay_rows.Goals as goal

pub returns-then-rows-gt10001-clause-lines : goal.returns-then-rows-gt10001-clause-lines
returns-then-rows-gt10001-clause-lines g c =
    let value = g.N.Exact.value in
    let m = robust value c.args.model.now in
    let plan = plan_of value c.args.plan.now in
    let rows = c.args.rows.now in
    let header = fields_of c.index-rows-0.result in
    let some : 0 < length rows = omega (arith, c.if-rows-gt10001.true) in
    let found : header_places header (parameter_names m) ≡ Some c.in-Ok-Some.places =
    sym (c.in-Ok-Some.ensures.places
    ∙ ap (λ (ds : List (Param g.row.N.Denot)).
    header_places header (map (λ (d : Parameter). d.name) (map (parameter_of value) ds))) c.items.ensures.list)
    ∙ ap (option_map (λ (ks : List ℕ). ks)) c.in-Ok-Some.field-0-is in
    ap (outcome g.N.Exact.limit m plan) (rows_split fields_of rows c.index-rows-0.result some c.index-rows-0.is)
    ∙ outcome_many g.N.Exact.limit m plan header (map fields_of (drop 1 rows)) c.in-Ok-Some.places found
    (omega (arith, c.if-rows-gt10001.true, rest_count fields_of rows))

pub replay_records-requires-clause-places : goal.replay_records-requires-clause-places
replay_records-requires-clause-places g c =
    let value = g.N.Exact.value in
    let params = c.args.model.now.params in
    let m = robust value c.args.model.now in
    let header = fields_of c.index-rows-0.result in
    let found : header_places header (parameter_names m) ≡ Some c.in-Ok-Some.places =
    sym (c.in-Ok-Some.ensures.places
    ∙ ap (λ (ds : List (Param g.row.N.Denot)).
    header_places header (map (λ (d : Parameter). d.name) (map (parameter_of value) ds))) c.items.ensures.list)
    ∙ ap (option_map (λ (ks : List ℕ). ks)) c.in-Ok-Some.field-0-is in
    ap length c.items-in-Ok-Some.ensures.list
    ∙ places_count header (parameter_names m) c.in-Ok-Some.places found
    ∙ length-map (map (parameter_of value) params) (λ (d : Parameter). d.name)
    ∙ length-map params (parameter_of value)

pub returns-in-Ok-None-clause-lines : goal.returns-in-Ok-None-clause-lines
returns-in-Ok-None-clause-lines g c =
    let value = g.N.Exact.value in
    let m = robust value c.args.model.now in
    let plan = plan_of value c.args.plan.now in
    let rows = c.args.rows.now in
    let header = fields_of c.index-rows-0.result in
    let some : 0 < length rows = grind (arith, nat_tests) in
    let found : header_places header (parameter_names m) ≡ None =
    sym (c.in-Ok-None.ensures.places
    ∙ ap (λ (ds : List (Param g.row.N.Denot)).
    header_places header (map (λ (d : Parameter). d.name) (map (parameter_of value) ds))) c.items.ensures.list)
    ∙ ap (option_map (λ (ks : List ℕ). ks)) c.in-Ok-None.field-0-is in
    ap (outcome g.N.Exact.limit m plan) (rows_split fields_of rows c.index-rows-0.result some c.index-rows-0.is)
    ∙ outcome_headless g.N.Exact.limit m plan header (map fields_of (drop 1 rows)) found

pub returns-else-rows-gt10001-clause-lines : goal.returns-else-rows-gt10001-clause-lines
returns-else-rows-gt10001-clause-lines g c =
    let value = g.N.Exact.value in
    let limit = g.N.Exact.limit in
    let m = robust value c.args.model.now in
    let plan = plan_of value c.args.plan.now in
    let rows = c.args.rows.now in
    let header = fields_of c.index-rows-0.result in
    let some : 0 < length rows = grind (arith, nat_tests) in
    let found : header_places header (parameter_names m) ≡ Some c.in-Ok-Some.places =
    sym (c.in-Ok-Some.ensures.places
    ∙ ap (λ (ds : List (Param g.row.N.Denot)).
    header_places header (map (λ (d : Parameter). d.name) (map (parameter_of value) ds))) c.items.ensures.list)
    ∙ ap (option_map (λ (ks : List ℕ). ks)) c.in-Ok-Some.field-0-is in
    let is : outcome limit m plan (map fields_of rows)
    ≡ records_outcome limit m plan c.items-in-Ok-Some.result.now 2
    (map fields_of (take (length rows - 1) (drop 1 rows))) =
    ap (outcome limit m plan) (rows_split fields_of rows c.index-rows-0.result some c.index-rows-0.is)
    ∙ outcome_table limit m plan header (map fields_of (drop 1 rows)) c.in-Ok-Some.places found
    (omega (arith, c.if-rows-gt10001.false, rest_count fields_of rows))
    ∙ ap (λ (ks : List ℕ). records_outcome limit m plan ks 2 (map fields_of (drop 1 rows)))
    (sym c.items-in-Ok-Some.ensures.list)
    ∙ ap (λ (rs : List Row). records_outcome limit m plan c.items-in-Ok-Some.result.now 2 (map fields_of rs))
    (sym (rest_whole rows)) in
    subst (λ (o : Result (List Line) Refusal).
    MatchResult c.replay_records.result (λ lines. o ≡ Ok (map (line_of value) lines)) (Refuses o)) (sym is)
    c.replay_records.ensures.lines
