use Rattle.std.proofs.Common.{[], ◌∷◌, map, ap, ◌∙◌}
use Rattle.std.proofs.lemmas.List.{map-append}
use Rattle.std.proofs.lemmas.Result.{on_ok_weaker}
use Rattle.rob_model.specs.View.{robust, row_of}
use Rattle.rob_syntax.specs.Known.{texts}
use Rattle.rob_parse.proofs.Building.AddedLemmas.{budget_added, row_added, set_added}
use Rattle.rob_parse.proofs.model.add.Goals as goal

pub returns-in_ok-line-in-Set-clause-added : goal.returns-in_ok-line-in-Set-clause-added
returns-in_ok-line-in-Set-clause-added g c =
    on_ok_weaker c.add_line.result
    (set_added (texts c.args.words.now.keys) c.args.scope.now (robust g.N.Exact.value c.args.model.now)
    c.in-Set.relation c.args.statement.now c.in-Set.is
    c.as_slice.result.now c.as_slice.ensures.value
    c.place_of-place.result c.place_of-place.ensures.place
    _ c.in_ok-line-in-Set.ensures.read _)
    c.add_line.ensures.added

pub returns-in_ok-line-in-Budget-clause-added : goal.returns-in_ok-line-in-Budget-clause-added
returns-in_ok-line-in-Budget-clause-added g c =
    on_ok_weaker c.add_line-in-Budget.result
    (budget_added (texts c.args.words.now.keys) c.args.scope.now (robust g.N.Exact.value c.args.model.now)
    c.in-Budget.budget c.args.statement.now c.in-Budget.is
    c.as_slice-in-Budget.result.now c.as_slice-in-Budget.ensures.value
    c.place_of-place-in-Budget.result c.place_of-place-in-Budget.ensures.place
    _ c.in_ok-line-in-Budget.ensures.read _)
    c.add_line-in-Budget.ensures.added

pub returns-in_ok-push-in-Row-clause-added : goal.returns-in_ok-push-in-Row-clause-added
returns-in_ok-push-in-Row-clause-added g c =
    on_ok_weaker c.push-in-Row-2.result
    (row_added (texts c.args.words.now.keys) c.args.scope.now (robust g.N.Exact.value c.args.model.now)
    c.in-Row.row c.args.statement.now c.in-Row.is
    c.as_slice-in-Row.result.now c.as_slice-in-Row.ensures.value
    c.place_of-place-in-Row.result c.place_of-place-in-Row.ensures.place
    _ c.in_ok-row_def-in-Row.ensures.read
    _ (ap (map (row_of g.N.Exact.value)) c.in_ok-push-in-Row.ensures.appended
    ∙ map-append (row_of g.N.Exact.value) c.args.model.now.rows (c.in_ok-row_def-in-Row.field-0 ∷ [])) _)
    c.push-in-Row-2.ensures.appended
