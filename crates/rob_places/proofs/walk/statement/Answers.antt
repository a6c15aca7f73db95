use Rattle.std.proofs.Common.{◌≡◌, ◌∙◌, ℕ, ap, subst}
use Rattle.std.specs.Prelude.{OnOk}
use Rattle.rob_index.specs.Places.{places}
use Rattle.rob_index.specs.Search.{Searched, search_places}
use Rattle.rob_syntax.specs.Seen.{seen_statement, seen_ranges}
use Rattle.rob_ranges.proofs.NestLemmas.{as_well}
use Rattle.rob_places.specs.Tests.{is_set, test_of}
use Rattle.rob_places.specs.Walk.{walk_inside}
use Rattle.rob_places.proofs.WalkLemmas.{walk_is}
use Rattle.rob_places.proofs.walk.statement.Goals as goal

pub returns : goal.returns
returns c =
    let declared = is_set c.args.task.now.declared.now in
    let test = c.args.task.now.test in
    let statement = seen_statement c.args.statement.now in
    let whole : walk_inside declared test c.new-around.result (seen_ranges c.ranges_of.result.now) statement
    c.args.left.now
    ≡ search_places (test_of declared test) (places statement) c.args.left.now =
    (λ i. walk_inside declared test (c.new-around.ensures.nothing i) (c.ranges_of.ensures.ranges i) statement
    c.args.left.now) ∙ walk_is declared test statement c.args.left.now in
    record {
      found = as_well c.inside.result (ap (λ (s : Searched). s.found) whole) c.inside.ensures.found;
      left =
          subst (λ (n : ℕ). OnOk c.inside.result (c.inside.new.left ≡ n)) (ap (λ (s : Searched). s.left) whole)
          c.inside.ensures.left;
    }
