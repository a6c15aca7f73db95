use Rattle.std.proofs.Common.{◌≡◌, ◌<◌, ◌^◌, [], ◌∙◌, ap, rules}
use mir.Syntax.{w64}
use Rattle.std.proofs.lemmas.Int.{to_z-of_z}
use Rattle.rob_index.specs.Search.{Searched}
use Rattle.rob_index.specs.Search as index
use Rattle.rob_places.specs.Tests as spec
use Rattle.rob_places.proofs.PriceLemmas.{same_search}
use Rattle.rob_places.proofs.test.sought.Goals as goal

pub returns-clause-found : goal.returns-clause-found
returns-clause-found c =
    let few : c.args.left.now < 2 ^ 32 = search rules in
    let bound = c.small-bound.ensures.value ∙ to_z-of_z w64 c.args.bound c.ranges.bound in
    let around = c.args.around.now in
    let whole : index.search c.price.result c.nest.result.now [] c.args.form.now c.small-bound.result c.args.left.now
    ≡ index.search (spec.price around) around.nest [] c.args.form.now c.args.bound c.args.left.now =
    (λ i. index.search c.price.result (c.nest.ensures.nest i) [] c.args.form.now (bound i) c.args.left.now)
    ∙ same_search c.price.result (spec.price around) c.args.left.now around.nest [] c.args.form.now c.args.bound few
    c.price.ensures.price in
    c.in_ok-found.ensures.found ∙ ap (λ (s : Searched). s.found) whole

pub returns-clause-left : goal.returns-clause-left
returns-clause-left c =
    let few : c.args.left.now < 2 ^ 32 = search rules in
    let bound = c.small-bound.ensures.value ∙ to_z-of_z w64 c.args.bound c.ranges.bound in
    let around = c.args.around.now in
    let whole : index.search c.price.result c.nest.result.now [] c.args.form.now c.small-bound.result c.args.left.now
    ≡ index.search (spec.price around) around.nest [] c.args.form.now c.args.bound c.args.left.now =
    (λ i. index.search c.price.result (c.nest.ensures.nest i) [] c.args.form.now (bound i) c.args.left.now)
    ∙ same_search c.price.result (spec.price around) c.args.left.now around.nest [] c.args.form.now c.args.bound few
    c.price.ensures.price in
    c.in_ok-found.ensures.left ∙ ap (λ (s : Searched). s.left) whole
