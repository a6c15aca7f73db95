use Rattle.std.proofs.Common.{◌≡◌, [], ◌∙◌, ap, sym, false}
use Rattle.std.specs.Prelude.{pos}
use Rattle.rob_index.specs.Forms.{Form, minus}
use Rattle.rob_index.specs.Fast.{nothing}
use Rattle.rob_index.specs.Search.{Searched, search}
use Rattle.rob_syntax.specs.Seen.{seen_index}
use Rattle.rob_ranges.proofs.NestLemmas.{as_well}
use Rattle.rob_places.specs.Tests.{form_of}
use Rattle.rob_places.specs.Tests as spec
use Rattle.rob_places.proofs.StepLemmas.{on_missed}
use Rattle.rob_places.proofs.test.is_sought_out.Goals as goal

pub returns-clause-found : goal.returns-clause-found
returns-clause-found c =
    let around = c.args.around.now in
    let form = form_of around (seen_index c.args.index.now) in
    let first : Searched = search (spec.price around) around.nest [] (minus nothing form) (pos 1) c.args.left.now in
    let same = c.in_ok-form.ensures.form in
    let opposite = c.in_ok-opposite.ensures.opposite ∙ ap (minus nothing) same in
    let left : c.sought.new.left ≡ first.left =
    c.in_ok-sought.ensures.left
    ∙ ap (λ (f : Form). (search (spec.price around) around.nest [] f (pos 1) c.args.left.now).left) opposite in
    let missing : first.found ≡ false =
    sym (c.in_ok-sought.ensures.found
    ∙ ap (λ (f : Form). (search (spec.price around) around.nest [] f (pos 1) c.args.left.now).found) opposite)
    ∙ c.if-branch.false in
    as_well c.sought-2.result
    ((λ i. (search (spec.price around) around.nest [] (same i) (pos 1000) (left i)).found)
    ∙ ap (λ (s : Searched). s.found)
    (on_missed first (search (spec.price around) around.nest [] form (pos 1000)) missing))
    c.sought-2.ensures.found
