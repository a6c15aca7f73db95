use Rattle.rob_index.specs.Forms.{Form}
use Rattle.rob_syntax.specs.declared.syntax.Index.{Index}
use Rattle.rob_syntax.specs.Seen.{seen_index}
use Rattle.rob_expand.specs.Scopes.{IsIndex}
use Rattle.rob_expand.proofs.Values.PlaceLemmas.{pairs_shown}
use Rattle.rob_expand.proofs.place.name_within.Goals as goal

pub returns-clause-indices : goal.returns-clause-indices
returns-clause-indices c =
    let scope = c.args.scope.now in
    let of_index : Form → Index → Type 0 = λ f x. IsIndex scope.bound scope.names f (seen_index x) in
    pairs_shown of_index c.in_ok-indices.indices c.items.ensures.list c.in_ok-indices.ensures.forms
