use Rattle.rob_index.specs.Forms.{Form}
use Rattle.rob_syntax.specs.declared.syntax.Index.{Index}
use Rattle.rob_syntax.specs.Seen.{seen_index}
use Rattle.rob_expand.specs.Scopes.{IsIndex}
use Rattle.rob_expand.proofs.Values.PlaceLemmas.{pairs_none, pairs_more, pairs_all}
use Rattle.rob_expand.proofs.place.indices_within.Goals as goal

pub loop-index-init : goal.loop-index-init
loop-index-init c =
    let scope = c.args.scope.now in
    let of_index : Form → Index → Type 0 = λ f x. IsIndex scope.bound scope.names f (seen_index x) in
    pairs_none of_index c.new-forms.result c.args.indices.now c.new-forms.ensures.empty

pub loop-index-preserved : goal.loop-index-preserved
loop-index-preserved c =
    let scope = c.args.scope.now in
    let of_index : Form → Index → Type 0 = λ f x. IsIndex scope.bound scope.names f (seen_index x) in
    pairs_more of_index c.loop-index.forms c.push.new.self c.args.indices.now c.loop-index.index-index
    c.index-item.result c.in_ok-index.field-0 c.loop-index-test.true c.index-item.is c.in_ok-push.ensures.appended
    c.in_ok-index.ensures.form c.loop-index.invariant

pub returns : goal.returns
returns c = record {
  forms =
      let scope = c.args.scope.now in
      let of_index : Form → Index → Type 0 = λ f x. IsIndex scope.bound scope.names f (seen_index x) in
      pairs_all of_index c.loop-index.forms c.args.indices.now c.loop-index.index-index c.loop-index-test.false
      c.loop-index.invariant;
}
