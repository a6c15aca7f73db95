use Rattle.rob_algebra.proofs.ListLemmas.{drop_at, drop_all}
use Rattle.rob_expand.specs.Growing.{index_bytes}
use Rattle.rob_expand.proofs.Walks.WalkLemmas.{made_more, made_all}
use Rattle.rob_expand.proofs.name.append_indices.Goals as goal

pub loop-form-preserved : goal.loop-form-preserved
loop-form-preserved c =
    made_more (index_bytes c.args.values.now) c.loop-form.bytes.items _ _ _ c.form-item.result
    (drop_at c.args.forms.now c.loop-form.form-index c.form-item.result c.loop-form-test.true c.form-item.is)
    c.in_ok-append_index.ensures.appended c.loop-form.invariant

pub returns : goal.returns
returns c = record {
  appended =
      made_all (index_bytes c.args.values.now) c.loop-form.bytes.items _
      (drop_all c.loop-form.form-index c.args.forms.now c.loop-form-test.false) c.loop-form.invariant;
}
