use Rattle.std.proofs.Common.{List, refl, subst}
use Rattle.std.specs.Prelude.{ℤ}
use Rattle.std.proofs.lemmas.Result.{IfOk-weaker}
use Rattle.rob_index.specs.Forms.{value_of}
use Rattle.rob_expand.specs.Inmost.{IsInmost}
use Rattle.rob_expand.proofs.Counting.InmostLemmas.{inmost_more}
use Rattle.rob_expand.proofs.inmost.+inmost.Goals as goal

pub returns-then-branch-clause-inmost : goal.returns-then-branch-clause-inmost
returns-then-branch-clause-inmost t c =
    let range = c.in-Over.ends in
    let vs = c.args.values.now in
    let shown = c.deref.result.now in
    let last_at = c.inmost.new.values in
    let told = c.in_ok-enter-in-Over.ensures in
    IfOk-weaker c.inmost.result _ _
    (λ last h. inmost_more range c.in-Over.inner c.args.placed.now shown last.now vs last_at (value_of range.from vs)
    c.in-Over.is c.deref.ensures refl (told.upto c.if-branch.true)
    (subst (λ (ws : List ℤ). IsInmost shown ws last.now last_at) (told.from c.if-branch.true) h))
    c.inmost.ensures.inmost
