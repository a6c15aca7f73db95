use Rattle.std.proofs.Common.{◌≡◌, true, drop, [], ◌∷◌}
use Rattle.std.specs.Prelude.{fold}
use Rattle.rob_model.specs.View.{robust}
use Rattle.rob_write.specs.Pages.{put}
use Rattle.rob_write.specs.ExpressionWords.{listed, name_at, naming_of}
use Rattle.rob_write.proofs.writer.put_list.Given as goal

abbrev pub invariant-loop-k : goal.invariant-loop-k
invariant-loop-k g l =
    fold put l.page
    (listed (λ k. name_at (naming_of (robust g.N.Exact.value l.model)).parameters k ∷ [])
    l.first (drop l.k-index l.on))
    ≡ fold put l.fn.page
    (listed (λ k. name_at (naming_of (robust g.N.Exact.value l.model)).parameters k ∷ []) true l.on)
