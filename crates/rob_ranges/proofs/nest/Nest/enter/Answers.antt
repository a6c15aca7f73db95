use Rattle.std.proofs.Common.{[], List, subst, sym}
use Rattle.rob_index.specs.Forms.{Ends}
use Rattle.rob_ranges.specs.Nests.{AreTold}
use Rattle.rob_ranges.proofs.NestLists.{told_entered}
use Rattle.rob_ranges.proofs.nest.Nest.enter.Goals as goal

pub invariant_of-self-2 : goal.invariant_of-self-2
invariant_of-self-2 c =
    let ranges = c.self.inside.ranges.items in
    let told = c.tell_where.new.told.items in
    subst (λ (rs : List Ends). AreTold [] rs told) (sym c.in_ok-push.ensures.items)
    (told_entered [] ranges told c.args.ends
    (subst (λ (rs : List Ends). AreTold [] rs told) c.as_slice.ensures.value c.tell_where.ensures.told))
