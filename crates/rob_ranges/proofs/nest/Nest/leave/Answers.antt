use Rattle.std.proofs.Common.{◌≡◌, ◌<◌, ◌≤◌, [], List, ◌∙◌, ap, length, subst, sym, arith}
use Rattle.rob_index.specs.Forms.{Ends}
use Rattle.rob_ranges.specs.declared.nest.Told.{Told}
use Rattle.rob_ranges.specs.Nests.{AreTold, all_but_last}
use Rattle.rob_ranges.proofs.NestLists.{front_is, told_fewer, told_stays}
use Rattle.rob_ranges.proofs.nest.Nest.leave.Goals as goal

pub invariant_of-self : goal.invariant_of-self
invariant_of-self c =
    let ranges = c.self.inside.ranges in
    let told = c.self.inside.told in
    let r : c.pop.new.self.items ≡ all_but_last ranges.items =
    c.pop.ensures.rest ∙ front_is ranges.items ranges.len ranges.ok.0 in
    let t : c.pop-then-len.new.self.items ≡ all_but_last told.items =
    c.pop-then-len.ensures.rest ∙ front_is told.items told.len told.ok.0 in
    let more : length (all_but_last ranges.items) < length told.items =
    omega (arith, c.len.ensures, c.len-2.ensures, ap length r, c.if-len.true) in
    subst (λ (rs : List Ends). AreTold [] rs c.pop-then-len.new.self.items) (sym r)
    (subst (λ (ts : List Told). AreTold [] (all_but_last ranges.items) ts) (sym t)
    (told_fewer [] ranges.items told.items c.self.invariant more))

pub invariant_of-self-else-len : goal.invariant_of-self-else-len
invariant_of-self-else-len c =
    let ranges = c.self.inside.ranges in
    let told = c.self.inside.told.items in
    let r : c.pop.new.self.items ≡ all_but_last ranges.items =
    c.pop.ensures.rest ∙ front_is ranges.items ranges.len ranges.ok.0 in
    let few : length told ≤ length (all_but_last ranges.items) =
    omega (arith, c.len.ensures, c.len-2.ensures, ap length r, c.if-len.false) in
    subst (λ (rs : List Ends). AreTold [] rs told) (sym r) (told_stays [] ranges.items told c.self.invariant few)

pub returns-then-len : goal.returns-then-len
returns-then-len c =
    let ranges = c.self.inside.ranges in
    record {
      left =
          c.pop.ensures.rest ∙ front_is ranges.items ranges.len ranges.ok.0
          ∙ ap (λ (rs : List Ends). all_but_last rs) c.self.view_is;
    }

pub returns-else-len : goal.returns-else-len
returns-else-len c =
    let ranges = c.self.inside.ranges in
    record {
      left =
          c.pop.ensures.rest ∙ front_is ranges.items ranges.len ranges.ok.0
          ∙ ap (λ (rs : List Ends). all_but_last rs) c.self.view_is;
    }
