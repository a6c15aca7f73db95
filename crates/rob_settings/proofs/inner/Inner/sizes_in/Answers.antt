use Rattle.std.proofs.Common.{rules, sym, ap, ◌∙◌}
use Rattle.std.specs.Option.{option_copied}
use Rattle.std.specs.Int.{w128}
use mir.Val.{SFits}
use Rattle.rob_settings.proofs.InnerLemmas.{most_first, kept_apart}
use Rattle.rob_settings.proofs.inner.Inner.sizes_in.Goals as goal

pub returns-then-first-lt-SHORTEST-clause-first : goal.returns-then-first-lt-SHORTEST-clause-first
returns-then-first-lt-SHORTEST-clause-first c vs within =
    let f : SFits w128 c.most-first.result = search rules in
    most_first c.self.inside.ranges c.args.self.now c.self.inside.lengths c.in_ok-lengths.lengths.now vs
    (sym c.as_ref.ensures.value ∙ ap option_copied c.in_ok-lengths.was) c.self.view_is c.self.invariant
    c.most-first.result f (c.most-first.ensures.most vs within)

pub returns-clause-first : goal.returns-clause-first
returns-clause-first c vs within =
    let f : SFits w128 c.most-first.result = search rules in
    most_first c.self.inside.ranges c.args.self.now c.self.inside.lengths c.in_ok-lengths.lengths.now vs
    (sym c.as_ref.ensures.value ∙ ap option_copied c.in_ok-lengths.was) c.self.view_is c.self.invariant
    c.most-first.result f (c.most-first.ensures.most vs within)

pub returns-clause-apart : goal.returns-clause-apart
returns-clause-apart c vs within =
    let f : SFits w128 c.apart_in-second.result = search rules in
    kept_apart c.self.inside.ranges c.args.self.now c.self.inside.lengths c.in_ok-lengths.lengths.now vs
    (sym c.as_ref.ensures.value ∙ ap option_copied c.in_ok-lengths.was) c.self.view_is c.self.invariant
    c.apart_in-second.result f (c.apart_in-second.ensures.apart vs within)
