use Rattle.std.proofs.Common.{◌≡◌, ◌∙◌, ap, sym, subst, arith, nat_abs, ◌/◌}
use Rattle.std.proofs.lemmas.Int.{ints, to_z-of_z}
use Rattle.std.specs.Int.{◌∣◌}
use mir.Syntax.{w128}
use Rattle.rob_rows.proofs.SignedQuotients.{quotient_pos, quotient_neg}
use Rattle.rob_rows.proofs.reduction.quotient_within.Goals as goal

pub quotient_of-size-requires-clause-divides : goal.quotient_of-size-requires-clause-divides
quotient_of-size-requires-clause-divides c =
    let e : c.unsigned_abs.result ≡ nat_abs c.args.entry =
    c.unsigned_abs.ensures.value ∙ ap nat_abs (to_z-of_z w128 c.args.entry c.ranges.entry) in
    subst (λ t. c.args.divisor.value ∣ t) (sym e) c.requires.divides

pub returns-then-entry-lt0-clause-quotient : goal.returns-then-entry-lt0-clause-quotient
returns-then-entry-lt0-clause-quotient c =
    let e : c.unsigned_abs.result ≡ nat_abs c.args.entry =
    c.unsigned_abs.ensures.value ∙ ap nat_abs (to_z-of_z w128 c.args.entry c.ranges.entry) in
    quotient_neg c.args.entry c.args.divisor.value c.quotient_of-size.result (omega (arith, ints)) c.requires.divides
    (c.quotient_of-size.ensures.quotient ∙ ap (λ t. t / c.args.divisor.value) e) (omega arith)

pub returns-else-entry-lt0-clause-quotient : goal.returns-else-entry-lt0-clause-quotient
returns-else-entry-lt0-clause-quotient c =
    let e : c.unsigned_abs.result ≡ nat_abs c.args.entry =
    c.unsigned_abs.ensures.value ∙ ap nat_abs (to_z-of_z w128 c.args.entry c.ranges.entry) in
    quotient_pos c.args.entry c.args.divisor.value c.quotient_of-size.result (omega (arith, ints)) c.requires.divides
    (c.quotient_of-size.ensures.quotient ∙ ap (λ t. t / c.args.divisor.value) e) (omega arith)
