use Rattle.std.proofs.Common.{◌≡◌, ◌≤◌, refl, ap, subst, ◌∙◌, arith}
use lib.IntN.{pos}
use Rattle.rob_algebra.specs.Fraction.{of_pair}
use Rattle.rob_algebra.specs.Width.{kept}
use Rattle.rob_algebra.proofs.Parts.{of_int-one}
use Rattle.rob_number.specs.Answer.{answer}
use Rattle.rob_number.proofs.AnswerLaws.{ok_tells, ok_where_fits}
use Rattle.rob_simplex.proofs.Telling.Quotients.{of_pair_fits, of_pair_seen}
use Rattle.rob_dualize.proofs.numbers.whole.Goals as goal

pub unwrap-requires : goal.unwrap-requires
unwrap-requires g c =
    let limit = g.N.Exact.limit in
    let one : 1 ≤ g.N.Exact.limit = g.met.N.Exact.limit_low in
    let seen = of_pair_seen limit c.args.number (pos 1) g.met.N.Exact.limit_high c.requires.within one in
    ok_where_fits limit (of_pair c.args.number 1) g.N.Exact.value c.from_parts.result
    (c.from_parts.ensures.exact ∙ ap (kept limit) seen)
    (of_pair_fits limit c.args.number 1 (omega arith) c.requires.within one)

pub returns : goal.returns
returns g c =
    let limit = g.N.Exact.limit in
    let one : 1 ≤ g.N.Exact.limit = g.met.N.Exact.limit_low in
    let seen = of_pair_seen limit c.args.number (pos 1) g.met.N.Exact.limit_high c.requires.within one in
    let e = c.from_parts.ensures.exact ∙ ap (kept limit) seen in
    let o = subst (λ r. answer g.N.Exact.value r ≡ kept limit (of_pair c.args.number 1)) c.unwrap.ensures e in
    record {
      value = (ok_tells limit (of_pair c.args.number 1) (g.N.Exact.value c.unwrap.result) o).0
          ∙ of_int-one c.args.number 1 refl;
    }
