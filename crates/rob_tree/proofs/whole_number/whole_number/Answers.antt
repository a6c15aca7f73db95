use Rattle.std.proofs.Common.{◌≡◌, refl, ap, subst, ◌∙◌}
use Rattle.rob_algebra.specs.Fraction.{of_pair}
use Rattle.rob_algebra.specs.Width.{kept}
use Rattle.rob_algebra.proofs.Parts.{of_int-one}
use Rattle.rob_number.specs.Answer.{answer}
use Rattle.rob_number.proofs.AnswerLaws.{ok_tells, ok_where_fits}
use Rattle.rob_tree.proofs.Numbers.WholeNumberLemmas.{whole_fits, whole_seen}
use Rattle.rob_tree.proofs.whole_number.whole_number.Goals as goal

pub unwrap-requires : goal.unwrap-requires
unwrap-requires g c =
    let limit = g.N.Exact.limit in
    let seen = whole_seen limit c.args.number g.met.N.Exact.limit_high c.requires.within in
    ok_where_fits limit (of_pair c.args.number 1) g.N.Exact.value c.from_parts.result
    (c.from_parts.ensures.exact ∙ ap (kept limit) seen)
    (whole_fits limit c.args.number c.requires.within g.met.N.Exact.limit_low)

pub returns : goal.returns
returns g c =
    let limit = g.N.Exact.limit in
    let seen = whole_seen limit c.args.number g.met.N.Exact.limit_high c.requires.within in
    let e = c.from_parts.ensures.exact ∙ ap (kept limit) seen in
    let o = subst (λ r. answer g.N.Exact.value r ≡ kept limit (of_pair c.args.number 1)) c.unwrap.ensures e in
    record {
      value = (ok_tells limit (of_pair c.args.number 1) (g.N.Exact.value c.unwrap.result) o).0
          ∙ of_int-one c.args.number 1 refl;
    }
