use Rattle.std.proofs.Common.{sym, subst}
use Rattle.std.specs.Prelude.{ℤ, pos, ◌≤ℤ◌}
use Rattle.rob_settings.proofs.rounding.least_of.Goals as goal

pub returns-in-Some : goal.returns-in-Some
returns-in-Some c = record {
  least = λ vs h.
      let same = c.in-Some.ensures.same vs in
      subst (λ (z : ℤ). pos c.least_of_short.result ≤ℤ z) (sym same)
      (c.least_of_short.ensures.least vs (subst (λ (z : ℤ). pos 0 ≤ℤ z) same h));
}
