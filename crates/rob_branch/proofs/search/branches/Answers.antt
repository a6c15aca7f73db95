use Rattle.std.proofs.Common.{◌<◌, ◌≤◌, ◌^◌, nat_abs, sym, subst, ◌∙◌, arith}
use Rattle.rob_number.proofs.CastLemmas.{seen}
use Rattle.rob_reach.specs.WholeNumbers.{IsWhole}
use Rattle.rob_branch.proofs.OutcomeLemmas.{floor_below}
use Rattle.rob_branch.proofs.search.branches.Goals as goal

pub returns-clause-within : goal.returns-clause-within
returns-clause-within g c =
    let limit = g.N.Exact.limit in
    let number = c.number_at-number.result in
    let small : nat_abs c.floor.result < 2 ^ 62 = omega (arith, c.floor.ensures.within, g.met.N.Exact.limit_high) in
    let same = seen c.floor.result small in (
      subst (λ z. nat_abs z ≤ limit) (sym same) c.floor.ensures.within,
      λ h. floor_below limit (g.N.Exact.value number) g.met.N.Exact.limit_low (g.met.N.Exact.fits number)
          (λ w. c.requires.broken (subst IsWhole c.number_at-number.ensures.value w))
          (sym c.floor.ensures.floor ∙ sym same ∙ h),
    )
