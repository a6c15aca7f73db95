use Rattle.std.specs.Prelude.{map}
use Rattle.rob_algebra.specs.Width.{IsWideWhole}
use Rattle.rob_number.specs.Counts.{Rose}
use Rattle.rob_meaning.specs.Clearing.{whole_at}
use Rattle.rob_sets.specs.FirstWide.{Some_of}
use Rattle.rob_sets.proofs.WholeRows.ClearingSteps.{clear_fits, clear_wide}
use Rattle.rob_sets.proofs.Judging.StopLemmas.{stops_also}
use Rattle.rob_sets.proofs.clearing.clear.Goals as goal

pub returns-in-Some-clause-not_wide : goal.returns-in-Some-clause-not_wide
returns-in-Some-clause-not_wide g c =
    clear_fits g.N.Exact.limit (map g.N.Exact.value c.args.numbers.now) c.in-Some.common c.cleared.result
    c.in-Some.ensures.least.0 c.in-Some.ensures.least.1
    c.cleared.ensures.cleared c.cleared.ensures.fits

pub returns-in-Some-clause-wide : goal.returns-in-Some-clause-wide
returns-in-Some-clause-wide g c =
    stops_also c.cleared.result
    (λ (h : Rose (g.L.Ledger.wides c.args.ledger.now) (g.L.Ledger.wides c.cleared.new.ledger)
    × Some_of (λ q. IsWideWhole g.N.Exact.limit (whole_at c.in-Some.common q))
    (map g.N.Exact.value c.args.numbers.now)). (
      h.0,
      clear_wide g.N.Exact.limit (map g.N.Exact.value c.args.numbers.now) c.in-Some.common
          c.in-Some.ensures.least.0 h.1,
    ))
    c.cleared.ensures.wide
