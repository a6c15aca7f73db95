use Rattle.std.proofs.Common.{◌≡◌, Some, map, sym, subst, ◌∙◌}
use Rattle.rob_meaning.specs.Places.{at}
use Rattle.rob_reach.proofs.GrowingLemmas.{broken_is}
use Rattle.rob_reach.specs.Growing.{first_broken}
use Rattle.rob_reach.specs.WholeNumbers.{IsWhole}
use Rattle.rob_branch.proofs.search.of_optimum.Goals as goal

pub branches-requires : goal.branches-requires
branches-requires g c =
    let value = g.N.Exact.value in
    let column = c.in-Some.column in
    let first : first_broken c.args.names.now (map value c.items.result.now) ≡ Some column =
    sym c.first_broken.ensures.first ∙ c.in-Some.is in
    record {
      broken = λ w. (broken_is c.args.names.now (map value c.items.result.now) column first).1
          (subst (λ xs. IsWhole (at (map value xs) column))
          (c.items-in-Some.ensures.list ∙ sym c.items.ensures.list) w);
    }
