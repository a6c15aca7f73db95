use Rattle.std.proofs.Common.{◌≡◌, ◌++◌, drop, length, map}
use Rattle.std.specs.Prelude.{option_map}
use Rattle.rob_case.specs.Numbers.{exact_of, of_all}
use Rattle.rob_case.proofs.numbers.exacts.Given as goal

abbrev pub invariant-loop-num : goal.invariant-loop-num
invariant-loop-num g l =
    let value = g.N.Exact.value in
    let all = of_all (exact_of g.N.Exact.limit) in
    record {
      count : length l.list ≡ l.num-index;
      rest : option_map (λ more. map value l.list ++ more) (all (drop l.num-index l.nums)) ≡ all l.nums;
    }
