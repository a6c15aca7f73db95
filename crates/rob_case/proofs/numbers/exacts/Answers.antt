use Rattle.std.proofs.Common.{◌≡◌, ◌++◌, get_or, map, sym, ap, ◌∙◌, pos, rules, to_z, of_z, w64}
use Rattle.std.specs.Prelude.{option_map}
use Rattle.rob_case.specs.Numbers.{exact_of, of_all}
use Rattle.rob_case.proofs.AnswerLemmas.{explains_whole, raised}
use Rattle.rob_case.proofs.StepLemmas.{map_behind, of_all-done, of_all-next, of_all-stop, one_longer}
use Rattle.rob_case.proofs.numbers.exacts.Goals as goal

pub loop-num-preserved : goal.loop-num-preserved
loop-num-preserved g c =
    let num = get_or c.args.nums.now c.loop-num.num-index (pos 0) in
    let seen : to_z w64 (of_z w64 num) ≡ num = search rules in
    record {
      count = one_longer c.loop-num.list _ _ c.loop-num.num-index c.in_ok-push.ensures.appended c.loop-num.invariant.count;
      rest = of_all-next (exact_of g.N.Exact.limit) (map g.N.Exact.value c.loop-num.list) _ c.args.nums.now
          c.loop-num.num-index (pos 0) (g.N.Exact.value c.in_ok-exact.field-0) c.loop-num-test.true
          (ap (exact_of g.N.Exact.limit) (sym seen) ∙ c.in_ok-exact.ensures.exact) (map_behind g.N.Exact.value c.loop-num.list _ _ c.in_ok-push.ensures.appended)
          ∙ c.loop-num.invariant.rest;
    }

pub returns-in_err-exact-clause-exact : goal.returns-in_err-exact-clause-exact
returns-in_err-exact-clause-exact g c =
    let f = exact_of g.N.Exact.limit in
    let num = get_or c.args.nums.now c.loop-num.num-index (pos 0) in
    let seen : to_z w64 (of_z w64 num) ≡ num = search rules in
    raised _ _ _ _ c.from_residual.ensures.1
    (explains_whole (f (to_z w64 (of_z w64 num))) (of_all f c.args.nums.now) _
    (λ none. sym c.loop-num.invariant.rest
    ∙ ap (option_map (λ more. map g.N.Exact.value c.loop-num.list ++ more))
    (of_all-stop f c.args.nums.now c.loop-num.num-index (pos 0) c.loop-num-test.true (ap f (sym seen) ∙ none)))
    c.in_err-exact.ensures.exact)

pub returns-clause-exact : goal.returns-clause-exact
returns-clause-exact g c =
    sym c.loop-num.invariant.rest
    ∙ of_all-done (exact_of g.N.Exact.limit) _ c.args.nums.now c.loop-num.num-index c.loop-num-test.false
