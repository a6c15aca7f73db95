use Rattle.std.proofs.Common.{◌≡◌, ◌++◌, map, sym, ap, ◌∙◌, append-nil, arith}
use Rattle.rob_meaning.specs.Expressions.{parameter}
use Rattle.rob_meaning.specs.Places.{tabulate}
use Rattle.rob_model.specs.View.{signed_of}
use Rattle.rob_gen.proofs.ListLemmas.{more_behind}
use Rattle.rob_model.proofs.PartLemmas.{parameter_is}
use Rattle.rob_gen.proofs.TreeLemmas.{term_is}
use Rattle.rob_gen.proofs.expressions.add_demands.Goals as goal

pub loop-place-init : goal.loop-place-init
loop-place-init g c = sym (append-nil (map (signed_of g.N.Exact.value) c.args.terms.now))

pub loop-place-preserved : goal.loop-place-preserved
loop-place-preserved g c =
    more_behind (signed_of g.N.Exact.value) (λ place. (c.args.minus, parameter place))
    (map (signed_of g.N.Exact.value) c.args.terms.now)
    c.loop-place.terms _ c.loop-place.place c.in_ok-push.ensures.appended
    (term_is g.N.Exact.value _ _ (parameter_is g.N.Exact.value c.loop-place.place)) c.loop-place.invariant

pub returns : goal.returns
returns g c = record {
  made = c.loop-place.invariant
      ∙ ap (λ k. map (signed_of g.N.Exact.value) c.args.terms.now ++ tabulate k
      (λ place. (c.args.minus, parameter place)))
      (let e : c.loop-place.place ≡ c.args.count = omega arith in e);
}
