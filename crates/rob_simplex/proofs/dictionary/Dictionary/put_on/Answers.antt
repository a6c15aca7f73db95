use Rattle.std.proofs.Common.{◌≡◌, ℕ, ◌-◌, ◌^◌, ◌≤◌, ◌∙◌, sym, subst, arith, List, nat_abs, get_or, add-one, to_z, of_z, w64}
use lib.IntN.{pos}
use Rattle.rob_number.proofs.CountLemmas.{only_later, only_same}
use Rattle.rob_linear.specs.Vectors.{at}
use Rattle.rob_linear.specs.Programs.{with_cost}
use Rattle.rob_linear.specs.Stages.{truncated}
use Rattle.rob_linear.specs.WideRows.{IsOwnWideAt}
use Rattle.rob_simplex.specs.Dictionaries.{columns_of}
use Rattle.rob_simplex.specs.Phases.{StandsFor}
use Rattle.rob_number.proofs.CastLemmas.{seen_within}
use Rattle.rob_simplex.proofs.CostChange.NewCosts.{cost_dropped, all_put}
use Rattle.rob_simplex.proofs.Places.Sizes.{sized_after}
use Rattle.rob_simplex.proofs.dictionary.Dictionary.put_on.Goals as goal

pub loop-k-init : goal.loop-k-init
loop-k-init g c = record {
  stands =
      λ P h. cost_dropped P (at c.args.cost.now) c.args.self.now c.drop_cost.new.self h c.drop_cost.ensures.basis
      c.drop_cost.ensures.sized.columns c.drop_cost.ensures.objective c.drop_cost.ensures.rows;
  basis = c.drop_cost.ensures.basis;
  sized = c.drop_cost.ensures.sized;
  counted = only_same;
}

pub put_in-requires-clause-stands : goal.put_in-requires-clause-stands
put_in-requires-clause-stands g c = (
  with_cost c.requires.stands.0 (at c.args.cost.now),
  c.loop-k.invariant.stands c.requires.stands.0
      c.requires.stands.1,
)

pub loop-k-preserved : goal.loop-k-preserved
loop-k-preserved g c =
    let small : nat_abs (get_or c.args.cost.now c.loop-k.k (pos 0)) ≤ 2 ^ 62 - 1 =
    c.requires.cost.within c.loop-k.k (pos 0) c.loop-k-test.true in
    let seen : to_z w64 (of_z w64 (get_or c.args.cost.now c.loop-k.k (pos 0))) ≡ get_or c.args.cost.now c.loop-k.k
    (pos 0) = seen_within (2 ^ 62 - 1) (get_or c.args.cost.now c.loop-k.k (pos 0)) (omega arith) small in
    record {
      stands =
          λ P h. subst (λ (k : ℕ). StandsFor (truncated (with_cost P (at c.args.cost.now)) k) c.put_in.new.self)
          (sym (add-one c.loop-k.k))
          (c.in-Ok.ensures.put (with_cost P (at c.args.cost.now)) (sym seen) (c.loop-k.invariant.stands P h));
      basis = c.put_in.ensures.basis ∙ c.loop-k.invariant.basis;
      sized = sized_after c.loop-k.invariant.sized c.put_in.ensures.sized;
      counted = only_later c.loop-k.invariant.counted c.put_in.ensures.counted;
    }

pub returns-in-Err-clause-wide : goal.returns-in-Err-clause-wide
returns-in-Err-clause-wide g c P h =
    let small : nat_abs (get_or c.args.cost.now c.loop-k.k (pos 0)) ≤ 2 ^ 62 - 1 =
    c.requires.cost.within c.loop-k.k (pos 0) c.loop-k-test.true in
    let seen : to_z w64 (of_z w64 (get_or c.args.cost.now c.loop-k.k (pos 0))) ≡ get_or c.args.cost.now c.loop-k.k
    (pos 0) = seen_within (2 ^ 62 - 1) (get_or c.args.cost.now c.loop-k.k (pos 0)) (omega arith) small in
    subst (λ (b : List ℕ). IsOwnWideAt c.args.self.now.limit (with_cost P (at c.args.cost.now)) (columns_of b) P.m)
    c.loop-k.invariant.basis
    (subst (λ (l : ℕ). IsOwnWideAt l (with_cost P (at c.args.cost.now)) (columns_of c.loop-k.self.basis) P.m)
    c.loop-k.invariant.sized.limit
    (c.in-Err.ensures.wide (with_cost P (at c.args.cost.now)) (sym seen) (c.loop-k.invariant.stands P h)))

pub returns-clause-put : goal.returns-clause-put
returns-clause-put g c P h =
    all_put (with_cost P (at c.args.cost.now)) c.loop-k.self
    (subst (λ (k : ℕ). StandsFor (truncated (with_cost P (at c.args.cost.now)) k) c.loop-k.self)
    (omega (arith, c.loop-k-test.false, c.loop-k.auto.k-end, c.requires.cost.size, h.columns_are))
    (c.loop-k.invariant.stands P h))
