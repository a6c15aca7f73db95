use Rattle.std.proofs.Common.{◌≡◌, ◌≤◌, ◌-◌, ◌^◌, ap, sym, ◌∙◌, subst, inl, length, List, ℕ}
use Rattle.std.specs.Prelude.{IfErr, MatchResult}
use Rattle.rob_linear.specs.Vectors.{at}
use Rattle.rob_linear.specs.Programs.{with_cost}
use Rattle.rob_linear.specs.WideRows.{HasWideRowFrom}
use Rattle.rob_rows.proofs.SizeLemmas.{within_up}
use Rattle.rob_simplex.specs.Dictionaries.{positions, columns_of}
use Rattle.rob_simplex.specs.Judging.{Tells}
use Rattle.rob_simplex.specs.PathEnds.{PathStopsFrom}
use Rattle.rob_simplex.specs.Phases.{EndsFrom}
use Rattle.rob_simplex.proofs.Telling.JudgingLemmas.{wide_below_from}
use Rattle.rob_simplex.proofs.CostChange.NewCosts.{cost_refused}
use Rattle.rob_simplex.proofs.dictionary.Dictionary.go_on.Goals as goal

pub put_on-requires-clause-cost : goal.put_on-requires-clause-cost
put_on-requires-clause-cost g c = record {
  size = c.requires.cost.size;
  within =
      within_up g.N.Exact.limit (2 ^ 62 - 1) c.args.cost.now g.met.N.Exact.limit_high c.requires.cost.within;
}

pub improve_and_judge-requires : goal.improve_and_judge-requires
improve_and_judge-requires g c = record {
  stands =
      (with_cost c.requires.stands.0 (at c.args.cost.now), c.in-Ok.ensures.put c.requires.stands.0 c.requires.stands.1);
  limit = subst (λ l. g.N.Exact.limit ≤ l) (sym c.put_on.ensures.sized.limit) c.requires.limit;
}

pub returns-in-Ok-clause-told : goal.returns-in-Ok-clause-told
returns-in-Ok-clause-told g c P h =
    subst (λ (b : List ℕ). MatchResult c.improve_and_judge.result
    (λ e. EndsFrom (with_cost P (at c.args.cost.now)) (columns_of b) e c.improve_and_judge.new.self
    × Tells g.N.Exact.limit e c.improve_and_judge.new.self)
    (λ halt. HasWideRowFrom g.N.Exact.limit (with_cost P (at c.args.cost.now)) (columns_of b)
    (columns_of c.improve_and_judge.new.self.basis) halt.position)) c.put_on.ensures.basis
    (c.improve_and_judge.ensures.told (with_cost P (at c.args.cost.now)) (c.in-Ok.ensures.put P h))

pub returns-in-Err-clause-told : goal.returns-in-Err-clause-told
returns-in-Err-clause-told g c P h =
    let em : c.positions.result ≡ positions c.put_on.new.self = c.positions.ensures.positions in
    wide_below_from g.N.Exact.limit c.args.self.now.limit c.requires.limit (with_cost P (at c.args.cost.now))
    (columns_of c.args.self.now.basis) (columns_of c.put_on.new.self.basis) c.positions.result
    (cost_refused c.args.self.now.limit P (at c.args.cost.now) c.args.self.now c.put_on.new.self.basis
    c.positions.result h c.put_on.ensures.basis (em ∙ ap length c.put_on.ensures.basis ∙ h.rows_are)
    (c.in-Err.ensures.wide P h))

pub returns-in-Ok-clause-caused : goal.returns-in-Ok-clause-caused
returns-in-Ok-clause-caused g c P h =
    subst (λ (b : List ℕ). IfErr c.improve_and_judge.result
    (λ halt. PathStopsFrom g.N.Exact.limit (with_cost P (at c.args.cost.now)) (columns_of b)
    c.improve_and_judge.new.self halt.position)) c.put_on.ensures.basis
    (c.improve_and_judge.ensures.caused (with_cost P (at c.args.cost.now)) (c.in-Ok.ensures.put P h))

pub returns-in-Err-clause-caused : goal.returns-in-Err-clause-caused
returns-in-Err-clause-caused g c P h =
    let em : c.positions.result ≡ positions c.put_on.new.self = c.positions.ensures.positions in
    inl
    (subst (λ l. HasWideRowFrom l (with_cost P (at c.args.cost.now)) (columns_of c.args.self.now.basis)
    (columns_of c.put_on.new.self.basis) c.positions.result) (sym c.put_on.ensures.sized.limit)
    (cost_refused c.args.self.now.limit P (at c.args.cost.now) c.args.self.now c.put_on.new.self.basis
    c.positions.result h c.put_on.ensures.basis (em ∙ ap length c.put_on.ensures.basis ∙ h.rows_are)
    (c.in-Err.ensures.wide P h)))
