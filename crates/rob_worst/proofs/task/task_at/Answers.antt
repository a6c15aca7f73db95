use Rattle.std.proofs.Common.{◌≤◌, ◌-◌, ◌^◌, map, refl, ap, ◌∙◌, subst, sym, arith, to_z, of_z, w64, pos, nat_abs, ◌≡◌}
use Rattle.std.proofs.lemmas.Result.{err_from_is_err_and}
use Rattle.rob_algebra.specs.Width.{IsWideWhole}
use Rattle.rob_meaning.specs.Clearing.{whole_at}
use Rattle.rob_meaning.specs.Places.{Each}
use Rattle.rob_model.specs.declared.place.Spot.TheVariants.{Clearing}
use Rattle.rob_sets.specs.FirstWide.{Some_of}
use Rattle.rob_sets.specs.Stops.{StopsFor}
use Rattle.rob_dualize.proofs.MakingLemmas.{parameters_low}
use Rattle.rob_dualize.proofs.Soundness.{forms_sound, elaborated_weaker}
use Rattle.rob_worst.specs.Costs.{IsWidePart, StopsAtPart}
use Rattle.rob_dualize.specs.Ending.{IsWideStop}
use Rattle.rob_worst.proofs.CostLemmas.{held}
use Rattle.rob_worst.proofs.StopLemmas.{cleared_cause, constant_cause, costs_cause}
use Rattle.rob_worst.proofs.TaskLemmas.{fits_set, common_seen, constant_told, costs_told, wholes_are}
use Rattle.rob_worst.proofs.VectorLemmas.{cleared_count}
use Rattle.rob_worst.proofs.task.task_at.Goals as goal

pub part-requires : goal.part-requires
part-requires g c = record {
  sound = forms_sound _ _ (elaborated_weaker 4611686018427387903 _ _ g.met.N.Exact.limit_high c.requires.model);
  form_in = c.requires.form_in;
  row_in = omega arith;
  size = cleared_count g.N.Exact.value c.args.vector.now c.in-Some.common _ _
      (c.items.ensures.list ∙ c.in-Ok.ensures.cleared) c.requires.size;
  fits = subst (λ xs. Each (λ a. nat_abs a ≤ g.N.Exact.limit) xs) (sym c.items.ensures.list) c.in-Ok.ensures.fits;
}

pub costs-requires : goal.costs-requires
costs-requires g c = record {
  sound = forms_sound _ _ (elaborated_weaker 4611686018427387903 _ _ g.met.N.Exact.limit_high c.requires.model);
  form_in = c.requires.form_in;
  size = cleared_count g.N.Exact.value c.args.vector.now c.in-Some.common _ _
      (c.items-2.ensures.list ∙ c.in-Ok.ensures.cleared) c.requires.size;
  fits = subst (λ xs. Each (λ a. nat_abs a ≤ g.N.Exact.limit) xs) (sym c.items-2.ensures.list) c.in-Ok.ensures.fits;
}

pub returns-in-Err-Wide-clause-task : goal.returns-in-Err-Wide-clause-task
returns-in-Err-Wide-clause-task g c = λ m f s.
    let z = map g.N.Exact.value c.args.vector.now in
    cleared_cause g.N.Exact.limit m c.args.by_step c.args.form z c.wide_at-in-Err-Wide.result c.in-Some.common
    (subst (λ p. IsWideStop (Clearing p) c.wide_at-in-Err-Wide.result) c.place-in-Err-Wide.ensures.place
    c.wide_at-in-Err-Wide.ensures.stop) c.in-Some.ensures.least.0
    (subst (λ r. StopsFor (Some_of (λ q. IsWideWhole g.N.Exact.limit (whole_at c.in-Some.common q)) z) r)
    c.in-Err-Wide.field-0-is c.in-Err-Wide.ensures.wide)

pub returns-in-None-part-clause-task : goal.returns-in-None-part-clause-task
returns-in-None-part-clause-task g c = λ m f s.
    let z = map g.N.Exact.value c.args.vector.now in
    constant_cause g.N.Exact.limit m c.args.by_step c.args.form z c.args.model.forms.now f
    c.wide_at-in-None-part.result c.wide_at-in-None-part.ensures.stop
    (subst (λ xs. IsWidePart c.args.model.forms.now c.args.form g.N.Exact.limit 0 xs)
    (wholes_are z c.items.ensures.list c.in-Ok.ensures.cleared c.in-Some.ensures.least.0) c.in-None-part.ensures.number)

pub returns-clause-fits : goal.returns-clause-fits
returns-clause-fits g c =
    let n : nat_abs c.in-Some-part.constant ≤ 2 ^ 62 - 1 =
    omega (arith, c.in-Some-part.ensures.number.1, g.met.N.Exact.limit_high) in
    let d : to_z w64 c.in-Some.common ≡ pos c.in-Some.common =
    common_seen g.N.Exact.limit c.in-Some.common g.met.N.Exact.limit_high c.in-Some.ensures.least.1 in
    fits_set g.N.Exact.limit c.args.model.set.now.columns c.args.model.forms.now c.items-2.result.now _
    (parameters_low c.args.model.forms.now c.args.model.set.now c.requires.model)
    c.in_ok-cost.ensures.costs c.in_ok-cost.ensures.within
    (subst (λ v. nat_abs v ≤ g.N.Exact.limit) (sym d) c.in-Some.ensures.least.1)
    (subst (λ v. nat_abs v ≤ g.N.Exact.limit) (sym (held c.in-Some-part.constant n)) c.in-Some-part.ensures.number.1)

pub returns-clause-task : goal.returns-clause-task
returns-clause-task g c = λ m f s.
    let z = map g.N.Exact.value c.args.vector.now in
    let n : nat_abs c.in-Some-part.constant ≤ 2 ^ 62 - 1 =
    omega (arith, c.in-Some-part.ensures.number.1, g.met.N.Exact.limit_high) in
    record {
      form = refl;
      step = refl;
      parameters = f.params;
      common = common_seen g.N.Exact.limit c.in-Some.common g.met.N.Exact.limit_high c.in-Some.ensures.least.1
          ∙ ap pos c.in-Some.ensures.least.0;
      constant = constant_told m c.args.model.forms.now f c.args.form z c.items.result.now
          (wholes_are z c.items.ensures.list c.in-Ok.ensures.cleared c.in-Some.ensures.least.0)
          (to_z w64 (of_z w64 c.in-Some-part.constant))
          (held c.in-Some-part.constant n ∙ c.in-Some-part.ensures.number.0);
      costs = costs_told m c.args.model.forms.now f c.args.form z c.items-2.result.now
          (wholes_are z c.items-2.ensures.list c.in-Ok.ensures.cleared c.in-Some.ensures.least.0)
          c.args.model.set.now.columns s.columns c.in_ok-cost.cost c.in_ok-cost.ensures.costs;
    }

pub returns-in_err-cost-clause-task : goal.returns-in_err-cost-clause-task
returns-in_err-cost-clause-task g c =
    let p = err_from_is_err_and c.from_residual.result c.from_residual.ensures.1 in
    let z = map g.N.Exact.value c.args.vector.now in
    rw (p.1, p.2) (λ m f s.
    costs_cause g.N.Exact.limit m c.args.by_step c.args.form z c.args.model.forms.now f c.in_err-cost.field-0.0
    (subst (λ xs. StopsAtPart c.args.model.forms.now c.args.form g.N.Exact.limit xs c.in_err-cost.field-0.0)
    (wholes_are z c.items-2.ensures.list c.in-Ok.ensures.cleared c.in-Some.ensures.least.0)
    c.in_err-cost.ensures.costs))
