use Rattle.std.proofs.Common.{◌≡◌, ◌≤◌, ◌<◌, ◌^◌, map, length, ap, sym, subst, arith, nat_abs, refl, true, false}
use Rattle.rob_algebra.specs.Fraction.{of_int, ◌+ℚ◌, ◌≤ℚ◌}
use Rattle.rob_meaning.specs.Places.{0ℚ}
use lib.IntN.{ℤ}
use Rattle.rob_worst.specs.Finding.{Tells, HasConstantWithin}
use Rattle.rob_cuts.specs.Scans.{TellsFew}
use Rattle.rob_cuts.proofs.JudgeLemmas.{broken_judged, kept_judged, ray_judged, verdict_told}
use Rattle.rob_cuts.proofs.scan.judge.Goals as goal
use Rattle.rob_number.proofs.CastLemmas.{seen_within}

pub is_kept-requires : goal.is_kept-requires
is_kept-requires g c =
    let h : nat_abs c.in-At.constant ≤ g.N.Exact.limit = subst (HasConstantWithin g.N.Exact.limit) c.in-At.is
    c.requires.constant in
    let e = ap nat_abs (seen_within g.N.Exact.limit c.in-At.constant g.met.N.Exact.limit_high h) in
    let k = g.met.N.Exact.limit_high in
    record { small = omega arith }

pub append_covers-requires : goal.append_covers-requires
append_covers-requires g c = record {
  few = let h : length c.in-At.amounts < 2 ^ 32 = subst TellsFew c.in-At.is c.requires.amounts in
      omega (arith, h, ap length c.items-in-At.ensures.list);
}

pub returns-then-not-is_kept : goal.returns-then-not-is_kept
returns-then-not-is_kept g c = record {
  judged = λ m model some z size told.
      let value = g.N.Exact.value in
      verdict_told g.N.Exact.limit m value c.args.form z c.args.covers.now c.args.covers.now c.scenario_cut.result
      c.broken.result c.broken.ensures.verdict
      (broken_judged g.N.Exact.limit m value model c.args.form some z size c.args.covers.now c.args.covers.now _ _ _ _
      _ _
      (subst (Tells value m c.args.form z) c.in-At.is told) c.items.result.now (ap (map value) c.items.ensures.list)
      (λ h. let e : false ≡ true = c.if-not-is_kept.ensures.kept.1
      (subst (λ (v : ℤ). (value c.in-At.peak +ℚ of_int v) ≤ℚ 0ℚ)
      (sym (seen_within g.N.Exact.limit c.in-At.constant g.met.N.Exact.limit_high
      (subst (HasConstantWithin g.N.Exact.limit) c.in-At.is c.requires.constant))) h) in cc) c.scenario_cut.result
      c.scenario_cut.ensures.cut c.scenario_cut.ensures.fits c.scenario_cut.ensures.stopped);
}

pub returns-in-Ok : goal.returns-in-Ok
returns-in-Ok g c = record {
  judged = λ m model some z size told.
      let value = g.N.Exact.value in
      kept_judged g.N.Exact.limit m value model c.args.form some z size c.args.covers.now c.append_covers.new.covers _
      _ _ _ _ _
      (subst (Tells value m c.args.form z) c.in-At.is told) c.items-in-At.result.now
      (ap (map value) c.items-in-At.ensures.list)
      (subst (λ (v : ℤ). (value c.in-At.peak +ℚ of_int v) ≤ℚ 0ℚ)
      (seen_within g.N.Exact.limit c.in-At.constant g.met.N.Exact.limit_high
      (subst (HasConstantWithin g.N.Exact.limit) c.in-At.is c.requires.constant))
      (c.if-not-is_kept.ensures.kept.0 refl)) c.in-At.scale refl c.in-Ok.ensures.covers;
}

pub returns : goal.returns
returns g c = record {
  judged = λ m model some z size told.
      let value = g.N.Exact.value in
      verdict_told g.N.Exact.limit m value c.args.form z c.args.covers.now c.args.covers.now c.ray_cut.result
      c.broken-in-Along.result c.broken-in-Along.ensures.verdict
      (ray_judged g.N.Exact.limit m value model c.args.form some z size c.args.covers.now c.args.covers.now _ _ _
      (subst (Tells value m c.args.form z) c.in-Along.is told) c.items-in-Along.result.now
      (ap (map value) c.items-in-Along.ensures.list)
      c.ray_cut.result c.ray_cut.ensures.cut c.ray_cut.ensures.fits c.ray_cut.ensures.stopped);
}
