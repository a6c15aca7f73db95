use Rattle.std.proofs.Common.{◌≡◌, ◌∙◌, ◌≤◌, ◌<◌, ◌-◌, ◌^◌, sym, subst, arith, nat_abs, to_z, of_z, w64, Option}
use Rattle.std.specs.Prelude.{IfNone}
use lib.IntN.{ℤ}
use Rattle.rob_number.proofs.CastLemmas.{seen_within}
use Rattle.rob_simplex.proofs.Rows.ShortParts.{short_parts, wide_first, wide_second}
use Rattle.rob_simplex.proofs.solution.short_parts.Goals as goal

pub returns-in-Some-Some-2 : goal.returns-in-Some-Some-2
returns-in-Some-Some-2 g c =
    let ep : to_z w64 (of_z w64 c.in-Some-Some-2.p) ≡ c.in-Some-Some-2.p =
    seen_within (2 ^ 62 - 1) c.in-Some-Some-2.p (omega arith) (omega (arith, c.in-Some-Some-2.ensures.small)) in
    let eq : to_z w64 (of_z w64 c.in-Some-Some-2.q) ≡ c.in-Some-Some-2.q =
    seen_within (2 ^ 62 - 1) c.in-Some-Some-2.q (omega arith) (omega (arith, c.in-Some-Some-2.ensures'.small)) in
    record {
      parts =
          short_parts (g.E.Entry.value c.args.numerator) (g.E.Entry.value c.args.denominator)
          (g.E.Entry.value c.lowest-first.result.0) (g.E.Entry.value c.lowest-first.result.1)
          c.lowest-first.ensures.parts c.requires.positive
          (to_z w64 (of_z w64 c.in-Some-Some-2.p)) (to_z w64 (of_z w64 c.in-Some-Some-2.q))
          (ep ∙ c.in-Some-Some-2.ensures.same) (eq ∙ c.in-Some-Some-2.ensures'.same)
          (subst (λ (v : ℤ). nat_abs v < 2 ^ 62) (sym ep) c.in-Some-Some-2.ensures.small)
          (subst (λ (v : ℤ). nat_abs v < 2 ^ 62) (sym eq) c.in-Some-Some-2.ensures'.small);
    }

pub returns-in_default-2 : goal.returns-in_default-2
returns-in_default-2 g c = record {
  parts =
      wide_second (g.E.Entry.value c.args.numerator) (g.E.Entry.value c.args.denominator)
      (g.E.Entry.value c.lowest-first.result.0) (g.E.Entry.value c.lowest-first.result.1) c.lowest-first.ensures.parts
      c.requires.positive c.lowest-first.ensures.lowest
      c.in_default-2.ensures'.wide;
}

pub returns-in_default-2-2 : goal.returns-in_default-2-2
returns-in_default-2-2 g c = record {
  parts =
      wide_first (g.E.Entry.value c.args.numerator) (g.E.Entry.value c.args.denominator)
      (g.E.Entry.value c.lowest-first.result.0) (g.E.Entry.value c.lowest-first.result.1) c.lowest-first.ensures.parts
      c.requires.positive c.lowest-first.ensures.lowest
      (subst (λ (r : Option ℤ). IfNone r (2 ^ 62 ≤ nat_abs (g.E.Entry.value c.lowest-first.result.0)))
      c.in_default-2.is-0 c.whole-3.ensures.wide);
}
