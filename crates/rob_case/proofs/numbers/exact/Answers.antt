use Rattle.std.proofs.Common.{◌≡◌, ap, sym, ◌∙◌, w64, to_z, of_z}
use Rattle.std.proofs.Math.Facts.{to_z-of_z}
use Rattle.rob_algebra.specs.Fraction.{of_pair}
use Rattle.std.proofs.Common.{refl}
use Rattle.rob_algebra.proofs.Parts.{of_int-one}
use Rattle.rob_algebra.specs.Width.{kept}
use Rattle.rob_case.proofs.numbers.exact.Goals as goal

pub returns-in-Ok : goal.returns-in-Ok
returns-in-Ok g c =
    let seen : to_z w64 (of_z w64 c.args.num) ≡ c.args.num = to_z-of_z c.ranges.num in
    record {
      exact = ap (kept g.N.Exact.limit) (sym (of_int-one c.args.num 1 refl) ∙ ap (λ z. of_pair z 1) (sym seen))
          ∙ sym c.in-Ok.ensures.exact;
    }

pub returns-in-Err : goal.returns-in-Err
returns-in-Err g c =
    let seen : to_z w64 (of_z w64 c.args.num) ≡ c.args.num = to_z-of_z c.ranges.num in
    record {
      exact = (
        λ _. ap (kept g.N.Exact.limit) (sym (of_int-one c.args.num 1 refl) ∙ ap (λ z. of_pair z 1) (sym seen))
            ∙ sym c.in-Err.ensures.exact,
        λ e. cc,
      );
    }
