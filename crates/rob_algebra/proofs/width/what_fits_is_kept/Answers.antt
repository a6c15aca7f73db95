use Rattle.rob_algebra.proofs.WidthLaws.{fits_or_wide, fits_not_wide, is_wide_decides, kept-fits, kept-wide, fits_of_kept, wide_of_kept, wide_whole}
use Rattle.rob_algebra.proofs.width.what_fits_is_kept.Goals as goal

pub returns : goal.returns
returns c = record {
  either = fits_or_wide;
  not_both = fits_not_wide;
  tested = is_wide_decides;
  kept = λ limit x. (λ e. (fits_of_kept limit x x e).1, kept-fits limit x);
  refused = λ limit x. (wide_of_kept limit x, kept-wide limit x);
  same = λ limit x y e. (fits_of_kept limit x y e).0;
  whole = wide_whole;
}
