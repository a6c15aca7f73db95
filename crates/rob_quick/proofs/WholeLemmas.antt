-- Sums, differences and products of whole numbers are whole.
use Rattle.std.proofs.Common.{◌≡◌, ℕ, ℤ, ◌+ℤ◌, ◌-ℤ◌, nat_abs, ◌<◌, ◌^◌, to_z, of_z, neg_ℤ, sym, ap, ◌∙◌, arith}
use Rattle.std.specs.Int.{w128}
use Rattle.std.proofs.lemmas.Int.{ints}
use Rattle.rob_algebra.specs.Fraction.{Fraction, of_int, neg_ℚ, ◌-ℚ◌}
use Rattle.rob_algebra.specs.Width.{kept}
use Rattle.rob_algebra.proofs.Parts.{add-wholes, neg_parts}
use Rattle.rob_number.proofs.CastLemmas.{seen_wide}

-- an answer for the machine number that holds z is the answer for any fraction that is z
module _ (limit : ℕ) (r z : ℤ) (x : Fraction) (held : r ≡ z) (small : nat_abs r < 2 ^ 126) (is : x ≡ of_int z) where
  pub kept_whole : kept limit (of_int (to_z w128 (of_z w128 r))) ≡ kept limit x
  kept_whole = ap (λ n. kept limit (of_int n)) (seen_wide r small ∙ held) ∙ ap (kept limit) (sym is)

pub sub-wholes : (x y : Fraction) → x.den ≡ 1 → y.den ≡ 1 → x -ℚ y ≡ of_int (x.num -ℤ y.num)
sub-wholes x y p q =
    add-wholes x (neg_ℚ y) p ((neg_parts y).1 ∙ q) ∙ ap (λ n. of_int (x.num +ℤ n)) (neg_parts y).0
    ∙ ap of_int (difference x.num y.num)
  where
    difference : (a b : ℤ) → a +ℤ neg_ℤ b ≡ a -ℤ b
    difference a b = omega (arith, ints)
