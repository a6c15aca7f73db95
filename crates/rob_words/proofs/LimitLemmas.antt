-- The two numbers of a limit.
use Rattle.std.proofs.Common.{◌≡◌, ◌<◌, ◌≤◌, ◌∙◌, inl, inr, ℕ, zero, suc, true, false, length, take, refl, ap, sym, subst, arith}
use Rattle.std.specs.List.{position_or_len}
use Rattle.std.specs.Prelude.{ltb}
use Rattle.std.specs.Str.Parse.{digits_value}
use Rattle.std.proofs.lemmas.Bool.Decides.{nat_tests}
use Rattle.std.proofs.Math.Seq.{take-length}
use Rattle.rob_words.specs.Limits.{HasSlash, IsLimit, above, below, denominator_of, is_slash, numerator_of}
use Rattle.rob_words.specs.Values.{Word}

-- they are within the greatest number, and the denominator isn't 0
pub record FitsLimit (greatest : ℕ) (word : Word) : Type 0 where
  pub numerator : numerator_of word ≤ greatest
  pub denominator : denominator_of word ≤ greatest
  pub positive : 0 < denominator_of word

above_all : (word : Word) → position_or_len is_slash word ≡ length word → above word ≡ word
above_all word e = ap (λ n. take n word) e ∙ take-length word

over_one : (word : Word) → position_or_len is_slash word ≡ length word → denominator_of word ≡ 1
over_one word e =
    let none : ltb (position_or_len is_slash word) (length word) ≡ false = grind (arith, nat_tests) in rw none refl

over_below : (word : Word) → HasSlash word → denominator_of word ≡ digits_value 10 (below word)
over_below word less =
    let some : ltb (position_or_len is_slash word) (length word) ≡ true = grind (arith, nat_tests) in rw some refl

pub limit_fits : (greatest : ℕ) (word : Word) → 1 ≤ greatest → IsLimit greatest word → FitsLimit greatest word
limit_fits greatest word least (inl h) = record {
  numerator = subst (λ (w : Word). digits_value 10 w ≤ greatest) (sym (above_all word h.0)) h.1.fits;
  denominator = omega (arith, over_one word h.0, least);
  positive = omega (arith, over_one word h.0);
}
limit_fits greatest word least (inr h) = record {
  numerator = h.1.0.fits;
  denominator = omega (arith, over_below word h.0, h.1.1.whole.fits);
  positive = omega (arith, over_below word h.0, some_positive (digits_value 10 (below word)) h.1.1.some);
}
  where
    some_positive : (n : ℕ) → (n ≡ 0 → ⊥) → 0 < n
    some_positive zero some = absurd (some refl)
    some_positive (suc n) some = omega arith
