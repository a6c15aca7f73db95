-- Words without parentheses: numbers, bounds, relations, sets and lists of names.
use Rattle.std.proofs.Common.{◌≡◌, ℕ, zero, suc, ◌==◌, ℤ, pos, negsuc, Bool, true, false, List, [], ◌∷◌, ◌++◌, refl}
use Rattle.std.specs.Prelude.{Option, Some, None, int_lt, if◌then◌else◌}
use Rattle.rob_algebra.specs.Fraction.{Fraction, neg_ℚ}
use Rattle.rob_meaning.proofs.Lists.EachLemmas.{each_append}
use Rattle.rob_meaning.specs.Names.{Name}
use Rattle.rob_meaning.specs.RobustModel.{Relation, at_least, at_most, equal}
use Rattle.rob_pieces.specs.SplitModel.{as_side, side_of_sign}
use Rattle.rob_round_trip.proofs.Lengths.DepthSteps.{IsFlat, stays, step_of_word}
use Rattle.rob_syntax.specs.declared.symbol.Mark.TheVariants as mark
use Rattle.rob_write.specs.Pages.{Written, digits, sign}
use Rattle.rob_write.specs.ExpressionWords.{Naming, comma, expression_words, listed, minus_words, name_at, number_words}
use Rattle.rob_write.specs.StatementWords.{bound_words, over_words, relation_word}

-- no word opens or closes a parenthesis
abbrev pub AreFlat : List Written → Type 0
AreFlat ws = IsFlat step_of_word ws

both_flat : (ws vs : List Written) → AreFlat ws → AreFlat vs → AreFlat (ws ++ vs)
both_flat ws vs h k = each_append (λ w. step_of_word w ≡ stays) ws vs h k

minus_flat : (b : Bool) → AreFlat (minus_words b)
minus_flat true = (refl, tt)
minus_flat false = tt

number_flat : (q : Fraction) → AreFlat (number_words q)
number_flat q =
    both_flat (minus_words (int_lt q.num (pos 0))) _ (minus_flat (int_lt q.num (pos 0))) (refl, divisor (q.den == 1))
  where
    divisor : (b : Bool) → AreFlat (if b then [] else (sign mark.Slash ∷ (digits q.den ∷ [])))
    divisor true = tt
    divisor false = (refl, (refl, tt))

pub bound_flat : (lower upper : Option Fraction) → AreFlat (bound_words lower upper)
bound_flat None None = tt
bound_flat (Some l) None = (refl, number_flat l)
bound_flat None (Some u) = (refl, number_flat u)
bound_flat (Some l) (Some u) = (
  refl,
  (
    refl,
    both_flat (number_words l) _ (number_flat l) (refl, both_flat (number_words u) _ (number_flat u) (refl, tt)),
  ),
)

pub relation_flat : (r : Relation) → step_of_word (relation_word r) ≡ stays
relation_flat at_most = refl
relation_flat at_least = refl
relation_flat equal = refl

pub over_flat : (sets : List Name) (S : ℕ) → AreFlat (over_words sets S)
over_flat sets zero = tt
over_flat sets (suc S) = (refl, (refl, tt))

pub side_flat : (names : Naming) (q : Fraction) → AreFlat (expression_words names (as_side q))
side_flat names q = by q.num
  where
    by : (z : ℤ) → AreFlat (expression_words names (side_of_sign z q))
    by (pos n) = number_flat q
    by (negsuc n) = (
      refl,
      both_flat (number_words (neg_ℚ q) ++ []) []
          (both_flat (number_words (neg_ℚ q)) [] (number_flat (neg_ℚ q)) tt) tt,
    )

comma_flat : (first : Bool) → AreFlat (comma first)
comma_flat true = tt
comma_flat false = (refl, tt)

pub names_flat : (names : List Name) (first : Bool) (ks : List ℕ)
    → AreFlat (listed (λ k. name_at names k ∷ []) first ks)
names_flat names first [] = tt
names_flat names first (k ∷ ks) = both_flat (comma first) _ (comma_flat first) (refl, names_flat names false ks)
