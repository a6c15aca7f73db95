-- A model worked by hand, with one policy and with one policy on each side of a cut.
use Rattle.std.proofs.Common.{refl, ap, arith}
use Rattle.std.specs.Fmt.{digits}
use Rattle.std.specs.Prelude.{◌≡◌, ◌<◌, ℕ, negsuc, nat_abs, true, List, [], ◌∷◌, Some, None, codes}
use Rattle.rob_algebra.specs.Fraction.{Fraction, of_int, ratio}
use Rattle.rob_meaning.proofs.Conditions.EmptyLemmas.{shows_empty}
use Rattle.rob_meaning.proofs.ByHand.WorkedNotation.{int, over, ◌⊕◌, ◌⊖◌, uncertain, var, rule, row, cover, item, best}
use Rattle.rob_meaning.proofs.ByHand.WorkedTests.{found, test_certificate, test_empty, test_model}
use Rattle.rob_meaning.specs.Expressions.{number, parameter, variable, adaptive, sum, term, no_terms}
use Rattle.rob_meaning.specs.Names.{column_names, form_names, set_row_names}
use Rattle.rob_meaning.specs.Places.{0ℚ, 1ℚ}
use Rattle.rob_meaning.specs.RobustModel.{RobustModel, at_most, at_least, line, minimise}
use Rattle.rob_meaning.specs.Status.{IsOptimal}
use Rattle.rob_meaning.specs.UncertaintySet.{IsEmptySet}
use Rattle.rob_pieces.proofs.PieceLemmas.{one_piece_value, optimal_agree}
use Rattle.rob_pieces.specs.Cuts.{Cut}
use Rattle.rob_pieces.specs.Pieces.{IsPieceOptimal}
use Rattle.rob_pieces.specs.SplitModel.{split_model}
use Rattle.rob_pieces.specs.SplitNames.{HasGoodNames}

-- ---- d in [-2, 2] and e >= 0, |d| + e <= 2; minimise x where y(d) >= |d|, and x >= y + e by a row of the name
abbrev as_steep : List ℕ → RobustModel
as_steep name = record {
  parameters =
      uncertain (codes "d") (Some (of_int (negsuc 1))) (Some (int 2)) ∷ uncertain (codes "e") (Some 0ℚ) None ∷ [];
  sets = [];
  set_lines =
      line (parameter 0 ⊕ parameter 1) at_most (number (int 2))
      ∷ line (parameter 1 ⊖ parameter 0) at_most (number (int 2)) ∷ [];
  line_sets = [];
  variables = var (codes "x") None None ∷ [];
  adaptives = rule (codes "y") (0 ∷ []) None ∷ [];
  sense = minimise;
  objective = variable 0;
  objective_set = 0;
  rows =
      row (codes "up") (adaptive 0) at_least (parameter 0)
      ∷ row (codes "down") (adaptive 0) at_least (sum (term true (parameter 0) no_terms))
      ∷ row name (variable 0) at_least (adaptive 0 ⊕ parameter 1) ∷ [];
  row_sets = [];
}

abbrev steep : RobustModel
steep = as_steep (codes "pay")

-- one policy: y = 2, and x = 4
steep_costs_4 : IsOptimal steep (int 4)
unfolding ratio
steep_costs_4 =
    found
    (test_certificate steep
    (best (int 4) (0ℚ ∷ 0ℚ ∷ []) (int 4 ∷ int 2 ∷ 0ℚ ∷ [])
    (cover 1 1 1ℚ ∷ cover 2 0 1ℚ ∷ cover 3 3 (over 1 2) ∷ cover 3 4 (over 1 2) ∷ [])
    (item 0 1ℚ (0ℚ ∷ int 2 ∷ []) ∷ item 1 (over 1 2) (int 2 ∷ 0ℚ ∷ []) ∷ item 2 (over 1 2) (of_int (negsuc 1) ∷ 0ℚ ∷ [])
    ∷ item 3 1ℚ (0ℚ ∷ int 2 ∷ []) ∷ [])))
    tt

-- ---- cut by d at 0
abbrev at_zero : List Cut
at_zero = record { parameter = 0; level = 0ℚ } ∷ []

abbrev split_steep : RobustModel
split_steep = split_model steep at_zero

its_column_names : column_names split_steep ≡
    codes "x" ∷ codes "cells_worst" ∷ codes "y_1" ∷ codes "y_1.d" ∷ codes "y_2" ∷ codes "y_2.d" ∷ []
unfolding digits
its_column_names = refl

its_form_names : form_names split_steep ≡
    codes "objective" ∷ codes "cost_1" ∷ codes "up_1" ∷ codes "down_1" ∷ codes "pay_1" ∷ codes "cost_2" ∷ codes "up_2"
    ∷ codes "down_2" ∷ codes "pay_2" ∷ []
unfolding digits
its_form_names = refl

its_set_row_names : set_row_names split_steep ≡
    codes "d.lower" ∷ codes "d.upper" ∷ codes "e.lower" ∷ codes "cell_1.d.lower" ∷ codes "cell_1.d.upper"
    ∷ codes "cell_1.e.lower"
    ∷ codes "cell_2.d.lower" ∷ codes "cell_2.d.upper" ∷ codes "cell_2.e.lower" ∷ codes "set.1"
    ∷ codes "set.2" ∷ codes "set.3"
    ∷ codes "set.4" ∷ codes "set.5" ∷ codes "set.6" ∷ []
unfolding digits
its_set_row_names = refl

abbrev peak : List Fraction
peak = 0ℚ ∷ int 2 ∷ 0ℚ ∷ int 2 ∷ 0ℚ ∷ int 2 ∷ []

-- y_1 = -d and y_2 = d, and x = 2
split_steep_costs_2 : IsOptimal split_steep (int 2)
unfolding ratio digits
split_steep_costs_2 =
    found
    (test_certificate split_steep
    (best (int 2) (0ℚ ∷ 0ℚ ∷ 0ℚ ∷ 0ℚ ∷ 0ℚ ∷ 0ℚ ∷ [])
    (int 2 ∷ int 2 ∷ 0ℚ ∷ of_int (negsuc 0) ∷ 0ℚ ∷ 1ℚ ∷ [])
    (cover 2 11 (int 2) ∷ cover 4 10 1ℚ ∷ cover 7 14 (int 2) ∷ cover 8 12 1ℚ ∷ [])
    (item 0 1ℚ peak ∷ item 1 1ℚ peak ∷ item 2 1ℚ peak ∷ item 4 1ℚ peak ∷ [])))
    tt

pieces_cost_2 : IsPieceOptimal steep at_zero (int 2)
unfolding ratio
pieces_cost_2 =
    (optimal_agree steep (found (test_model steep) tt) refl at_zero (omega arith, tt) (int 2)).0 split_steep_costs_2

differ : (a b : ℕ) → b < a → a ≡ b → ⊥
differ a b h e = omega arith

four_is_not_two : int 4 ≡ int 2 → ⊥
unfolding ratio
four_is_not_two e = differ 4 2 (omega arith) (ap (λ (q : Fraction). nat_abs q.num) e)

-- so a body that gives all cells one policy, and with it answers 4, is refused
four_is_not_best : IsPieceOptimal steep at_zero (int 4) → ⊥
four_is_not_best h = four_is_not_two (one_piece_value steep at_zero (int 4) (int 2) h pieces_cost_2)

-- with the last row named `cost` its copy takes the name of the objective's row
named_cost_is_no_good_name : HasGoodNames (split_model (as_steep (codes "cost")) at_zero) → ⊥
unfolding digits
named_cost_is_no_good_name h = h.distinct.1.1.1.1.0.1.1.0 refl

-- ---- cut by d at 3: cell 2 is empty, d <= 2 and -d <= -3 sum to 0 <= -1
abbrev at_three : List Cut
at_three = record { parameter = 0; level = int 3 } ∷ []

beyond_is_empty : IsEmptySet (split_model steep at_three)
unfolding ratio digits
beyond_is_empty =
    shows_empty (split_model steep at_three) (found (test_model (split_model steep at_three)) tt)
    (0ℚ ∷ 0ℚ ∷ 0ℚ ∷ 0ℚ ∷ 0ℚ ∷ 0ℚ ∷ 0ℚ ∷ 1ℚ ∷ 0ℚ ∷ 0ℚ ∷ 0ℚ ∷ 0ℚ ∷ 0ℚ ∷ 0ℚ ∷ 1ℚ ∷ [])
    (found
    (test_empty (split_model steep at_three)
    (0ℚ ∷ 0ℚ ∷ 0ℚ ∷ 0ℚ ∷ 0ℚ ∷ 0ℚ ∷ 0ℚ ∷ 1ℚ ∷ 0ℚ ∷ 0ℚ ∷ 0ℚ ∷ 0ℚ ∷ 0ℚ ∷ 0ℚ ∷ 1ℚ ∷ [])) tt)
