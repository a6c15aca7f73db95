-- Whole-number variables worked by hand.
use Rattle.std.proofs.Common.{ap, arith, ◌∙◌, inl, inr, refl}
use Rattle.std.proofs.lemmas.Int.{ints}
use Rattle.std.specs.Prelude.{◌≡◌, pos, [], ◌∷◌, Some, None, codes}
use Rattle.rob_algebra.specs.Fraction.{Fraction, ratio}
use Rattle.rob_meaning.proofs.ByHand.WorkedNotation.{int, over, times, uncertain, var, row, cover, item, best, none, without_end}
use Rattle.rob_meaning.proofs.ByHand.WorkedTests.{found, test_certificate, test_le, test_proves}
use Rattle.rob_meaning.specs.Certificates.{Certificate, optimal, infeasible, unbounded}
use Rattle.rob_meaning.specs.Expressions.{number, parameter, variable}
use Rattle.rob_meaning.specs.Places.{0ℚ, 1ℚ}
use Rattle.rob_meaning.specs.RobustModel.{RobustModel, at_least, equal, minimise, maximise}
use Rattle.rob_meaning.specs.Status.{IsOptimal}
use Rattle.rob_reach.proofs.StatusLemmas.{one_optimum}
use Rattle.rob_reach.proofs.WorkedTests.{test_proved, test_tree_status}
use Rattle.rob_reach.specs.Boxes.{box_below, box_above}
use Rattle.rob_reach.specs.Growing.{IsGrown}
use Rattle.rob_reach.specs.Ranges.{whole_rule, product_of_ranges}
use Rattle.rob_reach.specs.Trees.{Leaf, leaf, split, left_open, Tree, node_count}
use Rattle.rob_reach.specs.Verdicts.{IsFirstFault, proof, status, value, whole}
use Rattle.rob_reach.specs.Verdicts as verdict
use Rattle.rob_reach.specs.WholeStatus.{IsWholeOptimal, IsWholeInfeasible, IsWholeUnbounded}

-- ---- d in [8, 13], x in [0, 10]; minimise x where 2 x >= d
-- forms: 0 the objective, 1 the row, 2 and 3 the bounds of x
abbrev half_a_demand : RobustModel
half_a_demand = record {
  parameters = uncertain (codes "d") (Some (int 8)) (Some (int 13)) ∷ [];
  set_lines = [];
  variables = var (codes "x") (Some 0ℚ) (Some (int 10)) ∷ [];
  adaptives = [];
  sets = [];
  line_sets = [];
  objective_set = 0;
  row_sets = [];
  sense = minimise;
  objective = variable 0;
  rows = row (codes "need") (times (number (int 2)) (variable 0)) at_least (parameter 0) ∷ [];
}

-- x = 13/2 with no whole number asked: the objective and half the row at d = 13 sum to 13/2 - tau <= 0
abbrev half_of_13 : Certificate
half_of_13 =
    best (over 13 2) (int 8 ∷ []) (over 13 2 ∷ []) (cover 1 1 1ℚ ∷ [])
    (item 0 1ℚ (int 8 ∷ []) ∷ item 1 (over 1 2) (int 13 ∷ []) ∷ [])

relaxed_costs_13_halves : IsOptimal half_a_demand (over 13 2)
unfolding ratio
relaxed_costs_13_halves = found (test_certificate half_a_demand half_of_13) tt

-- with x <= 6: the row at d = 13 and twice x - 6 <= 0 sum to 1 <= 0
abbrev not_below_6 : Certificate
not_below_6 = none (int 8 ∷ []) (item 1 1ℚ (int 13 ∷ []) ∷ item 3 (int 2) (int 8 ∷ []) ∷ [])

-- with x >= 7: x = 7
abbrev order_7 : Certificate
order_7 =
    best (int 7) (int 8 ∷ []) (int 7 ∷ []) (cover 1 1 1ℚ ∷ [])
    (item 0 1ℚ (int 8 ∷ []) ∷ item 2 1ℚ (int 8 ∷ []) ∷ [])

abbrev whole_orders : Tree
whole_orders =
    record { status = optimal; value = int 7; best = 2; root = split 0 (pos 6) (leaf not_below_6) (leaf order_7) }

whole_orders_cost_7 : IsWholeOptimal half_a_demand (0 ∷ []) (int 7)
unfolding ratio
whole_orders_cost_7 = found (test_tree_status half_a_demand (0 ∷ []) whole_orders) tt

three_nodes : node_count whole_orders.root ≡ 3
three_nodes = refl

-- it is the tree that grows: 13/2 isn't whole, so x is branched at 6
whole_orders_grow : IsGrown half_a_demand (0 ∷ []) whole_orders
unfolding ratio
whole_orders_grow =
    record {
      after = record { count = 2; best = Some record { number = 2; value = int 7 }; endless = None };
      grows = (
        (half_of_13, record { going = refl; proves = found (test_proves half_a_demand half_of_13) tt; decides = refl }),
        (
          record { count = 1; best = None; endless = None },
          (
            record {
              going = refl;
              proves = found (test_proves (box_below half_a_demand 0 (pos 6)) not_below_6) tt;
              decides = refl;
            },
            record {
              going = refl;
              proves = found (test_proves (box_above half_a_demand 0 (pos 6)) order_7) tt;
              decides = refl;
            },
          ),
        ),
      );
      finished = refl;
    }

-- with the value 6 the tree is refused at leaf 2, by what it shows
abbrev below_leaf : Leaf
below_leaf = record { box = box_below half_a_demand 0 (pos 6); certificate = Some not_below_6 }

abbrev above_leaf : Leaf
above_leaf = record { box = box_above half_a_demand 0 (pos 6); certificate = Some order_7 }

seven_isnt_six :
    IsFirstFault half_a_demand (0 ∷ []) (record whole_orders { value = int 6 })
    (record { number = 2; fault = verdict.best; leaf = above_leaf })
unfolding ratio
seven_isnt_six =
    record {
      before =
          record { number = 1; fault = proof; leaf = below_leaf } ∷ record {
            number = 1;
            fault = status;
            leaf = below_leaf;
          }
          ∷ record { number = 1; fault = value; leaf = below_leaf } ∷ record {
            number = 2;
            fault = proof;
            leaf = above_leaf;
          }
          ∷ record { number = 2; fault = status; leaf = above_leaf } ∷ record {
            number = 2;
            fault = value;
            leaf = above_leaf;
          } ∷ [];
      after = record { number = 2; fault = whole; leaf = above_leaf } ∷ [];
      stands = refl;
      hold = (
        found (test_proved below_leaf) tt,
        (
          inl refl,
          (
            λ e. cc,
            (found (test_proved above_leaf) tt, (inr refl, (λ e. found (test_le (int 6) (int 7)) tt, tt))),
          ),
        ),
      );
      fails = λ h. other (ap value_of (same h.1.0) ∙ h.1.1.1);
    }
  where
    same : {c d : Certificate} → Some c ≡ Some d → c ≡ d
    same e = cc

    value_of : Certificate → Fraction
    value_of c = c.value

    other : int 7 ≡ int 6 → ⊥
    other e = apart (ap (λ (q : Fraction). q.num) e)
      where
        apart : pos 7 ≡ pos 6 → ⊥
        apart e = omega (arith, ints)

-- ---- 2 x = 7
abbrev an_odd_demand : RobustModel
an_odd_demand =
    record half_a_demand { rows = row (codes "need") (times (number (int 2)) (variable 0)) equal (number (int 7)) ∷ [] }

-- forms: 1 and 2 the halves 2 x - 7 and 7 - 2 x of the row, 3 and 4 the bounds of x
abbrev no_whole_half : Tree
no_whole_half = record {
  status = infeasible;
  value = 0ℚ;
  best = 0;
  root =
      split 0 (pos 3) (leaf (none (int 8 ∷ []) (item 2 1ℚ (int 8 ∷ []) ∷ item 4 (int 2) (int 8 ∷ []) ∷ [])))
      (leaf (none (int 8 ∷ []) (item 1 1ℚ (int 8 ∷ []) ∷ item 3 (int 2) (int 8 ∷ []) ∷ [])));
}

odd_demand_is_infeasible : IsWholeInfeasible an_odd_demand (0 ∷ [])
unfolding ratio
odd_demand_is_infeasible = found (test_tree_status an_odd_demand (0 ∷ []) no_whole_half) tt

-- the rules
no_rule_is_broken : whole_rule half_a_demand (0 ∷ []) ≡ None
unfolding ratio
no_rule_is_broken = refl

eleven_numbers : product_of_ranges half_a_demand.variables (0 ∷ []) ≡ 11
unfolding ratio
eleven_numbers = refl

a_bound_is_lacking : whole_rule (record an_odd_demand { variables = var (codes "x") (Some 0ℚ) None ∷ [] }) (0 ∷ [])
    ≡ Some 62
unfolding ratio
a_bound_is_lacking = refl

the_range_is_over_1000 :
    whole_rule (record an_odd_demand { variables = var (codes "x") (Some 0ℚ) (Some (int 1000)) ∷ [] }) (0 ∷ [])
    ≡ Some 63
unfolding ratio
the_range_is_over_1000 = refl

the_range_is_1000 :
    whole_rule (record an_odd_demand { variables = var (codes "x") (Some 1ℚ) (Some (int 1000)) ∷ [] }) (0 ∷ []) ≡ None
unfolding ratio
the_range_is_1000 = refl

-- bounds that cross count 1, and bounds that aren't whole are rounded outwards
crossed_bounds_count_1 : product_of_ranges (var (codes "x") (Some (int 5)) (Some (int 2)) ∷ []) (0 ∷ []) ≡ 1
unfolding ratio
crossed_bounds_count_1 = refl

halves_round_outwards : product_of_ranges (var (codes "x") (Some (over 1 2)) (Some (over 3 2)) ∷ []) (0 ∷ []) ≡ 3
unfolding ratio
halves_round_outwards = refl

-- the relaxed plan rounded down is no optimum: 6 is refused
six_is_refused : IsWholeOptimal half_a_demand (0 ∷ []) (int 6) → ⊥
unfolding ratio
six_is_refused h =
    apart (ap (λ (q : Fraction). q.num) (one_optimum half_a_demand (0 ∷ []) (int 7) (int 6) whole_orders_cost_7 h))
  where
    apart : pos 7 ≡ pos 6 → ⊥
    apart e = omega (arith, ints)

-- ---- a tie: minimise 0 with x in [0, 1]; any plan is best, also x = 1/2
-- forms: 0 the objective, 1 and 2 the bounds of x
abbrev nothing_to_pay : RobustModel
nothing_to_pay = record {
  parameters = [];
  set_lines = [];
  variables = var (codes "x") (Some 0ℚ) (Some 1ℚ) ∷ [];
  adaptives = [];
  sets = [];
  line_sets = [];
  objective_set = 0;
  row_sets = [];
  sense = minimise;
  objective = number 0ℚ;
  rows = [];
}

abbrev nothing_at : Fraction → Certificate
nothing_at x = best 0ℚ [] (x ∷ []) [] (item 0 1ℚ [] ∷ [])

-- the first whole plan stays the best, since the box above is no better
abbrev first_of_two : Tree
first_of_two = record {
  status = optimal;
  value = 0ℚ;
  best = 1;
  root = split 0 (pos 0) (leaf (nothing_at 0ℚ)) (leaf (nothing_at 1ℚ));
}

first_of_two_grows : IsGrown nothing_to_pay (0 ∷ []) first_of_two
unfolding ratio
first_of_two_grows =
    record {
      after = record { count = 2; best = Some record { number = 1; value = 0ℚ }; endless = None };
      grows = (
        (
          nothing_at (over 1 2),
          record {
            going = refl;
            proves = found (test_proves nothing_to_pay (nothing_at (over 1 2))) tt;
            decides = refl;
          },
        ),
        (
          record { count = 1; best = Some record { number = 1; value = 0ℚ }; endless = None },
          (
            record {
              going = refl;
              proves = found (test_proves (box_below nothing_to_pay 0 (pos 0)) (nothing_at 0ℚ)) tt;
              decides = refl;
            },
            record {
              going = refl;
              proves = found (test_proves (box_above nothing_to_pay 0 (pos 0)) (nothing_at 1ℚ)) tt;
              decides = refl;
            },
          ),
        ),
      );
      finished = refl;
    }

-- ---- a gain without end: maximise y with x in [0, 1] whole and y free
abbrev a_gain_without_end : RobustModel
a_gain_without_end = record {
  parameters = [];
  set_lines = [];
  variables = var (codes "x") (Some 0ℚ) (Some 1ℚ) ∷ var (codes "y") None None ∷ [];
  adaptives = [];
  sets = [];
  line_sets = [];
  objective_set = 0;
  row_sets = [];
  sense = maximise;
  objective = variable 1;
  rows = [];
}

-- from y = 0 with bound 0, in the direction y
abbrev gain_from : Fraction → Certificate
gain_from x = without_end (x ∷ 0ℚ ∷ []) (0ℚ ∷ 1ℚ ∷ []) 1ℚ

-- the plan x = 1/2 isn't whole; the box below shows that there is no end, and the box above is left open
abbrev half_open : Tree
half_open = record {
  status = unbounded;
  value = 0ℚ;
  best = 1;
  root = split 0 (pos 0) (leaf (gain_from 0ℚ)) left_open;
}

half_open_grows : IsGrown a_gain_without_end (0 ∷ []) half_open
unfolding ratio
half_open_grows =
    record {
      after = record { count = 2; best = None; endless = Some 1 };
      grows = (
        (
          gain_from (over 1 2),
          record {
            going = refl;
            proves = found (test_proves a_gain_without_end (gain_from (over 1 2))) tt;
            decides = refl;
          },
        ),
        (
          record { count = 1; best = None; endless = Some 1 },
          (
            record {
              going = refl;
              proves = found (test_proves (box_below a_gain_without_end 0 (pos 0)) (gain_from 0ℚ)) tt;
              decides = refl;
            },
            ((1, refl), refl),
          ),
        ),
      );
      finished = refl;
    }

gain_is_unbounded : IsWholeUnbounded a_gain_without_end (0 ∷ [])
unfolding ratio
gain_is_unbounded = found (test_tree_status a_gain_without_end (0 ∷ []) half_open) tt
