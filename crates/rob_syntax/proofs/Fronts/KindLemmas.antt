-- What stands behind the keywords of a goal, a row, a budget and an adaptive variable.
use Rattle.std.proofs.Common.{◌≡◌, List, [], ◌∷◌, ◌++◌, length, Option, Some, None, refl, sym, ap, subst, arith, append_assoc}
use Rattle.rob_index.specs.Symbols.{Symbol, sign, word}
use Rattle.rob_index.specs.Symbols as is
use Rattle.rob_index.specs.Statements.{Numeral, Bounds, Ref, Range, Ranged, Share, Sides, Tree}
use Rattle.rob_index.specs.Grammar.{Expr, spell_list, spell_ref, spell_ranges, spell_over, spell_number, spell_expr}
use Rattle.rob_index.specs.Lines.{spell_ranged, spell_share}
use Rattle.rob_syntax.specs.Fronts.{BeginsNot, EndsLine, EndsNumber, EndsRef, EndsSides, EndsShare, EndsEntry, EndsList, Found, IsMissing, Reads}
use Rattle.rob_syntax.specs.Parts.{spell_bounded, spell_related, tree_related, spell_row, tree_row, spell_ending, tree_ending, spell_goal, tree_goal, spell_budget, spell_adaptive}
use Rattle.rob_syntax.proofs.Fronts.PartLemmas.{led, led_found, led_missing, not_led, both, both_found, first_missing, second_missing, found_as, missing_as}
use Rattle.rob_syntax.proofs.Fronts.IndexLemmas.{ends_index}
use Rattle.rob_syntax.proofs.Fronts.LineLemmas.{empty_ranges, ranges_end_sides}

-- ---- a goal
abbrev goal_of : (Expr × Option Ref) × List Range → Expr × (Option Ref × List Range)
goal_of p = (p.0.0, (p.0.1, p.1))

abbrev parts_of : Expr × (Option Ref × List Range) → (Expr × Option Ref) × List Range
parts_of c = ((c.0, c.1.0), c.1.1)

goal_spelled : (c : Expr × (Option Ref × List Range)) → spell_goal c ≡ both spell_ending spell_ranges (parts_of c)
goal_spelled c = sym (append_assoc (spell_expr c.0) (spell_over c.1.0) (spell_ranges c.1.1))

pub no_goal : {symbols : List Symbol} → IsMissing spell_ending EndsSides symbols → IsMissing spell_goal EndsLine symbols
no_goal missing =
    missing_as goal_of parts_of goal_spelled (λ c. refl) (λ p. refl)
    (first_missing spell_ranges ranges_end_sides missing)

module _ {symbols middle : List Symbol} {value : Tree} {o : Option Ref}
    (first : Reads spell_ending EndsSides tree_ending symbols middle (value, o)) where
  pub no_goal_ranges : IsMissing spell_ranges EndsLine middle → IsMissing spell_goal EndsLine symbols
  no_goal_ranges missing =
      missing_as goal_of parts_of goal_spelled (λ c. refl) (λ p. refl)
      (second_missing spell_ranges ranges_end_sides first.found missing)

  pub goal_read : {rs : List Range} → Found spell_ranges EndsLine middle [] rs
      → Reads spell_goal EndsLine tree_goal symbols [] (value, (o, rs))
  goal_read {rs} second = record {
    item = (first.item.0, (first.item.1, rs));
    found =
        found_as goal_of parts_of goal_spelled (λ c. refl) (λ p. refl)
        (both_found spell_ranges ranges_end_sides first.found second);
    value_is = ap (λ (p : Tree × Option Ref). (p.0, (p.1, rs))) first.value_is;
    shorter = let h = first.shorter in omega arith;
  }

-- ---- a row
-- the colon, and what the row demands
abbrev pub spell_demand : Sides Expr × List Range → List Symbol
spell_demand = led (sign is.colon) spell_related

colon_ends_ref : (p : Sides Expr × List Range) (end : List Symbol) → EndsLine end → EndsRef (spell_demand p ++ end)
colon_ends_ref p end stop rest same = cc

pub no_row : {symbols : List Symbol} → IsMissing spell_ref EndsRef symbols → IsMissing spell_row EndsLine symbols
no_row missing = first_missing spell_demand colon_ends_ref missing

module _ {symbols middle : List Symbol} {r : Ref} (first : Found spell_ref EndsRef symbols middle r) where
  pub no_row_colon : BeginsNot (sign is.colon) middle → IsMissing spell_row EndsLine symbols
  no_row_colon none = second_missing spell_demand colon_ends_ref first (not_led none)

  module _ {last : List Symbol} (colon : middle ≡ sign is.colon ∷ last) where
    pub no_demand : IsMissing spell_related EndsLine last → IsMissing spell_row EndsLine symbols
    no_demand missing = second_missing spell_demand colon_ends_ref first (led_missing colon missing)

    pub row_read : {value : Sides Tree × List Range} → Reads spell_related EndsLine tree_related last [] value
        → Reads spell_row EndsLine tree_row symbols [] (r, value)
    row_read {value} second = record {
      item = (r, second.item);
      found = both_found spell_demand colon_ends_ref first (led_found colon second.found);
      value_is = ap (λ (v : Sides Tree × List Range). (r, v)) second.value_is;
      shorter = omega (arith, ap length first.spelled);
    }

-- ---- a budget
-- the members, and the set
abbrev pub spell_members : List (Ranged Share) × Option Ref → List Symbol
spell_members = both (spell_list (spell_ranged spell_share)) spell_over

-- the colon in front of them
abbrev pub spell_after_limit : List (Ranged Share) × Option Ref → List Symbol
spell_after_limit = led (sign is.colon) spell_members

limit_ends : (p : List (Ranged Share) × Option Ref) (end : List Symbol) → EndsLine end
    → EndsNumber (spell_after_limit p ++ end)
limit_ends p end stop rest same = cc

empty_list : EndsList EndsShare []
empty_list = record {
  item = record { number = λ rest same. cc; ranges = empty_ranges };
  comma = λ rest same. cc;
  name = λ k rest same. cc;
}

members_end : (o : Option Ref) (end : List Symbol) → EndsLine end → EndsList EndsShare (spell_over o ++ end)
members_end None end stop = subst (EndsList EndsShare) (sym stop) empty_list
members_end (Some r) end stop = record {
  item = record {
    number = λ rest same. cc;
    ranges = record {
      index = ends_index (word is.over) _ (λ e. cc) (λ e. cc);
      range = λ k rest same. cc;
      first = λ rest same. cc;
    };
  };
  comma = λ rest same. cc;
  name = λ k rest same. cc;
}

pub no_limit : {symbols : List Symbol} → IsMissing spell_number EndsNumber symbols
    → IsMissing spell_budget EndsLine symbols
no_limit missing = first_missing spell_after_limit limit_ends missing

module _ {symbols middle : List Symbol} {n : Numeral} (first : Found spell_number EndsNumber symbols middle n) where
  pub no_limit_colon : BeginsNot (sign is.colon) middle → IsMissing spell_budget EndsLine symbols
  no_limit_colon none = second_missing spell_after_limit limit_ends first (not_led none)

  module _ {inside : List Symbol} (colon : middle ≡ sign is.colon ∷ inside) where
    pub no_members : IsMissing (spell_list (spell_ranged spell_share)) (EndsList EndsShare) inside
        → IsMissing spell_budget EndsLine symbols
    no_members missing =
        second_missing spell_after_limit limit_ends first
        (led_missing colon (first_missing spell_over members_end missing))

    module _ {last : List Symbol} {ms : List (Ranged Share)}
        (members : Found (spell_list (spell_ranged spell_share)) (EndsList EndsShare) inside last ms) where
      pub no_budget_over : IsMissing spell_over EndsLine last → IsMissing spell_budget EndsLine symbols
      no_budget_over missing =
          second_missing spell_after_limit limit_ends first
          (led_missing colon (second_missing spell_over members_end members missing))

      pub budget_found : {o : Option Ref} → Found spell_over EndsLine last [] o
          → Found spell_budget EndsLine symbols [] (n, (ms, o))
      budget_found over =
          both_found spell_after_limit limit_ends first
          (led_found colon (both_found spell_over members_end members over))

-- ---- an adaptive variable
-- the closing parenthesis, bounds and ranges
abbrev pub spell_after_list : Option Bounds × List Range → List Symbol
spell_after_list = led (sign is.closing) spell_bounded

-- the list in parentheses, bounds and ranges
abbrev pub spell_policy : List (Ranged Ref) × (Option Bounds × List Range) → List Symbol
spell_policy = led (sign is.opening) (both (spell_list (spell_ranged spell_ref)) spell_after_list)

opening_ends : (p : List (Ranged Ref) × (Option Bounds × List Range)) (end : List Symbol) → EndsLine end
    → EndsRef (spell_policy p ++ end)
opening_ends p end stop rest same = cc

closing_ends : (p : Option Bounds × List Range) (end : List Symbol) → EndsLine end
    → EndsList EndsEntry (spell_after_list p ++ end)
closing_ends p end stop = record {
  item = record {
    ref = λ rest same. cc;
    ranges = record {
      index = ends_index (sign is.closing) _ (λ e. cc) (λ e. cc);
      range = λ k rest same. cc;
      first = λ rest same. cc;
    };
    equal = λ rest same. cc;
  };
  comma = λ rest same. cc;
  name = λ k rest same. cc;
}

pub no_policy : {symbols : List Symbol} → IsMissing spell_ref EndsRef symbols
    → IsMissing spell_adaptive EndsLine symbols
no_policy missing = first_missing spell_policy opening_ends missing

module _ {symbols middle : List Symbol} {r : Ref} (first : Found spell_ref EndsRef symbols middle r) where
  pub no_opening : BeginsNot (sign is.opening) middle → IsMissing spell_adaptive EndsLine symbols
  no_opening none = second_missing spell_policy opening_ends first (not_led none)

  module _ {inside : List Symbol} (opens : middle ≡ sign is.opening ∷ inside) where
    pub no_entries : IsMissing (spell_list (spell_ranged spell_ref)) (EndsList EndsEntry) inside
        → IsMissing spell_adaptive EndsLine symbols
    no_entries missing =
        second_missing spell_policy opening_ends first
        (led_missing opens (first_missing spell_after_list closing_ends missing))

    module _ {last : List Symbol} {on : List (Ranged Ref)}
        (entries : Found (spell_list (spell_ranged spell_ref)) (EndsList EndsEntry) inside last on) where
      pub no_closing : BeginsNot (sign is.closing) last → IsMissing spell_adaptive EndsLine symbols
      no_closing none =
          second_missing spell_policy opening_ends first
          (led_missing opens (second_missing spell_after_list closing_ends entries (not_led none)))

      module _ {behind : List Symbol} (closes : last ≡ sign is.closing ∷ behind) where
        pub no_policy_bounds : IsMissing spell_bounded EndsLine behind → IsMissing spell_adaptive EndsLine symbols
        no_policy_bounds missing =
            second_missing spell_policy opening_ends first
            (led_missing opens (second_missing spell_after_list closing_ends entries (led_missing closes missing)))

        pub policy_found : {p : Option Bounds × List Range} → Found spell_bounded EndsLine behind [] p
            → Found spell_adaptive EndsLine symbols [] (r, (on, p))
        policy_found bounded =
            both_found spell_policy opening_ends first
            (led_found opens (both_found spell_after_list closing_ends entries (led_found closes bounded)))
