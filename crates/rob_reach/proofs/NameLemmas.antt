-- A box of branches on bounded variables, and a model with another budget, have the names of the model: a text about
-- one is a text about the other.
use Rattle.std.specs.Prelude.{◌≡◌, ℕ, zero, suc, ℤ, Bool, true, false, T, List, [], ◌∷◌, ◌++◌, map, flat_map, codes, Option, Some, None, refl}
use Rattle.std.proofs.Common.{ap, sym, subst}
use Rattle.rob_algebra.specs.Fraction.{Fraction}
use Rattle.rob_meaning.specs.Named.{IsNamed, AreDistinct, variable_names, written_names, row_names, adaptive_names, IsPlain, IsFree}
use Rattle.rob_meaning.specs.Names.{Name, Parts, joined, bound_parts, column_names, rule_parts, side_parts, form_names, set_row_names, by_number, statement_parts, parameter_bound_parts}
use Rattle.rob_meaning.specs.Places.{Each}
use Rattle.rob_meaning.specs.RobustModel.{Variable, AdaptiveVariable, Row, SetLine, line, budget, RobustModel}
use Rattle.rob_reach.specs.Boxes.{change_at, tightened, Branch, behind}
use Rattle.rob_reach.specs.Ranges.{has_both, is_bounded}
use Rattle.rob_reach.specs.Sweeps.{limited, limit_at, with_budget}

module _ (upper : Bool) (k : ℤ) where
  name-tightened : (x : Variable) → (tightened upper k x).name ≡ x.name
  name-tightened x = by upper
    where
      by : (b : Bool) → (tightened b k x).name ≡ x.name
      by true = refl
      by false = refl

  -- what is told of variables by their names alone stays
  by_name-change_at : {A : Type 0} (f : Name → A) (j : ℕ) (xs : List Variable) →
      map (λ (x : Variable). f x.name) (change_at (tightened upper k) j xs) ≡ map (λ (x : Variable). f x.name) xs
  by_name-change_at f j [] = refl
  by_name-change_at {A} f zero (x ∷ xs) =
      ap (λ n. f n ∷ map (λ (x : Variable). f x.name) xs) (name-tightened x)
  by_name-change_at f (suc j) (x ∷ xs) = ap (λ ys. f x.name ∷ ys) (by_name-change_at f j xs)

  bound_parts-tightened : (x : Variable) → T (has_both x.lower x.upper) →
      bound_parts (tightened upper k x).name (tightened upper k x).lower (tightened upper k x).upper
      ≡ bound_parts x.name x.lower x.upper
  bound_parts-tightened x h = by upper x.lower x.upper h
    where
      by : (b : Bool) (l u : Option Fraction) → T (has_both l u) →
          bound_parts (tightened b k (record x { lower = l; upper = u })).name
          (tightened b k (record x { lower = l; upper = u })).lower
          (tightened b k (record x { lower = l; upper = u })).upper
          ≡ bound_parts x.name l u
      by true None u h = absurd h
      by true (Some l) None h = absurd h
      by true (Some l) (Some u) h = refl
      by false None u h = absurd h
      by false (Some l) None h = absurd h
      by false (Some l) (Some u) h = refl

  bound_parts-change_at : (j : ℕ) (xs : List Variable) → T (is_bounded xs j) →
      flat_map (λ (x : Variable). bound_parts x.name x.lower x.upper) (change_at (tightened upper k) j xs)
      ≡ flat_map (λ (x : Variable). bound_parts x.name x.lower x.upper) xs
  bound_parts-change_at j [] h = absurd h
  bound_parts-change_at zero (x ∷ xs) h =
      ap (λ ps. ps ++ flat_map (λ (x : Variable). bound_parts x.name x.lower x.upper) xs) (bound_parts-tightened x h)
  bound_parts-change_at (suc j) (x ∷ xs) h =
      ap (λ ps. bound_parts x.name x.lower x.upper ++ ps) (bound_parts-change_at j xs h)

module _ (m : RobustModel) (b : Branch) where
  variable_names-behind : variable_names (behind m b) ≡ variable_names m
  variable_names-behind = by_name-change_at b.is_upper b.bound (λ n. n) b.variable m.variables

  pub column_names-behind : column_names (behind m b) ≡ column_names m
  column_names-behind =
      ap (λ ps. map joined (ps ++ flat_map (rule_parts m.parameters) m.adaptives))
      (by_name-change_at b.is_upper b.bound (λ n. n ∷ []) b.variable m.variables)

  -- where the variable has both bounds, each form has its name
  pub form_names-behind : T (is_bounded m.variables b.variable) → form_names (behind m b) ≡ form_names m
  form_names-behind h =
      ap (λ (ps : List Parts). map joined ((codes "objective" ∷ [])
      ∷ (flat_map (λ (r : Row). side_parts r.relation (r.name ∷ [])) m.rows
      ++ (ps ++ flat_map (λ (y : AdaptiveVariable). bound_parts y.name y.lower y.upper) m.adaptives))))
      (bound_parts-change_at b.is_upper b.bound b.variable m.variables h)

  pub named_behind : IsNamed m → IsNamed (behind m b)
  named_behind h =
      record {
        plain = subst (λ (ns : List Name).
            Each IsPlain (written_names m ++ (m.sets ++ (row_names m ++ (ns ++ adaptive_names m)))))
            (sym variable_names-behind) h.plain;
        free = subst (λ (ns : List Name).
            Each IsFree (written_names m ++ (m.sets ++ (row_names m ++ (ns ++ adaptive_names m)))))
            (sym variable_names-behind) h.free;
        distinct = subst (λ (ns : List Name).
            AreDistinct (written_names m ++ (m.sets ++ (row_names m ++ (ns ++ adaptive_names m)))))
            (sym variable_names-behind) h.distinct;
        lists = h.lists;
        members = h.members;
        few = h.few;
      }

-- ---- another budget
parts-limited : (m : RobustModel) (k : ℕ) (g : Fraction) (c : SetLine) →
    statement_parts m.parameters k (limited g c) ≡ statement_parts m.parameters k c
parts-limited m k g (line l relation r) = refl
parts-limited m k g (budget limit members) = refl

parts-limit_at : (m : RobustModel) (k n : ℕ) (g : Fraction) (cs : List SetLine) →
    by_number (statement_parts m.parameters) k (limit_at n g cs) ≡ by_number (statement_parts m.parameters) k cs
parts-limit_at m k n g [] = refl
parts-limit_at m k zero g (c ∷ cs) = refl
parts-limit_at m k (suc zero) g (c ∷ cs) =
    ap (λ ps. ps ++ by_number (statement_parts m.parameters) (suc k) cs) (parts-limited m k g c)
parts-limit_at m k (suc (suc n)) g (c ∷ cs) =
    ap (λ ps. statement_parts m.parameters k c ++ ps) (parts-limit_at m (suc k) (suc n) g cs)

pub set_row_names-with_budget : (m : RobustModel) (n : ℕ) (g : Fraction)
    → set_row_names (with_budget m n g) ≡ set_row_names m
set_row_names-with_budget m n g =
    ap (λ ps. map joined (parameter_bound_parts m.parameters ++ ps)) (parts-limit_at m 1 n g m.set_lines)
