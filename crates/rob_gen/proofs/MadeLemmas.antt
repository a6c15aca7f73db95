-- Parts of the model as they are made: what is seen of them is what is defined.
use Rattle.std.proofs.Common.{◌≡◌, ℕ, suc, ◌+◌, ◌-◌, List, [], ◌∷◌, ◌++◌, map, ap, sym, ◌∙◌, add-one, subst, arith}
use Rattle.std.specs.Prelude.{Some, None, codes}
use Rattle.rob_algebra.specs.Fraction.{Fraction}
use Rattle.rob_meaning.specs.Expressions.{parameter}
use Rattle.rob_meaning.specs.Places.{tabulate}
use Rattle.rob_meaning.specs.RobustModel.{budget, at_least, minimise, Member}
use Rattle.rob_meaning.specs.WellFormed.{IsModel}
use Rattle.rob_model.specs.Limits.{IsWithinLimits}
use Rattle.rob_model.specs.Valid.{IsValid}
use Rattle.rob_model.specs.View.{robust, sense_of, parameter_of, member_of, set_line_of, variable_of, adaptive_of, row_of, expression_of}
use Rattle.rob_model.specs.declared.expr.Expr.{Expr}
use Rattle.rob_model.specs.declared.model.Member as given
use Rattle.rob_model.specs.declared.model.Model.{Model}
use Rattle.rob_model.specs.declared.model.Rel.TheVariants.{AtLeast}
use Rattle.rob_model.specs.declared.model.SetLine.TheVariants.{Budget}
use Rattle.rob_gen.specs.Generated.{periods, centre, whole, numbered, places, demand, deviation, first_order, later_order, order, total, cost, need, generated}
use Rattle.rob_gen.proofs.GeneratedLemmas.{well_formed, within_limits}

module _ {N : Type 0} (value : N → Fraction) where
  pub demand_is : (centres : ℕ → ℕ) (place middle : ℕ) (name : List ℕ) (lower upper : N) → middle ≡ centres (place + 1)
      → name ≡ numbered (codes "d") (place + 1) → value lower ≡ whole (middle - 2) → value upper ≡ whole (middle + 2)
      → parameter_of value (record { name = name; lower = Some lower; upper = Some upper }) ≡ demand centres place
  demand_is centres place middle name lower upper m n l u =
      let next = add-one place in
      let at = m ∙ ap centres next in
      λ i. record {
        name = (n ∙ ap (λ k. numbered (codes "d") k) next) i;
        lower = Some ((l ∙ ap (λ k. whole (k - 2)) at) i);
        upper = Some ((u ∙ ap (λ k. whole (k + 2)) at) i);
      }

  pub deviation_is : (centres : ℕ → ℕ) (place middle : ℕ) (centre reach : N) → middle ≡ centres (place + 1)
      → value centre ≡ whole middle → value reach ≡ whole 2
      → member_of value (record { param = place; centre = centre; deviation = reach }) ≡ deviation centres place
  deviation_is centres place middle centre reach m c r =
      λ i. record {
        parameter = place;
        centre = (c ∙ ap whole (m ∙ ap centres (add-one place))) i;
        deviation = r i;
      }

  -- the one budget
  pub budget_is : (limit : N) (members : List (given.Member N)) (list : List Member) → value limit ≡ whole 1
      → map (member_of value) members ≡ list → set_line_of value (Budget limit members) ≡ budget (whole 1) list
  budget_is limit members list l h = λ i. budget (l i) (h i)

  pub first_order_is : (name : List ℕ) (least : N) → name ≡ codes "x" → value least ≡ whole 0
      → variable_of value (record { name = name; lower = Some least; upper = None }) ≡ first_order
  first_order_is name least n l = λ i. record { name = n i; lower = Some (l i); upper = None }

  pub later_order_is : (later : ℕ) (name on : List ℕ) (least : N) → name ≡ numbered (codes "y") (later + 2)
      → on ≡ places (later + 1) → value least ≡ whole 0
      → adaptive_of value (record { name = name; on = on; lower = Some least; upper = None }) ≡ later_order later
  later_order_is later name on least n o l =
      let second : later + 2 ≡ suc (suc later) = omega arith in
      λ i. record {
        name = (n ∙ ap (λ k. numbered (codes "y") k) second) i;
        on = (o ∙ ap places (add-one later)) i;
        lower = Some (l i);
        upper = None;
      }

  pub need_is : (place : ℕ) (name : List ℕ) (left right : Expr N) → name ≡ numbered (codes "need") (place + 1)
      → expression_of value left ≡ total (place + 1) order → expression_of value right ≡ total (place + 1) parameter
      → row_of value (record { name = name; left = left; rel = AtLeast; right = right }) ≡ need place
  need_is place name left right n l r =
      let next = add-one place in
      λ i. record {
        name = (n ∙ ap (λ k. numbered (codes "need") k) next) i;
        left = (l ∙ ap (λ k. total k order) next) i;
        relation = at_least;
        right = (r ∙ ap (λ k. total k parameter) next) i;
      }

  -- the one item of a list that was empty
  pub one_item : {A B : Type 0} (g : A → B) (empty : List A) (x : A) (z : B) {new : List A} → empty ≡ [] → new ≡
      empty ++ x ∷ []
      → g x ≡ z → map g new ≡ z ∷ []
  one_item g empty x z e pushed same =
      ap (map g) pushed ∙ ap (λ xs. map g (xs ++ x ∷ [])) e ∙ ap (λ y. y ∷ []) same

  -- a model whose parts are those of the model of a number
  pub model_is : (n : ℕ) (m : Model N)
      → map (parameter_of value) m.params ≡ tabulate (periods n) (demand (centre n))
      → m.sets ≡ []
      → map (set_line_of value) m.set_lines ≡ budget (whole 1) (tabulate (periods n) (deviation (centre n))) ∷ []
      → m.line_sets ≡ 0 ∷ []
      → map (variable_of value) m.vars ≡ first_order ∷ []
      → map (adaptive_of value) m.adaptives ≡ tabulate (periods n - 1) later_order
      → sense_of m.sense ≡ minimise
      → expression_of value m.objective ≡ cost (periods n)
      → m.objective_set ≡ 0
      → map (row_of value) m.rows ≡ tabulate (periods n) need
      → m.row_sets ≡ tabulate (periods n) (λ place. 0)
      → robust value m ≡ generated n
  model_is n m params sets set_lines line_sets vars adaptives sense objective objective_set rows row_sets =
      λ i. record {
        parameters = params i;
        sets = sets i;
        set_lines = set_lines i;
        line_sets = line_sets i;
        variables = vars i;
        adaptives = adaptives i;
        sense = sense i;
        objective = objective i;
        objective_set = objective_set i;
        rows = rows i;
        row_sets = row_sets i;
      }

  -- the model of a number is valid
  pub valid_of : (m : Model N) (n : ℕ) → robust value m ≡ generated n → IsValid value m
  valid_of m n e = record {
    well_formed = subst IsModel (sym e) (well_formed n);
    limits = subst IsWithinLimits (sym e) (within_limits n);
  }
