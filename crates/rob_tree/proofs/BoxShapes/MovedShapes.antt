-- A certificate's shape speaks of a model's counts alone, and a box has those of its model.
use Rattle.std.proofs.Common.{◌≡◌, ◌<◌, List, length, T, refl, sym, subst, ◌∙◌}
use Rattle.rob_cert.specs.Shape.{AreCoversOf, AreItemsOf, HasParts, HasShape, IsCoverOf, IsItemOf}
use Rattle.rob_meaning.specs.Certificates.{Status, optimal, infeasible, unbounded, Cover, Item, Certificate}
use Rattle.rob_meaning.specs.Forms.{forms}
use Rattle.rob_meaning.specs.RobustModel.{RobustModel, column_count}
use Rattle.rob_meaning.specs.SetRows.{set_rows}
use Rattle.rob_meaning.proofs.Lists.EachLemmas.{each_map}
use Rattle.rob_reach.specs.Boxes.{Branch, behind}
use Rattle.rob_reach.specs.Ranges.{is_bounded}
use Rattle.rob_tree.proofs.BoxShapes.BoxLemmas.{column_count-behind, length-forms, length-set_rows}

-- the models have as many forms, set rows, decision columns and parameters
pub record HasCountsOf (a b : RobustModel) : Type 0 where
  pub forms_same : length (forms a) ≡ length (forms b)
  pub rows_same : length (set_rows a) ≡ length (set_rows b)
  pub columns_same : column_count a ≡ column_count b
  pub parameters_same : length a.parameters ≡ length b.parameters

pub flipped : (a b : RobustModel) → HasCountsOf a b → HasCountsOf b a
flipped a b h = record {
  forms_same = sym h.forms_same;
  rows_same = sym h.rows_same;
  columns_same = sym h.columns_same;
  parameters_same = sym h.parameters_same;
}

pub same_self : (a : RobustModel) → HasCountsOf a a
same_self a = record { forms_same = refl; rows_same = refl; columns_same = refl; parameters_same = refl }

pub same_through : (a b c : RobustModel) → HasCountsOf a b → HasCountsOf b c → HasCountsOf a c
same_through a b c h g = record {
  forms_same = h.forms_same ∙ g.forms_same;
  rows_same = h.rows_same ∙ g.rows_same;
  columns_same = h.columns_same ∙ g.columns_same;
  parameters_same = h.parameters_same ∙ g.parameters_same;
}

pub same_behind : (m : RobustModel) (b : Branch) → T (is_bounded m.variables b.variable) → HasCountsOf m (behind m b)
same_behind m b bounded = record {
  forms_same = sym (length-forms m b bounded);
  rows_same = sym (length-set_rows m b);
  columns_same = sym (column_count-behind m b);
  parameters_same = refl;
}

module _ (a b : RobustModel) (same : HasCountsOf a b) where
  cover_moves : (c : Cover) → IsCoverOf a c → IsCoverOf b c
  cover_moves c h = record {
    form = subst (λ n. c.form < n) same.forms_same h.form;
    set_row = subst (λ n. c.set_row < n) same.rows_same h.set_row;
    amount = h.amount;
  }

  covers_move : (cs : List Cover) → AreCoversOf a cs → AreCoversOf b cs
  covers_move cs h = record { each = each_map (IsCoverOf a) (IsCoverOf b) cover_moves cs h.each; ordered = h.ordered }

  item_moves : (i : Item) → IsItemOf a i → IsItemOf b i
  item_moves i h =
      record { form = subst (λ n. i.form < n) same.forms_same h.form; numbers = h.numbers ∙ same.parameters_same }

  items_move : (is : List Item) → AreItemsOf a is → AreItemsOf b is
  items_move is h =
      record { each = each_map (IsItemOf a) (IsItemOf b) item_moves is h.each; ordered = h.ordered; few = h.few }

  parts_move : (s : Status) (c : Certificate) → HasParts a s c → HasParts b s c
  parts_move optimal c h =
      record { plan = h.plan ∙ same.columns_same; step = h.step; step_bound = h.step_bound; holds = h.holds }
  parts_move infeasible c h = h
  parts_move unbounded c h =
      record { plan = h.plan ∙ same.columns_same; step = h.step ∙ same.columns_same; items = h.items }

  pub shape_moves : (c : Certificate) → HasShape a c → HasShape b c
  shape_moves c h = record {
    inside = h.inside ∙ same.parameters_same;
    parts = parts_move c.status c h.parts;
    covers = covers_move c.covers h.covers;
    holds = covers_move c.holds h.holds;
    items = items_move c.items h.items;
  }
