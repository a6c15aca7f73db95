-- The split model, one cell more; and numbers that stand so many times.
use Rattle.std.proofs.Common.{◌≡◌, ℕ, suc, ◌+◌, ◌-◌, List, [], ◌∷◌, ◌++◌, map, length, refl, ap, sym, ◌∙◌, append_assoc, append-nil, arith, length-append}
use Rattle.std.specs.Prelude.{flat_map, codes, None}
use Rattle.std.proofs.lemmas.List.{length-map, map-append, map_push}
use Rattle.rob_meaning.specs.Places.{tabulate}
use Rattle.rob_meaning.proofs.Lists.TabulateLemmas.{tabulate_next}
use Rattle.rob_meaning.specs.RobustModel.{RobustModel, in_set}
use Rattle.rob_meaning.specs.Expressions.{variable}
use Rattle.rob_model.specs.View.{adaptive_of, parameter_of, robust, row_of, set_line_of, variable_of}
use Rattle.rob_model.specs.declared.expr.Expr.TheVariants as expr
use Rattle.rob_model.specs.declared.model.Adaptive.{Adaptive}
use Rattle.rob_model.specs.declared.model.Model.{Model}
use Rattle.rob_model.specs.declared.model.Param.{Param}
use Rattle.rob_model.specs.declared.model.RowDef.{RowDef}
use Rattle.rob_model.specs.declared.model.SetLine.{SetLine as TheLine}
use Rattle.rob_model.specs.declared.model.Var.{Var}
use Rattle.rob_pieces.specs.Cuts.{Cut}
use Rattle.rob_pieces.specs.SplitModel.{numbered, cell_lines, cell_rows, cells_worst, copy_in}
use Rattle.rob_algebra.specs.Fraction.{Fraction}
use Rattle.rob_model.proofs.PartLemmas.{variable_is}
use Rattle.rob_cells.specs.Building.{split_over, with_cell}

-- ---- numbers
pub number_more : (old done : List ℕ) (n k : ℕ) {new : List ℕ} → new ≡ done ++ n ∷ []
    → done ≡ old ++ tabulate k (λ _. n)
    → new ≡ old ++ tabulate (k + 1) (λ _. n)
number_more old done n k pushed so_far =
    pushed
    ∙ ap (λ (xs : List ℕ). xs ++ n ∷ []) so_far
    ∙ append_assoc old (tabulate k (λ _. n)) (n ∷ [])
    ∙ ap (λ (xs : List ℕ). old ++ xs)
    (tabulate_next (λ (_ : ℕ). n) k)

-- the number for each item
pub numbers_of : {A : Type 0} (xs : List A) (n : ℕ) → tabulate (length xs) (λ _. n) ≡ map (λ item. n) xs
numbers_of [] n = refl
numbers_of (x ∷ xs) n = ap (λ (l : List ℕ). n ∷ l) (numbers_of xs n)

-- ---- one cell more
pub flat_more : {A : Type 0} (f : ℕ → List A) (cs : List ℕ) (c : ℕ) → flat_map f (cs ++ c ∷ []) ≡ flat_map f cs ++ f c
flat_more f [] c = append-nil (f c)
flat_more f (b ∷ cs) c = ap (λ l. f b ++ l) (flat_more f cs c) ∙ sym (append_assoc (f b) (flat_map f cs) (f c))

parameters_more : (m : RobustModel) (cs : List ℕ) (c : ℕ)
    → flat_map (λ set. map (in_set set) m.parameters) (map (numbered (codes "cell")) (cs ++ c ∷ []))
    ≡ flat_map (λ set. map (in_set set) m.parameters) (map (numbered (codes "cell")) cs)
    ++ map (in_set (numbered (codes "cell") c)) m.parameters
parameters_more m [] c = append-nil (map (in_set (numbered (codes "cell") c)) m.parameters)
parameters_more m (b ∷ cs) c =
    ap (λ l. map (in_set (numbered (codes "cell") b)) m.parameters ++ l) (parameters_more m cs c)
    ∙ sym (append_assoc (map (in_set (numbered (codes "cell") b)) m.parameters) _ _)

module _ (m : RobustModel) (cuts : List Cut) where
  parameters_with : (cs : List ℕ) (c : ℕ)
      → (split_over m cuts cs).parameters ++ map (in_set (numbered (codes "cell") c)) m.parameters
      ≡ (split_over m cuts (cs ++ c ∷ [])).parameters
  parameters_with cs c =
      append_assoc m.parameters (flat_map (λ set. map (in_set set) m.parameters) (map (numbered (codes "cell")) cs))
      (map (in_set (numbered (codes "cell") c)) m.parameters)
      ∙ ap (λ l. m.parameters ++ l) (sym (parameters_more m cs c))

  pub cell_more : (cs : List ℕ) (c : ℕ) → with_cell m cuts c (split_over m cuts cs) ≡ split_over m cuts (cs ++ c ∷ [])
  cell_more cs c = λ i. record (split_over m cuts cs) {
    parameters = parameters_with cs c i;
    sets = sym (map_push (numbered (codes "cell")) cs c) i;
    set_lines = sym (flat_more (λ c. cell_lines m c cuts) cs c) i;
    line_sets = sym (flat_more (λ c. map (λ item. c) (cell_lines m c cuts)) cs c) i;
    adaptives = sym (flat_more (λ c. map (copy_in m c) m.adaptives) cs c) i;
    rows = sym (flat_more (cell_rows m) cs c) i;
    row_sets = sym (flat_more (λ c. map (λ item. c) (cell_rows m c)) cs c) i;
  }

  -- the next cell in order
  pub next_cell : (k : ℕ) → with_cell m cuts (k + 1) (split_over m cuts (tabulate k suc))
      ≡ split_over m cuts (tabulate (k + 1) suc)
  next_cell k =
      ap (λ c. with_cell m cuts c (split_over m cuts (tabulate k suc))) (let e : k + 1 ≡ suc k = omega arith in e)
      ∙ cell_more (tabulate k suc) (suc k)
      ∙ ap (split_over m cuts) (tabulate_next suc k)

-- ---- lists that grew
module _ {A B : Type 0} (view : A → B) (old new : List A) (more : List B)
    (grown : map view new ≡ map view old ++ more) where
  longer : length new ≡ length old + length more
  longer =
      omega (
        arith,
        length-map new view,
        length-map old view,
        ap length grown,
        length-append (map view old) more,
      )

  -- the number for each new item
  pub number_for_each : (n count : ℕ) → count ≡ length new - length old → tabulate count (λ _. n) ≡ map (λ item. n) more
  number_for_each n count is =
      ap (λ k. tabulate k (λ _. n)) (let e : count ≡ length more = omega (arith, longer, is) in e) ∙ numbers_of more n

-- ---- the program's models
module _ {N : Type 0} (value : N → Fraction) (m : RobustModel) (cuts : List Cut) where
  -- with one cell more
  pub added : (c : ℕ) (split : Model N) (set : List ℕ) (params : List (Param N)) (sets : List (List ℕ))
      (lines : List (TheLine N))
      (line_sets : List ℕ) (adaptives : List (Adaptive N)) (rows : List (RowDef N)) (row_sets : List ℕ)
      → set ≡ numbered (codes "cell") c
      → map (parameter_of value) params ≡ map (parameter_of value) split.params ++ map (in_set set) m.parameters
      → sets ≡ split.sets ++ set ∷ []
      → map (set_line_of value) lines ≡ map (set_line_of value) split.set_lines ++ cell_lines m c cuts
      → line_sets ≡ split.line_sets ++ tabulate (length lines - length split.set_lines) (λ _. c)
      → map (adaptive_of value) adaptives ≡ map (adaptive_of value) split.adaptives ++ map (copy_in m c) m.adaptives
      → map (row_of value) rows ≡ map (row_of value) split.rows ++ cell_rows m c
      → row_sets ≡ split.row_sets ++ tabulate (length rows - length split.rows) (λ _. c)
      → robust value (record split {
        params = params;
        sets = sets;
        set_lines = lines;
        line_sets = line_sets;
        adaptives = adaptives;
        rows = rows;
        row_sets = row_sets;
      }) ≡ with_cell m cuts c (robust value split)
  added c split set params sets lines line_sets adaptives rows row_sets named p s l ls a r rs =
      λ i. record (robust value split) {
        parameters = (p ∙ ap (λ name. map (parameter_of value) split.params ++ map (in_set name) m.parameters) named) i;
        sets = (s ∙ ap (λ name. split.sets ++ name ∷ []) named) i;
        set_lines = l i;
        line_sets =
            (ls ∙ ap (λ ns. split.line_sets ++ ns)
            (number_for_each (set_line_of value) split.set_lines lines (cell_lines m c cuts) l c _ refl)) i;
        adaptives = a i;
        rows = r i;
        row_sets = (rs
            ∙ ap (λ ns. split.row_sets ++ ns)
            (number_for_each (row_of value) split.rows rows (cell_rows m c) r c _ refl))
            i;
      }

module _ {N : Type 0} (value : N → Fraction) (model : Model N) (cuts : List Cut) where
  variables_with : (vars list : List (Var N)) (name : List ℕ) → vars ≡ model.vars → name ≡ codes "cells_worst"
      → list ≡ vars ++ record { name = name; lower = None; upper = None } ∷ []
      → map (variable_of value) list ≡ map (variable_of value) model.vars ++ cells_worst ∷ []
  variables_with vars list name same named pushed =
      ap (map (variable_of value)) pushed
      ∙ map-append (variable_of value) vars (record { name = name; lower = None; upper = None } ∷ [])
      ∙ ap (λ (xs : List (Var N)). map (variable_of value) xs ++ record {
        name = name;
        lower = None;
        upper = None;
      } ∷ []) same
      ∙ ap (λ (n : List ℕ). map (variable_of value) model.vars ++ record {
        name = n;
        lower = None;
        upper = None;
      } ∷ []) named

  -- before the first cell
  pub started : (params : List (Param N)) (sets : List (List ℕ)) (lines : List (TheLine N)) (line_sets : List ℕ)
      (vars list : List (Var N)) (name : List ℕ) (adaptives : List (Adaptive N)) (count : ℕ)
      (rows : List (RowDef N)) (row_sets : List ℕ)
      → params ≡ model.params → sets ≡ [] → lines ≡ [] → line_sets ≡ [] → vars ≡ model.vars → name ≡ codes "cells_worst"
      → list ≡ vars ++ record { name = name; lower = None; upper = None } ∷ []
      → adaptives ≡ [] → count ≡ length model.vars → rows ≡ [] → row_sets ≡ []
      → robust value (record {
        params = params;
        sets = sets;
        set_lines = lines;
        line_sets = line_sets;
        vars = list;
        adaptives = adaptives;
        sense = model.sense;
        objective = expr.Var count;
        objective_set = 0;
        rows = rows;
        row_sets = row_sets;
      }) ≡ split_over (robust value model) cuts []
  started params sets lines line_sets vars list name adaptives count rows row_sets p s l ls v n pushed a k r rs =
      λ i. record (split_over (robust value model) cuts []) {
        parameters = (ap (map (parameter_of value)) p ∙ sym (append-nil (map (parameter_of value) model.params))) i;
        sets = s i;
        set_lines = map (set_line_of value) (l i);
        line_sets = ls i;
        variables = variables_with vars list name v n pushed i;
        adaptives = map (adaptive_of value) (a i);
        objective =
            (variable_is value count
            ∙ ap variable (k ∙ sym (length-map model.vars (variable_of value)))) i;
        rows = map (row_of value) (r i);
        row_sets = rs i;
      }
