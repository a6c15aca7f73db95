-- The names of the split model, part by part.
use Rattle.std.proofs.Common.{◌≡◌, ℕ, suc, ◌+◌, ◌≤◌, List, [], ◌∷◌, ◌++◌, map, length, refl, ap, ap₂, sym, ◌∙◌, append_assoc, arith}
use Rattle.std.specs.Prelude.{codes, flat_map, Option, Some, None}
use Rattle.std.proofs.lemmas.List.{map-append, map_push}
use Rattle.rob_algebra.specs.Fraction.{Fraction}
use Rattle.rob_cells.proofs.BuildingLemmas.{flat_more}
use Rattle.rob_meaning.proofs.Lists.TabulateLemmas.{tabulate_next}
use Rattle.rob_meaning.specs.Named.{adaptive_names, declared_names, row_names, variable_names, written_names}
use Rattle.rob_meaning.specs.Names.{Name}
use Rattle.rob_meaning.specs.Places.{Each, tabulate}
use Rattle.rob_meaning.specs.RobustModel.{AdaptiveVariable, Parameter, Relation, RobustModel, Row, Variable, at_least, at_most}
use Rattle.rob_meaning.specs.SetConditions.{if_declared}
use Rattle.rob_model.specs.View.{parameter_of, robust, variable_of}
use Rattle.rob_model.specs.declared.model.Model.{Model}
use Rattle.rob_model.specs.declared.model.Param.{Param}
use Rattle.rob_model.specs.declared.model.Var.{Var}
use Rattle.rob_pieces.proofs.ColumnLemmas.{written_parameters_split}
use Rattle.rob_pieces.specs.Cuts.{Cut, cell_count, cell_numbers}
use Rattle.rob_pieces.specs.SplitModel.{bound_row, bound_rows, cell_names, cell_rows, cells_worst, copy_in, numbered, row_over, split_model}

-- the name of a row in cell `c`, and of a copy
abbrev pub row_name : ℕ → Row → Name
row_name c r = numbered r.name c

abbrev pub copy_name : ℕ → AdaptiveVariable → Name
copy_name c y = numbered y.name c

-- the names of the rows of cell `c`, and of its copies
abbrev pub row_names_in : RobustModel → ℕ → List Name
row_names_in m c = map (λ (r : Row). r.name) (cell_rows m c)

abbrev pub copy_names_in : List AdaptiveVariable → ℕ → List Name
copy_names_in ys c = map (copy_name c) ys

-- the names of the rows of a bound, and of the bounds of adaptive variables
abbrev pub bound_name : ℕ → Name → Option Fraction → List Name
bound_name c name bound = if_declared (λ b. numbered name c) bound

abbrev pub bound_row_names : ℕ → List AdaptiveVariable → List Name
bound_row_names c [] = []
bound_row_names c (y ∷ ys) =
    bound_name c (y.name ++ codes "_lower") y.lower
    ++ (bound_name c (y.name ++ codes "_upper") y.upper ++ bound_row_names c ys)

-- each name has at most 32 bytes
abbrev pub AreShort : List Name → Type 0
AreShort names = Each (λ name. length name ≤ 32) names

-- the names of one cell more
pub cell_names_more : (f : ℕ → List Name) (old done next : List Name) (i : ℕ) → next ≡ done ++ f (i + 1)
    → done ≡ old ++ flat_map f (tabulate i suc) → next ≡ old ++ flat_map f (tabulate (i + 1) suc)
cell_names_more f old done next i grown so_far =
    grown
    ∙ ap₂ (λ xs c. xs ++ f c) so_far (let e : i + 1 ≡ suc i = omega arith in e)
    ∙ append_assoc old (flat_map f (tabulate i suc)) (f (suc i))
    ∙ ap (λ xs. old ++ xs) (sym (flat_more f (tabulate i suc) (suc i)))
    ∙ ap (λ cs. old ++ flat_map f cs)
    (tabulate_next suc i)

-- the name of one cell more
pub set_name_more : (old done next : List Name) (word name : Name) (i : ℕ) → word ≡ codes "cell"
    → name ≡ numbered word (i + 1)
    → next ≡ done ++ name ∷ [] → done ≡ old ++ map (numbered (codes "cell")) (tabulate i suc)
    → next ≡ old ++ map (numbered (codes "cell")) (tabulate (i + 1) suc)
set_name_more old done next word name i same named pushed so_far =
    pushed
    ∙ ap₂ (λ xs n. xs ++ n ∷ []) so_far
    (named ∙ ap₂ numbered same (let e : i + 1 ≡ suc i = omega arith in e))
    ∙ append_assoc old (map (numbered (codes "cell")) (tabulate i suc)) (numbered (codes "cell") (suc i) ∷ [])
    ∙ ap (λ xs. old ++ xs) (sym (map_push (numbered (codes "cell")) (tabulate i suc) (suc i)))
    ∙ ap (λ cs. old ++ map (numbered (codes "cell")) cs)
    (tabulate_next suc i)

-- ---- the rows of declared bounds
pub bound_names_are : (m : RobustModel) (c k : ℕ) (ys : List AdaptiveVariable)
    → map (λ (r : Row). r.name) (bound_rows m c k ys) ≡ bound_row_names c ys
bound_names_are m c k [] = refl
bound_names_are m c k (y ∷ ys) =
    map-append (λ (r : Row). r.name) low (high ++ bound_rows m c (suc k) ys)
    ∙ ap₂ (λ xs zs. xs ++ zs) (one (y.name ++ codes "_lower") at_least y.lower)
    (map-append (λ (r : Row). r.name) high (bound_rows m c (suc k) ys)
    ∙ ap₂ (λ xs zs. xs ++ zs) (one (y.name ++ codes "_upper") at_most y.upper) (bound_names_are m c (suc k) ys))
  where
    low : List Row
    low = if_declared (bound_row m c (y.name ++ codes "_lower") k at_least) y.lower

    high : List Row
    high = if_declared (bound_row m c (y.name ++ codes "_upper") k at_most) y.upper

    one : (name : Name) (relation : Relation) (bound : Option Fraction)
        → map (λ (r : Row). r.name) (if_declared (bound_row m c name k relation) bound) ≡ bound_name c name bound
    one name relation None = refl
    one name relation (Some b) = refl

-- ---- the names of all rows of a cell
pub cell_row_names : (m : RobustModel) (c : ℕ) (old first own all : List Name) (word cost : Name) → word ≡ codes "cost"
    → cost ≡ numbered word c → first ≡ old ++ cost ∷ [] → own ≡ first ++ map (row_name c) m.rows
    → all ≡ own ++ map (λ (r : Row). r.name) (bound_rows m c 0 m.adaptives) → all ≡ old ++ row_names_in m c
cell_row_names m c old first own all word cost same named f o a =
    a
    ∙ ap (λ l. l ++ bounds)
    (o ∙ ap (λ l. l ++ map (row_name c) m.rows) (f ∙ ap (λ n. old ++ n ∷ []) (named ∙ ap (λ w. numbered w c) same)))
    ∙ append_assoc (old ++ numbered (codes "cost") c ∷ []) (map (row_name c) m.rows) bounds
    ∙ append_assoc old (numbered (codes "cost") c ∷ []) (map (row_name c) m.rows ++ bounds)
    ∙ ap (λ l. old ++ numbered (codes "cost") c ∷ l)
    (ap (λ l. l ++ bounds) (sym (own_names m.rows))
    ∙ sym (map-append (λ (r : Row). r.name) (map (row_over m c) m.rows) (bound_rows m c 0 m.adaptives)))
  where
    bounds : List Name
    bounds = map (λ (r : Row). r.name) (bound_rows m c 0 m.adaptives)

    own_names : (rs : List Row) → map (λ (r : Row). r.name) (map (row_over m c) rs) ≡ map (row_name c) rs
    own_names [] = refl
    own_names (r ∷ rs) = ap (λ l. numbered r.name c ∷ l) (own_names rs)

-- ---- all names
module _ {A : Type 0} (name : A → Name) (f : ℕ → List A) where
  names_flat : (cs : List ℕ) → flat_map (λ c. map name (f c)) cs ≡ map name (flat_map f cs)
  names_flat [] = refl
  names_flat (c ∷ cs) = ap (λ l. map name (f c) ++ l) (names_flat cs) ∙ sym (map-append name (f c) (flat_map f cs))

module _ {N : Type 0} (value : N → Fraction) (model : Model N) (cuts : List Cut) where
  abbrev m : RobustModel
  m = robust value model

  param_names : (ps : List (Param N))
      → map (λ (p : Param N). p.name) ps ≡ map (λ (p : Parameter). p.name) (map (parameter_of value) ps)
  param_names [] = refl
  param_names (p ∷ ps) = ap (λ l. p.name ∷ l) (param_names ps)

  var_names : (xs : List (Var N)) → map (λ (x : Var N). x.name) xs
      ≡ map (λ (x : Variable). x.name) (map (variable_of value) xs)
  var_names [] = refl
  var_names (x ∷ xs) = ap (λ l. x.name ∷ l) (var_names xs)

  copies_named : (c : ℕ) (ys : List AdaptiveVariable)
      → map (λ (y : AdaptiveVariable). y.name) (map (copy_in m c) ys) ≡ copy_names_in ys c
  copies_named c [] = refl
  copies_named c (y ∷ ys) = ap (λ l. numbered y.name c ∷ l) (copies_named c ys)

  copies_flat : (cs : List ℕ) → flat_map (copy_names_in m.adaptives) cs
      ≡ map (λ (y : AdaptiveVariable). y.name) (flat_map (λ c. map (copy_in m c) m.adaptives) cs)
  copies_flat [] = refl
  copies_flat (c ∷ cs) =
      ap₂ (λ xs zs. xs ++ zs) (sym (copies_named c m.adaptives)) (copies_flat cs)
      ∙ sym (map-append (λ (y : AdaptiveVariable). y.name) (map (copy_in m c) m.adaptives) _)

  pub names_are : (count : ℕ) (a b c d e f : List Name) (worst : Name) → count ≡ cell_count cuts
      → a ≡ map (λ (p : Param N). p.name) model.params
      → b ≡ a ++ map (numbered (codes "cell")) (tabulate count suc)
      → c ≡ b ++ flat_map (row_names_in m) (tabulate count suc)
      → d ≡ c ++ map (λ (x : Var N). x.name) model.vars
      → worst ≡ codes "cells_worst" → e ≡ d ++ worst ∷ []
      → f ≡ e ++ flat_map (copy_names_in m.adaptives) (tabulate count suc)
      → f ≡ declared_names (split_model m cuts)
  names_are count a b c d e f worst counted pa pb pc pd named pe pf =
      pf
      ∙ ap (λ l. l ++ copies)
      (pe ∙ ap₂ (λ l n. l ++ n ∷ [])
      (pd ∙ ap (λ l. l ++ vars) (pc ∙ ap (λ l. l ++ rows) (pb ∙ ap (λ l. l ++ sets) pa))) named)
      ∙ regroup params sets rows vars (codes "cells_worst" ∷ []) copies
      ∙ ap₂ (λ x y. x ++ y) params_are
      (ap₂ (λ x y. x ++ y) sets_are (ap₂ (λ x y. x ++ y) rows_are (ap₂ (λ x y. x ++ y) vars_are copies_are)))
    where
      params : List Name
      params = map (λ (p : Param N). p.name) model.params

      sets : List Name
      sets = map (numbered (codes "cell")) (tabulate count suc)

      rows : List Name
      rows = flat_map (row_names_in m) (tabulate count suc)

      vars : List Name
      vars = map (λ (x : Var N). x.name) model.vars

      copies : List Name
      copies = flat_map (copy_names_in m.adaptives) (tabulate count suc)

      regroup : (p s r v w y : List Name) → ((((p ++ s) ++ r) ++ v) ++ w) ++ y ≡ p ++ (s ++ (r ++ ((v ++ w) ++ y)))
      regroup p s r v w y =
          ap (λ l. l ++ y) (append_assoc ((p ++ s) ++ r) v w)
          ∙ append_assoc ((p ++ s) ++ r) (v ++ w) y
          ∙ append_assoc (p ++ s) r ((v ++ w) ++ y)
          ∙ append_assoc p s (r ++ ((v ++ w) ++ y))

      params_are : params ≡ written_names (split_model m cuts)
      params_are =
          param_names model.params ∙ ap (map (λ (p : Parameter). p.name)) (sym (written_parameters_split m cuts))

      sets_are : sets ≡ cell_names cuts
      sets_are = ap (λ k. map (numbered (codes "cell")) (tabulate k suc)) counted

      rows_are : rows ≡ row_names (split_model m cuts)
      rows_are =
          ap (λ k. flat_map (row_names_in m) (tabulate k suc)) counted
          ∙ names_flat (λ (r : Row). r.name) (cell_rows m) (cell_numbers cuts)

      vars_are : vars ++ codes "cells_worst" ∷ [] ≡ variable_names (split_model m cuts)
      vars_are =
          ap (λ l. l ++ codes "cells_worst" ∷ []) (var_names model.vars)
          ∙ sym (map-append (λ (x : Variable). x.name) m.variables (cells_worst ∷ []))

      copies_are : copies ≡ adaptive_names (split_model m cuts)
      copies_are =
          ap (λ k. flat_map (copy_names_in m.adaptives) (tabulate k suc)) counted ∙ copies_flat (cell_numbers cuts)
