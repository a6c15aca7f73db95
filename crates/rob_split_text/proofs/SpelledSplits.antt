-- The declared names of a split model may be declared in a text, where the model's may and none is too long: what is
-- new ends with the cell's number.
use Rattle.std.proofs.Common.{◌≡◌, ℕ, suc, ◌^◌, ◌<◌, ◌≤◌, List, [], ◌∷◌, ◌++◌, length, map, refl, sym, ap, ◌∙◌, subst, arith, pow_mono}
use Rattle.std.specs.Prelude.{Option, Some, None, codes}
use Rattle.rob_algebra.specs.Fraction.{Fraction}
use Rattle.rob_meaning.proofs.Scenarios.AloneLemmas.{all_taken}
use Rattle.rob_meaning.proofs.Lists.EachLemmas.{each_append, each_both, each_left, each_map, each_right}
use Rattle.rob_meaning.proofs.Naming.NamedLemmas.{each_unmapped, each_mapped}
use Rattle.rob_meaning.specs.Named.{adaptive_names, declared_names, row_names, variable_names, written_names}
use Rattle.rob_meaning.specs.Names.{Name}
use Rattle.rob_meaning.specs.Places.{Each}
use Rattle.rob_meaning.specs.RobustModel.{AdaptiveVariable, Parameter, Relation, RobustModel, Row, Variable, at_least, at_most}
use Rattle.rob_meaning.specs.SetConditions.{if_declared}
use Rattle.rob_pieces.proofs.BlockLemmas.{each_cell, each_flat}
use Rattle.rob_pieces.proofs.ColumnLemmas.{written_parameters_split}
use Rattle.rob_pieces.proofs.NamedSplitLemmas.{to_names}
use Rattle.rob_pieces.specs.Cuts.{Cut, IsCell, cell_numbers}
use Rattle.rob_pieces.specs.SplitModel.{bound_row, bound_rows, cell_names, cell_rows, cells_worst, copy_in, numbered, row_over, split_model}
use Rattle.rob_parse.proofs.Names.ExpandedNames.{IsFreeWord, marked_word, word_more}
use Rattle.rob_syntax.specs.Names.{GoesOn, IsSpelled, IsWord}

-- ---- a numbered name is a word, and no keyword
numbered_word : (name : Name) (c : ℕ) → c < 2 ^ 64 → IsWord name → IsFreeWord (numbered name c)
numbered_word name c small h = marked_word name c small h

worst_free : IsFreeWord (codes "cells_worst")
worst_free = ((refl, (refl, (refl, (refl, (refl, (refl, (refl, (refl, (refl, (refl, (refl, tt))))))))))), refl)

-- ---- the declared names
module _ (m : RobustModel) (alone : m.sets ≡ []) (cuts : List Cut) (few : length cuts ≤ 3)
    (spelled : Each IsSpelled (declared_names m)) where
  abbrev s : RobustModel
  s = split_model m cuts

  small : (c : ℕ) → IsCell cuts c → c < 2 ^ 64
  small c cell = let most = cell.1 in let p : 2 ^ length cuts ≤ 2 ^ 3 = pow_mono few in omega (arith, most, p)

  made : (name : Name) (c : ℕ) → IsCell cuts c → IsWord name → IsFreeWord (numbered name c)
  made name c cell h = numbered_word name c (small c cell) h

  free : Each IsFreeWord (declared_names m)
  free = each_map IsSpelled IsFreeWord (λ name h. (h.is_word, h.no_keyword)) (declared_names m) spelled

  behind_written : Each IsFreeWord (m.sets ++ (row_names m ++ (variable_names m ++ adaptive_names m)))
  behind_written = each_right IsFreeWord (written_names m) _ free

  behind_sets : Each IsFreeWord (row_names m ++ (variable_names m ++ adaptive_names m))
  behind_sets = each_right IsFreeWord m.sets _ behind_written

  behind_rows : Each IsFreeWord (variable_names m ++ adaptive_names m)
  behind_rows = each_right IsFreeWord (row_names m) _ behind_sets

  of_written : Each IsFreeWord (written_names s)
  of_written =
      subst (Each IsFreeWord)
      (sym (ap (λ (ps : List Parameter). map (λ (p : Parameter). p.name) ps)
      (written_parameters_split m cuts ∙ sym (all_taken m alone))))
      (each_left IsFreeWord (written_names m) _ free)

  of_rows : Each (λ (r : Row). IsFreeWord r.name) m.rows
  of_rows = each_unmapped IsFreeWord (λ (r : Row). r.name) m.rows (each_left IsFreeWord (row_names m) _ behind_sets)

  of_variables : Each (λ (x : Variable). IsFreeWord x.name) m.variables
  of_variables =
      each_unmapped IsFreeWord (λ (x : Variable). x.name) m.variables
      (each_left IsFreeWord (variable_names m) _ behind_rows)

  of_adaptives : Each (λ (y : AdaptiveVariable). IsFreeWord y.name) m.adaptives
  of_adaptives =
      each_unmapped IsFreeWord (λ (y : AdaptiveVariable). y.name) m.adaptives
      (each_right IsFreeWord (variable_names m) _ behind_rows)

  bound_names : (c k : ℕ) → IsCell cuts c → (ys : List AdaptiveVariable)
      → Each (λ (y : AdaptiveVariable). IsFreeWord y.name) ys
      → Each (λ (r : Row). IsFreeWord r.name) (bound_rows m c k ys)
  bound_names c k cell [] h = tt
  bound_names c k cell (y ∷ ys) h =
      each_append (λ (r : Row). IsFreeWord r.name) _ _
      (declared (codes "_lower") at_least y.lower (refl, (refl, (refl, (refl, (refl, (refl, tt)))))))
      (each_append (λ (r : Row). IsFreeWord r.name) _ _
      (declared (codes "_upper") at_most y.upper (refl, (refl, (refl, (refl, (refl, (refl, tt)))))))
      (bound_names c (suc k) cell ys h.1))
    where
      declared : (end : Name) (relation : Relation) (o : Option Fraction) → GoesOn end
          → Each (λ (r : Row). IsFreeWord r.name) (if_declared (bound_row m c (y.name ++ end) k relation) o)
      declared end relation None goes = tt
      declared end relation (Some x) goes = (made (y.name ++ end) c cell (word_more y.name end h.0.0 goes), tt)

  row_names_free : (c : ℕ) → IsCell cuts c → Each (λ (r : Row). IsFreeWord r.name) (cell_rows m c)
  row_names_free c cell = (
    made (codes "cost") c cell (refl, (refl, (refl, (refl, tt)))),
    each_append (λ (r : Row). IsFreeWord r.name) (map (row_over m c) m.rows) (bound_rows m c 0 m.adaptives)
        (each_mapped (λ (r : Row). IsFreeWord r.name) (row_over m c) (λ (r : Row). IsFreeWord r.name)
        (λ r h. made r.name c cell h.0) m.rows of_rows)
        (bound_names c 0 cell m.adaptives of_adaptives),
  )

  adaptive_names_free : (c : ℕ) → IsCell cuts c
      → Each (λ (y : AdaptiveVariable). IsFreeWord y.name) (map (copy_in m c) m.adaptives)
  adaptive_names_free c cell =
      each_mapped (λ (y : AdaptiveVariable). IsFreeWord y.name) (copy_in m c)
      (λ (y : AdaptiveVariable). IsFreeWord y.name)
      (λ y h. made y.name c cell h.0) m.adaptives of_adaptives

  all_free : Each IsFreeWord (declared_names s)
  all_free =
      each_append IsFreeWord (written_names s) _ of_written
      (each_append IsFreeWord (cell_names cuts) _
      (to_names IsFreeWord (numbered (codes "cell")) (cell_numbers cuts)
      (each_cell cuts (λ c. IsFreeWord (numbered (codes "cell") c))
      (λ c cell. made (codes "cell") c cell (refl, (refl, (refl, (refl, tt)))))))
      (each_append IsFreeWord (row_names s) _
      (to_names IsFreeWord (λ (r : Row). r.name) s.rows
      (each_flat (λ (r : Row). IsFreeWord r.name) (cell_rows m) (cell_numbers cuts)
      (each_cell cuts (λ c. Each (λ (r : Row). IsFreeWord r.name) (cell_rows m c)) row_names_free)))
      (each_append IsFreeWord (variable_names s) (adaptive_names s)
      (to_names IsFreeWord (λ (x : Variable). x.name) s.variables
      (each_append (λ (x : Variable). IsFreeWord x.name) m.variables (cells_worst ∷ []) of_variables (worst_free, tt)))
      (to_names IsFreeWord (λ (y : AdaptiveVariable). y.name) s.adaptives
      (each_flat (λ (y : AdaptiveVariable). IsFreeWord y.name) (λ c. map (copy_in m c) m.adaptives) (cell_numbers cuts)
      (each_cell cuts (λ c. Each (λ (y : AdaptiveVariable). IsFreeWord y.name) (map (copy_in m c) m.adaptives))
      adaptive_names_free))))))

  pub split_spelled : Each (λ (name : Name). length name ≤ 32) (declared_names s) → Each IsSpelled (declared_names s)
  split_spelled short =
      each_both IsFreeWord (λ (name : Name). length name ≤ 32) IsSpelled
      (λ name a b. record { is_word = a.0; no_keyword = a.1; is_short = b }) (declared_names s) all_free short
