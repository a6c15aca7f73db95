-- The texts of answers. Each is one line, where no name in it has a line end; but a path of branches has one for each,
-- and the limit of a sweep one.
use Rattle.std.specs.Fmt.{decimal, signed_decimal}
use Rattle.std.specs.Prelude.{ℕ, Bool, true, false, List, ◌++◌, codes, flat_map}
use Rattle.rob_algebra.specs.Fraction.{Fraction}
use Rattle.rob_cert.specs.Spelling.{name_at, number_text}
use Rattle.rob_meaning.specs.Certificates.{Status, optimal, infeasible, unbounded, Certificate}
use Rattle.rob_meaning.specs.Names.{column_names}
use Rattle.rob_meaning.specs.RobustModel.{RobustModel}
use Rattle.rob_model.specs.declared.place.Spot.{Spot}
use Rattle.rob_reach.specs.Sweeps.{with_budget}
use Rattle.rob_report.specs.Lines.{line}
use Rattle.rob_report.specs.Spots.{place_words, too_wide_line}
use Rattle.rob_tree.specs.declared.tree.Branch.{Branch}
use Rattle.rob_tree.specs.declared.verdict.LeafFault.{LeafFault}
use Rattle.rob_tree.specs.declared.verdict.LeafFault.TheVariants as leaf

-- the line of a fault
abbrev pub fault_text : List ℕ → List ℕ
fault_text what = line (codes "fault: " ++ what)

-- what is accepted, by the status
abbrev pub accepted_by : Status → Fraction → List ℕ
accepted_by optimal value = line (codes "accepted optimal " ++ number_text value)
accepted_by infeasible value = line (codes "accepted infeasible")
accepted_by unbounded value = line (codes "accepted unbounded")

-- the line of a certificate that is accepted
abbrev pub accepted_text : Certificate → List ℕ
accepted_text c = accepted_by c.status c.value

-- there is no such file
abbrev pub missing_text : List ℕ → List ℕ
missing_text name = fault_text (codes "missing " ++ name)

-- the file is too long
abbrev pub too_long_text : List ℕ → List ℕ
too_long_text name = fault_text (codes "too long " ++ name)

-- a rule of a text of that kind is broken, at a line or a record
abbrev pub line_fault_text : List ℕ → ℕ → ℕ → List ℕ
line_fault_text kind rule number = fault_text (kind ++ (decimal rule ++ (codes " line " ++ decimal number)))

-- the model's text breaks a rule at a line
abbrev pub model_fault_text : ℕ → ℕ → List ℕ
model_fault_text rule number = line_fault_text (codes "model ") rule number

-- the certificate's text breaks one
abbrev pub certificate_fault_text : ℕ → ℕ → List ℕ
certificate_fault_text rule number = line_fault_text (codes "certificate ") rule number

-- the tree's text breaks one
abbrev pub tree_fault_text : ℕ → ℕ → List ℕ
tree_fault_text rule number = line_fault_text (codes "tree ") rule number

-- the scenario file breaks one at a record
abbrev pub scenarios_fault_text : ℕ → ℕ → List ℕ
scenarios_fault_text rule number = line_fault_text (codes "scenarios ") rule number

-- the words are no command line
abbrev pub words_text : List ℕ
words_text = fault_text (codes "words")

-- reading failed
abbrev pub read_text : List ℕ
read_text = fault_text (codes "read")

-- memory was refused
abbrev pub memory_text : List ℕ
memory_text = fault_text (codes "memory")

-- the named variables break a rule
abbrev pub whole_fault_text : ℕ → List ℕ
whole_fault_text rule = fault_text (codes "whole " ++ decimal rule)

-- no form has the name
abbrev pub no_row_text : List ℕ → List ℕ
no_row_text name = fault_text (codes "no row " ++ name)

-- how a branch bounds its variable
abbrev pub branch_relation : Bool → List ℕ
branch_relation true = codes " <= "
branch_relation false = codes " >= "

-- the statement or the limits of a sweep break a rule
abbrev pub sweep_fault_text : ℕ → List ℕ
sweep_fault_text rule = fault_text (codes "sweep " ++ decimal rule)

-- `where budget G`
abbrev pub budget_line : Fraction → List ℕ
budget_line g = line (codes "where budget " ++ number_text g)

-- `cells K`
abbrev pub cells_line : ℕ → List ℕ
cells_line count = line (codes "cells " ++ decimal count)

-- a number is wide in the model whose budget n has that limit
abbrev pub wide_budget_text : RobustModel → ℕ → Fraction → Spot → List ℕ
wide_budget_text m n g spot = too_wide_line (with_budget m n g) spot ++ budget_line g

module _ (m : RobustModel) where
  -- a branch of a path: `where VARIABLE <= K` or `where VARIABLE >= K`
  abbrev pub branch_line : Branch → List ℕ
  branch_line b =
      codes "where " ++ (name_at (column_names m) b.column ++ (branch_relation b.at_most ++ line (signed_decimal b.k)))

  -- the branches of a path
  abbrev pub path_lines : List Branch → List ℕ
  path_lines path = flat_map branch_line path

  -- a number is wide in the box behind a path
  abbrev pub wide_node_text : List Branch → Spot → List ℕ
  wide_node_text path spot = too_wide_line m spot ++ path_lines path

  -- what of a leaf fails: that condition of its certificate for its box, its status, its value, or what it is to show
  abbrev pub fault_words : LeafFault → List ℕ
  fault_words (leaf.At place) = place_words m place
  fault_words leaf.Status = codes "status"
  fault_words leaf.Value = codes "value"
  fault_words leaf.Best = codes "best"
  fault_words leaf.Whole = codes "whole"

  -- the line for a tree that is rejected: the number of a leaf, from 1, and what of it fails
  abbrev pub rejected_leaf_text : ℕ → LeafFault → List ℕ
  rejected_leaf_text number fault =
      codes "rejected leaf " ++ (decimal number ++ (codes " " ++ line (fault_words fault)))
