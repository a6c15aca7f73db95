-- The table of a scenario file, as it is printed.
use Rattle.std.specs.Fmt.{decimal}
use Rattle.std.specs.Prelude.{List, ◌++◌, ℕ, map, flat_map, codes, if◌then◌else◌}
use Rattle.rob_algebra.specs.Fraction.{Fraction}
use Rattle.rob_cert.specs.Spelling.{number_text}
use Rattle.rob_meaning.specs.Names.{Name, bound_parts, joined}
use Rattle.rob_meaning.specs.RobustModel.{AdaptiveVariable, RobustModel, Row}
use Rattle.rob_replay.specs.Lines.{Line, Values}
use Rattle.rob_report.specs.Lines.{for_pairs, line}

-- ` NAME NUM`
abbrev pub named_text : Name → Fraction → List ℕ
named_text name number = codes " " ++ (name ++ (codes " " ++ number_text number))

-- ` NAME NUM` for each name and its number
abbrev pub named_texts : List Name → List Fraction → List ℕ
named_texts names numbers = for_pairs named_text names numbers

-- the names of the adaptive variables
abbrev pub adaptive_names : List AdaptiveVariable → List Name
adaptive_names ys = map (λ (y : AdaptiveVariable). y.name) ys

-- the names of the rows
abbrev pub row_names : List Row → List Name
row_names rs = map (λ (r : Row). r.name) rs

-- the names of the declared bounds of an adaptive variable: `y.lower` and `y.upper`
abbrev pub own_bound_names : AdaptiveVariable → List Name
own_bound_names y = map joined (bound_parts y.name y.lower y.upper)

-- those of all
abbrev pub bound_names : List AdaptiveVariable → List Name
bound_names ys = flat_map own_bound_names ys

-- the names of the slacks: those of the rows, then those of the declared bounds of the adaptive variables
abbrev pub slack_names : RobustModel → List Name
slack_names m = row_names m.rows ++ bound_names m.adaptives

module _ (adaptives slacks : List Name) where
  -- the values in a joint scenario that is inside, with these names for the adaptive variables and the slacks
  abbrev pub values_text : Values → List ℕ
  values_text v =
      codes " inside" ++ (named_texts adaptives v.adaptives
      ++ (codes " objective " ++ (number_text v.objective ++ named_texts slacks v.slacks)))

  -- the number of a record, and `outside`, or `inside` and the values
  abbrev pub table_line : Line → List ℕ
  table_line l = decimal l.number ++ (if l.inside then line (values_text l.values) else line (codes " outside"))

  -- a line for each record
  abbrev pub table_lines : List Line → List ℕ
  table_lines lines = flat_map table_line lines

-- the table of a scenario file
abbrev pub table_of : RobustModel → List Line → List ℕ
table_of m lines = table_lines (adaptive_names m.adaptives) (slack_names m) lines
