-- The rounds of the cutting-plane method, as they are printed.
use Rattle.std.specs.Fmt.{decimal, signed_decimal}
use Rattle.std.specs.Prelude.{◌≡◌, ℕ, suc, ◌<◌, ℤ, Bool, true, false, List, [], ◌∷◌, ◌++◌, Option, Some, None, codes, length}
use Rattle.rob_number.specs.declared.lp_kind.LpKind.{LpKind}
use Rattle.rob_number.specs.declared.lp_kind.LpKind.TheVariants.{Optimal, Infeasible, Unbounded}
use Rattle.rob_cert.specs.declared.trace.Round.{Round}
use Rattle.rob_meaning.specs.Forms.{forms}
use Rattle.rob_meaning.specs.Names.{Name}
use Rattle.rob_meaning.specs.RobustModel.{Parameter, RobustModel}
use Rattle.rob_report.specs.Lines.{for_pairs, line}
use Rattle.rob_report.specs.Spots.{basis_words, form_name}

-- how a round's master ended
abbrev pub kind_words : LpKind → List ℕ
kind_words Optimal = codes "optimal"
kind_words Infeasible = codes "infeasible"
kind_words Unbounded = codes "unbounded"

-- the cut is one of the improving direction, or of the plan
abbrev pub via_words : Bool → List ℕ
via_words true = codes "move"
via_words false = codes "plan"

-- ` PARAM NUM`
abbrev pub entry_words : Name → ℤ → List ℕ
entry_words name number = codes " " ++ (name ++ (codes " " ++ signed_decimal number))

-- each parameter with its number, zeros too
abbrev pub entries_words : List Parameter → List ℤ → List ℕ
entries_words ps numbers = for_pairs (λ (p : Parameter) number. entry_words p.name number) ps numbers

-- ` column C`, where a column grows without end
abbrev pub column_words : Option ℕ → List ℕ
column_words (Some c) = codes " column " ++ decimal c
column_words None = []

-- the basis of the master's last dictionary, and the column that grows
abbrev pub master_words : Round → List ℕ
master_words r = codes " basis" ++ (basis_words r.basis ++ column_words r.column)

module _ (m : RobustModel) where
  -- the form and the scenario, times its denominator, which is told first; or the ray, behind 0
  abbrev pub cut_words : Round → List ℕ
  cut_words r =
      codes " cut "
      ++ (form_name m r.form ++ (codes " " ++ (signed_decimal r.base ++ entries_words m.parameters r.vector)))

  -- how the master ended, what is cut off, the cut, and the master's basis
  abbrev pub round_words : Round → List ℕ
  round_words r =
      kind_words r.kind ++ (codes " " ++ (via_words r.by_step ++ (cut_words r ++ master_words r)))

  -- the line of a round
  abbrev pub round_line : ℕ → Round → List ℕ
  round_line number r = line (codes "round " ++ (decimal number ++ (codes " " ++ round_words r)))

  -- the lines of rounds, the first of which has this number
  abbrev pub round_lines : ℕ → List Round → List ℕ
  round_lines number [] = []
  round_lines number (r ∷ rounds) = round_line number r ++ round_lines (suc number) rounds

  -- how many rounds there are, and the line of each, numbered from 1
  abbrev pub rounds_text : List Round → List ℕ
  rounds_text rounds = line (codes "rounds " ++ decimal (length rounds)) ++ round_lines 1 rounds

  -- there is such a form, and a number for each parameter
  pub record IsRoundOf (r : Round) : Type 0 where
    pub form : r.form < length (forms m)
    pub count : length r.vector ≡ length m.parameters
