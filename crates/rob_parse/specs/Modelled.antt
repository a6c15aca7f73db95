-- Which text reads as which model.
use Rattle.std.specs.Prelude.{◌≡◌, ◌≢◌, ℕ, List, map, Option, Some, None}
use Rattle.std.specs.List.{flat_map}
use Rattle.rob_meaning.specs.Places.{Each}
use Rattle.rob_meaning.specs.RobustModel.{RobustModel}
use Rattle.rob_rules.specs.declared.sort.Sort.{Sort}
use Rattle.rob_rules.specs.declared.sort.Sort.TheVariants as sort
use Rattle.rob_syntax.specs.declared.symbol.Keyword.TheVariants as word
use Rattle.rob_syntax.specs.declared.symbol.Symbol.{Symbol}
use Rattle.rob_syntax.specs.declared.symbol.Symbol.TheVariants.{Reserved}
use Rattle.rob_syntax.specs.declared.syntax.Statement.{Statement}
use Rattle.rob_syntax.specs.declared.syntax.Statement.TheVariants as parsed
use Rattle.rob_rules.specs.Degrees.{sort_at}
use Rattle.rob_rules.specs.Faults.{over_of}
use Rattle.rob_rules.specs.Scopes.{Earlier}
use Rattle.rob_rules.specs.Texts.{Reads}
use Rattle.rob_parse.specs.Written.{rows, set_lines, written_of}
use Rattle.rob_parse.specs.Models.{model_of}

-- the text reads as statements whose model this is
pub record ReadsModel (limit : ℕ) (text : List ℕ) (m : RobustModel) : Type 0 where
  pub words : List (List ℕ)
  pub list : List Statement
  pub known : Earlier
  pub reads : Reads limit text words list known
  pub model_is : m ≡ model_of words known.sorts list

-- ---- what stands behind `over`
-- the name, if there is one, is that of a set
abbrev pub IsOfSet : List (Option Sort) → Option ℕ → Type 0
IsOfSet sorts None = Unit {0}
IsOfSet sorts (Some k) = (S : ℕ) × (sort_at sorts k ≡ Some (sort.Set S))

-- the name behind `over` at the end of a statement, if one is there, is that of a set
abbrev pub EndsInSet : List (Option Sort) → Statement → Type 0
EndsInSet sorts (parsed.Set r) = IsOfSet sorts r.over
EndsInSet sorts (parsed.Budget b) = IsOfSet sorts b.over
EndsInSet sorts (parsed.Goal g) = IsOfSet sorts g.over
EndsInSet sorts (parsed.Row r) = IsOfSet sorts r.relation.over
EndsInSet sorts _ = Unit {0}

-- ---- texts without sets
-- no line has the word `over`
abbrev pub HasNoOver : List (List Symbol) → Type 0
HasNoOver lines = Each (Each (λ (s : Symbol). s ≢ Reserved word.Over)) lines

-- the statement neither declares a set nor names one at its end
abbrev pub NamesNoSet : Statement → Type 0
NamesNoSet (parsed.Over k) = ⊥
NamesNoSet s = over_of s ≡ None

-- what some statements write, with the default set beside each statement on the set and each row
abbrev pub written_alone : List (List ℕ) → List (Option Sort) → List Statement → RobustModel
written_alone words sorts list = record (written_of words sorts list) {
  line_sets = map (λ c. 0) (flat_map (set_lines sorts) list);
  row_sets = map (λ r. 0) (flat_map (rows words sorts) list);
}
