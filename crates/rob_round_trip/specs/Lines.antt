-- The canonical line of a statement, where names stand for what these sorts say.
use Rattle.std.specs.Prelude.{◌≡◌, ℕ, ◌<◌, List, ◌++◌, map, Option, Some}
use Rattle.rob_meaning.specs.RobustModel as model
use Rattle.rob_parse.specs.Written.{expression, fraction, lower_bound, member, parameter_at, relation_of, sense_of, upper_bound, word_of}
use Rattle.rob_parse.specs.Models.{set_at}
use Rattle.rob_round_trip.specs.Readable.{IsReadable}
use Rattle.rob_rules.specs.Degrees.{sort_at}
use Rattle.rob_rules.specs.declared.sort.Sort.{Sort}
use Rattle.rob_rules.specs.declared.sort.Sort.TheVariants as sort
use Rattle.rob_syntax.specs.Trees.{tree_of}
use Rattle.rob_syntax.specs.declared.syntax.Relation.{Relation}
use Rattle.rob_syntax.specs.declared.syntax.Statement.{Statement}
use Rattle.rob_syntax.specs.declared.syntax.Statement.TheVariants as parsed
use Rattle.rob_write.specs.Pages.{Written}
use Rattle.rob_write.specs.ExpressionWords.{Naming}
use Rattle.rob_write.specs.StatementWords.{adaptive_words, declared_set_words, goal_words, over_words, parameter_words, row_words, set_words, variable_words}

-- the named sets are counted from 1
abbrev pub CountsSetsFromOne : List (Option Sort) → Type 0
CountsSetsFromOne sorts = (k S : ℕ) → sort_at sorts k ≡ Some (sort.Set S) → 0 < S

-- the words of the line that a statement is written as
abbrev pub canonical_line : List (List ℕ) → List (Option Sort) → Naming → Statement → List Written
canonical_line words sorts names (parsed.Uncertain d) =
    parameter_words (record { name = word_of words d.name; lower = lower_bound d.bounds; upper = upper_bound d.bounds })
canonical_line words sorts names (parsed.Over k) = declared_set_words (word_of words k)
canonical_line words sorts names (parsed.Set r) =
    set_words names
    (model.line (expression sorts (tree_of r.left)) (relation_of r.rel) (expression sorts (tree_of r.right)))
    ++ over_words names.sets (set_at sorts r.over)
canonical_line words sorts names (parsed.Budget b) =
    set_words names (model.budget (fraction b.limit) (map (member sorts) b.members))
    ++ over_words names.sets (set_at sorts b.over)
canonical_line words sorts names (parsed.Var d) =
    variable_words (record { name = word_of words d.name; lower = lower_bound d.bounds; upper = upper_bound d.bounds })
canonical_line words sorts names (parsed.Adaptive p) =
    adaptive_words names
    (record {
      name = word_of words p.name;
      on = map (parameter_at sorts) p.on;
      lower = lower_bound p.bounds;
      upper = upper_bound p.bounds;
    })
canonical_line words sorts names (parsed.Goal g) =
    goal_words names (sense_of g.sense) (expression sorts (tree_of g.objective))
    ++ over_words names.sets (set_at sorts g.over)
canonical_line words sorts names (parsed.Row r) =
    row_words names
    (record {
      name = word_of words r.name;
      left = expression sorts (tree_of r.relation.left);
      relation = relation_of r.relation.rel;
      right = expression sorts (tree_of r.relation.right);
    })
    ++ over_words names.sets (set_at sorts r.relation.over)

module _ (limit : ℕ) (sorts : List (Option Sort)) (names : Naming) where
  -- both sides of a comparison are readable
  abbrev pub AreReadableSides : Relation → Type 0
  AreReadableSides r =
      IsReadable limit names (expression sorts (tree_of r.left))
      × IsReadable limit names (expression sorts (tree_of r.right))

  -- the expressions of a statement are readable
  abbrev pub AreReadable : Statement → Type 0
  AreReadable (parsed.Set r) = AreReadableSides r
  AreReadable (parsed.Goal g) = IsReadable limit names (expression sorts (tree_of g.objective))
  AreReadable (parsed.Row r) = AreReadableSides r.relation
  AreReadable _ = Unit {0}
