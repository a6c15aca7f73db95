-- The sets that lines answer to are among those that the text declares.
use Rattle.std.proofs.Common.{◌≡◌, ℕ, suc, ◌+◌, ◌<◌, ◌≤◌, ◌⊎◌, inl, inr, List, [], ◌∷◌, length, set, refl, sym, ap, subst, arith}
use Rattle.std.specs.Prelude.{Option, Some, None}
use Rattle.std.specs.List.{flat_map}
use Rattle.rob_meaning.specs.Places.{Each}
use Rattle.rob_rules.specs.declared.sort.Sort.{Sort}
use Rattle.rob_syntax.specs.declared.syntax.Goal.{Goal}
use Rattle.rob_syntax.specs.declared.syntax.Statement.{Statement}
use Rattle.rob_syntax.specs.declared.syntax.Statement.TheVariants as parsed
use Rattle.rob_rules.specs.Degrees.{sort_at}
use Rattle.rob_parse.specs.Written.{rows, set_lines}
use Rattle.rob_parse.specs.Models.{line_sets, objective_set, row_sets, set_at, set_number}
use Rattle.rob_rules.specs.Chains.{Chain}
use Rattle.rob_rules.specs.Scopes.{Earlier, behind, start}
use Rattle.rob_meaning.proofs.Naming.NamedLemmas.{each_flat}
use Rattle.rob_rules.proofs.Joining.GrowingLemmas.{nothing_at}
use Rattle.rob_parse.proofs.Names.SortLemmas.{set_cases}

-- the number of each set is at most the number of sets
abbrev pub AreCounted : Earlier → Type 0
AreCounted e = (k : ℕ) → set_number (sort_at e.sorts k) ≤ e.sizes.sets

one_more : (sorts : List (Option Sort)) (i : ℕ) (v : Sort) (n : ℕ) → ((k : ℕ) → set_number (sort_at sorts k) ≤ n)
    → set_number (Some v) ≤ n
    → (k : ℕ) → set_number (sort_at (set sorts i (Some v)) k) ≤ n
one_more sorts i v n all new k = either (set_cases sorts i k v)
  where
    either : (sort_at (set sorts i (Some v)) k ≡ Some v) ⊎ (sort_at (set sorts i (Some v)) k ≡ sort_at sorts k)
        → set_number (sort_at (set sorts i (Some v)) k) ≤ n
    either (inl h) = subst (λ (o : Option Sort). set_number o ≤ n) (sym h) new
    either (inr h) = subst (λ (o : Option Sort). set_number o ≤ n) (sym h) (all k)

counted_behind : (e : Earlier) (s : Statement) → AreCounted e → AreCounted (behind e s)
counted_behind e (parsed.Uncertain d) all = one_more e.sorts d.name _ e.sizes.sets all (omega arith)
counted_behind e (parsed.Over k) all = one_more e.sorts k _ (e.sizes.sets + 1) (λ j. omega (arith, all j)) (omega arith)
counted_behind e (parsed.Var d) all = one_more e.sorts d.name _ e.sizes.sets all (omega arith)
counted_behind e (parsed.Adaptive p) all = one_more e.sorts p.name _ e.sizes.sets all (omega arith)
counted_behind e (parsed.Row r) all = one_more e.sorts r.name _ e.sizes.sets all (omega arith)
counted_behind e (parsed.Set r) all = all
counted_behind e (parsed.Budget b) all = all
counted_behind e (parsed.Goal g) all = all

pub counted_all : (limit : ℕ) (words : List (List ℕ)) (e : Earlier) (list : List Statement) (f : Earlier)
    → Chain limit words e list f → AreCounted e → AreCounted f
counted_all limit words e [] f chain all = subst AreCounted chain all
counted_all limit words e (s ∷ list) f chain all =
    counted_all limit words (behind e s) list f chain.1 (counted_behind e s all)

pub counted_start : (words : ℕ) → AreCounted (start words)
counted_start words k = subst (λ (o : Option Sort). set_number o ≤ 0) (sym (nothing_at words k)) (omega arith)

module _ (sorts : List (Option Sort)) (n : ℕ) (all : (k : ℕ) → set_number (sort_at sorts k) ≤ n) where
  pub set_there : (over : Option ℕ) → set_at sorts over < suc n
  set_there None = omega arith
  set_there (Some k) = omega (arith, all k)

  lines_of_one : (s : Statement) → Each (λ S. S < suc n) (line_sets sorts s)
  lines_of_one (parsed.Set r) = (set_there r.over, tt)
  lines_of_one (parsed.Budget b) = (set_there b.over, tt)
  lines_of_one (parsed.Uncertain d) = tt
  lines_of_one (parsed.Over k) = tt
  lines_of_one (parsed.Var d) = tt
  lines_of_one (parsed.Adaptive p) = tt
  lines_of_one (parsed.Goal g) = tt
  lines_of_one (parsed.Row r) = tt

  rows_of_one : (s : Statement) → Each (λ S. S < suc n) (row_sets sorts s)
  rows_of_one (parsed.Row r) = (set_there r.relation.over, tt)
  rows_of_one (parsed.Set r) = tt
  rows_of_one (parsed.Budget b) = tt
  rows_of_one (parsed.Uncertain d) = tt
  rows_of_one (parsed.Over k) = tt
  rows_of_one (parsed.Var d) = tt
  rows_of_one (parsed.Adaptive p) = tt
  rows_of_one (parsed.Goal g) = tt

  all_units : (list : List Statement) → Each (λ (s : Statement). Unit {0}) list
  all_units [] = tt
  all_units (s ∷ list) = (tt, all_units list)

  pub lines_there : (list : List Statement) → Each (λ S. S < suc n) (flat_map (line_sets sorts) list)
  lines_there list =
      each_flat (λ S. S < suc n) (λ (s : Statement). Unit {0}) (line_sets sorts) (λ s h. lines_of_one s) list
      (all_units list)

  pub rows_there : (list : List Statement) → Each (λ S. S < suc n) (flat_map (row_sets sorts) list)
  rows_there list =
      each_flat (λ S. S < suc n) (λ (s : Statement). Unit {0}) (row_sets sorts) (λ s h. rows_of_one s) list
      (all_units list)

  pub objective_there : (goal : Option Goal) → objective_set sorts goal < suc n
  objective_there None = omega arith
  objective_there (Some g) = set_there g.over

-- ---- each statement on a set and each row has a set beside it
module _ (words : List (List ℕ)) (sorts : List (Option Sort)) where
  pub lines_beside : (list : List Statement)
      → length (flat_map (line_sets sorts) list) ≡ length (flat_map (set_lines sorts) list)
  lines_beside [] = refl
  lines_beside (parsed.Set r ∷ list) = ap suc (lines_beside list)
  lines_beside (parsed.Budget b ∷ list) = ap suc (lines_beside list)
  lines_beside (parsed.Uncertain d ∷ list) = lines_beside list
  lines_beside (parsed.Over k ∷ list) = lines_beside list
  lines_beside (parsed.Var d ∷ list) = lines_beside list
  lines_beside (parsed.Adaptive p ∷ list) = lines_beside list
  lines_beside (parsed.Goal g ∷ list) = lines_beside list
  lines_beside (parsed.Row r ∷ list) = lines_beside list

  pub rows_beside : (list : List Statement)
      → length (flat_map (row_sets sorts) list) ≡ length (flat_map (rows words sorts) list)
  rows_beside [] = refl
  rows_beside (parsed.Row r ∷ list) = ap suc (rows_beside list)
  rows_beside (parsed.Set r ∷ list) = rows_beside list
  rows_beside (parsed.Budget b ∷ list) = rows_beside list
  rows_beside (parsed.Uncertain d ∷ list) = rows_beside list
  rows_beside (parsed.Over k ∷ list) = rows_beside list
  rows_beside (parsed.Var d ∷ list) = rows_beside list
  rows_beside (parsed.Adaptive p ∷ list) = rows_beside list
  rows_beside (parsed.Goal g ∷ list) = rows_beside list
