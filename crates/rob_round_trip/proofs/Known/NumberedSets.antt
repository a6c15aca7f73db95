-- The sets that a text names are numbered from 1.
use Rattle.std.proofs.Common.{◌≡◌, ℕ, ◌+◌, ◌<◌, ◌⊎◌, inl, inr, List, [], ◌∷◌, length, set, sym, ◌∙◌, subst, arith}
use Rattle.std.specs.Prelude.{Option, Some}
use Rattle.rob_parse.proofs.Names.SortLemmas.{set_cases}
use Rattle.rob_rules.proofs.Joining.GrowingLemmas.{nothing_at}
use Rattle.rob_round_trip.specs.Lines.{CountsSetsFromOne}
use Rattle.rob_rules.specs.Chains.{Chain}
use Rattle.rob_rules.specs.Degrees.{sort_at}
use Rattle.rob_rules.specs.Scopes.{Earlier, behind, start}
use Rattle.rob_rules.specs.declared.sort.Sort.{Sort}
use Rattle.rob_rules.specs.declared.sort.Sort.TheVariants as sort
use Rattle.rob_syntax.specs.declared.syntax.Statement.{Statement}
use Rattle.rob_syntax.specs.declared.syntax.Statement.TheVariants as parsed

-- one sort more, which is no set, or one of number 1 or more
abbrev IsFromOne : Sort → Type 0
IsFromOne v = (S : ℕ) → Some v ≡ Some (sort.Set S) → 0 < S

one_more : (sorts : List (Option Sort)) (i : ℕ) (v : Sort) → CountsSetsFromOne sorts → IsFromOne v
    → CountsSetsFromOne (set sorts i (Some v))
one_more sorts i v all new k S is = either (set_cases sorts i k v)
  where
    either : (sort_at (set sorts i (Some v)) k ≡ Some v) ⊎ (sort_at (set sorts i (Some v)) k ≡ sort_at sorts k) → 0 < S
    either (inl h) = new S (sym h ∙ is)
    either (inr h) = all k S (sym h ∙ is)

one_behind : (e : Earlier) (s : Statement) → CountsSetsFromOne e.sorts → CountsSetsFromOne (behind e s).sorts
one_behind e (parsed.Uncertain d) all = one_more e.sorts d.name _ all (λ S h. cc)
one_behind e (parsed.Over k) all = one_more e.sorts k (sort.Set (e.sizes.sets + 1)) all new
  where
    new : (S : ℕ) → Some (sort.Set (e.sizes.sets + 1)) ≡ Some (sort.Set S) → 0 < S
    new S h = let same : e.sizes.sets + 1 ≡ S = cc in omega (arith, same)
one_behind e (parsed.Var d) all = one_more e.sorts d.name _ all (λ S h. cc)
one_behind e (parsed.Adaptive p) all = one_more e.sorts p.name _ all (λ S h. cc)
one_behind e (parsed.Row r) all = one_more e.sorts r.name _ all (λ S h. cc)
one_behind e (parsed.Set r) all = all
one_behind e (parsed.Budget b) all = all
one_behind e (parsed.Goal g) all = all

all_behind : (limit : ℕ) (words : List (List ℕ)) (e : Earlier) (list : List Statement) (f : Earlier)
    → Chain limit words e list f → CountsSetsFromOne e.sorts → CountsSetsFromOne f.sorts
all_behind limit words e [] f chain all = subst (λ (x : Earlier). CountsSetsFromOne x.sorts) chain all
all_behind limit words e (s ∷ list) f chain all =
    all_behind limit words (behind e s) list f chain.1 (one_behind e s all)

pub sets_from_one : (limit : ℕ) (words : List (List ℕ)) (list : List Statement) (f : Earlier)
    → Chain limit words (start (length words)) list f → CountsSetsFromOne f.sorts
sets_from_one limit words list f chain =
    all_behind limit words (start (length words)) list f chain
    (λ k S is. let none = nothing_at (length words) k in cc)
