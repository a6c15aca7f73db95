-- A line whose parts have no fault has none.
use Rattle.std.proofs.Common.{◌≡◌, ℕ, Bool, true, false, cond, List, [], ◌∷◌, refl, ap, ◌∙◌}
use Rattle.std.specs.Prelude.{◌||◌, ◌&&◌, not, Some, None}
use Rattle.std.specs.List.{find, flat_map}
use Rattle.rob_meaning.specs.Places.{Each}
use Rattle.rob_rules.specs.declared.fault.Fault.TheVariants.{NameTwice, NameUnknown}
use Rattle.rob_syntax.specs.declared.syntax.Statement.{Statement}
use Rattle.rob_rules.specs.Degrees.{products}
use Rattle.rob_rules.specs.Faults.{expressions, first_fault, has_fault, in_order, is_declared}
use Rattle.rob_rules.specs.Scopes.{Earlier, declared_by, is_goal}
use Rattle.rob_rules.specs.Sizes.{counted, is_within}
use Rattle.rob_round_trip.proofs.Faultless.FaultlessParts.{HasNoFault}
use Rattle.rob_parse.proofs.Degrees.DegreeLemmas.{Clean}

-- where nothing passes nothing is found
pub nothing_found : {X : Type 0} (test : X → Bool) (xs : List X)
    → Each (λ (x : X). test x ≡ false) xs → find test xs ≡ None
nothing_found test [] each = refl
nothing_found test (x ∷ xs) each =
    ap (λ (b : Bool). cond b (Some x) (find test xs)) each.0 ∙ nothing_found test xs each.1

-- a statement has no fault where no name and no number of it is at fault, its name
-- is new, no product is refused, the goal is the first one, and no limit is passed
pub no_fault : (limit : ℕ) (e : Earlier) (s : Statement)
    → HasNoFault limit e.sorts s → is_declared e.sorts (declared_by e.sizes s) ≡ false
    → Clean (flat_map (products e.sorts) (expressions s))
    → (is_goal s && e.goal) ≡ false → is_within (counted e.sizes s) ≡ true → first_fault limit e e s ≡ None
no_fault limit e s faultless new clean goal small =
    let twice : has_fault limit e e s NameTwice ≡ false = λ i. new i || faultless.listed i in
    let unknown : has_fault limit e e s NameUnknown ≡ false = λ i. faultless.unknown i || faultless.set_known i in
    nothing_found (has_fault limit e e s) in_order (
      twice,
      (
        unknown,
        (
          faultless.over,
          (
            faultless.deviation,
            (
              clean.decisions,
              (
                clean.uncertain,
                (clean.recourse, (faultless.decision, (goal, (ap not small, (faultless.divisor, tt))))),
              ),
            ),
          ),
        ),
      ),
    )
