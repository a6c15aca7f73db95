-- What the tests of the rules tell.
use Rattle.std.proofs.Common.{◌≡◌, ◌≢◌, ℕ, true, false, List, [], ◌∷◌, length, refl, arith}
use Rattle.std.specs.Prelude.{Option, Some, None, Result, Ok, Err, OnErr}
use Rattle.std.specs.Bool.{◌==◌}
use Rattle.std.proofs.lemmas.Bool.Decides.{nat_tests}
use Rattle.rob_cells.specs.Rules.{IsFirstBroken, KeepsRules}
use Rattle.rob_meaning.specs.RobustModel.{RobustModel}
use Rattle.rob_pieces.specs.Cuts.{Cut}

-- where no rule is broken, all are kept
pub kept_rules : (m : RobustModel) (cuts : List Cut) (rule : Option ℕ) → rule ≡ None
    → IsFirstBroken m cuts rule → KeepsRules m cuts
kept_rules m cuts None e h = h
kept_rules m cuts (Some rule) e h = cc

-- a list of no items
pub no_items : {A : Type 0} (xs : List A) → true ≡ (length xs == 0) → xs ≡ []
no_items [] h = refl
no_items (x ∷ xs) h = absurd (grind (arith, nat_tests))

-- a list of some
pub some_items : {A : Type 0} (xs : List A) → false ≡ (length xs == 0) → xs ≢ []
some_items [] h e = cc
some_items (x ∷ xs) h e = cc

-- what is so is so where a call has failed
pub on_err_by : {A E P : Type 0} (r : Result A E) → P → OnErr r P
on_err_by (Ok x) h = tt
on_err_by (Err e) h = h
