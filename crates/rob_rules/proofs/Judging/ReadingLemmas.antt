-- A statement without a fault.
use Rattle.std.proofs.Common.{◌≡◌, ℕ, zero, suc, ◌<◌, Bool, true, false, cond, List, [], ◌∷◌, length, get_or, refl, arith}
use Rattle.std.specs.Prelude.{Some, None, not}
use Rattle.std.specs.List.{find}
use Rattle.rob_syntax.specs.declared.syntax.Statement.{Statement}
use Rattle.rob_rules.specs.declared.fault.Fault.TheVariants.{NoObjective}
use Rattle.rob_rules.specs.Scopes.{Earlier}
use Rattle.rob_rules.specs.Sizes.{counted, is_within, IsKept}
use Rattle.rob_rules.specs.Faults.{has_fault, in_order, first_fault}
use Rattle.rob_rules.proofs.Counts.SizeLemmas.{kept_behind}

-- where nothing is found nothing passes
pub none_found : {X : Type 0} (test : X → Bool) (xs : List X) (i : ℕ) (d : X) → find test xs ≡ None → i < length xs
    → test (get_or xs i d) ≡ false
none_found test [] i d none inside = absurd (omega arith)
none_found test (x ∷ xs) i d none inside = go (λ k h n. none_found test xs k d n h) (test x) refl none i inside
  where
    go : ((k : ℕ) → k < length xs → find test xs ≡ None → test (get_or xs k d) ≡ false) → (b : Bool) → test x ≡ b
        → cond b (Some x) (find test xs) ≡ None → (i : ℕ) → i < length (x ∷ xs) → test (get_or (x ∷ xs) i d) ≡ false
    go more true is none i inside = cc
    go more false is none zero inside = is
    go more false is none (suc i) inside = more i (omega arith) none

pub true_of_not : (b : Bool) → not b ≡ false → b ≡ true
true_of_not true h = refl
true_of_not false h = cc

-- a statement without a fault keeps the counts
pub kept_note : (limit : ℕ) (before now : Earlier) (s : Statement) → IsKept now.sizes
    → first_fault limit before now s ≡ None → IsKept (counted now.sizes s)
kept_note limit before now s kept none =
    kept_behind now.sizes s kept
    (true_of_not (is_within (counted now.sizes s))
    (none_found (has_fault limit before now s) in_order 9 NoObjective none (omega arith)))
