-- Plain statements one behind another, whatever lines they come from.
use Rattle.std.specs.Prelude.{◌≡◌, ℕ, List, [], ◌∷◌, Some, None}
use Rattle.rob_index.specs.Statements as stated
use Rattle.rob_index.specs.Statements.{Name}
use Rattle.rob_syntax.specs.Numbered.{numbered}
use Rattle.rob_rules.specs.declared.sort.Sort.{Sort}
use Rattle.rob_rules.specs.Degrees.{sort_at}
use Rattle.rob_rules.specs.Faults.{first_fault}
use Rattle.rob_rules.specs.Scopes.{Earlier, behind}

-- what a name stands for before, it stands for now
abbrev pub Keeps : Earlier → Earlier → Type 0
Keeps before now = (k : ℕ) (x : Sort) → sort_at before.sorts k ≡ Some x → sort_at now.sorts k ≡ Some x

module _ (limit : ℕ) (words : List Name) where
  -- each is without a fault, given what is known in front of it, and what was in front of its line
  abbrev pub AreLinked : Earlier → List stated.Statement → Earlier → Type 0
  AreLinked e [] f = e ≡ f
  AreLinked e (p ∷ ps) f =
      (before : Earlier) × Keeps before e × (first_fault limit before e (numbered words p) ≡ None)
      × AreLinked (behind e (numbered words p)) ps f
