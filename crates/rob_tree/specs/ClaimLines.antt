-- The lines in front of a tree's nodes: that of what the tree claims, and that of the leaf that shows it.
use Rattle.std.specs.Fmt.{signed_decimal}
use Rattle.std.specs.Prelude.{◌≡◌, ◌-◌, ◌^◌, ◌≤◌, ℕ, ℤ, pos, nat_abs, List, [], ◌∷◌, codes}
use Rattle.rob_algebra.specs.Fraction.{Fraction}
use Rattle.rob_algebra.specs.Width.{Fits}
use Rattle.rob_cert.specs.Reading.{BeginsWithLine, words_in}
use Rattle.rob_cert.specs.Spelling.{number_text, spaced, status_word}
use Rattle.rob_meaning.specs.Certificates.{Status, optimal, infeasible, unbounded}
use Rattle.rob_meaning.specs.Names.{Name}
use Rattle.rob_tree.specs.declared.error.Offence.{Offence}
use Rattle.rob_tree.specs.declared.error.Offence.TheVariants.{NoLine, NoName, NoNumber}

-- the word spells a whole number within the limit
abbrev pub IsWholeWord : ℕ → Name → Type 0
IsWholeWord limit word = (z : ℤ) × (nat_abs z ≤ limit) × (word ≡ signed_decimal z)

-- the greatest number that is told for a leaf, at any width
abbrev pub greatest_leaf : ℕ
greatest_leaf = 2 ^ 32 - 1

-- ---- the line of what the tree claims
-- the words claim a status; an optimal one has a word for its value
abbrev pub IsClaimLine : Status → List Name → Type 0
IsClaimLine optimal words = (word : Name) × (words ≡ codes "tree" ∷ (status_word optimal ∷ (word ∷ [])))
IsClaimLine infeasible words = words ≡ codes "tree" ∷ (status_word infeasible ∷ [])
IsClaimLine unbounded words = words ≡ codes "tree" ∷ (status_word unbounded ∷ [])

-- why words claim nothing
abbrev pub IsClaimFault : ℕ → List Name → Offence → Type 0
IsClaimFault limit words NoLine = (s : Status) → IsClaimLine s words → ⊥
IsClaimFault limit words NoName = ⊥
IsClaimFault limit words NoNumber = (word : Name) × (words ≡ codes "tree" ∷ (status_word optimal ∷ (word ∷ [])))
    × ((q : Fraction) → Fits limit q → word ≡ number_text q → ⊥)

-- why the text does not begin with such a line
abbrev pub IsClaimCause : ℕ → List ℕ → Offence → Type 0
IsClaimCause limit text NoLine =
    (line after : List ℕ) → BeginsWithLine text line after → (s : Status) → IsClaimLine s (words_in line) → ⊥
IsClaimCause limit text NoName = ⊥
IsClaimCause limit text NoNumber =
    (line after : List ℕ) × BeginsWithLine text line after × IsClaimFault limit (words_in line) NoNumber

-- ---- the line of the leaf that shows it
-- the status has such a line
abbrev pub HasBest : Status → Type 0
HasBest optimal = Unit {0}
HasBest infeasible = ⊥
HasBest unbounded = Unit {0}

-- why words are no such line
abbrev pub IsBestFault : List Name → Offence → Type 0
IsBestFault words NoLine = (word : Name) → words ≡ codes "best" ∷ (word ∷ []) → ⊥
IsBestFault words NoName = ⊥
IsBestFault words NoNumber =
    (word : Name) × (words ≡ codes "best" ∷ (word ∷ [])) × (IsWholeWord greatest_leaf word → ⊥)

-- why the text does not begin with such a line
abbrev pub IsBestCause : List ℕ → Offence → Type 0
IsBestCause text NoLine = (line after : List ℕ) → BeginsWithLine text line after
    → (word : Name) → words_in line ≡ codes "best" ∷ (word ∷ []) → ⊥
IsBestCause text NoName = ⊥
IsBestCause text NoNumber =
    (line after : List ℕ) × BeginsWithLine text line after × IsBestFault (words_in line) NoNumber

-- the bytes are the line of that whole number, which need not be a leaf's; or none where the status has none
abbrev pub IsBestLineOf : Status → List ℕ → ℤ → Type 0
IsBestLineOf optimal shown z =
    (nat_abs z ≤ greatest_leaf) × (shown ≡ spaced (codes "best" ∷ (signed_decimal z ∷ [])))
IsBestLineOf infeasible shown z = (shown ≡ []) × (z ≡ pos 0)
IsBestLineOf unbounded shown z =
    (nat_abs z ≤ greatest_leaf) × (shown ≡ spaced (codes "best" ∷ (signed_decimal z ∷ [])))

-- the bytes are that of some whole number
abbrev pub IsBestLine : Status → List ℕ → Type 0
IsBestLine status shown = (z : ℤ) × IsBestLineOf status shown z

-- the number of the line of the root
abbrev pub first_node : Status → ℕ
first_node optimal = 3
first_node infeasible = 2
first_node unbounded = 3
