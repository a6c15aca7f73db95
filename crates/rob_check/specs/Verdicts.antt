-- The verdict on conditions that are tried in order: the first that doesn't hold decides.
use Rattle.std.specs.Prelude.{ℕ, ◌≤◌, List, [], ◌∷◌, Bool, true, false, Option, Some, None}
use Rattle.rob_model.specs.declared.place.Place.{Place}
use Rattle.rob_number.specs.Counts as counts
use Rattle.rob_check.specs.declared.verdict.Verdict.{Verdict}
use Rattle.rob_check.specs.declared.verdict.Verdict.TheVariants.{Accepted, Rejected, TooWide}

-- a condition of a certificate: its place, and whether it holds, or nothing where a number that is computed for it is
-- wide
pub record Condition : Type 0 where
  pub place : Place
  pub holds : Option Bool

-- a condition that fails, or that is wide, decides; behind one that holds the verdict is that on the rest
abbrev pub decided : Place → Option Bool → Verdict → Verdict
decided place (Some true) rest = rest
decided place (Some false) rest = Rejected place
decided place None rest = TooWide place

-- the verdict on conditions in order
abbrev pub verdict : List Condition → Verdict
verdict [] = Accepted
verdict (c ∷ cs) = decided c.place c.holds (verdict cs)

-- the verdict is that a number is wide
abbrev pub is_wide : Verdict → Bool
is_wide Accepted = false
is_wide (Rejected place) = false
is_wide (TooWide place) = true

-- a verdict that is too wide has raised the count of wide numbers
abbrev pub RoseIfWide : ℕ → ℕ → Verdict → Type 0
RoseIfWide before now v = counts.RoseIfWide is_wide before now v

-- of a ledger's two counts, neither fell, and the wide results rose where the verdict is too wide
pub record Counted {S : Type 0} (ops_of wides_of : S → ℕ) (before now : S) (v : Verdict) : Type 0 where
  pub ops : ops_of before ≤ ops_of now
  pub wides : wides_of before ≤ wides_of now
  pub rose : RoseIfWide (wides_of before) (wides_of now) v

-- what a verdict says of a claim: accepted, it holds; rejected, it does not; too wide says neither
abbrev pub Judges : Type 0 → Verdict → Type 0
Judges P Accepted = P
Judges P (Rejected place) = P → ⊥
Judges P (TooWide place) = Unit {0}

-- the fact holds where the verdict accepts
abbrev pub OnAccepted : Verdict → Type 0 → Type 0
OnAccepted Accepted P = P
OnAccepted (Rejected place) P = Unit {0}
OnAccepted (TooWide place) P = Unit {0}
