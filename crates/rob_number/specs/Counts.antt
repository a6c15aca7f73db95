-- The counts of a ledger. A count is a whole number of 64 bits that never falls, and stands at its last value.
use Rattle.std.specs.Prelude.{◌≡◌, ℕ, ◌+◌, ◌-◌, ◌^◌, ◌≤◌, min, max, Bool, true, false, Result, MatchResult, OnErr}

-- one more; the last value stands
abbrev pub raised : ℕ → ℕ
raised n = max n (min (n + 1) (2 ^ 64 - 1))

-- the count was raised at least once, or stands at its last value
abbrev pub Rose : ℕ → ℕ → Type 0
Rose before now = raised before ≤ now

-- the count rose, where that is asked
abbrev pub RoseIf : Bool → ℕ → ℕ → Type 0
RoseIf true before now = Rose before now
RoseIf false before now = Unit {0}

-- the count of wide results rose, where the error is one for width, as `is_wide` says
abbrev pub RoseIfWide : {E : Type 0} → (E → Bool) → ℕ → ℕ → E → Type 0
RoseIfWide is_wide before now e = RoseIf (is_wide e) before now

-- the count never fell, and rose where the call refused
pub record Told {T E : Type 0} (before now : ℕ) (result : Result T E) : Type 0 where
  pub never_fell : before ≤ now
  pub refused : OnErr result (Rose before now)

-- of a ledger's two counts, the operations were raised once, and the wide results once exactly where the call refused
pub record CountsOne {S T E : Type 0} (ops_of wides_of : S → ℕ) (before now : S) (result : Result T E) : Type 0 where
  pub ops : ops_of now ≡ raised (ops_of before)
  pub wides : MatchResult result (λ _. wides_of now ≡ wides_of before) (λ _. wides_of now ≡ raised (wides_of before))

-- of the two counts, the operations never fell, and the wide results were raised once exactly where the call refused
pub record CountsWide {S T E : Type 0} (ops_of wides_of : S → ℕ) (before now : S) (result : Result T E) : Type 0 where
  pub ops : ops_of before ≤ ops_of now
  pub wides : MatchResult result (λ _. wides_of now ≡ wides_of before) (λ _. wides_of now ≡ raised (wides_of before))

-- of the two counts, neither fell
pub record NeverFell {S : Type 0} (ops_of wides_of : S → ℕ) (before now : S) : Type 0 where
  pub ops : ops_of before ≤ ops_of now
  pub wides : wides_of before ≤ wides_of now

-- of the two counts, the operations never fell, and the wide results stand
pub record CountsOnly {S : Type 0} (ops_of wides_of : S → ℕ) (before now : S) : Type 0 where
  pub ops : ops_of before ≤ ops_of now
  pub wides : wides_of now ≡ wides_of before

-- of the two counts, neither fell, and the wide results rose where the call refused
pub record CountsTold {S T E : Type 0} (ops_of wides_of : S → ℕ) (before now : S) (result : Result T E) : Type 0 where
  pub ops : ops_of before ≤ ops_of now
  pub told : Told (wides_of before) (wides_of now) result
