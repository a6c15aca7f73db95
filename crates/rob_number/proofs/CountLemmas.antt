-- The counts of a ledger, call after call.
use Rattle.std.proofs.Common.{ℕ, ◌+◌, ◌-◌, ◌^◌, ◌≤◌, min, max, Bool, true, false, ◌∙◌, refl, arith}
use Rattle.rob_number.specs.Counts.{CountsOnly, NeverFell, Rose, RoseIf}

-- what never fell in one call and in the next one, never fell in both
pub later : {S : Type 0} {ops wides : S → ℕ} {a b c : S} → NeverFell ops wides a b → NeverFell ops wides b c
    → NeverFell ops wides a c
later f g = record { ops = omega (arith, f.ops, g.ops); wides = omega (arith, f.wides, g.wides) }

-- where nothing is counted, the wide results stand
pub only_same : {S : Type 0} {ops wides : S → ℕ} {a : S} → CountsOnly ops wides a a
only_same = record { ops = omega arith; wides = refl }

-- where they stand in one call and in the next one, they stand in both
pub only_later : {S : Type 0} {ops wides : S → ℕ} {a b c : S} → CountsOnly ops wides a b → CountsOnly ops wides b c
    → CountsOnly ops wides a c
only_later f g = record { ops = omega (arith, f.ops, g.ops); wides = g.wides ∙ f.wides }

-- a rise behind what never fell is one of both
pub rose_later : (a b c : ℕ) → a ≤ b → Rose b c → Rose a c
rose_later a b c least rose =
    let f : max b (min (b + 1) (2 ^ 64 - 1)) ≤ c = rose in
    let g : max a (min (a + 1) (2 ^ 64 - 1)) ≤ c = omega arith in
    g

-- the same where one is asked for
pub rise_later : (asked : Bool) (a b c : ℕ) → a ≤ b → RoseIf asked b c → RoseIf asked a c
rise_later true a b c least rose = rose_later a b c least rose
rise_later false a b c least rose = tt
