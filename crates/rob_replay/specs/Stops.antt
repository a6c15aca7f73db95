-- Why values are not computed: a number is wide, or memory was refused.
use Rattle.std.specs.Prelude.{◌≡◌, ℕ, List, map, Option, Some, None, Result, Ok, Err}
use Rattle.rob_algebra.specs.Fraction.{Fraction}
use Rattle.rob_number.specs.Counts.{Rose}
use Rattle.rob_replay.specs.Gathering.{gathered}
use Rattle.rob_replay.specs.declared.line.Stopped.{Stopped}
use Rattle.rob_replay.specs.declared.line.Stopped.TheVariants.{Wide, Memory}

-- nothing is computed where a number is wide; want of memory says nothing
abbrev pub StopsAt : {A : Type 0} → Option A → Stopped → Type 0
StopsAt o Wide = o ≡ None
StopsAt o Memory = Unit {0}

-- the answer is what is computed
abbrev pub Computes : {A B : Type 0} → (A → B) → Option B → Result A Stopped → Type 0
Computes view o (Ok x) = o ≡ Some (view x)
Computes view o (Err e) = StopsAt o e

-- the list has grown by all of the numbers
abbrev pub Gathers : {N : Type 0} → (N → Fraction) → List N → List N → List (Option Fraction) → Result Unit Stopped
    → Type 0
Gathers value old new xs (Ok done) = gathered (map value old) xs ≡ Some (map value new)
Gathers value old new xs (Err e) = StopsAt (gathered (map value old) xs) e

-- the count of wide numbers rose where a number is wide
abbrev pub RoseAtWide : {A : Type 0} → ℕ → ℕ → Result A Stopped → Type 0
RoseAtWide before now (Ok x) = Unit {0}
RoseAtWide before now (Err Wide) = Rose before now
RoseAtWide before now (Err Memory) = Unit {0}
