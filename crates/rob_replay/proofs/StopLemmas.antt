-- Lists that grow, and what stops them.
use Rattle.std.proofs.Common.{◌≡◌, List, [], ◌++◌, map, sym, ap, ◌∙◌}
use Rattle.std.specs.Prelude.{Option, Some, None}
use Rattle.rob_algebra.specs.Fraction.{Fraction}
use Rattle.rob_replay.proofs.GatherLemmas.{gathered_all, gathered_append, gathered_append_stops}
use Rattle.rob_replay.specs.Gathering.{all_of, gathered}
use Rattle.rob_replay.specs.Stops.{StopsAt}
use Rattle.rob_replay.specs.declared.line.Stopped.{Stopped}
use Rattle.rob_replay.specs.declared.line.Stopped.TheVariants.{Wide, Memory}

-- what stops a part stops the whole
pub stops_by : {A B : Type 0} (part : Option A) (whole : Option B) (e : Stopped) → (part ≡ None → whole ≡ None)
    → StopsAt part e → StopsAt whole e
stops_by part whole Wide f h = f h
stops_by part whole Memory f h = tt

module _ {N : Type 0} (value : N → Fraction) where
  -- from the empty list all is gathered
  module _ (old : List N) (empty : old ≡ []) (xs ys : List (Option Fraction)) where
    from_nothing : gathered (map value old) (xs ++ ys) ≡ all_of (xs ++ ys)
    from_nothing = ap (λ l. gathered (map value l) (xs ++ ys)) empty ∙ gathered_all (xs ++ ys)

    pub all_gathered : (mid new : List N) → gathered (map value old) xs ≡ Some (map value mid)
        → gathered (map value mid) ys ≡ Some (map value new)
        → all_of (xs ++ ys) ≡ Some (map value new)
    all_gathered mid new h g = sym from_nothing ∙ gathered_append (map value old) (map value mid) xs ys h ∙ g

    pub first_stops : (e : Stopped) → StopsAt (gathered (map value old) xs) e → StopsAt (all_of (xs ++ ys)) e
    first_stops e h = stops_by (gathered (map value old) xs) (all_of (xs ++ ys)) e
        (λ none. sym from_nothing ∙ gathered_append_stops (map value old) xs ys none) h

    pub second_stops : (mid : List N) (e : Stopped) → gathered (map value old) xs ≡ Some (map value mid)
        → StopsAt (gathered (map value mid) ys) e → StopsAt (all_of (xs ++ ys)) e
    second_stops mid e h g = stops_by (gathered (map value mid) ys) (all_of (xs ++ ys)) e
        (λ none. sym from_nothing ∙ gathered_append (map value old) (map value mid) xs ys h ∙ none) g
