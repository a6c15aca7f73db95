-- The causes of a search's stops.
use Rattle.std.proofs.Common.{◌≡◌, ℕ, suc, ◌<◌, ◌≤◌, List, [], ◌∷◌, map, length, refl, sym, subst, arith, inl, inr, Bool, true, false}
use Rattle.rob_algebra.specs.Fraction.{Fraction}
use Rattle.rob_algebra.specs.Width.{IsWideWhole}
use Rattle.rob_meaning.specs.Clearing.{denominator, whole_at}
use Rattle.rob_meaning.specs.RobustModel.{RobustModel}
use Rattle.rob_model.specs.declared.place.Spot.{Spot}
use Rattle.rob_model.specs.declared.place.Spot.TheVariants as spot
use Rattle.rob_model.specs.declared.place.Where.TheVariants as where_at
use Rattle.rob_cert.specs.declared.ending.Stop.{Stop}
use Rattle.rob_cert.specs.declared.ending.Stop.TheVariants.{EmptySet, Wide, Memory}
use Rattle.rob_dualize.specs.Ending.{StopsAt}
use Rattle.rob_elab.specs.Forms.{IsForms}
use Rattle.rob_elab.specs.declared.forms.Forms.{Forms}
use Rattle.rob_runs.specs.Cuts.{wholes}
use Rattle.rob_runs.specs.Searches.{search_at}
use Rattle.rob_linear.specs.WideRows.{TellsWideRow}
use Rattle.rob_runs.specs.Spots.{SomeWide, IsWideCleared}
use Rattle.rob_sets.specs.FirstWide.{Some_of}
use Rattle.rob_worst.specs.Costs.{IsWidePart, StopsAtPart}
use Rattle.rob_worst.specs.Finding.{IsRefusedSearch, IsWideAt, HasSearchCause}
use Rattle.rob_dualize.specs.Ending.{IsWideStop}
use Rattle.rob_worst.specs.Refusals.{program_for, place_for}
use Rattle.rob_worst.proofs.CostLemmas.{part_wide}

pub some_at : (limit d : ℕ) (qs : List Fraction) → Some_of (λ q. IsWideWhole limit (whole_at d q)) qs
    → SomeWide limit (map (whole_at d) qs)
some_at limit d [] h = absurd h
some_at limit d (q ∷ qs) (inl w) = (0, omega arith, w)
some_at limit d (q ∷ qs) (inr w) = let r : SomeWide limit (map (whole_at d) qs) = some_at limit d qs w in
    let l : r.0 < length (map (whole_at d) qs) = r.1 in (suc r.0, omega arith, r.2)

module _ (limit : ℕ) (m : RobustModel) (by_step : Bool) (i : ℕ) (z : List Fraction) where
  pub named_cause : (place : Spot) (stop : Stop) → IsWideStop place stop → IsWideAt limit m by_step i z place
      → HasSearchCause limit m by_step i z stop
  named_cause place stop h w = subst (HasSearchCause limit m by_step i z) (sym h) (w, refl)

  -- ---- clearing
  clearing_spot : (step : Bool) → step ≡ by_step → IsWideCleared limit z
      → IsWideAt limit m by_step i z (spot.Clearing (place_for step))
  clearing_spot false e w = (e, w)
  clearing_spot true e w = (e, w)

  pub cleared_cause : (stop : Stop) (d : ℕ) → IsWideStop (spot.Clearing (place_for by_step)) stop → d ≡ denominator z
      → Some_of (λ q. IsWideWhole limit (whole_at d q)) z
      → HasSearchCause limit m by_step i z stop
  cleared_cause stop d h e w =
      named_cause (spot.Clearing (place_for by_step)) stop h
      (clearing_spot by_step refl (inr (some_at limit (denominator z) z
      (subst (λ n. Some_of (λ q. IsWideWhole limit (whole_at n q)) z) e w))))

  -- ---- costs
  module _ (forms : Forms) (f : IsForms m forms) where
    pub constant_cause : (stop : Stop) → IsWideStop (spot.Sum (where_at.Cost i) 0) stop
        → IsWidePart forms i limit 0 (wholes z) → HasSearchCause limit m by_step i z stop
    constant_cause stop h w = named_cause (spot.Sum (where_at.Cost i) 0) stop h
        (refl, (omega arith, part_wide m forms f i z limit 0 w))

    pub costs_cause : (stop : Stop) → StopsAtPart forms i limit (wholes z) stop
        → HasSearchCause limit m by_step i z stop
    costs_cause (EmptySet weights) h = absurd h
    costs_cause (Wide place trace) h =
        let k : ℕ = h.0.0 in
        let l : k ≤ forms.params = h.0.1 in
        let p : forms.params ≡ length m.parameters = f.params in (
          subst (IsWideAt limit m by_step i z) (sym h.0.2) (
            refl,
            (omega arith, part_wide m forms f i z limit k h.0.3),
          ),
          h.1,
        )
    costs_cause Memory h = tt

  -- ---- a row of the search
  row_spot : (step : Bool) (basis : List ℕ) (p : ℕ) → step ≡ by_step → TellsWideRow limit (search_at m i z) basis p
      → IsRefusedSearch limit (search_at m i z) basis p → IsWideAt limit m by_step i z
      (spot.Dictionary (program_for step i) basis p)
  row_spot false basis p e w r = ((e, refl, w), r)
  row_spot true basis p e w r = ((e, refl, w), r)

  pub row_cause : (stop : Stop) (basis : List ℕ) (p : ℕ) → StopsAt basis (program_for by_step i) p stop
      → TellsWideRow limit (search_at m i z) basis p → IsRefusedSearch limit (search_at m i z) basis p
      → HasSearchCause limit m by_step i z stop
  row_cause (EmptySet weights) basis p h w r = absurd h
  row_cause (Wide place trace) basis p h w r =
      (subst (IsWideAt limit m by_step i z) (sym h.0) (row_spot by_step basis p refl w r), h.1)
  row_cause Memory basis p h w r = tt
