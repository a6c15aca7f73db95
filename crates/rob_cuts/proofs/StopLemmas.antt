-- Numbers that are wide in a round, as places of the run.
use Rattle.std.proofs.Common.{◌≡◌, ◌⊎◌, inl, inr, ℕ, suc, List, ◌∷◌, refl, sym, ap, ◌∙◌, subst, arith, Bool, true, false}
use lib.IntN.{ℤ, ◌*ℤ◌}
use Rattle.rob_algebra.specs.Fraction.{Fraction}
use Rattle.rob_linear.specs.Vectors.{at}
use Rattle.rob_meaning.specs.Forms.{matrix_at, form_columns, form_rows}
use Rattle.rob_meaning.specs.RobustModel.{RobustModel}
use Rattle.rob_model.specs.declared.place.Spot.{Spot}
use Rattle.rob_model.specs.declared.place.Spot.TheVariants as spot
use Rattle.rob_model.specs.declared.place.Program.TheVariants as program
use Rattle.rob_model.specs.declared.place.Where.TheVariants as of
use Rattle.rob_cert.specs.declared.ending.Stop.{Stop}
use Rattle.rob_cert.specs.declared.ending.Stop.TheVariants.{EmptySet, Wide, Memory}
use Rattle.rob_cert.specs.declared.trace.Round.{Round as Traced}
use Rattle.rob_elab.specs.Forms.{IsForms}
use Rattle.rob_elab.specs.declared.forms.Forms.{Forms}
use Rattle.rob_counterpart.specs.Counterpart.{cell}
use Rattle.rob_linear.specs.WideRows.{TellsWideRow}
use Rattle.rob_dualize.specs.Refusals.{IsRefusedRow}
use Rattle.rob_runs.specs.Cuts.{Cut, master_over}
use Rattle.rob_runs.specs.Runs.{Round, boundless, best, IsRound, CutsOff}
use Rattle.rob_runs.specs.Searches.{search_at}
use Rattle.rob_runs.specs.Spots.{RunSpot, master_row, search_row, clearing, cost, cut_clearing, cut_sum, LooksAt, ComesTo, SomeWide, IsWideCleared, IsWideCost, HasWidePrefix, IsWideAfter, IsWideSearch, cut_term}
use Rattle.rob_worst.specs.Finding.{IsRefusedSearch, IsWideAt}
use Rattle.rob_cuts.specs.Master.{cut_product}
use Rattle.rob_cuts.specs.Places.{spot_told, IsRefusedAfter}
use Rattle.rob_cuts.specs.Rounds.{cut_of, cuts_told}
use Rattle.rob_cuts.specs.Scans.{IsWideCut, IsScanStopped}
use Rattle.rob_cuts.specs.Stops.{StopsWith, IsInSum}
use Rattle.rob_cuts.specs.Outcomes.{IsOfRound, IsNext}

-- where a place is of one kind, it is of another
pub stops_also : (P Q : Spot → Type 0) → ((place : Spot) → P place → Q place) → (stop : Stop) → StopsWith P stop
    → StopsWith Q stop
stops_also P Q f (EmptySet weights) h = h
stops_also P Q f (Wide place trace) h = f place h
stops_also P Q f Memory h = tt

-- the round that cuts off what is looked at
pub looks_round : (m : RobustModel) (cuts : List Cut) (by_step : Bool) (z : List Fraction) → LooksAt m cuts by_step z
    → (c : Cut) → CutsOff m z c → (r : Round) × IsRound m cuts r × (r.cut ≡ c)
looks_round m cuts true z l c o = (
  record { kind = boundless l.column; by_step = true; basis = l.basis; cut = c },
  (l.x, l.r, l.master, subst (λ (v : List Fraction). CutsOff m v c) l.is o),
  refl,
)
looks_round m cuts false z (inl l) c o = (
  record { kind = best; by_step = false; basis = l.basis; cut = c },
  (l.x, l.y, l.master, subst (λ (v : List Fraction). CutsOff m v c) l.is o),
  refl,
)
looks_round m cuts false z (inr l) c o = (
  record { kind = boundless l.column; by_step = false; basis = l.basis; cut = c },
  (l.x, l.r, l.master, l.held, subst (λ (v : List Fraction). CutsOff m v c) l.is o),
  refl,
)

module _ (limit : ℕ) (m : RobustModel) (cuts : List Cut) where
  -- the place is one of the next round, where a number is wide
  abbrev pub IsWideThere : Spot → Type 0
  IsWideThere place =
      (spot : RunSpot) × IsOfRound spot × (place ≡ spot_told spot) × IsWideAfter limit m cuts spot
      × IsRefusedAfter limit m cuts spot

  module _ (by_step : Bool) (z : List Fraction) (looks : LooksAt m cuts by_step z) where
    -- of a search
    row_wide : (step : Bool) (f g : ℕ) (basis : List ℕ) (p : ℕ) → ComesTo m z f
        → IsWideSearch limit m by_step f z (search_row step g basis p)
        → IsWideAfter limit m cuts (search_row step g basis p)
    row_wide step f g basis p comes w = (
      z,
      subst (λ (b : Bool). LooksAt m cuts b z) (sym w.0) looks,
      subst (ComesTo m z) (sym w.1) comes,
      subst (λ (i : ℕ). TellsWideRow limit (search_at m i z) basis p) (sym w.1) w.2,
    )

    row_refused : (step : Bool) (f g : ℕ) (basis : List ℕ) (p : ℕ) → ComesTo m z f
        → IsWideSearch limit m by_step f z (search_row step g basis p)
        × IsRefusedSearch limit (search_at m f z) basis p
        → IsRefusedAfter limit m cuts (search_row step g basis p)
    row_refused step f g basis p comes w = (
      z,
      subst (λ (b : Bool). LooksAt m cuts b z) (sym w.0.0) looks,
      subst (ComesTo m z) (sym w.0.1) comes,
      subst (λ (i : ℕ). IsRefusedSearch limit (search_at m i z) basis p) (sym w.0.1) w.1,
    )

    search_place : (f : ℕ) → ComesTo m z f → (place : Spot) → IsWideAt limit m by_step f z place → IsWideThere place
    search_place f comes (spot.Dictionary (program.SearchPlan g) basis p) w = (
      search_row false g basis p,
      tt,
      refl,
      row_wide false f g basis p comes w.0,
      row_refused false f g basis p
          comes w,
    )
    search_place f comes (spot.Dictionary (program.SearchMove g) basis p) w =
        (search_row true g basis p, tt, refl, row_wide true f g basis p comes w.0, row_refused true f g basis p comes w)
    search_place f comes (spot.Clearing of.Plan) w =
        (clearing false, tt, refl, (z, subst (λ (b : Bool). LooksAt m cuts b z) (sym w.0) looks, w.1), tt)
    search_place f comes (spot.Clearing of.Move) w =
        (clearing true, tt, refl, (z, subst (λ (b : Bool). LooksAt m cuts b z) (sym w.0) looks, w.1), tt)
    search_place f comes (spot.Sum (of.Cost g) k) w = (
      cost g k,
      tt,
      refl,
      (
        by_step,
        z,
        looks,
        subst (ComesTo m z) (sym w.0) comes,
        subst (λ (i : ℕ). IsWideCost limit m i k z) (sym w.0)
            w.1,
      ),
      tt,
    )
    search_place f comes other w = absurd w

    -- of a cut
    cut_place : (f : ℕ) → ComesTo m z f → (place : Spot) → IsWideCut limit m f z place → IsWideThere place
    cut_place f comes place w =
        let round = looks_round m cuts by_step z looks w.0 (w.3
        (λ h l. comes.first h (let e : w.0.form ≡ f = w.1 in omega arith))) in (
          cut_clearing f,
          tt,
          w.2,
          (
            round.0,
            round.1,
            ap (λ (d : Cut). d.form) round.2 ∙ w.1,
            subst (λ (d : Cut). SomeWide limit (d.base ∷ d.vector)) (sym round.2) w.4,
          ),
          tt,
        )

    scan_place : (place : Spot) → (f : ℕ) × ComesTo m z f × (IsWideAt limit m by_step f z place
        ⊎ IsWideCut limit m f z place) → IsWideThere place
    scan_place place (f, comes, inl w) = search_place f comes place w
    scan_place place (f, comes, inr w) = cut_place f comes place w

    -- of a scan
    pub scan_stopped : (stop : Stop) → IsScanStopped limit m by_step z stop → StopsWith IsWideThere stop
    scan_stopped stop h =
        stops_also (λ place. (f : ℕ) × ComesTo m z f × (IsWideAt limit m by_step f z place
        ⊎ IsWideCut limit m f z place)) IsWideThere scan_place stop h

  -- of the direction that is cleared
  pub step_place : (place : Spot) (z : List Fraction) → LooksAt m cuts true z → IsWideCleared limit z
      → place ≡ spot.Clearing of.Move → IsWideThere place
  step_place place z looks w e = (clearing true, tt, e, (z, looks, w), tt)

  -- of the master
  pub master_place : (place : Spot) (basis : List ℕ) (i : ℕ) → IsWideAfter limit m cuts (master_row basis i)
      → IsRefusedRow limit (master_over m cuts) basis i → place ≡ spot.Dictionary program.Master basis i
      → IsWideThere place
  master_place place basis i w r e = (master_row basis i, tt, e, w, r)

-- ---- of a cut's sums
product_same : (m : RobustModel) (forms : Forms) → IsForms m forms → (c : Cut) (j : ℕ)
    → cut_product forms c j ≡ cut_term m c j
product_same m forms f c j =
    ap {B = ℕ → ℤ} (λ (all : List (List (List ℤ))) (k : ℕ). cell (matrix_at all c.form) k j *ℤ at (c.base ∷ c.vector)
    k) f.matrices

pub sum_place : (limit : ℕ) (m : RobustModel) (forms : Forms) → IsForms m forms
    → (rounds : List Traced) (round : Traced) → IsNext limit m rounds round → (place : Spot)
    → IsInSum limit forms (cut_of round) place → IsWideThere limit m (cuts_told rounds) place
sum_place limit m forms f rounds round next place w =
    let e : cut_of round ≡ next.next.cut = ap cut_of next.told in
    let columns : suc (suc forms.columns) ≡ form_columns m = ap (λ (n : ℕ). suc (suc n)) f.columns in
    let rows : suc forms.params ≡ form_rows m = ap suc f.params in (
      cut_sum round.form w.0,
      tt,
      w.1,
      (
        next.next,
        next.is_round,
        ap (λ (c : Cut). c.form) (sym e),
        (
          omega (arith, w.2),
          subst (λ (c : Cut). HasWidePrefix limit (form_rows m) (cut_term m c w.0)) e
              (subst (λ (v : ℕ → ℤ). HasWidePrefix limit (form_rows m) v) (product_same m forms f (cut_of round) w.0)
              (subst (λ (n : ℕ). HasWidePrefix limit n (cut_product forms (cut_of round) w.0)) rows w.3)),
        ),
      ),
      tt,
    )
