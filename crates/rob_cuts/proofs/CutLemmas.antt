-- Cuts in whole numbers, and why there is none.
use Rattle.std.proofs.Common.{◌≡◌, ℕ, zero, suc, ◌<◌, ◌≤◌, List, ◌∷◌, map, length, refl, sym, ap, ◌∙◌, subst, arith, nat_abs}
use Rattle.std.proofs.lemmas.List.{length-map}
use lib.IntN.{ℤ, pos}
use Rattle.rob_algebra.specs.Fraction.{Fraction}
use Rattle.rob_algebra.specs.Width.{IsWideWhole}
use Rattle.rob_meaning.specs.Clearing.{denominator, whole_at}
use Rattle.rob_meaning.specs.Places.{Each}
use Rattle.rob_model.specs.declared.place.Spot.{Spot}
use Rattle.rob_model.specs.declared.place.Spot.TheVariants.{Clearing}
use Rattle.rob_model.specs.declared.place.Where.TheVariants as of
use Rattle.rob_cert.specs.declared.ending.Stop.{Stop}
use Rattle.rob_dualize.specs.Ending.{IsWideStop}
use Rattle.rob_runs.specs.Cuts.{wholes}
use Rattle.rob_runs.specs.Spots.{SomeWide}
use Rattle.rob_sets.specs.FirstWide.{Some_of}
use Rattle.rob_sets.specs.Stops.{StopsFor}
use Rattle.rob_sets.specs.declared.error.Stop.{Stop as Refusal}
use Rattle.rob_sets.specs.declared.error.Stop.TheVariants as refusal
use Rattle.rob_cuts.specs.Made.{cut_made}
use Rattle.rob_cuts.specs.Rounds.{CutFits, scenario_cut_of, ray_cut_of}
use Rattle.rob_cuts.specs.Stops.{StopsWith, IsInClearing, IsRefused}
use Rattle.rob_cuts.proofs.RayLemmas.{wide_at_denominator}

-- ---- stops
pub stop_at : (P : Spot → Type 0) (place : Spot) (stop : Stop) → IsWideStop place stop → P place → StopsWith P stop
stop_at P place stop e p = subst (StopsWith P) (sym e) p

pub refused_at : (P : Spot → Type 0) (place : Spot) (cause : Type 0) → (cause → P place) → (r : Refusal)
    → StopsFor cause r → (stop : Stop) → IsRefused place r stop
    → StopsWith P stop
refused_at P place cause f refusal.Wide c stop e = stop_at P place stop e (f c)
refused_at P place cause f refusal.Memory c stop e = subst (StopsWith P) (sym e) tt

-- ---- cleared numbers that are wide
behind : (limit : ℕ) (base : ℤ) (vector : List ℤ) → SomeWide limit vector → SomeWide limit (base ∷ vector)
behind limit base vector w = (suc w.0, omega (arith, w.1), w.2)

pub wide_base : (limit form : ℕ) (qs : List Fraction) → limit < denominator qs
    → IsInClearing limit (scenario_cut_of form qs) (Clearing (of.Cut form))
wide_base limit form qs w = (refl, (zero, omega arith, w))

pub wide_vector : (limit form d : ℕ) (qs : List Fraction) → d ≡ denominator qs
    → Some_of (λ q. IsWideWhole limit (whole_at d q)) qs
    → IsInClearing limit (scenario_cut_of form qs) (Clearing (of.Cut form))
wide_vector limit form d qs e w = (
  refl,
  behind limit (pos (denominator qs)) (wholes qs)
      (wide_at_denominator limit d qs e w),
)

pub wide_ray : (limit form : ℕ) (qs : List Fraction) → SomeWide limit (wholes qs)
    → IsInClearing limit (ray_cut_of form qs) (Clearing (of.Cut form))
wide_ray limit form qs w = (refl, behind limit (pos 0) (wholes qs) w)

-- ---- cuts that are made
module _ {N : Type 0} (value : N → Fraction) (limit form : ℕ) (xs : List N) where
  pub scenario_made : (d : ℕ) (base : ℤ) (vector : List ℤ) → d ≡ denominator (map value xs) → base ≡ pos d
      → vector ≡ map (whole_at d) (map value xs)
      → cut_made (record { form = form; base = base; vector = vector }) ≡ scenario_cut_of form (map value xs)
  scenario_made d base vector e eb ev =
      ap (λ (b : ℤ). record { form = form; base = b; vector = vector }) (eb ∙ ap pos e)
      ∙ ap (λ (v : List ℤ). record { form = form; base = pos (denominator (map value xs)); vector = v })
      (ev ∙ ap (λ n. map (whole_at n) (map value xs)) e)

  pub made_fits : (d : ℕ) (base : ℤ) (vector : List ℤ) → nat_abs base ≤ limit → Each (λ a. nat_abs a ≤ limit) vector
      → vector ≡ map (whole_at d) (map value xs)
      → CutFits limit (length xs) (cut_made (record { form = form; base = base; vector = vector }))
  made_fits d base vector hb hv e = record {
    base = hb;
    vector = hv;
    count = ap length e ∙ length-map (map value xs) (whole_at d) ∙ length-map xs value;
  }
