-- Causes of a stop.
use Rattle.std.specs.Prelude.{◌≡◌, Result, Ok, Err, IfErr, refl}
use Rattle.std.proofs.Common.{subst, sym, ◌∙◌}
use Rattle.rob_sets.specs.Stops.{StopsFor}
use Rattle.rob_sets.specs.declared.error.Stop.{Stop}
use Rattle.rob_sets.specs.declared.error.Stop.TheVariants.{Wide, Memory}

-- a cause that is there
pub stops : {T cause : Type 0} → (r : Result T Stop) → cause → IfErr r (StopsFor cause)
stops (Ok x) h = tt
stops (Err Wide) h = h
stops (Err Memory) h = tt

-- a cause of a cause, of a stop
pub stop_weaker : {cause other : Type 0} → (e : Stop) → (other → cause) → StopsFor other e → StopsFor cause e
stop_weaker Wide f h = f h
stop_weaker Memory f h = tt

-- and of a call
pub stops_more : {T cause other : Type 0} → (r : Result T Stop) (e d : Stop) → r ≡ Err d → d ≡ e → (other → cause)
    → StopsFor other e → IfErr r (StopsFor cause)
stops_more {T} {cause} {other} r e d is same f h =
    subst (λ (x : Result T Stop). IfErr x (StopsFor cause)) (sym is)
    (subst (StopsFor cause) (sym same) (stop_weaker e f h))

pub stops_also : {T cause other : Type 0} → (r : Result T Stop) → (other → cause) → IfErr r (StopsFor other)
    → IfErr r (StopsFor cause)
stops_also (Ok x) f h = tt
stops_also (Err stop) f h = stop_weaker stop f h

-- a stop for width has no cause, so it is for memory
pub only_memory : {T cause : Type 0} → (r : Result T Stop) (e d : Stop) → r ≡ Err d → d ≡ e → (cause → ⊥)
    → StopsFor cause e → IfErr r (λ stop. stop ≡ Memory)
only_memory {T} {cause} r e d is same f h =
    subst (λ (x : Result T Stop). IfErr x (λ stop. stop ≡ Memory)) (sym is) (same ∙ by e h)
  where
    by : (e : Stop) → StopsFor cause e → e ≡ Memory
    by Wide h = absurd (f h)
    by Memory h = refl
