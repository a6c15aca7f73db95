-- What is judged in order: the first wide spot, and why a call stops there.
use Rattle.std.specs.Prelude.{◌≡◌, ℕ, ◌≤◌, List, [], ◌∷◌, ◌++◌, refl}
use Rattle.std.proofs.Common.{sym, ◌∙◌, ap, arith, subst, append_assoc}
use Rattle.rob_number.specs.Counts.{Rose}
use Rattle.rob_meaning.specs.RobustModel.{RobustModel}
use Rattle.rob_model.specs.declared.place.Spot.{Spot}
use Rattle.rob_sets.specs.Appending.{StopsAt}
use Rattle.rob_sets.specs.FirstWide.{Judged, IsFirstWide, IsWideThere, NothingWide, spot_of}
use Rattle.rob_sets.proofs.Judging.JudgingLemmas.{Judging}
use Rattle.rob_sets.specs.Stops.{StopsFor, error_of}
use Rattle.rob_sets.specs.declared.error.ElabErr.{ElabErr}
use Rattle.rob_sets.specs.declared.error.ElabErr.TheVariants as Refused
use Rattle.rob_sets.specs.declared.error.Stop.{Stop}
use Rattle.rob_sets.specs.declared.error.Stop.TheVariants as Stopped
use Rattle.rob_sets.proofs.Cells.PartedLemmas.{Parted}
use Rattle.rob_meaning.proofs.Lists.EachLemmas.{each_append}

module _ (limit : ℕ) (m : RobustModel) where
  -- ---- the first wide spot
  pub first_here : (j : Judged) (rest : List Judged) → IsWideThere limit m j
      → IsFirstWide limit m (j ∷ rest) (spot_of j)
  first_here j rest w =
      record { before = []; here = j; after = rest; order = refl; none_before = tt; wide = w; named = refl }

  pub first_left : (js ks : List Judged) (spot : Spot) → IsFirstWide limit m js spot
      → IsFirstWide limit m (js ++ ks) spot
  first_left js ks spot h = record {
    before = h.before;
    here = h.here;
    after = h.after ++ ks;
    order = ap (λ (xs : List Judged). xs ++ ks) h.order ∙ append_assoc h.before (h.here ∷ h.after) ks;
    none_before = h.none_before;
    wide = h.wide;
    named = h.named;
  }

  pub first_right : (js ks : List Judged) (spot : Spot) → NothingWide limit m js → IsFirstWide limit m ks spot
      → IsFirstWide limit m (js ++ ks) spot
  first_right js ks spot none h = record {
    before = js ++ h.before;
    here = h.here;
    after = h.after;
    order = ap (λ (xs : List Judged). js ++ xs) h.order ∙ sym (append_assoc js h.before (h.here ∷ h.after));
    none_before = each_append (λ j. IsWideThere limit m j → ⊥) js h.before none h.none_before;
    wide = h.wide;
    named = h.named;
  }

  -- ---- why a call stops
  pub stops_here : (j : Judged) (rest : List Judged) (stop : Stop) (e : ElabErr) (spot : Spot) (start before now : ℕ)
      → e ≡ error_of stop spot → spot_of j ≡ spot
      → start ≤ before → StopsFor (Rose before now × IsWideThere limit m j) stop
      → StopsAt limit m (j ∷ rest) start now e
  stops_here j rest Stopped.Wide e spot start before now is named least h =
      subst (λ (x : ElabErr). StopsAt limit m (j ∷ rest) start now x) (sym is)
      (let rose : Rose start now = omega (arith, h.0, least) in
      record { cause = subst (IsFirstWide limit m (j ∷ rest)) named (first_here j rest h.1); rose = rose })
  stops_here j rest Stopped.Memory e spot start before now is named least h =
      subst (λ (x : ElabErr). StopsAt limit m (j ∷ rest) start now x) (sym is) (record { cause = tt; rose = tt })

  pub stops_left : (js ks : List Judged) (e : ElabErr) (start before now : ℕ) → start ≤ before
      → StopsAt limit m js before now e
      → StopsAt limit m (js ++ ks) start now e
  stops_left js ks (Refused.Wide spot) start before now least h =
      let rose : Rose start now = omega (arith, h.rose, least) in
      record { cause = first_left js ks spot h.cause; rose = rose }
  stops_left js ks Refused.Memory start before now least h = record { cause = tt; rose = tt }

  pub stops_right : (js ks : List Judged) (e : ElabErr) (start before now : ℕ) → start ≤ before → NothingWide limit m js
      → StopsAt limit m ks before now e
      → StopsAt limit m (js ++ ks) start now e
  stops_right js ks (Refused.Wide spot) start before now least none h =
      let rose : Rose start now = omega (arith, h.rose, least) in
      record { cause = first_right js ks spot none h.cause; rose = rose }
  stops_right js ks Refused.Memory start before now least none h = record { cause = tt; rose = tt }

  -- what is judged here is behind what is done, and before what is left
  pub stops_judging : {all left here more : List Judged} (e : ElabErr) (first before last : ℕ)
      → Judging (IsWideThere limit m) all left → Parted left here more → first ≤ before
      → StopsAt limit m here before last e → StopsAt limit m all first last e
  stops_judging {here} {more} e first before last p j least h =
      subst (λ (ks : List Judged). StopsAt limit m ks first last e)
      (ap (λ (ks : List Judged). p.done ++ ks) (sym j.is) ∙ p.order)
      (stops_right p.done (here ++ more) e first before last least p.none_wide
      (stops_left here more e before before last (omega arith) h))
