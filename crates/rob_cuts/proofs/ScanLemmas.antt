-- The forms that are kept so far, one after another.
use Rattle.std.proofs.Common.{◌≡◌, ◌⊎◌, inl, inr, ℕ, zero, suc, ◌+◌, ◌<◌, ◌≤◌, List, [], ◌++◌, map, length, refl, sym, ap, ap₂, ◌∙◌, subst, arith, Bool, true, false, cond}
use Rattle.std.specs.Prelude.{nat_eq}
use Rattle.std.proofs.lemmas.Bool.Decides.{nat_tests}
use Rattle.rob_algebra.specs.Fraction.{Fraction}
use Rattle.rob_meaning.specs.Certificates.{Cover}
use Rattle.rob_meaning.specs.Forms.{matrices, form_columns}
use Rattle.rob_meaning.specs.Places.{tabulate}
use Rattle.rob_meaning.specs.RobustModel.{RobustModel}
use Rattle.rob_meaning.specs.SetRows.{set_rows}
use Rattle.rob_meaning.specs.WellFormed.{IsModel}
use Rattle.rob_cert.specs.View.{cover_of}
use Rattle.rob_cert.specs.declared.certificate.Cover.{Cover as TheCover}
use Rattle.rob_counterpart.specs.ReadNumbers.{covers_kept}
use Rattle.rob_counterpart.proofs.Pairs.TabulateLemmas.{length-tabulate}
use Rattle.rob_elab.specs.Forms.{IsForms}
use Rattle.rob_elab.specs.declared.forms.Forms.{Forms}
use Rattle.rob_sets.specs.SetForm.{IsSetForm}
use Rattle.rob_sets.specs.declared.set_form.SetForm.{SetForm}
use Rattle.rob_dualize.specs.SetSolving.{IsFewSet}
use Rattle.rob_runs.specs.Readings.{IsKept, form_covers, covers_up_to, cleared_by}
use Rattle.rob_cert.specs.declared.ending.Worst.{Worst}
use Rattle.rob_cert.specs.declared.ending.Stop.{Stop}
use Rattle.rob_cert.specs.declared.ending.Stop.TheVariants.{EmptySet, Wide, Memory}
use Rattle.rob_runs.specs.Runs.{KeepsForm}
use Rattle.rob_runs.specs.Spots.{ComesTo}
use Rattle.rob_runs.proofs.Searching.FoundLemmas.{found_keeps}
use Rattle.rob_runs.proofs.Proving.StepLemmas.{covers_up_to-more, covers_up_to-same}
use Rattle.rob_worst.specs.Finding.{IsWideAt, HasSearchCause, Tells}
use Rattle.rob_worst.proofs.VectorLemmas.{plan_count, step_count}
use Rattle.rob_cuts.specs.declared.cut.Cut.{Cut as Made}
use Rattle.rob_cuts.specs.declared.scan.Target.{Target}
use Rattle.rob_cuts.specs.declared.scan.Target.TheVariants.{Plan, Step}
use Rattle.rob_cuts.specs.declared.scan.Scan.TheVariants as found
use Rattle.rob_cuts.specs.declared.scan.Verdict.{Verdict}
use Rattle.rob_cuts.specs.declared.scan.Verdict.TheVariants as verdict
use Rattle.rob_cuts.specs.Items.{covers_of_form, cover_of_amount}
use Rattle.rob_cuts.specs.Scans.{KeptUpTo, vector_of, FitsTarget, TellsFew, IsWideCut, IsStoppedAt, IsScanStopped, IsJudged, IsScanned}
use Rattle.rob_cuts.proofs.JudgeLemmas.{tells_few}
use Rattle.rob_cuts.proofs.StopLemmas.{stops_also}

-- the amounts with those of a form more
abbrev with_form : (ℕ → List Fraction) → ℕ → List Fraction → ℕ → List Fraction
with_form amounts n new i = cond (nat_eq i n) new (amounts i)

at_own : (amounts : ℕ → List Fraction) (n : ℕ) (new : List Fraction) → with_form amounts n new n ≡ new
at_own amounts n new = by (nat_eq n n) (same n n refl)
  where
    same : (a b : ℕ) → a ≡ b → nat_eq a b ≡ true
    same a b e = grind (arith, nat_tests)

    by : (v : Bool) → v ≡ true → cond v new (amounts n) ≡ new
    by true e = refl
    by false e = cc

at_other : (amounts : ℕ → List Fraction) (n : ℕ) (new : List Fraction) (i : ℕ) → i < n
    → with_form amounts n new i ≡ amounts i
at_other amounts n new i l = by (nat_eq i n) (differ i n l)
  where
    differ : (i n : ℕ) → i < n → nat_eq i n ≡ false
    differ i n l = grind (arith, nat_tests)

    by : (v : Bool) → v ≡ false → cond v new (amounts i) ≡ amounts i
    by true e = cc
    by false e = refl

amounts_count : (m : RobustModel) (z : List Fraction) (i : ℕ) (amounts : List Fraction) → IsKept m z i amounts
    → length amounts ≡ length (set_rows m)
amounts_count m z i amounts k = ap length k.found.amounts_are ∙ length-tabulate (length (set_rows m)) k.found.duals

own_covers : (m : RobustModel) (i : ℕ) (amounts : ℕ → List Fraction) (new : List Fraction) → amounts i ≡ new
    → length new ≡ length (set_rows m)
    → covers_of_form i new ≡ covers_kept (form_covers m amounts i)
own_covers m i amounts new e n =
    ap (λ (k : ℕ). covers_kept (tabulate k (cover_of_amount i new))) n
    ∙ ap (λ (xs : List Fraction). covers_kept (tabulate (length (set_rows m)) (cover_of_amount i xs))) (sym e)

-- no form yet
pub kept_none : {m : RobustModel} {N : Type 0} {value : N → Fraction} {z : List Fraction} {scale : N}
    {covers : List (TheCover N)} → covers ≡ [] → KeptUpTo m value z 0 scale covers
kept_none {value = value} e = record {
  amounts = λ i. [];
  kept = λ i l. absurd (omega arith);
  covers_are = ap (map (cover_of value)) e;
  scale_is = λ l. absurd (omega arith);
}

module _ (m : RobustModel) {N : Type 0} (value : N → Fraction) (z : List Fraction) where
  -- a form more
  pub kept_more : (n : ℕ) (before scale : N) (covers now : List (TheCover N)) (amounts : List Fraction)
      → KeptUpTo m value z n before covers
      → IsKept m z n amounts → map (cover_of value) now ≡ map (cover_of value) covers ++ covers_of_form n amounts
      → value scale ≡ cleared_by z
      → KeptUpTo m value z (n + 1) scale now
  kept_more n before scale covers now amounts h k e s =
      let next : n + 1 ≡ suc n = omega arith in
      record {
        amounts = with_form h.amounts n amounts;
        kept = λ i l. by i (below i n (omega arith));
        covers_are = e
            ∙ ap₂ (λ (xs ys : List Cover). xs ++ ys)
            (h.covers_are ∙ covers_up_to-same m n h.amounts (with_form h.amounts n amounts)
            (λ i l. sym (at_other h.amounts n amounts i l)))
            (own_covers m n (with_form h.amounts n amounts) amounts (at_own h.amounts n amounts)
            (amounts_count m z n amounts k))
            ∙ sym (covers_up_to-more m n (with_form h.amounts n amounts))
            ∙ ap (λ (v : ℕ). covers_up_to m v (with_form h.amounts n amounts)) (sym next);
        scale_is = λ l. s;
      }
    where
      below : (i n : ℕ) → i < suc n → (i < n) ⊎ (i ≡ n)
      below zero zero l = inr refl
      below zero (suc n) l = inl (omega arith)
      below (suc i) zero l = absurd (omega arith)
      below (suc i) (suc n) l = elim (below i n (omega arith)) [ inl h ↦ inl (omega arith) | inr e ↦ inr (ap suc e) ]

      by : (i : ℕ) → ((i < n) ⊎ (i ≡ n)) → IsKept m z i (with_form h.amounts n amounts i)
      by i (inl l) = subst (IsKept m z i) (sym (at_other h.amounts n amounts i l)) (h.kept i l)
      by i (inr e) =
          subst (λ (j : ℕ). IsKept m z j (with_form h.amounts n amounts j)) (sym e)
          (subst (IsKept m z n) (sym (at_own h.amounts n amounts)) k)

  -- the forms so far are kept in every scenario
  pub keeps_first : IsModel m → length z ≡ form_columns m → (n : ℕ) (scale : N) (covers : List (TheCover N))
      → n ≤ length (matrices m)
      → KeptUpTo m value z n scale covers → (i : ℕ) → i < n → KeepsForm m z i
  keeps_first model size n scale covers few h i l =
      found_keeps m model i (omega arith) z size (h.kept i l).basis (h.kept i l).scenario (h.amounts i)
      (h.kept i l).found (h.kept i l).kept

-- ---- what is looked at has a number for each column of a form
pub target_size : {N : Type 0} (value : N → Fraction) (target : Target N) {m : RobustModel} {forms : Forms}
    → IsForms m forms → FitsTarget forms.columns target → length (vector_of value target) ≡ form_columns m
target_size value (Plan plan) {forms = forms} f e =
    plan_count value plan.now forms.columns e ∙ ap (λ n. suc (suc n)) f.columns
target_size value (Step step) {forms = forms} f e =
    step_count value step.now forms.columns e ∙ ap (λ n. suc (suc n)) f.columns

-- ---- a form that the scan comes to
-- those before it are kept at what is looked at
pub record IsReached (m : RobustModel) {N : Type 0} (value : N → Fraction) (z : List Fraction) (n : ℕ) (scale : N)
    (covers : List (TheCover N)) : Type 0 where
  pub model : IsModel m
  pub size : length z ≡ form_columns m
  pub form_in : n < length (matrices m)
  pub so_far : KeptUpTo m value z n scale covers

module _ {m : RobustModel} {N : Type 0} {value : N → Fraction} {z : List Fraction} {n : ℕ} {scale : N}
    {covers : List (TheCover N)} (r : IsReached m value z n scale covers) where
  pub comes_to : ComesTo m z n
  comes_to = record {
    form_in = r.form_in;
    first = keeps_first m value z r.model r.size n scale covers (omega (arith, r.form_in)) r.so_far;
  }

  -- what holds of each such form holds of it
  pub holds_here : {Q : RobustModel → List Fraction → Type 0} → ((m : RobustModel) → IsModel m → n < length (matrices m)
      → (z : List Fraction) → length z ≡ form_columns m → Q m z) → Q m z
  holds_here h = h m r.model r.form_in z r.size

  -- the amounts of its worst case are few
  pub few_amounts : {set : SetForm} → IsSetForm m set → IsFewSet set → (worst : Worst N) → Tells value m n z worst
      → TellsFew worst
  few_amounts {set = set} is few worst found = tells_few value m r.model set is few n r.form_in z r.size worst found

  -- it is the first that is broken
  pub broken_first : (limit : ℕ) (now : List (TheCover N)) {v : Verdict N} {cut : Made} → v ≡ verdict.Broken cut
      → IsJudged limit m value n z covers now v → IsScanned limit m value z (found.Broken cut)
  broken_first limit now {cut = cut} is judged =
      let j : IsJudged limit m value n z covers now (verdict.Broken cut) =
      subst (IsJudged limit m value n z covers now) is judged in
      (j.1 (λ i l. comes_to.first i (let e : cut.form ≡ n = j.0 in omega arith)), j.2)

  -- it is kept too
  pub judged_more : (limit : ℕ) {v : Verdict N} {common : N} → v ≡ verdict.Kept common → {now : List (TheCover N)}
      → IsJudged limit m value n z covers now v → KeptUpTo m value z (n + 1) common now
  judged_more limit {common = common} is {now = now} judged =
      let j : IsJudged limit m value n z covers now (verdict.Kept common) =
      subst (IsJudged limit m value n z covers now) is judged in
      kept_more m value z n scale common covers now j.0 r.so_far j.1 j.2 j.3

  -- its search stops the scan, or the clearing of its cut does
  pub search_stops : (limit : ℕ) (by_step : Bool) (stop : Stop) → HasSearchCause limit m by_step n z stop
      → IsScanStopped limit m by_step z stop
  search_stops limit by_step (EmptySet weights) w = w
  search_stops limit by_step (Wide place trace) w = (n, comes_to, inl w.0)
  search_stops limit by_step Memory w = tt

  pub cut_stops : (limit : ℕ) (by_step : Bool) (stop : Stop) → IsStoppedAt limit m n z stop
      → IsScanStopped limit m by_step z stop
  cut_stops limit by_step stop w =
      stops_also (IsWideCut limit m n z) (λ place. (f : ℕ) × ComesTo m z f
      × (IsWideAt limit m by_step f z place ⊎ IsWideCut limit m f z place))
      (λ place v. (n, comes_to, inr v)) stop w

-- all forms are kept
pub all_kept : (limit : ℕ) {m : RobustModel} {N : Type 0} {value : N → Fraction} {z : List Fraction} {n : ℕ}
    {scale : N} {covers : List (TheCover N)}
    → n ≡ length (matrices m) → KeptUpTo m value z n scale covers
    → IsScanned limit m value z (found.Kept (record { scale = scale; covers = covers }))
all_kept limit {m = m} e h = (
  h.amounts,
  λ i l. h.kept i (omega (arith, l, e)),
  h.covers_are ∙ ap (λ (k : ℕ). covers_up_to m k h.amounts) e,
  h.scale_is (omega (arith, e)),
)
