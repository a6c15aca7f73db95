-- The rounds of a trace, and their run.
use Rattle.std.proofs.Common.{◌≡◌, ℕ, suc, ◌+◌, ◌^◌, ◌<◌, ◌≤◌, List, [], ◌∷◌, ◌++◌, map, length, refl, sym, ap, ap₂, ◌∙◌, subst, arith}
use Rattle.std.proofs.lemmas.List.{length-map, map-append}
use Rattle.rob_algebra.specs.Fraction.{Fraction, of_int}
use Rattle.rob_meaning.specs.Certificates.{Item}
use Rattle.rob_meaning.specs.Forms.{matrices}
use Rattle.rob_meaning.specs.Places.{Each, tabulate}
use Rattle.rob_meaning.specs.RobustModel.{RobustModel}
use Rattle.rob_meaning.specs.SetRows.{set_rows, set_column_count}
use Rattle.rob_cert.specs.declared.trace.Round.{Round as Traced}
use Rattle.rob_elab.specs.Forms.{IsForms}
use Rattle.rob_elab.specs.declared.forms.Forms.{Forms}
use Rattle.rob_sets.specs.SetForm.{IsSetForm, cleared_row}
use Rattle.rob_sets.specs.declared.set_form.SetForm.{SetForm}
use Rattle.rob_counterpart.specs.MasterItems.{cut_item, weighted_kept}
use Rattle.rob_counterpart.proofs.Pairs.TabulateLemmas.{tabulate-same}
use Rattle.rob_runs.specs.Cuts.{Cut, IsCut, cut_of_number, cuts_of}
use Rattle.rob_runs.specs.Readings.{by_form, run_items}
use Rattle.rob_runs.specs.Runs.{Round, IsRound, trace_cuts}
use Rattle.rob_runs.specs.Searches.{basic_cut_limit}
use Rattle.rob_runs.proofs.Rounds.CutLemmas.{each_numbered, vector_numbered}
use Rattle.rob_runs.proofs.Rounds.ProgressLemmas.{run_cuts, run_more, round_cut}
use Rattle.rob_runs.proofs.Rounds.FinishedRuns.{run_few}
use Rattle.rob_cuts.specs.Items.{item_of_cut}
use Rattle.rob_cuts.specs.Certificates.{items_told}
use Rattle.rob_cuts.specs.Runs.{round_limit}
use Rattle.rob_cuts.specs.Rounds.{round_told, cut_of, cuts_told, TellsRun, CutFits, RoundFits}

-- the cuts of what is told are those of the trace
pub cuts-told : (trace : List Round) → cuts_told (map round_told trace) ≡ trace_cuts trace
cuts-told [] = refl
cuts-told (r ∷ trace) = ap (λ (cs : List Cut). r.cut ∷ cs) (cuts-told trace)

pub cuts-more : (rounds : List Traced) (r : Traced) → cuts_told (rounds ++ r ∷ []) ≡ cuts_told rounds ++ cut_of r ∷ []
cuts-more rounds r = map-append cut_of rounds (r ∷ [])

pub length-cuts : (rounds : List Traced) → length (cuts_told rounds) ≡ length rounds
length-cuts [] = refl
length-cuts (r ∷ rounds) = ap suc (length-cuts rounds)

pub fits_alone : (limit n : ℕ) (r : Traced) → CutFits limit n (cut_of r) → RoundFits limit r
fits_alone limit n r h = record { base = h.base; vector = h.vector }

module _ (m : RobustModel) (rounds : List Traced) (t : TellsRun m rounds) where
  pub trace_is : cuts_told rounds ≡ trace_cuts t.trace
  trace_is = ap cuts_told t.told ∙ cuts-told t.trace

  pub are_cuts_told : Each (IsCut m) (cuts_told rounds)
  are_cuts_told = subst (λ (cs : List Cut). Each (IsCut m) cs) (sym trace_is) (run_cuts m t.trace t.run)

  -- a round more
  pub tells_more : (r : Round) (round : Traced) → IsRound m (cuts_told rounds) r → round ≡ round_told r
      → TellsRun m (rounds ++ round ∷ [])
  tells_more r round next e = record {
    trace = t.trace ++ r ∷ [];
    run = run_more m t.trace r t.run (subst (λ (cs : List Cut). IsRound m cs r) trace_is next);
    told = ap₂ (λ (xs : List Traced) (x : Traced). xs ++ x ∷ []) t.told e
        ∙ sym (map-append round_told t.trace (r ∷ []));
  }

  pub rounds_few : length rounds ≤ basic_cut_limit m
  rounds_few =
      let e : length rounds ≡ length (map round_told t.trace) = ap length t.told in
      let f : length (map round_told t.trace) ≡ length t.trace = same t.trace in
      let l : length t.trace ≤ basic_cut_limit m = run_few m t.trace t.run in
      omega arith
    where
      same : (xs : List Round) → length (map round_told xs) ≡ length xs
      same [] = refl
      same (x ∷ xs) = ap suc (same xs)

  -- the form of the next round's cut exists
  pub next_form : (r : Round) (round : Traced) → IsRound m (cuts_told rounds) r → round ≡ round_told r
      → round.form < length (matrices m)
  next_form r round next e = subst (λ (x : Traced). x.form < length (matrices m)) (sym e)
      (round_cut m (cuts_told rounds) r next).form_in

  -- the items are the run's
  pub items_are : (weight other : ℕ → Fraction) → ((q : ℕ) → q < length rounds → weight q ≡ other q)
      → items_told (length (matrices m)) rounds weight ≡ run_items m (cuts_told rounds) other
  items_are weight other h =
      ap (λ (items : List Item). by_form (length (matrices m)) (weighted_kept items))
      (ap (λ n. tabulate n (item_of_cut (cuts_told rounds) weight)) (sym (length-cuts rounds))
      ∙ tabulate-same (length (cuts_told rounds)) (item_of_cut (cuts_told rounds) weight)
      (cut_item m (cuts_of (cuts_told rounds)) other)
      (λ q l.
      let e : length (cuts_told rounds) ≡ length rounds = length-cuts rounds in
      ap₂ (λ (w : Fraction) (v : List Fraction).
      record {
        form = (cut_of_number (cuts_told rounds) q).form;
        weight = w;
        base = of_int (cut_of_number (cuts_told rounds) q).base;
        vector = v;
      })
      (h q (omega arith))
      (vector_numbered m (cuts_told rounds) q (each_numbered (IsCut m) (cuts_told rounds) are_cuts_told q l))))

-- ---- how many rounds there can be
pub limit_is : (m : RobustModel) (forms : Forms) (set : SetForm) → IsForms m forms → IsSetForm m set
    → round_limit forms set ≡ basic_cut_limit m
limit_is m forms set f st =
    let fs : length forms.matrices ≡ length (matrices m) = ap length f.matrices in
    let rows : length set.rows ≡ length (set_rows m) = ap length st.rows ∙ length-map (set_rows m) (cleared_row m) in
    ap₂ (λ (a b : ℕ). (a + suc ((b + b) + length set.rows)) ^ suc (suc (length set.rows))) fs st.columns
    ∙ ap (λ (r : ℕ). (length (matrices m) + suc ((set_column_count m + set_column_count m) + r)) ^ suc (suc r)) rows
