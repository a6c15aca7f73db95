-- Covers and items, one after another.
use Rattle.std.proofs.Common.{◌≡◌, ℕ, zero, suc, ◌+◌, ◌<◌, List, [], ◌∷◌, ◌++◌, map, length, sym, ap, ap₂, ◌∙◌, arith, add-one, append_assoc, get_or}
use Rattle.rob_algebra.specs.Fraction.{Fraction, of_int}
use Rattle.rob_meaning.specs.Certificates.{Cover, Item}
use Rattle.rob_meaning.specs.Places.{tabulate}
use Rattle.rob_cert.specs.declared.trace.Round.{Round as Traced}
use Rattle.rob_counterpart.specs.MasterItems.{weighted_kept}
use Rattle.rob_counterpart.specs.ReadNumbers.{covers_kept}
use Rattle.rob_counterpart.proofs.Pairs.TabulateLemmas.{tabulate-same}
use Rattle.rob_runs.specs.Cuts.{Cut, cut_of_number}
use Rattle.rob_runs.specs.Readings.{of_form, by_form}
use Rattle.rob_runs.proofs.Proving.StepLemmas.{of_form-append, weighted_kept-more}
use Rattle.rob_meaning.proofs.Lists.TabulateLemmas.{tabulate_next}
use Rattle.rob_cuts.specs.Items.{item_of_cut, weighted_cuts, item_told}
use Rattle.rob_cuts.specs.Certificates.{items_told}
use Rattle.rob_cuts.specs.Rounds.{cut_of, cuts_told}
use Rattle.rob_counterpart.proofs.Proving.KeptLemmas.{covers_kept-append}

-- ---- covers
-- a set row more
pub covers_more : (before all now : List Cover) (g : ℕ → Cover) (r : ℕ) (x : Cover)
    → all ≡ before ++ covers_kept (tabulate r g)
    → now ≡ all ++ covers_kept (x ∷ []) → x ≡ g r → now ≡ before ++ covers_kept (tabulate (r + 1) g)
covers_more before all now g r x h e is =
    e
    ∙ ap₂ (λ (xs : List Cover) (y : Cover). xs ++ covers_kept (y ∷ [])) h is
    ∙ append_assoc before (covers_kept (tabulate r g)) (covers_kept (g r ∷ []))
    ∙ ap (λ (ys : List Cover). before ++ ys)
    (sym (covers_kept-append (tabulate r g) (g r ∷ [])) ∙ ap covers_kept (tabulate_next g r))

-- ---- items
-- the cut of the round at a place
pub numbered_told : (rounds : List Traced) (q : ℕ) (r : Traced) → q < length rounds → r ≡ get_or rounds q r
    → cut_of_number (cuts_told rounds) q ≡ cut_of r
numbered_told [] q r l e = absurd (omega arith)
numbered_told (x ∷ rounds) zero r l e = ap cut_of (sym e)
numbered_told (x ∷ rounds) (suc q) r l e = numbered_told rounds q r (omega arith) e

-- a round more
pub items_more : (form : ℕ) (cuts : List Cut) (weight : ℕ → Fraction) (before all now : List Item) (q : ℕ) (x : Item)
    → all ≡ before ++ of_form form (weighted_cuts cuts weight q) → now ≡ all ++ of_form form (weighted_kept (x ∷ []))
    → x ≡ item_of_cut cuts weight q
    → now ≡ before ++ of_form form (weighted_cuts cuts weight (q + 1))
items_more form cuts weight before all now q x h e is =
    e
    ∙ ap₂ (λ (xs : List Item) (y : Item). xs ++ of_form form (weighted_kept (y ∷ []))) h is
    ∙ append_assoc before (of_form form (weighted_cuts cuts weight q))
    (of_form form (weighted_kept (item_of_cut cuts weight q ∷ [])))
    ∙ ap (λ (ys : List Item). before ++ ys)
    (sym (of_form-append form (weighted_cuts cuts weight q) (weighted_kept (item_of_cut cuts weight q ∷ [])))
    ∙ ap (of_form form) (sym (weighted_kept-more q (item_of_cut cuts weight)))
    ∙ ap (λ n. of_form form (weighted_cuts cuts weight n)) (sym (add-one q)))

-- the item of the round at a place
pub item_at : (rounds : List Traced) (weight : ℕ → Fraction) (q : ℕ) (r : Traced) (w : Fraction) → q < length rounds
    → r ≡ get_or rounds q r → weight q ≡ w
    → item_told r w ≡ item_of_cut (cuts_told rounds) weight q
item_at rounds weight q r w l e ew =
    ap (λ (v : Fraction). item_told r v) (sym ew)
    ∙ ap (λ (c : Cut). record {
      form = c.form;
      weight = weight q;
      base = of_int c.base;
      vector = map of_int c.vector;
    }) (sym (numbered_told rounds q r l e))

-- only the weights of the rounds count
pub items_told-same : (forms : ℕ) (rounds : List Traced) (weight other : ℕ → Fraction)
    → ((q : ℕ) → q < length rounds → weight q ≡ other q)
    → by_form forms (weighted_cuts (cuts_told rounds) weight (length rounds)) ≡ items_told forms rounds other
items_told-same forms rounds weight other h =
    ap (λ (items : List Item). by_form forms (weighted_kept items))
    (tabulate-same (length rounds) (item_of_cut (cuts_told rounds) weight) (item_of_cut (cuts_told rounds) other)
    (λ q l. ap (λ (w : Fraction). record {
      form = (cut_of_number (cuts_told rounds) q).form;
      weight = w;
      base = of_int (cut_of_number (cuts_told rounds) q).base;
      vector = map of_int (cut_of_number (cuts_told rounds) q).vector;
    }) (h q l)))
