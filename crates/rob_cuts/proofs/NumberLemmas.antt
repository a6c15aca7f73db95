-- A cut's numbers, summed term by term, its row, pair by pair, and the costs.
use Rattle.std.proofs.Common.{◌≡◌, ℕ, zero, suc, ◌+◌, ◌<◌, ◌≤◌, ◌/◌, Bool, true, false, cond, List, [], ◌∷◌, ◌++◌, length, sym, ap, ap₂, ◌∙◌, subst, arith, add-one, append_assoc}
use Rattle.std.proofs.lemmas.List.Elements.{All-append}
use Rattle.std.specs.Prelude.{All, slice_index_or, nat_eq}
use lib.IntN.{ℤ, pos, nat_abs, neg_ℤ, ◌+ℤ◌, ◌*ℤ◌}
use Rattle.rob_algebra.specs.Width.{IsWideWhole}
use Rattle.rob_linear.specs.Vectors.{Vector, sum_to, at}
use Rattle.rob_meaning.specs.Places.{tabulate}
use Rattle.rob_meaning.specs.RobustModel.{Sense, minimise, maximise}
use Rattle.rob_model.specs.View.{sense_of}
use Rattle.rob_elab.specs.declared.forms.Forms.{Forms}
use Rattle.rob_rows.specs.LinearPrograms.{HasNumbersWithin}
use Rattle.rob_rows.specs.PrimitiveParts.{IsWithin}
use Rattle.rob_counterpart.specs.Counterpart.{sign_of}
use Rattle.rob_counterpart.specs.Splitting.{signed_entry}
use Rattle.rob_counterpart.proofs.Pairs.TabulateLemmas.{length-tabulate}
use Rattle.rob_dualize.proofs.CounterpartLists.{signed_small}
use Rattle.rob_dualize.proofs.TabulateLemmas.{item-tabulate}
use Rattle.rob_counterpart.proofs.Positions.ReformPlaces.{signed_even, signed_odd, half_even, half_odd}
use Rattle.rob_runs.specs.Cuts.{Cut}
use Rattle.rob_runs.specs.Spots.{HasWidePrefix}
use Rattle.rob_meaning.proofs.Lists.TabulateLemmas.{tabulate_next}
use Rattle.rob_dualize.specs.Wholes.{cost_of}
use Rattle.rob_dualize.proofs.SetProgramLemmas.{negated_within}
use Rattle.rob_cuts.specs.Master.{cut_number, cut_entry}
use Rattle.rob_cuts.specs.Rounds.{CutFits}
use Rattle.rob_dualize.proofs.Soundness.{at_small}

-- a term more
pub sum_more : (f : Vector) (k : ℕ) (sum a b next : ℤ) → sum ≡ sum_to k f → a *ℤ b ≡ f k → next ≡ sum +ℤ (a *ℤ b)
    → next ≡ sum_to (k + 1) f
sum_more f k sum a b next h e is = is ∙ ap₂ (λ x y. x +ℤ y) h e ∙ ap (λ n. sum_to n f) (sym (add-one k))

-- a prefix with it that is wide
pub prefix_wide : (limit n : ℕ) (f : Vector) (k : ℕ) (sum a b : ℤ) → k < n → sum ≡ sum_to k f → a *ℤ b ≡ f k
    → IsWideWhole limit (sum +ℤ (a *ℤ b))
    → HasWidePrefix limit n f
prefix_wide limit n f k sum a b l h e w = (suc k, omega arith, subst (IsWideWhole limit) (ap₂ (λ x y. x +ℤ y) h e) w)

-- a pair more
pub pair_more : (forms : Forms) (c : Cut) (j : ℕ) (row now : List ℤ) (number : ℤ)
    → row ≡ tabulate (j + j) (cut_entry forms c)
    → number ≡ cut_number forms c (j + 1) → now ≡ row ++ number ∷ (neg_ℤ number ∷ [])
    → now ≡ tabulate ((j + 1) + (j + 1)) (cut_entry forms c)
pair_more forms c j row now number h e is =
    let n : (j + 1) + (j + 1) ≡ ((j + j) + 1) + 1 = omega arith in
    let s : (j + j) + 1 ≡ suc (j + j) = omega arith in
    let t : j + 1 ≡ suc j = omega arith in
    let even : cut_entry forms c (j + j) ≡ number =
    signed_even j (cut_number forms c (suc ((j + j) / 2))) ∙ ap (λ v. cut_number forms c (suc v)) (half_even j)
    ∙ ap (cut_number forms c) (sym t) ∙ sym e in
    let odd : cut_entry forms c ((j + j) + 1) ≡ neg_ℤ number =
    ap (cut_entry forms c) s ∙ signed_odd j (cut_number forms c (suc (suc (j + j) / 2)))
    ∙ ap (λ v. neg_ℤ (cut_number forms c (suc v))) (half_odd j) ∙ ap (λ v. neg_ℤ (cut_number forms c v)) (sym t)
    ∙ ap neg_ℤ (sym e) in
    is
    ∙ ap₂ (λ (xs ys : List ℤ). xs ++ ys) h (ap₂ (λ (x y : ℤ). x ∷ (y ∷ [])) (sym even) (sym odd))
    ∙ sym (append_assoc (tabulate (j + j) (cut_entry forms c)) (cut_entry forms c (j + j) ∷ [])
    (cut_entry forms c ((j + j) + 1) ∷ []))
    ∙ ap (λ (xs : List ℤ). xs ++ cut_entry forms c ((j + j) + 1) ∷ []) (tabulate_next (cut_entry forms c) (j + j))
    ∙ tabulate_next (cut_entry forms c) ((j + j) + 1)
    ∙ ap (λ v. tabulate v (cut_entry forms c)) (sym n)

-- ---- sizes
-- what the form is taken with is within the limit
pub multiplier_small : (limit n : ℕ) (c : Cut) → CutFits limit n c → (k : ℕ)
    → nat_abs (at (c.base ∷ c.vector) k) ≤ limit
multiplier_small limit n c h = at_small limit (c.base ∷ c.vector) (h.base, h.vector)

-- a row and a pair more
pub within_pair : (limit : ℕ) (row now : List ℤ) (number : ℤ) → IsWithin limit row → nat_abs number ≤ limit
    → now ≡ row ++ number ∷ (neg_ℤ number ∷ [])
    → IsWithin limit now
within_pair limit row now number h small e =
    subst (IsWithin limit) (sym e) (All-append (λ (v : ℤ). nat_abs v ≤ limit) row (number ∷ (neg_ℤ number ∷ [])) h two)
  where
    two : (k : ℕ) (d : ℤ) → k < 2 → nat_abs (slice_index_or (number ∷ (neg_ℤ number ∷ [])) k d) ≤ limit
    two zero d l = small
    two (suc zero) d l = negated_within limit number small
    two (suc (suc k)) d l = absurd (omega arith)

-- ---- costs
sense_small : (s : Sense) → nat_abs (sign_of s) ≤ 1
sense_small minimise = omega arith
sense_small maximise = omega arith

cost_small : (limit : ℕ) → 1 ≤ limit → (forms : Forms) (k : ℕ) → nat_abs (cost_of forms k) ≤ limit
cost_small limit one forms k =
    by (nat_eq (k / 2) forms.columns)
    (signed_small limit k (sign_of (sense_of forms.sense)) (let h : nat_abs (sign_of (sense_of forms.sense)) ≤ 1 =
    sense_small (sense_of forms.sense) in omega arith))
  where
    by : (t : Bool) → nat_abs (signed_entry k (sign_of (sense_of forms.sense))) ≤ limit
        → nat_abs (cond t (signed_entry k (sign_of (sense_of forms.sense))) (pos 0)) ≤ limit
    by true h = h
    by false h = omega arith

-- the numbers of a master without cuts
pub costs_within : (limit : ℕ) → 1 ≤ limit → (forms : Forms) (n : ℕ) (a : List (List ℤ)) (b c : List ℤ) → a ≡ []
    → b ≡ [] → c ≡ tabulate n (cost_of forms)
    → HasNumbersWithin limit (record { a = a; b = b; c = c })
costs_within limit one forms n a b c ea eb ec = record {
  a = subst (λ (rows : List (List ℤ)). All (λ (row : List ℤ). IsWithin limit row) rows) (sym ea)
      (λ k d l. absurd (omega arith));
  b = subst (IsWithin limit) (sym eb) (λ k d l. absurd (omega arith));
  c = subst (IsWithin limit) (sym ec)
      (λ k d l. subst (λ (v : ℤ). nat_abs v ≤ limit)
      (sym (item-tabulate n (cost_of forms) k d (let e : length (tabulate n (cost_of forms)) ≡ n =
      length-tabulate n (cost_of forms) in omega arith)))
      (cost_small limit one forms k));
}
