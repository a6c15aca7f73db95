-- The statements with another limit in one budget, one statement after another; and the model that has them.
use Rattle.std.proofs.Common.{◌≡◌, ℕ, ◌+◌, ◌*◌, ◌-◌, ◌<◌, ◌≤◌, zero, suc, List, [], ◌∷◌, ◌++◌, map, length, get_or, drop, refl, ap, ap₂, sym, subst, ◌∙◌, arith, append_assoc, Bool, false}
use Rattle.std.proofs.lemmas.List.{map-append}
use Rattle.std.specs.Bool.{Decides}
use Rattle.rob_algebra.specs.Fraction.{Fraction}
use Rattle.rob_meaning.proofs.Naming.NameLemmas.{length-set_row_names}
use Rattle.rob_meaning.specs.Forms.{forms}
use Rattle.rob_meaning.specs.Named.{IsNamed}
use Rattle.rob_meaning.specs.RobustModel.{SetLine, line, budget, RobustModel}
use Rattle.rob_meaning.specs.SetRows.{lift_count, set_rows}
use Rattle.rob_meaning.specs.WellFormed.{IsModel}
use Rattle.rob_model.proofs.PartLemmas.{drop_at}
use Rattle.rob_model.specs.Limits.{IsWithinLimits, most_members, most_set_lines, most_size, model_size}
use Rattle.rob_model.specs.Valid.{IsValid}
use Rattle.rob_model.specs.View.{robust, set_line_of}
use Rattle.rob_model.specs.declared.model.Model.{Model}
use Rattle.rob_model.specs.declared.model.SetLine.{SetLine as TheLine}
use Rattle.rob_reach.proofs.NameLemmas.{set_row_names-with_budget}
use Rattle.rob_reach.proofs.SweepLemmas.{length-limit_at, with_budget_model, with_budget_named}
use Rattle.rob_reach.specs.Sweeps.{IsBudgetAt, IsBudgetLine, limit_at, limited, with_budget}
use Rattle.rob_sweep.specs.View.{limit_for, with_limit}

-- ---- whether statement n is a budget
module _ {X : Type 0} (view : X → SetLine) where
  pub budget_here : (lines : List X) (n k : ℕ) (c : X) (b : Bool) → n ≡ suc k → k < length lines → c ≡ get_or lines k c
      → Decides b (IsBudgetLine (view c)) → Decides b (IsBudgetAt (map view lines) n)
  budget_here lines n k c b same h e d =
      subst (λ i. Decides b (IsBudgetAt (map view lines) i)) (sym same) (at lines k h e)
    where
      at : (lines : List X) (k : ℕ) → k < length lines → c ≡ get_or lines k c
          → Decides b (IsBudgetAt (map view lines) (suc k))
      at [] k h e = absurd (omega arith)
      at (x ∷ xs) zero h e = subst (λ y. Decides b (IsBudgetLine (view y))) e d
      at (x ∷ xs) (suc k) h e = let i : k < length xs = omega arith in at xs k i e

  pub budget_past : (lines : List X) (n k : ℕ) → n ≡ suc k → length lines ≤ k
      → Decides false (IsBudgetAt (map view lines) n)
  budget_past lines n k same h =
      subst (λ i. Decides false (IsBudgetAt (map view lines) i)) (sym same) (λ e. cc, λ p. absurd (past lines k h p))
    where
      past : (lines : List X) (k : ℕ) → length lines ≤ k → IsBudgetAt (map view lines) (suc k) → ⊥
      past [] k h p = p
      past (x ∷ xs) zero h p = absurd (omega arith)
      past (x ∷ xs) (suc k) h p = let i : length xs ≤ k = omega arith in past xs k i p

  -- no statement has number 0
  pub budget_none : (lines : List X) (n : ℕ) → n ≡ 0 → Decides false (IsBudgetAt (map view lines) n)
  budget_none lines n same =
      subst (λ i. Decides false (IsBudgetAt (map view lines) i)) (sym same) (λ e. cc, λ p. absurd (none lines p))
    where
      none : (lines : List X) → IsBudgetAt (map view lines) 0 → ⊥
      none [] p = p
      none (x ∷ xs) p = p

-- ---- one statement more
limit_none : (g : Fraction) (cs : List SetLine) → limit_at zero g cs ≡ cs
limit_none g [] = refl
limit_none g (c ∷ cs) = refl

limit_next : (k l : ℕ) (g : Fraction) (c : SetLine) (cs : List SetLine) → l ≡ k - 1
    → limit_at k g (c ∷ cs) ≡ with_limit (limit_for k g) c ∷ limit_at l g cs
limit_next zero l g c cs e =
    let z : l ≡ 0 = omega (arith, e) in
    ap (λ (xs : List SetLine). c ∷ xs) (sym (ap (λ n. limit_at n g cs) z ∙ limit_none g cs))
limit_next (suc zero) l g c cs e =
    let z : l ≡ 0 = omega (arith, e) in
    ap (λ (xs : List SetLine). limited g c ∷ xs) (sym (ap (λ n. limit_at n g cs) z ∙ limit_none g cs))
limit_next (suc (suc k)) l g c cs e =
    let z : l ≡ suc k = omega (arith, e) in
    ap (λ (xs : List SetLine). c ∷ xs) (sym (ap (λ n. limit_at n g cs) z))

module _ {X : Type 0} (view : X → SetLine) (lines : List X) (g : Fraction) (all : List SetLine) where
  pub limited_more : (i k l : ℕ) (c copy : X) (done next : List X) → i < length lines → c ≡ get_or lines i c
      → view copy ≡ with_limit (limit_for k g) (view c) → l ≡ k - 1 → next ≡ done ++ copy ∷ []
      → map view done ++ limit_at k g (map view (drop i lines)) ≡ all
      → map view next ++ limit_at l g (map view (drop (i + 1) lines)) ≡ all
  limited_more i k l c copy done next h e copied less pushed so_far =
      ap (λ (xs : List X). map view xs ++ limit_at l g (map view (drop (i + 1) lines))) pushed
      ∙ ap (λ (xs : List SetLine). xs ++ limit_at l g (map view (drop (i + 1) lines)))
      (map-append view done (copy ∷ []))
      ∙ append_assoc (map view done) (view copy ∷ []) (limit_at l g (map view (drop (i + 1) lines)))
      ∙ ap (λ (x : SetLine). map view done ++ x ∷ limit_at l g (map view (drop (i + 1) lines))) copied
      ∙ ap (λ (xs : List SetLine). map view done ++ xs)
      (sym (limit_next k l g (view c) (map view (drop (i + 1) lines)) less))
      ∙ ap (λ (xs : List X). map view done ++ limit_at k g (map view xs)) (sym (drop_at lines i c h e))
      ∙ so_far

-- ---- the model with another limit
lift_count-limit_at : (n : ℕ) (g : Fraction) (cs : List SetLine) → lift_count (limit_at n g cs) ≡ lift_count cs
lift_count-limit_at n g [] = refl
lift_count-limit_at zero g (c ∷ cs) = refl
lift_count-limit_at (suc zero) g (line left relation right ∷ cs) = refl
lift_count-limit_at (suc zero) g (budget limit members ∷ cs) = refl
lift_count-limit_at (suc (suc n)) g (line left relation right ∷ cs) = lift_count-limit_at (suc n) g cs
lift_count-limit_at (suc (suc n)) g (budget limit members ∷ cs) =
    ap (λ k. length members + k) (lift_count-limit_at (suc n) g cs)

module _ (m : RobustModel) (n : ℕ) (g : Fraction) where
  length-set_rows : length (set_rows (with_budget m n g)) ≡ length (set_rows m)
  length-set_rows =
      sym (length-set_row_names (with_budget m n g)) ∙ ap length (set_row_names-with_budget m n g)
      ∙ length-set_row_names m

  pub within_limits : IsWithinLimits m → IsWithinLimits (with_budget m n g)
  within_limits w = record {
    parameters = w.parameters;
    sets = w.sets;
    columns = w.columns;
    rows = w.rows;
    set_lines = subst (λ k. k ≤ most_set_lines) (sym (length-limit_at n g m.set_lines)) w.set_lines;
    members = subst (λ k. k ≤ most_members) (sym (lift_count-limit_at n g m.set_lines)) w.members;
    size = subst (λ k. k ≤ most_size) (sym size) w.size;
  }
    where
      size : model_size (with_budget m n g) ≡ model_size m
      size =
          ap₂ (λ r t. length (forms m) * (r + 2 * (length m.parameters + t) + 1)) length-set_rows
          (lift_count-limit_at n g m.set_lines)

module _ {N : Type 0} (value : N → Fraction) (m copy : Model N) (lines : List (TheLine N)) (n : ℕ)
    (g : Fraction) (equal : copy ≡ m)
    (changed : map (set_line_of value) lines ≡ limit_at n g (map (set_line_of value) m.set_lines)) where
  pub same : robust value (record copy { set_lines = lines }) ≡ with_budget (robust value m) n g
  same =
      ap (λ (k : Model N). record (robust value k) { set_lines = map (set_line_of value) lines }) equal
      ∙ ap (λ (cs : List SetLine). record (robust value m) { set_lines = cs }) changed

  pub valid_with : IsValid value m → IsValid value (record copy { set_lines = lines })
  valid_with valid = record {
    well_formed = subst IsModel (sym same) (with_budget_model (robust value m) n g valid.well_formed);
    limits = subst IsWithinLimits (sym same) (within_limits (robust value m) n g valid.limits);
  }

  pub named_with : IsNamed (robust value m) → IsNamed (robust value (record copy { set_lines = lines }))
  named_with named = subst IsNamed (sym same) (with_budget_named (robust value m) n g named)
