-- The rows of statements, one statement after another.
use Rattle.std.specs.Prelude.{◌≡◌, ℕ, ◌+◌, ◌*◌, ◌≤◌, List, [], ◌∷◌, ◌++◌, length, map, drop}
use Rattle.std.proofs.Common.{sym, ◌∙◌, ap, ap₂, arith, append_assoc, add-one, append-nil, length-append}
use Rattle.std.proofs.lemmas.List.{length-map}
use Rattle.rob_meaning.specs.Expressions.{Expression}
use Rattle.rob_meaning.specs.Forms.{sides}
use Rattle.rob_meaning.specs.RobustModel.{Relation, at_most, at_least, equal, SetLine, line, budget, RobustModel}
use Rattle.rob_meaning.specs.SetRows as lifted
use Rattle.rob_meaning.specs.SetRows.{budget_row, expression_row, lift_count, member_rows, statement_rows}
use Rattle.rob_model.specs.declared.model.SetLine.{SetLine as SetLineData}
use Rattle.rob_sets.specs.FirstWide.{Judged}
use Rattle.rob_sets.specs.SetForm.{judged_rows, judged_sides, judged_statements}
use Rattle.rob_sets.specs.declared.set_form.SetRow.{SetRow}
use Rattle.rob_sets.proofs.Cells.PartedLemmas.{Parted}
use Rattle.rob_meaning.proofs.Conditions.SetRowLemmas.{length-member_rows}

module _ (m : RobustModel) where
  -- ---- one statement
  pub line_rows : (t : ℕ) (l : Expression) (rel : Relation) (r : Expression)
      → statement_rows m t (line l rel r ∷ []) ≡ map (expression_row m) (sides rel l r)
  line_rows t l rel r = append-nil (map (expression_row m) (sides rel l r))

  pub line_judged : (i t n : ℕ) (l : Expression) (rel : Relation) (r : Expression)
      → judged_statements m i t n (line l rel r ∷ []) ≡ judged_sides m i n (sides rel l r)
  line_judged i t n l rel r = append-nil (judged_sides m i n (sides rel l r))

  -- ---- a statement and those behind it
  pub rows-cons : (t : ℕ) (x : SetLine) (xs : List SetLine)
      → statement_rows m t (x ∷ xs) ≡ statement_rows m t (x ∷ []) ++ statement_rows m (t + lift_count (x ∷ [])) xs
  rows-cons t (line l rel r) xs =
      ap₂ (λ (a b : List lifted.SetRow). a ++ b) (sym (line_rows t l rel r))
      (ap (λ n. statement_rows m n xs) (let e : t ≡ t + 0 = omega arith in e))
  rows-cons t (budget limit hs) xs =
      sym (append_assoc (member_rows t hs) (budget_row t limit hs ∷ []) (statement_rows m (length hs + t) xs))
      ∙ ap (λ n. (member_rows t hs ++ budget_row t limit hs ∷ []) ++ statement_rows m n xs)
      (let e : length hs + t ≡ t + (length hs + 0) = omega arith in e)

  sides_many : (rel : Relation) (l r : Expression) → length (sides rel l r) ≤ 2
  sides_many at_most l r = omega arith
  sides_many at_least l r = omega arith
  sides_many equal l r = omega arith

  pub judged-cons : (i t n : ℕ) (x : SetLine) (xs : List SetLine) → judged_statements m i t n (x ∷ xs)
      ≡ judged_statements m i t n (x ∷ [])
      ++ judged_statements m (i + 1) (t + lift_count (x ∷ [])) (n + length (statement_rows m t (x ∷ []))) xs
  judged-cons i t n (line l rel r) xs =
      ap₂ (λ (a b : List Judged). a ++ b) (sym (line_judged i t n l rel r))
      (ap₂ (λ j k. judged_statements m j k (length (sides rel l r) + n) xs) (sym (add-one i))
      (let e : t ≡ t + 0 = omega arith in e)
      ∙ ap (λ k. judged_statements m (i + 1) (t + 0) k xs)
      (let e : length (sides rel l r) + n ≡ n + length (statement_rows m t (line l rel r ∷ [])) =
      omega (arith, ap length (line_rows t l rel r), length-map (sides rel l r) (expression_row m)) in e))
  judged-cons i t n (budget limit hs) xs =
      ap₂ (λ (a b : List Judged). a ++ b)
      (sym (append-nil (judged_rows m n (member_rows t hs ++ budget_row t limit hs ∷ []))))
      (ap₂ (λ j k. judged_statements m j k (length (member_rows t hs ++ budget_row t limit hs ∷ []) + n) xs)
      (sym (add-one i))
      (let e : length hs + t ≡ t + (length hs + 0) = omega arith in e)
      ∙ ap (λ k. judged_statements m (i + 1) (t + (length hs + 0)) k xs)
      (let e : length (member_rows t hs ++ budget_row t limit hs ∷ []) + n
      ≡ n + length (member_rows t hs ++ budget_row t limit hs ∷ []) = omega arith in e))

  pub lifts-cons : (x : SetLine) (xs : List SetLine) → lift_count (x ∷ xs) ≡ lift_count (x ∷ []) + lift_count xs
  lifts-cons (line l rel r) xs = omega arith
  lifts-cons (budget limit hs) xs = omega arith

  pub statements_many : (t : ℕ) (xs : List SetLine) → length (statement_rows m t xs) ≤ 2 * length xs + 2 * lift_count xs
  statements_many t [] = omega arith
  statements_many t (line l rel r ∷ xs) =
      omega (
        arith,
        length-append (map (expression_row m) (sides rel l r)) (statement_rows m t xs),
        length-map (sides rel l r) (expression_row m),
        sides_many rel l r,
        statements_many t xs,
      )
  statements_many t (budget limit hs ∷ xs) =
      omega (
        arith,
        length-append (member_rows t hs) (budget_row t limit hs ∷ statement_rows m (length hs + t) xs),
        length-member_rows t hs,
        statements_many (length hs + t) xs,
      )

-- ---- those that are left
module _ (m : RobustModel) {N : Type 0} (f : SetLineData N → SetLine) (xs : List (SetLineData N))
    (i t k : ℕ) {x : SetLineData N}
    (at : drop i xs ≡ x ∷ drop (i + 1) xs) (more : k ≡ t + lift_count (f x ∷ [])) where
  pub statements_at : statement_rows m t (map f (drop i xs))
      ≡ statement_rows m t (f x ∷ []) ++ statement_rows m k (map f (drop (i + 1) xs))
  statements_at =
      ap (λ (ys : List (SetLineData N)). statement_rows m t (map f ys)) at
      ∙ rows-cons m t (f x) (map f (drop (i + 1) xs))
      ∙ ap (λ n. statement_rows m t (f x ∷ []) ++ statement_rows m n (map f (drop (i + 1) xs))) (sym more)

  pub judged_at : (n r s : ℕ) → s ≡ r + length (statement_rows m t (f x ∷ []))
      → Parted (judged_statements m n t r (map f (drop i xs)))
      (judged_statements m n t r (f x ∷ [])) (judged_statements m (n + 1) k s (map f (drop (i + 1) xs)))
  judged_at n r s rows = record {
    is = ap (λ (ys : List (SetLineData N)). judged_statements m n t r (map f ys)) at
        ∙ judged-cons m n t r (f x) (map f (drop (i + 1) xs))
        ∙ ap₂ (λ a b. judged_statements m n t r (f x ∷ []) ++ judged_statements m (n + 1) a b (map f (drop (i + 1) xs)))
        (sym more) (sym rows);
  }

  pub lifts_at : lift_count (map f (drop i xs)) ≡ lift_count (f x ∷ []) + lift_count (map f (drop (i + 1) xs))
  lifts_at = ap (λ (ys : List (SetLineData N)). lift_count (map f ys)) at ∙ lifts-cons m (f x) (map f (drop (i + 1) xs))
