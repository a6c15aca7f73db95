-- A list of covers without those whose amount is 0 gives the same amounts.
use Rattle.std.proofs.Common.{◌≡◌, ℕ, zero, suc, ◌<◌, List, [], ◌∷◌, ◌++◌, length, refl, sym, ap, ◌∙◌, arith, Bool, true, false, ◌⊎◌, inl, inr}
use Rattle.std.proofs.lemmas.Bool.Decides.{nat_tests}
use Rattle.std.specs.Prelude.{◌&&◌, if◌then◌else◌, nat_eq}
use Rattle.rob_algebra.specs.Fraction.{Fraction}
use Rattle.rob_algebra.specs.FractionOrder.{eq_ℚ, eq_ℚ-decides}
use Rattle.rob_meaning.specs.Places.{0ℚ, Each, tabulate}
use Rattle.rob_meaning.specs.RobustModel.{RobustModel}
use Rattle.rob_meaning.specs.Forms.{matrices}
use Rattle.rob_meaning.specs.SetRows.{set_rows}
use Rattle.rob_meaning.specs.Certificates.{Cover}
use Rattle.rob_meaning.specs.Proves.{amount_at}
use Rattle.rob_counterpart.specs.Counterpart.{robust_of}
use Rattle.rob_counterpart.specs.ReadCertificates.{covers_of, amount_read, HasAmounts}
use Rattle.rob_counterpart.specs.ReadNumbers.{covers_kept, covers_at, concat}
use Rattle.rob_meaning.proofs.Lists.TabulateLemmas.{each_tabulate}
use Rattle.rob_counterpart.proofs.Proving.KeptOrder.{each_concat}

-- what is kept of two lists
pub covers_kept-append : (xs ys : List Cover) → covers_kept (xs ++ ys) ≡ covers_kept xs ++ covers_kept ys
covers_kept-append [] ys = refl
covers_kept-append (x ∷ xs) ys = by (eq_ℚ x.amount 0ℚ) (covers_kept-append xs ys)
  where
    by : (v : Bool) → covers_kept (xs ++ ys) ≡ covers_kept xs ++ covers_kept ys
        → (if v then covers_kept (xs ++ ys) else x ∷ covers_kept (xs ++ ys))
        ≡ (if v then covers_kept xs else x ∷ covers_kept xs) ++ covers_kept ys
    by true e = e
    by false e = ap (λ (zs : List Cover). x ∷ zs) e

-- a cover of form i and set row r
abbrev pub matches : ℕ → ℕ → Cover → Bool
matches i r c = nat_eq c.form i && nat_eq c.set_row r

pub matches_own : (i r : ℕ) → (nat_eq i i && nat_eq r r) ≡ true
matches_own i r = grind (arith, nat_tests)

pub matched : (a b i r : ℕ) → (nat_eq a i && nat_eq b r) ≡ true → (a ≡ i) × (b ≡ r)
matched a b i r e = (grind (arith, nat_tests), grind (arith, nat_tests))

-- some cover of the list is of this form and set row
abbrev pub SomeMatch : ℕ → ℕ → List Cover → Type 0
SomeMatch i r [] = ⊥
SomeMatch i r (c ∷ cs) = (matches i r c ≡ true) ⊎ SomeMatch i r cs

module _ (i r : ℕ) where
  -- where each such cover has amount 0
  none_kept : (cs : List Cover) → Each (λ c. matches i r c ≡ true → c.amount ≡ 0ℚ) cs
      → amount_at (covers_kept cs) i r ≡ 0ℚ
  none_kept [] h = refl
  none_kept (c ∷ cs) h = by (eq_ℚ c.amount 0ℚ) (matches i r c) h.0 (none_kept cs h.1)
    where
      at_head : (w : Bool) → (w ≡ true → c.amount ≡ 0ℚ) → amount_at (covers_kept cs) i r ≡ 0ℚ
          → (if w then c.amount else amount_at (covers_kept cs) i r) ≡ 0ℚ
      at_head true h ih = h refl
      at_head false h ih = ih

      by : (v w : Bool) → (matches i r c ≡ true → c.amount ≡ 0ℚ) → amount_at (covers_kept cs) i r ≡ 0ℚ
          → amount_at (if v then covers_kept cs else c ∷ covers_kept cs) i r ≡ 0ℚ
      by true w h ih = ih
      by false w h ih = at_head (matches i r c) h ih

  -- where each such cover has one amount, and there is one
  pub some_kept : (amount : Fraction) (cs : List Cover) → Each (λ c. matches i r c ≡ true → c.amount ≡ amount) cs
      → SomeMatch i r cs → amount_at (covers_kept cs) i r ≡ amount
  some_kept amount [] h s = absurd s
  some_kept amount (c ∷ cs) h s =
      by (eq_ℚ c.amount 0ℚ) (eq_ℚ-decides c.amount 0ℚ).0 (matches i r c) refl h.0 s
      (λ e. none_kept cs (each_to cs h.1 e)) (some_kept amount cs h.1)
    where
      each_to : (cs : List Cover) → Each (λ c. matches i r c ≡ true → c.amount ≡ amount) cs → amount ≡ 0ℚ
          → Each (λ c. matches i r c ≡ true → c.amount ≡ 0ℚ) cs
      each_to [] h e = tt
      each_to (c ∷ cs) h e = ((λ f. h.0 f ∙ e), each_to cs h.1 e)

      head_only : (w : Bool) → w ≡ true → c.amount ≡ amount
          → (if w then c.amount else amount_at (covers_kept cs) i r) ≡ amount
      head_only true e h = h
      head_only false e h = cc

      rest_only : (w : Bool) → w ≡ false → amount_at (covers_kept cs) i r ≡ amount
          → (if w then c.amount else amount_at (covers_kept cs) i r) ≡ amount
      rest_only true e h = cc
      rest_only false e h = h

      later : matches i r c ≡ false → (matches i r c ≡ true) ⊎ SomeMatch i r cs → SomeMatch i r cs
      later e (inl f) = cc
      later e (inr f) = f

      by : (v : Bool) → (v ≡ true → c.amount ≡ 0ℚ) → (w : Bool) → matches i r c ≡ w
          → (matches i r c ≡ true → c.amount ≡ amount)
          → (matches i r c ≡ true) ⊎ SomeMatch i r cs
          → (amount ≡ 0ℚ → amount_at (covers_kept cs) i r ≡ 0ℚ)
          → (SomeMatch i r cs → amount_at (covers_kept cs) i r ≡ amount)
          → amount_at (if v then covers_kept cs else c ∷ covers_kept cs) i r ≡ amount
      by true z true e h s none some = none (sym (h e) ∙ z refl) ∙ sym (sym (h e) ∙ z refl)
      by true z false e h s none some = some (later e s)
      by false z true e h s none some = head_only (matches i r c) e (h e)
      by false z false e h s none some = rest_only (matches i r c) e (some (later e s))

  -- ---- lists by place
  some_left : (xs ys : List Cover) → SomeMatch i r xs → SomeMatch i r (xs ++ ys)
  some_left [] ys s = absurd s
  some_left (x ∷ xs) ys (inl e) = inl e
  some_left (x ∷ xs) ys (inr s) = inr (some_left xs ys s)

  some_right : (xs ys : List Cover) → SomeMatch i r ys → SomeMatch i r (xs ++ ys)
  some_right [] ys s = s
  some_right (x ∷ xs) ys s = inr (some_right xs ys s)

  pub some_tabulate : (n : ℕ) (f : ℕ → Cover) (k : ℕ) → k < n → matches i r (f k) ≡ true → SomeMatch i r (tabulate n f)
  some_tabulate zero f k l e = absurd (omega arith)
  some_tabulate (suc n) f zero l e = inl e
  some_tabulate (suc n) f (suc k) l e = inr (some_tabulate n (λ j. f (suc j)) k (omega arith) e)

  pub some_concat : (n : ℕ) (f : ℕ → List Cover) (k : ℕ) → k < n → SomeMatch i r (f k)
      → SomeMatch i r (concat (tabulate n f))
  some_concat zero f k l s = absurd (omega arith)
  some_concat (suc n) f zero l s = some_left (f zero) (concat (tabulate n (λ j. f (suc j)))) s
  some_concat (suc n) f (suc k) l s =
      some_right (f zero) (concat (tabulate n (λ j. f (suc j)))) (some_concat n (λ j. f (suc j)) k (omega arith) s)

-- the covers that are read have the multipliers as their amounts
pub covers_have_amounts : (m : RobustModel) (x : ℕ → Fraction) → HasAmounts m x (covers_of m x)
covers_have_amounts m x i r il rl =
    some_kept i r (amount_read m x i r) (concat (tabulate (length (matrices m)) (covers_at (robust_of m) x)))
    (each_concat (λ (c : Cover). matches i r c ≡ true → c.amount ≡ amount_read m x i r) (length (matrices m))
    (covers_at (robust_of m) x)
    (λ h hl. each_tabulate (λ (c : Cover). matches i r c ≡ true → c.amount ≡ amount_read m x i r) (length (set_rows m))
    (λ q. record { form = h; set_row = q; amount = amount_read m x h q })
    (λ q ql e. ap (λ v. amount_read m x v q) (matched h q i r e).0 ∙ ap (amount_read m x i) (matched h q i r e).1)))
    (some_concat i r (length (matrices m)) (covers_at (robust_of m) x) i il
    (some_tabulate i r (length (set_rows m)) (λ q. record { form = i; set_row = q; amount = amount_read m x i q })
    r rl (matches_own i r)))
