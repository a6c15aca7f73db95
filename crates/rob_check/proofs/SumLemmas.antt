-- One part of a sum more, and what it counts.
use Rattle.std.proofs.Common.{◌≡◌, ℕ, zero, suc, ◌-◌, ◌<◌, ◌≤◌, ℤ, pos, nat_abs, List, [], ◌∷◌, length, map, get_or, drop, arith, refl, sym, ◌∙◌, ap, ap₂, subst, ◌^◌, ◌+◌, to_z, of_z, w64, SFits, to_z-of_z}
use Rattle.std.specs.Prelude.{Option, Some, None, Result, Ok, Err}
use Rattle.rob_number.proofs.CastLemmas.{seen_within}
use Rattle.rob_number.proofs.CountLemmas.{rise_later, rose_later}
use Rattle.rob_number.specs.Counts.{CountsTold, NeverFell}
use Rattle.rob_algebra.proofs.WidthLaws.{kept-fits, kept-of_int}
use Rattle.rob_algebra.specs.Fraction.{Fraction, of_int, ◌+ℚ◌, ◌*ℚ◌}
use Rattle.rob_algebra.specs.FractionLaws as Q
use Rattle.rob_algebra.specs.Polynomials.{lit, ◌:+◌, ◌:*◌, v0}
use Rattle.rob_algebra.specs.Width.{Fits, kept}
use Rattle.rob_meaning.specs.Places.{0ℚ, at, Each}
use Rattle.rob_model.proofs.PartLemmas.{drop_at, drop_all}
use Rattle.rob_model.specs.Within.{◌>>=◌}
use Rattle.rob_meaning.specs.Clearing.{fractions}
use Rattle.rob_check.specs.Verdicts.{Counted, is_wide}
use Rattle.rob_check.specs.declared.verdict.Verdict.{Verdict}
use Rattle.rob_check.specs.Sums.{with_part, added_within, dot_within, products, column as column_of}

-- ---- a product with an entry
module _ (limit : ℕ) (so_far number : Fraction) where
  pub nothing_added : (entry : ℤ) → entry ≡ pos 0 → 1 ≤ limit → Fits limit so_far
      → Some so_far ≡ with_part limit so_far (kept limit (number *ℚ of_int entry))
  nothing_added entry none one fits =
      sym (kept-fits limit so_far fits)
      ∙ ap (kept limit) (Q.ring (so_far ∷ []) v0 (v0 :+ lit (pos 0)) refl)
      ∙ ap (λ o. with_part limit so_far o)
      (sym (kept-of_int limit (pos 0) one (omega arith))
      ∙ ap (kept limit) (Q.ring (number ∷ []) (lit (pos 0)) (v0 :* lit (pos 0)) refl
      ∙ ap (λ z. number *ℚ of_int z) (sym none)))

  module _ (whole : Fraction) (entry : ℤ) (is : whole ≡ of_int entry) where
    pub product_wide : None ≡ kept limit (number *ℚ whole)
        → None ≡ with_part limit so_far (kept limit (number *ℚ of_int entry))
    product_wide none = ap (λ o. with_part limit so_far o) (none ∙ ap (λ w. kept limit (number *ℚ w)) is)

    pub product_added : (product : Fraction) (r : Option Fraction) → Some product ≡ kept limit (number *ℚ whole)
        → r ≡ kept limit (so_far +ℚ product) → r ≡ with_part limit so_far (kept limit (number *ℚ of_int entry))
    product_added product r some h =
        h ∙ ap (λ o. with_part limit so_far o) (some ∙ ap (λ w. kept limit (number *ℚ w)) is)

-- ---- the parts of a sum
module _ (limit : ℕ) (so_far : Fraction) (part : Option Fraction) (parts : List (Option Fraction)) where
  pub part_wide : None ≡ with_part limit so_far part → None ≡ added_within limit so_far (part ∷ parts)
  part_wide none = ap (λ o. o >>= (λ next. added_within limit next parts)) none

  pub part_added : (next : Fraction) → Some next ≡ with_part limit so_far part
      → added_within limit next parts ≡ added_within limit so_far (part ∷ parts)
  part_added next some = ap (λ o. o >>= (λ next. added_within limit next parts)) some

-- ---- entries
pub zero_bits : (entry : ℤ) → SFits w64 entry → of_z w64 entry ≡ 0 → entry ≡ pos 0
zero_bits entry fits h = sym (to_z-of_z fits) ∙ ap (to_z w64) h

pub entry_is : (row : List ℤ) (j : ℕ) → of_int (get_or row j (pos 0)) ≡ at (map of_int row) j
entry_is [] zero = refl
entry_is [] (suc j) = refl
entry_is (x ∷ row) zero = refl
entry_is (x ∷ row) (suc j) = entry_is row j

entry_none : (row : List ℤ) (j : ℕ) → length row ≤ j → at (map of_int row) j ≡ 0ℚ
entry_none [] j h = refl
entry_none (x ∷ row) zero h = absurd (omega arith)
entry_none (x ∷ row) (suc j) h = entry_none row j (omega arith)

pub entry_fits : (limit : ℕ) (row : List ℤ) (j : ℕ) → j < length row → Each (λ a. nat_abs a ≤ limit) row
    → nat_abs (get_or row j (pos 0)) ≤ limit
entry_fits limit [] j h fit = absurd (omega arith)
entry_fits limit (x ∷ row) zero h fit = fit.0
entry_fits limit (x ∷ row) (suc j) h fit = entry_fits limit row j (omega arith) fit.1

module _ (limit : ℕ) (so_far number : Fraction) (row : List ℤ) (j : ℕ) where
  pub entry_added : (entry : ℤ) (r : Option Fraction) → j < length row → entry ≡ get_or row j (pos 0)
      → limit ≤ 2 ^ 62 - 1 → Each (λ a. nat_abs a ≤ limit) row
      → r ≡ with_part limit so_far (kept limit (number *ℚ of_int (to_z w64 (of_z w64 entry))))
      → r ≡ with_part limit so_far (kept limit (number *ℚ at (map of_int row) j))
  entry_added entry r inside is high fit h =
      h ∙ ap (λ x. with_part limit so_far (kept limit (number *ℚ x)))
      (ap of_int
      (seen_within limit entry high (subst (λ a. nat_abs a ≤ limit) (sym is) (entry_fits limit row j inside fit)) ∙ is)
      ∙ entry_is row j)

  pub none_added : length row ≤ j → 1 ≤ limit → Fits limit so_far
      → Some so_far ≡ with_part limit so_far (kept limit (number *ℚ at (map of_int row) j))
  none_added past one fits =
      nothing_added limit so_far number (pos 0) refl one fits
      ∙ ap (λ x. with_part limit so_far (kept limit (number *ℚ x))) (sym (entry_none row j past))

-- ---- a form taken in a column
module _ {N : Type 0} (value : N → Fraction) (limit column : ℕ) where
  -- the numbers from a place on, with the rows from a place on, added to the sum so far
  abbrev pub cut_left : List N → ℕ → List (List ℤ) → ℕ → Fraction → Option Fraction
  cut_left vector k form i so_far =
      added_within limit so_far
      (products limit (map value (drop k vector)) (column_of column (fractions (drop i form))))

  -- the sum so far with a number times its row's entry
  abbrev part_of : N → List ℤ → Fraction → Option Fraction
  part_of number entries so_far = with_part limit so_far (kept limit (value number *ℚ at (map of_int entries) column))

  module _ (vector : List N) (k : ℕ) (form : List (List ℤ)) (i : ℕ) (number : N) (row entries : List ℤ)
      (so_far : Fraction) (inside : k < length vector) (is : number ≡ get_or vector k number)
      (some : i < length form) (row_is : row ≡ get_or form i row) (same : entries ≡ row) where
    cut_step : cut_left vector k form i so_far
        ≡ added_within limit so_far
        (kept limit (value number *ℚ at (map of_int entries) column)
        ∷ products limit (map value (drop (k + 1) vector)) (column_of column (fractions (drop (i + 1) form))))
    cut_step =
        ap₂ (λ (xs : List N) (rows : List (List ℤ)).
        added_within limit so_far (products limit (map value xs) (column_of column (fractions rows))))
        (drop_at vector k number inside is) (drop_at form i row some row_is)
        ∙ ap (λ (es : List ℤ). added_within limit so_far
        (kept limit (value number *ℚ at (map of_int es) column)
        ∷ products limit (map value (drop (k + 1) vector)) (column_of column (fractions (drop (i + 1) form)))))
        (sym same)

    pub cut_stops : None ≡ part_of number entries so_far → None ≡ cut_left vector k form i so_far
    cut_stops none = part_wide limit so_far _ _ none ∙ sym cut_step

    pub cut_goes : (next : Fraction) → Some next ≡ part_of number entries so_far
        → cut_left vector (k + 1) form (i + 1) next ≡ cut_left vector k form i so_far
    cut_goes next h = part_added limit so_far _ _ next h ∙ sym cut_step

  pub cut_ends : (vector : List N) (k : ℕ) (form : List (List ℤ)) (i : ℕ) (so_far : Fraction) → length vector ≤ k
      → Some so_far ≡ cut_left vector k form i so_far
  cut_ends vector k form i so_far past =
      sym (ap (λ (xs : List N). added_within limit so_far
      (products limit (map value xs) (column_of column (fractions (drop i form))))) (drop_all k vector past))

  -- the base, with the row of the constant
  module _ (base : N) (vector : List N) (form : List (List ℤ)) (row entries : List ℤ) (nothing : Fraction)
      (none : nothing ≡ 0ℚ) (some : 0 < length form) (row_is : row ≡ get_or form 0 row) (same : entries ≡ row) where
    base_step : dot_within limit (value base ∷ map value vector) (column_of column (fractions form))
        ≡ added_within limit nothing
        (kept limit (value base *ℚ at (map of_int entries) column)
        ∷ products limit (map value vector) (column_of column (fractions (drop 1 form))))
    base_step =
        ap (λ (rows : List (List ℤ)). dot_within limit (value base ∷ map value vector)
        (column_of column (fractions rows))) (drop_at form 0 row some row_is)
        ∙ ap₂ (λ (es : List ℤ) (z : Fraction). added_within limit z
        (kept limit (value base *ℚ at (map of_int es) column)
        ∷ products limit (map value vector) (column_of column (fractions (drop 1 form)))))
        (sym same) (sym none)

    pub base_stops : None ≡ part_of base entries nothing
        → None ≡ dot_within limit (value base ∷ map value vector) (column_of column (fractions form))
    base_stops wide = part_wide limit nothing _ _ wide ∙ sym base_step

    pub base_goes : (next : Fraction) → Some next ≡ part_of base entries nothing
        → cut_left vector 0 form 1 next
        ≡ dot_within limit (value base ∷ map value vector) (column_of column (fractions form))
    base_goes next h = part_added limit nothing _ _ next h ∙ sym base_step

-- the entries of a row of a matrix that fits
pub row_fits : (limit : ℕ) (form : List (List ℤ)) (i : ℕ) (row entries : List ℤ) → i < length form
    → row ≡ get_or form i row → entries ≡ row → Each (Each (λ a. nat_abs a ≤ limit)) form
    → Each (λ a. nat_abs a ≤ limit) entries
row_fits limit [] i row entries inside is same all = absurd (omega arith)
row_fits limit (x ∷ form) zero row entries inside is same all =
    subst (Each (λ a. nat_abs a ≤ limit)) (sym (same ∙ is)) all.0
row_fits limit (x ∷ form) (suc i) row entries inside is same all =
    row_fits limit form i row entries (omega arith) is same all.1

-- ---- what a part more counts, behind what never fell
module _ {S : Type 0} {ops wides : S → ℕ} {a b : S} where
  pub never_told : {T E : Type 0} {r : Result T E} → CountsTold ops wides a b r → NeverFell ops wides a b
  never_told h = record { ops = h.ops; wides = h.told.never_fell }

  pub sum_counted : {T E : Type 0} {x : T} → NeverFell ops wides a b → CountsTold {E = E} ops wides a b (Ok x)
  sum_counted f = record { ops = f.ops; told = record { never_fell = f.wides; refused = tt } }

  pub refused_later : {c : S} {T U E : Type 0} {e g : E} → NeverFell ops wides a b
      → CountsTold {T = T} ops wides b c (Err e) → CountsTold {T = U} ops wides a c (Err g)
  refused_later {c = c} f h =
      record {
        ops = omega (arith, f.ops, h.ops);
        told = record {
          never_fell = omega (arith, f.wides, h.told.never_fell);
          refused = rose_later (wides a) (wides b) (wides c) f.wides h.told.refused;
        };
      }

  -- a verdict counts behind it too
  pub counted_later : {c : S} {v : Verdict} → NeverFell ops wides a b → Counted ops wides b c v
      → Counted ops wides a c v
  counted_later {c = c} {v = v} f h =
      record {
        ops = omega (arith, f.ops, h.ops);
        wides = omega (arith, f.wides, h.wides);
        rose = rise_later (is_wide v) (wides a) (wides b) (wides c) f.wides h.rose;
      }
