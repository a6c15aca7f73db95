-- The product of two tables, entry by entry: the numbers so far, and what is left of both.
use Rattle.std.specs.Prelude.{◌≡◌, ℕ, ◌≤◌, max, not, List, [], ◌∷◌, refl}
use Rattle.std.proofs.Common.{sym, ◌∙◌, ap, ap₂, subst, inr}
use Rattle.rob_algebra.specs.Fraction.{Fraction, ◌+ℚ◌, ◌*ℚ◌}
use Rattle.rob_algebra.specs.Width.{Fits, IsWide}
use Rattle.rob_meaning.specs.Coefficients.{Table, single, table_times}
use Rattle.rob_meaning.specs.Places.{0ℚ}
use Rattle.rob_sets.specs.Tables.{AreApart}
use Rattle.rob_sets.specs.declared.table.Cell.{Cell}
use Rattle.rob_sets.proofs.Cells.EntryLemmas.{AreOf, AreOrdered, behind_is, first_here, first_is, head_of, number_in, of_others, ordered_behind}
use Rattle.rob_sets.proofs.Products.OwnerLemmas.{Owners, owners, sel}
use Rattle.rob_sets.proofs.Products.ProductLemmas.{product_cell, wide_product, wide_sum}
use Rattle.rob_sets.proofs.Products.ProductSums.{begins, ends_first, ends_second, from_start, goes_on}

module _ {N : Type 0} (value : N → Fraction) (f g : Table) where
  -- the numbers so far, with the products of what is left of the first table, are the product
  pub record FirstLeft (es : List (Cell × N)) (so_far : Table) : Type 0 where
    pub ordered : AreOrdered es
    pub parts : AreOf value f es
    pub rest : (o : Owners f g) (k j : ℕ) → so_far k j
        +ℚ number_in value es (sel o.p k) (sel o.c j) *ℚ g (sel (not o.p) k) (sel (not o.c) j) ≡ table_times f g k j

  -- the same, with one entry of the first table and what is left of the second
  pub record SecondLeft (e : Cell × N) (es ds : List (Cell × N)) (so_far : Table) : Type 0 where
    pub first_ordered : AreOrdered (e ∷ es)
    pub first_parts : AreOf value f (e ∷ es)
    pub ordered : AreOrdered ds
    pub parts : AreOf value g ds
    pub rest : (o : Owners f g) (k j : ℕ) → so_far k j
        +ℚ value e.1 *ℚ single e.0.row e.0.column (sel o.p k) (sel o.c j)
        *ℚ number_in value ds (sel (not o.p) k) (sel (not o.c) j)
        +ℚ number_in value es (sel o.p k) (sel o.c j) *ℚ g (sel (not o.p) k) (sel (not o.c) j) ≡ table_times f g k j

module _ {N : Type 0} {value : N → Fraction} {f g : Table} where
  pub first_begins : {es : List (Cell × N)} {so_far : Table} → AreOrdered es
      → ((k j : ℕ) → number_in value es k j ≡ f k j) → ((k j : ℕ) → so_far k j ≡ 0ℚ) → FirstLeft value f g es so_far
  first_begins {es} {so_far} ordered all zero = record {
    ordered = ordered;
    parts = λ k j. inr (all k j);
    rest = λ o k j. from_start f g o k j (so_far k j) (number_in value es (sel o.p k) (sel o.c j)) (zero k j)
        (all (sel o.p k) (sel o.c j));
  }

  pub second_begins : {e : Cell × N} {es left ds : List (Cell × N)} {so_far : Table} → left ≡ e ∷ es
      → FirstLeft value f g left so_far → AreOrdered ds → ((k j : ℕ) → number_in value ds k j ≡ g k j)
      → SecondLeft value f g e es ds so_far
  second_begins {e} {es} {left} {ds} {so_far} is p ordered all = record {
    first_ordered = subst (λ (xs : List (Cell × N)). AreOrdered xs) is p.ordered;
    first_parts = subst (λ (xs : List (Cell × N)). AreOf value f xs) is p.parts;
    ordered = ordered;
    parts = λ k j. inr (all k j);
    rest = λ o k j.
        ap (λ u. so_far k j +ℚ value e.1 *ℚ single e.0.row e.0.column (sel o.p k) (sel o.c j) *ℚ u
        +ℚ number_in value es (sel o.p k) (sel o.c j) *ℚ g (sel (not o.p) k) (sel (not o.c) j))
        (all (sel (not o.p) k) (sel (not o.c) j))
        ∙ begins (so_far k j) (value e.1) (single e.0.row e.0.column (sel o.p k) (sel o.c j))
        (number_in value es (sel o.p k) (sel o.c j)) (g (sel (not o.p) k) (sel (not o.c) j)) (table_times f g k j)
        (ap (λ u. so_far k j +ℚ u *ℚ g (sel (not o.p) k) (sel (not o.c) j))
        (sym (first_is value e left es is p.ordered (sel o.p k) (sel o.c j))) ∙ p.rest o k j);
  }

  module _ {e d : Cell × N} {es ds left : List (Cell × N)} {so_far : Table} (is : left ≡ d ∷ ds)
      (p : SecondLeft value f g e es left so_far) where
    -- a product that is wide
    pub product_wide : (limit : ℕ) → 1 ≤ limit → AreApart f g → IsWide limit (value e.1 *ℚ value d.1)
        → (k : ℕ) × (j : ℕ) × IsWide limit (table_times f g k j)
    product_wide limit one apart w = (
      max e.0.row d.0.row,
      max e.0.column d.0.column,
      wide_product f g (owners f g apart) e.0.row e.0.column d.0.row d.0.column (value e.1) (value d.1)
          (head_of value f e (e ∷ es) es refl p.first_parts) (head_of value g d left ds is p.parts) limit one w,
    )

    -- at the cell of the product
    module _ {row column : ℕ} {number : Fraction} (row_is : row ≡ max e.0.row d.0.row)
        (column_is : column ≡ max e.0.column d.0.column) (number_is : number ≡ value e.1 *ℚ value d.1) where
      -- one product more
      pub second_goes_on : (next : Table) → ((k j : ℕ) → next k j ≡ so_far k j +ℚ number *ℚ single row column k j)
          → SecondLeft value f g e es ds next
      second_goes_on next h = record {
        first_ordered = p.first_ordered;
        first_parts = p.first_parts;
        ordered = ordered_behind value left ds d is p.ordered;
        parts = of_others value g d left ds is p.ordered p.parts;
        rest = λ o k j.
            goes_on (so_far k j) (value e.1 *ℚ single e.0.row e.0.column (sel o.p k) (sel o.c j))
            (value d.1 *ℚ single d.0.row d.0.column (sel (not o.p) k) (sel (not o.c) j))
            (number_in value ds (sel (not o.p) k) (sel (not o.c) j))
            (number_in value es (sel o.p k) (sel o.c j) *ℚ g (sel (not o.p) k) (sel (not o.c) j)) (next k j)
            (table_times f g k j)
            (ap (λ u. so_far k j +ℚ value e.1 *ℚ single e.0.row e.0.column (sel o.p k) (sel o.c j) *ℚ u
            +ℚ number_in value es (sel o.p k) (sel o.c j) *ℚ g (sel (not o.p) k) (sel (not o.c) j))
            (sym (first_is value d left ds is p.ordered (sel (not o.p) k) (sel (not o.c) j))) ∙ p.rest o k j)
            (h k j ∙ ap (λ u. so_far k j +ℚ u) (ap (λ u. u *ℚ single row column k j) number_is
            ∙ ap₂ (λ r s. value e.1 *ℚ value d.1 *ℚ single r s k j) row_is column_is
            ∙ product_cell f g o e.0.row e.0.column d.0.row d.0.column (value e.1) (value d.1)
            (head_of value f e (e ∷ es) es refl p.first_parts) (head_of value g d left ds is p.parts) k j));
      }

      -- a sum with a product that is wide
      pub sum_wide : (limit : ℕ) → 1 ≤ limit → AreApart f g → ((k j : ℕ) → Fits limit (so_far k j))
          → IsWide limit (so_far row column +ℚ number)
          → (k : ℕ) × (j : ℕ) × IsWide limit (table_times f g k j)
      sum_wide limit one apart fits w = (
        max e.0.row d.0.row,
        max e.0.column d.0.column,
        wide_sum f g (owners f g apart) e.0.row e.0.column d.0.row d.0.column (value e.1) (value d.1)
            (head_of value f e (e ∷ es) es refl p.first_parts) (head_of value g d left ds is p.parts) limit one
            (number_in value es) (number_in value left) (so_far (max e.0.row d.0.row) (max e.0.column d.0.column))
            (first_here value d left ds is) (behind_is value e (e ∷ es) es refl p.first_ordered)
            (p.rest (owners f g apart) (max e.0.row d.0.row) (max e.0.column d.0.column))
            (fits (max e.0.row d.0.row) (max e.0.column d.0.column))
            (subst (IsWide limit) (ap₂ (λ r k. so_far r k +ℚ number) row_is column_is
            ∙ ap (λ u. so_far (max e.0.row d.0.row) (max e.0.column d.0.column) +ℚ u) number_is) w),
      )

  -- nothing is left of the second table
  pub second_ends : {e : Cell × N} {es ds : List (Cell × N)} {so_far : Table} → ds ≡ []
      → SecondLeft value f g e es ds so_far → FirstLeft value f g es so_far
  second_ends {e} {es} {ds} {so_far} over p = record {
    ordered = ordered_behind value (e ∷ es) es e refl p.first_ordered;
    parts = of_others value f e (e ∷ es) es refl p.first_ordered p.first_parts;
    rest = λ o k j. ends_second (so_far k j) (value e.1 *ℚ single e.0.row e.0.column (sel o.p k) (sel o.c j))
        (number_in value ds (sel (not o.p) k) (sel (not o.c) j))
        (number_in value es (sel o.p k) (sel o.c j) *ℚ g (sel (not o.p) k) (sel (not o.c) j)) (table_times f g k j)
        (ap (λ (xs : List (Cell × N)). number_in value xs (sel (not o.p) k) (sel (not o.c) j)) over) (p.rest o k j);
  }

  -- nor of the first
  pub first_ends : {es : List (Cell × N)} {so_far : Table} → es ≡ [] → AreApart f g → FirstLeft value f g es so_far
      → (k j : ℕ) → so_far k j ≡ table_times f g k j
  first_ends {es} {so_far} over apart p k j =
      let o = owners f g apart in
      ends_first (so_far k j) (number_in value es (sel o.p k) (sel o.c j)) (g (sel (not o.p) k) (sel (not o.c) j))
      (table_times f g k j) (ap (λ (xs : List (Cell × N)). number_in value xs (sel o.p k) (sel o.c j)) over)
      (p.rest o k j)
