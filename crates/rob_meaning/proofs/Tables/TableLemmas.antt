-- The value of an expression is the sum of its table at the scenario and the plan.
use Rattle.std.specs.Prelude.{◌≡◌, ℕ, zero, suc, ◌+◌, ◌≤◌, pos, Bool, true, false, List, [], ◌∷◌, map, refl}
use Rattle.std.proofs.Common.{sym, ◌∙◌, ap, ap₂, arith}
use Rattle.rob_algebra.specs.Fraction.{Fraction, ◌+ℚ◌, ◌*ℚ◌, neg_ℚ}
use Rattle.rob_algebra.specs.FractionLaws as Q
use Rattle.rob_algebra.specs.Polynomials.{var, lit, minus, ◌:+◌, ◌:*◌, v0, v1, v2, v3, v4, v5, v6, v7}
use Rattle.rob_meaning.proofs.Lists.AlongLemmas.{along-same, along-none, table_at-same, table_at-plus, table_at-neg, table_at-scale, table_at-zero, table_at-products, table_at-single}
use Rattle.rob_meaning.specs.Coefficients.{Table, product_table, rule_table, single, sum_table, table, table_at, table_times, unit}
use Rattle.rob_meaning.specs.Degrees.{AreLinear, FactorsLinear, IsLinear, decision_degree, one_if_some, uncertain_degree}
use Rattle.rob_meaning.specs.Expressions.{Expression, Factors, Terms, adaptive, adaptive_in, factor, no_factors, no_terms, number, parameter, product, sum, term, variable}
use Rattle.rob_meaning.specs.Places.{0ℚ, 1ℚ, along, at}
use Rattle.rob_meaning.specs.RobustModel.{RobustModel, column_of, joint_number, list_in_set, list_of}
use Rattle.rob_meaning.specs.Values.{product_value, rule_part, signed, sum_value, value}

abbrev pub NoParams : Table → Type 0
NoParams f = (k j : ℕ) → f (suc k) j ≡ 0ℚ

abbrev pub NoColumns : Table → Type 0
NoColumns f = (k j : ℕ) → f k (suc j) ≡ 0ℚ

-- ---- products of tables
pub times_comm : (f g : Table) (k j : ℕ) → table_times f g k j ≡ table_times g f k j
times_comm f g zero zero = Q.ring (f 0 0 ∷ g 0 0 ∷ []) (v0 :* v1) (v1 :* v0) refl
times_comm f g (suc k) zero =
    Q.ring (f (suc k) 0 ∷ g 0 0 ∷ f 0 0 ∷ g (suc k) 0 ∷ []) (v0 :* v1 :+ v2 :* v3) (v3 :* v2 :+ v1 :* v0) refl
times_comm f g zero (suc j) =
    Q.ring (f 0 (suc j) ∷ g 0 0 ∷ f 0 0 ∷ g 0 (suc j) ∷ []) (v0 :* v1 :+ v2 :* v3) (v3 :* v2 :+ v1 :* v0) refl
times_comm f g (suc k) (suc j) =
    comm4 (f (suc k) (suc j)) (g 0 0) (f (suc k) 0) (g 0 (suc j)) (f 0 (suc j)) (g (suc k) 0)
    (f 0 0) (g (suc k) (suc j))
  where
    comm4 : (a b c d e f g h : Fraction) →
        (a *ℚ b +ℚ c *ℚ d) +ℚ (e *ℚ f +ℚ g *ℚ h) ≡ (h *ℚ g +ℚ f *ℚ e) +ℚ (d *ℚ c +ℚ b *ℚ a)
    comm4 a b c d e f g h = simp (Q.ℚ-mul_comm, Q.ℚ-add_comm, Q.ℚ-add_assoc)

times_constant : (f g : Table) → NoParams f → NoColumns f → (k j : ℕ) → table_times f g k j ≡ f 0 0 *ℚ g k j
times_constant f g np nc zero zero = refl
times_constant f g np nc (suc k) zero =
    rw (np k 0) (Q.ring (g 0 0 ∷ (f 0 0 *ℚ g (suc k) 0) ∷ []) (lit (pos 0) :* v0 :+ v1) v1 refl)
times_constant f g np nc zero (suc j) =
    rw (nc 0 j) (Q.ring (g 0 0 ∷ (f 0 0 *ℚ g 0 (suc j)) ∷ []) (lit (pos 0) :* v0 :+ v1) v1 refl)
times_constant f g np nc (suc k) (suc j) =
    rw (np k (suc j), np k 0, nc 0 j)
    (Q.ring (g 0 0 ∷ g 0 (suc j) ∷ g (suc k) 0 ∷ (f 0 0 *ℚ g (suc k) (suc j)) ∷ [])
    ((lit (pos 0) :* v0 :+ lit (pos 0) :* v1) :+ (lit (pos 0) :* v2 :+ v3)) v3 refl)

-- a product of tables may be taken from the left or from the right, and begins at the table of 1
assoc_one : (a b e f i j : Fraction) → (b *ℚ e +ℚ a *ℚ f) *ℚ i +ℚ a *ℚ e *ℚ j ≡ b *ℚ (e *ℚ i) +ℚ a *ℚ (f *ℚ i +ℚ e *ℚ j)
assoc_one a b e f i j =
    Q.ring (a ∷ b ∷ e ∷ f ∷ i ∷ j ∷ []) ((v1 :* v2 :+ v0 :* v3) :* v4 :+ v0 :* v2 :* v5)
    (v1 :* (v2 :* v4) :+ v0 :* (v3 :* v4 :+ v2 :* v5)) refl

assoc_two : (a b c d e f g h i j k l : Fraction) →
    (((d *ℚ e +ℚ b *ℚ g) +ℚ (c *ℚ f +ℚ a *ℚ h)) *ℚ i +ℚ (b *ℚ e +ℚ a *ℚ f) *ℚ k)
    +ℚ ((c *ℚ e +ℚ a *ℚ g) *ℚ j +ℚ a *ℚ e *ℚ l)
    ≡ (d *ℚ (e *ℚ i) +ℚ b *ℚ (g *ℚ i +ℚ e *ℚ k))
    +ℚ (c *ℚ (f *ℚ i +ℚ e *ℚ j) +ℚ a *ℚ ((h *ℚ i +ℚ f *ℚ k) +ℚ (g *ℚ j +ℚ e *ℚ l)))
assoc_two a b c d e f g h i j k l =
    Q.ring (a ∷ b ∷ c ∷ d ∷ e ∷ f ∷ g ∷ h ∷ i ∷ j ∷ k ∷ l ∷ [])
    ((((v3 :* v4 :+ v1 :* v6) :+ (v2 :* v5 :+ v0 :* v7)) :* var 8 :+ (v1 :* v4 :+ v0 :* v5) :* var
    10) :+ ((v2 :* v4 :+ v0 :* v6) :* var 9 :+ v0 :* v4 :* var 11))
    ((v3 :* (v4 :* var 8) :+ v1 :* (v6 :* var 8 :+ v4 :* var 10)) :+ (v2 :* (v5 :* var 8 :+ v4 :* var
    9) :+ v0 :* ((v7 :* var 8 :+ v5 :* var 10) :+ (v6 :* var 9 :+ v4 :* var 11))))
    refl

pub table_times-assoc : (f g h : Table) (k j : ℕ) →
    table_times (table_times f g) h k j ≡ table_times f (table_times g h) k j
table_times-assoc f g h zero zero = Q.ℚ-mul_assoc (f 0 0) (g 0 0) (h 0 0)
table_times-assoc f g h (suc k) zero = assoc_one (f 0 0) (f (suc k) 0) (g 0 0) (g (suc k) 0) (h 0 0) (h (suc k) 0)
table_times-assoc f g h zero (suc j) = assoc_one (f 0 0) (f 0 (suc j)) (g 0 0) (g 0 (suc j)) (h 0 0) (h 0 (suc j))
table_times-assoc f g h (suc k) (suc j) =
    assoc_two (f 0 0) (f (suc k) 0) (f 0 (suc j)) (f (suc k) (suc j)) (g 0 0) (g (suc k) 0) (g 0 (suc j))
    (g (suc k) (suc j)) (h 0 0) (h (suc k) 0) (h 0 (suc j)) (h (suc k) (suc j))

-- one has no parameter and the other no column
times_apart : (f g : Table) → NoParams f → NoColumns g → (k j : ℕ) → table_times f g k j ≡ g k 0 *ℚ f 0 j
times_apart f g np nc zero zero = Q.ℚ-mul_comm (f 0 0) (g 0 0)
times_apart f g np nc (suc k) zero =
    rw (np k 0) (Q.ring (g 0 0 ∷ f 0 0 ∷ g (suc k) 0 ∷ []) (lit (pos 0) :* v0 :+ v1 :* v2) (v2 :* v1) refl)
times_apart f g np nc zero (suc j) =
    rw (nc 0 j) (Q.ring (f 0 (suc j) ∷ g 0 0 ∷ f 0 0 ∷ []) (v0 :* v1 :+ v2 :* lit (pos 0)) (v1 :* v0) refl)
times_apart f g np nc (suc k) (suc j) =
    rw (np k (suc j), np k 0, nc (suc k) j)
    (Q.ring (g 0 0 ∷ g 0 (suc j) ∷ f 0 (suc j) ∷ g (suc k) 0 ∷ f 0 0 ∷ [])
    ((lit (pos 0) :* v0 :+ lit (pos 0) :* v1) :+ (v2 :* v3 :+ v4 :* lit (pos 0))) (v3 :* v2) refl)

times_no_params : (f g : Table) → NoParams f → NoParams g → NoParams (table_times f g)
times_no_params f g hf hg k zero =
    rw (hf k 0, hg k 0) (Q.ring (g 0 0 ∷ f 0 0 ∷ []) (lit (pos 0) :* v0 :+ v1 :* lit (pos 0)) (lit (pos 0)) refl)
times_no_params f g hf hg k (suc j) =
    rw (hf k (suc j), hf k 0, hg k 0, hg k (suc j))
    (Q.ring (g 0 0 ∷ g 0 (suc j) ∷ f 0 (suc j) ∷ f 0 0 ∷ [])
    ((lit (pos 0) :* v0 :+ lit (pos 0) :* v1) :+ (v2 :* lit (pos 0) :+ v3 :* lit (pos 0))) (lit (pos 0)) refl)

times_no_columns : (f g : Table) → NoColumns f → NoColumns g → NoColumns (table_times f g)
times_no_columns f g hf hg zero j =
    rw (hf 0 j, hg 0 j) (Q.ring (g 0 0 ∷ f 0 0 ∷ []) (lit (pos 0) :* v0 :+ v1 :* lit (pos 0)) (lit (pos 0)) refl)
times_no_columns f g hf hg (suc k) j =
    rw (hf (suc k) j, hg 0 j, hf 0 j, hg (suc k) j)
    (Q.ring (g 0 0 ∷ f (suc k) 0 ∷ g (suc k) 0 ∷ f 0 0 ∷ [])
    ((lit (pos 0) :* v0 :+ v1 :* lit (pos 0)) :+ (lit (pos 0) :* v2 :+ v3 :* lit (pos 0))) (lit (pos 0)) refl)

times_one : (x : Fraction) (y : Fraction) → y ≡ 0ℚ → x *ℚ 1ℚ +ℚ y ≡ x
times_one x y e = rw e (Q.ring (x ∷ []) (v0 :* lit (pos 1) :+ lit (pos 0)) v0 refl)

no_params_at : (f : Table) (u z : List Fraction) → NoParams f → table_at f (1ℚ ∷ u) z ≡ along (f 0) z
no_params_at f u z h =
    times_one (along (f 0) z) (along (λ k. along (f (suc k)) z) u)
    (along-none (λ k. along (f (suc k)) z) u (λ k. along-none (f (suc k)) z (h k)))

no_columns_at : (f : Table) (p z : List Fraction) → NoColumns f → table_at f p (1ℚ ∷ z) ≡ along (λ k. f k 0) p
no_columns_at f p z h =
    along-same (λ k. along (f k) (1ℚ ∷ z)) (λ k. f k 0) p
    (λ k. times_one (f k 0) (along (λ j. f k (suc j)) z) (along-none (λ j. f k (suc j)) z (h k)))

module _ (u z : List Fraction) where
  constant_at : (f : Table) → NoParams f → NoColumns f → table_at f (1ℚ ∷ u) (1ℚ ∷ z) ≡ f 0 0
  constant_at f np nc =
      no_params_at f u (1ℚ ∷ z) np ∙ times_one (f 0 0) (along (λ j. f 0 (suc j)) z)
      (along-none (λ j. f 0 (suc j)) z (nc 0))

  times_at-constant : (f g : Table) → NoParams f → NoColumns f →
      table_at (table_times f g) (1ℚ ∷ u) (1ℚ ∷ z) ≡ table_at f (1ℚ ∷ u) (1ℚ ∷ z) *ℚ table_at g (1ℚ ∷ u) (1ℚ ∷ z)
  times_at-constant f g np nc =
      table_at-same (table_times f g) (λ k j. f 0 0 *ℚ g k j) (1ℚ ∷ u) (1ℚ ∷ z) (times_constant f g np nc)
      ∙ table_at-scale (f 0 0) g (1ℚ ∷ u) (1ℚ ∷ z)
      ∙ ap (λ x. x *ℚ table_at g (1ℚ ∷ u) (1ℚ ∷ z)) (sym (constant_at f np nc))

  times_at-apart : (f g : Table) → NoParams f → NoColumns g →
      table_at (table_times f g) (1ℚ ∷ u) (1ℚ ∷ z) ≡ table_at f (1ℚ ∷ u) (1ℚ ∷ z) *ℚ table_at g (1ℚ ∷ u) (1ℚ ∷ z)
  times_at-apart f g np nc =
      table_at-same (table_times f g) (λ k j. g k 0 *ℚ f 0 j) (1ℚ ∷ u) (1ℚ ∷ z) (times_apart f g np nc)
      ∙ table_at-products (λ k. g k 0) (f 0) (1ℚ ∷ u) (1ℚ ∷ z)
      ∙ Q.ℚ-mul_comm (along (λ k. g k 0) (1ℚ ∷ u)) (along (f 0) (1ℚ ∷ z))
      ∙ ap₂ ◌*ℚ◌ (sym (no_params_at f u (1ℚ ∷ z) np)) (sym (no_columns_at g (1ℚ ∷ u) z nc))

  times_at-comm : (f g : Table) →
      table_at (table_times g f) (1ℚ ∷ u) (1ℚ ∷ z) ≡ table_at g (1ℚ ∷ u) (1ℚ ∷ z) *ℚ table_at f (1ℚ ∷ u) (1ℚ ∷ z) →
      table_at (table_times f g) (1ℚ ∷ u) (1ℚ ∷ z) ≡ table_at f (1ℚ ∷ u) (1ℚ ∷ z) *ℚ table_at g (1ℚ ∷ u) (1ℚ ∷ z)
  times_at-comm f g e =
      table_at-same (table_times f g) (table_times g f) (1ℚ ∷ u) (1ℚ ∷ z) (times_comm f g)
      ∙ e ∙ Q.ℚ-mul_comm (table_at g (1ℚ ∷ u) (1ℚ ∷ z)) (table_at f (1ℚ ∷ u) (1ℚ ∷ z))

  -- two tables whose degrees together are at most 1
  times_at : (f g : Table) (a b c d : ℕ) → (a ≡ 0 → NoParams f) → (b ≡ 0 → NoColumns f) → (c ≡ 0 → NoParams g) →
      (d ≡ 0 → NoColumns g) →
      a + c ≤ 1 → b + d ≤ 1 → table_at (table_times f g) (1ℚ ∷ u) (1ℚ ∷ z) ≡ table_at f (1ℚ ∷ u)
      (1ℚ ∷ z) *ℚ table_at g (1ℚ ∷ u) (1ℚ ∷ z)
  times_at f g zero zero c d pf cf pg cg h k = times_at-constant f g (pf refl) (cf refl)
  times_at f g zero (suc b) c d pf cf pg cg h k = times_at-apart f g (pf refl) (cg (omega arith))
  times_at f g (suc a) zero c d pf cf pg cg h k = times_at-comm f g (times_at-apart g f (pg (omega arith)) (cf refl))
  times_at f g (suc a) (suc b) c d pf cf pg cg h k =
      times_at-comm f g (times_at-constant g f (pg (omega arith)) (cg (omega arith)))

pub signed-zero : (is_minus : Bool) → signed is_minus 0ℚ ≡ 0ℚ
signed-zero true = Q.ring [] (minus (lit (pos 0))) (lit (pos 0)) refl
signed-zero false = refl

pub zero_times : (x : Fraction) → 0ℚ *ℚ x ≡ 0ℚ
zero_times x = Q.ring (x ∷ []) (lit (pos 0) :* v0) (lit (pos 0)) refl

pub times_zero : (x : Fraction) → x *ℚ 0ℚ ≡ 0ℚ
times_zero x = Q.ring (x ∷ []) (v0 :* lit (pos 0)) (lit (pos 0)) refl

zero_and_zero : 0ℚ +ℚ 0ℚ ≡ 0ℚ
zero_and_zero = Q.ring [] (lit (pos 0) :+ lit (pos 0)) (lit (pos 0)) refl

signed_and : (is_minus : Bool) (x y : Fraction) → x ≡ 0ℚ → y ≡ 0ℚ → signed is_minus x +ℚ y ≡ 0ℚ
signed_and is_minus x y p q = rw (p, q, signed-zero is_minus) zero_and_zero

no_rule : (ks : List ℕ) (column k j : ℕ) → one_if_some ks ≡ 0 → rule_table ks column (suc k) j ≡ 0ℚ
no_rule [] column k j h = refl
no_rule (d ∷ ds) column k j h = cc

one_if_mapped : (f : ℕ → ℕ) (ks : List ℕ) → one_if_some (map f ks) ≡ one_if_some ks
one_if_mapped f [] = refl
one_if_mapped f (k ∷ ks) = refl

module _ (m : RobustModel) where
  mutual
    pub no_params : (e : Expression) → uncertain_degree m e ≡ 0 → NoParams (table m e)
    no_params (number q) h k j = ap (λ x. q *ℚ x) (zero_times (unit 0 j)) ∙ times_zero q
    no_params (parameter d) h k j = cc
    no_params (variable v) h k j = zero_times (unit (suc v) j)
    no_params (adaptive y) h k j =
        rw (zero_times (unit (suc (column_of m y)) j), no_rule (list_of m y) (suc (column_of m y)) k j h) zero_and_zero
    no_params (adaptive_in y S) h k j =
        rw (
          zero_times (unit (suc (column_of m y)) j),
          no_rule (list_in_set m S y) (suc (column_of m y)) k j (one_if_mapped (joint_number m S) (list_of m y) ∙ h),
        )
        zero_and_zero
    no_params (sum ts) h k j = sum_no_params ts h k j
    no_params (product fs) h k j = product_no_params fs h k j

    pub sum_no_params : (ts : Terms) → uncertain_degree m (sum ts) ≡ 0 → NoParams (sum_table m ts)
    sum_no_params no_terms h k j = refl
    sum_no_params (term is_minus e ts) h k j =
        signed_and is_minus (table m e (suc k) j) (sum_table m ts (suc k) j) (no_params e (omega arith) k j)
        (sum_no_params ts (omega arith) k j)

    pub product_no_params : (fs : Factors) → uncertain_degree m (product fs) ≡ 0 → NoParams (product_table m fs)
    product_no_params no_factors h k j = zero_times (unit 0 j)
    product_no_params (factor e fs) h k j =
        times_no_params (table m e) (product_table m fs) (no_params e (omega arith))
        (product_no_params fs (omega arith)) k j

  mutual
    pub no_columns : (e : Expression) → decision_degree m e ≡ 0 → NoColumns (table m e)
    no_columns (number q) h k j = ap (λ x. q *ℚ x) (times_zero (unit 0 k)) ∙ times_zero q
    no_columns (parameter d) h k j = times_zero (unit (suc d) k)
    no_columns (variable v) h k j = cc
    no_columns (adaptive y) h k j = cc
    no_columns (adaptive_in y S) h k j = cc
    no_columns (sum ts) h k j = sum_no_columns ts h k j
    no_columns (product fs) h k j = product_no_columns fs h k j

    pub sum_no_columns : (ts : Terms) → decision_degree m (sum ts) ≡ 0 → NoColumns (sum_table m ts)
    sum_no_columns no_terms h k j = refl
    sum_no_columns (term is_minus e ts) h k j =
        signed_and is_minus (table m e k (suc j)) (sum_table m ts k (suc j)) (no_columns e (omega arith) k j)
        (sum_no_columns ts (omega arith) k j)

    pub product_no_columns : (fs : Factors) → decision_degree m (product fs) ≡ 0 → NoColumns (product_table m fs)
    product_no_columns no_factors h k j = times_zero (unit 0 k)
    product_no_columns (factor e fs) h k j =
        times_no_columns (table m e) (product_table m fs) (no_columns e (omega arith))
        (product_no_columns fs (omega arith)) k j

module _ (m : RobustModel) (u plan : List Fraction) where
  rule-table : (ks : List ℕ) (column : ℕ) →
      table_at (rule_table ks column) (1ℚ ∷ u) (1ℚ ∷ plan) ≡ rule_part m plan u ks column
  rule-table [] column = table_at-zero (1ℚ ∷ u) (1ℚ ∷ plan)
  rule-table (d ∷ ds) column =
      table_at-plus (single (suc d) (suc column)) (rule_table ds (suc column)) (1ℚ ∷ u) (1ℚ ∷ plan)
      ∙ ap₂ ◌+ℚ◌ (table_at-single (suc d) (suc column) (1ℚ ∷ u) (1ℚ ∷ plan) ∙ Q.ℚ-mul_comm (at u d) (at plan column))
      (rule-table ds (suc column))

  signed-table : (is_minus : Bool) (f : Table) (x : Fraction) → table_at f (1ℚ ∷ u) (1ℚ ∷ plan) ≡ x →
      table_at (λ k j. signed is_minus (f k j)) (1ℚ ∷ u) (1ℚ ∷ plan) ≡ signed is_minus x
  signed-table true f x e = table_at-neg f (1ℚ ∷ u) (1ℚ ∷ plan) ∙ ap neg_ℚ e
  signed-table false f x e = e

  one_times : (x : Fraction) → 1ℚ *ℚ x ≡ x
  one_times x = Q.ℚ-one-mul x

  times_1 : (x : Fraction) → x *ℚ 1ℚ ≡ x
  times_1 x = Q.ring (x ∷ []) (v0 :* lit (pos 1)) v0 refl

  mutual
    -- where no product has a degree over 1, the table gives the value
    pub value-table : (e : Expression) → IsLinear m e → table_at (table m e) (1ℚ ∷ u) (1ℚ ∷ plan) ≡ value m plan u e
    value-table (number q) h =
        table_at-scale q (single 0 0) (1ℚ ∷ u) (1ℚ ∷ plan)
        ∙ ap (λ x. q *ℚ x) (table_at-single 0 0 (1ℚ ∷ u) (1ℚ ∷ plan) ∙ one_times 1ℚ) ∙ times_1 q
    value-table (parameter d) h = table_at-single (suc d) 0 (1ℚ ∷ u) (1ℚ ∷ plan) ∙ times_1 (at u d)
    value-table (variable v) h = table_at-single 0 (suc v) (1ℚ ∷ u) (1ℚ ∷ plan) ∙ one_times (at plan v)
    value-table (adaptive y) h =
        table_at-plus (single 0 (suc (column_of m y))) (rule_table (list_of m y) (suc (column_of m y)))
        (1ℚ ∷ u) (1ℚ ∷ plan)
        ∙ ap₂ ◌+ℚ◌ (table_at-single 0 (suc (column_of m y)) (1ℚ ∷ u) (1ℚ ∷ plan) ∙ one_times (at plan (column_of m y)))
        (rule-table (list_of m y) (suc (column_of m y)))
    value-table (adaptive_in y S) h =
        table_at-plus (single 0 (suc (column_of m y))) (rule_table (list_in_set m S y) (suc (column_of m y)))
        (1ℚ ∷ u) (1ℚ ∷ plan)
        ∙ ap₂ ◌+ℚ◌ (table_at-single 0 (suc (column_of m y)) (1ℚ ∷ u) (1ℚ ∷ plan) ∙ one_times (at plan (column_of m y)))
        (rule-table (list_in_set m S y) (suc (column_of m y)))
    value-table (sum ts) h = sum_value-table ts h
    value-table (product fs) h = product_value-table fs h.0 h.1 h.2

    pub sum_value-table : (ts : Terms) → AreLinear m ts →
        table_at (sum_table m ts) (1ℚ ∷ u) (1ℚ ∷ plan) ≡ sum_value m plan u ts
    sum_value-table no_terms h = table_at-zero (1ℚ ∷ u) (1ℚ ∷ plan)
    sum_value-table (term is_minus e ts) h =
        table_at-plus (λ k j. signed is_minus (table m e k j)) (sum_table m ts) (1ℚ ∷ u) (1ℚ ∷ plan)
        ∙ ap₂ ◌+ℚ◌ (signed-table is_minus (table m e) (value m plan u e) (value-table e h.0)) (sum_value-table ts h.1)

    pub product_value-table : (fs : Factors) → uncertain_degree m (product fs) ≤ 1 →
        decision_degree m (product fs) ≤ 1 → FactorsLinear m fs →
        table_at (product_table m fs) (1ℚ ∷ u) (1ℚ ∷ plan) ≡ product_value m plan u fs
    product_value-table no_factors a b h = table_at-single 0 0 (1ℚ ∷ u) (1ℚ ∷ plan) ∙ one_times 1ℚ
    product_value-table (factor e fs) a b h =
        times_at u plan (table m e) (product_table m fs) (uncertain_degree m e) (decision_degree m e)
        (uncertain_degree m (product fs)) (decision_degree m (product fs))
        (no_params m e) (no_columns m e) (product_no_params m fs) (product_no_columns m fs) a b
        ∙ ap₂ ◌*ℚ◌ (value-table e h.0) (product_value-table fs (omega arith) (omega arith) h.1)
