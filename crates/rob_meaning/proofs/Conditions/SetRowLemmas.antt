-- A vector meets the set conditions taken s times exactly where some numbers in the columns t make all set rows hold.
use Rattle.std.specs.Prelude.{◌≡◌, ℕ, zero, suc, ◌+◌, ◌*◌, pos, List, [], ◌∷◌, ◌++◌, length, map, refl}
use Rattle.std.proofs.Common.{sym, ◌∙◌, ap, ap₂, subst, arith, append_assoc, length-append}
use Rattle.rob_algebra.specs.Fraction.{Fraction, ◌+ℚ◌, ◌-ℚ◌, ◌*ℚ◌, neg_ℚ, ◌≤ℚ◌, ◌<ℚ◌}
use Rattle.rob_algebra.specs.FractionLaws as Q
use Rattle.rob_algebra.specs.FractionOrderLaws.{le_refl_ℚ, le_antisym_ℚ, add_mono_ℚ, le_trans_ℚ}
use Rattle.rob_algebra.specs.Polynomials.{lit, minus, ◌:+◌, ◌:-◌, ◌:*◌, v0, v1, v2, v3, v4}
use Rattle.rob_meaning.proofs.Lists.AlongLemmas.{along-zero, along-same, along-unit, along-neg, along-plus, along-scale}
use Rattle.rob_meaning.proofs.Lists.EachLemmas.{each_append, each_left, each_right, declared}
use Rattle.rob_meaning.proofs.Lists.LinearLemmas.{le_by, le_along, along_le}
use Rattle.rob_meaning.proofs.Lists.AbsoluteLemmas.{le_abs, neg_le_abs, abs_least, div_le, pos_some}
use Rattle.rob_meaning.proofs.Tables.TableLemmas.{value-table}
use Rattle.rob_meaning.specs.Coefficients.{table, unit}
use Rattle.rob_meaning.specs.Degrees.{IsLinear}
use Rattle.rob_meaning.specs.Expressions.{Expression}
use Rattle.rob_meaning.specs.Forms.{difference, sides}
use Rattle.rob_meaning.specs.Places.{0ℚ, 1ℚ, Each, EachFrom, along, at}
use Rattle.rob_meaning.specs.RobustModel.{Member, Parameter, Relation, RobustModel, SetLine, at_least, at_most, budget, equal, line}
use Rattle.rob_meaning.specs.SetConditions.{Holds, all_stated, bounds_from, bounds_of, if_declared, lower_bound, set_conditions, taken, taken_deviation, total_taken, upper_bound}
use Rattle.rob_meaning.specs.SetRows.{SetRow, bound_rows, budget_row, expression_row, lift_count, lower_row, member_rows, members_sum, set_rows, statement_rows, upper_row}
use Rattle.rob_meaning.specs.UncertaintySet.{Relates, abs_ℚ}
use Rattle.rob_meaning.specs.Values.{value}
use Rattle.rob_meaning.specs.WellFormed.{IsMember, IsSetLine}

-- a set row, before it is cleared, with its right side taken s times holds in the parameters p and the columns t
pub record RowHolds (s : Fraction) (p t : List Fraction) (r : SetRow) : Type 0 where
  pub at_most : along r.on_parameters p +ℚ along r.on_lifts t ≤ℚ s *ℚ r.limit

-- two rows for each member
pub length-member_rows : (t : ℕ) (hs : List Member) → length (member_rows t hs) ≡ 2 * length hs
length-member_rows t [] = refl
length-member_rows t (h ∷ hs) = omega (arith, length-member_rows (suc t) hs)

module _ (m : RobustModel) (s : Fraction) (p : List Fraction) where
  -- what an expression of the set counts, taken s times: its coefficients at p, and s times its constant
  one_row : (e : Expression) (q : List Fraction) → IsLinear m e →
      value m [] q e ≡ table m e 0 0 +ℚ along (λ k. table m e (suc k) 0) q
  one_row e q h =
      sym (value-table m q [] e h)
      ∙ ap₂ ◌+ℚ◌ (Q.ring (table m e 0 0 ∷ []) ((v0 :* lit (pos 1) :+ lit (pos 0)) :* lit (pos 1)) v0 refl)
      (along-same (λ k. table m e (suc k) 0 *ℚ 1ℚ +ℚ 0ℚ) (λ k. table m e (suc k) 0) q
      (λ k. Q.ring (table m e (suc k) 0 ∷ []) (v0 :* lit (pos 1) :+ lit (pos 0)) v0 refl))

  taken-table : (e : Expression) → IsLinear m e →
      taken m s p e ≡ along (λ k. table m e (suc k) 0) p +ℚ s *ℚ table m e 0 0
  taken-table e h =
      ap₂ (λ x y. x -ℚ y +ℚ s *ℚ y) (one_row e p h) (one_row e [] h)
      ∙ Q.ring (table m e 0 0 ∷ along (λ k. table m e (suc k) 0) p ∷ s ∷ [])
      ((v0 :+ v1) :- (v0 :+ lit (pos 0)) :+ v2 :* (v0 :+ lit (pos 0))) (v1 :+ v2 :* v0) refl

  module _ (T : List Fraction) where
    -- ---- bounds
    lower_sum : (k : ℕ) → along (λ i. neg_ℚ (unit k i)) p +ℚ along (λ t. 0ℚ) T ≡ neg_ℚ (at p k) +ℚ 0ℚ
    lower_sum k = ap₂ ◌+ℚ◌ (along-neg (unit k) p ∙ ap neg_ℚ (along-unit k p)) (along-zero T)

    upper_sum : (k : ℕ) → along (unit k) p +ℚ along (λ t. 0ℚ) T ≡ at p k +ℚ 0ℚ
    upper_sum k = ap₂ ◌+ℚ◌ (along-unit k p) (along-zero T)

    lower_in : (k : ℕ) (l : Fraction) → Holds m s p (lower_bound k l) → RowHolds s p T (lower_row k l)
    lower_in k l h = record {
      at_most =
          le_along (lower_sum k)
          (le_by (s ∷ l ∷ at p k ∷ []) (minus v2 :+ lit (pos 0)) (v0 :* minus v1) (v0 :* v1) v2 refl h);
    }

    lower_out : (k : ℕ) (l : Fraction) → RowHolds s p T (lower_row k l) → Holds m s p (lower_bound k l)
    lower_out k l h =
        le_by (s ∷ l ∷ at p k ∷ []) (v0 :* v1) v2 (minus v2 :+ lit (pos 0)) (v0 :* minus v1) refl
        (along_le (lower_sum k) h.at_most)

    upper_in : (k : ℕ) (b : Fraction) → Holds m s p (upper_bound k b) → RowHolds s p T (upper_row k b)
    upper_in k b h = record {
      at_most =
          le_along (upper_sum k) (le_by (s ∷ b ∷ at p k ∷ []) (v2 :+ lit (pos 0)) (v0 :* v1) v2 (v0 :* v1) refl h);
    }

    upper_out : (k : ℕ) (b : Fraction) → RowHolds s p T (upper_row k b) → Holds m s p (upper_bound k b)
    upper_out k b h =
        le_by (s ∷ b ∷ at p k ∷ []) v2 (v0 :* v1) (v2 :+ lit (pos 0)) (v0 :* v1) refl (along_le (upper_sum k) h.at_most)

    pub bounds_in : (k : ℕ) (ps : List Parameter) → Each (Holds m s p) (bounds_from k ps) →
        Each (RowHolds s p T) (bound_rows k ps)
    bounds_in k [] h = tt
    bounds_in k (b ∷ bs) h =
        let own = each_left (Holds m s p) (bounds_of k b) (bounds_from (suc k) bs) h in
        each_append (RowHolds s p T) (if_declared (lower_row k) b.lower ++ if_declared (upper_row k) b.upper)
        (bound_rows (suc k) bs)
        (each_append (RowHolds s p T) (if_declared (lower_row k) b.lower) (if_declared (upper_row k) b.upper)
        (declared (Holds m s p) (RowHolds s p T) (lower_bound k) (lower_row k) (lower_in k) b.lower
        (each_left (Holds m s p) (if_declared (lower_bound k) b.lower) (if_declared (upper_bound k) b.upper) own))
        (declared (Holds m s p) (RowHolds s p T) (upper_bound k) (upper_row k) (upper_in k) b.upper
        (each_right (Holds m s p) (if_declared (lower_bound k) b.lower) (if_declared (upper_bound k) b.upper) own)))
        (bounds_in (suc k) bs (each_right (Holds m s p) (bounds_of k b) (bounds_from (suc k) bs) h))

    bounds_out : (k : ℕ) (ps : List Parameter) → Each (RowHolds s p T) (bound_rows k ps) →
        Each (Holds m s p) (bounds_from k ps)
    bounds_out k [] h = tt
    bounds_out k (b ∷ bs) h =
        let rows = if_declared (lower_row k) b.lower ++ if_declared (upper_row k) b.upper in
        let own = each_left (RowHolds s p T) rows (bound_rows (suc k) bs) h in
        each_append (Holds m s p) (bounds_of k b) (bounds_from (suc k) bs)
        (each_append (Holds m s p) (if_declared (lower_bound k) b.lower) (if_declared (upper_bound k) b.upper)
        (declared (RowHolds s p T) (Holds m s p) (lower_row k) (lower_bound k) (lower_out k) b.lower
        (each_left (RowHolds s p T) (if_declared (lower_row k) b.lower) (if_declared (upper_row k) b.upper) own))
        (declared (RowHolds s p T) (Holds m s p) (upper_row k) (upper_bound k) (upper_out k) b.upper
        (each_right (RowHolds s p T) (if_declared (lower_row k) b.lower) (if_declared (upper_row k) b.upper) own)))
        (bounds_out (suc k) bs (each_right (RowHolds s p T) rows (bound_rows (suc k) bs) h))

    -- ---- lines
    sides_sum : (l r : Expression) →
        along (λ k. table m (difference l r) (suc k) 0) p +ℚ along
        (λ t. 0ℚ) T ≡ (along (λ k. table m l (suc k) 0) p +ℚ (neg_ℚ (along (λ k. table m r (suc k) 0) p) +ℚ 0ℚ)) +ℚ 0ℚ
    sides_sum l r =
        ap₂ ◌+ℚ◌
        (along-plus (λ k. table m l (suc k) 0) (λ k. neg_ℚ (table m r (suc k) 0) +ℚ 0ℚ) p
        ∙ ap (λ z. along (λ k. table m l (suc k) 0) p +ℚ z)
        (along-plus (λ k. neg_ℚ (table m r (suc k) 0)) (λ k. 0ℚ) p
        ∙ ap₂ ◌+ℚ◌ (along-neg (λ k. table m r (suc k) 0) p) (along-zero p)))
        (along-zero T)

    line_in : (l r : Expression) → IsLinear m l → IsLinear m r → taken m s p l ≤ℚ taken m s p r →
        RowHolds s p T (expression_row m (difference l r))
    line_in l r a b h =
        record {
          at_most =
              le_along (sides_sum l r)
              (le_by (along (λ k. table m l (suc k) 0) p ∷ along
              (λ k. table m r (suc k) 0) p ∷ table m l 0 0 ∷ table m r 0 0 ∷ s ∷ [])
              ((v0 :+ (minus v1 :+ lit (pos 0))) :+ lit (pos 0)) (v4 :* minus (v2 :+ (minus v3 :+ lit (pos 0))))
              (v0 :+ v4 :* v2) (v1 :+ v4 :* v3) refl
              (subst (λ z. z ≤ℚ along (λ k. table m r (suc k) 0) p +ℚ s *ℚ table m r 0 0) (taken-table l a)
              (subst (λ z. taken m s p l ≤ℚ z) (taken-table r b) h)));
        }

    line_out : (l r : Expression) → IsLinear m l → IsLinear m r → RowHolds s p T (expression_row m (difference l r)) →
        taken m s p l ≤ℚ taken m s p r
    line_out l r a b h =
        le_along (taken-table l a) (subst (λ z. along (λ k. table m l (suc k) 0) p +ℚ s *ℚ table m l 0 0 ≤ℚ z)
        (sym (taken-table r b))
        (le_by (along (λ k. table m l (suc k) 0) p ∷ along
        (λ k. table m r (suc k) 0) p ∷ table m l 0 0 ∷ table m r 0 0 ∷ s ∷ [])
        (v0 :+ v4 :* v2) (v1 :+ v4 :* v3) ((v0 :+ (minus v1 :+ lit (pos 0))) :+ lit (pos 0))
        (v4 :* minus (v2 :+ (minus v3 :+ lit (pos 0)))) refl
        (along_le (sides_sum l r) h.at_most)))

    sides_in : (l : Expression) (relation : Relation) (r : Expression) → IsLinear m l → IsLinear m r →
        Relates relation (taken m s p l) (taken m s p r) →
        Each (RowHolds s p T) (map (expression_row m) (sides relation l r))
    sides_in l at_most r a b h = (line_in l r a b h, tt)
    sides_in l at_least r a b h = (line_in r l b a h, tt)
    sides_in l equal r a b h = (
      line_in l r a b (subst (λ z. taken m s p l ≤ℚ z) h (le_refl_ℚ (taken m s p l))),
      (line_in r l b a (subst (λ z. z ≤ℚ taken m s p l) h (le_refl_ℚ (taken m s p l))), tt),
    )

    sides_out : (l : Expression) (relation : Relation) (r : Expression) → IsLinear m l → IsLinear m r →
        Each (RowHolds s p T) (map (expression_row m) (sides relation l r)) →
        Relates relation (taken m s p l) (taken m s p r)
    sides_out l at_most r a b h = line_out l r a b h.0
    sides_out l at_least r a b h = line_out r l b a h.0
    sides_out l equal r a b h =
        le_antisym_ℚ (taken m s p l) (taken m s p r) (line_out l r a b h.0) (line_out r l b a h.1.0)

    -- ---- budgets
    up_sum : (h : Member) (t : ℕ) →
        along (unit h.parameter) p +ℚ along
        (λ i. neg_ℚ h.deviation *ℚ unit t i) T ≡ at p h.parameter +ℚ neg_ℚ h.deviation *ℚ at T t
    up_sum h t =
        ap₂ ◌+ℚ◌ (along-unit h.parameter p) (along-scale (neg_ℚ h.deviation) (unit t) T
        ∙ ap (λ z. neg_ℚ h.deviation *ℚ z) (along-unit t T))

    down_sum : (h : Member) (t : ℕ) →
        along (λ i. neg_ℚ (unit h.parameter i)) p +ℚ along (λ i. neg_ℚ h.deviation *ℚ unit t i) T ≡ neg_ℚ
        (at p h.parameter) +ℚ neg_ℚ h.deviation *ℚ at T t
    down_sum h t =
        ap₂ ◌+ℚ◌ (along-neg (unit h.parameter) p ∙ ap neg_ℚ (along-unit h.parameter p))
        (along-scale (neg_ℚ h.deviation) (unit t) T ∙ ap (λ z. neg_ℚ h.deviation *ℚ z) (along-unit t T))

    members-sum : (t : ℕ) (h : Member) (hs : List Member) →
        along (members_sum t (h ∷ hs)) T ≡ at T t +ℚ along (members_sum (suc t) hs) T
    members-sum t h hs =
        along-plus (unit t) (members_sum (suc t) hs) T
        ∙ ap (λ z. z +ℚ along (members_sum (suc t) hs) T) (along-unit t T)

    -- the columns t hold the members' scaled deviations
    abbrev pub HasDeviations : ℕ → List Member → Type 0
    HasDeviations t hs = EachFrom t (λ i h. at T i ≡ taken_deviation m s p h) hs

    times_lift : (h : Member) (t : ℕ) → 0ℚ <ℚ h.deviation → at T t ≡ taken_deviation m s p h →
        h.deviation *ℚ at T t ≡ abs_ℚ (at p h.parameter -ℚ s *ℚ h.centre)
    times_lift h t some e =
        ap (λ z. h.deviation *ℚ z) e ∙ Q.ℚ-mul_comm h.deviation (taken_deviation m s p h)
        ∙ Q.div_mul (abs_ℚ (at p h.parameter -ℚ s *ℚ h.centre)) h.deviation (pos_some h.deviation some)

    members_in : (t : ℕ) (hs : List Member) → Each (IsMember m) hs → HasDeviations t hs →
        Each (RowHolds s p T) (member_rows t hs)
    members_in t [] ok d = tt
    members_in t (h ∷ hs) ok d = (
      record {
        at_most =
            le_along (up_sum h t)
            (le_by (at p h.parameter ∷ s ∷ h.centre ∷ h.deviation ∷ at T t ∷ []) (v0 :+ minus v3 :* v4) (v1 :* v2)
            (v0 :- v1 :* v2) (v3 :* v4) refl
            (subst (λ z. at p h.parameter -ℚ s *ℚ h.centre ≤ℚ z) (sym (times_lift h t ok.0.1 d.0))
            (le_abs (at p h.parameter -ℚ s *ℚ h.centre))));
      },
      (
        record {
          at_most =
              le_along (down_sum h t)
              (le_by (at p h.parameter ∷ s ∷ h.centre ∷ h.deviation ∷ at T t ∷ []) (minus v0 :+ minus v3 :* v4)
              (v1 :* minus v2) (minus (v0 :- v1 :* v2)) (v3 :* v4) refl
              (subst (λ z. neg_ℚ (at p h.parameter -ℚ s *ℚ h.centre) ≤ℚ z) (sym (times_lift h t ok.0.1 d.0))
              (neg_le_abs (at p h.parameter -ℚ s *ℚ h.centre))));
        },
        members_in (suc t) hs ok.1 d.1,
      ),
    )

    total_is : (t : ℕ) (hs : List Member) → HasDeviations t hs → along (members_sum t hs) T ≡ total_taken m s p hs
    total_is t [] d = along-zero T
    total_is t (h ∷ hs) d = members-sum t h hs ∙ ap₂ ◌+ℚ◌ d.0 (total_is (suc t) hs d.1)

    total_le : (t : ℕ) (hs : List Member) → Each (IsMember m) hs → Each (RowHolds s p T) (member_rows t hs) →
        total_taken m s p hs ≤ℚ along (members_sum t hs) T
    total_le t [] ok d = subst (λ z. 0ℚ ≤ℚ z) (sym (along-zero T)) (le_refl_ℚ 0ℚ)
    total_le t (h ∷ hs) ok d =
        subst (λ z. total_taken m s p (h ∷ hs) ≤ℚ z) (sym (members-sum t h hs))
        (add_mono_ℚ (taken_deviation m s p h) (at T t) (total_taken m s p hs) (along (members_sum (suc t) hs) T)
        (div_le (abs_ℚ (at p h.parameter -ℚ s *ℚ h.centre)) h.deviation (at T t) ok.0.1
        (abs_least (at p h.parameter -ℚ s *ℚ h.centre) (h.deviation *ℚ at T t)
        (le_by (at p h.parameter ∷ s ∷ h.centre ∷ h.deviation ∷ at T t ∷ []) (v0 :- v1 :* v2) (v3 :* v4)
        (v0 :+ minus v3 :* v4) (v1 :* v2) refl (along_le (up_sum h t) d.0.at_most))
        (le_by (at p h.parameter ∷ s ∷ h.centre ∷ h.deviation ∷ at T t ∷ []) (minus (v0 :- v1 :* v2)) (v3 :* v4)
        (minus v0 :+ minus v3 :* v4) (v1 :* minus v2) refl (along_le (down_sum h t) d.1.0.at_most))))
        (total_le (suc t) hs ok.1 d.1.1))

    zero_sum : (x : Fraction) → along (λ i. 0ℚ) p +ℚ x ≡ x
    zero_sum x = ap (λ z. z +ℚ x) (along-zero p) ∙ Q.ℚ-zero-add x

    -- ---- statements
    abbrev pub HasLifts : ℕ → List SetLine → Type 0
    HasLifts t [] = Unit {0}
    HasLifts t (line l relation r ∷ rest) = HasLifts t rest
    HasLifts t (budget limit hs ∷ rest) = HasDeviations t hs × HasLifts (length hs + t) rest

    pub statements_in : (t : ℕ) (lines : List SetLine) → Each (IsSetLine m) lines → HasLifts t lines →
        Each (Holds m s p) (all_stated lines) → Each (RowHolds s p T) (statement_rows m t lines)
    statements_in t [] ok d h = tt
    statements_in t (line l relation r ∷ rest) ok d h =
        each_append (RowHolds s p T) (map (expression_row m) (sides relation l r)) (statement_rows m t rest)
        (sides_in l relation r ok.0.0.0.1 ok.0.1.0.1 h.0) (statements_in t rest ok.1 d h.1)
    statements_in t (budget limit hs ∷ rest) ok d h =
        each_append (RowHolds s p T) (member_rows t hs) (budget_row t limit hs ∷ statement_rows m (length hs + t) rest)
        (members_in t hs ok.0 d.0) (
          record { at_most = le_along (zero_sum (along (members_sum t hs) T) ∙ total_is t hs d.0) h.0 },
          statements_in (length hs + t) rest ok.1 d.1 h.1,
        )

    statements_out : (t : ℕ) (lines : List SetLine) → Each (IsSetLine m) lines →
        Each (RowHolds s p T) (statement_rows m t lines) → Each (Holds m s p) (all_stated lines)
    statements_out t [] ok h = tt
    statements_out t (line l relation r ∷ rest) ok h = (
      sides_out l relation r ok.0.0.0.1 ok.0.1.0.1 (each_left (RowHolds s p T)
          (map (expression_row m) (sides relation l r)) (statement_rows m t rest) h),
      statements_out t rest ok.1 (each_right (RowHolds s p T) (map (expression_row m) (sides relation l r))
          (statement_rows m t rest) h),
    )
    statements_out t (budget limit hs ∷ rest) ok h =
        let right =
        each_right (RowHolds s p T) (member_rows t hs)
        (budget_row t limit hs ∷ statement_rows m (length hs + t) rest) h in (
          le_trans_ℚ (total_taken m s p hs) (along (members_sum t hs) T) (s *ℚ limit)
              (total_le t hs ok.0 (each_left (RowHolds s p T) (member_rows t hs)
              (budget_row t limit hs ∷ statement_rows m (length hs + t) rest) h))
              (along_le (zero_sum (along (members_sum t hs) T)) right.0.at_most),
          statements_out (length hs + t) rest ok.1 right.1,
        )

    pub rows_in : Each (IsSetLine m) m.set_lines → HasLifts zero m.set_lines → Each (Holds m s p) (set_conditions m) →
        Each (RowHolds s p T) (set_rows m)
    rows_in ok d h =
        each_append (RowHolds s p T) (bound_rows zero m.parameters) (statement_rows m zero m.set_lines)
        (bounds_in zero m.parameters (each_left (Holds m s p) (bounds_from zero m.parameters)
        (all_stated m.set_lines) h))
        (statements_in zero m.set_lines ok d (each_right (Holds m s p) (bounds_from zero m.parameters)
        (all_stated m.set_lines) h))

    pub rows_out : Each (IsSetLine m) m.set_lines → Each (RowHolds s p T) (set_rows m) →
        Each (Holds m s p) (set_conditions m)
    rows_out ok h =
        each_append (Holds m s p) (bounds_from zero m.parameters) (all_stated m.set_lines)
        (bounds_out zero m.parameters (each_left (RowHolds s p T) (bound_rows zero m.parameters)
        (statement_rows m zero m.set_lines) h))
        (statements_out zero m.set_lines ok (each_right (RowHolds s p T) (bound_rows zero m.parameters)
        (statement_rows m zero m.set_lines) h))

  -- ---- the columns t that the deviations give
  abbrev pub own_lifts : List Member → List Fraction
  own_lifts [] = []
  own_lifts (h ∷ hs) = taken_deviation m s p h ∷ own_lifts hs

  abbrev pub lifts_of : List SetLine → List Fraction
  lifts_of [] = []
  lifts_of (line l relation r ∷ rest) = lifts_of rest
  lifts_of (budget limit hs ∷ rest) = own_lifts hs ++ lifts_of rest

  length-own : (hs : List Member) → length (own_lifts hs) ≡ length hs
  length-own [] = refl
  length-own (h ∷ hs) = ap suc (length-own hs)

  pub length-lifts : (lines : List SetLine) → length (lifts_of lines) ≡ lift_count lines
  length-lifts [] = refl
  length-lifts (line l relation r ∷ rest) = length-lifts rest
  length-lifts (budget limit hs ∷ rest) =
      length-append (own_lifts hs) (lifts_of rest) ∙ ap₂ ◌+◌ (length-own hs) (length-lifts rest)

  at-middle : (before : List Fraction) (x : Fraction) (rest : List Fraction) (t : ℕ) → length before ≡ t →
      at (before ++ x ∷ rest) t ≡ x
  at-middle [] x rest zero e = refl
  at-middle [] x rest (suc t) e = cc
  at-middle (y ∷ ys) x rest zero e = cc
  at-middle (y ∷ ys) x rest (suc t) e = at-middle ys x rest t (cc)

  own_fit : (before : List Fraction) (hs : List Member) (after : List Fraction) (t : ℕ) → length before ≡ t →
      HasDeviations (before ++ (own_lifts hs ++ after)) t hs
  own_fit before [] after t e = tt
  own_fit before (h ∷ hs) after t e = (
    at-middle before (taken_deviation m s p h) (own_lifts hs ++ after) t e,
    subst (λ T. HasDeviations T (suc t) hs) (append_assoc before (taken_deviation m s p h ∷ []) (own_lifts hs ++ after))
        (own_fit (before ++ taken_deviation m s p h ∷ []) hs after (suc t)
        (length-append before (taken_deviation m s p h ∷ []) ∙ omega arith)),
  )

  lifts_fit : (before : List Fraction) (lines : List SetLine) (t : ℕ) → length before ≡ t →
      HasLifts (before ++ lifts_of lines) t lines
  lifts_fit before [] t e = tt
  lifts_fit before (line l relation r ∷ rest) t e = lifts_fit before rest t e
  lifts_fit before (budget limit hs ∷ rest) t e = (
    own_fit before hs (lifts_of rest) t e,
    subst (λ T. HasLifts T (length hs + t) rest) (append_assoc before (own_lifts hs) (lifts_of rest))
        (lifts_fit (before ++ own_lifts hs) rest (length hs + t)
        (length-append before (own_lifts hs) ∙ omega (arith, length-own hs))),
  )

  pub has_lifts : HasLifts (lifts_of m.set_lines) zero m.set_lines
  has_lifts = lifts_fit [] m.set_lines zero refl
