-- The row of a budget's sum, and the rows of its members.
use Rattle.std.specs.Prelude.{◌≡◌, ℕ, zero, suc, ◌+◌, ◌*◌, ◌≤◌, ◌<◌, List, [], ◌∷◌, ◌++◌, length, map, drop, pos, refl}
use Rattle.std.proofs.Common.{sym, ◌∙◌, ap, ap₂, arith, get_or, add-one, length-append}
use Rattle.std.proofs.lemmas.List.{length-map}
use Rattle.rob_algebra.specs.Fraction.{Fraction, ◌+ℚ◌, ◌*ℚ◌, neg_ℚ}
use Rattle.rob_algebra.specs.FractionLaws as Q
use Rattle.rob_algebra.specs.Polynomials.{lit, ◌:+◌, ◌:*◌, v0, v1}
use Rattle.rob_meaning.specs.Coefficients.{Table, unit, single}
use Rattle.rob_meaning.specs.Places.{0ℚ, 1ℚ}
use Rattle.rob_meaning.specs.RobustModel.{Member}
use Rattle.rob_meaning.specs.SetRows as lifted
use Rattle.rob_meaning.specs.SetRows.{budget_row, down_row, member_rows, members_sum, up_row}
use Rattle.rob_model.specs.View.{member_of}
use Rattle.rob_model.specs.declared.model.Member.{Member as MemberData}
use Rattle.rob_model.proofs.PartLemmas.{drop_at, drop_all}
use Rattle.rob_sets.specs.Appending.{row_of}
use Rattle.rob_sets.proofs.WholeRows.BoundLemmas.{row_same, minus_minus}
use Rattle.rob_sets.proofs.Cells.PartedLemmas.{Parted}
use Rattle.rob_sets.proofs.Cells.CellLemmas.{unit-other}
use Rattle.rob_meaning.proofs.Tables.TableLemmas.{times_zero}
use Rattle.rob_meaning.proofs.Conditions.SetRowLemmas.{length-member_rows}

-- 1 in row 0 and the columns of n lifts, the first having number t
abbrev pub lifts_from : ℕ → ℕ → Table
lifts_from t zero k j = 0ℚ
lifts_from t (suc n) k j = single 0 (suc t) k j +ℚ lifts_from (suc t) n k j

-- one lift more, at the end
pub lifts-more : (t n k j : ℕ) → lifts_from t (n + 1) k j ≡ lifts_from t n k j +ℚ single 0 (suc (t + n)) k j
lifts-more t n k j = ap (λ i. lifts_from t i k j) (add-one n) ∙ by t n
  where
    by : (t n : ℕ) → lifts_from t (suc n) k j ≡ lifts_from t n k j +ℚ single 0 (suc (t + n)) k j
    by t zero =
        Q.ℚ-add_comm (single 0 (suc t) k j) 0ℚ
        ∙ ap (λ i. 0ℚ +ℚ single 0 (suc i) k j) (let e : t ≡ t + 0 = omega arith in e)
    by t (suc n) =
        ap (λ u. single 0 (suc t) k j +ℚ u) (by (suc t) n)
        ∙ sym (Q.ℚ-add_assoc (single 0 (suc t) k j) (lifts_from (suc t) n k j) (single 0 (suc (suc t + n)) k j))
        ∙ ap (λ i. lifts_from t (suc n) k j +ℚ single 0 (suc i) k j) (let e : suc t + n ≡ t + suc n = omega arith in e)

-- no lift behind them, no constant and no parameter
pub lifts-later : (t n j : ℕ) → t + n ≤ j → lifts_from t n 0 (suc j) ≡ 0ℚ
lifts-later t zero j h = refl
lifts-later t (suc n) j h =
    ap₂ ◌+ℚ◌ (ap (λ u. 1ℚ *ℚ u) (unit-other t j (λ e. absurd (omega arith))) ∙ times_zero 1ℚ)
    (lifts-later (suc t) n j (omega arith))
    ∙ Q.ℚ-zero-add 0ℚ

pub lifts-constant : (t n k : ℕ) → lifts_from t n k 0 ≡ 0ℚ
lifts-constant t zero k = refl
lifts-constant t (suc n) k = ap₂ ◌+ℚ◌ (times_zero (unit 0 k)) (lifts-constant (suc t) n k) ∙ Q.ℚ-zero-add 0ℚ

lifts-sum : (t : ℕ) (hs : List Member) (j : ℕ) → lifts_from t (length hs) 0 (suc j) ≡ members_sum t hs j
lifts-sum t [] j = refl
lifts-sum t (h ∷ hs) j = ap₂ ◌+ℚ◌ (Q.ℚ-one-mul (unit t j)) (lifts-sum (suc t) hs j)

pub sum_row : (t : ℕ) (limit bound : Fraction) (hs : List Member) (f : Table) → bound ≡ neg_ℚ limit
    → ((k j : ℕ) → f k j ≡ lifts_from t (length hs) k j +ℚ bound *ℚ single 0 0 k j) → row_of f ≡ budget_row t limit hs
sum_row t limit bound hs f is h =
    row_same f (λ i. 0ℚ) (members_sum t hs) limit
    (λ k. h (suc k) 0 ∙ ap (λ u. u +ℚ bound *ℚ single 0 0 (suc k) 0) (lifts-constant t (length hs) (suc k))
    ∙ Q.ring (bound ∷ []) (lit (pos 0) :+ v0 :* (lit (pos 0) :* lit (pos 1))) (lit (pos 0)) refl)
    (λ j. h 0 (suc j) ∙ ap (λ u. u +ℚ bound *ℚ single 0 0 0 (suc j)) (lifts-sum t hs j)
    ∙ Q.ring (bound ∷ members_sum t hs j ∷ []) (v1 :+ v0 :* (lit (pos 1) :* lit (pos 0))) v1 refl)
    (ap neg_ℚ (h 0 0 ∙ ap (λ u. u +ℚ bound *ℚ single 0 0 0 0) (lifts-constant t (length hs) 0)
    ∙ Q.ring (bound ∷ []) (lit (pos 0) :+ v0 :* (lit (pos 1) :* lit (pos 1))) v0 refl ∙ is) ∙ minus_minus limit)

-- ---- the rows of the members that are left
pub budget_many : {N : Type 0} (value : N → Fraction) (t : ℕ) (hs : List (MemberData N)) (last : lifted.SetRow)
    → length (member_rows t (map (member_of value) hs) ++ last ∷ []) ≡ 2 * length hs + 1
budget_many value t hs last =
    omega (
      arith,
      length-append (member_rows t (map (member_of value) hs)) (last ∷ []),
      length-member_rows t (map (member_of value) hs),
      length-map hs (member_of value),
    )

module _ {N : Type 0} (value : N → Fraction) where
  abbrev pub other_members : List (MemberData N) → ℕ → ℕ → List lifted.SetRow
  other_members hs t i = member_rows t (map (member_of value) (drop i hs))

  -- of the rows that are left, those of the next member come first
  pub members_at : (hs : List (MemberData N)) (t i : ℕ) (h : MemberData N) (last : lifted.SetRow)
      → i < length hs → h ≡ get_or hs i h
      → Parted (other_members hs t i ++ last ∷ []) (up_row t (member_of value h) ∷ [])
      (down_row t (member_of value h) ∷ (other_members hs (t + 1) (i + 1) ++ last ∷ []))
  members_at hs t i h last inside e = record {
    is = ap (λ (xs : List (MemberData N)). member_rows t (map (member_of value) xs) ++ last ∷ [])
        (drop_at hs i h inside e)
        ∙ ap (λ n. up_row t (member_of value h)
        ∷ (down_row t (member_of value h) ∷ (member_rows n (map (member_of value) (drop (i + 1) hs)) ++ last ∷ [])))
        (sym (add-one t));
  }

  pub down_at : (hs : List (MemberData N)) (t i : ℕ) (h : MemberData N) (last : lifted.SetRow)
      → Parted (down_row t (member_of value h) ∷ (other_members hs (t + 1) (i + 1) ++ last ∷ []))
      (down_row t (member_of value h) ∷ [])
      (other_members hs (t + 1) (i + 1) ++ last ∷ [])
  down_at hs t i h last = record { is = refl }

  pub members_end : (hs : List (MemberData N)) (t i : ℕ) (last : lifted.SetRow) → length hs ≤ i
      → other_members hs t i ++ last ∷ [] ≡ last ∷ []
  members_end hs t i last h =
      ap (λ (xs : List (MemberData N)). member_rows t (map (member_of value) xs) ++ last ∷ []) (drop_all i hs h)
