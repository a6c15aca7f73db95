-- With the law on pairs, a difference of two read numbers is one of them or its opposite: one of the two is 0.
use Rattle.std.proofs.Common.{◌≡◌, ℕ, ◌+◌, ◌*◌, ◌<◌, ◌≤◌, sym, ap, ◌∙◌, subst, arith, inl, inr, ◌⊎◌, [], ◌∷◌, refl}
use lib.IntN.{pos, negsuc}
use Rattle.rob_algebra.specs.Fraction.{Fraction, of_int, neg_ℚ, ◌-ℚ◌}
use Rattle.rob_algebra.specs.FractionLaws.{ℚ_ring}
use Rattle.rob_algebra.specs.RingSolver as Solver
use Rattle.rob_algebra.specs.Polynomials.{lit, minus, ◌:-◌, v0, v1}
use Rattle.rob_linear.specs.Vectors.{Matrix, Columns}
use Rattle.rob_linear.specs.Systems.{System, IsBasis}
use Rattle.rob_linear.specs.Programs.{Program, system_of, auxiliary_of}
use Rattle.rob_linear.proofs.Meaning.Endings.{own_positive}
use Rattle.rob_meaning.specs.Places.{0ℚ}
use Rattle.rob_counterpart.specs.RobustProgram.{RobustProgram}
use Rattle.rob_counterpart.specs.Splitting.{plus, OneIsZero}
use Rattle.rob_counterpart.specs.Splitting as Split
use Rattle.rob_counterpart.specs.Reform.{block, positive_row, negative_row, IsReform}
use Rattle.rob_counterpart.specs.Endings.{slack_entries, objective_entry, OptimalEnding, InfeasibleEnding, UnboundedEnding}
use Rattle.rob_counterpart.specs.BasicPairs.{IsBasic}
use Rattle.rob_counterpart.proofs.Pairs.PairLaw.{reform_pair, program_keeps_pairs, ending_keeps_pairs}
use Rattle.rob_counterpart.proofs.Pairs.QuotientLemmas.{over, over_from, over-zero}
use Rattle.rob_counterpart.proofs.Positions.ReformSums.{positive_in, negative_in}
use Rattle.rob_counterpart.proofs.Pairs.SplitLemmas.{point_opposite, move_opposite}

-- row m is 0 in a basic slack column
basic_entry : (S : System) (own : Columns) (rows : Matrix) (k : ℕ) → IsBasis S own rows
    → IsBasic S.m own k → rows S.m k ≡ pos 0
basic_entry S own rows k b h =
    let hl : h.0 < S.m = h.1 in ap (rows S.m) h.2 ∙ (b.rows_of S.m (omega arith)).zeros h.0 (omega arith) (omega arith)

-- the difference is one of the two, or its negation
pub one_left : (a b : Fraction) → OneIsZero a b → (a -ℚ b ≡ a) ⊎ (a -ℚ b ≡ neg_ℚ b)
one_left a b (inl e) =
    inr (Solver.from_one ℚ_ring (a ∷ b ∷ []) (v0 :- v1) (minus v1) (lit (pos 1)) v0 (lit (pos 0)) refl e)
one_left a b (inr e) = inl (Solver.from_one ℚ_ring (a ∷ b ∷ []) (v0 :- v1) v0 (lit (negsuc 0)) v1 (lit (pos 0)) refl e)

module _ (d : RobustProgram) (P : Program) (re : IsReform d P) (own : Columns) (rows : Matrix) where
  module _ (x y : ℕ → Fraction) (en : OptimalEnding P own rows x y) where
    -- of a basic solution
    pub point_one : (j : ℕ) → j ≤ d.decisions → OneIsZero (x (plus j)) (x (Split.minus j))
    point_one j jl = point_opposite P (plus j) (Split.minus j) (reform_pair d P re j jl) own rows en.basis x en.point

    -- of dual values
    dual_zero : (t : ℕ) → t < P.m → IsBasic P.m own (P.n + t) → y t ≡ 0ℚ
    dual_zero t tl h =
        over_from (y t) (slack_entries P rows t) (objective_entry P rows)
        (own_positive (system_of P) own rows en.basis) (en.duals t tl)
        ∙ ap (λ v. over v (objective_entry P rows)) (basic_entry (system_of P) own rows (P.n + t) en.basis h)
        ∙ over-zero (objective_entry P rows)

    pub dual_one : (i c : ℕ) → i < d.forms → c < d.set_columns
        → OneIsZero (y (positive_row d i c)) (y (negative_row d i c))
    dual_one i c il cl =
        let h : P.m ≡ d.forms * block d = re.height in
        elim ((program_keeps_pairs d P own rows re en.basis).rows i c il cl) [
          | inl h ↦ inl
              (dual_zero (positive_row d i c)
              (subst (λ v. positive_row d i c < v) (sym re.height) (positive_in d i c il cl)) h)
          | inr h ↦ inr
              (dual_zero (negative_row d i c)
              (subst (λ v. negative_row d i c < v) (sym re.height) (negative_in d i c il cl)) h)
        ]

  -- of Farkas weights
  pub weight_one : InfeasibleEnding P own rows → (i c : ℕ) → i < d.forms → c < d.set_columns
      → OneIsZero (of_int (slack_entries P rows (positive_row d i c)))
      (of_int (slack_entries P rows (negative_row d i c)))
  weight_one en i c il cl = elim ((ending_keeps_pairs d P own rows re en.basis en.ends.below).rows i c il cl) [
    | inl h ↦ inl (ap of_int (basic_entry (auxiliary_of P) own rows (P.n + positive_row d i c) en.basis h))
    | inr h ↦ inr (ap of_int (basic_entry (auxiliary_of P) own rows (P.n + negative_row d i c) en.basis h))
  ]

  -- of the basic solution and the move of an unbounded ending
  module _ (column : ℕ) (x r : ℕ → Fraction) (en : UnboundedEnding P own rows column x r) where
    pub unbounded_point_one : (j : ℕ) → j ≤ d.decisions → OneIsZero (x (plus j)) (x (Split.minus j))
    unbounded_point_one j jl =
        point_opposite P (plus j) (Split.minus j) (reform_pair d P re j jl) own rows en.basis x en.point

    pub move_one : (j : ℕ) → j ≤ d.decisions → OneIsZero (r (plus j)) (r (Split.minus j))
    move_one j jl =
        move_opposite P (plus j) (Split.minus j) (reform_pair d P re j jl) own rows en.basis column r
        en.ends.improving en.move
