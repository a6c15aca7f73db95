-- A sum term by term: the table so far, and what is left to judge.
use Rattle.std.specs.Prelude.{◌≡◌, ℕ, ◌+◌, ◌<◌, ◌≤◌, List, map, length, Result, IsErrAnd, refl}
use Rattle.std.proofs.Common.{◌∙◌, ap, get_or, subst}
use Rattle.rob_algebra.specs.Fraction.{Fraction, ◌+ℚ◌}
use Rattle.rob_algebra.specs.Width.{Fits, IsWide}
use Rattle.rob_number.specs.Counts.{Rose}
use Rattle.rob_meaning.specs.Coefficients.{sum_table}
use Rattle.rob_meaning.specs.Degrees.{AreLinear}
use Rattle.rob_meaning.specs.Expressions.{Terms, sum}
use Rattle.rob_meaning.specs.Places.{0ℚ}
use Rattle.rob_meaning.specs.RobustModel.{RobustModel}
use Rattle.rob_meaning.specs.Values.{signed}
use Rattle.rob_meaning.specs.WellFormed.{TermsInside}
use Rattle.rob_model.specs.View.{expression_of, signed_of, terms_of}
use Rattle.rob_model.specs.declared.expr.Term.{Term}
use Rattle.rob_model.proofs.PartLemmas.{terms_at, terms_inside}
use Rattle.rob_sets.specs.Stops.{StopsFor}
use Rattle.rob_sets.specs.Subexpressions.{sums_from}
use Rattle.rob_sets.specs.Tables.{numbers_of}
use Rattle.rob_sets.specs.Tabulating.{IsTableOf, IsWideWithin, Tabulates}
use Rattle.rob_sets.specs.declared.error.Stop.{Stop}
use Rattle.rob_sets.specs.declared.table.Table.{Table}
use Rattle.rob_sets.proofs.Judging.JudgingLemmas.{judging_begins, judging_ends, judging_goes_on}
use Rattle.rob_sets.proofs.Expressions.PrefixLemmas.{first_terms, other_terms, sums_at, terms_end, sum_more}
use Rattle.rob_sets.proofs.Expressions.TabulatingLemmas.{IsLeft, part_stops, whole_goes_on, whole_stops}

module _ {N : Type 0} (value : N → Fraction) (limit : ℕ) (m : RobustModel) where
  -- the table is that of the first terms; what is left of the subexpressions is judged next
  pub record SumSoFar (ts : List (Term N)) (i : ℕ) (so_far : Table N) : Type 0 where
    pub table : (k j : ℕ) → numbers_of value so_far k j ≡ sum_table m (first_terms value ts i) k j
    pub judging : IsLeft limit m (sum (terms_of (map (signed_of value) ts)))
        (sums_from (first_terms value ts i) (other_terms value ts i))
    pub inside : TermsInside m (other_terms value ts i)
    pub linear : AreLinear m (other_terms value ts i)

module _ {N : Type 0} {value : N → Fraction} {limit : ℕ} {m : RobustModel} where
  pub sum_begins : {ts : List (Term N)} {so_far : Table N} → ((k j : ℕ) → numbers_of value so_far k j ≡ 0ℚ)
      → TermsInside m (terms_of (map (signed_of value) ts)) → AreLinear m (terms_of (map (signed_of value) ts))
      → SumSoFar value limit m ts 0 so_far
  sum_begins zero inside linear =
      record { table = zero; judging = judging_begins _; inside = inside; linear = linear }

  module _ {ts : List (Term N)} {i : ℕ} {so_far : Table N} (p : SumSoFar value limit m ts i so_far) where
    -- one term more
    module _ (at : i < length ts) {t : Term N} (is : t ≡ get_or ts i t) where
      pub sum_part_stops : (first before last : ℕ) (r : Result (Table N) Stop) (stop : Stop) → first ≤ before
          → StopsFor (IsWideWithin limit m (expression_of value t.inner) before last) stop → IsErrAnd r (λ d. d ≡ stop)
          → Tabulates value limit m (sum (terms_of (map (signed_of value) ts))) first last r
      sum_part_stops first before last r stop least h refused =
          part_stops value limit m (sum (terms_of (map (signed_of value) ts))) first before last r stop p.judging
          (sums_at value ts i t at is) least h refused

      module _ {part : Table N} (here : IsTableOf value limit m (expression_of value t.inner) part) where
        pub sum_stops : (first before last : ℕ) (r : Result (Table N) Stop) (stop : Stop) → first ≤ before
            → StopsFor (Rose before last × ((k : ℕ) × (j : ℕ)
            × IsWide limit (numbers_of value so_far k j +ℚ signed t.minus (numbers_of value part k j)))) stop
            → IsErrAnd r (λ d. d ≡ stop)
            → Tabulates value limit m (sum (terms_of (map (signed_of value) ts))) first last r
        sum_stops first before last r stop least h refused =
            whole_stops value limit m (sum (terms_of (map (signed_of value) ts)))
            (sum (first_terms value ts (i + 1))) _
            (λ k j. numbers_of value so_far k j +ℚ signed t.minus (numbers_of value part k j)) first before last r stop
            (judging_goes_on p.judging (sums_at value ts i t at is) here.none_wide)
            (sum_more value m (numbers_of value so_far) (numbers_of value part)
            (λ k j. numbers_of value so_far k j +ℚ signed t.minus (numbers_of value part k j)) ts i t at is p.table
            here.coefficients (λ k j. refl))
            least h refused

        pub sum_goes_on : ((x : N) → Fits limit (value x)) → 1 ≤ limit → (next : Table N)
            → ((k j : ℕ) → numbers_of value next k j
            ≡ numbers_of value so_far k j +ℚ signed t.minus (numbers_of value part k j))
            → SumSoFar value limit m ts (i + 1) next
        sum_goes_on fits one next h =
            let table = sum_more value m (numbers_of value so_far) (numbers_of value part) (numbers_of value next) ts i
            t at is p.table here.coefficients h in
            record {
              table = table;
              judging = whole_goes_on value limit fits one m (sum (terms_of (map (signed_of value) ts)))
                  (sum (first_terms value ts (i + 1))) next table
                  (judging_goes_on p.judging (sums_at value ts i t at is) here.none_wide);
              inside = (terms_inside value m ts i t at is p.inside).1;
              linear = (subst (AreLinear m) (terms_at value ts i t at is) p.linear).1;
            }

    -- all are done
    pub sum_ends : length ts ≤ i → IsTableOf value limit m (sum (terms_of (map (signed_of value) ts))) so_far
    sum_ends over =
        let e = terms_end value ts i over in
        record {
          coefficients = λ k j. p.table k j ∙ ap (λ (x : Terms). sum_table m x k j) e.0;
          none_wide = judging_ends p.judging (ap (sums_from (first_terms value ts i)) e.1);
        }
