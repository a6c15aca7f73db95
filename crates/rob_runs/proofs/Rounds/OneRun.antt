-- There is one next round, so one run of each length, and one finished run.
use Rattle.std.proofs.Common.{◌≡◌, ℕ, zero, suc, ◌+◌, ◌<◌, List, [], ◌∷◌, ◌++◌, length, refl, sym, ap, ap₂, ◌∙◌, subst, arith, inl, inr, Bool, true, false}
use Rattle.std.proofs.lemmas.Int.{ints}
use Rattle.std.proofs.lemmas.Bool.{cases_order}
use Rattle.std.specs.Prelude.{slice_index_or}
use lib.IntN.{pos}
use lib.Signed.{◌<ℤ◌, ◌≤ℤ◌}
use Rattle.rob_algebra.specs.Fraction.{Fraction, ◌+ℚ◌, ◌-ℚ◌, ◌≤ℚ◌, ◌<ℚ◌}
use Rattle.rob_algebra.specs.FractionOrderLaws as Q
use Rattle.rob_linear.specs.Vectors.{Columns, Matrix, columns_of}
use Rattle.rob_algebra.specs.Polynomials.{lit, ◌:+◌, v0}
use Rattle.rob_linear.specs.Systems.{IsBasis, EndsOptimal}
use Rattle.rob_linear.specs.Programs.{Program, system_of}
use Rattle.rob_linear.specs.Turns.{IsSameBasis, Enters}
use Rattle.rob_linear.specs.Paths.{Last}
use Rattle.rob_linear.specs.Optimality.{IsBasicPoint, IsBasicMove}
use Rattle.rob_linear.proofs.BasisPaths.ProgramPaths.{last_unique}
use Rattle.rob_linear.proofs.Bases.Turns.{enters_same, enters_unique}
use Rattle.rob_linear.proofs.Bases.Unique.{rows_equal}
use Rattle.rob_meaning.specs.Forms.{matrices, form_columns, form_at, plan_vector}
use Rattle.rob_meaning.specs.Places.{0ℚ, 1ℚ}
use Rattle.rob_meaning.specs.RobustModel.{RobustModel, column_count}
use Rattle.rob_meaning.specs.WellFormed.{IsModel}
use Rattle.rob_meaning.specs.UncertaintySet.{Admits}
use Rattle.rob_meaning.proofs.Lists.LinearLemmas.{zero_lt_one}
use Rattle.rob_counterpart.specs.Splitting.{plus, minus, difference}
use Rattle.rob_counterpart.specs.ReadCertificates.{plan_read, bound_read}
use Rattle.rob_counterpart.proofs.Pairs.TabulateLemmas.{tabulate-same}
use Rattle.rob_runs.specs.Cuts.{Cut, master_over}
use Rattle.rob_runs.specs.Searches.{own_at, search_at, FindsScenario, FindsRay, IsBasicCut}
use Rattle.rob_runs.specs.Runs.{MasterIsOptimal, MasterIsUnbounded, plan_at, direction_at, KeepsForm, KeepsForms, CutsOff, RoundKind, best, boundless, Round, IsRoundOf, IsRound, IsRunFrom, IsRun}
use Rattle.rob_runs.proofs.Searching.BasicCuts.{same_points, same_moves, scenario_told, ray_told}
use Rattle.rob_runs.proofs.Searching.FoundLemmas.{found_worst, found_greatest, found_no_greatest, ray_not_kept, scenario_cut_at}
use Rattle.rob_runs.proofs.Proving.RunCertificates.{length-plan_at, length-direction_at}
use Rattle.rob_runs.proofs.Clearing.WholeLemmas.{factor_pos, over_pos_out}
use Rattle.rob_runs.specs.Readings.{cleared_by}

-- ---- one last basis, as a list
same_list : (n : ℕ) (xs ys : List ℕ) → length xs ≡ n → length ys ≡ n
    → ((i : ℕ) → i < n → slice_index_or xs i 0 ≡ slice_index_or ys i 0) → xs ≡ ys
same_list zero [] [] e f h = refl
same_list zero [] (y ∷ ys) e f h = absurd (omega arith)
same_list zero (x ∷ xs) ys e f h = absurd (omega arith)
same_list (suc n) [] ys e f h = absurd (omega arith)
same_list (suc n) (x ∷ xs) [] e f h = absurd (omega arith)
same_list (suc n) (x ∷ xs) (y ∷ ys) e f h =
    ap₂ (λ v (vs : List ℕ). v ∷ vs) (h zero (omega arith))
    (same_list n xs ys (omega arith) (omega arith) (λ i l. h (suc i) (omega arith)))

pub one_last : (P : Program) (b b' : List ℕ) → length b ≡ P.m → length b' ≡ P.m → Last P (columns_of b)
    → Last P (columns_of b') → b ≡ b'
one_last P b b' e f l l' = same_list P.m b b' e f (last_unique P (columns_of b) (columns_of b') l l')

-- ---- one ending of a basis
module _ (P : Program) (basis : List ℕ) (rows rows' : Matrix) (b : IsBasis (system_of P) (own_at P basis) rows)
    (b' : IsBasis (system_of P) (own_at P basis) rows') where
  one_column : (c d : ℕ) → Enters (system_of P) rows c → Enters (system_of P) rows' d → c ≡ d
  one_column c d e f =
      enters_unique (system_of P) rows' c d
      (enters_same (system_of P) rows rows' c (rows_equal (system_of P) (own_at P basis) rows rows' b b') e) f

  not_both : (c : ℕ) → EndsOptimal (system_of P) rows → Enters (system_of P) rows' c → ⊥
  not_both c o e =
      let cl : c < P.n + P.m = e.inside in
      let h : rows P.m c ≡ rows' P.m c =
      rows_equal (system_of P) (own_at P basis) rows rows' b b' P.m (omega arith) c (omega arith) in
      let p : pos 0 ≤ℤ rows P.m c = o.no_improving c e.inside in
      let n : rows' P.m c <ℤ pos 0 = e.improving in
      omega (arith, ints)

  one_point : (x x' : ℕ → Fraction) → IsBasicPoint (system_of P) (own_at P basis) rows x
      → IsBasicPoint (system_of P) (own_at P basis) rows' x'
      → (k : ℕ) → k < P.n + P.m → x k ≡ x' k
  one_point = same_points P P.c P.c (own_at P basis) (own_at P basis) (λ i l. refl) rows rows' b b'

  one_move : (c : ℕ) (r r' : ℕ → Fraction) → c < P.n + P.m → IsBasicMove (system_of P) (own_at P basis) rows c r
      → IsBasicMove (system_of P) (own_at P basis) rows' c r' → (k : ℕ) → k < P.n + P.m → r k ≡ r' k
  one_move = same_moves P P.c P.c (own_at P basis) (own_at P basis) (λ i l. refl) rows rows' b b'

module _ (m : RobustModel) where
  -- ---- one plan and one direction
  same_vectors : (cuts : List Cut) (first : Fraction) (x x' : ℕ → Fraction)
      → ((k : ℕ) → k < (master_over m cuts).n + (master_over m cuts).m → x k ≡ x' k)
      → plan_vector first (plan_read m x) (bound_read m x) ≡ plan_vector first (plan_read m x') (bound_read m x')
  same_vectors cuts first x x' h =
      ap₂ (λ (p : List Fraction) b. plan_vector first p b)
      (tabulate-same (column_count m) (difference x) (difference x')
      (λ j l. ap₂ ◌-ℚ◌ (h (plus j) (omega arith)) (h (minus j) (omega arith))))
      (ap₂ ◌-ℚ◌ (h (plus (column_count m)) (omega arith)) (h (minus (column_count m)) (omega arith)))

  module _ (model : IsModel m) where
    -- ---- one cut
    module _ (z : List Fraction) (size : length z ≡ form_columns m) where
      -- what is cut off is not kept
      pub cut_not_kept : (c : Cut) → CutsOff m z c → ¬ (KeepsForm m z c.form)
      cut_not_kept c o k = by o.basic
        where
          by : IsBasicCut m z c → ⊥
          by (inl b) =
              Q.not_lt_ℚ (form_at m c.form 1ℚ b.scenario z) 0ℚ
              (k b.scenario
              (found_worst m model c.form o.is_cut.form_in z size b.basis b.scenario b.amounts b.found).admitted)
              (over_pos_out (cleared_by b.scenario) (form_at m c.form 1ℚ b.scenario z) (factor_pos b.scenario)
              (subst (λ v. 0ℚ <ℚ v)
              (scenario_cut_at m model c.form o.is_cut.form_in z size b.basis b.scenario b.amounts b.found c refl
              b.base_is b.vector_is) o.breaks))
          by (inr b) = ray_not_kept m model c.form o.is_cut.form_in z size b.basis b.column b.ray b.found k

      form_not_before : (c d : Cut) → CutsOff m z c → CutsOff m z d → ¬ (c.form < d.form)
      form_not_before c d o p l = cut_not_kept c o (p.first c.form l)

      one_form : (c d : Cut) → CutsOff m z c → CutsOff m z d → c.form ≡ d.form
      one_form c d o p = elim (cases_order c.form d.form) [
        | inl e ↦ e
        | inr (inl l) ↦ absurd (form_not_before c d o p l)
        | inr (inr l) ↦ absurd (form_not_before d c p o l)
      ]

      -- a search does not find both a scenario and a ray
      not_scenario_and_ray : (i : ℕ) (some : i < length (matrices m)) (basis basis' : List ℕ)
          (scenario amounts : List Fraction) (column : ℕ) (ray : List Fraction)
          → FindsScenario m i z basis scenario amounts → ¬ (FindsRay m i z basis' column ray)
      not_scenario_and_ray i some basis basis' scenario amounts column ray f g =
          let t : Fraction = form_at m i 1ℚ scenario z in
          let w : (u : List Fraction) × Admits m u × (1ℚ +ℚ form_at m i 1ℚ scenario z ≤ℚ form_at m i 1ℚ u z) =
          found_no_greatest m model i some z size basis' column ray g (1ℚ +ℚ form_at m i 1ℚ scenario z) in
          Q.not_lt_ℚ (1ℚ +ℚ form_at m i 1ℚ scenario z) (form_at m i 1ℚ scenario z)
          (Q.le_trans_ℚ (1ℚ +ℚ form_at m i 1ℚ scenario z) (form_at m i 1ℚ w.0 z) (form_at m i 1ℚ scenario z) w.2
          (found_greatest m model i some z size basis scenario amounts f w.0 w.1))
          (Q.lt_from (form_at m i 1ℚ scenario z ∷ []) v0 (lit (pos 1) :+ v0) (lit (pos 1)) refl zero_lt_one)

      bases_of : (i j : ℕ) → i ≡ j → (b b' : Columns) → Last (search_at m i z) b → Last (search_at m j z) b'
          → IsSameBasis (search_at m i z).m b b'
      bases_of i j e b b' l l' =
          last_unique (search_at m i z) b b' l (subst (λ v. Last (search_at m v z) b') (sym e) l')

      by_cases : (c d : Cut) → c.form < length (matrices m) → c.form ≡ d.form → IsBasicCut m z c
          → IsBasicCut m z d → c ≡ d
      by_cases c d some e (inl a) (inl b) =
          scenario_told m z z c d a b e
          (bases_of c.form d.form e (columns_of a.basis) (columns_of b.basis) a.found.last b.found.last)
      by_cases c d some e (inl a) (inr b) =
          absurd (not_scenario_and_ray c.form some a.basis b.basis a.scenario a.amounts b.column b.ray a.found
          (subst (λ v. FindsRay m v z b.basis b.column b.ray) (sym e) b.found))
      by_cases c d some e (inr a) (inl b) =
          absurd (not_scenario_and_ray c.form some b.basis a.basis b.scenario b.amounts a.column a.ray
          (subst (λ v. FindsScenario m v z b.basis b.scenario b.amounts) (sym e) b.found) a.found)
      by_cases c d some e (inr a) (inr b) =
          let other : FindsRay m c.form z b.basis b.column b.ray =
          subst (λ v. FindsRay m v z b.basis b.column b.ray) (sym e) b.found in
          let lists : a.basis ≡ b.basis =
          one_last (search_at m c.form z) a.basis b.basis a.found.size other.size a.found.last other.last in
          let moved : FindsRay m c.form z a.basis b.column b.ray =
          subst (λ (v : List ℕ). FindsRay m c.form z v b.column b.ray) (sym lists) other in
          let col : a.column ≡ b.column =
          one_column (search_at m c.form z) a.basis a.found.rows moved.rows a.found.ending.basis moved.ending.basis
          a.column b.column a.found.entering moved.entering in
          ray_told m z z c d a b e col
          (bases_of c.form d.form e (columns_of a.basis) (columns_of b.basis) a.found.last b.found.last)

      pub one_cut : (c d : Cut) → CutsOff m z c → CutsOff m z d → c ≡ d
      one_cut c d o p = by_cases c d o.is_cut.form_in (one_form c d o p) o.basic p.basic

    -- ---- one round
    module _ (cuts : List Cut) where
      abbrev P : Program
      P = master_over m cuts

      pub one_plan : (basis : List ℕ) (x y x' y' : ℕ → Fraction) → MasterIsOptimal m cuts basis x y
          → MasterIsOptimal m cuts basis x' y' → plan_at m x ≡ plan_at m x'
      one_plan basis x y x' y' o p =
          same_vectors cuts 1ℚ x x'
          (one_point (master_over m cuts) basis o.rows p.rows o.ending.basis p.ending.basis x x'
          o.ending.point p.ending.point)

      module _ (basis : List ℕ) (column column' : ℕ) (x r x' r' : ℕ → Fraction)
          (o : MasterIsUnbounded m cuts basis column x r)
          (p : MasterIsUnbounded m cuts basis column' x' r') where
        same_column : column ≡ column'
        same_column =
            one_column (master_over m cuts) basis o.rows p.rows o.ending.basis p.ending.basis column
            column' o.entering p.entering

        pub same_plan : plan_at m x ≡ plan_at m x'
        same_plan =
            same_vectors cuts 1ℚ x x'
            (one_point (master_over m cuts) basis o.rows p.rows o.ending.basis p.ending.basis x x'
            o.ending.point p.ending.point)

        pub same_direction : direction_at m r ≡ direction_at m r'
        same_direction =
            same_vectors cuts 0ℚ r r'
            (one_move (master_over m cuts) basis o.rows p.rows o.ending.basis p.ending.basis column r r'
            o.entering.inside o.ending.move
            (subst (λ v. IsBasicMove (system_of (master_over m cuts)) (own_at (master_over m cuts) basis) p.rows v r')
            (sym same_column) p.ending.move))

      pub not_optimal_and_unbounded : (basis : List ℕ) (x y : ℕ → Fraction) (column : ℕ) (x' r' : ℕ → Fraction)
          → MasterIsOptimal m cuts basis x y
          → ¬ (MasterIsUnbounded m cuts basis column x' r')
      not_optimal_and_unbounded basis x y column x' r' o p =
          not_both (master_over m cuts) basis o.rows p.rows o.ending.basis p.ending.basis column
          o.ending.ends p.entering

      pub not_held : (z z' : List Fraction) (c : Cut) → length z ≡ form_columns m → z ≡ z'
          → KeepsForms m z → ¬ (CutsOff m z' c)
      not_held z z' c size e k o =
          let q : CutsOff m z c = subst (λ (v : List Fraction). CutsOff m v c) (sym e) o in
          cut_not_kept z size c q (k c.form q.is_cut.form_in)

      -- rounds at one basis
      at_basis : (basis : List ℕ) (c d : Cut) (k l : RoundKind) (s t : Bool) → IsRoundOf m cuts basis c k s
          → IsRoundOf m cuts basis d l t
          → (k ≡ l) × (s ≡ t) × (c ≡ d)
      at_basis basis c d best best false false a b = (
        refl,
        refl,
        one_cut (plan_at m a.0) (length-plan_at m a.0) c d a.3
            (subst (λ (v : List Fraction). CutsOff m v d) (sym (one_plan basis a.0 a.1 b.0 b.1 a.2 b.2)) b.3),
      )
      at_basis basis c d best l true t a b = absurd a
      at_basis basis c d k best s true a b = absurd b
      at_basis basis c d best (boundless e) false false a b =
          absurd (not_optimal_and_unbounded basis a.0 a.1 e b.0 b.1 a.2 b.2)
      at_basis basis c d best (boundless e) false true a b =
          absurd (not_optimal_and_unbounded basis a.0 a.1 e b.0 b.1 a.2 b.2)
      at_basis basis c d (boundless e) best false false a b =
          absurd (not_optimal_and_unbounded basis b.0 b.1 e a.0 a.1 b.2 a.2)
      at_basis basis c d (boundless e) best true false a b =
          absurd (not_optimal_and_unbounded basis b.0 b.1 e a.0 a.1 b.2 a.2)
      at_basis basis c d (boundless e) (boundless f) true true a b = (
        ap boundless (same_column basis e f a.0 a.1 b.0 b.1 a.2 b.2),
        refl,
        one_cut (direction_at m a.1) (length-direction_at m a.1) c d a.3
            (subst (λ (v : List Fraction). CutsOff m v d) (sym (same_direction basis e f a.0 a.1 b.0 b.1 a.2 b.2)) b.3),
      )
      at_basis basis c d (boundless e) (boundless f) false false a b = (
        ap boundless (same_column basis e f a.0 a.1 b.0 b.1 a.2 b.2),
        refl,
        one_cut (plan_at m a.0) (length-plan_at m a.0) c d a.4
            (subst (λ (v : List Fraction). CutsOff m v d) (sym (same_plan basis e f a.0 a.1 b.0 b.1 a.2 b.2)) b.4),
      )
      at_basis basis c d (boundless e) (boundless f) true false a b =
          absurd (not_held (direction_at m b.1) (direction_at m a.1) c (length-direction_at m b.1)
          (sym (same_direction basis e f a.0 a.1 b.0 b.1 a.2 b.2)) b.3 a.3)
      at_basis basis c d (boundless e) (boundless f) false true a b =
          absurd (not_held (direction_at m a.1) (direction_at m b.1) d (length-direction_at m a.1)
          (same_direction basis e f a.0 a.1 b.0 b.1 a.2 b.2) a.3 b.3)

      -- a round's basis is the master's last
      pub basis_in : (basis : List ℕ) (c : Cut) (k : RoundKind) (s : Bool) → IsRoundOf m cuts basis c k s
          → (length basis ≡ length cuts) × Last (master_over m cuts) (columns_of basis)
      basis_in basis c best false a = (a.2.size, a.2.last)
      basis_in basis c best true a = absurd a
      basis_in basis c (boundless e) true a = (a.2.size, a.2.last)
      basis_in basis c (boundless e) false a = (a.2.size, a.2.last)

      same_round : (r s : Round) → r.kind ≡ s.kind → r.by_step ≡ s.by_step → r.basis ≡ s.basis → r.cut ≡ s.cut → r ≡ s
      same_round r s e f g h =
          ap (λ v. record { kind = v; by_step = r.by_step; basis = r.basis; cut = r.cut }) e
          ∙ ap (λ v. record { kind = s.kind; by_step = v; basis = r.basis; cut = r.cut }) f
          ∙ ap (λ (v : List ℕ). record { kind = s.kind; by_step = s.by_step; basis = v; cut = r.cut }) g
          ∙ ap (λ v. record { kind = s.kind; by_step = s.by_step; basis = s.basis; cut = v }) h

      pub one_round : (r s : Round) → IsRound m cuts r → IsRound m cuts s → r ≡ s
      one_round r s a b =
          let p : (length r.basis ≡ length cuts) × Last (master_over m cuts) (columns_of r.basis) =
          basis_in r.basis r.cut r.kind r.by_step a in
          let q : (length s.basis ≡ length cuts) × Last (master_over m cuts) (columns_of s.basis) =
          basis_in s.basis s.cut s.kind s.by_step b in
          let e : r.basis ≡ s.basis = one_last (master_over m cuts) r.basis s.basis p.0 q.0 p.1 q.1 in
          let w : (r.kind ≡ s.kind) × (r.by_step ≡ s.by_step) × (r.cut ≡ s.cut) =
          at_basis r.basis r.cut s.cut r.kind s.kind r.by_step s.by_step a
          (subst (λ (v : List ℕ). IsRoundOf m cuts v s.cut s.kind s.by_step) (sym e) b) in
          same_round r s w.0 w.1 e w.2

    one_run_from : (cuts : List Cut) (trace trace' : List Round) → IsRunFrom m cuts trace → IsRunFrom m cuts trace'
        → length trace ≡ length trace' → trace ≡ trace'
    one_run_from cuts [] [] a b e = refl
    one_run_from cuts [] (s ∷ trace') a b e = absurd (omega arith)
    one_run_from cuts (r ∷ trace) [] a b e = absurd (omega arith)
    one_run_from cuts (r ∷ trace) (s ∷ trace') a b e =
        let f : r ≡ s = one_round cuts r s a.0 b.0 in
        ap₂ (λ v (vs : List Round). v ∷ vs) f
        (one_run_from (cuts ++ r.cut ∷ []) trace trace' a.1
        (subst (λ (v : Round). IsRunFrom m (cuts ++ v.cut ∷ []) trace') (sym f) b.1) (omega arith))

    -- one run of each length
    pub one_run : (trace trace' : List Round) → IsRun m trace → IsRun m trace'
        → length trace ≡ length trace' → trace ≡ trace'
    one_run trace trace' a b e = one_run_from [] trace trace' a b e
