-- A basic cut is told by its form, the basic columns and, for a ray, the entering column, whatever plan it was found
-- at. So there are finitely many.
use Rattle.std.proofs.Common.{◌≡◌, ℕ, zero, suc, ◌+◌, ◌<◌, ◌≤◌, List, length, refl, sym, ap, ap₂, ◌∙◌, subst, arith, inl, inr}
use Rattle.std.proofs.lemmas.Bool.{cases_eq}
use Rattle.std.specs.Prelude.{slice_index_or}
use lib.IntN.{ℤ, pos, neg_ℤ}
use Rattle.rob_algebra.specs.Fraction.{Fraction, of_int, ◌-ℚ◌, ◌*ℚ◌}
use Rattle.rob_linear.specs.Vectors.{Columns, Matrix, Vector, columns_of}
use Rattle.rob_linear.specs.Systems.{IsBasis}
use Rattle.rob_linear.specs.Programs.{Program, with_cost, system_of, starting_row}
use Rattle.rob_linear.specs.Turns.{IsSameBasis}
use Rattle.rob_linear.specs.Optimality.{IsBasicPoint, IsBasicMove}
use Rattle.rob_linear.proofs.BasisPaths.Costs.{row_restarted}
use Rattle.rob_linear.proofs.CostChange.Stages.{row_same}
use Rattle.rob_linear.proofs.Bases.Solutions.{basic_or_not}
use Rattle.rob_linear.proofs.Bases.Turns.{own_low, own_same, basis_same}
use Rattle.rob_linear.proofs.Bases.Unique.{row_equal}
use Rattle.rob_linear.proofs.BasisPaths.Paths.{code, code_below, code_apart}
use Rattle.rob_meaning.specs.Clearing.{denominator}
use Rattle.rob_meaning.specs.Forms.{matrices}
use Rattle.rob_meaning.specs.Named.{AreDistinct}
use Rattle.rob_meaning.specs.Places.{Each}
use Rattle.rob_meaning.specs.RobustModel.{RobustModel}
use Rattle.rob_counterpart.specs.Counterpart.{set_program}
use Rattle.rob_counterpart.specs.ReadCertificates.{scenario_read}
use Rattle.rob_counterpart.specs.Splitting.{plus, minus, difference}
use Rattle.rob_counterpart.proofs.Pairs.QuotientLemmas.{over, over_from}
use Rattle.rob_counterpart.proofs.Pairs.TabulateLemmas.{tabulate-same}
use Rattle.rob_runs.specs.Cuts.{Cut, wholes}
use Rattle.rob_runs.specs.Searches.{own_at, search_at, IsScenarioCut, IsRayCut, IsBasicCut, basic_cut_limit}
use Rattle.rob_runs.proofs.Rounds.LimitLemmas.{few_numbered}

-- ---- rows before the objective's don't see the cost, and so don't points and moves
module _ (P : Program) (c d : Vector) (own own' : Columns)
    (same : (i : ℕ) → i ≤ P.m → own i ≡ own' i) (rows rows' : Matrix)
    (b : IsBasis (system_of (with_cost P c)) own rows) (b' : IsBasis (system_of (with_cost P d)) own' rows') where
  moved_basis : IsBasis (system_of (with_cost P d)) own rows'
  moved_basis = basis_same (system_of (with_cost P d)) own own' rows' (λ i l. sym (same i l)) b'

  same_rows : (i k : ℕ) → i < P.m → k ≤ suc (P.n + P.m) → rows i k ≡ rows' i k
  same_rows i k il kl =
      row_equal (system_of (with_cost P c)) own rows i (rows' i) b (omega arith)
      (row_restarted (system_of (with_cost P d)) (starting_row (with_cost P c)) own i (rows' i) refl moved_basis.last
      (λ t k tl kl. row_same P d c t k tl) il (moved_basis.rows_of i (omega arith))) k kl

  own_in : (i : ℕ) → i < P.m → own i < P.n + P.m
  own_in i l = b.inside i l

  -- a number of a row over the row's own entry
  same_quotient : (i : ℕ) (il : i < P.m) (x x' : Fraction) (v v' : ℤ) → v ≡ v' → of_int (rows i (own i)) *ℚ x ≡ of_int v
      → of_int (rows' i (own i)) *ℚ x' ≡ of_int v' → x ≡ x'
  same_quotient i il x x' v v' e f g =
      let l : own i < P.n + P.m = own_in i il in
      over_from x v (rows i (own i)) (b.rows_of i (omega arith)).positive f
      ∙ ap₂ over e (same_rows i (own i) il (omega arith))
      ∙ sym (over_from x' v' (rows' i (own i)) (moved_basis.rows_of i (omega arith)).positive g)

  pub same_points : (x x' : ℕ → Fraction) → IsBasicPoint (system_of (with_cost P c)) own rows x
      → IsBasicPoint (system_of (with_cost P d)) own' rows' x' → (k : ℕ) → k < P.n + P.m → x k ≡ x' k
  same_points x x' p p' k kl =
      elim (basic_or_not P.m own k) [
        | inl h ↦
            ap x h.2
            ∙ same_quotient h.0 h.1 (x (own h.0)) (x' (own h.0)) (rows h.0 (suc (P.n + P.m)))
            (rows' h.0 (suc (P.n + P.m)))
            (same_rows h.0 (suc (P.n + P.m)) h.1 (omega arith)) (p.basic h.0 h.1)
            (subst (λ v. of_int (rows' h.0 v) *ℚ x' v ≡ of_int (rows' h.0 (suc (P.n + P.m))))
            (sym (same h.0 (let l : h.0 < P.m = h.1 in omega arith))) (p'.basic h.0 h.1))
            ∙ ap x' (sym h.2)
        | inr n ↦ p.rest k kl n ∙ sym (p'.rest k kl (λ i l e. n i l (e ∙ sym (same i (omega arith)))))
      ]

  pub same_moves : (col : ℕ) (r r' : ℕ → Fraction) → col < P.n + P.m
      → IsBasicMove (system_of (with_cost P c)) own rows col r
      → IsBasicMove (system_of (with_cost P d)) own' rows' col r' → (k : ℕ) → k < P.n + P.m → r k ≡ r' k
  same_moves col r r' cl p p' k kl =
      elim (basic_or_not P.m own k) [
        | inl h ↦
            ap r h.2
            ∙ same_quotient h.0 h.1 (r (own h.0)) (r' (own h.0)) (neg_ℤ (rows h.0 col)) (neg_ℤ (rows' h.0 col))
            (ap neg_ℤ (same_rows h.0 col h.1 (omega arith))) (p.basic h.0 h.1)
            (subst (λ v. of_int (rows' h.0 v) *ℚ r' v ≡ of_int (neg_ℤ (rows' h.0 col)))
            (sym (same h.0 (let l : h.0 < P.m = h.1 in omega arith))) (p'.basic h.0 h.1))
            ∙ ap r' (sym h.2)
        | inr n ↦ elim (cases_eq k col) [
          | inl e ↦ ap r e ∙ p.entering ∙ sym p'.entering ∙ ap r' (sym e)
          | inr e ↦ p.rest k kl n e ∙ sym (p'.rest k kl (λ i l f. n i l (f ∙ sym (same i (omega arith)))) e)
        ]
      ]

module _ (m : RobustModel) where
  abbrev P : Program
  P = set_program m

  same_scenarios : (x x' : ℕ → Fraction) → ((k : ℕ) → k < (set_program m).n + (set_program m).m → x k ≡ x' k)
      → scenario_read m x ≡ scenario_read m x'
  same_scenarios x x' h =
      tabulate-same (length m.parameters) (difference x) (difference x') (λ c l.
      ap₂ ◌-ℚ◌ (h (plus c) (omega arith)) (h (minus c) (omega arith)))

  same_cut : (c d : Cut) → c.form ≡ d.form → c.base ≡ d.base → c.vector ≡ d.vector → c ≡ d
  same_cut c d e f g =
      ap (λ v. record { form = v; base = c.base; vector = c.vector }) e
      ∙ ap (λ v. record { form = d.form; base = v; vector = c.vector }) f
      ∙ ap (λ (v : List ℤ). record { form = d.form; base = d.base; vector = v }) g

  -- ---- what tells a basic cut
  digits : ℕ → ℕ → List ℕ → ℕ → ℕ
  digits form mark basis zero = form
  digits form mark basis (suc zero) = mark
  digits form mark basis (suc (suc k)) = slice_index_or basis k 0

  -- 0 for a scenario, and the entering column and 1 for a ray
  mark_of : (z : List Fraction) (c : Cut) → IsBasicCut m z c → ℕ
  mark_of z c (inl b) = 0
  mark_of z c (inr b) = suc b.column

  basis_of : (z : List Fraction) (c : Cut) → IsBasicCut m z c → List ℕ
  basis_of z c (inl b) = b.basis
  basis_of z c (inr b) = b.basis

  abbrev pub IsBasicSomewhere : Cut → Type 0
  IsBasicSomewhere c = (c.form < length (matrices m)) × (z : List Fraction) × IsBasicCut m z c

  number : (c : Cut) → IsBasicSomewhere c → ℕ
  number c h =
      code (suc (suc (set_program m).m)) (length (matrices m) + suc ((set_program m).n + (set_program m).m))
      (digits c.form (mark_of h.1 c h.2) (basis_of h.1 c h.2))

  columns_in : (z : List Fraction) (i : ℕ) (basis : List ℕ) (rows : Matrix)
      → IsBasis (system_of (search_at m i z)) (own_at (search_at m i z) basis) rows
      → (k : ℕ) → k < (set_program m).m → slice_index_or basis k 0 < (set_program m).n + (set_program m).m
  columns_in z i basis rows b k l =
      subst (λ v. v < (set_program m).n + (set_program m).m)
      (own_low (system_of (search_at m i z)) (columns_of basis) k l) (b.inside k l)

  digit_in : (z : List Fraction) (c : Cut) (h : IsBasicCut m z c) → c.form < length (matrices m) → (k : ℕ)
      → k < suc (suc (set_program m).m)
      → digits c.form (mark_of z c h) (basis_of z c h) k
      < length (matrices m) + suc ((set_program m).n + (set_program m).m)
  unfolding digits mark_of basis_of
  digit_in z c h f zero l = omega arith
  digit_in z c (inl b) f (suc zero) l = omega arith
  digit_in z c (inr b) f (suc zero) l =
      let e : b.column < (set_program m).n + (set_program m).m = b.found.entering.inside in omega arith
  digit_in z c (inl b) f (suc (suc k)) l =
      let e : slice_index_or b.basis k 0 < (set_program m).n + (set_program m).m =
      columns_in z c.form b.basis b.found.rows b.found.ending.basis k (omega arith) in omega arith
  digit_in z c (inr b) f (suc (suc k)) l =
      let e : slice_index_or b.basis k 0 < (set_program m).n + (set_program m).m =
      columns_in z c.form b.basis b.found.rows b.found.ending.basis k (omega arith) in omega arith

  number_in : (c : Cut) (h : IsBasicSomewhere c) → number c h < basic_cut_limit m
  unfolding number
  number_in c h =
      code_below (suc (suc (set_program m).m)) (length (matrices m) + suc ((set_program m).n + (set_program m).m))
      (digits c.form (mark_of h.1 c h.2) (basis_of h.1 c h.2)) (digit_in h.1 c h.2 h.0)

  -- the same form and the same basis: the same cut
  pub scenario_told : (z z' : List Fraction) (c d : Cut) (a : IsScenarioCut m z c) (b : IsScenarioCut m z' d)
      → c.form ≡ d.form
      → IsSameBasis (set_program m).m (columns_of a.basis) (columns_of b.basis) → c ≡ d
  scenario_told z z' c d a b f s =
      let own : (i : ℕ) → i ≤ (set_program m).m
      → own_at (search_at m c.form z) a.basis i ≡ own_at (search_at m d.form z') b.basis i =
      (λ i l. own_same (system_of (search_at m c.form z)) (columns_of a.basis) (columns_of b.basis) s i) in
      let points : (k : ℕ) → k < (set_program m).n + (set_program m).m → a.found.point k ≡ b.found.point k =
      same_points (set_program m) (search_at m c.form z).c (search_at m d.form z').c
      (own_at (search_at m c.form z) a.basis) (own_at (search_at m d.form z') b.basis) own
      a.found.rows b.found.rows a.found.ending.basis b.found.ending.basis a.found.point b.found.point
      a.found.ending.point b.found.ending.point in
      let scenarios : a.scenario ≡ b.scenario =
      a.found.scenario_is ∙ same_scenarios a.found.point b.found.point points ∙ sym b.found.scenario_is in
      same_cut c d f (a.base_is ∙ ap (λ (v : List Fraction). pos (denominator v)) scenarios ∙ sym b.base_is)
      (a.vector_is ∙ ap wholes scenarios ∙ sym b.vector_is)

  -- for rays also the same column
  pub ray_told : (z z' : List Fraction) (c d : Cut) (a : IsRayCut m z c) (b : IsRayCut m z' d)
      → c.form ≡ d.form → a.column ≡ b.column
      → IsSameBasis (set_program m).m (columns_of a.basis) (columns_of b.basis) → c ≡ d
  ray_told z z' c d a b f col s =
      let own : (i : ℕ) → i ≤ (set_program m).m
      → own_at (search_at m c.form z) a.basis i ≡ own_at (search_at m d.form z') b.basis i =
      (λ i l. own_same (system_of (search_at m c.form z)) (columns_of a.basis) (columns_of b.basis) s i) in
      let moves : (k : ℕ) → k < (set_program m).n + (set_program m).m → a.found.move k ≡ b.found.move k =
      same_moves (set_program m) (search_at m c.form z).c (search_at m d.form z').c
      (own_at (search_at m c.form z) a.basis) (own_at (search_at m d.form z') b.basis) own
      a.found.rows b.found.rows a.found.ending.basis b.found.ending.basis a.column a.found.move b.found.move
      a.found.entering.inside a.found.ending.move
      (subst (λ v. IsBasicMove (system_of (search_at m d.form z')) (own_at (search_at m d.form z') b.basis) b.found.rows
      v b.found.move) (sym col) b.found.ending.move) in
      let rays : a.ray ≡ b.ray = a.found.ray_is ∙ same_scenarios a.found.move b.found.move moves ∙ sym b.found.ray_is in
      same_cut c d f (a.base_is ∙ sym b.base_is) (a.vector_is ∙ ap wholes rays ∙ sym b.vector_is)

  told : (z z' : List Fraction) (c d : Cut) (h : IsBasicCut m z c) (k : IsBasicCut m z' d) → c.form ≡ d.form
      → mark_of z c h ≡ mark_of z' d k
      → IsSameBasis (set_program m).m (columns_of (basis_of z c h)) (columns_of (basis_of z' d k)) → c ≡ d
  unfolding mark_of basis_of
  told z z' c d (inl a) (inl b) f e s = scenario_told z z' c d a b f s
  told z z' c d (inl a) (inr b) f e s = absurd (omega arith)
  told z z' c d (inr a) (inl b) f e s = absurd (omega arith)
  told z z' c d (inr a) (inr b) f e s = ray_told z z' c d a b f (omega arith) s

  number_tells : (c d : Cut) (h : IsBasicSomewhere c) (k : IsBasicSomewhere d) → number c h ≡ number d k → c ≡ d
  unfolding number digits
  number_tells c d h k e =
      let same : (i : ℕ) → i < suc (suc (set_program m).m)
      → digits c.form (mark_of h.1 c h.2) (basis_of h.1 c h.2) i
      ≡ digits d.form (mark_of k.1 d k.2) (basis_of k.1 d k.2) i =
      code_apart (suc (suc (set_program m).m)) (length (matrices m) + suc ((set_program m).n + (set_program m).m))
      (digits c.form (mark_of h.1 c h.2) (basis_of h.1 c h.2)) (digits d.form (mark_of k.1 d k.2) (basis_of k.1 d k.2))
      (digit_in h.1 c h.2 h.0) (digit_in k.1 d k.2 k.0) e in
      told h.1 k.1 c d h.2 k.2 (same 0 (omega arith)) (same 1 (omega arith)) (λ i l. same (suc (suc i)) (omega arith))

  -- pairwise different basic cuts are finitely many
  pub few_basic : (cuts : List Cut) → Each IsBasicSomewhere cuts → AreDistinct cuts → length cuts ≤ basic_cut_limit m
  few_basic = few_numbered IsBasicSomewhere number (basic_cut_limit m) number_in number_tells
