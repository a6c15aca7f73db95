-- Rows up to positive factors choose as the rows of the basis do, and a pivot keeps them such.
use Rattle.std.proofs.Common.{◌≡◌, ◌≢◌, ℕ, suc, ◌*◌, ◌<◌, ◌≤◌, sym, ap, ◌∙◌, subst, arith, inl, inr, cond, eqb}
use Rattle.std.proofs.Math.Nat.{mul-le-mul_right, le_of_mul-le-mul_left, le_of_dvd}
use Rattle.std.proofs.lemmas.Int.{ints, unsigned_abs-mul}
use Rattle.std.proofs.lemmas.Bool.{cases_eq}
use Rattle.std.proofs.lemmas.Bool.Decides.{nat_tests}
use Rattle.std.specs.Int.RustNames.{unsigned_abs}
use lib.IntN.{ℤ, pos, negsuc, ◌-ℤ◌, ◌*ℤ◌}
use lib.Signed.{◌<ℤ◌}
use Rattle.rob_algebra.specs.Integer.{ring, *ℤ_comm, zero-mul, mul-zero, one-mul}
use Rattle.rob_algebra.specs.IntegerOrder.{mul_cancel, mul_cancel_zero, mul_cancel_lt, mul-pos_z}
use Rattle.rob_linear.specs.Vectors.{sum_to}
use Rattle.rob_linear.specs.Systems.{System, IsTagged, objective, right, IsSpanned, IsPrimitive, IsCombined, LiesAlong, IsBasis}
use Rattle.rob_linear.specs.Turns.{IsExchange, Enters, Leaves, Rises, own_of, StandsWith, TurnsTo}
use Rattle.rob_linear.specs.WideRows.{HasWideEntry, IsWideIn}
use Rattle.std.specs.Int.{◌∣◌}
use Rattle.rob_linear.proofs.CostChange.WideRows.{listed_inside, exchange_inside, wide_in_rows}
use Rattle.rob_linear.proofs.Bases.Turns.{own_low, turn_stands}
use Rattle.rob_linear.specs.Multiples.{IsParallel, AreParallel, IsMultipleRow, HasMultipleRows, IsPivotableMultiple, IsClearedBy, IsMultiplePivot, StandsMultiple}
use Rattle.rob_linear.proofs.LinearPrograms.Sums.{sum_ext, sum_scale, dot_combine}
use Rattle.rob_linear.proofs.Bases.Solutions.{own_in, tags_in}
use Rattle.rob_linear.proofs.Bases.Exact.{divides_other}
pub use Rattle.rob_linear.proofs.RowForms.Parallels.{parallel_refl, parallel_sym, parallel_trans, parallel_zero, parallel_positive, parallel_nonnegative, parallel_negative, parallel_nonpositive, parallel_quotient, parallel_along, multiple_parallel, multiples_in, basis_multiples, multiples_basis, primitive_row, multiple_rows_exist, rows_parallel, are_sym, key_parallel, before_parallel, before_column, lex_parallel, order_parallel, enters_parallel, leaves_parallel, feasible_parallel, none_improves_parallel, no_limit_parallel, optimal_parallel, unbounded_parallel, rises_parallel}

-- ---- pivots
pub spanned_cleared : (S : System) (d p q : ℤ) (low top new : ℕ → ℤ) → ((t : ℕ) → t ≤ S.m → S.tag t ≤ right S)
    → pos 0 <ℤ d → ((k : ℕ) → k < suc (right S) → d *ℤ new k ≡ (p *ℤ low k) -ℤ (q *ℤ top k)) → IsSpanned S low
    → IsSpanned S top → IsSpanned S new
spanned_cleared S d p q low top new tags dp entries hl ht k kl =
    mul_cancel d (new k) (sum_to (suc S.m) (λ t. new (S.tag t) *ℤ S.start t k)) dp
    (entries k (omega arith) ∙ sym
    (sym (sum_scale (suc S.m) d (λ t. new (S.tag t) *ℤ S.start t k))
    ∙ sum_ext (suc S.m) (λ t. d *ℤ (new (S.tag t) *ℤ S.start t k))
    (λ t. ((p *ℤ low (S.tag t)) -ℤ (q *ℤ top (S.tag t))) *ℤ S.start t k) (λ t l.
    let g : S.tag t ≤ right S = tags t (omega arith) in
    let a : d *ℤ (new (S.tag t) *ℤ S.start t k) ≡ (d *ℤ new (S.tag t)) *ℤ S.start t k = simp ring in
    a ∙ ap (λ v. v *ℤ S.start t k) (entries (S.tag t) (omega arith)))
    ∙ dot_combine (suc S.m) p q (λ t. low (S.tag t)) (λ t. top (S.tag t)) (λ t. S.start t k)
    ∙ ap (λ v. (p *ℤ v) -ℤ (q *ℤ sum_to (suc S.m) (λ t. top (S.tag t) *ℤ S.start t k))) (sym (hl k kl))
    ∙ ap (λ v. (p *ℤ low k) -ℤ (q *ℤ v)) (sym (ht k kl))))

-- a row below the pivot's; the sign of the pivot's row is nothing to it
pub cleared_row : (S : System) (own own' : ℕ → ℕ) (low top new : ℕ → ℤ) (e col i : ℕ)
    → ((t : ℕ) → t ≤ S.m → S.tag t ≤ right S) → ((j : ℕ) → j ≤ S.m → own j ≤ right S) → own' e ≡ col
    → ((j : ℕ) → j ≢ e → own' j ≡ own j) → i ≤ S.m → i ≢ e → IsMultipleRow S own i low → LiesAlong S own e top
    → IsClearedBy (suc (right S)) col low top new → IsMultipleRow S own' i new
cleared_row S own own' low top new e col i tags inside at other il d hl ht c =
    let value : (j : ℕ) → j ≤ S.m → j ≢ e → c.divisor *ℤ new (own j) ≡ c.p *ℤ low (own j) =
    (λ j jl jd.
    let o : own j ≤ right S = inside j jl in
    let z : c.q *ℤ top (own j) ≡ pos 0 = ap (λ v. c.q *ℤ v) (ht.zeros j jl jd) ∙ mul-zero c.q in
    let w : c.divisor *ℤ new (own j) ≡ (c.p *ℤ low (own j)) -ℤ (c.q *ℤ top (own j)) = c.entries (own j) (omega arith) in
    omega (arith, ints)) in
    record {
      along = record {
        zeros = λ j jl jd. elim (cases_eq j e) [
          | inl g ↦ ap new (ap own' g ∙ at) ∙ c.cleared
          | inr g ↦ ap new (other j g)
              ∙ mul_cancel_zero c.divisor (new (own j)) c.divides
              (value j jl g ∙ ap (λ v. c.p *ℤ v) (hl.zeros j jl jd) ∙ mul-zero c.p)
        ];
        spanned = spanned_cleared S c.divisor c.p c.q low top new tags c.divides c.entries hl.spanned ht.spanned;
      };
      positive = subst (λ v. pos 0 <ℤ new v) (sym (other i d))
          (mul_cancel_lt c.divisor (pos 0) (new (own i)) c.divides
          (subst (λ v. v <ℤ (c.divisor *ℤ new (own i))) (sym (mul-zero c.divisor))
          (subst (λ v. pos 0 <ℤ v) (sym (value i il d)) (mul-pos_z c.p (low (own i)) c.positive hl.positive))));
    }

-- the pivot's own row
pub pivot_row : (S : System) (own own' : ℕ → ℕ) (top : ℕ → ℤ) (e col : ℕ) → own' e ≡ col
    → ((j : ℕ) → j ≢ e → own' j ≡ own j) → LiesAlong S own e top → pos 0 <ℤ top col → IsMultipleRow S own' e top
pivot_row S own own' top e col at other ht p = record {
  along = record {
    zeros = λ j jl jd. ap top (other j jd) ∙ ht.zeros j jl jd;
    spanned = ht.spanned;
  };
  positive = subst (λ v. pos 0 <ℤ top v) (sym at) p;
}

pub multiple_pivot : (S : System) (own own' : ℕ → ℕ) (rows rows' : ℕ → ℕ → ℤ) (e col : ℕ) → IsTagged S
    → IsPivotableMultiple S own rows e → IsMultiplePivot S own own' rows rows' e col → HasMultipleRows S own' rows'
multiple_pivot S own own' rows rows' e col g b v =
    let w : e < S.m = v.row_in in
    let ci : col < S.columns = v.col_in in
    let inside' : (i : ℕ) → i < S.m → own' i < S.columns =
    (λ i l. elim (cases_eq i e) [
      | inl c ↦ subst (λ u. u < S.columns) (sym (ap own' c ∙ v.own_at)) v.col_in
      | inr c ↦ subst (λ u. u < S.columns) (sym (v.own_other i c)) (b.inside i l)
    ]) in
    let last' : own' S.m ≡ objective S = v.own_other S.m (omega arith) ∙ b.last in
    let bound : (j : ℕ) → j ≤ S.m → own j ≤ right S =
    (λ j jl. let o : own j < suc S.columns = own_in S own b.inside b.last j jl in omega arith) in
    let bound' : (j : ℕ) → j ≤ S.m → own' j ≤ right S =
    (λ j jl. let o : own' j < suc S.columns = own_in S own' inside' last' j jl in omega arith) in
    record {
      inside = inside';
      last = last';
      rows_of = λ i l. elim (cases_eq i e) [
        | inl c ↦
            subst (λ t. IsMultipleRow S own' t (rows' t)) (sym c)
            (multiple_parallel S own' e (rows e) (rows' e) (tags_in S g) bound' (omega arith)
            (parallel_sym (suc (right S)) (rows' e) (rows e) v.row_at)
            (pivot_row S own own' (rows e) e col v.own_at v.own_other b.along v.entry))
        | inr c ↦ cleared_row S own own' (rows i) (rows e) (rows' i) e col i (tags_in S g) bound v.own_at v.own_other l
            c (b.others i l c) b.along (v.row_other i l c)
      ];
    }

-- ---- turns
pub multiple_turn : (S : System) (basis next : ℕ → ℕ) (rows rows' : ℕ → ℕ → ℤ) (e col : ℕ) → IsTagged S
    → StandsMultiple S basis rows → Enters S rows col → Leaves S rows col e
    → IsMultiplePivot S (own_of S basis) (own_of S next) rows rows' e col → TurnsTo S basis next
    × StandsMultiple S next rows' × Rises S (rows S.m) (rows' S.m)
multiple_turn S basis next rows rows' e col g s en le v =
    let el : e < S.m = v.row_in in
    let b : (prim : ℕ → ℕ → ℤ) × IsBasis S (own_of S basis) prim =
    multiple_rows_exist S (own_of S basis) rows g s.multiples in
    let par : AreParallel S rows b.0 = rows_parallel S (own_of S basis) b.0 rows b.1 s.multiples in
    let t : TurnsTo S basis next = record {
      rows = b.0;
      position = e;
      column = col;
      is_basis = b.1;
      enters = enters_parallel S rows b.0 col par en;
      leaves = leaves_parallel S rows b.0 col e g v.col_in par le;
      exchanged = λ i l. elim (cases_eq i e) [
        | inl c ↦
            let f : cond (eqb i e) col (basis i) ≡ col = grind (arith, nat_tests) in
            sym (own_low S next i l) ∙ ap (own_of S next) c ∙ v.own_at ∙ sym f
        | inr d ↦
            let f : cond (eqb i e) col (basis i) ≡ basis i = grind (arith, nat_tests) in
            sym (own_low S next i l) ∙ v.own_other i d ∙ own_low S basis i l ∙ sym f
      ];
    } in
    let sw : StandsWith S basis b.0 =
    record { is_basis = b.1; feasible = order_parallel S rows b.0 g par s.feasible } in
    let n : (rows'' : ℕ → ℕ → ℤ) × StandsWith S next rows'' × Rises S (b.0 S.m) (rows'' S.m) =
    turn_stands S basis next b.0 g sw t in
    let pv : IsPivotableMultiple S (own_of S basis) rows e = record {
      inside = s.multiples.inside;
      last = s.multiples.last;
      others = λ i il d. s.multiples.rows_of i il;
      along = (s.multiples.rows_of e (omega arith)).along;
    } in
    let m' : HasMultipleRows S (own_of S next) rows' =
    multiple_pivot S (own_of S basis) (own_of S next) rows rows' e col g pv v in
    let par' : AreParallel S rows' n.0 = rows_parallel S (own_of S next) n.0 rows' n.1.is_basis m' in (
      t,
      record { multiples = m'; feasible = order_parallel S n.0 rows' g (are_sym S rows' n.0 par') n.1.feasible },
      rises_parallel S (b.0 S.m) (rows S.m) (n.0 S.m) (rows' S.m) g
          (parallel_sym (suc (right S)) (rows S.m) (b.0 S.m) (par S.m (omega arith)))
          (parallel_sym (suc (right S)) (rows' S.m) (n.0 S.m) (par' S.m (omega arith))) n.2,
    )

-- ---- width
least_of : (n p q : ℕ) (r s : ℕ → ℤ) → 0 < p → 0 < q → ((k : ℕ) → k < n → pos p *ℤ r k ≡ pos q *ℤ s k) → IsPrimitive n s
    → (k : ℕ) → k < n → unsigned_abs (s k) ≤ unsigned_abs (r k)
least_of n p q r s pp qp e h k kl =
    let a : (k : ℕ) → k < n → p * unsigned_abs (r k) ≡ q * unsigned_abs (s k) =
    (λ k l. sym (unsigned_abs-mul (pos p) (r k)) ∙ ap unsigned_abs (e k l) ∙ unsigned_abs-mul (pos q) (s k)) in
    let d : p ∣ q = divides_other n p q (λ k. unsigned_abs (r k)) (λ k. unsigned_abs (s k)) pp a h in
    let l : p ≤ q = le_of_dvd qp d in
    let b : p * unsigned_abs (s k) ≤ q * unsigned_abs (s k) = mul-le-mul_right (unsigned_abs (s k)) l in
    let c : p * unsigned_abs (r k) ≡ q * unsigned_abs (s k) = a k kl in
    le_of_mul-le-mul_left {m = unsigned_abs (s k)} {n = unsigned_abs (r k)} {k = p} (omega arith) pp

-- the primitive one of parallel rows has the least entries
pub primitive_least : (n : ℕ) (p q : ℤ) (r s : ℕ → ℤ) → pos 0 <ℤ p → pos 0 <ℤ q
    → ((k : ℕ) → k < n → p *ℤ r k ≡ q *ℤ s k) → IsPrimitive n s → (k : ℕ) → k < n
    → unsigned_abs (s k) ≤ unsigned_abs (r k)
primitive_least n (negsuc p) q r s pp qp e h k kl = absurd (omega (arith, ints))
primitive_least n (pos p) (negsuc q) r s pp qp e h k kl = absurd (omega (arith, ints))
primitive_least n (pos p) (pos q) r s pp qp e h k kl =
    least_of n p q r s (omega (arith, ints)) (omega (arith, ints)) e h k kl

-- so no row is wide whose multiple at hand is not
pub wide_multiple : (limit : ℕ) (S : System) (basis : ℕ → ℕ) (rows : ℕ → ℕ → ℤ) (i : ℕ) → IsTagged S
    → HasMultipleRows S (own_of S basis) rows → i ≤ S.m → IsWideIn limit S basis i → HasWideEntry limit S (rows i)
wide_multiple limit S basis rows i g h il w =
    let b : (prim : ℕ → ℕ → ℤ) × IsBasis S (own_of S basis) prim = multiple_rows_exist S (own_of S basis) rows g h in
    let v : HasWideEntry limit S (b.0 i) = wide_in_rows limit S basis b.0 i b.1 il w in
    let par : IsParallel (suc (right S)) (rows i) (b.0 i) = rows_parallel S (own_of S basis) b.0 rows b.1 h i il in
    let kl : v.0 ≤ right S = v.1 in
    let x : limit < unsigned_abs (b.0 i v.0) = v.2 in
    let y : unsigned_abs (b.0 i v.0) ≤ unsigned_abs (rows i v.0) =
    primitive_least (suc (right S)) par.p par.q (rows i) (b.0 i) par.p_positive par.q_positive par.same
    (b.1.rows_of i il).primitive v.0 (omega arith) in
    (v.0, v.1, omega arith)

-- and a row is wide whose multiple at hand, made primitive, is
pub multiple_wide : (limit : ℕ) (S : System) (basis : ℕ → ℕ) (rows : ℕ → ℕ → ℤ) (i : ℕ) (s : ℕ → ℤ) → IsTagged S
    → HasMultipleRows S (own_of S basis) rows → i ≤ S.m → IsParallel (suc (right S)) (rows i) s
    → IsPrimitive (suc (right S)) s → HasWideEntry limit S s → IsWideIn limit S basis i
multiple_wide limit S basis rows i s g h il par p w = (
  s,
  listed_inside S basis h.inside,
  primitive_row S (own_of S basis) i (rows i) s g (multiples_in S (own_of S basis) rows h) il
      (h.rows_of i il) par p,
  w,
)

-- the row that a pivot would make of row i, where it is in lowest terms
pub pivot_wide : (limit : ℕ) (S : System) (basis next : ℕ → ℕ) (rows : ℕ → ℕ → ℤ) (e col i : ℕ) (new : ℕ → ℤ)
    → IsTagged S → IsPivotableMultiple S (own_of S basis) rows e
    → IsExchange S (own_of S basis) (own_of S next) rows e col → i ≤ S.m → i ≢ e
    → IsClearedBy (suc (right S)) col (rows i) (rows e) new → IsPrimitive (suc (right S)) new → HasWideEntry limit S new
    → IsWideIn limit S next i
pivot_wide limit S basis next rows e col i new g b v il d c p w =
    let m : IsMultipleRow S (own_of S next) i new =
    cleared_row S (own_of S basis) (own_of S next) (rows i) (rows e) new e col i (tags_in S g)
    (λ j jl. let o : own_of S basis j < suc S.columns = own_in S (own_of S basis) b.inside b.last j jl in
    omega arith) v.own_at v.own_other il d (b.others i il d) b.along c in (
      new,
      exchange_inside S (own_of S basis) next rows e col b.inside v,
      record {
        along = m.along;
        positive = m.positive;
        primitive = p;
      },
      w,
    )

-- ---- a row that a pivot in lowest terms makes, or that stays since it is 0 in the column
pub combined_clears : (n col : ℕ) (low top new : ℕ → ℤ) → col < n → pos 0 <ℤ top col
    → IsCombined n (top col) low (low col) top new → IsClearedBy n col low top new
combined_clears n col low top new l p c = record {
  divisor = c.divisor;
  p = top col;
  q = low col;
  divides = c.positive;
  positive = p;
  entries = c.entries;
  cleared =
      let e : c.divisor *ℤ new col ≡ (top col *ℤ low col) -ℤ (low col *ℤ top col) = c.entries col l in
      let s : top col *ℤ low col ≡ low col *ℤ top col = *ℤ_comm (top col) (low col) in
      mul_cancel_zero c.divisor (new col) c.positive (omega (arith, ints));
}

pub zero_clears : (n col : ℕ) (low top new : ℕ → ℤ) → col < n → low col ≡ pos 0 → ((k : ℕ) → k < n → new k ≡ low k)
    → IsClearedBy n col low top new
zero_clears n col low top new l z e = record {
  divisor = pos 1;
  p = pos 1;
  q = pos 0;
  divides = omega (arith, ints);
  positive = omega (arith, ints);
  entries = λ k kl.
      let a : new k ≡ low k = e k kl in
      let b : pos 0 *ℤ top k ≡ pos 0 = zero-mul (top k) in
      omega (arith, ints);
  cleared = e col l ∙ z;
}

-- with both factors divided by what is common to them
pub factors_clear : (n col : ℕ) (low top new : ℕ → ℤ) (p q : ℤ) → col < n → pos 0 <ℤ p → p *ℤ low col ≡ q *ℤ top col
    → ((k : ℕ) → k < n → new k ≡ (p *ℤ low k) -ℤ (q *ℤ top k)) → IsClearedBy n col low top new
factors_clear n col low top new p q l pp s e = record {
  divisor = pos 1;
  p = p;
  q = q;
  divides = omega (arith, ints);
  positive = pp;
  entries = λ k kl. let a : new k ≡ (p *ℤ low k) -ℤ (q *ℤ top k) = e k kl in omega (arith, ints);
  cleared = let a : new col ≡ (p *ℤ low col) -ℤ (q *ℤ top col) = e col l in omega (arith, ints);
}

-- a row divided by something common to its entries
pub divided_parallel : (n : ℕ) (r s : ℕ → ℤ) (d : ℤ) → pos 0 <ℤ d
    → ((k : ℕ) → k < n → d *ℤ s k ≡ r k) → IsParallel n r s
divided_parallel n r s d dp e =
    record {
      p = pos 1;
      q = d;
      p_positive = omega (arith, ints);
      q_positive = dp;
      same = λ k kl. one-mul (r k) ∙ sym (e k kl);
    }
