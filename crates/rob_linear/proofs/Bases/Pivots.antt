-- A pivot keeps the rows of a basis.
use Rattle.std.proofs.Common.{◌≡◌, ◌≢◌, ℕ, suc, ◌<◌, ◌≤◌, sym, ap, ◌∙◌, subst, arith, inl, inr}
use Rattle.std.proofs.lemmas.Int.{ints}
use Rattle.std.proofs.lemmas.Bool.{cases_eq}
use lib.IntN.{ℤ, pos, ◌-ℤ◌, ◌*ℤ◌}
use lib.Signed.{◌<ℤ◌}
use Rattle.std.specs.Int.RustNames.{unsigned_abs}
use Rattle.std.specs.Int.{◌∣◌}
use Rattle.rob_linear.specs.Vectors.{sum_to}
use Rattle.rob_linear.specs.Systems.{System, right, IsSpanned, RowOf, IsBasis, IsCombined}
use Rattle.rob_linear.specs.Turns.{IsExchange, IsPivot, IsPivotable}
use Rattle.rob_algebra.specs.Integer.{ring, mul-zero, *ℤ_comm}
use Rattle.rob_algebra.specs.IntegerOrder.{mul_cancel, mul_cancel_zero, mul_cancel_lt, mul-pos_z}
use Rattle.rob_linear.proofs.LinearPrograms.Sums.{sum_ext, sum_scale, dot_combine}
use Rattle.rob_linear.proofs.Bases.Solutions.{own_in}

pub basis_pivotable : (S : System) (own : ℕ → ℕ) (rows : ℕ → ℕ → ℤ) (e : ℕ) → e ≤ S.m → IsBasis S own rows
    → IsPivotable S own rows e
basis_pivotable S own rows e l b =
    record {
      inside = b.inside;
      last = b.last;
      others = λ i il d. b.rows_of i il;
      along = (b.rows_of e l).along;
      primitive = (b.rows_of e l).primitive;
    }

-- a combination of spanned rows is spanned
pub spanned_combined : (S : System) (p q : ℤ) (low top new : ℕ → ℤ) → ((t : ℕ) → t ≤ S.m → S.tag t ≤ right S)
    → IsSpanned S low → IsSpanned S top → IsCombined (suc (right S)) p low q top new → IsSpanned S new
spanned_combined S p q low top new tags hl ht c k kl =
    let at_k : c.divisor *ℤ new k ≡ (p *ℤ low k) -ℤ (q *ℤ top k) = c.entries k (omega arith) in
    let inner : c.divisor *ℤ sum_to (suc S.m) (λ t. new (S.tag t) *ℤ S.start t k) ≡ (p *ℤ low k) -ℤ (q *ℤ top k) =
    sym (sum_scale (suc S.m) c.divisor (λ t. new (S.tag t) *ℤ S.start t k))
    ∙ sum_ext (suc S.m) (λ t. c.divisor *ℤ (new (S.tag t) *ℤ S.start t k))
    (λ t. ((p *ℤ low (S.tag t)) -ℤ (q *ℤ top (S.tag t))) *ℤ S.start t k) (λ t l.
    let g : S.tag t ≤ right S = tags t (omega arith) in
    let a : c.divisor *ℤ (new (S.tag t) *ℤ S.start t k) ≡ (c.divisor *ℤ new (S.tag t)) *ℤ S.start t k = simp ring in
    a ∙ ap (λ v. v *ℤ S.start t k) (c.entries (S.tag t) (omega arith)))
    ∙ dot_combine (suc S.m) p q (λ t. low (S.tag t)) (λ t. top (S.tag t)) (λ t. S.start t k)
    ∙ ap (λ v. (p *ℤ v) -ℤ (q *ℤ sum_to (suc S.m) (λ t. top (S.tag t) *ℤ S.start t k))) (sym (hl k kl))
    ∙ ap (λ v. (p *ℤ low k) -ℤ (q *ℤ v)) (sym (ht k kl)) in
    mul_cancel c.divisor (new k) (sum_to (suc S.m) (λ t. new (S.tag t) *ℤ S.start t k)) c.positive (at_k ∙ sym inner)

-- an entry of a combined row that is 0 in both rows, or where the two parts cancel
combined_zero : (n : ℕ) (p q : ℤ) (low top new : ℕ → ℤ) (k : ℕ) → IsCombined n p low q top new → k < n
    → (p *ℤ low k) -ℤ (q *ℤ top k) ≡ pos 0 → new k ≡ pos 0
combined_zero n p q low top new k c l h = mul_cancel_zero c.divisor (new k) c.positive (c.entries k l ∙ h)

combined_positive : (n : ℕ) (p q : ℤ) (low top new : ℕ → ℤ) (k : ℕ) → IsCombined n p low q top new → k < n
    → pos 0 <ℤ ((p *ℤ low k) -ℤ (q *ℤ top k)) → pos 0 <ℤ new k
combined_positive n p q low top new k c l h =
    mul_cancel_lt c.divisor (pos 0) (new k) c.positive (rw (c.entries k l, mul-zero) h)

-- a row below the pivot's
pub row_of_other : (S : System) (own own' : ℕ → ℕ) (rows : ℕ → ℕ → ℤ) (new : ℕ → ℤ) (e col i : ℕ)
    → ((t : ℕ) → t ≤ S.m → S.tag t ≤ right S) → IsPivotable S own rows e → IsExchange S own own' rows e col → i ≤ S.m
    → i ≢ e → IsCombined (suc (right S)) (rows e col) (rows i) (rows i col) (rows e) new → RowOf S own' i new
row_of_other S own own' rows new e col i tags b v l d c =
    let eb : own i < suc S.columns = own_in S own b.inside b.last i l in
    let re : e ≤ S.m = let w : e < S.m = v.row_in in omega arith in
    let cin : col < S.columns = v.col_in in
    let z : rows e (own i) ≡ pos 0 = b.along.zeros i l d in
    let zz : rows i col *ℤ rows e (own i) ≡ pos 0 = ap (λ t. rows i col *ℤ t) z ∙ mul-zero (rows i col) in
    let pp : pos 0 <ℤ (rows e col *ℤ rows i (own i)) =
    mul-pos_z (rows e col) (rows i (own i)) v.entry (b.others i l d).positive in
    record {
      along = record {
        zeros = λ j jl jd. elim (cases_eq j e) [
          | inl g ↦
              let h : own' j ≡ col = ap own' g ∙ v.own_at in
              let s : rows e col *ℤ rows i col ≡ rows i col *ℤ rows e col = *ℤ_comm (rows e col) (rows i col) in
              rw h (combined_zero (suc (right S)) (rows e col) (rows i col) (rows i) (rows e) new col c
              (omega arith) (omega (arith, ints)))
          | inr g ↦
              let h : own' j ≡ own j = v.own_other j g in
              let jb : own j < suc S.columns = own_in S own b.inside b.last j jl in
              let a : rows e col *ℤ rows i (own j) ≡ pos 0 =
              ap (λ t. rows e col *ℤ t) ((b.others i l d).zeros j jl jd) ∙ mul-zero (rows e col) in
              let f : rows i col *ℤ rows e (own j) ≡ pos 0 =
              ap (λ t. rows i col *ℤ t) (b.along.zeros j jl g) ∙ mul-zero (rows i col) in
              rw h (combined_zero (suc (right S)) (rows e col) (rows i col) (rows i) (rows e) new (own j) c
              (omega arith) (omega (arith, ints)))
        ];
        spanned = spanned_combined S (rows e col) (rows i col) (rows i) (rows e) new tags
            (b.others i l d).spanned b.along.spanned c;
      };
      positive = rw (v.own_other i d)
          (combined_positive (suc (right S)) (rows e col) (rows i col) (rows i) (rows e) new (own i) c
          (omega arith) (omega (arith, ints)));
      primitive = c.primitive;
    }

-- a row that has the same entries
row_of_same : (S : System) (own own' : ℕ → ℕ) (rows rows' : ℕ → ℕ → ℤ) (e col : ℕ)
    → ((t : ℕ) → t ≤ S.m → S.tag t ≤ right S) → IsPivotable S own rows e → IsPivot S own own' rows rows' e col
    → RowOf S own' e (rows' e)
row_of_same S own own' rows rows' e col tags b v =
    let re : e ≤ S.m = let w : e < S.m = v.row_in in omega arith in
    let cin : col < S.columns = v.col_in in
    record {
      positive = rw (v.own_at, v.row_at col (omega arith)) v.entry;
      along = record {
        zeros = λ j jl jd.
            let h : own' j ≡ own j = v.own_other j jd in
            let jb : own j < suc S.columns = own_in S own b.inside b.last j jl in
            rw h (v.row_at (own j) (omega arith) ∙ b.along.zeros j jl jd);
        spanned = λ k kl.
            v.row_at k kl ∙ b.along.spanned k kl
            ∙ sum_ext (suc S.m) (λ t. rows e (S.tag t) *ℤ S.start t k) (λ t. rows' e (S.tag t) *ℤ S.start t k)
            (λ t tl. ap (λ w. w *ℤ S.start t k) (sym (v.row_at (S.tag t) (tags t (omega arith)))));
      };
      primitive = λ d h. b.primitive d (λ k kl. subst (λ w. d ∣ unsigned_abs w) (v.row_at k (omega arith)) (h k kl));
    }

-- the rows after a pivot are those of the new basis
pub pivot_is_basis : (S : System) (own own' : ℕ → ℕ) (rows rows' : ℕ → ℕ → ℤ) (e col : ℕ)
    → ((t : ℕ) → t ≤ S.m → S.tag t ≤ right S) → IsPivotable S own rows e
    → IsPivot S own own' rows rows' e col → IsBasis S own' rows'
pivot_is_basis S own own' rows rows' e col tags b v =
    let w : e < S.m = v.row_in in
    record {
      inside = λ i l. elim (cases_eq i e) [
        | inl g ↦ rw (g, v.own_at) v.col_in
        | inr g ↦ rw (v.own_other i g) (b.inside i l)
      ];
      last = v.own_other S.m (omega arith) ∙ b.last;
      rows_of = λ i l. elim (cases_eq i e) [
        | inl g ↦ subst (λ t. RowOf S own' t (rows' t)) (sym g) (row_of_same S own own' rows rows' e col tags b v)
        | inr g ↦ row_of_other S own own' rows (rows' i) e col i tags b v.exchange l g (v.row_other i l g)
      ];
    }
