-- The rows as they stand where the auxiliary column comes in.
use Rattle.std.proofs.Common.{◌≡◌, ◌≢◌, ℕ, suc, ◌+◌, ◌<◌, ◌≤◌, ap, ◌∙◌, subst, arith, length}
use lib.IntN.{pos, ◌-ℤ◌, ◌*ℤ◌}
use lib.Signed.{◌<ℤ◌}
use Rattle.rob_linear.specs.Vectors.{Vector, Columns}
use Rattle.rob_linear.specs.Systems.{System}
use Rattle.rob_linear.specs.Turns.{own_of, IsSameBasis}
use Rattle.rob_linear.specs.WideRows.{IsWideIn}
use Rattle.rob_linear.specs.Multiples.{IsMultipleRow, IsClearedBy}
use Rattle.rob_linear.proofs.Bases.Turns.{own_same}
use Rattle.rob_simplex.specs.Dictionaries.{Table, positions, width_of, rows_of, kept_row_of}
use Rattle.rob_simplex.specs.Explicit.{IsPrepared}

-- the same entries
pub cleared_same : (n n' col : ℕ) (low low' top top' new new' : Vector) → n' ≤ n → col < n'
    → ((k : ℕ) → k < n' → low k ≡ low' k) → ((k : ℕ) → k < n' → top k ≡ top' k) → ((k : ℕ) → k < n' → new' k ≡ new k)
    → IsClearedBy n col low top new → IsClearedBy n' col low' top' new'
cleared_same n n' col low low' top top' new new' l cl el et en c = record {
  divisor = c.divisor;
  p = c.p;
  q = c.q;
  divides = c.divides;
  positive = c.positive;
  entries = λ k kl.
      ap (λ z. c.divisor *ℤ z) (en k kl) ∙ c.entries k (omega arith) ∙ ap (λ z. (c.p *ℤ z) -ℤ (c.q *ℤ top k)) (el k kl)
      ∙ ap (λ z. (c.p *ℤ low' k) -ℤ (c.q *ℤ z)) (et k kl);
  cleared = en col cl ∙ c.cleared;
}

-- the same columns
pub row_of_same : (S : System) (basis basis' : Columns) (i : ℕ) (r : Vector) → IsSameBasis S.m basis basis'
    → IsMultipleRow S (own_of S basis) i r → IsMultipleRow S (own_of S basis') i r
row_of_same S basis basis' i r e h = record {
  along =
      record {
        zeros =
            λ j jl d. subst (λ v. r v ≡ pos 0) (own_same S basis basis' e j) (h.along.zeros j jl d);
        spanned =
            h.along.spanned;
      };
  positive = subst (λ v. pos 0 <ℤ r v) (own_same S basis basis' e i) h.positive;
}

pub wide_same : (limit : ℕ) (S : System) (basis basis' : Columns) (i : ℕ) → IsSameBasis S.m basis basis'
    → IsWideIn limit S basis i → IsWideIn limit S basis' i
wide_same limit S basis basis' i e w = (
  w.0,
  (λ j jl. subst (λ v. v < S.columns) (e j jl) (w.1 j jl)),
  record {
    along =
        record {
          zeros =
              λ j jl d. subst (λ v. w.0 v ≡ pos 0) (own_same S basis basis' e j) (w.2.along.zeros j jl d);
          spanned =
              w.2.along.spanned;
        };
    positive = subst (λ v. pos 0 <ℤ w.0 v) (own_same S basis basis' e i) w.2.positive;
    primitive = w.2.primitive;
  },
  w.3,
)

module _ (t t1 t2 : Table) (k1 : (c : ℕ) → kept_row_of t1 c ≡ rows_of t (positions t) c)
    (r1 : (i c : ℕ) → i ≤ positions t → rows_of t1 i c ≡ rows_of t i c) (b1 : t1.basis ≡ t.basis)
    (n1 : t1.columns ≡ t.columns)
    (a2 : rows_of t2 (positions t1) (t1.columns + positions t1) ≡ pos 1)
    (o2 : rows_of t2 (positions t1) (suc (t1.columns + positions t1)) ≡ pos 1)
    (z2 : (c : ℕ) → c < width_of t1 → c ≢ t1.columns + positions t1 → c ≢ suc (t1.columns + positions t1)
    → rows_of t2 (positions t1) c ≡ pos 0)
    (r2 : (i c : ℕ) → i < positions t1 → rows_of t2 i c ≡ rows_of t1 i c)
    (k2 : (c : ℕ) → kept_row_of t2 c ≡ kept_row_of t1 c) (b2 : t2.basis ≡ t1.basis) (n2 : t2.columns ≡ t1.columns) where
  m1 : positions t1 ≡ positions t
  m1 = ap length b1

  pub prepared : IsPrepared t.columns (positions t) t t2
  prepared = record {
    basis = b2 ∙ b1;
    columns = n2 ∙ n1;
    rows = λ i c l. r2 i c (omega (arith, m1)) ∙ r1 i c (omega arith);
    kept = λ c. k2 c ∙ k1 c;
    auxiliary =
        subst (λ n. rows_of t2 (positions t) (n + positions t) ≡ pos 1) n1
        (subst (λ m. rows_of t2 m (t1.columns + m) ≡ pos 1) m1 a2);
    own =
        subst (λ n. rows_of t2 (positions t) (suc (n + positions t)) ≡ pos 1) n1
        (subst (λ m. rows_of t2 m (suc (t1.columns + m)) ≡ pos 1) m1 o2);
    zero_else =
        subst (λ n. (c : ℕ) → c < n + positions t + 4 → c ≢ n + positions t → c ≢ suc (n + positions t)
        → rows_of t2 (positions t) c ≡ pos 0) n1
        (subst (λ m. (c : ℕ) → c < t1.columns + m + 4 → c ≢ t1.columns + m → c ≢ suc (t1.columns + m)
        → rows_of t2 m c ≡ pos 0) m1 z2);
  }
