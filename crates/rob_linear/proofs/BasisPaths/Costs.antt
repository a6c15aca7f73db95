-- The same rows with another objective: rows of the positions before m are those of a basis for every cost.
use Rattle.std.proofs.Common.{◌≡◌, ℕ, ◌<◌, ◌≤◌, sym, ap, ◌∙◌, subst, arith, inl, inr}
use Rattle.std.proofs.lemmas.Int.{ints}
use Rattle.std.proofs.lemmas.Bool.{cases_eq}
use Rattle.std.proofs.lemmas.Bool.Decides.{nat_tests}
use lib.IntN.{ℤ, pos, ◌+ℤ◌, ◌*ℤ◌}
use Rattle.rob_algebra.specs.Integer.{zero-mul}
use Rattle.rob_linear.specs.Vectors.{sum_to}
use Rattle.rob_linear.specs.Systems.{System, objective, right, with_objective, IsSpanned, RowOf, IsBasis}
use Rattle.rob_linear.proofs.LinearPrograms.Sums.{sum_ext}

-- the system with other starting rows
abbrev pub with_start : System → (ℕ → ℕ → ℤ) → System
with_start S start = record { m = S.m; columns = S.columns; tag = S.tag; start = start }

-- a row that is 0 in the objective's column does not see the objective's starting row
pub spanned_restarted : (S : System) (start : ℕ → ℕ → ℤ) (r : ℕ → ℤ) → S.tag S.m ≡ objective S → r (objective S) ≡ pos 0
    → ((t k : ℕ) → t < S.m → k ≤ right S → S.start t k ≡ start t k) → IsSpanned S r → IsSpanned (with_start S start) r
spanned_restarted S start r tm z same h k kl =
    let a : r k ≡ sum_to S.m (λ t. r (S.tag t) *ℤ S.start t k) +ℤ (r (S.tag S.m) *ℤ S.start S.m k) = h k kl in
    let b : sum_to S.m (λ t. r (S.tag t) *ℤ S.start t k) ≡ sum_to S.m (λ t. r (S.tag t) *ℤ start t k) =
    sum_ext S.m (λ t. r (S.tag t) *ℤ S.start t k) (λ t. r (S.tag t) *ℤ start t k)
    (λ t tl. ap (λ v. r (S.tag t) *ℤ v) (same t k tl kl)) in
    let o : r (S.tag S.m) ≡ pos 0 = ap r tm ∙ z in
    let c : r (S.tag S.m) *ℤ S.start S.m k ≡ pos 0 = ap (λ v. v *ℤ S.start S.m k) o ∙ zero-mul (S.start S.m k) in
    let d : r (S.tag S.m) *ℤ start S.m k ≡ pos 0 = ap (λ v. v *ℤ start S.m k) o ∙ zero-mul (start S.m k) in
    omega (arith, ints)

pub row_restarted : (S : System) (start : ℕ → ℕ → ℤ) (own : ℕ → ℕ) (i : ℕ) (r : ℕ → ℤ) → S.tag S.m ≡ objective S
    → own S.m ≡ objective S → ((t k : ℕ) → t < S.m → k ≤ right S → S.start t k ≡ start t k) → i < S.m → RowOf S own i r
    → RowOf (with_start S start) own i r
row_restarted S start own i r tm om same il h = record {
  along = record {
    zeros = h.zeros;
    spanned = spanned_restarted S start r tm (ap r (sym om) ∙ h.zeros S.m (omega arith) (omega arith)) same h.spanned;
  };
  positive = h.positive;
  primitive = h.primitive;
}

-- ---- the rows of positions before m, and another row for position m
pub with_objective_low : (m : ℕ) (rows : ℕ → ℕ → ℤ) (last : ℕ → ℤ) (i : ℕ) → i < m
    → with_objective m rows last i ≡ rows i
with_objective_low m rows last i l = grind (arith, nat_tests)

pub with_objective_at : (m : ℕ) (rows : ℕ → ℕ → ℤ) (last : ℕ → ℤ) → with_objective m rows last m ≡ last
with_objective_at m rows last = grind (arith, nat_tests)

pub basis_restarted : (S : System) (start : ℕ → ℕ → ℤ) (own : ℕ → ℕ) (rows : ℕ → ℕ → ℤ) (last : ℕ → ℤ)
    → S.tag S.m ≡ objective S → ((t k : ℕ) → t < S.m → k ≤ right S → S.start t k ≡ start t k) → IsBasis S own rows
    → RowOf (with_start S start) own S.m last → IsBasis (with_start S start) own (with_objective S.m rows last)
basis_restarted S start own rows last tm same b h = record {
  inside = b.inside;
  last = b.last;
  rows_of = λ i il. elim (cases_eq i S.m) [
    | inl e ↦ subst (λ v. RowOf (with_start S start) own v (with_objective S.m rows last v)) (sym e)
        (subst (λ r. RowOf (with_start S start) own S.m r) (sym (with_objective_at S.m rows last)) h)
    | inr d ↦
        subst (λ r. RowOf (with_start S start) own i r) (sym (with_objective_low S.m rows last i (omega arith)))
        (row_restarted S start own i (rows i) tm b.last same (omega arith) (b.rows_of i il))
  ];
}
