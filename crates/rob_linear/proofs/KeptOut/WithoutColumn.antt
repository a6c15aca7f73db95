-- Rows in the order of the auxiliary form, read without the auxiliary column: the second phase.
use Rattle.std.proofs.Common.{◌≡◌, ◌≢◌, ℕ, zero, suc, ◌+◌, ◌<◌, ◌≤◌, sym, ap, ◌∙◌, subst, arith, inl, inr}
use Rattle.std.proofs.lemmas.Bool.{cases_lt}
use lib.IntN.{ℤ, pos, ◌-ℤ◌, ◌*ℤ◌}
use lib.Signed.{◌<ℤ◌, ◌≤ℤ◌}
use Rattle.rob_linear.specs.Systems.{right}
use Rattle.rob_linear.specs.Programs.{Program, starting_row, system_of, auxiliary_place, kept_row, kept_of}
use Rattle.rob_linear.specs.Turns.{key, ComesBefore, Enters, Leaves, own_of, StandsWith}
use Rattle.rob_linear.specs.Paths.{StartsAtSlacks}
use Rattle.rob_linear.specs.Multiples.{IsParallel, IsClearedBy, StandsMultiple}
use Rattle.rob_linear.specs.Beside.{without_column}
use Rattle.rob_linear.proofs.Bases.Lexical.{lex_ext}
use Rattle.rob_linear.proofs.BasisPaths.Phases.{place_low, place_high, place_in, tag_placed, row_placed}
use Rattle.rob_linear.proofs.BasisPaths.Starts.{system_tagged}
use Rattle.rob_linear.proofs.BasisPaths.TwoPhases.{slacks_stand}
use Rattle.rob_linear.proofs.Bases.Turns.{AreEqual, stands_equal}
use Rattle.rob_linear.proofs.RowForms.Multiples.{basis_multiples}

pub key_without : (P : Program) (r : ℕ → ℤ) (k : ℕ) → k < suc P.m
    → key (system_of P) (λ j. r (auxiliary_place P j)) k ≡ key (kept_of P) r k
key_without P r zero l = ap r (place_high P (suc (P.n + P.m)) (omega arith))
key_without P r (suc k) l = ap r (tag_placed P k (omega arith))

before_without : (P : Program) (a b : ℕ → ℤ) (p q : ℤ)
    → ComesBefore (system_of P) (λ j. a (auxiliary_place P j)) p (λ j. b (auxiliary_place P j)) q
    → ComesBefore (kept_of P) a p b q
before_without P a b p q c =
    lex_ext (suc P.m)
    (λ k. (p *ℤ key (system_of P) (λ j. b (auxiliary_place P j)) k)
    -ℤ (q *ℤ key (system_of P) (λ j. a (auxiliary_place P j)) k))
    (λ k. (p *ℤ key (kept_of P) b k) -ℤ (q *ℤ key (kept_of P) a k))
    (λ k kl. ap (λ v. (p *ℤ v) -ℤ (q *ℤ key (system_of P) (λ j. a (auxiliary_place P j)) k)) (key_without P b k kl)
    ∙ ap (λ v. (p *ℤ key (kept_of P) b k) -ℤ (q *ℤ v)) (key_without P a k kl)) c

pub enters_without : (P : Program) (rows : ℕ → ℕ → ℤ) (col : ℕ) → col < P.n + P.m → rows P.m col <ℤ pos 0
    → ((k : ℕ) → k < col → pos 0 ≤ℤ rows P.m k) → Enters (system_of P) (without_column P rows) col
enters_without P rows col l n f = record {
  inside = l;
  improving = subst (λ v. rows P.m v <ℤ pos 0) (sym (place_low P col l)) n;
  first = λ k kl. subst (λ v. pos 0 ≤ℤ rows P.m v) (sym (place_low P k (omega arith))) (f k kl);
}

pub leaves_without : (P : Program) (rows : ℕ → ℕ → ℤ) (col e : ℕ) → col < P.n + P.m → Leaves (kept_of P) rows col e
    → Leaves (system_of P) (without_column P rows) col e
leaves_without P rows col e l v = record {
  inside = v.inside;
  positive = subst (λ k. pos 0 <ℤ rows e k) (sym (place_low P col l)) v.positive;
  first = λ i il p c.
      v.first i il (subst (λ k. pos 0 <ℤ rows i k) (place_low P col l) p)
      (subst (λ k. ComesBefore (kept_of P) (rows i) (rows i k) (rows e) (rows e k)) (place_low P col l)
      (before_without P (rows i) (rows e) (rows i (auxiliary_place P col)) (rows e (auxiliary_place P col)) c));
}

pub cleared_without : (P : Program) (col : ℕ) (low top new : ℕ → ℤ) → col < P.n + P.m
    → IsClearedBy (suc (right (kept_of P))) col low top new
    → IsClearedBy (suc (right (system_of P))) col (λ k. low (auxiliary_place P k)) (λ k. top (auxiliary_place P k))
    (λ k. new (auxiliary_place P k))
cleared_without P col low top new l c = record {
  divisor = c.divisor;
  p = c.p;
  q = c.q;
  divides = c.divides;
  positive = c.positive;
  entries = λ k kl. let g : auxiliary_place P k ≤ suc (suc (P.n + P.m)) = place_in P k (omega arith) in
      c.entries (auxiliary_place P k) (omega arith);
  cleared = ap new (place_low P col l) ∙ c.cleared;
}

pub parallel_without : (P : Program) (r s : ℕ → ℤ) → IsParallel (suc (right (kept_of P))) r s
    → IsParallel (suc (right (system_of P))) (λ k. r (auxiliary_place P k)) (λ k. s (auxiliary_place P k))
parallel_without P r s h = record {
  p = h.p;
  q = h.q;
  p_positive = h.p_positive;
  q_positive = h.q_positive;
  same = λ k kl. let g : auxiliary_place P k ≤ suc (suc (P.n + P.m)) = place_in P k (omega arith) in
      h.same (auxiliary_place P k) (omega arith);
}

place_not_auxiliary : (P : Program) (k : ℕ) → auxiliary_place P k ≢ P.n + P.m
place_not_auxiliary P k e = elim (cases_lt k (P.n + P.m)) [
  | inl l ↦ let a : auxiliary_place P k ≡ k = place_low P k l in absurd (omega arith)
  | inr l ↦ let a : auxiliary_place P k ≡ suc k = place_high P k (omega arith) in absurd (omega arith)
]

-- the start without a first phase; what stands in the auxiliary column is nothing to it
pub slacks_without : (P : Program) (slacks : ℕ → ℕ) (rows : ℕ → ℕ → ℤ) → StartsAtSlacks P slacks
    → ((i k : ℕ) → i ≤ P.m → k ≤ suc (suc (P.n + P.m)) → k ≢ P.n + P.m → rows i k ≡ kept_row P i k)
    → StandsMultiple (system_of P) slacks (without_column P rows)
slacks_without P slacks rows s e =
    let w : StandsWith (system_of P) slacks (starting_row P) = slacks_stand P slacks s in
    let same : AreEqual (system_of P) (starting_row P) (without_column P rows) =
    (λ i il k kl.
    sym (e i (auxiliary_place P k) il (place_in P k kl) (place_not_auxiliary P k) ∙ row_placed P i k il kl)) in
    let w' : StandsWith (system_of P) slacks (without_column P rows) =
    stands_equal (system_of P) slacks (starting_row P) (without_column P rows) (system_tagged P) same w in
    record {
      multiples = basis_multiples (system_of P) (own_of (system_of P) slacks) (without_column P rows)
          w'.is_basis;
      feasible = w'.feasible;
    }
