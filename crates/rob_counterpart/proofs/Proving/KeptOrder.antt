-- What is kept of covers has what they have, stands in order where they do, and none of it is 0.
use Rattle.std.proofs.Common.{◌≡◌, ◌≢◌, ℕ, zero, suc, ◌<◌, List, [], ◌∷◌, arith, Bool, true, false}
use Rattle.std.specs.Prelude.{if◌then◌else◌}
use Rattle.rob_algebra.specs.FractionOrder.{eq_ℚ, eq_ℚ-decides}
use Rattle.rob_meaning.specs.Certificates.{Cover, IsBefore}
use Rattle.rob_meaning.specs.Places.{0ℚ, Each, InOrder, tabulate}
use Rattle.rob_meaning.proofs.Lists.EachLemmas.{each_append}
use Rattle.rob_meaning.proofs.Lists.OrderLemmas.{ordered_append}
use Rattle.rob_counterpart.specs.ReadNumbers.{covers_kept, concat}

pub kept_each : (P : Cover → Type 0) (cs : List Cover) → Each P cs → Each P (covers_kept cs)
kept_each P [] h = tt
kept_each P (c ∷ cs) h = by (eq_ℚ c.amount 0ℚ) (kept_each P cs h.1)
  where
    by : (v : Bool) → Each P (covers_kept cs) → Each P (if v then covers_kept cs else c ∷ covers_kept cs)
    by true k = k
    by false k = (h.0, k)

pub kept_nonzero : (cs : List Cover) → Each (λ (c : Cover). c.amount ≢ 0ℚ) (covers_kept cs)
kept_nonzero [] = tt
kept_nonzero (c ∷ cs) = by (eq_ℚ c.amount 0ℚ) (eq_ℚ-decides c.amount 0ℚ).1 (kept_nonzero cs)
  where
    by : (v : Bool) → (c.amount ≡ 0ℚ → v ≡ true) → Each (λ (c : Cover). c.amount ≢ 0ℚ) (covers_kept cs)
        → Each (λ (c : Cover). c.amount ≢ 0ℚ) (if v then covers_kept cs else c ∷ covers_kept cs)
    by true d k = k
    by false d k = ((λ e. let f : false ≡ true = d e in cc), k)

pub kept_ordered : (cs : List Cover) → InOrder IsBefore cs → InOrder IsBefore (covers_kept cs)
kept_ordered [] h = tt
kept_ordered (c ∷ cs) h = by (eq_ℚ c.amount 0ℚ) (kept_ordered cs h.1)
  where
    by : (v : Bool) → InOrder IsBefore (covers_kept cs)
        → InOrder IsBefore (if v then covers_kept cs else c ∷ covers_kept cs)
    by true k = k
    by false k = (kept_each (IsBefore c) cs h.0, k)

-- ---- covers of several forms, one list behind the other
pub each_concat : (P : Cover → Type 0) (n : ℕ) (f : ℕ → List Cover) → ((k : ℕ) → k < n → Each P (f k))
    → Each P (concat (tabulate n f))
each_concat P zero f h = tt
each_concat P (suc n) f h =
    each_append P (f zero) (concat (tabulate n (λ k. f (suc k)))) (h zero (omega arith))
    (each_concat P n (λ k. f (suc k)) (λ k l. h (suc k) (omega arith)))

pub ordered_concat : (n : ℕ) (f : ℕ → List Cover) → ((k : ℕ) → k < n → InOrder IsBefore (f k))
    → ((j k : ℕ) → j < k → k < n → Each (λ x. Each (IsBefore x) (f k)) (f j))
    → InOrder IsBefore (concat (tabulate n f))
ordered_concat zero f h g = tt
ordered_concat (suc n) f h g =
    ordered_append IsBefore (f zero) (concat (tabulate n (λ k. f (suc k)))) (h zero (omega arith))
    (ordered_concat n (λ k. f (suc k)) (λ k l. h (suc k) (omega arith))
    (λ j k jk l. g (suc j) (suc k) (omega arith) (omega arith)))
    (all (f zero) (λ k l. g zero (suc k) (omega arith) (omega arith)))
  where
    all : (xs : List Cover) → ((k : ℕ) → k < n → Each (λ x. Each (IsBefore x) (f (suc k))) xs)
        → Each (λ x. Each (IsBefore x) (concat (tabulate n (λ k. f (suc k))))) xs
    all [] h = tt
    all (x ∷ xs) h = (each_concat (IsBefore x) n (λ k. f (suc k)) (λ k l. (h k l).0), all xs (λ k l. (h k l).1))
