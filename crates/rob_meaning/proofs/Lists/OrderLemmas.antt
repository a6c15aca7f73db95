-- Lists whose items stand in a relation to all behind them.
use Rattle.std.proofs.Common.{ℕ, zero, suc, ◌<◌, List, [], ◌∷◌, ◌++◌, arith}
use Rattle.rob_meaning.specs.Places.{Each, InOrder, tabulate}
use Rattle.rob_meaning.proofs.Lists.EachLemmas.{each_append}
use Rattle.rob_meaning.proofs.Lists.TabulateLemmas.{each_tabulate}

pub ordered_append : {A : Type 0} (R : A → A → Type 0) (xs ys : List A) → InOrder R xs → InOrder R ys
    → Each (λ x. Each (R x) ys) xs → InOrder R (xs ++ ys)
ordered_append R [] ys hx hy h = hy
ordered_append R (x ∷ xs) ys hx hy h = (each_append (R x) xs ys hx.0 h.0, ordered_append R xs ys hx.1 hy h.1)

pub ordered_tabulate : {A : Type 0} (R : A → A → Type 0) (n : ℕ) (f : ℕ → A)
    → ((j k : ℕ) → j < k → k < n → R (f j) (f k)) → InOrder R (tabulate n f)
ordered_tabulate R zero f h = tt
ordered_tabulate R (suc n) f h = (
  each_tabulate (R (f zero)) n (λ k. f (suc k)) (λ k l. h zero (suc k) (omega arith) (omega arith)),
  ordered_tabulate R n (λ k. f (suc k)) (λ j k jk l. h (suc j) (suc k) (omega arith) (omega arith)),
)
