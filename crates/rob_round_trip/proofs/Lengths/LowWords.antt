-- Words that open no more than so many parentheses at once, and close what they open.
use Rattle.std.proofs.Common.{◌≡◌, ℕ, ◌+◌, ◌-◌, ◌≤◌, max, Bool, true, false, List, [], ◌∷◌, ◌++◌, sym, ap, ◌∙◌, subst, arith, append-nil}
use Rattle.rob_index.specs.Depths.{one_if}
use Rattle.rob_lex.specs.Offences.{most_open}
use Rattle.rob_round_trip.proofs.Lengths.DepthSteps.{IsFlat, Shallow, depth_of, depth_of-append, depth_of-flat, shallow_flat, shallow_join, stays, step_of_word}
use Rattle.rob_syntax.specs.declared.symbol.Mark.TheVariants as mark
use Rattle.rob_write.specs.Pages.{Written, sign}
use Rattle.rob_write.specs.ExpressionWords.{enclosed}

-- the words open n at most, and as many are open behind them as in front
pub record IsLow (ws : List Written) (n : ℕ) : Type 0 where
  pub shallow : (d : ℕ) → d + n ≤ most_open → Shallow step_of_word d ws
  pub level : (d : ℕ) → depth_of step_of_word d ws ≡ d

pub low_more : {ws : List Written} {m n : ℕ} → m ≤ n → IsLow ws m → IsLow ws n
low_more {ws} {m} {n} h low = record { shallow = λ d k. low.shallow d (omega (arith, h, k)); level = low.level }

pub low_flat : (ws : List Written) → IsFlat step_of_word ws → IsLow ws 0
low_flat ws flat = record {
  shallow = λ d k. shallow_flat step_of_word d ws flat;
  level = λ d. depth_of-flat step_of_word d ws flat;
}

pub low_both : {xs ys : List Written} {m n : ℕ} → IsLow xs m → IsLow ys n → IsLow (xs ++ ys) (max m n)
low_both {xs} {ys} {m} {n} h k = record {
  shallow = λ d few.
      shallow_join step_of_word d xs ys (h.shallow d (omega (arith, few)))
      (subst (λ (e : ℕ). Shallow step_of_word e ys) (sym (h.level d)) (k.shallow d (omega (arith, few))));
  level = λ d.
      depth_of-append step_of_word d xs ys ∙ ap (λ (e : ℕ). depth_of step_of_word e ys) (h.level d) ∙ k.level d;
}

-- one that opens nothing in front
pub low_next : (w : Written) {ws : List Written} {n : ℕ} → step_of_word w ≡ stays → IsLow ws n → IsLow (w ∷ ws) n
low_next w {ws} {n} is low = low_more (omega arith) (low_both (low_flat (w ∷ []) (is, tt)) low)

one_back : (d : ℕ) → (d + 1) - 1 ≡ d
one_back d = omega arith

-- in parentheses, with more behind
pub low_parens : {ws vs : List Written} {m n : ℕ} → IsLow ws m → IsLow vs n
    → IsLow (sign mark.Open ∷ (ws ++ sign mark.Close ∷ vs)) (max (1 + m) n)
low_parens {ws} {vs} {m} {n} h k = record {
  shallow = λ d few. (
    omega (arith, few),
    shallow_join step_of_word (d + 1) ws (sign mark.Close ∷ vs) (h.shallow (d + 1) (omega (arith, few)))
        (tt, subst (λ (e : ℕ). Shallow step_of_word e vs) (sym (back d)) (k.shallow d (omega (arith, few)))),
  );
  level = λ d.
      depth_of-append step_of_word (d + 1) ws (sign mark.Close ∷ vs)
      ∙ ap (λ (e : ℕ). depth_of step_of_word e vs) (back d) ∙ k.level d;
}
  where
    back : (d : ℕ) → depth_of step_of_word (d + 1) ws - 1 ≡ d
    back d = ap (λ (e : ℕ). e - 1) (h.level (d + 1)) ∙ one_back d

-- in parentheses, or not
pub low_enclosed : (b : Bool) {ws : List Written} {n : ℕ} → IsLow ws n → IsLow (enclosed b ws) (one_if b + n)
low_enclosed true {ws} {n} low = low_more (omega arith) (low_parens low (low_flat [] tt))
low_enclosed false {ws} {n} low =
    low_more (omega arith) (subst (λ (l : List Written). IsLow l n) (sym (append-nil ws)) low)
