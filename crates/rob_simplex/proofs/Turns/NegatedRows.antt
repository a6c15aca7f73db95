-- A row that is negated clears as before; a column that is written to a basis.
use Rattle.std.proofs.Common.{◌≡◌, ℕ, ◌<◌, ◌≤◌, sym, ap, ◌∙◌, arith, inl, inr, List, length, set}
use Rattle.std.proofs.lemmas.Bool.{cases_eq}
use Rattle.std.proofs.lemmas.Int.{ints}
use Rattle.std.proofs.lemmas.List.{get_or-set_same, get_or-set_other}
use lib.IntN.{ℤ, ◌-ℤ◌, ◌*ℤ◌, neg_ℤ}
use Rattle.rob_algebra.specs.Integer.{ring}
use Rattle.rob_linear.specs.Multiples.{IsClearedBy, put_at}
use Rattle.rob_linear.proofs.KeptOut.Beside.{put_same, put_other}
use Rattle.rob_simplex.specs.Dictionaries.{columns_of}

-- a row that clears may be negated
negated_ring : (D p q x a b b' : ℤ) → b' ≡ neg_ℤ b → D *ℤ x ≡ (p *ℤ a) -ℤ (q *ℤ b')
    → D *ℤ x ≡ (p *ℤ a) -ℤ (neg_ℤ q *ℤ b)
negated_ring D p q x a b b' e h =
    h ∙ ap (λ z. (p *ℤ a) -ℤ (q *ℤ z)) e
    ∙ ap (λ z. (p *ℤ a) -ℤ z) (let r : q *ℤ neg_ℤ b ≡ neg_ℤ q *ℤ b = simp ring (omega (arith, ints)) in r)

pub cleared_negated : (n n' column : ℕ) (low low' top top' new : ℕ → ℤ) → n' ≤ n → ((k : ℕ) → low k ≡ low' k)
    → ((k : ℕ) → top k ≡ neg_ℤ (top' k)) → IsClearedBy n column low top new → IsClearedBy n' column low' top' new
cleared_negated n n' column low low' top top' new l el et c = record {
  divisor = c.divisor;
  p = c.p;
  q = neg_ℤ c.q;
  divides = c.divides;
  positive = c.positive;
  entries =
      λ k kl. negated_ring c.divisor c.p c.q (new k) (low' k) (top' k) (top k) (et k)
      (c.entries k (omega arith) ∙ ap (λ z. (c.p *ℤ z) -ℤ (c.q *ℤ top k)) (el k));
  cleared = c.cleared;
}

-- a column written to a list
pub set_is : (b : List ℕ) (q col i : ℕ) → q < length b → columns_of (set b q col) i ≡ put_at (columns_of b) q col i
set_is b q col i l = elim (cases_eq i q) [
  | inl e ↦ ap (columns_of (set b q col)) e ∙ get_or-set_same b q col 0 l
      ∙ sym (ap (put_at (columns_of b) q col) e ∙ put_same (columns_of b) q col)
  | inr d ↦ get_or-set_other b q i col 0 d ∙ sym (put_other (columns_of b) q col i d)
]
