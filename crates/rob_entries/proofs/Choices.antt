-- The lowest column, one place more.
use Rattle.std.proofs.Common.{◌≡◌, ℕ, ◌+◌, ◌<◌, ◌≤◌, min, sym, ap, ◌∙◌, arith, subst, inl, inr}
use Rattle.std.proofs.lemmas.Bool.{cases_eq, cases_lt}
use Rattle.std.proofs.lemmas.Int.{ints, by_lt_z}
use lib.IntN.{pos}
use lib.Signed.{◌<ℤ◌, ◌≤ℤ◌}
use Rattle.rob_linear.specs.Vectors.{Vector}
use Rattle.rob_entries.specs.Choices.{IsLowest}

pub lowest_more : (row : Vector) (near : ℕ → ℕ) (k before best next : ℕ) → IsLowest row near k before best
    → (pos 0 ≤ℤ row k → next ≡ best) → (row k <ℤ pos 0 → next ≡ min best (near k))
    → IsLowest row near (k + 1) before next
lowest_more row near k before best next h stays lower =
    by_lt_z (row k) (pos 0)
    (λ neg.
    let e : next ≡ min best (near k) = lower neg in
    let l : best ≤ before = h.low in
    record {
      low = omega arith;
      found = elim (cases_lt (near k) best) [
        | inl c ↦ inr (k, omega arith, omega arith, neg)
        | inr c ↦
            let s : next ≡ best = omega arith in
            elim h.found [
              | inl f ↦ inl (s ∙ f)
              | inr f ↦ let fl : f.0 < k = f.1 in inr (f.0, omega arith, f.2 ∙ sym s, f.3)
            ]
      ];
      none_lower = λ j jl jn. elim (cases_eq j k) [
        | inl s ↦ absurd (let t : near j ≡ near k = ap near s in omega arith)
        | inr d ↦ h.none_lower j (omega arith) (omega arith)
      ];
    })
    (λ neg.
    let nonneg : pos 0 ≤ℤ row k = omega (arith, ints) in
    let s : next ≡ best = stays nonneg in
    let l : best ≤ before = h.low in
    record {
      low = omega arith;
      found = elim h.found [
        | inl f ↦ inl (s ∙ f)
        | inr f ↦ let fl : f.0 < k = f.1 in inr (f.0, omega arith, f.2 ∙ sym s, f.3)
      ];
      none_lower = λ j jl jn. elim (cases_eq j k) [
        | inl t ↦ subst (λ x. pos 0 ≤ℤ row x) (sym t) nonneg
        | inr d ↦ h.none_lower j (omega arith) (omega arith)
      ];
    })

pub lowest_ext : (row row' : Vector) (near : ℕ → ℕ) (count before best : ℕ) → ((k : ℕ) → k < count → row k ≡ row' k)
    → IsLowest row near count before best → IsLowest row' near count before best
lowest_ext row row' near count before best e h = record {
  low = h.low;
  found = elim h.found [ inl f ↦ inl f | inr f ↦ inr (f.0, f.1, f.2, subst (λ t. t <ℤ pos 0) (e f.0 f.1) f.3) ];
  none_lower = λ k l n. subst (λ t. pos 0 ≤ℤ t) (e k l) (h.none_lower k l n);
}
