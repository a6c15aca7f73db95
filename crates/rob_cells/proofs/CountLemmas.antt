-- A part and its whole, and the numbers of copies.
use Rattle.std.proofs.Common.{◌≡◌, ℕ, zero, suc, ◌+◌, ◌*◌, ◌-◌, ◌≤◌, List, length, map, ap, sym, ◌∙◌, arith, mul-le-mul_right}
use Rattle.std.specs.Prelude.{pred}
use Rattle.std.proofs.lemmas.List.{length-map}

-- a part is no more than the whole
pub less_of : (part whole rest of : ℕ) → part ≡ of → whole ≡ rest + of → part ≤ whole
less_of part whole rest of p w = omega (arith, p, w)

-- the number of a copy is small
pub small_product : (a b : ℕ) → a ≤ 7 → b ≤ 600 → a * b ≤ 4200
small_product a b h k =
    let one : a * b ≤ 7 * b = mul-le-mul_right b h in
    omega (arith, one, k)

-- it is the same of what the items are
pub rule_number : {A B : Type 0} (of : A → B) (xs : List A) (c y : ℕ)
    → (c - 1) * length xs + y ≡ pred c * length (map of xs) + y
rule_number of xs zero y = ap (λ n. 0 * n + y) (sym (length-map xs of))
rule_number of xs (suc c) y =
    (let e : suc c - 1 ≡ c = omega arith in ap (λ n. n * length xs + y) e)
    ∙ ap (λ n. c * n + y) (sym (length-map xs of))
