-- Rows of zeros.
use Rattle.std.proofs.Common.{◌≡◌, ℕ, zero, suc, refl, ap, ◌∙◌, arith, inl, inr, List, [], ◌∷◌, length, get_or, map}
use Rattle.std.proofs.lemmas.Bool.{cases_lt}
use Rattle.std.proofs.lemmas.List.{length-map, length-take, get_or_default, get_or_past, get_or-map, get_or-replicate, length-replicate}
use Rattle.std.proofs.lemmas.Nat.Gcd.{dvd_refl}
use lib.IntN.{ℤ, pos, nat_abs}
use lib.ListN.{replicate}
use Rattle.rob_algebra.specs.Gcd.{gcd}
use Rattle.rob_linear.specs.Vectors.{at}
use Rattle.rob_rows.specs.PrimitiveParts.{content}
use Rattle.rob_rows.proofs.Divisors.{gcd-divides}
use Rattle.rob_rows.proofs.Contents.{content_with}
use Rattle.rob_entries.specs.Updates.{IsReady}

-- what is made of one zero, many times
pub zero_numbers : {X : Type 0} (f : X → ℤ) (x : X) (row : List X) (count : ℕ) → row ≡ replicate count x → f x ≡ pos 0
    → (k : ℕ) → at (map f row) k ≡ pos 0
zero_numbers f x row count e z k =
    let n : length row ≡ count = ap length e ∙ length-replicate count x in
    let m : length (map f row) ≡ length row = length-map row f in
    elim (cases_lt k count) [
      | inl l ↦ get_or-map f row k x (pos 0) (omega arith)
          ∙ ap f (ap (λ t. get_or t k x) e ∙ get_or-replicate count k x x l) ∙ z
      | inr g ↦ get_or_past (map f row) k (pos 0) (omega arith)
    ]

zero_content : (row : List ℤ) → ((k : ℕ) → at row k ≡ pos 0) → content row ≡ 0
zero_content [] h = refl
zero_content (x ∷ row) h =
    ap (λ t. content_with t row) (ap (λ z. gcd 0 (nat_abs z)) (h zero) ∙ gcd-divides 0 0 (dvd_refl 0))
    ∙ zero_content row (λ k. h (suc k))

-- they clear nothing
pub zeros_ready : (entries : List ℤ) (places : List ℕ) (room : ℕ) → ((k : ℕ) → at entries k ≡ pos 0)
    → length places ≡ length entries → room ≡ length entries → IsReady entries 0 places 0 room
zeros_ready entries places room h n m = record {
  lowest = let e : content entries ≡ 0 = zero_content entries h in omega arith;
  within = λ k d l. let e : nat_abs (get_or entries k d) ≡ 0 =
      ap nat_abs (get_or_default entries k d (pos 0) l ∙ h k) in omega arith;
  places_length = n;
  few = omega arith;
  listed_are = record {
    inside = λ j l. absurd (omega (arith, length-take 0 places));
    rising = λ i j il l. absurd (omega (arith, length-take 0 places));
    all = λ k l some. absurd (some (h k));
  };
  room_length = m;
}
