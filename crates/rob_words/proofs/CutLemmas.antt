-- A number without a sign in front of it.
use Rattle.std.proofs.Common.{◌≡◌, ◌≢◌, ◌==◌, ℕ, false, inl, inr, [], ◌∷◌, refl, ap}
use Rattle.std.proofs.lemmas.Bool.{cases_Bool}
use Rattle.std.proofs.lemmas.Bool.Decides.{nat_tests}
use Rattle.std.proofs.Common.{arith}
use Rattle.rob_words.specs.Cuts.{has_sign, unsigned}
use Rattle.rob_words.specs.Values.{Word}

-- a byte that isn't `-`
other_byte : (byte : ℕ) (bytes : Word) → ((rest : Word) → byte ∷ bytes ≢ 45 ∷ rest) → (byte == 45) ≡ false
other_byte byte bytes none =
    elim (cases_Bool (byte == 45)) as (λ _. (byte == 45) ≡ false) [
      | inl is ↦ let same : byte ≡ 45 = grind (arith, nat_tests) in absurd (none bytes (ap (λ b. b ∷ bytes) same))
      | inr other ↦ other
    ]

pub no_sign : (word : Word) → ((rest : Word) → word ≢ 45 ∷ rest) → has_sign word ≡ false
no_sign [] none = refl
no_sign (byte ∷ bytes) none = other_byte byte bytes none

pub nothing_stripped : (word : Word) → ((rest : Word) → word ≢ 45 ∷ rest) → unsigned word ≡ word
nothing_stripped [] none = refl
nothing_stripped (byte ∷ bytes) none = rw (other_byte byte bytes none) refl
