-- Longest runs of bytes.
use Rattle.std.proofs.Common.{◌≡◌, ℕ, zero, suc, ◌<◌, ◌≤◌, Bool, true, false, List, [], ◌∷◌, ◌++◌, length, get_or, take, drop, refl, arith}
use Rattle.rob_lex.specs.Pieces.{IsRun}

-- the first n bytes are a run where each of them passes and the next doesn't
pub IsRun-from_each : (test : ℕ → Bool) (n : ℕ) (bytes : List ℕ) → n ≤ length bytes
    → ((k : ℕ) → k < n → test (get_or bytes k 0) ≡ true) → (n < length bytes → test (get_or bytes n 0) ≡ false)
    → IsRun test (take n bytes) (drop n bytes)
IsRun-from_each test zero [] within each stops = tt
IsRun-from_each test zero (b ∷ bytes) within each stops = stops (omega arith)
IsRun-from_each test (suc n) [] within each stops = absurd (omega arith)
IsRun-from_each test (suc n) (b ∷ bytes) within each stops = (
  each 0 (omega arith),
  IsRun-from_each test n bytes (omega arith) (λ k h. each (suc k) (omega arith)) (λ h. stops (omega arith)),
)

-- a text has one longest run at its front
pub one_run : (test : ℕ → Bool) (xs ys after after' : List ℕ) → IsRun test xs after → IsRun test ys after'
    → xs ++ after ≡ ys ++ after' → (xs ≡ ys) × (after ≡ after')
one_run test [] [] after after' h k same = (refl, same)
one_run test [] (y ∷ ys) [] after' h k same = cc
one_run test [] (y ∷ ys) (b ∷ after) after' h k same = let passes = k.0 in cc
one_run test (x ∷ xs) [] after [] h k same = cc
one_run test (x ∷ xs) [] after (b ∷ after') h k same = let passes = h.0 in cc
one_run test (x ∷ xs) (y ∷ ys) after after' h k same =
    let r = one_run test xs ys after after' h.1 k.1 (cc) in
    (cc, r.1)
