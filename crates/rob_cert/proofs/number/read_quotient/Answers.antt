use Rattle.std.proofs.Common.{◌≡◌, ap, ◌∙◌, Some, w64, arith, false, ◌<◌, ℕ}
use lib.Signed.{lt_z}
use Rattle.std.proofs.lemmas.Int.{ints}
use Rattle.std.specs.Prelude.{ℤ, pos}
use mir.Val.{to_z, of_z}
use Rattle.rob_number.proofs.CastLemmas.{seen}
use Rattle.rob_cert.specs.declared.number.Parts.{Parts}
use Rattle.rob_cert.proofs.number.read_quotient.Goals as goal

pub returns-in-None-read_whole-clause-parts : goal.returns-in-None-read_whole-clause-parts
returns-in-None-read_whole-clause-parts c z n hz pn hn ez en =
    let p = c.in-None-read_whole.ensures.whole (pos n) hn en in cc

pub returns-then-den-gt0-clause-parts : goal.returns-then-den-gt0-clause-parts
returns-then-den-gt0-clause-parts c z n hz pn hn ez en =
    let p : Some c.in-Some.num ≡ Some z = c.in-Some.ensures.whole z hz ez in
    let q : Some c.in-Some-read_whole.den ≡ Some (pos n) = c.in-Some-read_whole.ensures.whole (pos n) hn en in
    let num : c.in-Some.num ≡ z = cc in
    let den : c.in-Some-read_whole.den ≡ pos n = cc in
    ap (λ (x : ℤ).
    Some (let p : Parts =
    record { num = to_z w64 (of_z w64 x); den = to_z w64 (of_z w64 c.in-Some-read_whole.den) } in p)) num
    ∙ ap (λ (x : ℤ). Some (let p : Parts = record { num = to_z w64 (of_z w64 z); den = to_z w64 (of_z w64 x) } in p))
    den
    ∙ ap (λ (x : ℤ). Some (let p : Parts = record { num = x; den = to_z w64 (of_z w64 (pos n)) } in p)) (seen z hz)
    ∙ ap (λ (x : ℤ). Some (let p : Parts = record { num = z; den = x } in p)) (seen (pos n) hn)

pub returns-else-den-gt0-clause-parts : goal.returns-else-den-gt0-clause-parts
returns-else-den-gt0-clause-parts c z n hz pn hn ez en =
    let q : Some c.in-Some-read_whole.den ≡ Some (pos n) = c.in-Some-read_whole.ensures.whole (pos n) hn en in
    let den : to_z w64 (of_z w64 c.in-Some-read_whole.den) ≡ pos n =
    ap (λ x. to_z w64 (of_z w64 x)) (let e : c.in-Some-read_whole.den ≡ pos n = cc in e) ∙ seen (pos n) hn in
    absurd (positive_not_below n pn (rw den at c.if-den-gt0.false))
  where
    positive_not_below : (n : ℕ) → 0 < n → lt_z (pos 0) (pos n) ≡ false → ⊥
    positive_not_below n h e = grind (arith, ints)
