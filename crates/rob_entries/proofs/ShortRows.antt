-- Rows of numbers of 64 bits, which are the numbers that they stand for.
use Rattle.std.proofs.Common.{◌≡◌, ◌∙◌, ap, sym, List, map}
use Rattle.std.proofs.lemmas.Int.{to_z-of_z}
use Rattle.std.proofs.lemmas.List.{map-id}
use mir.Syntax.{w64}
use mir.Val.{SFits}
use lib.IntN.{ℤ}
use Rattle.rob_rows.specs.PrimitiveParts.{combination}
use Rattle.rob_rows.proofs.Entries.{read}

-- a combination by factors that are read
pub combination_read : (p : ℤ) (upper : List ℤ) (q : ℤ) (low : List ℤ) → SFits w64 p → SFits w64 q
    → combination (read p) upper (read q) low
    ≡ combination p (map (λ number. number) upper) q (map (λ number. number) low)
combination_read p upper q low f g =
    ap (λ t. combination t upper (read q) low) (to_z-of_z w64 p f)
    ∙ ap (λ t. combination p upper t low) (to_z-of_z w64 q g)
    ∙ ap (λ t. combination p t q low) (sym (map-id upper))
    ∙ ap (λ t. combination p (map (λ number. number) upper) q t) (sym (map-id low))
