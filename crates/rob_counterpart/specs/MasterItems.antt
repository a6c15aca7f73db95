-- The cuts of a master program as items of a certificate.
use Rattle.std.specs.Prelude.{ℕ, ◌<◌, if◌then◌else◌, List, [], ◌∷◌, length}
use Rattle.rob_algebra.specs.Fraction.{Fraction, of_int}
use Rattle.rob_algebra.specs.FractionOrder.{eq_ℚ}
use Rattle.rob_meaning.specs.Certificates.{Item}
use Rattle.rob_meaning.specs.Forms.{matrices}
use Rattle.rob_meaning.specs.Places.{0ℚ, tabulate}
use Rattle.rob_meaning.specs.RobustModel.{RobustModel}
use Rattle.rob_meaning.specs.SetConditions.{IsTaken}
use Rattle.rob_counterpart.specs.Master.{Cuts}

-- the vector of cut q
abbrev pub cut_vector : RobustModel → Cuts → ℕ → List Fraction
cut_vector m cuts q = tabulate (length m.parameters) (λ c. of_int (cuts.vector q c))

-- each cut's form exists, and its base and vector are taken from the set
pub record AreCuts (m : RobustModel) (cuts : Cuts) : Type 0 where
  pub forms : (q : ℕ) → q < cuts.count → cuts.form q < length (matrices m)
  pub taken : (q : ℕ) → q < cuts.count → IsTaken m (of_int (cuts.base q)) (cut_vector m cuts q)

-- cut q as an item with its weight
abbrev pub cut_item : RobustModel → Cuts → (ℕ → Fraction) → ℕ → Item
cut_item m cuts weight q =
    record { form = cuts.form q; weight = weight q; base = of_int (cuts.base q); vector = cut_vector m cuts q }

-- the items whose weight is not 0
abbrev pub weighted_kept : List Item → List Item
weighted_kept [] = []
weighted_kept (item ∷ items) = if eq_ℚ item.weight 0ℚ then weighted_kept items else item ∷ weighted_kept items

-- the cuts with their weights, in order
abbrev pub cut_items : RobustModel → Cuts → (ℕ → Fraction) → List Item
cut_items m cuts weight = weighted_kept (tabulate cuts.count (cut_item m cuts weight))
