-- Cuts as the items of a certificate, by form and then by round.
use Rattle.std.specs.Prelude.{ℕ, List, map, length}
use Rattle.rob_algebra.specs.Fraction.{Fraction, of_int}
use Rattle.rob_meaning.specs.Certificates.{Cover, Item}
use Rattle.rob_meaning.specs.Places.{at, tabulate}
use Rattle.rob_cert.specs.declared.trace.Round.{Round}
use Rattle.rob_counterpart.specs.MasterItems.{weighted_kept}
use Rattle.rob_counterpart.specs.ReadNumbers.{covers_kept}
use Rattle.rob_runs.specs.Cuts.{Cut, cut_of_number}

-- a cut with its weight
abbrev pub weighted : Cut → Fraction → Item
weighted c weight = record { form = c.form; weight = weight; base = of_int c.base; vector = map of_int c.vector }

-- the cut of a round with its weight
abbrev pub item_told : Round → Fraction → Item
item_told r weight = record { form = r.form; weight = weight; base = of_int r.base; vector = map of_int r.vector }

-- cut q with its weight
abbrev pub item_of_cut : List Cut → (ℕ → Fraction) → ℕ → Item
item_of_cut cuts weight q = weighted (cut_of_number cuts q) (weight q)

-- the first n cuts with their weights, those of weight 0 left out
abbrev pub weighted_cuts : List Cut → (ℕ → Fraction) → ℕ → List Item
weighted_cuts cuts weight n = weighted_kept (tabulate n (item_of_cut cuts weight))

-- the cover of a form and set row r by its amount
abbrev pub cover_of_amount : ℕ → List Fraction → ℕ → Cover
cover_of_amount form amounts r = record { form = form; set_row = r; amount = at amounts r }

-- the covers of a form by its amounts, those that are 0 left out
abbrev pub covers_of_form : ℕ → List Fraction → List Cover
covers_of_form form amounts = covers_kept (tabulate (length amounts) (cover_of_amount form amounts))
