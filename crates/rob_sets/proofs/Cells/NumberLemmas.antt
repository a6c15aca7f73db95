-- The number at a cell, where there is one and where there is none.
use Rattle.std.specs.Prelude.{◌≡◌, ◌≤◌, ℕ, Option, Some, None, pos}
use Rattle.std.proofs.Common.{sym, ◌∙◌, ap, arith}
use Rattle.std.specs.Option.{option_copied}
use denote.Bor.{Bor}
use Rattle.rob_algebra.specs.Fraction.{Fraction, ◌+ℚ◌}
use Rattle.rob_algebra.specs.FractionLaws as Q
use Rattle.rob_algebra.specs.Width.{Fits, kept}
use Rattle.rob_algebra.proofs.WidthLaws.{Fits-of_int, kept-fits}
use Rattle.rob_sets.specs.Tables.{cell_cmp, number_or_zero, numbers_of}
use Rattle.rob_sets.specs.declared.table.Table.{Table}
use Rattle.std.specs.BTreeMap.{get}

-- a number is kept where none was before
pub kept_absent : {N : Type 0} (value : N → Fraction) (limit : ℕ) (found : Option (Bor N)) (x : N) (o : Option N)
    → found ≡ None → option_copied found ≡ o
    → Fits limit (value x) → Some (value x) ≡ kept limit (number_or_zero value o +ℚ value x)
kept_absent value limit found x o none e fits =
    sym (kept-fits limit (value x) fits)
    ∙ ap (kept limit) (sym (Q.ℚ-zero-add (value x)))
    ∙ ap (λ p. kept limit (number_or_zero value p +ℚ value x)) (ap option_copied (sym none) ∙ e)

-- each number of a table fits
number_or_zero_fits : {N : Type 0} (value : N → Fraction) (limit : ℕ) → ((x : N) → Fits limit (value x)) → 1 ≤ limit
    → (o : Option N) → Fits limit (number_or_zero value o)
number_or_zero_fits value limit fits one None = Fits-of_int limit (pos 0) one (omega arith)
number_or_zero_fits value limit fits one (Some x) = fits x

pub number_fits : {N : Type 0} (value : N → Fraction) (limit : ℕ) → ((x : N) → Fits limit (value x)) → 1 ≤ limit
    → (t : Table N) (k j : ℕ) → Fits limit (numbers_of value t k j)
number_fits value limit fits one t k j =
    number_or_zero_fits value limit fits one (get cell_cmp t.numbers (record { row = k; column = j }))
