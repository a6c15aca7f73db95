-- What is found at the values of a range: those at which the ranges inside have none are passed over.
use Rattle.std.proofs.Common.{◌≡◌, ℕ, zero, suc, Bool, false, List, [], ◌∷◌, Option, None, sym, ap, ◌∙◌, subst, arith}
use Rattle.std.specs.Prelude.{ℤ, pos, ◌+ℤ◌, ◌-ℤ◌, ◌≤ℤ◌, ◌<ℤ◌, int_lt}
use Rattle.std.proofs.lemmas.Int.{ints, by_lt_z}
use Rattle.rob_index.specs.Settings.{natural, upwards}
use Rattle.rob_index.specs.Forms.{Ends, value_of, values_of, length_form}
use Rattle.rob_index.proofs.Faults.FormLemmas.{minus_is}
use Rattle.rob_index.proofs.LinesRead.ListLemmas.{natural_is}
use Rattle.rob_ranges.proofs.DigitLemmas.{lt_no}
use Rattle.rob_expand.specs.declared.finding.Finding.{Finding}
use Rattle.rob_expand.specs.declared.finding.Finding.TheVariants.{Nothing}
use Rattle.rob_settings.specs.Live.{IsDead}
use Rattle.rob_expand.specs.Judging.{finding, worse, worst, ranges_found, values_found}
use Rattle.rob_expand.proofs.Walks.FindingLemmas.{worse_assoc, worse_both, worse_nothing}
use Rattle.rob_settings.proofs.InnerLemmas.{no_values}
use Rattle.rob_settings.proofs.SettingsLemmas.{IsFirst}
use Rattle.rob_ranges.proofs.NestLemmas.{count_next, count_none}

-- ---- a quantity of the values from one on: those that add nothing to it may be passed over
module _ {X : Type 0} (rest : ℤ → X) (upto : ℤ) (IsIdle : ℤ → Type 0)
    (over : (v w : ℤ) → upto <ℤ v → upto <ℤ w → rest v ≡ rest w)
    (idle : (v : ℤ) → v ≤ℤ upto → IsIdle v → rest v ≡ rest (v +ℤ pos 1)) where
  many : (n : ℕ) (value : ℤ) → ((w : ℤ) → value ≤ℤ w → w <ℤ (value +ℤ pos n) → IsIdle w)
      → rest value ≡ rest (value +ℤ pos n)
  many zero value h = ap rest (omega (arith, ints))
  many (suc n) value h =
      by_lt_z value (upto +ℤ pos 1)
      (λ l.
      let same : (value +ℤ pos 1) +ℤ pos n ≡ value +ℤ pos (suc n) = omega (arith, ints) in
      idle value (omega (arith, ints, l)) (h value (omega (arith, ints)) (omega (arith, ints)))
      ∙ many n (value +ℤ pos 1) (λ w g k. h w (omega (arith, ints, g)) (omega (arith, ints, k)))
      ∙ ap rest same)
      (λ l. over value (value +ℤ pos (suc n)) (omega (arith, ints, l)) (omega (arith, ints, l)))

  pub passed : (value live : ℤ) → value ≤ℤ live → ((w : ℤ) → value ≤ℤ w → w <ℤ live → IsIdle w)
      → rest value ≡ rest live
  passed value live h idle_there =
      let is : value +ℤ pos (natural (live -ℤ value)) ≡ live =
      let e = natural_is (live -ℤ value) (omega (arith, ints, h)) in omega (arith, ints, e) in
      many (natural (live -ℤ value)) value (λ w g k. idle_there w g (subst (λ (z : ℤ). w <ℤ z) is k)) ∙ ap rest is

  pub passed_all : (value : ℤ) → ((w : ℤ) → value ≤ℤ w → IsIdle w) → rest value ≡ rest (upto +ℤ pos 1)
  passed_all value idle_there =
      by_lt_z upto value
      (λ l. over value (upto +ℤ pos 1) l (omega (arith, ints)))
      (λ l. passed value (upto +ℤ pos 1) (omega (arith, ints, l)) (λ w g k. idle_there w g))

-- nothing is found of ranges of which the outermost has no value
pub dead_found : (inner : List Ends) (vs : List ℤ) (w : ℤ) → IsDead inner vs w → ranges_found inner (w ∷ vs) ≡ Nothing
dead_found [] vs w dead = absurd dead
dead_found (r ∷ rs) vs w dead =
    let is = minus_is r.upto r.from (w ∷ vs) in
    let below : value_of (length_form r) (w ∷ vs) <ℤ pos 0 = omega (arith, ints, is, dead) in
    let short : int_lt (pos 99) (value_of (length_form r) (w ∷ vs)) ≡ false =
    lt_no (pos 99) (value_of (length_form r) (w ∷ vs)) (omega (arith, ints, below)) in
    worse_both (ap (λ (b : Bool). finding b false) short)
    (ap (worst (λ v. ranges_found rs (v ∷ w ∷ vs))) (no_values r (w ∷ vs) below))

-- the values of a range are those from its one end up to the other
pub values_are : (r : Ends) (inner : List Ends) (vs : List ℤ) (from upto : ℤ) → from ≡ value_of r.from vs
    → upto ≡ value_of r.upto vs
    → values_found from upto inner vs ≡ worst (λ v. ranges_found inner (v ∷ vs)) (values_of r vs)
values_are r inner vs from upto a b = λ i. values_found (a i) (b i) inner vs

-- no value is left: what was found is all
pub values_ended : (found left : Finding) {result : Finding} → left ≡ Nothing → worse found left ≡ result
    → found ≡ result
values_ended found left none so_far = sym (worse_nothing found) ∙ ap (worse found) (sym none) ∙ so_far

module _ (upto : ℤ) (inner : List Ends) (vs : List ℤ) where
  abbrev from_on : ℤ → Finding
  from_on value = values_found value upto inner vs

  found_none : (value : ℤ) → upto <ℤ value → from_on value ≡ Nothing
  found_none value h =
      ap (λ (n : ℕ). worst (λ v. ranges_found inner (v ∷ vs)) (upwards value n)) (count_none value upto h)

  found_step : (value : ℤ) → value ≤ℤ upto
      → from_on value ≡ worse (ranges_found inner (value ∷ vs)) (from_on (value +ℤ pos 1))
  found_step value h =
      ap (λ (n : ℕ). worst (λ v. ranges_found inner (v ∷ vs)) (upwards value n)) (count_next value upto h)

  found_over : (v w : ℤ) → upto <ℤ v → upto <ℤ w → from_on v ≡ from_on w
  found_over v w h k = found_none v h ∙ sym (found_none w k)

  found_idle : (v : ℤ) → v ≤ℤ upto → IsDead inner vs v → from_on v ≡ from_on (v +ℤ pos 1)
  found_idle v h dead =
      found_step v h ∙ ap (λ (a : Finding). worse a (from_on (v +ℤ pos 1))) (dead_found inner vs v dead)

  -- none has a value of the ranges inside from here on
  pub values_none : (value : ℤ) (live : Option ℤ) → live ≡ None → IsFirst upto inner vs value live
      → from_on value ≡ Nothing
  values_none value live is said =
      passed_all from_on upto (IsDead inner vs) found_over found_idle value
      (subst (IsFirst upto inner vs value) is said)
      ∙ found_none (upto +ℤ pos 1) (omega (arith, ints))

  module _ (value live : ℤ) (ahead : value ≤ℤ live) (dead : (w : ℤ) → value ≤ℤ w → w <ℤ live → IsDead inner vs w) where
    -- the first value with a setting is behind the last
    pub values_over : upto <ℤ live → from_on value ≡ Nothing
    values_over h =
        passed from_on upto (IsDead inner vs) found_over found_idle value live ahead dead ∙ found_none live h

    -- what is found there is gathered
    pub values_more : (found here new : Finding) (next : ℤ) {result : Finding} → live ≤ℤ upto
        → next ≡ live +ℤ pos 1 → here ≡ ranges_found inner (live ∷ vs) → new ≡ worse found here
        → worse found (from_on value) ≡ result → worse new (from_on next) ≡ result
    values_more found here new next within is here_is new_is so_far =
        (λ i. worse ((new_is ∙ ap (worse found) here_is) i) (from_on (is i)))
        ∙ worse_assoc found (ranges_found inner (live ∷ vs)) (from_on (live +ℤ pos 1))
        ∙ ap (worse found)
        (sym (passed from_on upto (IsDead inner vs) found_over found_idle value live ahead dead
        ∙ found_step live within))
        ∙ so_far
