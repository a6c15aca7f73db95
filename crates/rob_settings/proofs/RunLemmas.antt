-- Walks through the values of an innermost range: each has one setting.
use Rattle.std.proofs.Common.{◌≡◌, ◌<◌, ◌≤◌, ℕ, List, [], ◌∷◌, ◌++◌, length, get_or, Option, Some, None, ap, ◌∙◌, arith}
use Rattle.std.specs.Prelude.{ℤ, pos, ◌+ℤ◌, ◌≤ℤ◌, ◌<ℤ◌}
use Rattle.std.specs.List.{flat_map}
use Rattle.std.proofs.lemmas.Int.{ints}
use Rattle.rob_index.specs.Settings.{count, upwards}
use Rattle.rob_index.specs.Forms.{Ends, extensions, value_of}
use Rattle.rob_settings.specs.Room.{left_of}
use Rattle.rob_settings.specs.Live.{IsDead}
use Rattle.rob_settings.specs.Settings.{between}
use Rattle.rob_settings.proofs.SettingsLemmas.{walk_appended, walk_fewer, walk_left, walk_stop}

module _ (upto : ℤ) (vs : List ℤ) (value : ℤ) (within : value ≤ℤ upto) where
  here : value ≤ℤ value
  here = omega (arith, ints)

  none_before : (w : ℤ) → value ≤ℤ w → w <ℤ value → IsDead [] vs w
  none_before w g h = absurd (omega (arith, ints, g, h))

  -- the setting of that value is appended, and paid for
  pub run_appended : (list new : List (List ℤ)) (setting : List ℤ) (next : ℤ) {result : List (List ℤ)}
      → next ≡ value +ℤ pos 1 → new ≡ list ++ setting ∷ [] → setting ≡ value ∷ vs
      → list ++ between value upto [] vs ≡ result → new ++ between next upto [] vs ≡ result
  run_appended list new setting next is made set so_far =
      walk_appended upto [] vs value value here none_before list new next within is
      (made ∙ ap (λ (s : List ℤ). list ++ s ∷ []) set) so_far

  pub run_left : (left behind : ℕ) (next : ℤ) {result : Option ℕ} → next ≡ value +ℤ pos 1 → left_of 1 left ≡ Some behind
      → left_of (length (between value upto [] vs)) left ≡ result
      → left_of (length (between next upto [] vs)) behind ≡ result
  run_left left behind next is paid so_far =
      walk_left upto [] vs value value here none_before left behind next within is paid so_far

  -- there is no room for it
  pub run_stop : (left : ℕ) {result : Option ℕ} → left_of (length (between value upto [] vs)) left ≡ result
      → left_of 1 left ≡ None → result ≡ None
  run_stop left so_far none = walk_stop upto [] vs value value here none_before left within so_far none

  -- fewer values are left behind it
  pub run_fewer : (next : ℤ) → next ≡ value +ℤ pos 1 → count next upto < count value upto
  run_fewer next is = walk_fewer upto [] vs value value next here within is

-- the settings of the only range
pub last_range : (rs : List Ends) (vs : List ℤ) (r : Ends) (from upto : ℤ) → 1 ≤ length rs → length rs < 2
    → r ≡ get_or rs 0 r → from ≡ value_of r.from vs → upto ≡ value_of r.upto vs
    → between from upto [] vs ≡ extensions rs vs
last_range [] vs r from upto some few is a b = absurd (omega (arith, some))
last_range (q ∷ []) vs r from upto some few is a b =
    let start : from ≡ value_of q.from vs = a ∙ ap (λ (r : Ends). value_of r.from vs) is in
    let last : upto ≡ value_of q.upto vs = b ∙ ap (λ (r : Ends). value_of r.upto vs) is in
    λ i. flat_map (λ v. extensions [] (v ∷ vs)) (upwards (start i) (count (start i) (last i)))
last_range (p ∷ q ∷ qs) vs r from upto some few is a b = absurd (omega (arith, few))
