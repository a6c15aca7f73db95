-- Walks through the values of a range: those at which the ranges inside have none are passed over.
use Rattle.std.proofs.Common.{◌≡◌, ℕ, zero, suc, ◌-◌, take, List, [], ◌∷◌, ◌++◌, length, Option, Some, None, refl, sym, ap, ◌∙◌, subst, arith}
use Rattle.std.specs.Prelude.{ℤ, pos, ◌+ℤ◌, ◌-ℤ◌, ◌≤ℤ◌, ◌<ℤ◌, ◌<◌, MatchOption, get_or, drop}
use Rattle.std.specs.List.{flat_map}
use Rattle.std.proofs.lemmas.Int.{ints, by_lt_z}
use Rattle.std.proofs.Common.{length-append, append_assoc, append-nil}
use Rattle.rob_index.specs.Settings.{natural, count, upwards}
use Rattle.rob_index.specs.Forms.{Ends, value_of, extensions}
use Rattle.rob_index.proofs.LinesRead.ListLemmas.{natural_is}
use Rattle.rob_settings.specs.Room.{left_of, after}
use Rattle.rob_settings.specs.Live.{IsDead}
use Rattle.rob_settings.specs.Settings.{between}
use Rattle.rob_settings.proofs.RoomLemmas.{left_zero, left_same, left_after}
use Rattle.rob_ranges.proofs.NestLemmas.{count_next, count_none}

-- where the outermost of the ranges inside has no value, there is no setting
pub dead_none : (inner : List Ends) (vs : List ℤ) (w : ℤ) → IsDead inner vs w → extensions inner (w ∷ vs) ≡ []
dead_none [] vs w dead = absurd dead
dead_none (r ∷ rs) vs w dead =
    ap (λ (n : ℕ). flat_map (λ v. extensions rs (v ∷ w ∷ vs)) (upwards (value_of r.from (w ∷ vs)) n))
    (count_none (value_of r.from (w ∷ vs)) (value_of r.upto (w ∷ vs)) (omega (arith, ints, dead)))

module _ (upto : ℤ) (inner : List Ends) (vs : List ℤ) where
  pub between_none : (value : ℤ) → upto <ℤ value → between value upto inner vs ≡ []
  between_none value h =
      ap (λ (n : ℕ). flat_map (λ v. extensions inner (v ∷ vs)) (upwards value n)) (count_none value upto h)

  pub between_step : (value : ℤ) → value ≤ℤ upto
      → between value upto inner vs ≡ extensions inner (value ∷ vs) ++ between (value +ℤ pos 1) upto inner vs
  between_step value h =
      ap (λ (n : ℕ). flat_map (λ v. extensions inner (v ∷ vs)) (upwards value n)) (count_next value upto h)

  -- what is left behind one value, and behind those after it
  pub left_step : (value : ℤ) (room : ℕ) → value ≤ℤ upto
      → left_of (length (between value upto inner vs)) room
      ≡ after (left_of (length (extensions inner (value ∷ vs))) room)
      (left_of (length (between (value +ℤ pos 1) upto inner vs)))
  left_step value room h =
      ap (λ (l : List (List ℤ)). left_of (length l) room) (between_step value h)
      ∙ left_same _ _ room (length-append (extensions inner (value ∷ vs)) (between (value +ℤ pos 1) upto inner vs))
      ∙ sym (left_after (length (extensions inner (value ∷ vs))) (length (between (value +ℤ pos 1) upto inner vs)) room
      (left_of (length (between (value +ℤ pos 1) upto inner vs))) (λ k. refl))

  -- so many values at which there is no setting
  skipped : (n : ℕ) (value : ℤ) → ((w : ℤ) → value ≤ℤ w → w <ℤ (value +ℤ pos n) → IsDead inner vs w)
      → between value upto inner vs ≡ between (value +ℤ pos n) upto inner vs
  skipped zero value dead = ap (λ (v : ℤ). between v upto inner vs) (omega (arith, ints))
  skipped (suc n) value dead =
      by_lt_z value (upto +ℤ pos 1)
      (λ l.
      let first = dead_none inner vs value (dead value (omega (arith, ints)) (omega (arith, ints))) in
      let same : (value +ℤ pos 1) +ℤ pos n ≡ value +ℤ pos (suc n) = omega (arith, ints) in
      between_step value (omega (arith, ints, l))
      ∙ ap (λ (l : List (List ℤ)). l ++ between (value +ℤ pos 1) upto inner vs) first
      ∙ skipped n (value +ℤ pos 1) (λ w g h. dead w (omega (arith, ints, g)) (omega (arith, ints, h)))
      ∙ ap (λ (v : ℤ). between v upto inner vs) same)
      (λ l. between_none value (omega (arith, ints, l))
      ∙ sym (between_none (value +ℤ pos (suc n)) (omega (arith, ints, l))))

  pub between_skip : (value live : ℤ) → value ≤ℤ live → ((w : ℤ) → value ≤ℤ w → w <ℤ live → IsDead inner vs w)
      → between value upto inner vs ≡ between live upto inner vs
  between_skip value live h dead =
      let is : value +ℤ pos (natural (live -ℤ value)) ≡ live =
      let e = natural_is (live -ℤ value) (omega (arith, ints, h)) in omega (arith, ints, e) in
      skipped (natural (live -ℤ value)) value (λ w g k. dead w g (subst (λ (z : ℤ). w <ℤ z) is k))
      ∙ ap (λ (v : ℤ). between v upto inner vs) is

  -- no value has a setting from here on
  pub between_dead : (value : ℤ) → ((w : ℤ) → value ≤ℤ w → IsDead inner vs w) → between value upto inner vs ≡ []
  between_dead value dead =
      by_lt_z upto value
      (λ l. between_none value l)
      (λ l. between_skip value (upto +ℤ pos 1) (omega (arith, ints, l)) (λ w g h. dead w g)
      ∙ between_none (upto +ℤ pos 1) (omega (arith, ints)))

  -- ---- one step of the walk, which goes on at the first value with a setting
  module _ (value live : ℤ) (ahead : value ≤ℤ live) (dead : (w : ℤ) → value ≤ℤ w → w <ℤ live → IsDead inner vs w) where
    -- the settings of that value are appended
    pub walk_appended : (list new : List (List ℤ)) (next : ℤ) {result : List (List ℤ)} → live ≤ℤ upto
        → next ≡ live +ℤ pos 1 → new ≡ list ++ extensions inner (live ∷ vs)
        → list ++ between value upto inner vs ≡ result → new ++ between next upto inner vs ≡ result
    walk_appended list new next within is made so_far =
        ap (λ (l : List (List ℤ)). l ++ between next upto inner vs) made
        ∙ ap (λ (v : ℤ). (list ++ extensions inner (live ∷ vs)) ++ between v upto inner vs) is
        ∙ append_assoc list (extensions inner (live ∷ vs)) (between (live +ℤ pos 1) upto inner vs)
        ∙ ap (λ (l : List (List ℤ)). list ++ l) (sym (between_skip value live ahead dead ∙ between_step live within))
        ∙ so_far

    -- they are paid for
    pub walk_left : (left behind : ℕ) (next : ℤ) {result : Option ℕ} → live ≤ℤ upto → next ≡ live +ℤ pos 1
        → left_of (length (extensions inner (live ∷ vs))) left ≡ Some behind
        → left_of (length (between value upto inner vs)) left ≡ result
        → left_of (length (between next upto inner vs)) behind ≡ result
    walk_left left behind next within is paid so_far =
        ap (λ (v : ℤ). left_of (length (between v upto inner vs)) behind) is
        ∙ sym (ap (λ (o : Option ℕ). after o (left_of (length (between (live +ℤ pos 1) upto inner vs)))) paid)
        ∙ sym (ap (λ (l : List (List ℤ)). left_of (length l) left) (between_skip value live ahead dead)
        ∙ left_step live left within)
        ∙ so_far

    -- there is no room for them
    pub walk_stop : (left : ℕ) {result : Option ℕ} → live ≤ℤ upto
        → left_of (length (between value upto inner vs)) left ≡ result
        → left_of (length (extensions inner (live ∷ vs))) left ≡ None → result ≡ None
    walk_stop left within so_far none =
        sym so_far
        ∙ ap (λ (l : List (List ℤ)). left_of (length l) left) (between_skip value live ahead dead)
        ∙ left_step live left within
        ∙ ap (λ (o : Option ℕ). after o (left_of (length (between (live +ℤ pos 1) upto inner vs)))) none

    -- the first value with a setting is behind the last
    pub walk_over : upto <ℤ live → between value upto inner vs ≡ []
    walk_over h = between_skip value live ahead dead ∙ between_none live h

  -- no value is left: what was made is all, and what is left is left
  pub walk_made : (value : ℤ) (list : List (List ℤ)) {result : List (List ℤ)} → between value upto inner vs ≡ []
      → list ++ between value upto inner vs ≡ result → list ≡ result
  walk_made value list none so_far =
      sym (append-nil list) ∙ ap (λ (l : List (List ℤ)). list ++ l) (sym none) ∙ so_far

  pub walk_ended : (value : ℤ) (left : ℕ) {result : Option ℕ} → between value upto inner vs ≡ []
      → left_of (length (between value upto inner vs)) left ≡ result → result ≡ Some left
  walk_ended value left none so_far =
      sym so_far ∙ ap (λ (l : List (List ℤ)). left_of (length l) left) none ∙ left_zero left

  -- ---- the first value with a setting, if there is one
  abbrev pub IsFirst : ℤ → Option ℤ → Type 0
  IsFirst value live =
      MatchOption live
      ((w : ℤ) → value ≤ℤ w → IsDead inner vs w)
      (λ v. (value ≤ℤ v) × ((w : ℤ) → value ≤ℤ w → w <ℤ v → IsDead inner vs w))

  pub walk_none : (value : ℤ) (live : Option ℤ) → live ≡ None → IsFirst value live → between value upto inner vs ≡ []
  walk_none value live is said = between_dead value (subst (IsFirst value) is said)

  pub walk_some : (value v : ℤ) (live : Option ℤ) → live ≡ Some v → IsFirst value live
      → (value ≤ℤ v) × ((w : ℤ) → value ≤ℤ w → w <ℤ v → IsDead inner vs w)
  walk_some value v live is said = subst (IsFirst value) is said

  -- fewer values are left behind it
  pub walk_fewer : (value live next : ℤ) → value ≤ℤ live → live ≤ℤ upto → next ≡ live +ℤ pos 1
      → count next upto < count value upto
  walk_fewer value live next ahead within is =
      let here : pos (count value upto) ≡ (upto +ℤ pos 1) -ℤ value =
      natural_is ((upto +ℤ pos 1) -ℤ value) (omega (arith, ints, ahead, within)) in
      let behind : pos (count next upto) ≡ (upto +ℤ pos 1) -ℤ next =
      natural_is ((upto +ℤ pos 1) -ℤ next) (omega (arith, ints, within, is)) in
      omega (arith, ints, here, behind, ahead, is)

take_whole : (rs : List Ends) → take (length rs) rs ≡ rs
take_whole [] = refl
take_whole (r ∷ rs) = ap (λ (l : List Ends). r ∷ l) (take_whole rs)

-- the settings of the first range, and of those inside it
pub first_range : (rs : List Ends) (vs : List ℤ) (r : Ends) (from upto : ℤ) (room : ℕ) → 0 < length rs
    → r ≡ get_or rs 0 r
    → from ≡ value_of r.from vs → upto ≡ value_of r.upto vs
    → left_of (length (between from upto (take (length rs - 1) (drop 1 rs)) vs)) room
    ≡ left_of (length (extensions rs vs)) room
first_range [] vs r from upto room some is a b = absurd (omega (arith, some))
first_range (q ∷ qs) vs r from upto room some is a b =
    let start : from ≡ value_of q.from vs = a ∙ ap (λ (r : Ends). value_of r.from vs) is in
    let last : upto ≡ value_of q.upto vs = b ∙ ap (λ (r : Ends). value_of r.upto vs) is in
    let all : length (q ∷ qs) - 1 ≡ length qs = omega arith in
    ap (λ (n : ℕ). left_of (length (between from upto (take n qs) vs)) room) all
    ∙ ap (λ (l : List Ends). left_of (length (between from upto l vs)) room) (take_whole qs)
    ∙ (λ i. left_of (length (flat_map (λ v. extensions qs (v ∷ vs)) (upwards (start i) (count (start i) (last i)))))
    room)
