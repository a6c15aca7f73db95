-- The products of factors and values of which those that are 0 are counted.
use Rattle.std.proofs.Common.{◌≡◌, ◌<◌, ◌≤◌, ◌+◌, ◌-◌, ℕ, zero, suc, get_or, List, [], ◌∷◌, length, take, drop, slice_set, slice_index_or, refl, sym, ap, ◌∙◌, subst, arith}
use Rattle.std.specs.Prelude.{ℤ, pos, ◌+ℤ◌, ◌*ℤ◌, Result, IfOk}
use Rattle.std.proofs.lemmas.Int.{ints}
use Rattle.std.proofs.lemmas.List.{take_all}
use Rattle.std.proofs.Math.IntN.{*ℤ-zero}
use Rattle.rob_algebra.proofs.ListLemmas.{drop_at}
use Rattle.rob_index.specs.Forms.{weighed}
use Rattle.rob_ranges.specs.declared.values.Place.{Place}
use Rattle.rob_ranges.specs.Values.{zeros, spread}

-- the factors of values 0 add nothing
pub weighed_behind : (cs : List ℤ) (n : ℕ) (vs : List ℤ) → weighed cs (zeros n vs) ≡ weighed (drop n cs) vs
weighed_behind cs zero vs = refl
weighed_behind [] (suc n) vs = refl
weighed_behind (c ∷ cs) (suc n) vs =
    let h = weighed_behind cs n vs in
    let none = *ℤ-zero c in
    omega (arith, ints, h, none)

-- a value 0 in front of the first place is counted there
pub one_counted : (near : List Place) (p : Place) (count : ℕ) (v : ℤ) (vs : List ℤ) → 1 ≤ length near
    → p ≡ get_or near 0 p → v ≡ pos 0 → count ≡ p.zeros + 1
    → spread (slice_set near 0 (record { zeros = count; value = (slice_index_or near 0 p).value })) vs
    ≡ v ∷ spread near vs
one_counted [] p count v vs some is none more = absurd (omega (arith, some))
one_counted (q ∷ qs) p count v vs some is none more =
    let same : p.zeros ≡ q.zeros = ap (λ (x : Place). x.zeros) is in
    let next : count ≡ suc q.zeros = omega (arith, more, same) in
    ap (λ (n : ℕ). zeros n (q.value ∷ spread qs vs)) next
    ∙ ap (λ (z : ℤ). z ∷ spread (q ∷ qs) vs) (sym none)

-- ---- the first of some, and those behind it
abbrev pub behind_first : {A : Type 0} → List A → List A
behind_first xs = take (length xs - 1) (drop 1 xs)

first_is : {A : Type 0} (xs : List A) (x : A) → 1 ≤ length xs → x ≡ get_or xs 0 x → xs ≡ x ∷ behind_first xs
first_is [] x some is = absurd (omega (arith, some))
first_is {A} (y ∷ ys) x some is =
    (λ i. sym is i ∷ ys)
    ∙ ap (λ (l : List A). x ∷ l) (sym (take_all (length (y ∷ ys) - 1) ys (omega arith)))

none_is : {A : Type 0} (xs : List A) → length xs < 1 → xs ≡ []
none_is [] h = refl
none_is (x ∷ xs) h = absurd (omega (arith, h))

module _ (cs shown : List ℤ) (p : Place) (ps : List Place) (far : List ℤ) (is : shown ≡ drop p.zeros cs) where
  -- a place with a factor, and those behind it
  pub place_weighed : (f : ℤ) (fs : List ℤ) → shown ≡ f ∷ fs
      → weighed cs (spread (p ∷ ps) far) ≡ (f *ℤ p.value) +ℤ weighed fs (spread ps far)
  place_weighed f fs first =
      weighed_behind cs p.zeros (p.value ∷ spread ps far)
      ∙ ap (λ (l : List ℤ). weighed l (p.value ∷ spread ps far)) (sym is ∙ first)

  -- a place without one
  pub none_weighed : shown ≡ [] → weighed cs (spread (p ∷ ps) far) ≡ pos 0
  none_weighed none =
      weighed_behind cs p.zeros (p.value ∷ spread ps far)
      ∙ ap (λ (l : List ℤ). weighed l (p.value ∷ spread ps far)) (sym is ∙ none)

-- ---- at the first place of some
module _ (near : List Place) (p : Place) (far cs shown : List ℤ) (some : 1 ≤ length near)
    (place_is : p ≡ get_or near 0 p) (is : shown ≡ drop p.zeros cs) where
  pub none_first : length shown < 1 → weighed cs (spread near far) ≡ pos 0
  none_first none =
      ap (λ (ps : List Place). weighed cs (spread ps far)) (first_is near p some place_is)
      ∙ none_weighed cs shown p (behind_first near) far is (none_is shown none)

  pub place_first : (f : ℤ) → 1 ≤ length shown → f ≡ get_or shown 0 f
      → weighed cs (spread near far) ≡ (f *ℤ p.value) +ℤ weighed (behind_first shown) (spread (behind_first near) far)
  place_first f more f_is =
      ap (λ (ps : List Place). weighed cs (spread ps far)) (first_is near p some place_is)
      ∙ place_weighed cs shown p (behind_first near) far is f (behind_first shown) (first_is shown f more f_is)

-- ---- at any place
module _ (near : List Place) (k : ℕ) (p : Place) (far cs shown : List ℤ) (inside : k < length near)
    (place_is : p ≡ get_or near k p) (is : shown ≡ drop p.zeros cs) where
  pub none_at : length shown < 1 → weighed cs (spread (drop k near) far) ≡ pos 0
  none_at none =
      ap (λ (ps : List Place). weighed cs (spread ps far)) (drop_at near k p inside place_is)
      ∙ none_weighed cs shown p (drop (k + 1) near) far is (none_is shown none)

  pub place_at : (f : ℤ) → 1 ≤ length shown → f ≡ get_or shown 0 f
      → weighed cs (spread (drop k near) far)
      ≡ (f *ℤ p.value) +ℤ weighed (behind_first shown) (spread (drop (k + 1) near) far)
  place_at f more f_is =
      ap (λ (ps : List Place). weighed cs (spread ps far)) (drop_at near k p inside place_is)
      ∙ place_weighed cs shown p (drop (k + 1) near) far is f (behind_first shown) (first_is shown f more f_is)

-- the same sum, written in another way
pub same_if : {E : Type 0} (r : Result ℤ E) (a b : ℤ) → a ≡ b → IfOk r (λ s. s ≡ a) → IfOk r (λ s. s ≡ b)
same_if r a b is given = subst (λ (z : ℤ). IfOk r (λ s. s ≡ z)) is given

-- ---- a number, a short one and the products of the places
pub all_far : (near : List Place) (far : List ℤ) → length near < 1 → far ≡ spread near far
all_far [] far h = refl
all_far (p ∷ ps) far h = absurd (omega (arith, h))

pub none_added : (n whole : ℤ) → whole ≡ pos 0 → n ≡ n +ℤ whole
none_added n whole none = omega (arith, ints, none)

pub plus_nothing : (n whole : ℤ) → (n +ℤ pos 0) +ℤ whole ≡ n +ℤ whole
plus_nothing n whole = omega (arith, ints)

pub short_added : (n next short product rest whole : ℤ) → next ≡ short +ℤ product → whole ≡ product +ℤ rest
    → (n +ℤ next) +ℤ rest ≡ (n +ℤ short) +ℤ whole
short_added n next short product rest whole is all = omega (arith, ints, is, all)

pub long_added : (n next short passed product rest whole : ℤ) → next ≡ n +ℤ product → passed ≡ short
    → whole ≡ product +ℤ rest → (next +ℤ passed) +ℤ rest ≡ (n +ℤ short) +ℤ whole
long_added n next short passed product rest whole is same all = omega (arith, ints, is, same, all)
