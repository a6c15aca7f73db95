-- Items that are idle in a setting, the items at some places, and settings with the places of the others.
use Rattle.std.proofs.Common.{◌≡◌, ℕ, zero, suc, ◌+◌, ◌-◌, ◌<◌, ◌≤◌, Bool, true, false, List, [], ◌∷◌, ◌++◌, length, map, take, drop, get_or, refl, sym, ap, ◌∙◌, subst, append_assoc, append-nil, arith}
use Rattle.std.specs.Prelude.{ℤ, Result, Ok, Err, IfOk, ◌&&◌, not, if◌then◌else◌}
use Rattle.std.proofs.lemmas.List.{at_drop_more}
use Rattle.rob_algebra.proofs.ListLemmas.{drop_all}
use Rattle.rob_syntax.specs.Plain.{is_nothing}
use Rattle.rob_index.specs.Forms.{extensions}
use Rattle.rob_index.proofs.LinesRead.ListLemmas.{both_true}
use Rattle.rob_settings.specs.declared.item.Item.{Item}
use Rattle.rob_settings.specs.declared.spot.Spot.{Spot}
use Rattle.rob_settings.specs.Inner.{is_long_in}
use Rattle.rob_settings.specs.Spots.{IsThin, IsThinAt, busy, is_idle, pick, picks}
use Rattle.rob_ranges.specs.Spans.{Every}
use Rattle.rob_syntax.proofs.PlainLemmas.{nothing_from}

-- ---- an idle item
not_is : (b : Bool) → not b ≡ true → b ≡ false
not_is true h = cc
not_is false h = refl

pub idle_none : (short : Bool) (x : Item) (vs : List ℤ) → is_idle short x vs ≡ true → extensions x.ranges vs ≡ []
idle_none short x vs h =
    nothing_from (extensions x.ranges vs)
    (both_true (is_nothing (extensions x.ranges vs)) (not (short && is_long_in x.ranges vs)) h).0

pub idle_short : (x : Item) (vs : List ℤ) → is_idle true x vs ≡ true → is_long_in x.ranges vs ≡ false
idle_short x vs h =
    not_is (is_long_in x.ranges vs)
    (both_true (is_nothing (extensions x.ranges vs)) (not (is_long_in x.ranges vs)) h).1

pub idle_if_short : (x : Item) (vs : List ℤ) → extensions x.ranges vs ≡ [] → is_long_in x.ranges vs ≡ false
    → is_idle true x vs ≡ true
idle_if_short x vs none short = λ i. is_nothing (none i) && not (short i)

pub idle_if_none : (x : Item) (vs : List ℤ) → extensions x.ranges vs ≡ [] → is_idle false x vs ≡ true
idle_if_none x vs none = λ i. is_nothing (none i) && true

-- the same places and values
pub thin_along : (xs : List Item) (ks js : List ℕ) (vs ws : List ℤ) → js ≡ ks → ws ≡ vs → IsThinAt false xs ks vs
    → IsThinAt false xs js ws
thin_along xs ks js vs ws e f thin = subst (λ (l : List ℕ). IsThinAt false xs l ws) (sym e)
    (subst (λ (l : List ℤ). IsThinAt false xs ks l) (sym f) thin)

-- ---- items one by one
pub picks_more : (xs : List Item) (ks : List ℕ) (i k : ℕ) → i < length ks → k ≡ get_or ks i 0
    → picks xs (drop i ks) ≡ pick xs k ++ picks xs (drop (i + 1) ks)
picks_more xs ks i k inside is =
    ap (picks xs)
    (at_drop_more (λ (l : List ℕ). l) ks i 0 inside ∙ ap (λ (j : ℕ). j ∷ drop (i + 1) ks) (sym is))

pub busy_append : (short : Bool) (xs ys : List Item) (vs : List ℤ)
    → busy short (xs ++ ys) vs ≡ busy short xs vs ++ busy short ys vs
busy_append short [] ys vs = refl
busy_append short (x ∷ xs) ys vs = go (busy_append short xs ys vs) (is_idle short x vs) refl
  where
    go : busy short (xs ++ ys) vs ≡ busy short xs vs ++ busy short ys vs → (b : Bool) → is_idle short x vs ≡ b
        → (if b then busy short (xs ++ ys) vs else x ∷ busy short (xs ++ ys) vs)
        ≡ (if b then busy short xs vs else x ∷ busy short xs vs) ++ busy short ys vs
    go so true e = so
    go so false e = ap (λ (l : List Item). x ∷ l) so

pub picks_append : (xs : List Item) (ks js : List ℕ) → picks xs (ks ++ js) ≡ picks xs ks ++ picks xs js
picks_append xs [] js = refl
picks_append xs (k ∷ ks) js =
    ap (λ (l : List Item). pick xs k ++ l) (picks_append xs ks js)
    ∙ sym (append_assoc (pick xs k) (picks xs ks) (picks xs js))

-- the only item of some
pub only_idle : (short : Bool) (xs : List Item) (x : Item) (vs : List ℤ) → length xs ≡ 1 → x ≡ get_or xs 0 x
    → is_idle short x vs ≡ true → busy short xs vs ≡ []
only_idle short [] x vs one is idle = absurd (omega (arith, one))
only_idle short (y ∷ []) x vs one is idle =
    ap (λ (b : Bool). if b then [] else y ∷ []) (ap (λ (z : Item). is_idle short z vs) (sym is) ∙ idle)
only_idle short (y ∷ z ∷ zs) x vs one is idle = absurd (omega (arith, one))

-- a place is kept, or left out where its item is idle
pub kept_more : (short : Bool) (xs : List Item) (places new ks : List ℕ) (i k : ℕ) (idle : Bool) (vs : List ℤ)
    {result : List Item} → i < length ks → k ≡ get_or ks i 0 → (idle ≡ true → busy short (pick xs k) vs ≡ [])
    → new ≡ places ++ (if idle then [] else k ∷ [])
    → busy short (picks xs places ++ picks xs (drop i ks)) vs ≡ result
    → busy short (picks xs new ++ picks xs (drop (i + 1) ks)) vs ≡ result
kept_more short xs places new ks i k true vs inside is none made so_far =
    let rest = picks xs (drop (i + 1) ks) in
    ap (λ (l : List ℕ). busy short (picks xs l ++ rest) vs) (made ∙ append-nil places)
    ∙ busy_append short (picks xs places) rest vs
    ∙ ap (λ (l : List Item). busy short (picks xs places) vs ++ (l ++ busy short rest vs)) (sym (none refl))
    ∙ ap (λ (l : List Item). busy short (picks xs places) vs ++ l) (sym (busy_append short (pick xs k) rest vs))
    ∙ sym (busy_append short (picks xs places) (pick xs k ++ rest) vs)
    ∙ ap (λ (l : List Item). busy short (picks xs places ++ l) vs) (sym (picks_more xs ks i k inside is))
    ∙ so_far
kept_more short xs places new ks i k false vs inside is none made so_far =
    let rest = picks xs (drop (i + 1) ks) in
    ap (λ (l : List ℕ). busy short (picks xs l ++ rest) vs) made
    ∙ ap (λ (l : List Item). busy short (l ++ rest) vs) (picks_append xs places (k ∷ []))
    ∙ ap (λ (l : List Item). busy short ((picks xs places ++ l) ++ rest) vs) (append-nil (pick xs k))
    ∙ ap (λ (l : List Item). busy short l vs) (append_assoc (picks xs places) (pick xs k) rest)
    ∙ ap (λ (l : List Item). busy short (picks xs places ++ l) vs) (sym (picks_more xs ks i k inside is))
    ∙ so_far

pub kept_all : (short : Bool) (xs : List Item) (places ks : List ℕ) (i : ℕ) (vs : List ℤ) {result : List Item}
    → drop i ks ≡ []
    → busy short (picks xs places ++ picks xs (drop i ks)) vs ≡ result → busy short (picks xs places) vs ≡ result
kept_all short xs places ks i vs none so_far =
    ap (λ (l : List Item). busy short l vs) (sym (append-nil (picks xs places)))
    ∙ ap (λ (l : List ℕ). busy short (picks xs places ++ picks xs l) vs) (sym none) ∙ so_far

-- ---- all places
slot : (xs : List Item) (k : ℕ) → k < length xs → take k xs ++ (pick xs k ++ []) ≡ take (k + 1) xs
slot [] k h = absurd (omega (arith, h))
slot (y ∷ ys) zero h = refl
slot (y ∷ ys) (suc k) h =
    let next : suc (k + 1) ≡ suc k + 1 = omega arith in
    ap (λ (l : List Item). y ∷ l) (slot ys k (omega (arith, h))) ∙ ap (λ (n : ℕ). take n (y ∷ ys)) next

pub places_more : (xs : List Item) (places new : List ℕ) (k : ℕ) → k < length xs → new ≡ places ++ k ∷ []
    → picks xs places ≡ take k xs → picks xs new ≡ take (k + 1) xs
places_more xs places new k h made so_far =
    ap (picks xs) made ∙ picks_append xs places (k ∷ []) ∙ ap (λ (l : List Item). l ++ (pick xs k ++ [])) so_far
    ∙ slot xs k h

take_whole : (xs : List Item) (k : ℕ) → length xs ≤ k → take k xs ≡ xs
take_whole [] zero h = refl
take_whole [] (suc k) h = refl
take_whole (x ∷ xs) zero h = absurd (omega (arith, h))
take_whole (x ∷ xs) (suc k) h = ap (λ (l : List Item). x ∷ l) (take_whole xs k (omega (arith, h)))

-- no place is left
pub places_all : (xs : List Item) (places : List ℕ) (k : ℕ) → length xs ≤ k → picks xs places ≡ take k xs
    → picks xs places ≡ xs
places_all xs places k all so_far = so_far ∙ take_whole xs k all

-- ---- settings with their places
abbrev pub values_in : List Spot → List (List ℤ)
values_in spots = map (λ (s : Spot). s.values) spots

pub thin_spots : (xs ys : List Item) (ss ts : List Spot) → xs ≡ ys → ts ≡ ss → Every (IsThin xs) ss
    → Every (IsThin ys) ts
thin_spots xs ys ss ts e f thin =
    subst (λ (l : List Spot). Every (IsThin ys) l) (sym f) (subst (λ (l : List Item). Every (IsThin l) ss) e thin)

-- all places are thin anywhere
pub all_thin : (short : Bool) (xs : List Item) (ks : List ℕ) (vss : List (List ℤ)) → picks xs ks ≡ xs
    → Every (IsThinAt short xs ks) vss
all_thin short xs ks [] is = tt
all_thin short xs ks (vs ∷ vss) is = (ap (λ (l : List Item). busy short l vs) is, all_thin short xs ks vss is)

-- places that are thinner
pub thinner : (short : Bool) (xs : List Item) (ks js : List ℕ) (Holds : List ℤ → Type 0) (vss : List (List ℤ))
    → ((vs : List ℤ) → Holds vs → busy short (picks xs js) vs ≡ busy short (picks xs ks) vs) → Every Holds vss
    → Every (IsThinAt short xs ks) vss → Every (IsThinAt short xs js) vss
thinner short xs ks js Holds [] same within thin = tt
thinner short xs ks js Holds (vs ∷ vss) same within thin =
    (same vs within.0 ∙ thin.0, thinner short xs ks js Holds vss same within.1 thin.1)

-- the same of what is answered
module _ (short : Bool) (xs : List Item) (ks : List ℕ) (vss : List (List ℤ)) where
  pub thin_if_same : {E : Type 0} (r : Result (List ℕ) E) → IfOk r (λ js. js ≡ ks) → Every (IsThinAt short xs ks) vss
      → IfOk r (λ js. Every (IsThinAt short xs js) vss)
  thin_if_same (Ok js) is thin = subst (λ (l : List ℕ). Every (IsThinAt short xs l) vss) (sym is) thin
  thin_if_same (Err e) is thin = tt

  pub thin_if_busy : {E : Type 0} (Holds : List ℤ → Type 0) (r : Result (List ℕ) E)
      → IfOk r (λ js. (vs : List ℤ) → Holds vs → busy short (picks xs js) vs ≡ busy short (picks xs ks) vs)
      → Every Holds vss → Every (IsThinAt short xs ks) vss → IfOk r (λ js. Every (IsThinAt short xs js) vss)
  thin_if_busy Holds (Ok js) same within thin = thinner short xs ks js Holds vss same within thin
  thin_if_busy Holds (Err e) same within thin = tt

-- the place of a walk, with the item there as it is handed on
pub place_apart : (xs : List Item) (ks : List ℕ) (i k : ℕ) (one : List Item) → i < length ks → k ≡ get_or ks i 0
    → one ≡ pick xs k → picks xs (drop i ks) ≡ one ++ picks xs (drop (i + 1) ks)
place_apart xs ks i k one inside is one_is =
    picks_more xs ks i k inside is ∙ ap (λ (l : List Item). l ++ picks xs (drop (i + 1) ks)) (sym one_is)

pub places_none : (xs : List Item) (ks : List ℕ) (i : ℕ) → length ks ≤ i → picks xs (drop i ks) ≡ []
places_none xs ks i all = ap (picks xs) (drop_all i ks all)
