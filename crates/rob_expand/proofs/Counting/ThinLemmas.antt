-- Items that are left out where they are idle: what is counted and named of the others is that of all.
use Rattle.std.proofs.Common.{◌≡◌, ℕ, zero, suc, ◌+◌, ◌-◌, ◌<◌, ◌≤◌, ◌==◌, Bool, true, false, List, [], ◌∷◌, ◌++◌, length, map, take, drop, get_or, Option, Some, None, refl, sym, ap, ◌∙◌, append_assoc, arith}
use Rattle.std.specs.Prelude.{ℤ, fold, nat_le, ◌&&◌, ◌||◌, if◌then◌else◌}
use Rattle.std.specs.List.{flat_map, list_any}
use Rattle.std.proofs.lemmas.Grind.{flat_map-append}
use Rattle.std.proofs.lemmas.List.Sums.{fold-append}
use Rattle.std.proofs.lemmas.List.Folds.{list_any-append}
use Rattle.std.proofs.lemmas.Bool.{eq-eqb, ne_eqb, leb-true, leb-false}
use Rattle.std.proofs.lemmas.Option.{same_Some, none-some}
use Rattle.rob_algebra.proofs.ListLemmas.{map_map}
use Rattle.rob_index.specs.Forms.{extensions}
use Rattle.rob_index.specs.Rules.{is_long_name}
use Rattle.rob_index.specs.Statements.{Name}
use Rattle.rob_index.proofs.LinesRead.ListLemmas.{or_assoc}
use Rattle.rob_settings.specs.declared.item.Item.{Item}
use Rattle.rob_settings.specs.declared.spot.Spot.{Spot}
use Rattle.rob_expand.specs.Growing.{add_name, item_names, named_at}
use Rattle.rob_expand.specs.Lines.{entries_tokens, entry_count, items_left}
use Rattle.rob_settings.specs.Room.{left_of, after}
use Rattle.rob_settings.specs.Spots.{IsThinAt, busy, is_idle, pick, picks}
use Rattle.rob_expand.proofs.Walks.LineLemmas.{entries_some}
use Rattle.rob_settings.proofs.RoomLemmas.{left_some, left_none, left_zero}
use Rattle.rob_expand.proofs.Walks.WalkLemmas.{flat_mapped}
use Rattle.rob_settings.proofs.SpotLemmas.{idle_none, picks_more, values_in}

-- ---- it adds nothing
module _ (vs : List ℤ) where
  pub busy_flat : {B : Type 0} (f : Item → List B) → ((x : Item) → extensions x.ranges vs ≡ [] → f x ≡ [])
      → (xs : List Item) → flat_map f (busy false xs vs) ≡ flat_map f xs
  busy_flat f none [] = refl
  busy_flat {B} f none (x ∷ xs) = go (busy_flat f none xs) (is_idle false x vs) refl
    where
      go : flat_map f (busy false xs vs) ≡ flat_map f xs → (b : Bool) → is_idle false x vs ≡ b
          → flat_map f (if b then busy false xs vs else x ∷ busy false xs vs) ≡ f x ++ flat_map f xs
      go so true e = so ∙ ap (λ (l : List B). l ++ flat_map f xs) (sym (none x (idle_none false x vs e)))
      go so false e = ap (λ (l : List B). f x ++ l) so

  and_true : (b : Bool) → (b && true) ≡ b
  and_true true = refl
  and_true false = refl

  -- no entry, no token
  none_left : (x : Item) (xs : List Item) (first : Bool) (room : ℕ) → extensions x.ranges vs ≡ []
      → items_left first (x ∷ xs) vs room ≡ items_left first xs vs room
  none_left x xs first room none =
      ap (λ (n : ℕ). after (left_of (entries_tokens first (1 + x.behind) n) room) (items_left (first && n == 0) xs vs))
      (ap (λ (l : List (List ℤ)). length l) none)
      ∙ ap (λ (o : Option ℕ). after o (items_left (first && true) xs vs)) (left_zero room)
      ∙ ap (λ (b : Bool). items_left b xs vs room) (and_true first)

  pub busy_left : (xs : List Item) (first : Bool) (room : ℕ)
      → items_left first (busy false xs vs) vs room ≡ items_left first xs vs room
  busy_left [] first room = refl
  busy_left (x ∷ xs) first room = go (busy_left xs) (is_idle false x vs) refl
    where
      go : ((first : Bool) (room : ℕ) → items_left first (busy false xs vs) vs room ≡ items_left first xs vs room)
          → (b : Bool) → is_idle false x vs ≡ b
          → items_left first (if b then busy false xs vs else x ∷ busy false xs vs) vs room
          ≡ items_left first (x ∷ xs) vs room
      go so true e = so first room ∙ sym (none_left x xs first room (idle_none false x vs e))
      go so false e = λ i.
          after (left_of (entries_tokens first (1 + x.behind) (entry_count x vs)) room)
          (λ left. so (first && entry_count x vs == 0) left i)

module _ (xs : List Item) (ks : List ℕ) (vs : List ℤ) (thin : IsThinAt false xs ks vs) where
  pub thin_left : (first : Bool) (room : ℕ) → items_left first (picks xs ks) vs room ≡ items_left first xs vs room
  thin_left first room =
      sym (busy_left vs (picks xs ks) first room)
      ∙ ap (λ (l : List Item). items_left first l vs room) thin ∙ busy_left vs xs first room

  thin_flat : {B : Type 0} (f : Item → List B) → ((x : Item) → extensions x.ranges vs ≡ [] → f x ≡ [])
      → flat_map f (picks xs ks) ≡ flat_map f xs
  thin_flat f none = sym (busy_flat vs f none (picks xs ks)) ∙ ap (flat_map f) thin ∙ busy_flat vs f none xs

  pub thin_names : (own : List Name)
      → flat_map (λ x. item_names own x vs) (picks xs ks) ≡ flat_map (λ x. item_names own x vs) xs
  thin_names own =
      thin_flat (λ x. item_names own x vs) (λ x none. ap (λ (l : List (List ℤ)). map (named_at own x.name) l) none)

-- ---- the items at some places, counted one by one
left_less : (n room left : ℕ) → left_of n room ≡ Some left → left + n ≡ room
left_less n room left is = go (nat_le n room) refl
  where
    go : (b : Bool) → nat_le n room ≡ b → left + n ≡ room
    go true e =
        let l : n ≤ room = leb-true n room e in
        let same = same_Some left (room - n) (sym is ∙ left_some n room l) in
        omega (arith, l, same)
    go false e = absurd (none-some left (sym (left_none n room (leb-false n room e)) ∙ is))

spent : (first : Bool) (behind n room left : ℕ) → left_of (entries_tokens first (1 + behind) n) room ≡ Some left
    → (n == 0) ≡ (left == room)
spent first behind zero room left is =
    let same : left ≡ room = same_Some left room (sym is ∙ left_zero room) in
    sym (eq-eqb left room same)
spent first behind (suc n) room left is =
    let some = entries_some first behind (suc n) in
    let paid = left_less (entries_tokens first (1 + behind) (suc n)) room left is in
    ne_eqb (suc n) 0 (λ e. absurd (omega (arith, e)))
    ∙ sym (ne_eqb left room (λ e. absurd (omega (arith, some, paid, e))))

module _ (rest : List Item) (vs : List ℤ) (first : Bool) (room : ℕ) where
  -- what is left behind the others
  abbrev behind_left : ℕ → Option ℕ
  behind_left left = items_left (first && left == room) rest vs left

  one_left : (ys : List Item)
      → items_left first (take 1 ys ++ rest) vs room ≡ after (items_left first (take 1 ys) vs room) behind_left
  one_left [] =
      ap (λ (b : Bool). items_left b rest vs room)
      (sym (and_true vs first) ∙ ap (λ (b : Bool). first && b) (sym (eq-eqb room room refl)))
  one_left (y ∷ ys) = go (left_of (entries_tokens first (1 + y.behind) (entry_count y vs)) room) refl
    where
      go : (o : Option ℕ) → left_of (entries_tokens first (1 + y.behind) (entry_count y vs)) room ≡ o
          → after o (items_left (first && entry_count y vs == 0) rest vs)
          ≡ after (after o (items_left (first && entry_count y vs == 0) [] vs)) behind_left
      go None e = refl
      go (Some left) e =
          ap (λ (b : Bool). items_left (first && b) rest vs left) (spent first y.behind (entry_count y vs) room left e)

module _ (xs : List Item) (ks : List ℕ) (i k : ℕ) (vs : List ℤ) (first : Bool) (room : ℕ) (inside : i < length ks)
    (is : k ≡ get_or ks i 0) (one : List Item) (one_is : one ≡ pick xs k) where
  place_step : items_left first (picks xs (drop i ks)) vs room
      ≡ after (items_left first one vs room)
      (λ left. items_left (first && left == room) (picks xs (drop (i + 1) ks)) vs left)
  place_step =
      ap (λ (l : List Item). items_left first l vs room) (picks_more xs ks i k inside is)
      ∙ one_left (picks xs (drop (i + 1) ks)) vs first room (drop k xs)
      ∙ ap (λ (l : List Item). after (items_left first l vs room)
      (λ left. items_left (first && left == room) (picks xs (drop (i + 1) ks)) vs left)) (sym one_is)

  pub place_more : (behind : ℕ) {result : Option ℕ} → items_left first one vs room ≡ Some behind
      → items_left first (picks xs (drop i ks)) vs room ≡ result
      → items_left (first && behind == room) (picks xs (drop (i + 1) ks)) vs behind ≡ result
  place_more behind paid so_far =
      sym (ap (λ (o : Option ℕ). after o
      (λ left. items_left (first && left == room) (picks xs (drop (i + 1) ks)) vs left)) paid)
      ∙ sym place_step ∙ so_far

  pub place_stop : {result : Option ℕ} → items_left first (picks xs (drop i ks)) vs room ≡ result
      → items_left first one vs room ≡ None → result ≡ None
  place_stop so_far none =
      sym so_far ∙ place_step
      ∙ ap (λ (o : Option ℕ). after o
      (λ left. items_left (first && left == room) (picks xs (drop (i + 1) ks)) vs left)) none

pub place_end : (xs : List Item) (ks : List ℕ) (i : ℕ) (vs : List ℤ) (first : Bool) (left : ℕ) → drop i ks ≡ []
    → items_left first (picks xs (drop i ks)) vs left ≡ Some left
place_end xs ks i vs first left none = ap (λ (l : List ℕ). items_left first (picks xs l) vs left) none

-- ---- settings with the places of their items
pub spots_flat : {B : Type 0} (f : List ℤ → List B) (spots : List Spot) (vss : List (List ℤ)) → values_in spots ≡ vss
    → flat_map (λ (s : Spot). f s.values) spots ≡ flat_map f vss
spots_flat f spots vss is = sym (flat_mapped f (λ (s : Spot). s.values) spots) ∙ ap (flat_map f) is

pub spots_map : {B : Type 0} (f : List ℤ → B) (spots : List Spot) (vss : List (List ℤ)) → values_in spots ≡ vss
    → map (λ (s : Spot). f s.values) spots ≡ map f vss
spots_map f spots vss is = sym (map_map f (λ (s : Spot). s.values) spots) ∙ ap (map f) is

-- ---- walks over the items at some places
module _ {A : Type 0} (f : A → List Name) (old one xs : List A) (is : old ≡ one ++ xs) where
  apart : flat_map f old ≡ flat_map f one ++ flat_map f xs
  apart = ap (flat_map f) is ∙ flat_map-append f one xs

  pub words_some : (words next : List Name) {result : List Name} → next ≡ fold add_name words (flat_map f one)
      → fold add_name words (flat_map f old) ≡ result → fold add_name next (flat_map f xs) ≡ result
  words_some words next here so_far =
      ap (λ (w : List Name). fold add_name w (flat_map f xs)) here
      ∙ sym (fold-append add_name words (flat_map f one) (flat_map f xs))
      ∙ ap (fold add_name words) (sym apart) ∙ so_far

  pub long_some : (long here next : Bool) {result : Bool} → here ≡ list_any is_long_name (flat_map f one)
      → next ≡ (long || here) → (long || list_any is_long_name (flat_map f old)) ≡ result
      → (next || list_any is_long_name (flat_map f xs)) ≡ result
  long_some long here next here_is next_is so_far =
      ap (λ (b : Bool). b || list_any is_long_name (flat_map f xs)) next_is
      ∙ or_assoc long here (list_any is_long_name (flat_map f xs))
      ∙ ap (λ (b : Bool). long || (b || list_any is_long_name (flat_map f xs))) here_is
      ∙ ap (λ (b : Bool). long || b) (sym (list_any-append is_long_name (flat_map f one) (flat_map f xs)))
      ∙ ap (λ (l : List Name). long || list_any is_long_name l) (sym apart) ∙ so_far

pub made_some : {A B : Type 0} (f : A → List B) (done next : List B) (old one xs : List A) {result : List B}
    → old ≡ one ++ xs → next ≡ done ++ flat_map f one → done ++ flat_map f old ≡ result
    → next ++ flat_map f xs ≡ result
made_some {A} {B} f done next old one xs is here so_far =
    ap (λ (l : List B). l ++ flat_map f xs) here ∙ append_assoc done (flat_map f one) (flat_map f xs)
    ∙ ap (λ (l : List B). done ++ l) (sym (ap (flat_map f) is ∙ flat_map-append f one xs)) ∙ so_far
