-- A list is distinct where, on the way over it, each item is none of those before it.
use Rattle.std.proofs.Common.{◌≡◌, ℕ, Bool, true, false, List, [], ◌∷◌, ◌++◌, map, refl, ap, sym, subst, ◌∙◌, ◌+◌, ◌<◌, ◌≤◌, length, get_or, drop, Vec}
use Rattle.std.specs.Prelude.{◌≢◌, ◌&&◌, ◌||◌, not, cond}
use Rattle.std.specs.Bool.{Decides}
use Rattle.std.specs.List.{list_any}
use Rattle.std.specs.Str.{bytes_eq}
use Rattle.std.specs.declared.alloc.Global.{Global}
use Rattle.std.proofs.lemmas.Slice.Eq.{bytes_eq-Decides}
use Rattle.std.proofs.lemmas.List.{map-append}
use Rattle.indexmap.specs.IndexSet.{insert_key}
use Rattle.rob_meaning.proofs.Lists.EachLemmas.{each_append, each_left, each_right}
use Rattle.rob_meaning.specs.Named.{AreDistinct}
use Rattle.rob_meaning.specs.Names.{Name}
use Rattle.rob_meaning.specs.Places.{Each}
use Rattle.rob_model.proofs.PartLemmas.{drop_at, drop_all}

-- the names in a list of owned ones
abbrev pub texts : List (Vec ℕ Global) → List Name
texts keys = map (λ (v : Vec ℕ Global). v.items) keys

-- the name is among those that were seen
abbrev pub is_seen : List Name → Name → Bool
is_seen seen name = list_any (bytes_eq name) seen

-- each name is none that was seen, and none of those before it
abbrev pub are_new : List Name → List Name → Bool
are_new seen [] = true
are_new seen (x ∷ xs) = not (is_seen seen x) && are_new (seen ++ x ∷ []) xs

-- none of them is the name
abbrev IsNew : List Name → Name → Type 0
IsNew seen name = Each (λ s. s ≢ name) seen

bytes_same : (xs ys : Name) → Decides (bytes_eq xs ys) (xs ≡ ys)
bytes_same = bytes_eq-Decides

not_seen : (seen : List Name) (x : Name) → is_seen seen x ≡ false → IsNew seen x
not_seen [] x e = tt
not_seen (s ∷ seen) x e = by (bytes_eq x s) refl e (not_seen seen x)
  where
    by : (b : Bool) → bytes_eq x s ≡ b → (b || is_seen seen x) ≡ false → (is_seen seen x ≡ false → IsNew seen x)
        → IsNew (s ∷ seen) x
    by true is e rest = cc
    by false is e rest = ((λ same. let t = (bytes_same x s).1 (sym same) in cc), rest e)

seen_not : (seen : List Name) (x : Name) → is_seen seen x ≡ true → IsNew seen x → ⊥
seen_not [] x e new = cc
seen_not (s ∷ seen) x e new = by (bytes_eq x s) refl e (λ h. seen_not seen x h new.1)
  where
    by : (b : Bool) → bytes_eq x s ≡ b → (b || is_seen seen x) ≡ true → (is_seen seen x ≡ true → ⊥) → ⊥
    by true is e rest = new.0 (sym ((bytes_same x s).0 is))
    by false is e rest = rest e

both_new : (seen : List Name) (x : Name) (xs : List Name) → Each (IsNew seen) xs → Each (λ y. x ≢ y) xs
    → Each (IsNew (seen ++ x ∷ [])) xs
both_new seen x [] old other = tt
both_new seen x (y ∷ ys) old other =
    (each_append (λ s. s ≢ y) seen (x ∷ []) old.0 (other.0, tt), both_new seen x ys old.1 other.1)

old_new : (seen : List Name) (x : Name) (xs : List Name) → Each (IsNew (seen ++ x ∷ [])) xs
    → Each (IsNew seen) xs × Each (λ y. x ≢ y) xs
old_new seen x [] all = (tt, tt)
old_new seen x (y ∷ ys) all =
    let rest = old_new seen x ys all.1 in
    ((each_left (λ s. s ≢ y) seen (x ∷ []) all.0, rest.0), ((each_right (λ s. s ≢ y) seen (x ∷ []) all.0).0, rest.1))

new_decides : (seen xs : List Name) → Decides (are_new seen xs) (AreDistinct xs × Each (IsNew seen) xs)
new_decides seen [] = ((λ e. (tt, tt)), (λ p. refl))
new_decides seen (x ∷ xs) = by (is_seen seen x) refl (new_decides (seen ++ x ∷ []) xs)
  where
    by : (b : Bool) → is_seen seen x ≡ b
        → Decides (are_new (seen ++ x ∷ []) xs) (AreDistinct xs × Each (IsNew (seen ++ x ∷ [])) xs)
        → Decides (not b && are_new (seen ++ x ∷ []) xs) (AreDistinct (x ∷ xs) × Each (IsNew seen) (x ∷ xs))
    by true is rest = ((λ e. cc), (λ p. absurd (seen_not seen x is p.1.0)))
    by false is rest = (
      (λ e. let all = rest.0 e in let parts = old_new seen x xs all.1 in
          ((parts.1, all.0), (not_seen seen x is, parts.0))),
      (λ p. rest.1 (p.0.1, both_new seen x xs p.1.1 p.0.0)),
    )

all_new : (xs : List Name) → Each (IsNew []) xs
all_new [] = tt
all_new (x ∷ xs) = (tt, all_new xs)

pub distinct_decides : (xs : List Name) → Decides (are_new [] xs) (AreDistinct xs)
distinct_decides xs =
    let d = new_decides [] xs in ((λ e. (d.0 e).0), (λ p. d.1 (p, all_new xs)))

-- ---- on the way over a list, what was seen being owned
any-texts : (x : Name) (keys : List (Vec ℕ Global))
    → list_any (λ (v : Vec ℕ Global). bytes_eq x v.items) keys ≡ is_seen (texts keys) x
any-texts x [] = refl
any-texts x (k ∷ keys) = ap (λ b. bytes_eq x k.items || b) (any-texts x keys)

module _ (names : List Name) (i : ℕ) (keys : List (Vec ℕ Global))
    (so_far : are_new (texts keys) (drop i names) ≡ are_new [] names) where
  module _ (x : Name) (key : Vec ℕ Global) (inside : i < length names) (is : x ≡ get_or names i x)
      (same : key.items ≡ x) where
    -- an item that was seen
    pub found : list_any (λ (v : Vec ℕ Global). bytes_eq key.items v.items) keys ≡ true
        → Decides false (AreDistinct names)
    found seen =
        subst (λ b. Decides b (AreDistinct names))
        (sym so_far ∙ ap (are_new (texts keys)) (drop_at names i x inside is)
        ∙ ap (λ b. not b && are_new (texts keys ++ x ∷ []) (drop (i + 1) names))
        (ap (is_seen (texts keys)) (sym same) ∙ sym (any-texts key.items keys) ∙ seen))
        (distinct_decides names)

    -- an item that was not seen is noted
    pub noted : (next : List (Vec ℕ Global)) → list_any (λ (v : Vec ℕ Global). bytes_eq key.items v.items) keys ≡ false
        → next ≡ insert_key (λ (a b : Vec ℕ Global). bytes_eq a.items b.items) keys key
        → are_new (texts next) (drop (i + 1) names) ≡ are_new [] names
    noted next new added =
        ap (λ l. are_new (texts l) (drop (i + 1) names)) (added ∙ ap (λ b. cond b keys (keys ++ key ∷ [])) new)
        ∙ ap (λ l. are_new l (drop (i + 1) names))
        (map-append (λ (v : Vec ℕ Global). v.items) keys (key ∷ []) ∙ ap (λ n. texts keys ++ n ∷ []) same)
        ∙ sym (ap (λ b. not b && are_new (texts keys ++ x ∷ []) (drop (i + 1) names))
        (ap (is_seen (texts keys)) (sym same) ∙ sym (any-texts key.items keys) ∙ new))
        ∙ ap (are_new (texts keys)) (sym (drop_at names i x inside is))
        ∙ so_far

  -- no item is left
  pub none_left : length names ≤ i → Decides true (AreDistinct names)
  none_left past =
      subst (λ b. Decides b (AreDistinct names)) (sym so_far ∙ ap (are_new (texts keys)) (drop_all i names past))
      (distinct_decides names)

-- ---- what the set answers
pub was_seen : (b r : Bool) → r ≡ not b → r ≡ false → b ≡ true
was_seen true r e h = refl
was_seen false r e h = cc

pub was_new : (b r : Bool) → r ≡ not b → r ≡ true → b ≡ false
was_new true r e h = cc
was_new false r e h = refl
