-- The fault that is named of a line is one that it has: what a search finds is there.
use Rattle.std.proofs.Common.{◌≡◌, ℕ, ◌+◌, ◌-◌, Bool, true, false, List, [], ◌∷◌, Option, Some, None, refl, sym, ap, ◌∙◌}
use Rattle.std.specs.Prelude.{ℤ, pos, ◌||◌, int_le, nat_lt, if◌then◌else◌}
use Rattle.std.specs.List.{list_any, find}
use Rattle.std.proofs.lemmas.Bool.{leb-false, lt-ltb}
use Rattle.rob_index.specs.Statements.{Name, Tree, Indexed}
use Rattle.rob_index.specs.Expansion.{expand}
use Rattle.rob_index.specs.Counting.{lines_tokens}
use Rattle.rob_index.specs.Forms.{Form, Ends, value_of, minus, length_form, from_ends, fixed, onto, values_of, extensions, reaches, reaches_plainly}
use Rattle.rob_index.specs.Fast.{nothing, index_form, ends_of, nest_of, names_in, goes_over, goes_below, is_long_fast, is_out_fast}
use Rattle.rob_index.specs.Places.{of_ref, of_range, Inside, Place, places}
use Rattle.rob_index.specs.Rules.{is_unknown, is_long, is_out, has_great_digits, IndexFault, index_unknown, range_too_long, index_out, too_much, in_order, has_fault}
use Rattle.rob_index.specs.Search.{Searched, missed, search_on, search_each, search, price_of, search_over, search_below, search_long, search_out, search_places, has_room, named_out, named_long, named_crowded, named, effort}
use Rattle.rob_index.proofs.LinesRead.ListLemmas.{or_false, any_flat, or_true}
use Rattle.rob_index.proofs.Faults.DecisionLemmas.{ends_right, reaches_is}
use Rattle.rob_index.proofs.Faults.FastLemmas.{is_long_is, is_out_is}

-- ---- what is found is there
-- one of two searches found something
on_either : (s : Searched) (next : ℕ → Searched) → (search_on s next).found ≡ true → (b c : Bool)
    → (s.found ≡ true → b ≡ true) → ((left : ℕ) → (next left).found ≡ true → c ≡ true) → (b || c) ≡ true
on_either s next h b c f g = go s.found refl
  where
    go : (t : Bool) → s.found ≡ t → (b || c) ≡ true
    go true e = rw (f e) refl
    go false e =
        let k : (search_on s next).found ≡ (next s.left).found =
        ap (λ (t : Bool). (if t then s else next s.left).found) e in
        rw (g s.left (sym k ∙ h)) (or_true b)

each_found : (try : ℤ → ℕ → Searched) (test : ℤ → Bool) (price : ℕ)
    → ((v : ℤ) (left : ℕ) → (try v left).found ≡ true → test v ≡ true)
    → (vs : List ℤ) (left : ℕ) → (search_each try price vs left).found ≡ true → list_any test vs ≡ true
each_found try test price h [] left e = cc
each_found try test price h (v ∷ vs) left e =
    go (nat_lt left price) refl (λ left. each_found try test price h vs left)
  where
    go : (t : Bool) → nat_lt left price ≡ t
        → ((left : ℕ) → (search_each try price vs left).found ≡ true → list_any test vs ≡ true)
        → (test v || list_any test vs) ≡ true
    go true k ih =
        let m : false ≡ true = sym (ap (λ (t : Bool).
        (if t then missed 0 else search_on (try v (left - price)) (search_each try price vs)).found) k) ∙ e in cc
    go false k ih =
        let m = sym (ap (λ (t : Bool).
        (if t then missed 0 else search_on (try v (left - price)) (search_each try price vs)).found) k) ∙ e in
        on_either (try v (left - price)) (search_each try price vs) m (test v) (list_any test vs)
        (h v (left - price)) ih

pub search_found : (price : ℕ) (rs : List Ends) (vs : List ℤ) (f : Form) (bound : ℤ) (left : ℕ)
    → (search price rs vs f bound left).found ≡ true → reaches_plainly rs vs f bound ≡ true
search_found price [] vs f bound left h = or_false (int_le bound (value_of f vs)) ∙ h
search_found price (r ∷ rs) vs f bound left h =
    go (from_ends (onto (r ∷ rs) (fixed vs)) f bound) refl (λ v left. search_found price rs (v ∷ vs) f bound left)
  where
    go : (o : Option Bool) → from_ends (onto (r ∷ rs) (fixed vs)) f bound ≡ o
        → ((v : ℤ) (left : ℕ) → (search price rs (v ∷ vs) f bound left).found ≡ true
        → reaches_plainly rs (v ∷ vs) f bound ≡ true)
        → reaches_plainly (r ∷ rs) vs f bound ≡ true
    go None e ih =
        let k = sym (ap (λ (o : Option Bool). (elim o as (λ _. Searched) [
          | None ↦ search_each (λ v left. search price rs (v ∷ vs) f bound left) price (values_of r vs) left
          | Some b ↦ record { found = b; left = left }
        ]).found) e) ∙ h in
        any_flat (λ xs. int_le bound (value_of f xs)) (λ v. extensions rs (v ∷ vs)) (values_of r vs)
        ∙ each_found (λ v left. search price rs (v ∷ vs) f bound left) (λ v. reaches_plainly rs (v ∷ vs) f bound)
        price ih (values_of r vs) left k
    go (Some b) e ih =
        let k = sym (ap (λ (o : Option Bool). (elim o as (λ _. Searched) [
          | None ↦ search_each (λ v left. search price rs (v ∷ vs) f bound left) price (values_of r vs) left
          | Some b ↦ record { found = b; left = left }
        ]).found) e) ∙ h in
        ends_right (r ∷ rs) vs f bound b e ∙ k

-- the same by the fast definition
fast_found : (price : ℕ) (rs : List Ends) (f : Form) (bound : ℤ) (left : ℕ)
    → (search price rs [] f bound left).found ≡ true → reaches rs [] f bound ≡ true
fast_found price rs f bound left h = reaches_is rs [] f bound ∙ search_found price rs [] f bound left h

pub long_found : (i : Inside) (left : ℕ) → (search_long i left).found ≡ true → is_long i ≡ true
long_found i left h = is_long_is i ∙ go i.place h
  where
    go : (p : Place) → (search_long (record { around = i.around; place = p }) left).found ≡ true
        → is_long_fast (record { around = i.around; place = p }) ≡ true
    go (of_ref x) h = h
    go (of_range r) h =
        fast_found (price_of i.around) (nest_of [] i.around) (length_form (ends_of (names_in [] i.around) r)) (pos 100)
        left h

pub out_found : (i : Inside) (left : ℕ) → (search_out i left).found ≡ true → is_out i ≡ true
out_found i left h = is_out_is i ∙ go i.place h
  where
    go : (p : Place) → (search_out (record { around = i.around; place = p }) left).found ≡ true
        → is_out_fast (record { around = i.around; place = p }) ≡ true
    go (of_ref x) h =
        on_either (search_below i.around x left) (search_over i.around x) h (goes_below i.around x)
        (goes_over i.around x)
        (fast_found (price_of i.around) (nest_of [] i.around)
        (minus nothing (index_form (names_in [] i.around) x)) (pos 1) left)
        (λ left. fast_found (price_of i.around) (nest_of [] i.around) (index_form (names_in [] i.around) x)
        (pos 1000) left)
    go (of_range r) h = h

places_found : (seek : Inside → ℕ → Searched) (test : Inside → Bool)
    → ((i : Inside) (left : ℕ) → (seek i left).found ≡ true → test i ≡ true)
    → (is : List Inside) (left : ℕ) → (search_places seek is left).found ≡ true → list_any test is ≡ true
places_found seek test h [] left e = e
places_found seek test h (i ∷ is) left e =
    on_either (seek i left) (search_places seek is) e (test i) (list_any test is) (h i left)
    (λ left. places_found seek test h is left)

-- ---- the fault that is named
module _ (limit : ℕ) (words : List Name) (is_declared : ℕ → Bool) (total : ℕ) (s : Indexed Tree) where
  abbrev has : IndexFault → Bool
  has fault = has_fault limit words is_declared total s fault

  either_true : (a b : Bool) → b ≡ true → (a || b) ≡ true
  either_true true b h = refl
  either_true false b h = h

  out_true : (left : ℕ) → has_room limit words is_declared total s ≡ false
      → has (named_out limit words is_declared total s left) ≡ true
  out_true left r = go (list_any has_great_digits (places s)) (search_places search_out (places s) left).found refl refl
    where
      go : (a b : Bool) → list_any has_great_digits (places s) ≡ a
          → (search_places search_out (places s) left).found ≡ b
          → has (named_out limit words is_declared total s left) ≡ true
      go true b g f =
          ap (λ (t : Bool). has (if t || (search_places search_out (places s) left).found then index_out else too_much))
          g
          ∙ ap (λ (t : Bool). t || list_any is_out (places s)) g
      go false true g f =
          ap (λ (t : Bool). has (if t || (search_places search_out (places s) left).found then index_out else too_much))
          g
          ∙ ap (λ (t : Bool). has (if t then index_out else too_much)) f
          ∙ either_true (list_any has_great_digits (places s)) (list_any is_out (places s))
          (places_found search_out is_out out_found (places s) left f)
      go false false g f =
          ap (λ (t : Bool). has (if t || (search_places search_out (places s) left).found then index_out else too_much))
          g
          ∙ ap (λ (t : Bool). has (if t then index_out else too_much)) f
          ∙ lt-ltb 20000 (total + lines_tokens limit (expand words s))
          (leb-false (total + lines_tokens limit (expand words s)) 20000 r)

  long_true : (left : ℕ) → has_room limit words is_declared total s ≡ false
      → has (named_long limit words is_declared total s (search_places search_long (places s) left)) ≡ true
  long_true left r = go (search_places search_long (places s) left).found refl
    where
      go : (b : Bool) → (search_places search_long (places s) left).found ≡ b
          → has (named_long limit words is_declared total s (search_places search_long (places s) left)) ≡ true
      go true f =
          ap (λ (t : Bool). has (if t then range_too_long
          else named_out limit words is_declared total s (search_places search_long (places s) left).left)) f
          ∙ places_found search_long is_long long_found (places s) left f
      go false f =
          ap (λ (t : Bool). has (if t then range_too_long
          else named_out limit words is_declared total s (search_places search_long (places s) left).left)) f
          ∙ out_true (search_places search_long (places s) left).left r

  crowded_true : has_room limit words is_declared total s ≡ false
      → has (named_crowded limit words is_declared total s) ≡ true
  crowded_true r = go (list_any (is_unknown is_declared) (places s)) refl
    where
      go : (b : Bool) → list_any (is_unknown is_declared) (places s) ≡ b
          → has (named_crowded limit words is_declared total s) ≡ true
      go true u = ap (λ (t : Bool). has (if t then index_unknown
          else named_long limit words is_declared total s (search_places search_long (places s) effort))) u ∙ u
      go false u = ap (λ (t : Bool). has (if t then index_unknown
          else named_long limit words is_declared total s (search_places search_long (places s) effort))) u
          ∙ long_true effort r

  -- where there is room, it is the first fault in order
  pub named_first : has_room limit words is_declared total s ≡ true
      → named limit words is_declared total s ≡ find (has_fault limit words is_declared total s) in_order
  named_first r = ap (λ (t : Bool).
      if t then find (has_fault limit words is_declared total s) in_order
      else Some (named_crowded limit words is_declared total s)) r

  -- where there is none, some fault is named, and the line has it
  pub named_some : has_room limit words is_declared total s ≡ false
      → (fault : IndexFault) × (named limit words is_declared total s ≡ Some fault) × (has fault ≡ true)
  named_some r = (
    named_crowded limit words is_declared total s,
    ap (λ (t : Bool).
        if t then find (has_fault limit words is_declared total s) in_order
        else Some (named_crowded limit words is_declared total s)) r,
    crowded_true r,
  )
