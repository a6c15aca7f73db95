-- A header is the names of the joint parameters in some order: where names differ, that is as many fields as names,
-- among which each name is found.
use Rattle.std.proofs.Common.{◌≡◌, ◌≢◌, ℕ, suc, List, [], ◌∷◌, ◌++◌, length, refl, sym, ap, ◌∙◌, subst, arith, inl, inr, ◌⊎◌, true, false, length-append, All}
use Rattle.std.proofs.lemmas.List.Elements.{All-cons, All-head, All-nil, All-tail}
use Rattle.std.proofs.lemmas.List.Sorted.{All-permutation, IsPermutation-cons, IsPermutation-middle, IsPermutation-refl, IsPermutation-sym, IsPermutation-trans, length_permutation}
use Rattle.std.proofs.lemmas.Slice.Eq.{bytes_eq-Decides}
use Rattle.std.specs.Prelude.{Bool, Option, Some, None, IsPermutation, bytes_eq, ◌↔◌, ◌==◌, if◌then◌else◌}
use Rattle.std.proofs.lemmas.Bool.Decides.{nat_tests}
use Rattle.rob_meaning.specs.Named.{AreDistinct}
use Rattle.rob_meaning.specs.Names.{Name}
use Rattle.rob_meaning.specs.Places.{Each}
use Rattle.rob_model.specs.Within.{◌>>=◌}
use Rattle.rob_replay.specs.Headers.{header_places, place_from, places_in}

-- the name is one of the fields
abbrev IsAmong : List Name → Name → Type 0
IsAmong [] name = ⊥
IsAmong (field ∷ fields) name = (field ≡ name) ⊎ IsAmong fields name

-- ---- a field is found exactly where it is among them
place_at : (k : ℕ) (fields : List Name) (name : Name) → IsAmong fields name → (p : ℕ)
    × (place_from k fields name ≡ Some p)
place_at k [] name h = absurd h
place_at k (field ∷ fields) name h = by (bytes_eq field name) refl h (place_at (suc k) fields name)
  where
    by : (b : Bool) → bytes_eq field name ≡ b → (field ≡ name) ⊎ IsAmong fields name
        → (IsAmong fields name → (p : ℕ) × (place_from (suc k) fields name ≡ Some p))
        → (p : ℕ) × ((if b then Some k else place_from (suc k) fields name) ≡ Some p)
    by true e some rest = (k, refl)
    by false e (inl same) rest = absurd (let differ : false ≡ true = sym e ∙ (bytes_eq-Decides field name).1 same in cc)
    by false e (inr behind) rest = rest behind

among_at : (k : ℕ) (fields : List Name) (name : Name) (p : ℕ) → place_from k fields name ≡ Some p → IsAmong fields name
among_at k [] name p h = absurd (let none : None ≡ Some p = h in cc)
among_at k (field ∷ fields) name p h = by (bytes_eq field name) refl h (among_at (suc k) fields name p)
  where
    by : (b : Bool) → bytes_eq field name ≡ b → (if b then Some k else place_from (suc k) fields name) ≡ Some p
        → (place_from (suc k) fields name ≡ Some p → IsAmong fields name) → IsAmong (field ∷ fields) name
    by true e found rest = inl ((bytes_eq-Decides field name).0 e)
    by false e found rest = inr (rest found)

-- ---- and so are all
all_places : (header names : List Name) → Each (IsAmong header) names → (ps : List ℕ)
    × (places_in header names ≡ Some ps)
all_places header [] h = ([], refl)
all_places header (name ∷ names) h =
    let p = place_at 0 header name h.0 in
    let ps = all_places header names h.1 in (
      p.0 ∷ ps.0,
      ap (λ (o : Option ℕ). o >>= (λ x. places_in header names >>= (λ xs. Some (x ∷ xs)))) p.1
          ∙ ap (λ (o : Option (List ℕ)). o >>= (λ xs. Some (p.0 ∷ xs))) ps.1,
    )

all_among : (header names : List Name) (ps : List ℕ) → places_in header names ≡ Some ps → Each (IsAmong header) names
all_among header [] ps h = tt
all_among header (name ∷ names) ps h =
    by (place_from 0 header name) refl (places_in header names) refl h (all_among header names)
  where
    by : (o : Option ℕ) → place_from 0 header name ≡ o → (r : Option (List ℕ)) → places_in header names ≡ r
        → (o >>= (λ x. r >>= (λ xs. Some (x ∷ xs)))) ≡ Some ps
        → ((qs : List ℕ) → places_in header names ≡ Some qs → Each (IsAmong header) names)
        → Each (IsAmong header) (name ∷ names)
    by None e r f found rest = absurd (let none : None ≡ Some ps = found in cc)
    by (Some p) e None f found rest = absurd (let none : None ≡ Some ps = found in cc)
    by (Some p) e (Some qs) f found rest = (among_at 0 header name p e, rest qs f)

-- ---- as many fields as names that differ, each of them among the fields, are the names in some order

-- a name among fields has some in front of it and some behind
around : (fields : List Name) (name : Name) → IsAmong fields name
    → (front : List Name) × (back : List Name) × (fields ≡ front ++ name ∷ back)
around [] name h = absurd h
around (field ∷ fields) name (inl same) = ([], fields, ap (λ (x : Name). x ∷ fields) same)
around (field ∷ fields) name (inr behind) =
    let parts = around fields name behind in
    (field ∷ parts.0, parts.1, ap (λ (xs : List Name). field ∷ xs) parts.2)

-- another one is among those
among_rest : (front back : List Name) (name other : Name) → name ≢ other → IsAmong (front ++ name ∷ back) other
    → IsAmong (front ++ back) other
among_rest [] back name other differ (inl same) = absurd (differ same)
among_rest [] back name other differ (inr behind) = behind
among_rest (field ∷ front) back name other differ (inl same) = inl same
among_rest (field ∷ front) back name other differ (inr behind) = inr (among_rest front back name other differ behind)

all_rest : (front back : List Name) (name : Name) (names : List Name) → Each (λ other. name ≢ other) names
    → Each (IsAmong (front ++ name ∷ back)) names → Each (IsAmong (front ++ back)) names
all_rest front back name [] differ h = tt
all_rest front back name (other ∷ names) differ h =
    (among_rest front back name other differ.0 h.0, all_rest front back name names differ.1 h.1)

arranged : (names header : List Name) → AreDistinct names → length header ≡ length names → Each (IsAmong header) names
    → IsPermutation names header
arranged [] [] distinct long h = IsPermutation-refl []
arranged [] (field ∷ header) distinct long h = absurd (omega (arith, long))
arranged (name ∷ names) header distinct long h =
    let parts = around header name h.0 in
    let there : Each (IsAmong (parts.0 ++ name ∷ parts.1)) names =
    subst (λ (xs : List Name). Each (IsAmong xs) names) parts.2 h.1
    in
    let short : length (parts.0 ++ parts.1) ≡ length names = shorter parts.0 parts.1 parts.2 in
    let rest = arranged names (parts.0 ++ parts.1) distinct.1 short
    (all_rest parts.0 parts.1 name names distinct.0 there) in
    subst (IsPermutation (name ∷ names)) (sym parts.2)
    (IsPermutation-trans _ _ _ (IsPermutation-cons name _ _ rest)
    (IsPermutation-sym _ _ (IsPermutation-middle parts.0 name parts.1)))
  where
    shorter : (front back : List Name) → header ≡ front ++ name ∷ back → length (front ++ back) ≡ length names
    shorter front back e =
        let whole : length header ≡ length (front ++ name ∷ back) = ap length e in
        omega (arith, whole, long, length-append front (name ∷ back), length-append front back)

-- ---- the other way
among_more : (field : Name) (fields names : List Name) → All (IsAmong fields) names
    → All (IsAmong (field ∷ fields)) names
among_more field fields [] h = All-nil (IsAmong (field ∷ fields))
among_more field fields (name ∷ names) h =
    All-cons (IsAmong (field ∷ fields)) name names (inr (All-head (IsAmong fields) name names h))
    (among_more field fields names (All-tail (IsAmong fields) name names h))

among_itself : (fields : List Name) → All (IsAmong fields) fields
among_itself [] = All-nil (IsAmong [])
among_itself (field ∷ fields) =
    All-cons (IsAmong (field ∷ fields)) field fields (inl refl) (among_more field fields fields (among_itself fields))

each_of : (P : Name → Type 0) (names : List Name) → All P names → Each P names
each_of P [] h = tt
each_of P (name ∷ names) h = (All-head P name names h, each_of P names (All-tail P name names h))

-- ---- so the header is the names in some order
places_are : (header names : List Name) → AreDistinct names → (places : List ℕ)
    → header_places header names ≡ Some places
    → (names ≢ []) × IsPermutation names header
places_are header [] distinct places h = absurd (let none : None ≡ Some places = h in cc)
places_are header (name ∷ names) distinct places h = by (length header == length (name ∷ names)) refl h
  where
    by : (b : Bool) → (length header == length (name ∷ names)) ≡ b
        → (if b then places_in header (name ∷ names) else None) ≡ Some places → (name ∷ names ≢ [])
        × IsPermutation (name ∷ names) header
    by true e found =
        let long : length header ≡ length (name ∷ names) = grind (arith, nat_tests) in
        ((λ none. cc), arranged (name ∷ names) header distinct long (all_among header (name ∷ names) places found))
    by false e found = absurd (let none : None ≡ Some places = found in cc)

are_places : (header names : List Name) → names ≢ [] → IsPermutation names header
    → (places : List ℕ) × (header_places header names ≡ Some places)
are_places header [] some h = absurd (some refl)
are_places header (name ∷ names) some h =
    let long : length header ≡ length (name ∷ names) = length_permutation (name ∷ names) header h in
    let same : (length header == length (name ∷ names)) ≡ true = grind (arith, nat_tests) in
    let among : Each (IsAmong header) (name ∷ names) =
    each_of (IsAmong header) (name ∷ names)
    (All-permutation (IsAmong header) header (name ∷ names)
    (IsPermutation-sym (name ∷ names) header h) (among_itself header))
    in
    let places = all_places header (name ∷ names) among in
    (places.0, ap (λ (b : Bool). if b then places_in header (name ∷ names) else None) same ∙ places.1)

pub header_is : (header names : List Name) → AreDistinct names
    → ((places : List ℕ) × (header_places header names ≡ Some places)) ↔ ((names ≢ []) × IsPermutation names header)
header_is header names distinct =
    ((λ h. places_are header names distinct h.0 h.1), (λ h. are_places header names h.0 h.1))
