-- What a name of a text stands for is declared by some statement, and found by its number among what is of its kind.
use Rattle.std.proofs.Common.{◌≡◌, ℕ, zero, suc, ◌+◌, ◌<◌, ◌⊎◌, inl, inr, Bool, true, false, List, [], ◌∷◌, length, map, set, get_or, refl, sym, ap, ◌∙◌, subst, arith}
use Rattle.std.specs.Prelude.{Option, Some, None}
use Rattle.std.specs.List.{flat_map}
use Rattle.std.proofs.lemmas.List.{get_or-map, length-map}
use Rattle.rob_meaning.specs.Degrees.{one_if_some}
use Rattle.rob_rules.specs.declared.size.Sizes.{Sizes}
use Rattle.rob_rules.specs.declared.sort.Sort.{Sort}
use Rattle.rob_rules.specs.declared.sort.Sort.TheVariants as sort
use Rattle.rob_rules.specs.declared.sort.Sort.TheVariants.{Parameter, Decision, Policy, RowName}
use Rattle.rob_syntax.specs.declared.syntax.Statement.{Statement}
use Rattle.rob_syntax.specs.declared.syntax.Statement.TheVariants as parsed
use Rattle.rob_rules.specs.Degrees.{sort_at}
use Rattle.rob_parse.specs.Written.{word_of}
use Rattle.rob_round_trip.specs.Readable.{IsAt}
use Rattle.rob_rules.specs.Chains.{Chain}
use Rattle.rob_rules.specs.Scopes.{Earlier, behind, declare, declared_by, has_some}
use Rattle.rob_rules.specs.Sizes.{counted}
use Rattle.rob_parse.proofs.Names.DeclaredLemmas.{adaptive_numbers, parameter_numbers, row_numbers, set_numbers, variable_numbers}
use Rattle.rob_parse.proofs.Names.SortLemmas.{depends_by}

-- ---- what a name stands for is declared
-- the number stands in the list, so far behind some number
abbrev pub IsFound : List ℕ → ℕ → ℕ → ℕ → Type 0
IsFound ks n k j = (i : ℕ) × (j ≡ n + i) × (i < length ks) × (get_or ks i 0 ≡ k)

found_first : (ks : List ℕ) (n k : ℕ) → IsFound (k ∷ ks) n k n
found_first ks n k = (0, omega arith, omega arith, refl)

found_more : (ks : List ℕ) (a n k j : ℕ) → IsFound ks (n + 1) k j → IsFound (a ∷ ks) n k j
found_more ks a n k j h = (suc h.0, (let e : j ≡ n + suc h.0 = omega (arith, h.1) in e), omega (arith, h.2), h.3)

-- some statement declares a name so, where this is counted in front of them
abbrev pub IsDeclaredIn : Sizes → List Statement → ℕ → Sort → Type 0
IsDeclaredIn s [] k x = ⊥
IsDeclaredIn s (st ∷ list) k x = (declared_by s st ≡ Some (k, x)) ⊎ IsDeclaredIn (counted s st) list k x

-- the thing is among those that some statements declare
abbrev pub IsThing : Sizes → List Statement → ℕ → Sort → Type 0
IsThing s list k (Parameter j) = IsFound (flat_map parameter_numbers list) s.parameters k j
IsThing s list k (Decision j) = IsFound (flat_map variable_numbers list) s.variables k j
IsThing s list k (Policy j depends) = IsFound (flat_map adaptive_numbers list) s.adaptives k j
IsThing s list k RowName = (j : ℕ) × IsFound (flat_map row_numbers list) 0 k j
IsThing s list k (sort.Set S) = (j : ℕ) × (S ≡ suc j) × IsFound (flat_map set_numbers list) s.sets k j

-- a name and what it is declared to stand for
abbrev pub declares : ℕ → Sort → Option (ℕ × Sort)
declares k x = Some (k, x)

-- the same of what a statement declares
abbrev pub IsThingOf : Sizes → List Statement → Option (ℕ × Sort) → Type 0
IsThingOf s list None = ⊥
IsThingOf s list (Some d) = IsThing s list d.0 d.1

thing_same : (s : Sizes) (list : List Statement) (j k : ℕ) (v x : Sort) → declares j v ≡ declares k x
    → IsThing s list j v → IsThing s list k x
thing_same s list j k v x is h = subst (IsThingOf s list) is h

thing_first : (s : Sizes) (st : Statement) (list : List Statement) (k : ℕ) (x : Sort) → declared_by s st ≡ Some (k, x)
    → IsThing s (st ∷ list) k x
unfolding parameter_numbers set_numbers variable_numbers adaptive_numbers row_numbers
thing_first s (parsed.Uncertain d) list k x is =
    thing_same s (parsed.Uncertain d ∷ list) d.name k (Parameter s.parameters) x is
    (found_first (flat_map parameter_numbers list) s.parameters d.name)
thing_first s (parsed.Over o) list k x is =
    thing_same s (parsed.Over o ∷ list) o k (sort.Set (s.sets + 1)) x is
    ((s.sets, (omega arith), found_first (flat_map set_numbers list) s.sets o))
thing_first s (parsed.Var d) list k x is =
    thing_same s (parsed.Var d ∷ list) d.name k (Decision s.variables) x is
    (found_first (flat_map variable_numbers list) s.variables d.name)
thing_first s (parsed.Adaptive p) list k x is =
    thing_same s (parsed.Adaptive p ∷ list) p.name k (Policy s.adaptives (has_some p.on)) x is
    (found_first (flat_map adaptive_numbers list) s.adaptives p.name)
thing_first s (parsed.Set r) list k x is = cc
thing_first s (parsed.Budget b) list k x is = cc
thing_first s (parsed.Goal g) list k x is = cc
thing_first s (parsed.Row r) list k x is =
    thing_same s (parsed.Row r ∷ list) r.name k (RowName) x is ((0, found_first (flat_map row_numbers list) 0 r.name))

row_later : (ks : List ℕ) (k j : ℕ) → IsFound ks 0 k j → IsFound ks (0 + 1) k (suc j)
row_later ks k j h = (h.0, (let e : suc j ≡ (0 + 1) + h.0 = omega (arith, h.1) in e), h.2, h.3)

thing_more : (s : Sizes) (st : Statement) (list : List Statement) (k : ℕ) (x : Sort) → IsThing (counted s st) list k x
    → IsThing s (st ∷ list) k x
unfolding parameter_numbers set_numbers variable_numbers adaptive_numbers row_numbers
thing_more s (parsed.Uncertain d) list k (Parameter j) h =
    found_more (flat_map parameter_numbers list) d.name s.parameters k j h
thing_more s (parsed.Uncertain d) list k (Decision j) h = h
thing_more s (parsed.Uncertain d) list k (Policy j depends) h = h
thing_more s (parsed.Uncertain d) list k RowName h = h
thing_more s (parsed.Uncertain d) list k (sort.Set S) h = h
thing_more s (parsed.Over o) list k (Parameter j) h = h
thing_more s (parsed.Over o) list k (Decision j) h = h
thing_more s (parsed.Over o) list k (Policy j depends) h = h
thing_more s (parsed.Over o) list k RowName h = h
thing_more s (parsed.Over o) list k (sort.Set S) h =
    (h.0, h.1, found_more (flat_map set_numbers list) o s.sets k h.0 h.2)
thing_more s (parsed.Var d) list k (Parameter j) h = h
thing_more s (parsed.Var d) list k (Decision j) h = found_more (flat_map variable_numbers list) d.name s.variables k j h
thing_more s (parsed.Var d) list k (Policy j depends) h = h
thing_more s (parsed.Var d) list k RowName h = h
thing_more s (parsed.Var d) list k (sort.Set S) h = h
thing_more s (parsed.Adaptive p) list k (Parameter j) h = h
thing_more s (parsed.Adaptive p) list k (Decision j) h = h
thing_more s (parsed.Adaptive p) list k (Policy j depends) h =
    found_more (flat_map adaptive_numbers list) p.name s.adaptives k j h
thing_more s (parsed.Adaptive p) list k RowName h = h
thing_more s (parsed.Adaptive p) list k (sort.Set S) h = h
thing_more s (parsed.Set r) list k (Parameter j) h = h
thing_more s (parsed.Set r) list k (Decision j) h = h
thing_more s (parsed.Set r) list k (Policy j depends) h = h
thing_more s (parsed.Set r) list k RowName h = h
thing_more s (parsed.Set r) list k (sort.Set S) h = h
thing_more s (parsed.Budget b) list k (Parameter j) h = h
thing_more s (parsed.Budget b) list k (Decision j) h = h
thing_more s (parsed.Budget b) list k (Policy j depends) h = h
thing_more s (parsed.Budget b) list k RowName h = h
thing_more s (parsed.Budget b) list k (sort.Set S) h = h
thing_more s (parsed.Goal g) list k (Parameter j) h = h
thing_more s (parsed.Goal g) list k (Decision j) h = h
thing_more s (parsed.Goal g) list k (Policy j depends) h = h
thing_more s (parsed.Goal g) list k RowName h = h
thing_more s (parsed.Goal g) list k (sort.Set S) h = h
thing_more s (parsed.Row r) list k (Parameter j) h = h
thing_more s (parsed.Row r) list k (Decision j) h = h
thing_more s (parsed.Row r) list k (Policy j depends) h = h
thing_more s (parsed.Row r) list k RowName h = (
  suc h.0,
  found_more (flat_map row_numbers list) r.name 0 k (suc h.0)
      (row_later (flat_map row_numbers list) k h.0 h.1),
)
thing_more s (parsed.Row r) list k (sort.Set S) h = h

pub things : (s : Sizes) (list : List Statement) (k : ℕ) (x : Sort) → IsDeclaredIn s list k x → IsThing s list k x
things s [] k x h = absurd h
things s (st ∷ list) k x (inl is) = thing_first s st list k x is
things s (st ∷ list) k x (inr h) = thing_more s st list k x (things (counted s st) list k x h)

-- what a name stands for behind a declaration is declared there, or in front of it
set_from : (sorts : List (Option Sort)) (i k : ℕ) (v x : Sort) → sort_at (set sorts i (Some v)) k ≡ Some x
    → ((i ≡ k) × (v ≡ x)) ⊎ (sort_at sorts k ≡ Some x)
set_from [] i k v x is = inr is
set_from (o ∷ sorts) zero zero v x is = let e : v ≡ x = cc in inl (refl, e)
set_from (o ∷ sorts) zero (suc k) v x is = inr is
set_from (o ∷ sorts) (suc i) zero v x is = inr is
set_from (o ∷ sorts) (suc i) (suc k) v x is = go (set_from sorts i k v x is)
  where
    go : ((i ≡ k) × (v ≡ x)) ⊎ (sort_at sorts k ≡ Some x) → ((suc i ≡ suc k) × (v ≡ x)) ⊎ (sort_at sorts k ≡ Some x)
    go (inl h) = inl (ap suc h.0, h.1)
    go (inr h) = inr h

declared_from : (sorts : List (Option Sort)) (d : Option (ℕ × Sort)) (k : ℕ) (x : Sort)
    → sort_at (declare sorts d) k ≡ Some x
    → (d ≡ Some (k, x)) ⊎ (sort_at sorts k ≡ Some x)
declared_from sorts None k x is = inr is
declared_from sorts (Some d) k x is = go (set_from sorts d.0 k d.1 x is)
  where
    go : ((d.0 ≡ k) × (d.1 ≡ x)) ⊎ (sort_at sorts k ≡ Some x) → (Some d ≡ Some (k, x)) ⊎ (sort_at sorts k ≡ Some x)
    go (inl h) = inl (λ i. Some (h.0 i, h.1 i))
    go (inr h) = inr h

module _ (limit : ℕ) (words : List (List ℕ)) (f : Earlier) (k : ℕ) (x : Sort) (is : sort_at f.sorts k ≡ Some x) where
  pub declared_in : (e : Earlier) (list : List Statement) → Chain limit words e list f
      → IsDeclaredIn e.sizes list k x ⊎ (sort_at e.sorts k ≡ Some x)
  declared_in e [] chain = inr (ap (λ (a : Earlier). sort_at a.sorts k) chain ∙ is)
  declared_in e (s ∷ list) chain = go (declared_in (behind e s) list chain.1)
    where
      here : (declared_by e.sizes s ≡ Some (k, x)) ⊎ (sort_at e.sorts k ≡ Some x) → IsDeclaredIn e.sizes (s ∷ list) k x
          ⊎ (sort_at e.sorts k ≡ Some x)
      here (inl h) = inl (inl h)
      here (inr h) = inr h

      go : IsDeclaredIn (counted e.sizes s) list k x ⊎ (sort_at (declare e.sorts (declared_by e.sizes s)) k ≡ Some x)
          → IsDeclaredIn e.sizes (s ∷ list) k x ⊎ (sort_at e.sorts k ≡ Some x)
      go (inl h) = inl (inr h)
      go (inr h) = here (declared_from e.sorts (declared_by e.sizes s) k x h)

-- a number that is found is that of the name there
pub found_at : (words : List (List ℕ)) (names : List (List ℕ)) (ks : List ℕ) (k j : ℕ) → names ≡ map (word_of words) ks
    → IsFound ks 0 k j → IsAt names j (word_of words k)
found_at words names ks k j same h =
    let first : h.0 ≡ j = omega (arith, h.1) in
    subst (λ (ns : List (List ℕ)). IsAt ns j (word_of words k)) (sym same)
    (subst (λ (i : ℕ). IsAt (map (word_of words) ks) i (word_of words k)) first (
      omega (arith, h.2, length-map ks (word_of words)),
      get_or-map (word_of words) ks h.0 0 [] h.2
          ∙ ap (word_of words) h.3,
    ))

pub depends_same : (on : List ℕ) (depends : Bool) → one_if_some on ≡ depends_by depends → depends ≡ has_some on
depends_same [] true h = cc
depends_same [] false h = refl
depends_same (k ∷ on) true h = refl
depends_same (k ∷ on) false h = cc
