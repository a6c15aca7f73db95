-- Ranges and items that are seen and made one after the other.
use Rattle.std.proofs.Common.{◌≡◌, ℕ, ◌+◌, ◌<◌, ◌≤◌, List, [], ◌∷◌, ◌++◌, length, map, drop, get_or, sym, ap, ◌∙◌, append_assoc, append-nil}
use Rattle.std.proofs.lemmas.List.{at_drop_more, at_drop_all}
use Rattle.rob_index.specs.Forms.{Ends}
use Rattle.rob_index.specs.Fast.{ends_of, nest_of, names_in}
use Rattle.rob_syntax.specs.declared.syntax.Range.{Range}
use Rattle.rob_syntax.specs.Seen.{seen_range, seen_ranges}

-- one item more
pub listed_step : {A B C : Type 0} (f : B → C) (g : A → B) (done : List C) (xs : List A) (i : ℕ) (x : A)
    {result : List C}
    → i < length xs → x ≡ get_or xs i x → done ++ map f (map g (drop i xs)) ≡ result
    → (done ++ f (g x) ∷ []) ++ map f (map g (drop (i + 1) xs)) ≡ result
listed_step {A} {B} {C} f g done xs i x inside is so_far =
    append_assoc done (f (g x) ∷ []) (map f (map g (drop (i + 1) xs)))
    ∙ ap (λ (y : A). done ++ f (g y) ∷ map f (map g (drop (i + 1) xs))) is
    ∙ sym (at_drop_more (λ (l : List A). done ++ map f (map g l)) xs i x inside) ∙ so_far

pub listed_all : {A B C : Type 0} (f : B → C) (g : A → B) (done : List C) (xs : List A) (i : ℕ) {result : List C}
    → length xs ≤ i → done ++ map f (map g (drop i xs)) ≡ result → done ≡ result
listed_all {A} {B} {C} f g done xs i all so_far =
    sym (append-nil done) ∙ sym (at_drop_all (λ (l : List A). done ++ map f (map g l)) xs i all) ∙ so_far

-- one range more inside those before it
pub nest_step : (ends : List Ends) (names : List ℕ) (xs : List Range) (i : ℕ) (x : Range) {result : List Ends}
    → i < length xs → x ≡ get_or xs i x → ends ++ nest_of names (seen_ranges (drop i xs)) ≡ result
    → (ends ++ ends_of names (seen_range x) ∷ []) ++ nest_of (x.name ∷ names) (seen_ranges (drop (i + 1) xs)) ≡ result
nest_step ends names xs i x inside is so_far =
    append_assoc ends (ends_of names (seen_range x) ∷ []) (nest_of (x.name ∷ names) (seen_ranges (drop (i + 1) xs)))
    ∙ ap (λ (y : Range). ends ++ nest_of names (seen_range y ∷ seen_ranges (drop (i + 1) xs))) is
    ∙ sym (at_drop_more (λ (l : List Range). ends ++ nest_of names (seen_ranges l)) xs i x inside) ∙ so_far

pub names_step : (names : List ℕ) (xs : List Range) (i : ℕ) (x : Range) {result : List ℕ}
    → i < length xs → x ≡ get_or xs i x → names_in names (seen_ranges (drop i xs)) ≡ result
    → names_in (x.name ∷ names) (seen_ranges (drop (i + 1) xs)) ≡ result
names_step names xs i x inside is so_far =
    ap (λ (y : Range). names_in names (seen_range y ∷ seen_ranges (drop (i + 1) xs))) is
    ∙ sym (at_drop_more (λ (l : List Range). names_in names (seen_ranges l)) xs i x inside) ∙ so_far

-- the same, of what the code has made
pub nest_more : (ends next : List Ends) (names inside : List ℕ) (xs : List Range) (i : ℕ) (x : Range)
    {result : List Ends}
    → i < length xs → x ≡ get_or xs i x → next ≡ ends ++ ends_of names (seen_range x) ∷ [] → inside ≡ x.name ∷ names
    → ends ++ nest_of names (seen_ranges (drop i xs)) ≡ result
    → next ++ nest_of inside (seen_ranges (drop (i + 1) xs)) ≡ result
nest_more ends next names inside xs i x within is next_is inside_is so_far =
    ap (λ (l : List Ends). l ++ nest_of inside (seen_ranges (drop (i + 1) xs))) next_is
    ∙ ap (λ (ns : List ℕ). (ends ++ ends_of names (seen_range x) ∷ []) ++ nest_of ns (seen_ranges (drop (i + 1) xs)))
    inside_is
    ∙ nest_step ends names xs i x within is so_far

pub names_more : (names inside : List ℕ) (xs : List Range) (i : ℕ) (x : Range) {result : List ℕ}
    → i < length xs → x ≡ get_or xs i x → inside ≡ x.name ∷ names
    → names_in names (seen_ranges (drop i xs)) ≡ result → names_in inside (seen_ranges (drop (i + 1) xs)) ≡ result
names_more names inside xs i x within is inside_is so_far =
    ap (λ (ns : List ℕ). names_in ns (seen_ranges (drop (i + 1) xs))) inside_is
    ∙ names_step names xs i x within is so_far

-- one item more of those that are made
pub listed_more : {A B C : Type 0} (f : B → C) (g : A → B) (done next : List C) (xs : List A) (i : ℕ) (x : A) (y : C)
    {result : List C} → i < length xs → x ≡ get_or xs i x → next ≡ done ++ y ∷ [] → y ≡ f (g x)
    → done ++ map f (map g (drop i xs)) ≡ result → next ++ map f (map g (drop (i + 1) xs)) ≡ result
listed_more {A} {B} {C} f g done next xs i x y within is next_is made so_far =
    ap (λ (l : List C). l ++ map f (map g (drop (i + 1) xs))) next_is
    ∙ ap (λ (c : C). (done ++ c ∷ []) ++ map f (map g (drop (i + 1) xs))) made
    ∙ listed_step f g done xs i x within is so_far

pub nest_all : (ends : List Ends) (names : List ℕ) (xs : List Range) (i : ℕ) {result : List Ends} → length xs ≤ i
    → ends ++ nest_of names (seen_ranges (drop i xs)) ≡ result → ends ≡ result
nest_all ends names xs i all so_far =
    sym (append-nil ends) ∙ sym (at_drop_all (λ (l : List Range). ends ++ nest_of names (seen_ranges l)) xs i all)
    ∙ so_far

pub names_all : (names : List ℕ) (xs : List Range) (i : ℕ) {result : List ℕ} → length xs ≤ i
    → names_in names (seen_ranges (drop i xs)) ≡ result → names ≡ result
names_all names xs i all so_far =
    sym (at_drop_all (λ (l : List Range). names_in names (seen_ranges l)) xs i all) ∙ so_far
