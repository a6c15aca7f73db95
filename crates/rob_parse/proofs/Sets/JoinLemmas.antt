-- The joint parameters, one behind another.
use Rattle.std.proofs.Common.{◌≡◌, ℕ, zero, suc, ◌+◌, ◌<◌, ◌≤◌, List, [], ◌∷◌, ◌++◌, length, map, drop, take, get_or, sym, ap, ◌∙◌, arith, append_assoc, append-nil, take_all}
use Rattle.std.specs.List.{flat_map}
use Rattle.std.proofs.Math.ListN.{get_or-append}
use Rattle.std.proofs.Math.Seq.{take-suc}
use Rattle.std.proofs.lemmas.List.{length-map, map-append, take-append-le}
use Rattle.rob_algebra.proofs.ListLemmas.{long_enough}
use Rattle.rob_model.proofs.PartLemmas.{drop_at, drop_all}

get_or_map : {A P : Type 0} (view : A → P) (xs : List A) (k : ℕ) (x : A) → k < length xs → x ≡ get_or xs k x
    → view x ≡ get_or (map view xs) k (view x)
get_or_map view [] k x h is = absurd (omega arith)
get_or_map view (y ∷ xs) zero x h is = ap view is
get_or_map view (y ∷ xs) (suc k) x h is = get_or_map view xs k x (omega arith) is

-- one parameter more of a set
pub join_step : {A P : Type 0} (view : A → P) (copy : P → P) (old now : List A) (k : ℕ) (x y : A) {new : List A}
    → k < length old → k < length now
    → map view now ≡ map view old ++ map copy (take k (map view old)) → x ≡ get_or now k x → view y ≡ copy (view x)
    → new ≡ now ++ y ∷ []
    → map view new ≡ map view old ++ map copy (take (k + 1) (map view old))
join_step {P = P} view copy old now k x y small there so_far is copied pushed =
    let base = map view old in
    let inside : k < length base = omega (arith, small, length-map old view) in
    let at : view x ≡ get_or base k (view x) =
    get_or_map view now k x there is ∙ ap (λ (l : List P). get_or l k (view x)) so_far
    ∙ get_or-append base (map copy (take k base)) (view x) k inside in
    let next : k + 1 ≡ suc k = omega arith in
    let more : take (k + 1) base ≡ take k base ++ view x ∷ [] =
    ap (λ (j : ℕ). take j base) next ∙ take-suc base k (view x) inside
    ∙ ap (λ (z : P). take k base ++ z ∷ []) (sym at) in
    ap (map view) pushed ∙ map-append view now (y ∷ [])
    ∙ (λ i. so_far i ++ copied i ∷ [])
    ∙ append_assoc base (map copy (take k base)) (copy (view x) ∷ [])
    ∙ ap (λ (l : List P). base ++ l) (sym (map-append copy (take k base) (view x ∷ [])) ∙ ap (map copy) (sym more))

pub same_end : (k n : ℕ) → k ≤ n → n ≤ k → k ≡ n
same_end k n h g = omega arith

-- ---- set by set
-- what some sets have of these parameters
abbrev pub copies : {P : Type 0} → (List ℕ → P → P) → List P → List (List ℕ) → List P
copies copy base some = flat_map (λ set. map (copy set) base) some

module _ {P : Type 0} (copy : List ℕ → P → P) (base : List P) (sets : List (List ℕ)) where
  pub sets_step : (all now : List P) {next : List P} (n i : ℕ) (x : List ℕ) → i < length sets → x ≡ get_or sets i x
      → take n now ≡ base → next ≡ now ++ map (copy x) (take n now)
      → now ++ copies copy base (drop i sets) ≡ all → next ++ copies copy base (drop (i + 1) sets) ≡ all
  sets_step all now n i x inside is front copied so_far =
      let rest = copies copy base (drop (i + 1) sets) in
      ap (λ (l : List P). l ++ rest) (copied ∙ ap (λ (l : List P). now ++ map (copy x) l) front)
      ∙ append_assoc now (map (copy x) base) rest
      ∙ ap (λ (l : List (List ℕ)). now ++ copies copy base l) (sym (drop_at sets i x inside is))
      ∙ so_far

  pub sets_end : (all now : List P) (i : ℕ) → length sets ≤ i → now ++ copies copy base (drop i sets) ≡ all → now ≡ all
  sets_end all now i past so_far =
      sym (append-nil now) ∙ ap (λ (l : List (List ℕ)). now ++ copies copy base l) (sym (drop_all i sets past))
      ∙ so_far

pub front_stays : {A P : Type 0} (view : A → P) (base : List P) (now : List A) (zs : List P) (n : ℕ) {next : List P}
    → n ≤ length now → take n (map view now) ≡ base
    → next ≡ map view now ++ zs → take n next ≡ base
front_stays view base now zs n small front copied =
    ap (take n) copied ∙ take-append-le n (map view now) zs (omega (arith, small, length-map now view)) ∙ front

pub front_all : {A P : Type 0} (view : A → P) (xs : List A) (n : ℕ) → n ≡ length xs → take n (map view xs) ≡ map view xs
front_all view xs n all = take_all n (map view xs) (omega (arith, all, length-map xs view))

pub longer : {A P : Type 0} (view : A → P) (old now next : List A) (zs : List P) → length old ≤ length now
    → map view next ≡ map view now ++ zs → length old ≤ length next
longer view old now next zs long same = omega (arith, long, long_enough view now next zs same)
