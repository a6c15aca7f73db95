-- Names by parts: which parts are plain, which lists of names have keys, and that statements of different numbers have
-- different names.
use Rattle.std.proofs.Common.{sym, ◌∙◌, ap, subst, refl, arith}
use Rattle.std.proofs.lemmas.Bool.{ltb-true}
use Rattle.std.proofs.lemmas.Fmt.{decimal_injective}
use Rattle.std.specs.Fmt.{decimal}
use Rattle.std.specs.Prelude.{◌≡◌, ◌≢◌, ℕ, zero, suc, ◌+◌, ◌<◌, ◌^◌, List, [], ◌∷◌, ◌++◌, length, get_or, map, flat_map, codes, Option, Some, None, Bool, true, false, ltb, if◌then◌else◌}
use Rattle.rob_algebra.specs.Fraction.{Fraction}
use Rattle.rob_meaning.proofs.Lists.DistinctLemmas.{Apart, distinct_append, Keyed, differ}
use Rattle.rob_meaning.proofs.Lists.EachLemmas.{each_append, each_map}
use Rattle.rob_meaning.proofs.Naming.JoinedLemmas.{ArePlain}
use Rattle.rob_meaning.specs.Named.{AreDistinct, IsPlain}
use Rattle.rob_meaning.specs.Names.{Name, Parts, parameter_name, bound_parts, side_parts, by_number}
use Rattle.rob_meaning.specs.Places.{Each}
use Rattle.rob_meaning.specs.RobustModel.{Relation, at_most, at_least, equal, Parameter, SetLine}
pub use Rattle.rob_meaning.proofs.Lists.EachLemmas.{each_all}

-- a part of a name, counted from 0
abbrev pub part : ℕ → Parts → Name
part k parts = get_or parts k []

-- ---- words and lengths that differ
word_differs : (x y : ℕ) (xs ys : Name) → (x ≡ y → ⊥) → x ∷ xs ≢ y ∷ ys
word_differs x y xs ys ne e = ne (ap (λ (zs : Name). get_or zs 0 0) e)

le_is_not_ge : codes "le" ≢ codes "ge"
le_is_not_ge = word_differs 108 103 (codes "e") (codes "e") (λ e. omega arith)

pub lower_is_not_upper : codes "lower" ≢ codes "upper"
lower_is_not_upper = word_differs 108 117 (codes "ower") (codes "pper") (λ e. omega arith)

pub up_is_not_down : codes "up" ≢ codes "down"
up_is_not_down = word_differs 117 100 (codes "p") (codes "own") (λ e. omega arith)

-- ---- bounds and sides
pub bounds_distinct : (name : Name) (lo hi : Option Fraction) → AreDistinct (bound_parts name lo hi)
bounds_distinct name None None = tt
bounds_distinct name None (Some b) = (tt, tt)
bounds_distinct name (Some l) None = (tt, tt)
bounds_distinct name (Some l) (Some b) = ((λ e. lower_is_not_upper (ap (part 1) e), tt), (tt, tt))

pub bounds_keyed : (name : Name) (lo hi : Option Fraction) → Each (λ p. part 0 p ≡ name) (bound_parts name lo hi)
bounds_keyed name None None = tt
bounds_keyed name None (Some b) = (refl, tt)
bounds_keyed name (Some l) None = (refl, tt)
bounds_keyed name (Some l) (Some b) = (refl, (refl, tt))

-- ---- plain words
abbrev pub is_plain_word : Name → Bool
is_plain_word [] = true
is_plain_word (x ∷ xs) = if ltb 46 x then is_plain_word xs else false

pub plain_word : (word : Name) → is_plain_word word ≡ true → IsPlain word
plain_word [] e = tt
plain_word (x ∷ xs) e = by (ltb 46 x) refl e (plain_word xs)
  where
    above : (x : ℕ) → 46 < x → x ≢ 46
    above x h e = omega arith

    by : (b : Bool) → ltb 46 x ≡ b → (if b then is_plain_word xs else false) ≡ true →
        (is_plain_word xs ≡ true → IsPlain xs) →
        IsPlain (x ∷ xs)
    by true h e rest = (above x (ltb-true 46 x h), rest e)
    by false h e rest = cc

pub bounds_plain : (name : Name) (lo hi : Option Fraction) → IsPlain name → Each ArePlain (bound_parts name lo hi)
bounds_plain name None None h = tt
bounds_plain name None (Some b) h = ((h, (plain_word (codes "upper") refl, tt)), tt)
bounds_plain name (Some l) None h = ((h, (plain_word (codes "lower") refl, tt)), tt)
bounds_plain name (Some l) (Some b) h =
    ((h, (plain_word (codes "lower") refl, tt)), ((h, (plain_word (codes "upper") refl, tt)), tt))

pub last_part : (ps : Parts) (x : Name) → part (length ps) (ps ++ x ∷ []) ≡ x
last_part [] x = refl
last_part (p ∷ ps) x = last_part ps x

pub sides_distinct : (relation : Relation) (ps : Parts) → AreDistinct (side_parts relation ps)
sides_distinct at_most ps = (tt, tt)
sides_distinct at_least ps = (tt, tt)
sides_distinct equal ps = (
  (λ e. le_is_not_ge (sym (last_part ps (codes "le")) ∙ ap (part (length ps)) e ∙ last_part ps (codes "ge")), tt),
  (tt, tt),
)

pub sides_plain : (relation : Relation) (p : Name) (ps : Parts) → ArePlain (p ∷ ps) →
    Each ArePlain (side_parts relation (p ∷ ps))
sides_plain at_most p ps h = (h, tt)
sides_plain at_least p ps h = (h, tt)
sides_plain equal p ps h = (
  (h.0, each_append IsPlain ps (codes "le" ∷ []) h.1 (plain_word (codes "le") refl, tt)),
  ((h.0, each_append IsPlain ps (codes "ge" ∷ []) h.1 (plain_word (codes "ge") refl, tt)), tt),
)

pub row_keyed : (relation : Relation) (name : Name) → Each (λ p. part 0 p ≡ name) (side_parts relation (name ∷ []))
row_keyed at_most name = (refl, tt)
row_keyed at_least name = (refl, tt)
row_keyed equal name = (refl, (refl, tt))

-- ---- lists that are mapped, and lists with keys
pub each_mapped : {A B : Type 0} (P : B → Type 0) (f : A → B) (Q : A → Type 0) → ((x : A) → Q x → P (f x)) →
    (xs : List A) →
    Each Q xs → Each P (map f xs)
each_mapped P f Q h [] k = tt
each_mapped P f Q h (x ∷ xs) k = (h x k.0, each_mapped P f Q h xs k.1)

pub each_unmapped : {A B : Type 0} (P : B → Type 0) (f : A → B) (xs : List A) → Each P (map f xs) →
    Each (λ x. P (f x)) xs
each_unmapped P f [] h = tt
each_unmapped P f (x ∷ xs) h = (h.0, each_unmapped P f xs h.1)

pub each_flat : {X A : Type 0} (P : A → Type 0) (Q : X → Type 0) (f : X → List A) → ((x : X) → Q x → Each P (f x)) →
    (xs : List X) →
    Each Q xs → Each P (flat_map f xs)
each_flat P Q f h [] k = tt
each_flat P Q f h (x ∷ xs) k = each_append P (f x) (flat_map f xs) (h x k.0) (each_flat P Q f h xs k.1)

-- what the labels have, the keys have
pub keyed_has : {X A : Type 0} (key : A → Name) (R : Name → Type 0) (label : X → Name) (f : X → List A) (xs : List X) →
    Each R (map label xs) → Keyed key label f xs → Each (λ a. R (key a)) (flat_map f xs)
keyed_has key R label f [] h k = tt
keyed_has key R label f (x ∷ xs) h k =
    each_append (λ a. R (key a)) (f x) (flat_map f xs)
    (each_map (λ a. key a ≡ label x) (λ a. R (key a)) (λ a e. subst R (sym e) h.0) (f x) k.0)
    (keyed_has key R label f xs h.1 k.1)

-- ---- parameters by number
name_elsewhere : (ps : List Parameter) (j : ℕ) (x : Name) → Each (λ y. x ≢ y) (map (λ (p : Parameter). p.name) ps) →
    j < length ps →
    x ≡ parameter_name ps j → ⊥
name_elsewhere [] j x h some e = absurd (omega arith)
name_elsewhere (p ∷ ps) zero x h some e = h.0 e
name_elsewhere (p ∷ ps) (suc j) x h some e = name_elsewhere ps j x h.1 (omega arith) e

pub parameter_same : (ps : List Parameter) → AreDistinct (map (λ (p : Parameter). p.name) ps) → (i j : ℕ) →
    i < length ps → j < length ps →
    parameter_name ps i ≡ parameter_name ps j → i ≡ j
parameter_same [] d i j hi hj e = absurd (omega arith)
parameter_same (p ∷ ps) d zero zero hi hj e = refl
parameter_same (p ∷ ps) d zero (suc j) hi hj e = absurd (name_elsewhere ps j p.name d.0 (omega arith) e)
parameter_same (p ∷ ps) d (suc i) zero hi hj e = absurd (name_elsewhere ps i p.name d.0 (omega arith) (sym e))
parameter_same (p ∷ ps) d (suc i) (suc j) hi hj e = ap suc (parameter_same ps d.1 i j (omega arith) (omega arith) e)

pub parameter_plain : (ps : List Parameter) → Each IsPlain (map (λ (p : Parameter). p.name) ps) → (k : ℕ) →
    IsPlain (parameter_name ps k)
parameter_plain [] h k = tt
parameter_plain (p ∷ ps) h zero = h.0
parameter_plain (p ∷ ps) h (suc k) = parameter_plain ps h.1 k

-- ---- statements by number
module _ (f : ℕ → SetLine → List Parts) where
  pub number_each : (P : Parts → Type 0) → ((n : ℕ) (c : SetLine) → n < 2 ^ 64 → Each P (f n c)) →
      (n : ℕ) (cs : List SetLine) →
      n + length cs < 2 ^ 64 → Each P (by_number f n cs)
  number_each P h n [] few = tt
  number_each P h n (c ∷ cs) few =
      each_append P (f n c) (by_number f (suc n) cs) (h n c (omega arith)) (number_each P h (suc n) cs (omega arith))

  module _ (keyed : (n : ℕ) (c : SetLine) → Each (λ p. part 1 p ≡ decimal n) (f n c)) where
    other_number : (k n : ℕ) → k < n → n < 2 ^ 64 → decimal k ≢ decimal n
    other_number k n less few e = apart k n less (decimal_injective k n (omega arith) few e)
      where
        apart : (k n : ℕ) → k < n → k ≡ n → ⊥
        apart k n h e = omega arith

    pub number_apart : (k n : ℕ) (cs : List SetLine) → k < n → n + length cs < 2 ^ 64 → (items : List Parts) →
        Each (λ p. part 1 p ≡ decimal k) items → Apart items (by_number f n cs)
    number_apart k n cs less few items h =
        each_map (λ p. part 1 p ≡ decimal k) (λ a. Each (λ b. a ≢ b) (by_number f n cs))
        (λ a e. others a e n cs less few) items h
      where
        others : (a : Parts) → part 1 a ≡ decimal k → (n : ℕ) (cs : List SetLine) → k < n → n + length cs < 2 ^ 64 →
            Each (λ b. a ≢ b) (by_number f n cs)
        others a e n [] less few = tt
        others a e n (c ∷ cs) less few =
            each_append (λ b. a ≢ b) (f n c) (by_number f (suc n) cs)
            (differ (part 1) a (decimal k) (decimal n) e (other_number k n less (omega arith)) (f n c) (keyed n c))
            (others a e (suc n) cs (omega arith) (omega arith))

    pub number_distinct : (Good : SetLine → Type 0) → ((n : ℕ) (c : SetLine) → Good c → AreDistinct (f n c)) →
        (n : ℕ) (cs : List SetLine) →
        Each Good cs → n + length cs < 2 ^ 64 → AreDistinct (by_number f n cs)
    number_distinct Good h n [] good few = tt
    number_distinct Good h n (c ∷ cs) good few =
        distinct_append (f n c) (by_number f (suc n) cs) (h n c good.0)
        (number_distinct Good h (suc n) cs good.1 (omega arith))
        (number_apart n (suc n) cs (omega arith) (omega arith) (f n c) (keyed n c))
