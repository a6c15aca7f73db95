-- Findings: the worse of two, the worst of many, and walks that gather them item by item.
use Rattle.std.proofs.Common.{◌≡◌, ◌<◌, Bool, true, false, List, [], ◌∷◌, ◌++◌, length, get_or, map, refl, sym, ap, ◌∙◌, arith}
use Rattle.std.specs.Prelude.{◌||◌, Result, Ok, Err, IfOk}
use Rattle.std.specs.List.{flat_map, list_any}
use Rattle.rob_expand.specs.declared.finding.Finding.{Finding}
use Rattle.rob_expand.specs.declared.finding.Finding.TheVariants.{Nothing, Out, TooLong}
use Rattle.rob_expand.specs.Judging.{finding, is_too_long, is_out_found, worse, worst}

-- ---- the worse of two
pub worse_nothing : (a : Finding) → worse a Nothing ≡ a
worse_nothing Nothing = refl
worse_nothing Out = refl
worse_nothing TooLong = refl

pub worse_assoc : (a b c : Finding) → worse (worse a b) c ≡ worse a (worse b c)
worse_assoc Nothing b c = refl
worse_assoc TooLong b c = refl
worse_assoc Out Nothing c = refl
worse_assoc Out Out Nothing = refl
worse_assoc Out Out Out = refl
worse_assoc Out Out TooLong = refl
worse_assoc Out TooLong c = refl

worse_swap : (a b : Finding) → worse a b ≡ worse b a
worse_swap Nothing b = sym (worse_nothing b)
worse_swap Out Nothing = refl
worse_swap Out Out = refl
worse_swap Out TooLong = refl
worse_swap TooLong Nothing = refl
worse_swap TooLong Out = refl
worse_swap TooLong TooLong = refl

pub worse_both : {a b c d : Finding} → a ≡ b → c ≡ d → worse a c ≡ worse b d
worse_both e f = λ i. worse (e i) (f i)

-- two pairs, taken crosswise
pub worse_cross : (a b c d : Finding) → worse (worse a b) (worse c d) ≡ worse (worse a c) (worse b d)
worse_cross a b c d =
    worse_assoc a b (worse c d)
    ∙ ap (worse a) (sym (worse_assoc b c d) ∙ ap (λ (e : Finding). worse e d) (worse_swap b c) ∙ worse_assoc c b d)
    ∙ sym (worse_assoc a c (worse b d))

-- nothing is worse than a range that is too long
pub worse_long : (a b : Finding) → is_too_long a ≡ true → worse a b ≡ a
worse_long Nothing b h = cc
worse_long Out b h = cc
worse_long TooLong b h = refl

-- ---- what a finding tells
pub finding_both : (a b c d : Bool) → worse (finding a b) (finding c d) ≡ finding (a || c) (b || d)
finding_both true b c d = refl
finding_both false true true d = refl
finding_both false true false true = refl
finding_both false true false false = refl
finding_both false false c d = refl

pub long_told : (long out : Bool) → is_too_long (finding long out) ≡ long
long_told true out = refl
long_told false true = refl
long_told false false = refl

pub out_told : (long out : Bool) → long ≡ false → is_out_found (finding long out) ≡ out
out_told true out h = cc
out_told false true h = refl
out_told false false h = refl

-- ---- the worst of many
pub worst_nothing : {A : Type 0} (xs : List A) → worst (λ (x : A). Nothing) xs ≡ Nothing
worst_nothing [] = refl
worst_nothing (x ∷ xs) = worst_nothing xs

pub worst_same : {A : Type 0} (f g : A → Finding) → ((x : A) → f x ≡ g x) → (xs : List A) → worst f xs ≡ worst g xs
worst_same f g h [] = refl
worst_same f g h (x ∷ xs) = worse_both (h x) (worst_same f g h xs)

pub worst_append : {A : Type 0} (f : A → Finding) (xs ys : List A)
    → worst f (xs ++ ys) ≡ worse (worst f xs) (worst f ys)
worst_append f [] ys = refl
worst_append f (x ∷ xs) ys =
    ap (worse (f x)) (worst_append f xs ys) ∙ sym (worse_assoc (f x) (worst f xs) (worst f ys))

pub worst_worse : {A : Type 0} (f g : A → Finding) (xs : List A)
    → worse (worst f xs) (worst g xs) ≡ worst (λ x. worse (f x) (g x)) xs
worst_worse f g [] = refl
worst_worse f g (x ∷ xs) =
    worse_cross (f x) (worst f xs) (g x) (worst g xs) ∙ ap (worse (worse (f x) (g x))) (worst_worse f g xs)

pub worst_map : {A B : Type 0} (f : B → Finding) (g : A → B) (xs : List A)
    → worst f (map g xs) ≡ worst (λ x. f (g x)) xs
worst_map f g [] = refl
worst_map f g (x ∷ xs) = ap (worse (f (g x))) (worst_map f g xs)

pub worst_flat : {A B : Type 0} (f : B → Finding) (g : A → List B) (xs : List A)
    → worst f (flat_map g xs) ≡ worst (λ x. worst f (g x)) xs
worst_flat f g [] = refl
worst_flat f g (x ∷ xs) = worst_append f (g x) (flat_map g xs) ∙ ap (worse (worst f (g x))) (worst_flat f g xs)

pub worst_finding : {A : Type 0} (p q : A → Bool) (xs : List A)
    → worst (λ x. finding (p x) (q x)) xs ≡ finding (list_any p xs) (list_any q xs)
worst_finding p q [] = refl
worst_finding p q (x ∷ xs) =
    ap (worse (finding (p x) (q x))) (worst_finding p q xs)
    ∙ finding_both (p x) (q x) (list_any p xs) (list_any q xs)

-- some range is too long, or some index is out of bounds
pub worst_long : {A : Type 0} (p : A → Bool) (xs : List A)
    → finding (list_any p xs) false ≡ worst (λ x. finding (p x) false) xs
worst_long p [] = refl
worst_long p (x ∷ xs) =
    sym (finding_both (p x) false (list_any p xs) false) ∙ ap (worse (finding (p x) false)) (worst_long p xs)

pub worst_out : {A : Type 0} (p : A → Bool) (xs : List A)
    → finding false (list_any p xs) ≡ worst (λ x. finding false (p x)) xs
worst_out p [] = refl
worst_out p (x ∷ xs) =
    sym (finding_both false (p x) false (list_any p xs)) ∙ ap (worse (finding false (p x))) (worst_out p xs)

-- ---- lists that are halved
module _ {A : Type 0} (f : A → Finding) where
  pub found_none : (xs : List A) → length xs < 1 → Nothing ≡ worst f xs
  found_none [] h = refl
  found_none (x ∷ xs) h = absurd (omega (arith, h))

  found_only : (xs : List A) (x : A) → length xs ≡ 1 → x ≡ get_or xs 0 x → f x ≡ worst f xs
  found_only [] x one is = absurd (omega (arith, one))
  found_only (y ∷ []) x one is = ap f is ∙ sym (worse_nothing (f y))
  found_only (y ∷ z ∷ zs) x one is = absurd (omega (arith, one))

  pub found_if_only : {E : Type 0} (xs : List A) (x y : A) → length xs ≡ 1 → x ≡ get_or xs 0 x
      → (r : Result Finding E) → y ≡ x → IfOk r (λ found. found ≡ f y) → IfOk r (λ found. found ≡ worst f xs)
  found_if_only xs x y one is (Ok found) same given = given ∙ ap f same ∙ found_only xs x one is
  found_if_only xs x y one is (Err e) same given = tt

  module _ (all front behind : List A) (is : all ≡ front ++ behind) where
    found_apart : worse (worst f front) (worst f behind) ≡ worst f all
    found_apart = sym (ap (worst f) is ∙ worst_append f front behind)

    pub found_split : {a b : Finding} → a ≡ worst f front → b ≡ worst f behind → worse a b ≡ worst f all
    found_split first second = worse_both first second ∙ found_apart

    -- a range is too long in front
    pub found_first : (found : Finding) → found ≡ worst f front → is_too_long found ≡ true → found ≡ worst f all
    found_first found first long =
        sym (worse_long found (worst f behind) long) ∙ ap (λ (a : Finding). worse a (worst f behind)) first
        ∙ found_apart

-- ---- walks
module _ {A : Type 0} (f : A → Finding) (found : Finding) where
  -- one item more
  pub worst_more : (here next : Finding) (old xs : List A) (x : A) {result : Finding} → old ≡ x ∷ xs
      → here ≡ f x → next ≡ worse found here → worse found (worst f old) ≡ result → worse next (worst f xs) ≡ result
  worst_more here next old xs x is here_is next_is so_far =
      ap (λ (a : Finding). worse a (worst f xs)) (next_is ∙ ap (worse found) here_is)
      ∙ worse_assoc found (f x) (worst f xs)
      ∙ ap (λ (l : List A). worse found (worst f l)) (sym is) ∙ so_far

  -- all are seen
  pub worst_all : (old : List A) {result : Finding} → old ≡ [] → worse found (worst f old) ≡ result → found ≡ result
  worst_all old is so_far =
      sym (worse_nothing found) ∙ ap (λ (l : List A). worse found (worst f l)) (sym is) ∙ so_far

  -- a range is too long
  pub worst_stop : (left : List A) {result : Finding} → is_too_long found ≡ true → worse found (worst f left) ≡ result
      → found ≡ result
  worst_stop left long so_far = sym (worse_long found (worst f left) long) ∙ so_far
