-- Lists in which no item stands twice.
use Rattle.std.proofs.Common.{sym, ◌∙◌, ap}
use Rattle.std.specs.Prelude.{◌≡◌, ◌≢◌, List, [], ◌∷◌, ◌++◌, map, flat_map}
use Rattle.rob_meaning.proofs.Lists.EachLemmas.{each_append, each_left, each_right, each_map, each_both}
use Rattle.rob_meaning.specs.Named.{AreDistinct}
use Rattle.rob_meaning.specs.Places.{Each}

-- no item of one list stands in the other
abbrev pub Apart : {A : Type 0} → List A → List A → Type 0
Apart xs ys = Each (λ x. Each (λ y. x ≢ y) ys) xs

module _ {A : Type 0} where
  pub distinct_append : (xs ys : List A) → AreDistinct xs → AreDistinct ys → Apart xs ys → AreDistinct (xs ++ ys)
  distinct_append [] ys d e apart = e
  distinct_append (x ∷ xs) ys d e apart =
      (each_append (λ y. x ≢ y) xs ys d.0 apart.0, distinct_append xs ys d.1 e apart.1)

  pub distinct_left : (xs ys : List A) → AreDistinct (xs ++ ys) → AreDistinct xs
  distinct_left [] ys d = tt
  distinct_left (x ∷ xs) ys d = (each_left (λ y. x ≢ y) xs ys d.0, distinct_left xs ys d.1)

  pub distinct_right : (xs ys : List A) → AreDistinct (xs ++ ys) → AreDistinct ys
  distinct_right [] ys d = d
  distinct_right (x ∷ xs) ys d = distinct_right xs ys d.1

  pub distinct_apart : (xs ys : List A) → AreDistinct (xs ++ ys) → Apart xs ys
  distinct_apart [] ys d = tt
  distinct_apart (x ∷ xs) ys d = (each_right (λ y. x ≢ y) xs ys d.0, distinct_apart xs ys d.1)

  pub apart_left : (xs ys zs : List A) → Apart xs (ys ++ zs) → Apart xs ys
  apart_left xs ys zs h =
      each_map (λ x. Each (λ y. x ≢ y) (ys ++ zs)) (λ x. Each (λ y. x ≢ y) ys)
      (λ x k. each_left (λ y. x ≢ y) ys zs k) xs h

  pub apart_right : (xs ys zs : List A) → Apart xs (ys ++ zs) → Apart xs zs
  apart_right xs ys zs h =
      each_map (λ x. Each (λ y. x ≢ y) (ys ++ zs)) (λ x. Each (λ y. x ≢ y) zs)
      (λ x k. each_right (λ y. x ≢ y) ys zs k) xs h

  pub apart_append : (xs ys zs : List A) → Apart xs ys → Apart xs zs → Apart xs (ys ++ zs)
  apart_append xs ys zs h k =
      each_both (λ x. Each (λ y. x ≢ y) ys) (λ x. Each (λ y. x ≢ y) zs) (λ x. Each (λ y. x ≢ y) (ys ++ zs))
      (λ x a b. each_append (λ y. x ≢ y) ys zs a b) xs h k

  -- where one list has a property that excludes that of the other
  pub apart_by : (P Q : A → Type 0) → ((x y : A) → P x → Q y → x ≢ y) → (xs ys : List A) → Each P xs → Each Q ys →
      Apart xs ys
  apart_by P Q f xs ys h k =
      each_map P (λ x. Each (λ y. x ≢ y) ys) (λ x p. each_map Q (λ y. x ≢ y) (λ y q. f x y p q) ys k) xs h

-- a function that takes distinct items of a kind to distinct items
pub distinct_map : {A B : Type 0} (P : A → Type 0) (f : A → B) → ((x y : A) → P x → P y → f x ≡ f y → x ≡ y) →
    (xs : List A) →
    Each P xs → AreDistinct xs → AreDistinct (map f xs)
distinct_map P f injective [] h d = tt
distinct_map P f injective (x ∷ xs) h d = (others x h.0 xs h.1 d.0, distinct_map P f injective xs h.1 d.1)
  where
    others : (x : _) → P x → (ys : List _) → Each P ys → Each (λ y. x ≢ y) ys → Each (λ y. f x ≢ y) (map f ys)
    others x p [] h d = tt
    others x p (y ∷ ys) h d = ((λ e. d.0 (injective x y p h.0 e)), others x p ys h.1 d.1)

-- ---- items with keys: what belongs to different labels has different keys
pub differ : {A K : Type 0} (key : A → K) (a : A) (l k : K) → key a ≡ l → l ≢ k → (bs : List A) →
    Each (λ b. key b ≡ k) bs →
    Each (λ b. a ≢ b) bs
differ key a l k p ne bs h = each_map (λ b. key b ≡ k) (λ b. a ≢ b) (λ b q e. ne (sym p ∙ ap key e ∙ q)) bs h

module _ {X A K : Type 0} (key : A → K) where
  -- each item that belongs to x has the label of x as its key
  abbrev pub Keyed : (X → K) → (X → List A) → List X → Type 0
  Keyed label f xs = Each (λ x. Each (λ a. key a ≡ label x) (f x)) xs

  pub keyed_apart : (l : K) (items : List A) → Each (λ a. key a ≡ l) items →
      (label : X → K) (f : X → List A) (xs : List X) →
      Each (λ k. l ≢ k) (map label xs) → Keyed label f xs → Apart items (flat_map f xs)
  keyed_apart l items h label f xs ne k =
      each_map (λ a. key a ≡ l) (λ a. Each (λ b. a ≢ b) (flat_map f xs)) (λ a p. others a p xs ne k) items h
    where
      others : (a : A) → key a ≡ l → (xs : List X) → Each (λ k. l ≢ k) (map label xs) → Keyed label f xs →
          Each (λ b. a ≢ b) (flat_map f xs)
      others a p [] ne k = tt
      others a p (x ∷ xs) ne k =
          each_append (λ b. a ≢ b) (f x) (flat_map f xs) (differ key a l (label x) p ne.0 (f x) k.0)
          (others a p xs ne.1 k.1)

  pub flat_distinct : (label : X → K) (f : X → List A) (xs : List X) → AreDistinct (map label xs) → Keyed label f xs →
      Each (λ x. AreDistinct (f x)) xs → AreDistinct (flat_map f xs)
  flat_distinct label f [] d k h = tt
  flat_distinct label f (x ∷ xs) d k h =
      distinct_append (f x) (flat_map f xs) h.0 (flat_distinct label f xs d.1 k.1 h.1)
      (keyed_apart (label x) (f x) k.0 label f xs d.0 k.1)

-- items of two kinds, whose labels are apart
pub flat_apart : {X Y A K : Type 0} (key : A → K)
    (label : X → K) (f : X → List A) (xs : List X) (mark : Y → K) (g : Y → List A) (ys : List Y) →
    Apart (map label xs) (map mark ys) → Keyed key label f xs → Keyed key mark g ys → Apart
    (flat_map f xs) (flat_map g ys)
flat_apart key label f [] mark g ys apart h k = tt
flat_apart key label f (x ∷ xs) mark g ys apart h k =
    each_append (λ a. Each (λ b. a ≢ b) (flat_map g ys)) (f x) (flat_map f xs)
    (keyed_apart key (label x) (f x) h.0 mark g ys apart.0 k)
    (flat_apart key label f xs mark g ys apart.1 h.1 k)
