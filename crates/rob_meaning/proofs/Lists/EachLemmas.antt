-- Properties of each item of a list.
use Rattle.std.specs.Prelude.{◌≡◌, ℕ, zero, suc, ◌<◌, All, get_or, List, [], ◌∷◌, ◌++◌, length, map, Option, Some, None}
use Rattle.std.proofs.Common.{arith, subst, sym}
use Rattle.rob_algebra.specs.Fraction.{Fraction}
pub use Rattle.rob_algebra.proofs.ListLemmas.{each_append}
use Rattle.rob_meaning.specs.Places.{Each}
use Rattle.rob_meaning.specs.RobustModel.{AdaptiveVariable, list_in}
use Rattle.rob_meaning.specs.SetConditions.{if_declared}

-- an item more
pub each_push : {A : Type 0} (P : A → Type 0) (xs : List A) (x : A) → Each P xs → P x → Each P (xs ++ x ∷ [])
each_push P [] x h p = (p, tt)
each_push P (y ∷ xs) x h p = (h.0, each_push P xs x h.1 p)

pub each_left : {A : Type 0} (P : A → Type 0) (xs ys : List A) → Each P (xs ++ ys) → Each P xs
each_left P [] ys h = tt
each_left P (x ∷ xs) ys h = (h.0, each_left P xs ys h.1)

pub each_right : {A : Type 0} (P : A → Type 0) (xs ys : List A) → Each P (xs ++ ys) → Each P ys
each_right P [] ys h = h
each_right P (x ∷ xs) ys h = each_right P xs ys h.1

pub each_map : {A : Type 0} (P Q : A → Type 0) → ((x : A) → P x → Q x) → (xs : List A) → Each P xs → Each Q xs
each_map P Q f [] h = tt
each_map P Q f (x ∷ xs) h = (f x h.0, each_map P Q f xs h.1)

pub each_both : {A : Type 0} (P Q R : A → Type 0) → ((x : A) → P x → Q x → R x) → (xs : List A) → Each P xs →
    Each Q xs → Each R xs
each_both P Q R f [] h k = tt
each_both P Q R f (x ∷ xs) h k = (f x h.0 k.0, each_both P Q R f xs h.1 k.1)

-- what holds of all items holds of each
pub each_all : {A : Type 0} (P : A → Type 0) → ((x : A) → P x) → (xs : List A) → Each P xs
each_all P h [] = tt
each_all P h (x ∷ xs) = (h x, each_all P h xs)

-- what is true of the parameters of all lists is true of those of each
pub each_list : (P : ℕ → Type 0) (ys : List AdaptiveVariable) (k : ℕ)
    → Each (λ (y : AdaptiveVariable). Each P y.on) ys → Each P (list_in ys k)
each_list P [] k h = tt
each_list P (y ∷ ys) zero h = h.0
each_list P (y ∷ ys) (suc k) h = each_list P ys k h.1

-- along a declared bound, if there is one
pub declared : {A B : Type 0} (P : A → Type 0) (Q : B → Type 0) (f : Fraction → A) (g : Fraction → B) →
    ((x : Fraction) → P (f x) → Q (g x)) → (o : Option Fraction) →
    Each P (if_declared f o) → Each Q (if_declared g o)
declared P Q f g h None e = tt
declared P Q f g h (Some x) e = (h x e.0, tt)

-- by number: each item has the property exactly where the one at each number has it
pub each_at : {A : Type 0} (P : A → Type 0) (xs : List A) → Each P xs → All P xs
each_at P [] h k d some = absurd (omega arith)
each_at P (x ∷ xs) h zero d some = h.0
each_at P (x ∷ xs) h (suc k) d some = each_at P xs h.1 k d (omega arith)

-- what is true of what each item is made to, is true of what the item at a place is made to
pub each_get : {A B : Type 0} (P : B → Type 0) (f : A → B) (xs : List A) (i : ℕ) (x : A)
    → i < length xs → x ≡ get_or xs i x
    → Each P (map f xs) → P (f x)
each_get P f [] i x h e all = absurd (omega arith)
each_get P f (y ∷ xs) zero x h e all = subst (λ z. P (f z)) (sym e) all.0
each_get P f (y ∷ xs) (suc i) x h e all = each_get P f xs i x (omega arith) e all.1
