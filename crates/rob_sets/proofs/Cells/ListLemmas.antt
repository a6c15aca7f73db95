-- Lists: their first few items, and items with a property.
use Rattle.std.specs.Prelude.{◌≡◌, ℕ, zero, suc, ◌+◌, ◌<◌, List, [], ◌∷◌, ◌++◌, length, take}
use Rattle.std.proofs.Common.{sym, ◌∙◌, ap, arith, get_or, inl, inr}
use Rattle.rob_meaning.specs.Places.{Each}
use Rattle.rob_sets.specs.FirstWide.{Some_of}

-- ---- the first few items
pub take_one_more : {A : Type 0} (xs : List A) (i : ℕ) (x : A) → i < length xs → x ≡ get_or xs i x
    → take (i + 1) xs ≡ take i xs ++ x ∷ []
take_one_more [] i x h e = absurd (omega arith)
take_one_more (y ∷ xs) zero x h e = ap (λ z. z ∷ []) (sym e)
take_one_more (y ∷ xs) (suc i) x h e =
    ap (λ n. take n (y ∷ xs)) (let next : suc i + 1 ≡ suc (i + 1) = omega arith in next)
    ∙ ap (λ zs. y ∷ zs) (take_one_more xs i x (omega arith) e)

-- ---- items with a property
pub some_left : {A : Type 0} (P : A → Type 0) (xs ys : List A) → Some_of P xs → Some_of P (xs ++ ys)
some_left P [] ys h = absurd h
some_left P (x ∷ xs) ys (inl h) = inl h
some_left P (x ∷ xs) ys (inr h) = inr (some_left P xs ys h)

pub some_right : {A : Type 0} (P : A → Type 0) (xs ys : List A) → Some_of P ys → Some_of P (xs ++ ys)
some_right P [] ys h = h
some_right P (x ∷ xs) ys h = inr (some_right P xs ys h)

-- where no item has it, it isn't so that some item has
pub each_none : {A : Type 0} (P : A → Type 0) (xs : List A) → Each (λ x. P x → ⊥) xs → Some_of P xs → ⊥
each_none P [] h w = w
each_none P (x ∷ xs) h (inl w) = h.0 w
each_none P (x ∷ xs) h (inr w) = each_none P xs h.1 w
