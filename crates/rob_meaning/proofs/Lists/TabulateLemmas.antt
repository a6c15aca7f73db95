-- Lists by place: f 0, f 1 .. f (n - 1).
use Rattle.std.proofs.Common.{◌≡◌, ℕ, zero, suc, ◌+◌, ◌<◌, List, [], ◌∷◌, ◌++◌, length, refl, ap, ap₂, ◌∙◌, arith, sym, add-one}
use Rattle.rob_meaning.specs.Places.{Each, tabulate}

pub length-tabulate : {A : Type 0} (n : ℕ) (f : ℕ → A) → length (tabulate n f) ≡ n
length-tabulate zero f = refl
length-tabulate (suc n) f = ap suc (length-tabulate n (λ k. f (suc k)))

pub tabulate-same : {A : Type 0} (n : ℕ) (f g : ℕ → A) → ((k : ℕ) → k < n → f k ≡ g k) → tabulate n f ≡ tabulate n g
tabulate-same zero f g h = refl
tabulate-same {A} (suc n) f g h =
    ap₂ (λ (x : A) (xs : List A). x ∷ xs) (h zero (omega arith))
    (tabulate-same n (λ k. f (suc k)) (λ k. g (suc k)) (λ k l. h (suc k) (omega arith)))

-- the first a places, and the others
pub tabulate-append : {A : Type 0} (a b : ℕ) (f : ℕ → A)
    → tabulate (a + b) f ≡ tabulate a f ++ tabulate b (λ k. f (a + k))
tabulate-append zero b f =
    ap (λ n. tabulate n f) (let e : zero + b ≡ b = omega arith in e)
    ∙ tabulate-same b f (λ k. f (zero + k)) (λ k l. ap f (let e : k ≡ zero + k = omega arith in e))
tabulate-append {A} (suc a) b f =
    ap (λ n. tabulate n f) (let e : suc a + b ≡ suc (a + b) = omega arith in e)
    ∙ ap (λ (xs : List A). f zero ∷ xs)
    (tabulate-append a b (λ k. f (suc k))
    ∙ ap (λ (xs : List A). tabulate a (λ k. f (suc k)) ++ xs)
    (tabulate-same b (λ k. f (suc (a + k))) (λ k. f (suc a + k))
    (λ k l. ap f (let e : suc (a + k) ≡ suc a + k = omega arith in e))))

-- one place more
pub tabulate-more : {A : Type 0} (n : ℕ) (f : ℕ → A) → tabulate (suc n) f ≡ tabulate n f ++ f n ∷ []
tabulate-more zero f = refl
tabulate-more {A} (suc n) f = ap (λ (xs : List A). f zero ∷ xs) (tabulate-more n (λ k. f (suc k)))

pub tabulate_next : {A : Type 0} (f : ℕ → A) (k : ℕ) → tabulate k f ++ f k ∷ [] ≡ tabulate (k + 1) f
tabulate_next f k = sym (tabulate-more k f) ∙ ap (λ n. tabulate n f) (sym (add-one k))

-- one item more of a list that is made as it stands
pub item_more : {A : Type 0} (f : ℕ → A) (list : List A) (y : A) (k : ℕ) {new : List A}
    → new ≡ list ++ y ∷ [] → y ≡ f k → list ≡ tabulate k f → new ≡ tabulate (k + 1) f
item_more {A} f list y k {new} pushed same so_far =
    pushed ∙ ap (λ (xs : List A). xs ++ y ∷ []) so_far ∙ ap (λ (z : A). tabulate k f ++ z ∷ []) same ∙ tabulate_next f k

-- what holds at each place
pub each_tabulate : {A : Type 0} (P : A → Type 0) (n : ℕ) (f : ℕ → A)
    → ((k : ℕ) → k < n → P (f k)) → Each P (tabulate n f)
each_tabulate P zero f h = tt
each_tabulate P (suc n) f h =
    (h zero (omega arith), each_tabulate P n (λ k. f (suc k)) (λ k l. h (suc k) (omega arith)))
