-- Sums along a list, and tables at two lists.
use Rattle.std.specs.Prelude.{◌≡◌, ℕ, zero, suc, pos, List, [], ◌∷◌, length, refl}
use Rattle.std.proofs.Common.{◌∙◌, ap, ap₂}
use Rattle.rob_algebra.specs.Fraction.{Fraction, ◌+ℚ◌, ◌*ℚ◌, neg_ℚ}
use Rattle.rob_algebra.specs.FractionLaws as Q
use Rattle.rob_algebra.specs.FractionLaws.{ℚ_ring}
use Rattle.rob_algebra.specs.Lists.{scale, plus_all}
use Rattle.rob_algebra.specs.Polynomials.{lit, minus, ◌:+◌, ◌:*◌, v0, v1, v2, v3, v4}
use Rattle.rob_meaning.specs.Coefficients.{Table, single, table_at, unit}
use Rattle.rob_meaning.specs.Places.{0ℚ, 1ℚ, along, at}

pub along-zero : (xs : List Fraction) → along (λ k. 0ℚ) xs ≡ 0ℚ
along-zero [] = refl
along-zero (x ∷ xs) =
    ap (λ z. 0ℚ *ℚ x +ℚ z) (along-zero xs) ∙ Q.ring (x ∷ []) (lit (pos 0) :* v0 :+ lit (pos 0)) (lit (pos 0)) refl

pub along-same : (f g : ℕ → Fraction) (xs : List Fraction) → ((k : ℕ) → f k ≡ g k) → along f xs ≡ along g xs
along-same f g xs h = ap (λ (f : ℕ → Fraction). along f xs) (λ i k. h k i)

pub along-none : (f : ℕ → Fraction) (xs : List Fraction) → ((k : ℕ) → f k ≡ 0ℚ) → along f xs ≡ 0ℚ
along-none f xs h = along-same f (λ k. 0ℚ) xs h ∙ along-zero xs

pub along-unit : (k : ℕ) (xs : List Fraction) → along (unit k) xs ≡ at xs k
along-unit k [] = refl
along-unit zero (x ∷ xs) =
    ap (λ z. 1ℚ *ℚ x +ℚ z) (along-zero xs) ∙ Q.ring (x ∷ []) (lit (pos 1) :* v0 :+ lit (pos 0)) v0 refl
along-unit (suc k) (x ∷ xs) =
    ap (λ z. 0ℚ *ℚ x +ℚ z) (along-unit k xs) ∙ Q.ring (x ∷ at xs k ∷ []) (lit (pos 0) :* v0 :+ v1) v1 refl

pub along-scale : (c : Fraction) (f : ℕ → Fraction) (xs : List Fraction) → along (λ k. c *ℚ f k) xs ≡ c *ℚ along f xs
along-scale c f [] = Q.ring (c ∷ []) (lit (pos 0)) (v0 :* lit (pos 0)) refl
along-scale c f (x ∷ xs) =
    ap (λ z. c *ℚ f zero *ℚ x +ℚ z) (along-scale c (λ k. f (suc k)) xs)
    ∙ Q.ring (c ∷ f zero ∷ x ∷ along (λ k. f (suc k)) xs ∷ []) (v0 :* v1 :* v2 :+ v0 :* v3)
    (v0 :* (v1 :* v2 :+ v3)) refl

pub along-plus : (f g : ℕ → Fraction) (xs : List Fraction) → along (λ k. f k +ℚ g k) xs ≡ along f xs +ℚ along g xs
along-plus f g [] = Q.ring [] (lit (pos 0)) (lit (pos 0) :+ lit (pos 0)) refl
along-plus f g (x ∷ xs) =
    ap (λ z. (f zero +ℚ g zero) *ℚ x +ℚ z) (along-plus (λ k. f (suc k)) (λ k. g (suc k)) xs)
    ∙ Q.ring (f zero ∷ g zero ∷ x ∷ along (λ k. f (suc k)) xs ∷ along (λ k. g (suc k)) xs ∷ [])
    ((v0 :+ v1) :* v2 :+ (v3 :+ v4)) ((v0 :* v2 :+ v3) :+ (v1 :* v2 :+ v4)) refl

pub along-neg : (f : ℕ → Fraction) (xs : List Fraction) → along (λ k. neg_ℚ (f k)) xs ≡ neg_ℚ (along f xs)
along-neg f [] = Q.ring [] (lit (pos 0)) (minus (lit (pos 0))) refl
along-neg f (x ∷ xs) =
    ap (λ z. neg_ℚ (f zero) *ℚ x +ℚ z) (along-neg (λ k. f (suc k)) xs)
    ∙ Q.ring (f zero ∷ x ∷ along (λ k. f (suc k)) xs ∷ []) (minus v0 :* v1 :+ minus v2) (minus (v0 :* v1 :+ v2)) refl

pub along-scale_list : (f : ℕ → Fraction) (c : Fraction) (xs : List Fraction) →
    along f (scale ℚ_ring c xs) ≡ c *ℚ along f xs
along-scale_list f c [] = Q.ring (c ∷ []) (lit (pos 0)) (v0 :* lit (pos 0)) refl
along-scale_list f c (x ∷ xs) =
    ap (λ z. f zero *ℚ (c *ℚ x) +ℚ z) (along-scale_list (λ k. f (suc k)) c xs)
    ∙ Q.ring (c ∷ f zero ∷ x ∷ along (λ k. f (suc k)) xs ∷ []) (v1 :* (v0 :* v2) :+ v0 :* v3)
    (v0 :* (v1 :* v2 :+ v3)) refl

pub suc_same : {m n : ℕ} → suc m ≡ suc n → m ≡ n
suc_same e = cc

pub along-plus_list : (f : ℕ → Fraction) (xs ys : List Fraction) → length xs ≡ length ys →
    along f (plus_all ℚ_ring xs ys) ≡ along f xs +ℚ along f ys
along-plus_list f [] [] e = Q.ring [] (lit (pos 0)) (lit (pos 0) :+ lit (pos 0)) refl
along-plus_list f [] (y ∷ ys) e = cc
along-plus_list f (x ∷ xs) [] e = cc
along-plus_list f (x ∷ xs) (y ∷ ys) e =
    ap (λ z. f zero *ℚ (x +ℚ y) +ℚ z) (along-plus_list (λ k. f (suc k)) xs ys (suc_same e))
    ∙ Q.ring (f zero ∷ x ∷ y ∷ along (λ k. f (suc k)) xs ∷ along (λ k. f (suc k)) ys ∷ [])
    (v0 :* (v1 :+ v2) :+ (v3 :+ v4)) ((v0 :* v1 :+ v3) :+ (v0 :* v2 :+ v4)) refl

-- ---- tables
pub table_at-same : (f g : Table) (p z : List Fraction) → ((k j : ℕ) → f k j ≡ g k j) → table_at f p z ≡ table_at g p z
table_at-same f g p z h = ap (λ (f : Table). table_at f p z) (λ i k j. h k j i)

pub table_at-plus : (f g : Table) (p z : List Fraction) →
    table_at (λ k j. f k j +ℚ g k j) p z ≡ table_at f p z +ℚ table_at g p z
table_at-plus f g p z =
    along-same (λ k. along (λ j. f k j +ℚ g k j) z) (λ k. along (f k) z +ℚ along (g k) z) p
    (λ k. along-plus (f k) (g k) z)
    ∙ along-plus (λ k. along (f k) z) (λ k. along (g k) z) p

pub table_at-neg : (f : Table) (p z : List Fraction) → table_at (λ k j. neg_ℚ (f k j)) p z ≡ neg_ℚ (table_at f p z)
table_at-neg f p z =
    along-same (λ k. along (λ j. neg_ℚ (f k j)) z) (λ k. neg_ℚ (along (f k) z)) p (λ k. along-neg (f k) z)
    ∙ along-neg (λ k. along (f k) z) p

pub table_at-scale : (c : Fraction) (f : Table) (p z : List Fraction) →
    table_at (λ k j. c *ℚ f k j) p z ≡ c *ℚ table_at f p z
table_at-scale c f p z =
    along-same (λ k. along (λ j. c *ℚ f k j) z) (λ k. c *ℚ along (f k) z) p (λ k. along-scale c (f k) z)
    ∙ along-scale c (λ k. along (f k) z) p

pub table_at-zero : (p z : List Fraction) → table_at (λ k j. 0ℚ) p z ≡ 0ℚ
table_at-zero p z = along-none (λ k. along (λ j. 0ℚ) z) p (λ k. along-zero z)

-- a table of products
pub table_at-products : (f g : ℕ → Fraction) (p z : List Fraction) →
    table_at (λ k j. f k *ℚ g j) p z ≡ along f p *ℚ along g z
table_at-products f g p z =
    along-same (λ k. along (λ j. f k *ℚ g j) z) (λ k. along g z *ℚ f k) p
    (λ k. along-scale (f k) g z ∙ Q.ℚ-mul_comm (f k) (along g z))
    ∙ along-scale (along g z) f p ∙ Q.ℚ-mul_comm (along g z) (along f p)

pub table_at-single : (k j : ℕ) (p z : List Fraction) → table_at (single k j) p z ≡ at p k *ℚ at z j
table_at-single k j p z = table_at-products (unit k) (unit j) p z ∙ ap₂ ◌*ℚ◌ (along-unit k p) (along-unit j z)
