-- A name that is joined from plain parts tells its parts; and digits are plain.
use Rattle.std.proofs.Common.{sym, ◌∙◌, ap, ap₂, refl, arith}
use Rattle.std.proofs.lemmas.Fmt.{decimal_by_steps}
use Rattle.std.specs.Fmt.{decimal}
use Rattle.std.specs.Prelude.{◌≡◌, ◌≢◌, ℕ, suc, ◌+◌, ◌<◌, ◌≤◌, ◌%◌, ◌^◌, List, [], ◌∷◌, ◌++◌, length, get_or, map}
use Rattle.rob_meaning.proofs.Lists.DistinctLemmas.{distinct_map}
use Rattle.rob_meaning.proofs.Lists.EachLemmas.{each_append}
use Rattle.rob_meaning.specs.Named.{AreDistinct, IsPlain}
use Rattle.rob_meaning.specs.Names.{Name, Parts, behind_dots, joined}
use Rattle.rob_meaning.specs.Places.{Each}

-- ---- lists of bytes
pub head_same : {A : Type 0} (x y : A) (xs ys : List A) → x ∷ xs ≡ y ∷ ys → x ≡ y
head_same x y xs ys e = ap (λ zs. get_or zs 0 x) e

tail_of_list : {A : Type 0} → List A → List A
tail_of_list [] = []
tail_of_list (x ∷ xs) = xs

pub tail_same : {A : Type 0} (x y : A) (xs ys : List A) → x ∷ xs ≡ y ∷ ys → xs ≡ ys
unfolding tail_of_list
tail_same x y xs ys e = ap tail_of_list e

not_empty : {A : Type 0} (x : A) (xs : List A) → [] ≡ x ∷ xs → ⊥
not_empty x xs e = none (ap length e)
  where
    none : 0 ≡ suc (length xs) → ⊥
    none e = omega arith

-- empty, or a dot and more
abbrev BeginsWithDot : Name → Type 0
BeginsWithDot [] = Unit {0}
BeginsWithDot (byte ∷ rest) = byte ≡ 46

behind_dots_begins : (ps : Parts) → BeginsWithDot (behind_dots ps)
behind_dots_begins [] = tt
behind_dots_begins (p ∷ ps) = refl

-- what stands before the first dot, and what behind it
first_part : (p q r s : Name) → IsPlain p → IsPlain q → BeginsWithDot r → BeginsWithDot s → p ++ r ≡ q ++ s →
    (p ≡ q) × (r ≡ s)
first_part [] [] r s hp hq hr hs e = (refl, e)
first_part [] (b ∷ q) [] s hp hq hr hs e = absurd (not_empty b (q ++ s) e)
first_part [] (b ∷ q) (c ∷ r) s hp hq hr hs e = absurd (hq.0 (sym (head_same c b r (q ++ s) e) ∙ hr))
first_part (a ∷ p) [] r [] hp hq hr hs e = absurd (not_empty a (p ++ r) (sym e))
first_part (a ∷ p) [] r (c ∷ s) hp hq hr hs e = absurd (hp.0 (head_same a c (p ++ r) s e ∙ hs))
first_part (a ∷ p) (b ∷ q) r s hp hq hr hs e =
    let rest = first_part p q r s hp.1 hq.1 hr hs (tail_same a b (p ++ r) (q ++ s) e) in
    (ap₂ (λ (x : ℕ) (xs : Name). x ∷ xs) (head_same a b (p ++ r) (q ++ s) e) rest.0, rest.1)

behind_dots_same : (ps qs : Parts) → Each IsPlain ps → Each IsPlain qs → behind_dots ps ≡ behind_dots qs → ps ≡ qs
behind_dots_same [] [] h k e = refl
behind_dots_same [] (q ∷ qs) h k e = absurd (not_empty 46 (q ++ behind_dots qs) e)
behind_dots_same (p ∷ ps) [] h k e = absurd (not_empty 46 (p ++ behind_dots ps) (sym e))
behind_dots_same (p ∷ ps) (q ∷ qs) h k e =
    let rest = tail_same 46 46 (p ++ behind_dots ps) (q ++ behind_dots qs) e in
    let split =
    first_part p q (behind_dots ps) (behind_dots qs) h.0 k.0 (behind_dots_begins ps) (behind_dots_begins qs) rest in
    ap₂ (λ (x : Name) (xs : Parts). x ∷ xs) split.0 (behind_dots_same ps qs h.1 k.1 split.1)

-- some parts, all plain
abbrev pub ArePlain : Parts → Type 0
ArePlain [] = ⊥
ArePlain (p ∷ ps) = IsPlain p × Each IsPlain ps

pub joined_same : (ps qs : Parts) → ArePlain ps → ArePlain qs → joined ps ≡ joined qs → ps ≡ qs
joined_same [] qs h k e = absurd h
joined_same (p ∷ ps) [] h k e = absurd k
joined_same (p ∷ ps) (q ∷ qs) h k e =
    let split =
    first_part p q (behind_dots ps) (behind_dots qs) h.0 k.0 (behind_dots_begins ps) (behind_dots_begins qs) e in
    ap₂ (λ (x : Name) (xs : Parts). x ∷ xs) split.0 (behind_dots_same ps qs h.1 k.1 split.1)

-- distinct lists of plain parts make distinct names
pub distinct_joined : (xs : List Parts) → Each ArePlain xs → AreDistinct xs → AreDistinct (map joined xs)
distinct_joined xs h d = distinct_map ArePlain joined joined_same xs h d

-- ---- digits
pub decimal_plain : (n : ℕ) → n < 2 ^ 64 → IsPlain (decimal n)
decimal_plain n h = decimal_by_steps (λ n ds. IsPlain ds) one more n h
  where
    no_dot : (k : ℕ) → 48 + k ≢ 46
    no_dot k e = omega arith

    one : (n : ℕ) → n < 10 → IsPlain ((48 + n) ∷ [])
    one n small = (no_dot n, tt)

    more : (n : ℕ) (ds : Name) → 10 ≤ n → IsPlain ds → IsPlain (ds ++ ((48 + n % 10) ∷ []))
    more n ds big plain = each_append (λ byte. byte ≢ 46) ds ((48 + n % 10) ∷ []) plain (no_dot (n % 10), tt)
