-- What trees and statements with indices stand for: the function and the relation are one, in which order settings
-- run, and what has no index stands for itself.
use Rattle.std.proofs.Common.{◌≡◌, ℕ, zero, suc, ◌<◌, false, List, [], ◌∷◌, ◌++◌, map, get_or, refl, sym, ap, ◌∙◌, arith, append-nil}
use Rattle.std.specs.Prelude.{ℤ, pos, ◌+ℤ◌, ◌-ℤ◌, ◌<ℤ◌}
use Rattle.std.specs.List.{flat_map}
use Rattle.std.proofs.lemmas.Int.{ints}
use Rattle.std.proofs.lemmas.Grind.{flat_map-append}
use Rattle.rob_index.specs.Statements.{Name, Plain, Parts, Factors, Ref, Index, Range, Tree, TreeParts, TreeFactors}
use Rattle.rob_index.specs.Statements as stated
use Rattle.rob_index.specs.Expansion.{ref_name, index_text, added, summed, expand_tree, expand_parts, expand_factors, Expands, ExpandsParts, ExpandsFactors, ExpandsEach, number, ref, sum, product, over_none, over_one, over_more, no_parts, part, no_factors, factor, no_settings, next_setting, IsPlain, ArePlainParts, ArePlainFactors, HasNoIndex, itself, itself_parts, itself_factors}
use Rattle.rob_index.specs.Settings.{Setting, index_value, natural, upwards, values, with_value, settings}
use Rattle.rob_index.proofs.LinesRead.ListLemmas.{natural_low}
use Rattle.rob_index.proofs.Faults.FastLemmas.{flat_same}

-- ---- order
flat_flat : {A B C : Type 0} (f : B → List C) (g : A → List B) (xs : List A)
    → flat_map f (flat_map g xs) ≡ flat_map (λ x. flat_map f (g x)) xs
flat_flat f g [] = refl
flat_flat f g (x ∷ xs) =
    flat_map-append f (g x) (flat_map g xs) ∙ ap (λ (l : List _). flat_map f (g x) ++ l) (flat_flat f g xs)

-- later ranges run through all their values in each setting of the earlier ones: the last range runs fastest
pub settings-append : (rs ss : List Range) (setting : Setting)
    → settings (rs ++ ss) setting ≡ flat_map (settings ss) (settings rs setting)
settings-append [] ss setting = sym (append-nil (settings ss setting))
settings-append (r ∷ rs) ss setting =
    flat_same (λ v. settings (rs ++ ss) (with_value r setting v))
    (λ v. flat_map (settings ss) (settings rs (with_value r setting v)))
    (λ v. settings-append rs ss (with_value r setting v)) (values setting r)
    ∙ sym (flat_flat (settings ss) (λ v. settings rs (with_value r setting v)) (values setting r))

-- a range takes its values upwards
pub upwards_at : (n k : ℕ) (a : ℤ) → k < n → get_or (upwards a n) k (pos 0) ≡ a +ℤ pos k
upwards_at zero k a h = absurd (omega arith)
upwards_at (suc n) zero a h = omega (arith, ints)
upwards_at (suc n) (suc k) a h = let e = upwards_at n k (a +ℤ pos 1) (omega arith) in omega (arith, ints, e)

-- where its end is below its start it has none
pub no_values : (setting : Setting) (r : Range) → index_value setting r.upto <ℤ index_value setting r.from
    → values setting r ≡ []
no_values setting r h = ap (upwards (index_value setting r.from))
    (natural_low ((index_value setting r.upto +ℤ pos 1) -ℤ index_value setting r.from) (omega (arith, ints)))

-- where it is its start it has that one
pub one_value : (setting : Setting) (r : Range) → index_value setting r.from ≡ index_value setting r.upto
    → values setting r ≡ index_value setting r.from ∷ []
one_value setting r h =
    let e : (index_value setting r.upto +ℤ pos 1) -ℤ index_value setting r.from ≡ pos 1 = omega (arith, ints) in
    ap (λ (z : ℤ). upwards (index_value setting r.from) (natural z)) e

module _ (words : List Name) where
  -- ---- the relation gives what the function gives
  mutual
    pub expands_is : {t : Tree} {setting : Setting} {p : Plain} → Expands words t setting p
        → expand_tree words t setting ≡ p
    expands_is number = refl
    expands_is ref = refl
    expands_is (sum h) = ap stated.sum (parts_are h)
    expands_is (product h) = ap stated.product (factors_are h)
    expands_is (over_none {r} {t} {setting} e) =
        ap (λ (l : List ℤ). summed (map (λ v. expand_tree words t (with_value r setting v)) l)) e
    expands_is (over_one {r} {t} {setting} v e h) =
        ap (λ (l : List ℤ). summed (map (λ v. expand_tree words t (with_value r setting v)) l)) e ∙ expands_is h
    expands_is (over_more {r} {t} {setting} v w vs e h) =
        ap (λ (l : List ℤ). summed (map (λ v. expand_tree words t (with_value r setting v)) l)) e
        ∙ ap stated.sum (each_is h)

    pub parts_are : {ts : TreeParts} {setting : Setting} {ps : Parts} → ExpandsParts words ts setting ps
        → expand_parts words ts setting ≡ ps
    parts_are no_parts = refl
    parts_are (part {minus} h k) = let e = expands_is h in let f = parts_are k in λ i. stated.part minus (e i) (f i)

    pub factors_are : {ts : TreeFactors} {setting : Setting} {ps : Factors} → ExpandsFactors words ts setting ps
        → expand_factors words ts setting ≡ ps
    factors_are no_factors = refl
    factors_are (factor h k) = let e = expands_is h in let f = factors_are k in λ i. stated.factor (e i) (f i)

    pub each_is : {t : Tree} {r : Range} {setting : Setting} {vs : List ℤ} {ps : Parts}
        → ExpandsEach words t r setting vs ps
        → added (map (λ v. expand_tree words t (with_value r setting v)) vs) ≡ ps
    each_is no_settings = refl
    each_is (next_setting h k) = let e = expands_is h in let f = each_is k in λ i. stated.part false (e i) (f i)

  -- ---- and the function what the relation asks for
  each_expands : (t : Tree) (r : Range) (setting : Setting)
      → ((v : ℤ) → Expands words t (with_value r setting v) (expand_tree words t (with_value r setting v)))
      → (vs : List ℤ)
      → ExpandsEach words t r setting vs (added (map (λ v. expand_tree words t (with_value r setting v)) vs))
  each_expands t r setting h [] = no_settings
  each_expands t r setting h (v ∷ vs) = next_setting (h v) (each_expands t r setting h vs)

  ranged_expands : (t : Tree) (r : Range) (setting : Setting)
      → ((v : ℤ) → Expands words t (with_value r setting v) (expand_tree words t (with_value r setting v)))
      → (vs : List ℤ)
      → values setting r ≡ vs → Expands words (stated.ranged r t) setting
      (summed (map (λ v. expand_tree words t (with_value r setting v)) vs))
  ranged_expands t r setting h [] e = over_none e
  ranged_expands t r setting h (v ∷ []) e = over_one v e (h v)
  ranged_expands t r setting h (v ∷ w ∷ vs) e = over_more v w vs e (each_expands t r setting h (v ∷ w ∷ vs))

  mutual
    pub is_expanded : (t : Tree) (setting : Setting) → Expands words t setting (expand_tree words t setting)
    is_expanded (stated.number n) setting = number
    is_expanded (stated.ref r) setting = ref
    is_expanded (stated.sum ts) setting = sum (parts_expanded ts setting)
    is_expanded (stated.product ts) setting = product (factors_expanded ts setting)
    is_expanded (stated.ranged r t) setting =
        ranged_expands t r setting (λ v. is_expanded t (with_value r setting v)) (values setting r) refl

    pub parts_expanded : (ts : TreeParts) (setting : Setting)
        → ExpandsParts words ts setting (expand_parts words ts setting)
    parts_expanded stated.no_parts setting = no_parts
    parts_expanded (stated.part minus t ts) setting = part (is_expanded t setting) (parts_expanded ts setting)

    pub factors_expanded : (ts : TreeFactors) (setting : Setting)
        → ExpandsFactors words ts setting (expand_factors words ts setting)
    factors_expanded stated.no_factors setting = no_factors
    factors_expanded (stated.factor t ts) setting = factor (is_expanded t setting) (factors_expanded ts setting)

  -- ---- without indices
  pub plain_name : (r : Ref) (setting : Setting) → HasNoIndex r → ref_name words setting r ≡ get_or words r.name []
  plain_name r setting h = ap (λ (l : List Index). get_or words r.name [] ++ flat_map (index_text words setting) l) h
      ∙ append-nil (get_or words r.name [])

  mutual
    pub itself_is : (t : Tree) (setting : Setting) → IsPlain t → expand_tree words t setting ≡ itself words t
    itself_is (stated.number n) setting h = refl
    itself_is (stated.ref r) setting h = ap stated.name (plain_name r setting h)
    itself_is (stated.sum ts) setting h = ap stated.sum (itself_parts_is ts setting h)
    itself_is (stated.product ts) setting h = ap stated.product (itself_factors_is ts setting h)
    itself_is (stated.ranged r t) setting h = absurd h

    pub itself_parts_is : (ts : TreeParts) (setting : Setting) → ArePlainParts ts
        → expand_parts words ts setting ≡ itself_parts words ts
    itself_parts_is stated.no_parts setting h = refl
    itself_parts_is (stated.part minus t ts) setting h =
        let e = itself_is t setting h.0 in let f = itself_parts_is ts setting h.1 in λ i. stated.part minus (e i) (f i)

    pub itself_factors_is : (ts : TreeFactors) (setting : Setting) → ArePlainFactors ts
        → expand_factors words ts setting ≡ itself_factors words ts
    itself_factors_is stated.no_factors setting h = refl
    itself_factors_is (stated.factor t ts) setting h =
        let e = itself_is t setting h.0 in let f = itself_factors_is ts setting h.1 in λ i. stated.factor (e i) (f i)
