-- What the walks through a line find, step by step.
use Rattle.std.proofs.Common.{◌≡◌, ◌<◌, ◌-◌, Bool, true, false, List, [], ◌∷◌, length, map, drop, take, get_or, refl, sym, ap, ◌∙◌, arith}
use Rattle.std.specs.Prelude.{ℤ, pos, int_lt}
use Rattle.std.proofs.lemmas.List.{take_rest}
use Rattle.std.specs.List.{list_any}
use Rattle.rob_index.specs.Forms.{Ends, value_of, length_form, values_of, extensions}
use Rattle.rob_expand.specs.declared.finding.Finding.{Finding}
use Rattle.rob_expand.specs.declared.finding.Finding.TheVariants.{Nothing}
use Rattle.rob_settings.specs.declared.item.Item.{Item}
use Rattle.rob_expand.specs.declared.placed.Placed.{Placed as Code}
use Rattle.rob_expand.specs.declared.placed.Part.{Part as CodePart}
use Rattle.rob_settings.specs.Inner.{is_long_in}
use Rattle.rob_expand.specs.Placed.{Part, placed_of, part_of, parts_of, factors_of}
use Rattle.rob_expand.specs.Judging.{finding, is_too_long, worse, worst, indices_found, length_found, range_found, ranges_found, tree_found, parts_found, factors_found, item_found}
use Rattle.rob_expand.proofs.Counting.StepLemmas.{part_is}
use Rattle.rob_expand.proofs.Walks.FindingLemmas.{worse_nothing, worse_both, worse_long, finding_both, worst_nothing, worst_same, worst_long}

-- ---- ranges
-- a range with none inside
one_range : (r : Ends) (vs : List ℤ) → ranges_found (r ∷ []) vs ≡ length_found r vs
one_range r vs = ap (worse (length_found r vs)) (worst_nothing (values_of r vs)) ∙ worse_nothing (length_found r vs)

-- ranges of which this is the only one
pub only_range : (rs : List Ends) (vs : List ℤ) (r : Ends) → length rs ≡ 1 → r ≡ get_or rs 0 r
    → length_found r vs ≡ ranges_found rs vs
only_range [] vs r one is = absurd (omega (arith, one))
only_range (q ∷ []) vs r one is = ap (λ (r : Ends). length_found r vs) is ∙ sym (one_range q vs)
only_range (q ∷ p ∷ rs) vs r one is = absurd (omega (arith, one))

-- or the first one
pub first_range : (rs : List Ends) (vs : List ℤ) (r : Ends) → 0 < length rs → r ≡ get_or rs 0 r
    → range_found r (ranges_found (take (length rs - 1) (drop 1 rs))) vs ≡ ranges_found rs vs
first_range [] vs r some is = absurd (omega (arith, some))
first_range (q ∷ qs) vs r some is =
    ap (λ (l : List Ends). range_found r (ranges_found l) vs) (take_rest (q ∷ qs) 1)
    ∙ ap (λ (r : Ends). range_found r (ranges_found qs) vs) is

-- what is found of ranges alone
ranges_told : (rs : List Ends) (vs : List ℤ) → ranges_found rs vs ≡ finding (is_long_in rs vs) false
ranges_told [] vs = refl
ranges_told (r ∷ rs) vs =
    let long = int_lt (pos 99) (value_of (length_form r) vs) in
    ap (worse (finding long false))
    (worst_same (λ v. ranges_found rs (v ∷ vs)) (λ v. finding (is_long_in rs (v ∷ vs)) false)
    (λ v. ranges_told rs (v ∷ vs)) (values_of r vs)
    ∙ sym (worst_long (λ v. is_long_in rs (v ∷ vs)) (values_of r vs)))
    ∙ finding_both long false (list_any (λ v. is_long_in rs (v ∷ vs)) (values_of r vs)) false

pub short_ranges : (rs : List Ends) (vs : List ℤ) → is_long_in rs vs ≡ false → Nothing ≡ ranges_found rs vs
short_ranges rs vs short = sym (ranges_told rs vs ∙ ap (λ (b : Bool). finding b false) short)

-- ---- items
-- nothing is found of an item without a setting whose ranges aren't too long
pub quiet_item : (x : Item) (vs : List ℤ) → extensions x.ranges vs ≡ [] → is_long_in x.ranges vs ≡ false
    → item_found x vs ≡ Nothing
quiet_item x vs none short =
    worse_both (ranges_told x.ranges vs ∙ ap (λ (b : Bool). finding b false) short)
    (ap (worst (indices_found x.name.indices)) none)

-- where a range is too long, the rest is nothing to it
pub long_first : (found a b : Finding) → found ≡ a → is_too_long found ≡ true → found ≡ worse a b
long_first found a b is long = sym (worse_long found b long) ∙ ap (λ (c : Finding). worse c b) is

-- ---- expressions
module _ (vs : List ℤ) where
  -- a part of a sum, and a factor of a product
  abbrev pub part_found : CodePart → Finding
  part_found x = tree_found (placed_of x.inner) vs

  abbrev pub factor_found : Code → Finding
  factor_found x = tree_found (placed_of x) vs

  pub parts_gathered : (ps : List CodePart) → parts_found (parts_of (map part_of ps)) vs ≡ worst part_found ps
  parts_gathered [] = refl
  parts_gathered (x ∷ ps) =
      worse_both (ap (λ (p : Part). tree_found p.inner vs) (part_is x)) (parts_gathered ps)

  pub factors_gathered : (fs : List Code)
      → factors_found (factors_of (map placed_of fs)) vs ≡ worst factor_found fs
  factors_gathered [] = refl
  factors_gathered (x ∷ fs) = ap (worse (factor_found x)) (factors_gathered fs)
