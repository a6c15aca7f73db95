-- Settings that are appended, each with the places of its items.
use Rattle.std.proofs.Common.{◌≡◌, ℕ, ◌<◌, List, [], ◌∷◌, ◌++◌, length, get_or, sym, ap, ◌∙◌, subst, append_assoc, append-nil, arith}
use Rattle.std.specs.Prelude.{ℤ, Bool, false}
use Rattle.std.proofs.lemmas.List.{map-append}
use Rattle.rob_ranges.specs.Spans.{Every}
use Rattle.rob_ranges.proofs.SpanLemmas.{every_both}
use Rattle.rob_settings.specs.declared.item.Item.{Item}
use Rattle.rob_settings.specs.declared.spot.Spot.{Spot}
use Rattle.rob_settings.specs.Spots.{IsThin, IsThinAt}
use Rattle.rob_settings.proofs.SpotLemmas.{values_in}

-- the same places
pub thin_items : (xs : List Item) (ks js : List ℕ) (vss : List (List ℤ)) → js ≡ ks
    → Every (IsThinAt false xs ks) vss → Every (IsThinAt false xs js) vss
thin_items xs ks js vss is thin = subst (λ (l : List ℕ). Every (IsThinAt false xs l) vss) (sym is) thin

-- the same items, places and settings
pub thin_moved : (short : Bool) (xs ys : List Item) (ks js : List ℕ) (vss wss : List (List ℤ)) → ys ≡ xs
    → js ≡ ks → wss ≡ vss → Every (IsThinAt short xs ks) vss → Every (IsThinAt short ys js) wss
thin_moved short xs ys ks js vss wss e f g thin =
    subst (λ (l : List Item). Every (IsThinAt short l js) wss) (sym e)
    (subst (λ (l : List ℕ). Every (IsThinAt short xs l) wss) (sym f)
    (subst (λ (l : List (List ℤ)). Every (IsThinAt short xs ks) l) (sym g) thin))

pub spots_none : (spots : List Spot) (vss : List (List ℤ)) → length vss < 1
    → values_in spots ≡ values_in spots ++ vss
spots_none spots [] h = sym (append-nil (values_in spots))
spots_none spots (vs ∷ vss) h = absurd (omega (arith, h))

only_one : (vss : List (List ℤ)) (vs : List ℤ) → length vss ≡ 1 → vs ≡ get_or vss 0 vs → vs ∷ [] ≡ vss
only_one [] vs one is = absurd (omega (arith, one))
only_one (ws ∷ []) vs one is = ap (λ (l : List ℤ). l ∷ []) is
only_one (ws ∷ us ∷ vss) vs one is = absurd (omega (arith, one))

pub one_value : (old new : List Spot) (spot : Spot) (vss : List (List ℤ)) (vs : List ℤ) → length vss ≡ 1
    → vs ≡ get_or vss 0 vs → spot.values ≡ vs → new ≡ old ++ spot ∷ [] → values_in new ≡ values_in old ++ vss
one_value old new spot vss vs one is here made =
    ap values_in made ∙ map-append (λ (s : Spot). s.values) old (spot ∷ [])
    ∙ ap (λ (l : List (List ℤ)). values_in old ++ l) (ap (λ (v : List ℤ). v ∷ []) here ∙ only_one vss vs one is)

pub one_thin : (xs : List Item) (old new : List Spot) (spot : Spot) → new ≡ old ++ spot ∷ []
    → Every (IsThin xs) old → IsThinAt false xs spot.kept spot.values → Every (IsThin xs) new
one_thin xs old new spot made done thin =
    every_both (IsThin xs) new old (spot ∷ []) made done (thin, tt)

pub both_values : (old one two : List Spot) (all front behind : List (List ℤ)) → all ≡ front ++ behind
    → values_in one ≡ values_in old ++ front → values_in two ≡ values_in one ++ behind
    → values_in two ≡ values_in old ++ all
both_values old one two all front behind is first second =
    second ∙ ap (λ (l : List (List ℤ)). l ++ behind) first ∙ append_assoc (values_in old) front behind
    ∙ ap (λ (l : List (List ℤ)). values_in old ++ l) (sym is)
