-- Items that are left out where they are idle: what is found of the others is that of all.
use Rattle.std.proofs.Common.{◌≡◌, ℕ, ◌+◌, Bool, true, false, List, [], ◌∷◌, ◌++◌, refl, sym, ap, ◌∙◌}
use Rattle.std.specs.Prelude.{ℤ, if◌then◌else◌}
use Rattle.rob_expand.specs.declared.finding.Finding.{Finding}
use Rattle.rob_settings.specs.declared.item.Item.{Item}
use Rattle.rob_expand.specs.Judging.{worse, worst, item_found}
use Rattle.rob_settings.specs.Spots.{IsThinAt, busy, is_idle, picks}
use Rattle.rob_expand.proofs.Walks.FindingLemmas.{worse_assoc, worst_append}
use Rattle.rob_judge.proofs.JudgeLemmas.{quiet_item}
use Rattle.rob_settings.proofs.SpotLemmas.{idle_none, idle_short}

-- nothing is found of it
pub busy_found : (vs : List ℤ) (xs : List Item)
    → worst (λ x. item_found x vs) (busy true xs vs) ≡ worst (λ x. item_found x vs) xs
busy_found vs [] = refl
busy_found vs (x ∷ xs) = go (busy_found vs xs) (is_idle true x vs) refl
  where
    go : worst (λ x. item_found x vs) (busy true xs vs) ≡ worst (λ x. item_found x vs) xs → (b : Bool)
        → is_idle true x vs ≡ b
        → worst (λ x. item_found x vs) (if b then busy true xs vs else x ∷ busy true xs vs)
        ≡ worse (item_found x vs) (worst (λ x. item_found x vs) xs)
    go so true e =
        so
        ∙ ap (λ (a : Finding). worse a (worst (λ x. item_found x vs) xs))
        (sym (quiet_item x vs (idle_none true x vs e) (idle_short x vs e)))
    go so false e = ap (worse (item_found x vs)) so

-- ---- of the items at some places, where these are thin
pub thin_found : (xs : List Item) (ks : List ℕ) (vs : List ℤ) → IsThinAt true xs ks vs
    → worst (λ x. item_found x vs) (picks xs ks) ≡ worst (λ x. item_found x vs) xs
thin_found xs ks vs thin =
    sym (busy_found vs (picks xs ks)) ∙ ap (worst (λ x. item_found x vs)) thin ∙ busy_found vs xs

pub worst_some : {A : Type 0} (f : A → Finding) (found here next : Finding) (old one xs : List A) {result : Finding}
    → old ≡ one ++ xs → here ≡ worst f one → next ≡ worse found here → worse found (worst f old) ≡ result
    → worse next (worst f xs) ≡ result
worst_some {A} f found here next old one xs is here_is next_is so_far =
    ap (λ (a : Finding). worse a (worst f xs)) (next_is ∙ ap (worse found) here_is)
    ∙ worse_assoc found (worst f one) (worst f xs)
    ∙ ap (worse found) (sym (ap (worst f) is ∙ worst_append f one xs)) ∙ so_far
