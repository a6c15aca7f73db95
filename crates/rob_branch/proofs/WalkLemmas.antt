-- The verdict that the leaf of a number gives, where all leaves are passed.
use Rattle.std.proofs.Common.{Bool, true, false, ◌↔◌, IsTrue, ◌≡◌, ◌≢◌, ℕ, List, refl, sym, ◌∙◌, subst, inr}
use Rattle.std.specs.Prelude.{Option, Some, None, is_some, not}
use Rattle.rob_algebra.specs.Fraction.{Fraction}
use Rattle.rob_meaning.specs.Certificates.{Certificate, Status, infeasible}
use Rattle.rob_reach.proofs.BoxLemmas.{whole_at}
use Rattle.rob_reach.proofs.GrowingLemmas.{all_whole, broken_is}
use Rattle.rob_reach.specs.Growing.{first_broken}
use Rattle.rob_reach.specs.Trees.{Leaf}
use Rattle.rob_reach.specs.WholeStatus.{IsWholeOn}
use Rattle.rob_reach.specs.Verdicts.{Shows, leaf_at}
use Rattle.rob_tree.specs.declared.verdict.LeafFault.{LeafFault}
use Rattle.rob_tree.specs.declared.verdict.LeafFault.TheVariants as fault
use Rattle.rob_tree.specs.declared.verdict.TreeVerdict.TheVariants.{Accepted, Rejected}
use Rattle.rob_branch.specs.Leaves.{Ends, IsLastFault}

-- ---- the verdict on the leaf that is to show the status
module _ (claimed : Status) (names : List ℕ) (value : Fraction) (i : ℕ) (ls : List Leaf) (ne : claimed ≢ infeasible)
  where
    pub ends_accepted : (l : Leaf) (c : Certificate) → leaf_at ls i ≡ Some l → l.certificate ≡ Some c
        → IsLastFault claimed names value c None
        → Ends claimed names value i ls Accepted
    ends_accepted l c here some h = inr (l, here, (c, some, h.0, h.1))

    pub ends_rejected : (l : Leaf) (c : Certificate) (told : LeafFault) → leaf_at ls i ≡ Some l → l.certificate ≡ Some c
        → IsLastFault claimed names value c (Some told) → Ends claimed names value i ls (Rejected i told)
    ends_rejected l c fault.Best here some h =
        (ne, refl, (l, here, λ d e shows. h (subst (Shows claimed value) (same d (sym some ∙ e)) shows)))
      where
        same : (d : Certificate) → Some c ≡ Some d → d ≡ c
        same d e = cc
    ends_rejected l c fault.Whole here some h = (ne, refl, (l, here, (c, some, h.0, h.1)))
    ends_rejected l c (fault.At place) here some h = absurd h
    ends_rejected l c fault.Status here some h = absurd h
    ends_rejected l c fault.Value here some h = absurd h

    pub ends_open : (l : Leaf) → leaf_at ls i ≡ Some l → l.certificate ≡ None
        → Ends claimed names value i ls (Rejected i fault.Best)
    ends_open l here none = (ne, refl, (l, here, λ c e shows. other c (sym none ∙ e)))
      where
        other : (c : Certificate) → None ≡ Some c → ⊥
        other c e = cc

-- ---- whether the named variables are whole, as the first that isn't tells
pub whole_told : (names : List ℕ) (plan : List Fraction) (o : Option ℕ) (t : Bool) → is_some o ≡ not t
    → o ≡ first_broken names plan
    → IsTrue t ↔ IsWholeOn names plan
whole_told names plan None true e f = (λ h. all_whole names plan (sym f), λ h. refl)
whole_told names plan None false e f = (λ h. all_whole names plan (sym f), λ h. e)
whole_told names plan (Some j) true e f = (λ h. (let wrong : true ≡ false = e in cc), λ h. refl)
whole_told names plan (Some j) false e f = (
  λ h. (let wrong : false ≡ true = h in cc),
  λ h. absurd ((broken_is names plan j (sym f)).1 (whole_at names plan j (broken_is names plan j (sym f)).0 h)),
)
