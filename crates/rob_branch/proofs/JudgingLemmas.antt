-- What comes of the check of a leaf, from what its steps answer: its box is written in whole numbers, set rows before
-- forms, and then its certificate is checked.
use Rattle.std.proofs.Common.{◌≡◌, ℕ, ◌≤◌, refl, sym, ◌∙◌, subst}
use Rattle.rob_algebra.specs.Fraction.{Fraction}
use Rattle.rob_check.specs.Conditions.{verdict_of}
use Rattle.rob_check.specs.declared.verdict.Verdict.{Verdict}
use Rattle.rob_check.specs.declared.verdict.Verdict.TheVariants as check
use Rattle.rob_meaning.specs.Certificates.{Certificate, Status}
use Rattle.rob_meaning.specs.RobustModel.{RobustModel}
use Rattle.rob_number.proofs.CountLemmas.{rose_later}
use Rattle.rob_sets.specs.FirstWide as writing
use Rattle.rob_sets.specs.declared.error.ElabErr.{ElabErr}
use Rattle.rob_sets.specs.declared.error.ElabErr.TheVariants as refused
use Rattle.rob_tree.specs.declared.verdict.LeafFault.TheVariants as fault
use Rattle.rob_branch.specs.Leaves.{IsClaimed, IsLeafJudged, RoseIfWideLeaf, leaf_refusal}
use Rattle.rob_branch.specs.Verdicts as of
use Rattle.rob_branch.specs.Verdicts.{HasVerdict}
use Rattle.rob_branch.specs.declared.leaf.LeafCheck.{LeafCheck}
use Rattle.rob_branch.specs.declared.leaf.LeafCheck.TheVariants as leaf
use Rattle.rob_elab.specs.Written.{IsWritten, judged}

-- ---- a box that cannot be written: nothing is said of memory, and a wide number is the first
pub refused_written : (limit : ℕ) (claimed : Status) (value : Fraction) (box : RobustModel) (c : Certificate)
    (l : LeafCheck) (e : ElabErr) → l ≡ leaf_refusal e → writing.HasCause limit box (judged box) e
    → IsLeafJudged limit claimed value box c l
refused_written limit claimed value box c l (refused.Wide spot) is h =
    subst (IsLeafJudged limit claimed value box c) (sym is) (of.writing c refl h)
refused_written limit claimed value box c l refused.Memory is h =
    subst (IsLeafJudged limit claimed value box c) (sym is) tt

-- ---- a box that is written, with the verdict on the certificate
pub has_verdict : (limit : ℕ) (box : RobustModel) (c : Certificate) (v told : Verdict) → IsWritten limit box
    → told ≡ verdict_of limit box c → told ≡ v → HasVerdict limit box c v
has_verdict limit box c v told written is e = record { written = written; verdict = sym is ∙ e }

-- ---- a certificate that is accepted: what it claims decides
module _ (limit : ℕ) (claimed : Status) (value : Fraction) (box : RobustModel) (c : Certificate)
    (h : HasVerdict limit box c check.Accepted) where
  pub claimed_judged : (l : LeafCheck) → IsClaimed claimed box.sense value c l
      → IsLeafJudged limit claimed value box c l
  claimed_judged leaf.Passed k = (h, k.0, k.1)
  claimed_judged (leaf.Fails (fault.At place)) k = absurd k
  claimed_judged (leaf.Fails fault.Status) k = (h, k)
  claimed_judged (leaf.Fails fault.Value) k = (h, k.0, k.1)
  claimed_judged (leaf.Fails fault.Best) k = absurd k
  claimed_judged (leaf.Fails fault.Whole) k = absurd k
  claimed_judged (leaf.Wide spot) k = absurd k
  claimed_judged leaf.Memory k = absurd k

-- ---- what is counted behind what never fell
module _ (before between now : ℕ) (least : before ≤ between) where
  pub refused_counted : (e : ElabErr) (l : LeafCheck) → l ≡ leaf_refusal e → writing.RoseIfWide between now e
      → RoseIfWideLeaf before now l
  refused_counted (refused.Wide spot) l is rose =
      subst (RoseIfWideLeaf before now) (sym is) (rose_later before between now least rose)
  refused_counted refused.Memory l is rose = subst (RoseIfWideLeaf before now) (sym is) tt
