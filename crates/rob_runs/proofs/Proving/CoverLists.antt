-- The list of covers made from amounts gives each form its amounts.
use Rattle.std.proofs.Common.{◌≡◌, ℕ, List, length, ap, ◌∙◌, true}
use Rattle.rob_algebra.specs.Fraction.{Fraction}
use Rattle.rob_meaning.specs.Places.{at, tabulate}
use Rattle.rob_meaning.specs.RobustModel.{RobustModel}
use Rattle.rob_meaning.specs.Forms.{matrices}
use Rattle.rob_meaning.specs.SetRows.{set_rows}
use Rattle.rob_meaning.specs.Certificates.{Cover}
use Rattle.rob_counterpart.specs.ReadNumbers.{concat}
use Rattle.rob_counterpart.proofs.Proving.KeptLemmas.{matches, matches_own, matched, some_kept, some_tabulate, some_concat}
use Rattle.rob_runs.specs.Readings.{GivesAmounts, covers_of_amounts}
use Rattle.rob_meaning.proofs.Lists.TabulateLemmas.{each_tabulate}
use Rattle.rob_counterpart.proofs.Proving.KeptOrder.{each_concat}

pub covers_give_amounts : (m : RobustModel) (amounts : ℕ → List Fraction)
    → GivesAmounts m amounts (covers_of_amounts m amounts)
covers_give_amounts m amounts i r il rl =
    let rows : ℕ → List Cover =
    λ h. tabulate (length (set_rows m)) (λ q. record { form = h; set_row = q; amount = at (amounts h) q }) in
    some_kept i r (at (amounts i) r) (concat (tabulate (length (matrices m)) rows))
    (each_concat (λ (c : Cover). matches i r c ≡ true → c.amount ≡ at (amounts i) r) (length (matrices m)) rows
    (λ h hl. each_tabulate (λ (c : Cover). matches i r c ≡ true → c.amount ≡ at (amounts i) r) (length (set_rows m))
    (λ q. record { form = h; set_row = q; amount = at (amounts h) q })
    (λ q ql e. ap (λ v. at (amounts v) q) (matched h q i r e).0 ∙ ap (at (amounts i)) (matched h q i r e).1)))
    (some_concat i r (length (matrices m)) rows i il
    (some_tabulate i r (length (set_rows m)) (λ q. record { form = i; set_row = q; amount = at (amounts i) q })
    r rl (matches_own i r)))
