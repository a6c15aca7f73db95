use Rattle.std.proofs.Common.{◌≡◌, ◌≤◌, refl, subst}
use Rattle.std.specs.Fmt.{signed_decimal}
use Rattle.std.specs.Prelude.{nat_abs, MatchOption}
use Rattle.rob_number.specs.Lowest.{limit_of}
use Rattle.rob_tree.specs.ClaimLines.{IsWholeWord, greatest_leaf}
use Rattle.rob_tree.proofs.lines.read_leaf.Goals as goal

-- 32 bits are the limit
limit_is : limit_of 32 ≡ greatest_leaf
unfolding limit_of
limit_is = refl

pub returns-clause-whole : goal.returns-clause-whole
returns-clause-whole g c =
    subst (λ n. MatchOption c.read_whole.result (IsWholeWord n c.args.word.now → ⊥)
    (λ z. (nat_abs z ≤ n) × (c.args.word.now ≡ signed_decimal z))) limit_is c.read_whole.ensures.whole
