-- The entries before k are written.
use Rattle.std.proofs.Common.{◌≡◌, ℕ, ◌<◌, pos, ◌*ℤ◌, ◌-ℤ◌, get_or}
use Rattle.rob_rows.proofs.narrow.fill.Given as goal

abbrev pub invariant-loop-k : goal.invariant-loop-k
invariant-loop-k l =
    (j : ℕ) → j < l.k
    → get_or l.out j (pos 0) ≡ (l.fn.factors.p *ℤ get_or l.fn.top j (pos 0))
    -ℤ (l.fn.factors.q *ℤ get_or l.fn.low j (pos 0))
