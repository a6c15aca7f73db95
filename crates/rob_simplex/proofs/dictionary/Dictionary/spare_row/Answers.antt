use Rattle.std.proofs.Common.{◌≡◌, ◌∙◌, sym, true, false}
use Rattle.rob_simplex.proofs.dictionary.Dictionary.spare_row.Goals as goal

pub returns-then-not-is_known-clause-spared : goal.returns-then-not-is_known-clause-spared
returns-then-not-is_known-clause-spared g c on =
    absurd (let y : false ≡ true = c.if-not-is_known.ensures.marked.1 on in cc)

pub returns-then-is_zero-clause-spared : goal.returns-then-is_zero-clause-spared
returns-then-is_zero-clause-spared g c on =
    (on, sym c.entry.ensures.entry ∙ c.is_zero.ensures.zero.0 c.if-is_zero.true)

pub returns-clause-spared : goal.returns-clause-spared
returns-clause-spared g c on = absurd (let off = c.forget.ensures.off in cc)
