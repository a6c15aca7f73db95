use Rattle.std.specs.Prelude.{◌≤◌, map, option_map}
use Rattle.rob_cells.specs.View.{cut_of}
use Rattle.rob_model.specs.View.{robust}
use Rattle.rob_words.specs.Names.{parts_behind, parts_of}
use Rattle.rob_top.proofs.Telling.CutTellingLemmas.{HasTold}
use Rattle.rob_top.proofs.Telling.NumberingLemmas.{left}
use Rattle.rob_top.proofs.splitting.cuts_of.Given as goal

-- the cuts before the rest are told, and the count of wide numbers hasn't fallen
abbrev pub invariant-loop-rest : goal.invariant-loop-rest
invariant-loop-rest g l =
    HasTold (robust g.N.Exact.value l.model) g.N.Exact.limit (parts_of l.word) (map (cut_of g.N.Exact.value) l.cuts)
    (parts_behind (option_map (λ word. word.now) l.rest))
    × (g.L.Ledger.wides l.initial.ledger ≤ g.L.Ledger.wides l.ledger)

abbrev pub decreases-loop-rest : goal.decreases-loop-rest
decreases-loop-rest g l = left (option_map (λ word. word.now) l.rest)
