use Rattle.std.specs.Prelude.{option_map}
use Rattle.rob_model.specs.View.{robust}
use Rattle.rob_words.specs.Names.{parts_behind, parts_of}
use Rattle.rob_top.proofs.Telling.NumberingLemmas.{HasRead, left}
use Rattle.rob_top.proofs.names.variables_of.Given as goal

-- the names before the rest are those of the numbers
abbrev pub invariant-loop-rest : goal.invariant-loop-rest
invariant-loop-rest g l = HasRead (robust g.N.Exact.value l.model) (parts_of l.names) l.numbers
    (parts_behind (option_map (λ word. word.now) l.rest))

abbrev pub decreases-loop-rest : goal.decreases-loop-rest
decreases-loop-rest g l = left (option_map (λ word. word.now) l.rest)
