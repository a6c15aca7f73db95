-- Calls of `gen` worked by hand, of which the laws say how they must end and what they print.
use Rattle.std.specs.Prelude.{List, ℕ, [], ◌∷◌, ◌++◌, codes}
use Rattle.rob_report.specs.Lines.{line as line_of}
use Rattle.rob_top.specs.Calls.{Call}
use Rattle.rob_top.specs.WorkedCalls.{call_over}
use Rattle.rob_words.specs.Values.{Word}

-- `gen` with a word, where there are no files
abbrev pub gen_call : Word → Call
gen_call word = call_over (codes "gen" ∷ word ∷ []) []

-- what `gen 0` prints where both routes have a status
abbrev pub first_summary : List ℕ
first_summary =
    line_of (codes "gen 0 periods 2") ++ (line_of (codes "dual optimal 31") ++ line_of (codes "cuts optimal 31"))
