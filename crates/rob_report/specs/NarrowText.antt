-- How large the numbers of a program's rows can become, as it is printed.
use Rattle.std.specs.Fmt.{decimal}
use Rattle.std.specs.Prelude.{ℕ, Bool, true, false, List, ◌++◌, codes, Option, Some, None}
use Rattle.rob_report.specs.Lines.{line}

-- the bound, or `wide` where it is over the limit
abbrev pub bound_words : Option ℕ → List ℕ
bound_words (Some bound) = decimal bound
bound_words None = codes "wide"

-- `PROGRAM rows M greatest A bound X`
abbrev pub bound_line : List ℕ → ℕ → ℕ → Option ℕ → List ℕ
bound_line program rows greatest bound =
    line
    (program
    ++ (codes " rows "
    ++ (decimal rows ++ (codes " greatest " ++ (decimal greatest ++ (codes " bound " ++ bound_words bound))))))

-- `narrow yes`, or `narrow no`
abbrev pub narrow_line : Bool → List ℕ
narrow_line true = line (codes "narrow yes")
narrow_line false = line (codes "narrow no")
