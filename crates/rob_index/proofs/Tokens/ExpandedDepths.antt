-- The canonical lines of a line's expansion open no more parentheses at once than its tokens do, read from the left.
use Rattle.std.proofs.Common.{◌≡◌, ◌≤◌, false, List, [], sym, ap, ◌∙◌, arith}
use Rattle.rob_index.specs.Symbols.{Symbol}
use Rattle.rob_index.specs.Statements.{Name, Statement, Tree, Indexed}
use Rattle.rob_index.specs.Depths.{deepest, line_depth}
use Rattle.rob_index.specs.Settings.{settings}
use Rattle.rob_index.specs.Expansion.{expand, ranges_of, statement_at}
use Rattle.rob_index.specs.Lines.{IsStatement, statement_of}
use Rattle.rob_index.specs.Membership.{Among}
use Rattle.rob_index.specs.Reading.{Version, one, two, IsOf}
use Rattle.rob_index.proofs.Tokens.LineOpenLemmas.{line_deepest, line_shallow}
use Rattle.rob_index.proofs.Names.NamingLemmas.{among_mapped}

of_statement : (words : List Name) (symbols : List Symbol) (s : Indexed Tree) (p : Statement) → IsStatement symbols s
    → Among p (expand words s) → line_depth p ≤ deepest 0 [] false symbols
of_statement words symbols s p is m =
    let from = among_mapped (statement_at words s) (settings (ranges_of s) []) p m in
    let setting = from.0 in
    let same : p ≡ statement_at words (statement_of is.line) setting =
    sym from.2 ∙ ap (λ (t : Indexed Tree). statement_at words t setting) (sym is.statement_is) in
    omega (
      arith,
      ap line_depth same,
      line_shallow words is.line setting,
      line_deepest is.line,
      ap (deepest 0 [] false) is.spelled,
    )

pub expansion_shallow : (v : Version) (words : List Name) (symbols : List Symbol) (s : Indexed Tree) (p : Statement)
    → IsOf v symbols s → Among p (expand words s) → line_depth p ≤ deepest 0 [] false symbols
expansion_shallow one words symbols s p is m = of_statement words symbols s p is.0 m
expansion_shallow two words symbols s p is m = of_statement words symbols s p is m
