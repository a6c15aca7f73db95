-- What a line of the canonical text consists of, how each is written, and which spaces stand between.
use Rattle.std.specs.Fmt.{decimal}
use Rattle.std.specs.Prelude.{ℕ, ◌++◌, Bool, true, false, List, [], ◌∷◌, fold, codes, if◌then◌else◌}
use Rattle.rob_meaning.specs.Names.{Name}
use Rattle.rob_syntax.specs.declared.symbol.Keyword.{Keyword}
use Rattle.rob_syntax.specs.declared.symbol.Keyword.TheVariants as word
use Rattle.rob_syntax.specs.declared.symbol.Mark.{Mark}
use Rattle.rob_syntax.specs.declared.symbol.Mark.TheVariants as mark
use Rattle.rob_write.specs.declared.page.Edge.{Edge}
use Rattle.rob_write.specs.declared.page.Edge.TheVariants.{Tight, Named, Apart}
use Rattle.rob_write.specs.declared.page.Page.{Page}

-- what a line consists of: names, digits, keywords, signs, and the `-` in front of a number or of an expression
pub data Written : Type 0 where
  name : Name → Written
  digits : ℕ → Written
  keyword : Keyword → Written
  sign : Mark → Written
  negative : Written
  line_end : Written

-- ---- how each is written
-- the goals are spelled with an s; `Unused` is no one word
abbrev pub keyword_text : Keyword → List ℕ
keyword_text word.Uncertain = codes "uncertain"
keyword_text word.Set = codes "set"
keyword_text word.Budget = codes "budget"
keyword_text word.Var = codes "var"
keyword_text word.Adaptive = codes "adaptive"
keyword_text word.Minimise = codes "minimise"
keyword_text word.Maximise = codes "maximise"
keyword_text word.Row = codes "row"
keyword_text word.In = codes "in"
keyword_text word.At = codes "at"
keyword_text word.By = codes "by"
keyword_text word.Over = codes "over"
keyword_text word.Sum = codes "sum"
keyword_text word.For = codes "for"
keyword_text word.To = codes "to"
keyword_text word.Model = codes "model"
keyword_text word.Unused = []

-- how a sign is written
abbrev pub mark_text : Mark → List ℕ
mark_text mark.Plus = codes "+"
mark_text mark.Minus = codes "-"
mark_text mark.Star = codes "*"
mark_text mark.Slash = codes "/"
mark_text mark.Open = codes "("
mark_text mark.Close = codes ")"
mark_text mark.OpenBracket = codes "["
mark_text mark.CloseBracket = codes "]"
mark_text mark.Comma = codes ","
mark_text mark.Colon = codes ":"
mark_text mark.Equal = codes "="
mark_text mark.AtMost = codes "<="
mark_text mark.AtLeast = codes ">="

-- how a thing is written; digits in decimal
abbrev pub bytes_of : Written → List ℕ
bytes_of (name bytes) = bytes
bytes_of (digits n) = decimal n
bytes_of (keyword k) = keyword_text k
bytes_of (sign m) = mark_text m
bytes_of negative = codes "-"
bytes_of line_end = 10 ∷ []

-- ---- spaces
-- no space stands in front of these
abbrev pub leans_back : Mark → Bool
leans_back mark.Star = true
leans_back mark.Slash = true
leans_back mark.Close = true
leans_back mark.CloseBracket = true
leans_back mark.Comma = true
leans_back mark.Colon = true
leans_back _ = false

-- no space stands behind these
abbrev pub edge_of_mark : Mark → Edge
edge_of_mark mark.Star = Tight
edge_of_mark mark.Slash = Tight
edge_of_mark mark.Open = Tight
edge_of_mark mark.OpenBracket = Tight
edge_of_mark _ = Apart

-- what the next thing stands behind
abbrev pub edge_behind : Written → Edge
edge_behind (name bytes) = Named
edge_behind (digits n) = Apart
edge_behind (keyword k) = Apart
edge_behind (sign m) = edge_of_mark m
edge_behind negative = Tight
edge_behind line_end = Tight

-- whether a sign stands directly behind; the list of an adaptive variable does so behind its name
abbrev pub mark_is_close : Edge → Mark → Bool
mark_is_close Tight m = true
mark_is_close Named mark.Open = true
mark_is_close Named m = leans_back m
mark_is_close Apart m = leans_back m

-- whether anything stands directly behind
abbrev pub is_tight : Edge → Bool
is_tight Tight = true
is_tight Named = false
is_tight Apart = false

-- whether a thing stands directly behind
abbrev pub is_close : Edge → Written → Bool
is_close edge (sign m) = mark_is_close edge m
is_close edge line_end = true
is_close edge _ = is_tight edge

-- what stands between
abbrev pub gap : Bool → List ℕ
gap close = if close then [] else (32 ∷ [])

-- the page with one thing more
abbrev pub put : Page → Written → Page
put page w = record { text = page.text ++ (gap (is_close page.edge w) ++ bytes_of w); edge = edge_behind w }

-- a page on which nothing is written
abbrev pub blank : Page
blank = record { text = []; edge = Tight }

-- the page with one line more
abbrev pub put_line : Page → List Written → Page
put_line page words = put (fold put page words) line_end
