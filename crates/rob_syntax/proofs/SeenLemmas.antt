-- The symbols of the definitions are those of the code, one for one, and so are bounds, relations and senses.
use Rattle.std.proofs.Common.{◌≡◌, refl, ap}
use Rattle.std.specs.Prelude.{Option, Some, None}
use Rattle.std.specs.Option.{option_map}
use Rattle.rob_index.specs.Symbols as index
use Rattle.rob_syntax.specs.declared.symbol.Mark.{Mark}
use Rattle.rob_syntax.specs.declared.symbol.Mark.TheVariants as mark
use Rattle.rob_syntax.specs.declared.symbol.Keyword.{Keyword}
use Rattle.rob_syntax.specs.declared.symbol.Keyword.TheVariants as word
use Rattle.rob_syntax.specs.declared.symbol.Symbol.{Symbol}
use Rattle.rob_syntax.specs.declared.symbol.Symbol.TheVariants.{Name, Digits, Sign, Reserved}
use Rattle.rob_syntax.specs.declared.syntax.Bounds.{Bounds}
use Rattle.rob_syntax.specs.declared.syntax.Bounds.TheVariants.{Between, AtLeast, AtMost}
use Rattle.rob_syntax.specs.declared.syntax.Rel.{Rel}
use Rattle.rob_syntax.specs.declared.syntax.Rel.TheVariants as rel
use Rattle.rob_syntax.specs.declared.syntax.Sense.{Sense}
use Rattle.rob_syntax.specs.declared.syntax.Sense.TheVariants as sense
use Rattle.rob_syntax.specs.Numbered.{own_bounds, own_rel, own_sense}
use Rattle.rob_syntax.specs.Seen.{seen_bounds, seen_rel, seen_sense}
use Rattle.rob_syntax.specs.SeenSymbols.{seen_mark, seen_keyword, seen_symbol}

-- the code's sign
abbrev pub own_mark : index.Mark → Mark
own_mark index.plus = mark.Plus
own_mark index.minus = mark.Minus
own_mark index.star = mark.Star
own_mark index.slash = mark.Slash
own_mark index.opening = mark.Open
own_mark index.closing = mark.Close
own_mark index.open_bracket = mark.OpenBracket
own_mark index.close_bracket = mark.CloseBracket
own_mark index.comma = mark.Comma
own_mark index.colon = mark.Colon
own_mark index.equal = mark.Equal
own_mark index.at_most = mark.AtMost
own_mark index.at_least = mark.AtLeast

-- the code's keyword
abbrev pub own_keyword : index.Keyword → Keyword
own_keyword index.uncertain = word.Uncertain
own_keyword index.over = word.Over
own_keyword index.set = word.Set
own_keyword index.budget = word.Budget
own_keyword index.var = word.Var
own_keyword index.adaptive = word.Adaptive
own_keyword index.minimise = word.Minimise
own_keyword index.maximise = word.Maximise
own_keyword index.row = word.Row
own_keyword index.at = word.At
own_keyword index.by = word.By
own_keyword index.within = word.In
own_keyword index.sum = word.Sum
own_keyword index.for = word.For
own_keyword index.to = word.To
own_keyword index.model = word.Model
own_keyword index.unused = word.Unused

-- the code's symbol
abbrev pub own_symbol : index.Symbol → Symbol
own_symbol (index.name k) = Name k
own_symbol (index.digits n) = Digits n
own_symbol (index.sign m) = Sign (own_mark m)
own_symbol (index.word w) = Reserved (own_keyword w)

pub own-seen_mark : (m : Mark) → own_mark (seen_mark m) ≡ m
own-seen_mark mark.Plus = refl
own-seen_mark mark.Minus = refl
own-seen_mark mark.Star = refl
own-seen_mark mark.Slash = refl
own-seen_mark mark.Open = refl
own-seen_mark mark.Close = refl
own-seen_mark mark.OpenBracket = refl
own-seen_mark mark.CloseBracket = refl
own-seen_mark mark.Comma = refl
own-seen_mark mark.Colon = refl
own-seen_mark mark.Equal = refl
own-seen_mark mark.AtMost = refl
own-seen_mark mark.AtLeast = refl

pub own-seen_keyword : (w : Keyword) → own_keyword (seen_keyword w) ≡ w
own-seen_keyword word.Uncertain = refl
own-seen_keyword word.Set = refl
own-seen_keyword word.Budget = refl
own-seen_keyword word.Var = refl
own-seen_keyword word.Adaptive = refl
own-seen_keyword word.Minimise = refl
own-seen_keyword word.Maximise = refl
own-seen_keyword word.Row = refl
own-seen_keyword word.In = refl
own-seen_keyword word.At = refl
own-seen_keyword word.By = refl
own-seen_keyword word.Over = refl
own-seen_keyword word.Sum = refl
own-seen_keyword word.For = refl
own-seen_keyword word.To = refl
own-seen_keyword word.Model = refl
own-seen_keyword word.Unused = refl

pub own-seen_symbol : (s : Symbol) → own_symbol (seen_symbol s) ≡ s
own-seen_symbol (Name k) = refl
own-seen_symbol (Digits n) = refl
own-seen_symbol (Sign m) = ap Sign (own-seen_mark m)
own-seen_symbol (Reserved w) = ap Reserved (own-seen_keyword w)

-- ---- what is seen, as it is written
pub own-seen_bounds : (b : Option Bounds) → option_map own_bounds (option_map seen_bounds b) ≡ b
own-seen_bounds None = refl
own-seen_bounds (Some (Between both)) = refl
own-seen_bounds (Some (AtLeast a)) = refl
own-seen_bounds (Some (AtMost b)) = refl

pub own-seen_rel : (r : Rel) → own_rel (seen_rel r) ≡ r
own-seen_rel rel.AtMost = refl
own-seen_rel rel.AtLeast = refl
own-seen_rel rel.Equal = refl

pub own-seen_sense : (s : Sense) → own_sense (seen_sense s) ≡ s
own-seen_sense sense.Minimise = refl
own-seen_sense sense.Maximise = refl
