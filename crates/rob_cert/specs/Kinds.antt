-- The kinds of lines of a certificate: which words each has, and in which order they stand.
use Rattle.std.specs.Prelude.{ℕ, nat_eq, nat_le, Bool, true, false, ◌&&◌, codes}
use Rattle.rob_meaning.specs.Certificates.{Status, optimal, infeasible, unbounded}
use Rattle.rob_meaning.specs.Names.{Name}
use Rattle.rob_cert.specs.declared.kind.Multipliers.{Multipliers}
use Rattle.rob_cert.specs.declared.kind.Multipliers.TheVariants.{Covers, Holds}
use Rattle.rob_cert.specs.declared.kind.Vector.{Vector}
use Rattle.rob_cert.specs.declared.kind.Vector.TheVariants.{Inside, Plan, Move, At}
use Rattle.rob_cert.specs.Lines.{Line, status_line, value_line, scale_line, entry_line, cover_line, item_line, end_line}
use Rattle.rob_cert.specs.Spelling.{vector_word, multipliers_word}

-- the kinds of lines
pub data Kind : Type 0 where
  claims values scales items ends : Kind
  entries : Vector → Kind
  multipliers : Multipliers → Kind

-- the kind of a line
abbrev pub kind_of : {A : Type 0} → Line A → Kind
kind_of (status_line s) = claims
kind_of (value_line a) = values
kind_of (scale_line a) = scales
kind_of (entry_line v k a) = entries v
kind_of (cover_line which i r a) = multipliers which
kind_of (item_line i w b) = items
kind_of end_line = ends

-- a line's first word
abbrev pub word_of : Kind → Name
word_of claims = codes "certificate"
word_of values = codes "value"
word_of scales = codes "scale"
word_of items = codes "item"
word_of ends = codes "end"
word_of (entries v) = vector_word v
word_of (multipliers which) = multipliers_word which

-- the number of words behind it
abbrev pub argument_count : Kind → ℕ
argument_count claims = 1
argument_count values = 1
argument_count scales = 1
argument_count items = 3
argument_count ends = 0
argument_count (entries v) = 2
argument_count (multipliers which) = 3

-- the order of kinds; an item's entries belong to the items
abbrev pub rank : Kind → ℕ
rank claims = 0
rank values = 1
rank scales = 2
rank (entries Inside) = 3
rank (entries Plan) = 4
rank (entries Move) = 5
rank (multipliers Covers) = 6
rank (multipliers Holds) = 7
rank items = 8
rank (entries At) = 8
rank ends = 9

-- the kinds of lists that a status has, and the end
abbrev pub is_used : Status → Kind → Bool
is_used s (entries Inside) = true
is_used s ends = true
is_used optimal (entries Plan) = true
is_used optimal (multipliers Covers) = true
is_used optimal items = true
is_used optimal (entries At) = true
is_used infeasible items = true
is_used infeasible (entries At) = true
is_used unbounded (entries Plan) = true
is_used unbounded (entries Move) = true
is_used unbounded (multipliers Covers) = true
is_used unbounded (multipliers Holds) = true
is_used s kind = false

-- the kinds that may stand behind the status line: the value, where there is a plan
abbrev pub begins : Status → Kind → Bool
begins optimal values = true
begins unbounded values = true
begins infeasible (entries At) = false
begins infeasible kind = is_used infeasible kind
begins s kind = false

-- a kind stands in its order behind a list's line: an entry of an item's vector behind its item or such an entry
abbrev pub is_behind : Kind → Kind → Bool
is_behind last (entries At) = nat_eq (rank last) 8
is_behind last kind = nat_le (rank last) (rank kind)

-- a line of a kind may stand behind one of another kind, in a certificate of that status
abbrev pub may_follow : Status → Kind → Kind → Bool
may_follow s claims kind = begins s kind
may_follow s values scales = true
may_follow s values kind = false
may_follow s ends kind = false
may_follow s last kind = is_used s kind && is_behind last kind
