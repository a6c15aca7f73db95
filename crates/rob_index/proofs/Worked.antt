-- Worked examples, which compute.
use Rattle.std.proofs.Common.{◌≡◌, ℕ, zero, suc, ◌+◌, Bool, true, false, List, [], ◌∷◌, map, Some, None, refl, arith}
use Rattle.std.specs.Prelude.{codes}
use Rattle.std.specs.List.{list_any}
use Rattle.std.specs.Fmt.{decimal}
use Rattle.std.proofs.lemmas.Fmt.{decimal_digit}
use Rattle.rob_index.specs.Symbols.{name, digits, sign, word}
use Rattle.rob_index.specs.Symbols as is
use Rattle.rob_index.specs.Statements.{Name, Numeral, Signed, Atom, Step, Index, Ref, Range, Tree, Indexed}
use Rattle.rob_index.specs.Statements as stated
use Rattle.rob_index.specs.Grammar.{Expr, Term}
use Rattle.rob_index.specs.Lines.{spell_line, statement_of}
use Rattle.rob_index.specs.Grammar as spelled
use Rattle.rob_index.specs.Expansion.{expand}
use Rattle.rob_index.specs.Counting.{line_tokens}
use Rattle.rob_index.specs.Places.{of_ref, of_range, places}
use Rattle.rob_index.specs.Rules.{index_unknown, range_too_long, index_out}
use Rattle.rob_index.specs.Fast.{is_out_fast, is_long_fast}
use Rattle.rob_index.specs.Search.{named}
use Rattle.rob_index.specs.Reading.{one, two, version_of, body_of}

-- the words of the stock example: d 0, i 1, x 2, y 3, t 4, now 5, all 6, k 7, d_1 8
words : List Name
words = codes "d" ∷ codes "i" ∷ codes "x" ∷ codes "y" ∷ codes "t" ∷ codes "now" ∷ codes "all" ∷ codes "k"
    ∷ codes "d_1" ∷ []

-- ---- short forms
at : Atom → Index
at a = record { first = a; more = [] }

the : ℕ → Index
the n = at (stated.digits n)

var : ℕ → Index
var k = at (stated.bound k)

less : Index → ℕ → Index
less x n = record x { more = record { minus = true; atom = stated.digits n } ∷ [] }

plus : Index → ℕ → Index
plus x n = record x { more = record { minus = false; atom = stated.digits n } ∷ [] }

plain : ℕ → Ref
plain k = record { name = k; indices = [] }

indexed : ℕ → Index → Ref
indexed k x = record { name = k; indices = x ∷ [] }

range : ℕ → Index → Index → Range
range k a b = record { name = k; from = a; upto = b }

num : ℕ → Numeral
num n = record { numerator = n; divisor = None }

signed : ℕ → Signed
signed n = record { minus = false; number = num n }

one_digit : decimal 1 ≡ 49 ∷ []
one_digit = decimal_digit 1 (omega arith)

two_digit : decimal 2 ≡ 50 ∷ []
two_digit = decimal_digit 2 (omega arith)

-- ---- the stock example
-- uncertain d[i] in [8, 12] for i = 1 to 2
line_two : Indexed Tree
line_two = stated.uncertain (indexed 0 (var 1)) (Some (stated.between (signed 8) (signed 12)))
    (range 1 (the 1) (the 2) ∷ [])

two_is : expand words line_two
    ≡ stated.uncertain (codes "d_1") (Some (stated.between (signed 8) (signed 12)))
    ∷ stated.uncertain (codes "d_2") (Some (stated.between (signed 8) (signed 12))) ∷ []
unfolding words line_two range the indexed var at signed num
two_is = rw (one_digit, two_digit)

-- budget 1: d[i] at 10 by 2 for i = 1 to 2
line_three : Indexed Tree
line_three = stated.budget (num 1)
    (record {
      item = record { name = indexed 0 (var 1); centre = signed 10; deviation = num 2 };
      ranges = range 1 (the 1) (the 2) ∷ [];
    } ∷ []) None

three_is : expand words line_three
    ≡ stated.budget (num 1) (record { name = codes "d_1"; centre = signed 10; deviation = num 2 }
    ∷ record { name = codes "d_2"; centre = signed 10; deviation = num 2 } ∷ []) None ∷ []
unfolding words line_three range the indexed var at signed num
three_is = rw (one_digit, two_digit)

-- adaptive y[t](d[i] for i = 1 to t - 1) >= 0 for t = 2 to 2
line_five : Indexed Tree
line_five =
    stated.adaptive (indexed 3 (var 4))
    (record { item = indexed 0 (var 1); ranges = range 1 (the 1) (less (var 4) 1) ∷ [] } ∷ [])
    (Some (stated.at_least (signed 0))) (range 4 (the 2) (the 2) ∷ [])

five_is : expand words line_five
    ≡ stated.adaptive (codes "y_2") (codes "d_1" ∷ []) (Some (stated.at_least (signed 0))) ∷ []
unfolding words line_five range the indexed var at less signed num
five_is = rw (one_digit, two_digit)

-- row all: x + y[2] >= sum(i = 1 to 2: d[i])
line_eight : Indexed Tree
line_eight =
    stated.row (plain 6)
    (record {
      left = stated.sum (stated.part false (stated.ref (plain 2))
          (stated.part false (stated.ref (indexed 3 (the 2))) stated.no_parts));
      rel = stated.at_least;
      right = stated.ranged (range 1 (the 1) (the 2)) (stated.ref (indexed 0 (var 1)));
      over = None;
    })
    []

eight_is : expand words line_eight ≡
    stated.row (codes "all")
    (stated.sum (stated.part false (stated.name (codes "x"))
    (stated.part false (stated.name (codes "y_2")) stated.no_parts)))
    stated.at_least
    (stated.sum (stated.part false (stated.name (codes "d_1"))
    (stated.part false (stated.name (codes "d_2")) stated.no_parts)))
    None ∷ []
unfolding words line_eight range the indexed var at plain
eight_is = rw (one_digit, two_digit)

-- row all: x + y[2] >= d_1 + d_2 and its line end
eight_counts : map (line_tokens 100) (expand words line_eight) ≡ 11 ∷ []
unfolding words line_eight range the indexed var at plain
eight_counts = refl

-- the same line as it is spelled
ref_term : Ref → Term
ref_term r = spelled.term (spelled.ref r) spelled.no_factors

written_eight : Indexed Expr
written_eight =
    stated.row (plain 6)
    (record {
      left = spelled.expr false (ref_term (plain 2))
          (spelled.signed false (ref_term (indexed 3 (the 2))) spelled.no_terms);
      rel = stated.at_least;
      right = spelled.expr false
          (spelled.term (spelled.sum (range 1 (the 1) (the 2))
          (spelled.expr false (ref_term (indexed 0 (var 1))) spelled.no_terms)) spelled.no_factors) spelled.no_terms;
      over = None;
    })
    []

eight_is_written : statement_of written_eight ≡ line_eight
unfolding line_eight written_eight ref_term
eight_is_written = refl

eight_is_spelled : spell_line written_eight ≡
    word is.row ∷ name 6 ∷ sign is.colon ∷ name 2 ∷ sign is.plus ∷ name 3 ∷ sign is.open_bracket ∷ digits 2
    ∷ sign is.close_bracket
    ∷ sign is.at_least ∷ word is.sum ∷ sign is.opening ∷ name 1 ∷ sign is.equal ∷ digits 1 ∷ word is.to ∷ digits 2
    ∷ sign is.colon
    ∷ name 0 ∷ sign is.open_bracket ∷ name 1 ∷ sign is.close_bracket ∷ sign is.closing ∷ []
unfolding written_eight ref_term range the indexed var at plain
eight_is_spelled = refl

-- ---- a line of the example broken
-- no name of a range is declared
none : ℕ → Bool
none k = false

-- row all: x >= d[INDEX]
row_of : Index → Indexed Tree
row_of x = stated.row (plain 6)
    (record { left = stated.ref (plain 2); rel = stated.at_least; right = stated.ref (indexed 0 x); over = None }) []

-- row all: x >= d[k]
unknown_is : named 100 words none 0 (row_of (var 7)) ≡ Some index_unknown
unfolding words row_of plain indexed var at none
unknown_is = refl

-- row all: x >= d[1 - 2]
out_is : named 100 words none 0 (row_of (less (the 1) 2)) ≡ Some index_out
unfolding words row_of plain indexed var at none less the
out_is = refl

-- row all: x + y[2] >= sum(i = 1 to 2: d[i]), in which i is no declared name
eight_good : named 100 words none 0 line_eight ≡ None
unfolding words line_eight range the indexed var at plain none
eight_good = rw (one_digit, two_digit)

-- uncertain d[i] for i = 1 to 101
long_is : named 100 words none 0 (stated.uncertain (indexed 0 (var 1)) None (range 1 (the 1) (the 101) ∷ []))
    ≡ Some range_too_long
unfolding words indexed var at none the range
long_is = refl

-- uncertain d[i + 900] for i = 1 to 101 has an index of 1001 too
long_and_out_is : named 100 words none 0
    (stated.uncertain (indexed 0 (plus (var 1) 900)) None (range 1 (the 1) (the 101) ∷ []))
    ≡ Some range_too_long
unfolding words indexed var at none the range plus
long_and_out_is = refl

-- uncertain d[i] for i = 1 to 101, where there is no room for it either
crowded_is : named 100 words none 20000 (stated.uncertain (indexed 0 (var 1)) None (range 1 (the 1) (the 101) ∷ []))
    ≡ Some range_too_long
unfolding words indexed var at none the range
crowded_is = refl

-- of 100 values it isn't
short_is : list_any is_long_fast
    (places (stated.uncertain (indexed 0 (var 1)) None (range 1 (the 1) (the 100) ∷ []))) ≡ false
unfolding words indexed var at none the range
short_is = refl

-- var d_1 declares the name of d[1]
same_name : expand words (stated.variable (plain 8) None []) ≡ stated.variable (codes "d_1") None ∷ []
unfolding words plain
same_name = refl

-- ---- the version
first_is : version_of ([] ∷ (codes "model" ∷ codes "2" ∷ []) ∷ (codes "var" ∷ codes "x" ∷ []) ∷ []) ≡ two
first_is = refl

other_digits : version_of ((codes "model" ∷ codes "02" ∷ []) ∷ []) ≡ one
other_digits = refl

body_is : body_of ((codes "model" ∷ codes "2" ∷ []) ∷ (codes "model" ∷ codes "2" ∷ []) ∷ [])
    ≡ [] ∷ (codes "model" ∷ codes "2" ∷ []) ∷ []
body_is = refl

-- ---- ranges of astronomically many settings, judged from their ends
-- n ranges of the names from k on, each of the same ends
nested : ℕ → ℕ → Index → Index → List Range
nested zero k a b = []
nested (suc n) k a b = range k a b ∷ nested n (k + 1) a b

-- the sum of the n names from k on
total : ℕ → ℕ → List stated.Step
total zero k = []
total (suc n) k = record { minus = false; atom = stated.bound k } ∷ total n (k + 1)

sum_of : ℕ → ℕ → Index
sum_of n k = record { first = stated.digits 0; more = total n k }

-- sum(0 = 1 to 41: .. sum(23 = 1 to 41: x[0 + .. + 23])): the greatest index is 984; to 42 it is 1008
free_fits : is_out_fast (record { around = nested 24 0 (the 1) (the 41); place = of_ref (sum_of 24 0) }) ≡ false
unfolding nested total sum_of range the at
free_fits = refl

free_goes_out : is_out_fast (record { around = nested 24 0 (the 1) (the 42); place = of_ref (sum_of 24 0) }) ≡ true
unfolding nested total sum_of range the at
free_goes_out = refl

-- each range from the name before it to 100
rising : ℕ → ℕ → List Range
rising zero k = []
rising (suc n) k = range (k + 1) (var k) (the 100) ∷ rising n (k + 1)

between : ℕ → ℕ → Index
between a b = record { first = stated.bound a; more = record { minus = true; atom = stated.bound b } ∷ [] }

-- for 0 = 1 to 100, sum(1 = 0 to 100: .. sum(24 = 23 to 100: x[24 - 23])) is within bounds, and x[23 - 24] isn't
rising_fits : is_out_fast
    (record { around = range 0 (the 1) (the 100) ∷ rising 24 0; place = of_ref (between 24 23) }) ≡ false
unfolding rising between range the at var
rising_fits = refl

rising_goes_out : is_out_fast
    (record { around = range 0 (the 1) (the 100) ∷ rising 24 0; place = of_ref (between 23 24) }) ≡ true
unfolding rising between range the at var
rising_goes_out = refl

-- a range from a name to 100 behind it has 101 values at most
rising_long : is_long_fast
    (record { around = range 0 (the 0) (the 99) ∷ rising 23 0; place = of_range (range 30 (var 23) (the 100)) })
    ≡ true
unfolding rising range the at var
rising_long = refl
