-- The canonical lines of a readable model may be written.
use Rattle.std.proofs.Common.{◌≡◌, ℕ, zero, suc, ◌^◌, ◌<◌, Bool, true, false, List, [], ◌∷◌, ◌++◌, length, map, get_or, sym, ◌∙◌, arith}
use Rattle.std.specs.Prelude.{◌==◌, nat_abs, int_lt, pos, if◌then◌else◌, Option, Some, None}
use Rattle.rob_algebra.specs.Fraction.{Fraction}
use Rattle.rob_algebra.specs.Width.{Fits}
use Rattle.rob_meaning.proofs.Lists.EachLemmas.{each_append}
use Rattle.rob_meaning.specs.Expressions as meaning
use Rattle.rob_meaning.specs.Named.{written_names, variable_names, adaptive_names, row_names, declared_names}
use Rattle.rob_meaning.specs.Places.{Each}
use Rattle.rob_meaning.specs.RobustModel as model
use Rattle.rob_meaning.specs.RobustModel.{RobustModel, written_count}
use Rattle.std.proofs.lemmas.List.{length-map}
use Rattle.rob_syntax.specs.declared.symbol.Mark.{Mark}
use Rattle.rob_syntax.specs.declared.symbol.Mark.TheVariants as mark
use Rattle.rob_syntax.specs.declared.symbol.Keyword.TheVariants as word
use Rattle.rob_write.specs.Pages.{Written, name, digits, keyword, sign}
use Rattle.rob_write.specs.WrittenModel.{line_written, row_written, written_model}
use Rattle.rob_write.specs.ExpressionWords.{Naming, naming_of, name_at, minus_words, divisor_words, number_words, is_sum, is_compound, paren, enclosed, lead, times, comma, listed, expression_words, term_words, factor_words}
use Rattle.rob_write.specs.StatementWords.{declared_set_words, lines_over, over_words, relation_word, bound_words, member_words, comparison_words, parameter_words, variable_words, adaptive_words, set_words, row_words, goal_word, goal_words}
use Rattle.rob_write.specs.Canonical.{lines_of}
use Rattle.rob_round_trip.specs.Pages.{IsWritable}
use Rattle.rob_syntax.specs.Names.{IsSpelled}
use Rattle.rob_round_trip.specs.Readable.{IsBound, IsReadable, TermsReadable, FactorsReadable, IsReadableMember, IsReadableSetLine, IsReadableModel}

-- ---- items of lists behind each other
apart : {A : Type 0} (P : A → Type 0) (xs ys : List A) → Each P (xs ++ ys) → Each P xs × Each P ys
apart P [] ys h = (tt, h)
apart P (x ∷ xs) ys h = let r = apart P xs ys h.1 in ((h.0, r.0), r.1)

at_place : (P : List ℕ → Type 0) (xs : List (List ℕ)) (k : ℕ) → Each P xs → k < length xs → P (get_or xs k [])
at_place P [] k h inside = absurd (omega arith)
at_place P (x ∷ xs) zero h inside = h.0
at_place P (x ∷ xs) (suc k) h inside = at_place P xs k h.1 (omega arith)

named_each : {A : Type 0} (P : List ℕ → Type 0) (f : A → List ℕ) (xs : List A) → Each P (map f xs)
    → Each (λ x. P (f x)) xs
named_each P f [] h = tt
named_each P f (x ∷ xs) h = (h.0, named_each P f xs h.1)

abbrev AreFine : List Written → Type 0
AreFine ws = Each IsWritable ws

both : (xs ys : List Written) → AreFine xs → AreFine ys → AreFine (xs ++ ys)
both xs ys a b = each_append IsWritable xs ys a b

-- a name that may be declared may be written
fine_name : {n : List ℕ} → IsSpelled n → IsWritable (name n)
fine_name {n} h = (h.is_word, h.no_keyword)

-- ---- numbers and signs
minus_fine : (b : Bool) → AreFine (minus_words b)
minus_fine true = (tt, tt)
minus_fine false = tt

divisor_fine : (den : ℕ) → den < 2 ^ 62 → AreFine (divisor_words den)
divisor_fine den h = go (den == 1)
  where
    go : (b : Bool) → AreFine (if b then [] else (sign mark.Slash ∷ (digits den ∷ [])))
    go true = tt
    go false = (tt, (omega arith, tt))

number_fine : (limit : ℕ) (q : Fraction) → limit < 2 ^ 62 → Fits limit q → AreFine (number_words q)
number_fine limit q small h =
    both (minus_words (int_lt q.num (pos 0))) (digits (nat_abs q.num) ∷ divisor_words q.den)
    (minus_fine (int_lt q.num (pos 0)))
    (omega (arith, h.num_fits), divisor_fine q.den (omega (arith, h.den_fits)))

bounds_fine : (limit : ℕ) → limit < 2 ^ 62 → (l u : Option Fraction) → IsBound limit l → IsBound limit u
    → AreFine (bound_words l u)
bounds_fine limit small None None h k = tt
bounds_fine limit small (Some l) None h k = (tt, number_fine limit l small h)
bounds_fine limit small None (Some u) h k = (tt, number_fine limit u small k)
bounds_fine limit small (Some l) (Some u) h k = (
  tt,
  (
    tt,
    both (number_words l) (sign mark.Comma ∷ (number_words u ++ sign mark.CloseBracket ∷ []))
        (number_fine limit l small h)
        (tt, both (number_words u) (sign mark.CloseBracket ∷ []) (number_fine limit u small k) (tt, tt)),
  ),
)

lead_fine : (first minus : Bool) → AreFine (lead first minus)
lead_fine true minus = minus_fine minus
lead_fine false true = (tt, tt)
lead_fine false false = (tt, tt)

times_fine : (first : Bool) → AreFine (times first)
times_fine true = tt
times_fine false = (tt, tt)

comma_fine : (first : Bool) → AreFine (comma first)
comma_fine true = tt
comma_fine false = (tt, tt)

paren_fine : (b : Bool) (m : Mark) → AreFine (paren b m)
paren_fine true m = (tt, tt)
paren_fine false m = tt

enclosed_fine : (b : Bool) (ws : List Written) → AreFine ws → AreFine (enclosed b ws)
enclosed_fine b ws h =
    both (paren b mark.Open) (ws ++ paren b mark.Close) (paren_fine b mark.Open)
    (both ws (paren b mark.Close) h (paren_fine b mark.Close))

relation_fine : (r : model.Relation) → IsWritable (relation_word r)
relation_fine model.at_most = tt
relation_fine model.at_least = tt
relation_fine model.equal = tt

goal_fine : (s : model.Sense) → IsWritable (goal_word s)
goal_fine model.minimise = tt
goal_fine model.maximise = tt

list_fine : {A : Type 0} (write : A → List Written) (P : A → Type 0) → ((x : A) → P x → AreFine (write x))
    → (first : Bool) (xs : List A) → Each P xs → AreFine (listed write first xs)
list_fine write P to first [] h = tt
list_fine write P to first (x ∷ xs) h =
    both (comma first) (write x ++ listed write false xs) (comma_fine first)
    (both (write x) (listed write false xs) (to x h.0) (list_fine write P to false xs h.1))

lines_each : {A : Type 0} (write : A → List Written) (P : A → Type 0) → ((x : A) → P x → AreFine (write x))
    → (zs : List A) → Each P zs → Each AreFine (map write zs)
lines_each write P to [] h = tt
lines_each write P to (z ∷ zs) h = (to z h.0, lines_each write P to zs h.1)

pair_each : {A : Type 0} (P Q : A → Type 0) (zs : List A) → Each P zs → Each Q zs → Each (λ z. P z × Q z) zs
pair_each P Q [] a b = tt
pair_each P Q (z ∷ zs) a b = ((a.0, b.0), pair_each P Q zs a.1 b.1)

module _ (limit : ℕ) (small : limit < 2 ^ 62) (names : Naming) (ps : Each IsSpelled names.parameters)
    (xs : Each IsSpelled names.variables) (ys : Each IsSpelled names.adaptives) where
  name_fine : (ns : List (List ℕ)) (k : ℕ) → Each IsSpelled ns → k < length ns → AreFine (name_at ns k ∷ [])
  name_fine ns k all inside = (fine_name (at_place IsSpelled ns k all inside), tt)

  mutual
    expression_fine : (e : meaning.Expression) → IsReadable limit names e → AreFine (expression_words names e)
    expression_fine (meaning.number q) h = number_fine limit q small h.0
    expression_fine (meaning.parameter k) h = name_fine names.parameters k ps h
    expression_fine (meaning.variable k) h = name_fine names.variables k xs h
    expression_fine (meaning.adaptive y) h = name_fine names.adaptives y ys h
    expression_fine (meaning.adaptive_in y S) h = absurd h
    expression_fine (meaning.sum ts) h = terms_fine true ts h.1
    expression_fine (meaning.product fs) h = factors_fine true fs h.1

    terms_fine : (first : Bool) (ts : meaning.Terms) → TermsReadable limit names ts
        → AreFine (term_words names first ts)
    terms_fine first meaning.no_terms h = tt
    terms_fine first (meaning.term minus e ts) h =
        both (lead first minus) (enclosed (is_sum e) (expression_words names e) ++ term_words names false ts)
        (lead_fine first minus)
        (both (enclosed (is_sum e) (expression_words names e)) (term_words names false ts)
        (enclosed_fine (is_sum e) (expression_words names e) (expression_fine e h.0)) (terms_fine false ts h.1))

    factors_fine : (first : Bool) (fs : meaning.Factors) → FactorsReadable limit names fs
        → AreFine (factor_words names first fs)
    factors_fine first meaning.no_factors h = tt
    factors_fine first (meaning.factor e fs) h =
        both (times first) (enclosed (is_compound e) (expression_words names e) ++ factor_words names false fs)
        (times_fine first)
        (both (enclosed (is_compound e) (expression_words names e)) (factor_words names false fs)
        (enclosed_fine (is_compound e) (expression_words names e) (expression_fine e h.0))
        (factors_fine false fs h.1))

  comparison_fine : (left : meaning.Expression) (r : model.Relation) (right : meaning.Expression)
      → IsReadable limit names left → IsReadable limit names right → AreFine (comparison_words names left r right)
  comparison_fine left r right h k =
      both (expression_words names left) (relation_word r ∷ expression_words names right) (expression_fine left h)
      (relation_fine r, expression_fine right k)

  member_fine : (h : model.Member) → IsReadableMember limit names h → AreFine (member_words names h)
  member_fine h is = (
    fine_name (at_place IsSpelled names.parameters h.parameter ps is.parameter),
    (
      tt,
      both (number_words h.centre) (keyword word.By ∷ number_words h.deviation)
          (number_fine limit h.centre small is.centre) (tt, number_fine limit h.deviation small is.deviation.0),
    ),
  )

  set_fine : (c : model.SetLine) → IsReadableSetLine limit names c → AreFine (set_words names c)
  set_fine (model.line left r right) h = (tt, comparison_fine left r right h.0 h.1)
  set_fine (model.budget bound []) h = absurd h
  set_fine (model.budget bound (m ∷ ms)) h = (
    tt,
    both (number_words bound) (sign mark.Colon ∷ listed (member_words names) true (m ∷ ms))
        (number_fine limit bound small h.0.0)
        (tt, list_fine (member_words names) (IsReadableMember limit names) member_fine true (m ∷ ms) h.1),
  )

-- ---- all lines
over_fine : (sets : List (List ℕ)) → Each IsSpelled sets → (S : ℕ) → S < suc (length sets) → AreFine (over_words sets S)
over_fine sets all zero h = tt
over_fine sets all (suc S) h = (tt, (fine_name (at_place IsSpelled sets S all (omega arith)), tt))

placed_each : {A : Type 0} (write : A → List Written) (sets : List (List ℕ)) (P : A → Type 0) → Each IsSpelled sets
    → ((x : A) → P x → AreFine (write x)) → (xs : List A) (Ss : List ℕ)
    → Each P xs → length Ss ≡ length xs → Each (λ S. S < suc (length sets)) Ss
    → Each AreFine (lines_over write sets xs Ss)
placed_each write sets P all to [] Ss h same there = tt
placed_each write sets P all to (x ∷ xs) [] h same there = absurd (omega (arith, same))
placed_each write sets P all to (x ∷ xs) (S ∷ Ss) h same there = (
  both (write x) (over_words sets S) (to x h.0) (over_fine sets all S there.0),
  placed_each write sets P all to xs Ss h.1 (omega (arith, same)) there.1,
)

-- the names of what is declared, kind by kind
module _ (m : RobustModel) (spelled : Each IsSpelled (declared_names m)) where
  pub of_parameters : Each IsSpelled (written_names m)
  of_parameters = (apart IsSpelled (written_names m) _ spelled).0

  behind_parameters : Each IsSpelled (m.sets ++ (row_names m ++ (variable_names m ++ adaptive_names m)))
  behind_parameters = (apart IsSpelled (written_names m) _ spelled).1

  pub of_sets : Each IsSpelled m.sets
  of_sets = (apart IsSpelled m.sets _ behind_parameters).0

  rest : Each IsSpelled (row_names m ++ (variable_names m ++ adaptive_names m))
  rest = (apart IsSpelled m.sets _ behind_parameters).1

  pub of_rows : Each IsSpelled (row_names m)
  of_rows = (apart IsSpelled (row_names m) (variable_names m ++ adaptive_names m) rest).0

  pub of_variables : Each IsSpelled (variable_names m)
  of_variables =
      (apart IsSpelled (variable_names m) (adaptive_names m)
      (apart IsSpelled (row_names m) (variable_names m ++ adaptive_names m) rest).1).0

  pub of_adaptives : Each IsSpelled (adaptive_names m)
  of_adaptives =
      (apart IsSpelled (variable_names m) (adaptive_names m)
      (apart IsSpelled (row_names m) (variable_names m ++ adaptive_names m) rest).1).1

each_written : (P : List ℕ → Type 0) (q : ℕ) (rs : List model.Row) → Each (λ (r : model.Row). P r.name) rs
    → Each (λ (r : model.Row). P r.name) (map (row_written q) rs)
each_written P q [] h = tt
each_written P q (r ∷ rs) h = (h.0, each_written P q rs h.1)

module _ (limit : ℕ) (small : limit < 2 ^ 62) (m : RobustModel) (spelled : Each IsSpelled (declared_names m))
    (readable : IsReadableModel limit (naming_of m) m) where
  abbrev w : RobustModel
  w = written_model m

  pub all_fine : Each (Each IsWritable) (lines_of m)
  all_fine =
      let names = naming_of m in
      let parts = readable.parts in
      let placed = readable.placed in
      let ps = of_parameters m spelled in
      let xs = of_variables m spelled in
      let ys = of_adaptives m spelled in
      let compares = comparison_fine limit small names ps xs ys in
      each_append AreFine (map parameter_words w.parameters) _
      (lines_each parameter_words (λ (p : model.Parameter). IsSpelled p.name
      × (IsBound limit p.lower × IsBound limit p.upper))
      (λ p h. (tt, (fine_name h.0, bounds_fine limit small p.lower p.upper h.1.0 h.1.1))) w.parameters
      (pair_each (λ (p : model.Parameter). IsSpelled p.name) _ w.parameters
      (named_each IsSpelled (λ (p : model.Parameter). p.name) w.parameters ps) parts.parameters))
      (each_append AreFine (map declared_set_words m.sets) _
      (lines_each declared_set_words IsSpelled (λ n h. (tt, (fine_name h, tt))) m.sets (of_sets m spelled))
      (each_append AreFine (lines_over (set_words names) m.sets w.set_lines m.line_sets) _
      (placed_each (set_words names) m.sets (IsReadableSetLine limit names) (of_sets m spelled)
      (set_fine limit small names ps xs ys) w.set_lines m.line_sets parts.set_lines
      (placed.line_sets ∙ sym (length-map m.set_lines (line_written (written_count m)))) placed.of_lines)
      (each_append AreFine (map variable_words m.variables) _
      (lines_each variable_words (λ (x : model.Variable). IsSpelled x.name
      × (IsBound limit x.lower × IsBound limit x.upper))
      (λ x h. (tt, (fine_name h.0, bounds_fine limit small x.lower x.upper h.1.0 h.1.1))) m.variables
      (pair_each (λ (x : model.Variable). IsSpelled x.name) _ m.variables
      (named_each IsSpelled (λ (x : model.Variable). x.name) m.variables xs) parts.variables))
      (each_append AreFine (map (adaptive_words names) m.adaptives) _
      (lines_each (adaptive_words names)
      (λ (y : model.AdaptiveVariable). IsSpelled y.name
      × (Each (λ k. k < length names.parameters) y.on × (IsBound limit y.lower × IsBound limit y.upper)))
      (λ y h. (
        tt,
        (
          fine_name h.0,
          (
            tt,
            both (listed (λ k. name_at names.parameters k ∷ []) true y.on)
                (sign mark.Close ∷ bound_words y.lower y.upper)
                (list_fine (λ k. name_at names.parameters k ∷ []) (λ k. k < length names.parameters)
                (λ k inside. name_fine limit small names ps xs ys names.parameters k ps inside) true y.on h.1.0)
                (tt, bounds_fine limit small y.lower y.upper h.1.1.0 h.1.1.1),
          ),
        ),
      )) m.adaptives
      (pair_each (λ (y : model.AdaptiveVariable). IsSpelled y.name) _ m.adaptives
      (named_each IsSpelled (λ (y : model.AdaptiveVariable). y.name) m.adaptives ys) parts.adaptives)) (
        both (goal_words names m.sense w.objective) (over_words m.sets m.objective_set)
            (goal_fine m.sense, expression_fine limit small names ps xs ys w.objective parts.objective)
            (over_fine m.sets (of_sets m spelled) m.objective_set placed.of_objective),
        placed_each (row_words names) m.sets
            (λ (r : model.Row). IsSpelled r.name × (IsReadable limit names r.left × IsReadable limit names r.right))
            (of_sets m spelled)
            (λ r h. (tt, (fine_name h.0, (tt, compares r.left r.relation r.right h.1.0 h.1.1)))) w.rows m.row_sets
            (pair_each (λ (r : model.Row). IsSpelled r.name) _ w.rows
            (each_written IsSpelled (written_count m) m.rows
            (named_each IsSpelled (λ (r : model.Row). r.name) m.rows (of_rows m spelled))) parts.rows)
            (placed.row_sets ∙ sym (length-map m.rows (row_written (written_count m)))) placed.of_rows,
      )))))
