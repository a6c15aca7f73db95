-- The statements of canonical lines have no name and no number at fault.
use Rattle.std.proofs.Common.{◌≡◌, ◌≢◌, ℕ, zero, suc, ◌^◌, ◌<◌, Bool, true, false, List, [], ◌∷◌, ◌++◌, length, map, get_or, refl, sym, ap, ◌∙◌, subst, arith, append-nil, append_assoc}
use Rattle.std.specs.Prelude.{◌&&◌, ◌||◌, not, ℤ, pos, negsuc, nat_abs, ◌<ℤ◌, Option, Some, None}
use Rattle.std.specs.List.{list_any, flat_map}
use Rattle.std.proofs.lemmas.Int.{ints}
use Rattle.rob_algebra.specs.Fraction.{Fraction, ◌<ℚ◌}
use Rattle.rob_algebra.specs.FractionPairs.{is_self}
use Rattle.rob_algebra.specs.PairOrder.{is_pos_out}
use Rattle.rob_lex.specs.declared.token.Kind.TheVariants as kind
use Rattle.rob_meaning.proofs.Lists.EachLemmas.{each_append}
use Rattle.rob_meaning.specs.Expressions as meaning
use Rattle.rob_meaning.specs.Named.{AreDistinct, HasDistinctMembers}
use Rattle.rob_meaning.specs.Places.{0ℚ, Each}
use Rattle.rob_meaning.specs.RobustModel as model
use Rattle.rob_meaning.specs.RobustModel.{RobustModel}
use Rattle.rob_meaning.specs.WellFormed.{IsMember, IsSetLine}
use Rattle.rob_parse.specs.Written.{parameter_number}
use Rattle.rob_rules.specs.Degrees.{sort_at}
use Rattle.rob_rules.specs.Faults.{has_twice, is_certain, is_decision, is_listing, is_of_set, is_over_none, is_set, is_usable, names_decision, over_of}
use Rattle.rob_rules.specs.Leaves.{bound_leaves, leaves, member_leaves, members_of, statement_leaves}
use Rattle.rob_rules.specs.declared.leaf.Leaf.{Leaf}
use Rattle.rob_rules.specs.declared.leaf.Leaf.TheVariants as leaf
use Rattle.rob_rules.specs.declared.sort.Sort.{Sort}
use Rattle.rob_rules.specs.declared.sort.Sort.TheVariants as sort
use Rattle.rob_syntax.specs.Grammar.{tree_expr}
use Rattle.rob_syntax.specs.Statements.{IsStatement, Line, Shares, Sides, adaptive, budget, goal, over, row, set, spell_line, spell_member, spell_name, spell_over, spell_rel, spell_sense, spell_sides, statement_of, uncertain, variable}
use Rattle.rob_index.specs.Reading.{one}
use Rattle.rob_syntax.specs.Symbols.{number_of, symbol_at}
use Rattle.rob_syntax.specs.Trees.{tree_of}
use Rattle.rob_syntax.specs.declared.symbol.Keyword.TheVariants as word
use Rattle.rob_syntax.specs.declared.symbol.Mark.TheVariants as mark
use Rattle.rob_syntax.specs.declared.symbol.Symbol.{Symbol}
use Rattle.rob_syntax.specs.declared.symbol.Symbol.TheVariants.{Name, Reserved, Sign}
use Rattle.rob_syntax.specs.declared.syntax.Member.{Member}
use Rattle.rob_syntax.specs.declared.syntax.Policy.{Policy as Rule}
use Rattle.rob_syntax.specs.declared.syntax.Statement.{Statement}
use Rattle.rob_write.specs.Pages.{Written, name as name_word, sign}
use Rattle.rob_write.specs.ExpressionWords.{Naming, expression_words, listed, name_at, number_words}
use Rattle.rob_write.specs.StatementWords.{adaptive_words, bound_words, comparison_words, declared_set_words, goal_words, member_words, over_words, parameter_words, relation_word, row_words, set_words, variable_words}
use Rattle.rob_round_trip.proofs.Faultless.FaultlessParts.{HasNoFault, parameters_only}
use Rattle.rob_round_trip.proofs.Faultless.FaultlessProducts.{none_of_both}
use Rattle.rob_round_trip.proofs.Faultless.FineLeaves.{IsFineLeaf, all_usable, all_within, fine_numeral, no_zero_divisor, not_zero}
use Rattle.rob_round_trip.proofs.Faultless.LeafNames.{names_in, names_in-append, names_in-names, once}
use Rattle.rob_round_trip.proofs.Faultless.ParameterWords.{no_decision, same_words, undecided}
use Rattle.rob_round_trip.proofs.Indexed.OwnStatements.{one_statement}
use Rattle.rob_round_trip.proofs.ReadBack.ExpressionText.{read_back, read_fine, symbols_append}
use Rattle.rob_round_trip.proofs.ReadBack.NumberText.{number_back, numeral_of}
use Rattle.rob_round_trip.proofs.ReadBack.StatementText.{bounds_back, bounds_of, list_back, member_of, member_spelled, parsed_sense, rel_of, rel_word, sense_word}
use Rattle.rob_round_trip.specs.Pages.{symbols_on}
use Rattle.rob_round_trip.specs.Readable.{AreKnown, IsBound, IsDeclarable, IsReadable, IsReadableMember, IsReadableSetLine, StandsFor}

name_back : (words : List (List ℕ)) (bytes : List ℕ) (rest : List Written)
    → symbol_at one words kind.Word bytes ≡ Name (number_of words bytes) ∷ []
    → symbols_on words (name_word bytes ∷ rest) ≡ Name (number_of words bytes) ∷ symbols_on words rest
name_back words bytes rest is = ap (λ (l : List Symbol). l ++ symbols_on words rest) is

-- ---- the lines of each kind
module _ (limit : ℕ) (small : limit < 2 ^ 62) (words : List (List ℕ)) (sorts : List (Option Sort)) where
  abbrev AreFine : List Leaf → Type 0
  AreFine = Each (IsFineLeaf limit sorts)

  -- the statement of a line is the one that is read of it, and has no fault where its names and numbers are fine
  line_faultless : (symbols : List Symbol) (l : Line) (s : Statement) → symbols ≡ spell_line l → IsStatement symbols s
      → AreFine (statement_leaves (statement_of l)) → is_over_none sorts (over_of (statement_of l)) ≡ false
      → list_any is_certain (members_of (statement_of l)) ≡ false
      → (is_listing (statement_of l) && has_twice (statement_leaves (statement_of l))) ≡ false
      → (is_of_set (statement_of l) && list_any (names_decision sorts) (statement_leaves (statement_of l))) ≡ false
      → HasNoFault limit sorts s
  line_faultless symbols l s spelled is fine known deviates apart decided =
      subst (HasNoFault limit sorts)
      (one_statement symbols (statement_of l) s (record { line = l; spelled = spelled; statement_is = refl }) is)
      (record {
        unknown = all_usable limit sorts (statement_leaves (statement_of l)) fine;
        set_known = known;
        over = all_within limit sorts (statement_leaves (statement_of l)) fine;
        deviation = deviates;
        divisor = no_zero_divisor limit sorts (statement_leaves (statement_of l)) fine;
        listed = apart;
        decision = decided;
      })

  bounds_fine : (l u : Option Fraction) → IsBound limit l → IsBound limit u → AreFine (bound_leaves (bounds_of l u))
  bounds_fine None None h k = tt
  bounds_fine (Some l) None h k = (fine_numeral limit l h, tt)
  bounds_fine None (Some u) h k = (fine_numeral limit u k, tt)
  bounds_fine (Some l) (Some u) h k = (fine_numeral limit l h, (fine_numeral limit u k, tt))

  pub parameter_faultless : (p : model.Parameter) → IsDeclarable words p.name
      → IsBound limit p.lower → IsBound limit p.upper
      → (s : Statement) → IsStatement (symbols_on words (parameter_words p)) s → HasNoFault limit sorts s
  parameter_faultless p d l u s is =
      line_faultless (symbols_on words (parameter_words p))
      (uncertain (record { name = number_of words p.name; bounds = bounds_of p.lower p.upper })) s
      (ap (λ (x : List Symbol). Reserved word.Uncertain ∷ x)
      (name_back words p.name (bound_words p.lower p.upper) d.is_name
      ∙ ap (λ (x : List Symbol). Name (number_of words p.name) ∷ x)
      (bounds_back limit small words p.lower p.upper l u)))
      is (bounds_fine p.lower p.upper l u) refl refl refl refl

  pub variable_faultless : (x : model.Variable) → IsDeclarable words x.name
      → IsBound limit x.lower → IsBound limit x.upper
      → (s : Statement) → IsStatement (symbols_on words (variable_words x)) s → HasNoFault limit sorts s
  variable_faultless x d l u s is =
      line_faultless (symbols_on words (variable_words x))
      (variable (record { name = number_of words x.name; bounds = bounds_of x.lower x.upper })) s
      (ap (λ (y : List Symbol). Reserved word.Var ∷ y)
      (name_back words x.name (bound_words x.lower x.upper) d.is_name
      ∙ ap (λ (y : List Symbol). Name (number_of words x.name) ∷ y)
      (bounds_back limit small words x.lower x.upper l u)))
      is (bounds_fine x.lower x.upper l u) refl refl refl refl

  pub declared_set_faultless : (n : List ℕ) → IsDeclarable words n
      → (s : Statement) → IsStatement (symbols_on words (declared_set_words n)) s → HasNoFault limit sorts s
  declared_set_faultless n d s is =
      line_faultless (symbols_on words (declared_set_words n)) (over (number_of words n)) s
      (ap (λ (x : List Symbol). Reserved word.Over ∷ x) (name_back words n [] d.is_name)) is tt refl refl refl refl

  -- ---- the set that a line answers to
  pub record IsAnswer (sets : List (List ℕ)) (S : ℕ) : Type 0 where
    pub over : Option ℕ
    pub spelled : symbols_on words (over_words sets S) ≡ spell_over over
    pub known : is_over_none sorts over ≡ false

  pub answer_of : (sets : List (List ℕ))
      → ((k : ℕ) → k < length sets → StandsFor words sorts (get_or sets k []) (sort.Set (suc k)))
      → (S : ℕ) → S < suc (length sets) → IsAnswer sets S
  answer_of sets stands zero h = record { over = None; spelled = refl; known = refl }
  answer_of sets stands (suc S) h =
      let is = stands S (omega arith) in
      record {
        over = Some (number_of words (get_or sets S []));
        spelled =
            ap (λ (l : List Symbol). Reserved word.Over ∷ l) (name_back words (get_or sets S []) [] is.is_name);
        known = ap (λ (o : Option Sort). not (is_set o)) is.sort_is;
      }

  -- ---- two sides, whose names are these
  module _ (few : Naming) (known : AreKnown words sorts few) (left : meaning.Expression) (relation : model.Relation)
      (right : meaning.Expression) (h : IsReadable limit few left) (k : IsReadable limit few right)
      (sets : List (List ℕ)) (S : ℕ) (a : IsAnswer sets S) where
    abbrev the_sides : Sides
    the_sides = record {
      left = (read_back limit small words sorts few known left h).item;
      rel = rel_of relation;
      right = record { inner = (read_back limit small words sorts few known right k).item; over = a.over };
    }

    sides_spelled : symbols_on words (comparison_words few left relation right ++ over_words sets S)
        ≡ spell_sides the_sides
    sides_spelled =
        let end = over_words sets S in
        let l = read_back limit small words sorts few known left h in
        let r = read_back limit small words sorts few known right k in
        ap (symbols_on words)
        (append_assoc (expression_words few left) (relation_word relation ∷ expression_words few right) end)
        ∙ symbols_append words (expression_words few left)
        (relation_word relation ∷ (expression_words few right ++ end))
        ∙ (λ i. l.spelled i ++ (rel_word words relation (expression_words few right ++ end)
        ∙ ap (λ (x : List Symbol). spell_rel (rel_of relation) ∷ x)
        (symbols_append words (expression_words few right) end ∙ (λ j. r.spelled j ++ a.spelled j))) i)

    sides_fine : AreFine (statement_leaves (statement_of (set the_sides)))
    sides_fine =
        each_append (IsFineLeaf limit sorts)
        (leaves (tree_of (tree_expr (read_back limit small words sorts few known left h).item)))
        (leaves (tree_of (tree_expr (read_back limit small words sorts few known right k).item)))
        (read_fine limit small words sorts few known left h) (read_fine limit small words sorts few known right k)

  -- ---- lines over all names
  module _ (names : Naming) (known : AreKnown words sorts names) where
    pub goal_faultless : (sense : model.Sense) (objective : meaning.Expression) → IsReadable limit names objective
        → (S : ℕ) → IsAnswer names.sets S
        → (s : Statement)
        → IsStatement (symbols_on words (goal_words names sense objective ++ over_words names.sets S)) s
        → HasNoFault limit sorts s
    goal_faultless sense objective h S a s is =
        let end = over_words names.sets S in
        let back = read_back limit small words sorts names known objective h in
        line_faultless (symbols_on words (goal_words names sense objective ++ end))
        (goal (parsed_sense sense) (record { inner = back.item; over = a.over })) s
        (sense_word words sense (expression_words names objective ++ end)
        ∙ ap (λ (x : List Symbol). spell_sense (parsed_sense sense) ∷ x)
        (symbols_append words (expression_words names objective) end ∙ (λ i. back.spelled i ++ a.spelled i)))
        is (read_fine limit small words sorts names known objective h) a.known refl refl refl

    pub row_faultless : (r : model.Row) → IsDeclarable words r.name → IsReadable limit names r.left
        → IsReadable limit names r.right → (S : ℕ) → IsAnswer names.sets S
        → (s : Statement) → IsStatement (symbols_on words (row_words names r ++ over_words names.sets S)) s
        → HasNoFault limit sorts s
    row_faultless r d h k S a s is =
        let sides = the_sides names known r.left r.relation r.right h k names.sets S a in
        line_faultless (symbols_on words (row_words names r ++ over_words names.sets S))
        (row (record { name = number_of words r.name; sides = sides })) s
        (ap (λ (x : List Symbol). Reserved word.Row ∷ x)
        (name_back words r.name
        (sign mark.Colon ∷ (comparison_words names r.left r.relation r.right ++ over_words names.sets S)) d.is_name
        ∙ ap (λ (x : List Symbol). Name (number_of words r.name) ∷ Sign mark.Colon ∷ x)
        (sides_spelled names known r.left r.relation r.right h k names.sets S a)))
        is (sides_fine names known r.left r.relation r.right h k names.sets S a) a.known refl refl refl

  -- ---- lines over the parameters
  module _ (names : Naming) (known : AreKnown words sorts (parameters_only names)) where
    -- the number of a parameter's name among the words
    abbrev number_at : ℕ → ℕ
    number_at k = number_of words (get_or names.parameters k [])

    -- it is found again from its name
    number_back_at : (k : ℕ) → k < length names.parameters → parameter_number (sort_at sorts (number_at k)) ≡ k
    number_back_at k h = ap parameter_number (known.parameters k h).sort_is

    others : (k : ℕ) (js : List ℕ) → k < length names.parameters → Each (λ j. j < length names.parameters) js
        → Each (λ j. k ≢ j) js → Each (λ j. number_at k ≢ j) (map number_at js)
    others k [] inside all h = tt
    others k (j ∷ js) inside all h = (
      (λ same. h.0
          (sym (number_back_at k inside) ∙ ap (λ (n : ℕ). parameter_number (sort_at sorts n)) same
          ∙ number_back_at j all.0)),
      others k js inside all.1 h.1,
    )

    -- distinct parameters have distinct names
    distinct : (js : List ℕ) → Each (λ j. j < length names.parameters) js → AreDistinct js
        → AreDistinct (map number_at js)
    distinct [] all h = tt
    distinct (j ∷ js) all h = (others j js all.0 all.1 h.0, distinct js all.1 h.1)

    -- ---- statements on the set
    -- the member is readable, and its deviation is positive
    abbrev IsFull : model.Member → Type 0
    IsFull h = IsReadableMember limit (parameters_only names) h × (0ℚ <ℚ h.deviation)

    full : (m : RobustModel) (hs : List model.Member) → Each (IsReadableMember limit names) hs → Each (IsMember m) hs
        → Each IsFull hs
    full m [] a b = tt
    full m (h ∷ hs) a b = (
      (record { parameter = a.0.parameter; centre = a.0.centre; deviation = a.0.deviation }, b.0.1),
      full m hs a.1 b.1,
    )

    readable_each : (hs : List model.Member) → Each IsFull hs → Each (IsReadableMember limit (parameters_only names)) hs
    readable_each [] all = tt
    readable_each (h ∷ hs) all = (all.0.0, readable_each hs all.1)

    inside_each : (hs : List model.Member) → Each IsFull hs
        → Each (λ j. j < length names.parameters) (map (λ (h : model.Member). h.parameter) hs)
    inside_each [] all = tt
    inside_each (h ∷ hs) all = (all.0.0.parameter, inside_each hs all.1)

    -- the member that is read
    abbrev read_member : model.Member → Member
    read_member = member_of limit small words sorts (parameters_only names) known

    members_fine : (hs : List model.Member) → Each IsFull hs → AreFine (flat_map member_leaves (map read_member hs))
    members_fine [] all = tt
    members_fine (h ∷ hs) all = (
      ap is_usable (known.parameters h.parameter all.0.0.parameter).sort_is,
      (
        fine_numeral limit h.centre all.0.0.centre,
        (fine_numeral limit h.deviation all.0.0.deviation.0, members_fine hs all.1),
      ),
    )

    some_size : (z : ℤ) → pos 0 <ℤ z → 0 < nat_abs z
    some_size (pos n) h = omega (arith, ints)
    some_size (negsuc n) h = absurd (omega (arith, ints))

    members_deviate : (hs : List model.Member) → Each IsFull hs → list_any is_certain (map read_member hs) ≡ false
    members_deviate [] all = refl
    members_deviate (h ∷ hs) all =
        ap (λ (b : Bool). b || list_any is_certain (map read_member hs))
        (not_zero (nat_abs h.deviation.num) (some_size h.deviation.num (is_pos_out (is_self h.deviation) all.0.1)))
        ∙ members_deviate hs all.1

    members_named : (hs : List model.Member) → names_in (flat_map member_leaves (map read_member hs))
        ≡ map number_at (map (λ (h : model.Member). h.parameter) hs)
    members_named [] = refl
    members_named (h ∷ hs) = ap (λ (l : List ℕ). number_at h.parameter ∷ l) (members_named hs)

    undecided_at : (k : ℕ) → k < length names.parameters → is_decision (sort_at sorts (number_at k)) ≡ false
    undecided_at k h = ap is_decision (known.parameters k h).sort_is

    members_undecided : (hs : List model.Member) → Each IsFull hs
        → list_any (names_decision sorts) (flat_map member_leaves (map read_member hs)) ≡ false
    members_undecided [] all = refl
    members_undecided (h ∷ hs) all =
        ap (λ (b : Bool). b || list_any (names_decision sorts) (flat_map member_leaves (map read_member hs)))
        (undecided_at h.parameter all.0.0.parameter)
        ∙ members_undecided hs all.1

    pub set_faultless : (m : RobustModel) (c : model.SetLine) → IsReadableSetLine limit names c → IsSetLine m c
        → HasDistinctMembers c → (S : ℕ) → IsAnswer names.sets S
        → (s : Statement) → IsStatement (symbols_on words (set_words names c ++ over_words names.sets S)) s
        → HasNoFault limit sorts s
    set_faultless m (model.line left r right) h of_set apart S a s is =
        let few = parameters_only names in
        let l = no_decision limit names m left h.0 of_set.0.1 in
        let k = no_decision limit names m right h.1 of_set.1.1 in
        let end = over_words names.sets S in
        let one = read_back limit small words sorts few known left l in
        let two = read_back limit small words sorts few known right k in
        line_faultless (symbols_on words (set_words names (model.line left r right) ++ end))
        (set (the_sides few known left r right l k names.sets S a)) s
        (ap (λ (x : List Symbol). Reserved word.Set ∷ x)
        ((λ i. symbols_on words
        ((same_words limit names left l i ++ relation_word r ∷ same_words limit names right k i) ++ end))
        ∙ sides_spelled few known left r right l k names.sets S a))
        is (sides_fine few known left r right l k names.sets S a) a.known refl refl
        (none_of_both (names_decision sorts) (leaves (tree_of (tree_expr one.item)))
        (leaves (tree_of (tree_expr two.item)))
        (undecided limit sorts names (tree_of (tree_expr one.item)) (subst (IsReadable limit few) (sym one.tree_is) l))
        (undecided limit sorts names (tree_of (tree_expr two.item)) (subst (IsReadable limit few) (sym two.tree_is) k)))
    set_faultless m (model.budget bound []) h of_set apart S a s is = absurd h
    set_faultless m (model.budget bound (x ∷ xs)) h of_set apart S a s is =
        let few = parameters_only names in
        let all = full m (x ∷ xs) h.1 of_set in
        let members = listed (member_words few) true (x ∷ xs) in
        let end = over_words names.sets S in
        let shares : Shares = record {
          limit = numeral_of bound;
          members = record { first = read_member x; more = map read_member xs; over = a.over };
        } in
        line_faultless (symbols_on words (set_words names (model.budget bound (x ∷ xs)) ++ end)) (budget shares) s
        (ap (λ (l : List Symbol). Reserved word.Budget ∷ l)
        (ap (symbols_on words) (append_assoc (number_words bound) (sign mark.Colon ∷ members) end)
        ∙ symbols_append words (number_words bound) (sign mark.Colon ∷ (members ++ end))
        ∙ (λ i. number_back limit words bound small h.0.0 h.0.1 i ++ Sign mark.Colon
        ∷ (symbols_append words members end
        ∙ (λ j. list_back limit small words sorts few known (member_words few) spell_member read_member
        (IsReadableMember limit few) (member_spelled limit small words sorts few known) (x ∷ xs)
        (readable_each (x ∷ xs) all) j
        ++ a.spelled j)) i)))
        is (fine_numeral limit bound h.0.0, members_fine (x ∷ xs) all) a.known (members_deviate (x ∷ xs) all)
        (once (flat_map member_leaves (map read_member (x ∷ xs)))
        (subst AreDistinct (sym (members_named (x ∷ xs)))
        (distinct (map (λ (y : model.Member). y.parameter) (x ∷ xs)) (inside_each (x ∷ xs) all) apart)))
        (members_undecided (x ∷ xs) all)

    -- ---- adaptive variables
    names_fine : (ks : List ℕ) → Each (λ k. k < length names.parameters) ks
        → AreFine (map leaf.Name (map number_at ks))
    names_fine [] all = tt
    names_fine (k ∷ ks) all = (ap is_usable (known.parameters k all.0).sort_is, names_fine ks all.1)

    names_undecided : (ks : List ℕ) → Each (λ k. k < length names.parameters) ks
        → list_any (names_decision sorts) (map leaf.Name (map number_at ks)) ≡ false
    names_undecided [] all = refl
    names_undecided (k ∷ ks) all =
        ap (λ (b : Bool). b || list_any (names_decision sorts) (map leaf.Name (map number_at ks)))
        (undecided_at k all.0)
        ∙ names_undecided ks all.1

    bounds_nameless : (l u : Option Fraction) → names_in (bound_leaves (bounds_of l u)) ≡ []
    bounds_nameless None None = refl
    bounds_nameless (Some l) None = refl
    bounds_nameless None (Some u) = refl
    bounds_nameless (Some l) (Some u) = refl

    bounds_undecided : (l u : Option Fraction) → list_any (names_decision sorts) (bound_leaves (bounds_of l u)) ≡ false
    bounds_undecided None None = refl
    bounds_undecided (Some l) None = refl
    bounds_undecided None (Some u) = refl
    bounds_undecided (Some l) (Some u) = refl

    pub adaptive_faultless : (y : model.AdaptiveVariable) → IsDeclarable words y.name
        → Each (λ k. k < length names.parameters) y.on → AreDistinct y.on
        → IsBound limit y.lower → IsBound limit y.upper
        → (s : Statement) → IsStatement (symbols_on words (adaptive_words names y)) s → HasNoFault limit sorts s
    adaptive_faultless y d all apart l u s is =
        let few = parameters_only names in
        let write : ℕ → List Written = λ k. name_at names.parameters k ∷ [] in
        let on = map number_at y.on in
        let rest = bound_leaves (bounds_of y.lower y.upper) in
        let policy : Rule = record { name = number_of words y.name; on = on; bounds = bounds_of y.lower y.upper } in
        line_faultless (symbols_on words (adaptive_words names y)) (adaptive policy) s
        (ap (λ (x : List Symbol). Reserved word.Adaptive ∷ x)
        (name_back words y.name
        (sign mark.Open ∷ (listed write true y.on ++ sign mark.Close ∷ bound_words y.lower y.upper)) d.is_name
        ∙ ap (λ (x : List Symbol). Name (number_of words y.name) ∷ Sign mark.Open ∷ x)
        (symbols_append words (listed write true y.on) (sign mark.Close ∷ bound_words y.lower y.upper)
        ∙ (λ i. list_back limit small words sorts few known write spell_name number_at
        (λ k. k < length names.parameters)
        (λ k h. name_back words (get_or names.parameters k []) [] (known.parameters k h).is_name) y.on all i
        ++ Sign mark.Close ∷ bounds_back limit small words y.lower y.upper l u i))))
        is
        (each_append (IsFineLeaf limit sorts) (map leaf.Name on) rest (names_fine y.on all)
        (bounds_fine y.lower y.upper l u))
        refl refl
        (once (map leaf.Name on ++ rest)
        (subst AreDistinct
        (sym (names_in-append (map leaf.Name on) rest
        ∙ (λ i. names_in-names on i ++ bounds_nameless y.lower y.upper i) ∙ append-nil on))
        (distinct y.on all apart)))
        (none_of_both (names_decision sorts) (map leaf.Name on) rest (names_undecided y.on all)
        (bounds_undecided y.lower y.upper))
