-- What is known in front of each canonical line of a model.
use Rattle.std.proofs.Common.{◌≡◌, ℕ, suc, ◌+◌, ◌^◌, ◌<◌, true, false, List, [], ◌∷◌, ◌++◌, length, map, get_or, refl, sym, ap, ◌∙◌, subst, arith}
use Rattle.std.specs.Prelude.{Option, Some}
use Rattle.rob_meaning.proofs.Lists.EachLemmas.{each_append, each_map, each_both}
use Rattle.rob_meaning.specs.Named.{AreDistinct, IsNamed, HasDistinctMembers, declared_names, written_names}
use Rattle.rob_meaning.specs.Places.{Each}
use Rattle.rob_meaning.specs.RobustModel as model
use Rattle.rob_meaning.specs.RobustModel.{RobustModel, written_count, written_parameters}
use Rattle.std.proofs.lemmas.List.{length-map}
use Rattle.rob_meaning.specs.WellFormed.{IsModel, IsSetLine}
use Rattle.rob_rules.specs.declared.sort.Sort.{Sort}
use Rattle.rob_rules.specs.declared.sort.Sort.TheVariants as sort
use Rattle.rob_rules.specs.declared.sort.Sort.TheVariants.{Parameter, Decision, Policy, RowName}
use Rattle.rob_syntax.specs.declared.symbol.Symbol.{Symbol}
use Rattle.rob_syntax.specs.declared.syntax.Statement.{Statement}
use Rattle.rob_syntax.specs.declared.syntax.Statement.TheVariants as parsed
use Rattle.rob_write.specs.WrittenModel.{line_written, row_written, written_model}
use Rattle.rob_write.specs.ExpressionWords.{Naming, naming_of}
use Rattle.rob_write.specs.StatementWords.{beside, declared_set_words, over_words, placed_words, parameter_words, variable_words, adaptive_words, set_words, row_words}
use Rattle.rob_write.specs.Canonical.{lines_of}
use Rattle.rob_parse.specs.Written.{goal_in}
use Rattle.rob_round_trip.specs.Pages.{symbols_on}
use Rattle.rob_syntax.specs.Names.{IsSpelled}
use Rattle.rob_round_trip.specs.Readable.{IsBound, IsReadable, IsReadableSetLine, IsReadableModel, IsDeclarable, AreDeclarable}
use Rattle.rob_rules.specs.Scopes.{Earlier, start, behind, has_some, is_goal}
use Rattle.rob_syntax.specs.Symbols.{number_of}
use Rattle.rob_round_trip.proofs.Faultless.CanonicalScopes.{AreFresh, Kept, behind_sets, kept_more, noted, numbered, sets_declared, sets_stand, kept_noted, AllFresh, all_fresh, behind_parameters, behind_variables, behind_adaptives, canonical_sorts, no_sorts, variables_declared, parameters_known, all_known}
use Rattle.rob_round_trip.proofs.Faultless.SaidLines.{parameter_said, declared_set_said, variable_said, set_said, adaptive_said, row_said}
use Rattle.rob_round_trip.proofs.Faultless.CanonicalWalk.{Walk, walk_append, walk_kind, IsNewThere, IsFirstGoal, Block, block, plain_block}
use Rattle.rob_rules.specs.Stages.{behind_all}
use Rattle.rob_round_trip.proofs.Faultless.FaultlessParts.{HasNoFaultBehind}
use Rattle.rob_round_trip.proofs.Faultless.FaultlessStatements.{answer_of, declared_set_faultless, parameter_faultless, variable_faultless, set_faultless, adaptive_faultless, goal_faultless, row_faultless}
use Rattle.rob_round_trip.proofs.ReadBack.LinesText.{rows_declarable}
use Rattle.rob_round_trip.proofs.Faultless.CanonicalParts.{behind_append, goal_later, GoalIs, no_goal_is, any_each, each_place, each_beside, numbers_beside, rows_numbered, set_lines_of, goal_line_of, row_lines_of, Parted, joined}

module _ (limit : ℕ) (words : List (List ℕ)) (m : RobustModel) (d : AreDeclarable words m)
    (spelled : Each IsSpelled (declared_names m)) (named : IsNamed m)
    (readable : IsReadableModel limit (naming_of m) m) where
  fresh : AllFresh words m
  fresh = all_fresh words m d spelled named.distinct

  module _ (list : List Statement) (p : Parted words m list) where
    abbrev first : Earlier
    first = start (length words)

    abbrev second : Earlier
    second = behind_all first p.of_parameters

    abbrev named_behind : Earlier
    named_behind = behind_all second p.of_names

    abbrev third : Earlier
    third = behind_all named_behind p.of_set

    abbrev fourth : Earlier
    fourth = behind_all third p.of_variables

    abbrev fifth : Earlier
    fifth = behind_all fourth p.of_adaptives

    abbrev sixth : Earlier
    sixth = behind fifth (parsed.Goal p.wish)

    abbrev last : Earlier
    last = behind_all sixth p.of_rows

    abbrev statements : List Statement
    statements = joined words m list p

    parameter_block : Block words first (map parameter_words (written_parameters m)) p.of_parameters
        (behind_parameters words m)
        × ((j : ℕ) × ((second.sizes.parameters ≡ j) × (second.sizes.sets ≡ 0) × (second.sizes.variables ≡ 0)
        × (second.sizes.adaptives ≡ 0)))
    parameter_block =
        block words (λ (x : model.Parameter). x.name) (λ k x. Parameter k) parameter_words
        (λ k n. (n.parameters ≡ k) × (n.sets ≡ 0) × (n.variables ≡ 0) × (n.adaptives ≡ 0))
        (λ (x : model.Parameter). IsDeclarable words x.name)
        (λ z s q is k n at.
        let x = parameter_said words z s q is in (
          x.declares n ∙ ap (λ (j : ℕ). Some (number_of words z.name, Parameter j)) at.0,
          (
            omega (arith, x.parameters n, at.0),
            omega (arith, x.sets n, at.1),
            omega (arith, x.variables n, at.2),
            omega (arith, x.adaptives n, at.3),
          ),
          x.plain,
        ))
        (written_parameters m) 0 (no_sorts words m) first p.of_parameters refl (refl, refl, refl, refl) d.parameters
        p.parameters fresh.parameters

    name_block : Block words second (map declared_set_words m.sets) p.of_names (behind_sets words m)
        × ((j : ℕ) × ((named_behind.sizes.sets ≡ j) × (named_behind.sizes.variables ≡ 0)
        × (named_behind.sizes.adaptives ≡ 0)))
    name_block =
        block words (λ (n : List ℕ). n) (λ k n. sort.Set (k + 1)) declared_set_words
        (λ k n. (n.sets ≡ k) × (n.variables ≡ 0) × (n.adaptives ≡ 0)) (IsDeclarable words)
        (λ z s q is k n at.
        let x = declared_set_said words z s q is in (
          x.declares n ∙ ap (λ (j : ℕ). Some (number_of words z, sort.Set (j + 1))) at.0,
          (omega (arith, x.sets n, at.0), omega (arith, x.variables n, at.1), omega (arith, x.adaptives n, at.2)),
          x.plain,
        ))
        m.sets 0 (behind_parameters words m) second p.of_names parameter_block.0.sorts_are
        (parameter_block.1.1.1, parameter_block.1.1.2, parameter_block.1.1.3) d.sets p.names fresh.sets

    set_block : Block words named_behind (set_lines_of m) p.of_set (behind_sets words m)
        × ((third.sizes.variables ≡ 0) × (third.sizes.adaptives ≡ 0))
    set_block =
        plain_block words (placed_words (set_words (naming_of m)) m.sets)
        (λ n. (n.variables ≡ 0) × (n.adaptives ≡ 0)) (λ z. Unit {0})
        (λ z s q is n at. let x = set_said words (naming_of m) z.0 (over_words m.sets z.1) s is in
        (x.declares n, (omega (arith, x.variables n, at.0), omega (arith, x.adaptives n, at.1)), x.plain))
        (beside (written_model m).set_lines m.line_sets) (behind_sets words m) named_behind p.of_set
        name_block.0.sorts_are (name_block.1.1.1, name_block.1.1.2)
        (any_each (beside (written_model m).set_lines m.line_sets)) p.set

    variable_block : Block words third (map variable_words m.variables) p.of_variables (behind_variables words m)
        × ((j : ℕ) × ((fourth.sizes.variables ≡ j) × (fourth.sizes.adaptives ≡ 0)))
    variable_block =
        block words (λ (x : model.Variable). x.name) (λ k x. Decision k) variable_words
        (λ k n. (n.variables ≡ k) × (n.adaptives ≡ 0))
        (λ (x : model.Variable). IsDeclarable words x.name)
        (λ z s q is k n at.
        let x = variable_said words z s q is in (
          x.declares n ∙ ap (λ (j : ℕ). Some (number_of words z.name, Decision j)) at.0,
          (omega (arith, x.variables n, at.0), omega (arith, x.adaptives n, at.1)),
          x.plain,
        ))
        m.variables 0 (behind_sets words m) third p.of_variables set_block.0.sorts_are set_block.1 d.variables
        p.variables fresh.variables

    list_declarable : (on : List ℕ) → Each (λ k. k < length (written_names m)) on
        → Each (λ k. IsDeclarable words (get_or (written_names m) k [])) on
    list_declarable on h =
        each_map (λ k. k < length (written_names m)) (λ k. IsDeclarable words (get_or (written_names m) k []))
        (λ k inside. each_place (IsDeclarable words) (λ (x : model.Parameter). x.name) (written_parameters m)
        d.parameters k inside) on h

    abbrev HasNames : model.AdaptiveVariable → Type 0
    HasNames y = IsDeclarable words y.name × Each (λ k. k < length (written_names m)) y.on

    have_names : Each HasNames m.adaptives
    have_names =
        each_both (λ (y : model.AdaptiveVariable). IsDeclarable words y.name)
        (λ (y : model.AdaptiveVariable). Each (λ k. k < length (written_names m)) y.on
        × (IsBound limit y.lower × IsBound limit y.upper)) HasNames
        (λ y a b. (a, b.0)) m.adaptives d.adaptives readable.parts.adaptives

    adaptive_block : Block words fourth (map (adaptive_words (naming_of m)) m.adaptives) p.of_adaptives
        (behind_adaptives words m) × ((j : ℕ) × (fifth.sizes.adaptives ≡ j))
    adaptive_block =
        block words (λ (y : model.AdaptiveVariable). y.name) (λ k y. Policy k (has_some y.on))
        (adaptive_words (naming_of m)) (λ k n. n.adaptives ≡ k) HasNames
        (λ z s q is k n at.
        let x = adaptive_said words (naming_of m) z s q.0 (list_declarable z.on q.1) is in (
          x.declares n ∙ ap (λ (j : ℕ). Some (number_of words z.name, Policy j (has_some z.on))) at,
          omega (arith, x.adaptives n, at),
          x.plain,
        ))
        m.adaptives 0 (behind_variables words m) fourth p.of_adaptives variable_block.0.sorts_are variable_block.1.1.1
        have_names p.adaptives fresh.adaptives

    fresh_rows : AreFresh (behind_adaptives words m)
        (numbered words (λ (z : model.Row × ℕ). z.0.name) (λ k z. RowName) 0 (beside (written_model m).rows m.row_sets))
    fresh_rows =
        subst (AreFresh (behind_adaptives words m))
        (sym (rows_numbered words (written_count m) 0 m.rows m.row_sets)) fresh.rows

    row_block : Block words sixth (row_lines_of m) p.of_rows (canonical_sorts words m) × ((j : ℕ) × Unit {0})
    row_block =
        let pairs = beside (written_model m).rows m.row_sets in
        let r = block words (λ (z : model.Row × ℕ). z.0.name) (λ k z. RowName)
        (placed_words (row_words (naming_of m)) m.sets) (λ k n. Unit {0})
        (λ (z : model.Row × ℕ). IsDeclarable words z.0.name)
        (λ z s q is k n at. let x = row_said words (naming_of m) z.0 (over_words m.sets z.1) s q is in
        (x.declares n, tt, x.plain))
        pairs 0 (behind_adaptives words m) sixth p.of_rows adaptive_block.0.sorts_are tt
        (each_beside (λ (r : model.Row). IsDeclarable words r.name) (written_model m).rows m.row_sets
        (rows_declarable words (written_count m) m.rows d.rows)) p.rows fresh_rows in (
          subst (λ (ds : List (ℕ × Sort)).
              Block words sixth (row_lines_of m) p.of_rows (noted (behind_adaptives words m) ds))
              (rows_numbered words (written_count m) 0 m.rows m.row_sets) r.0,
          r.1,
        )

    -- a property of all lines, kind by kind
    along : (P : Earlier → List Symbol → Statement → Type 0)
        → Walk words P first (map parameter_words (written_parameters m)) p.of_parameters
        → Walk words P second (map declared_set_words m.sets) p.of_names
        → Walk words P named_behind (set_lines_of m) p.of_set
        → Walk words P third (map variable_words m.variables) p.of_variables
        → Walk words P fourth (map (adaptive_words (naming_of m)) m.adaptives) p.of_adaptives
        → P fifth (symbols_on words (goal_line_of m)) (parsed.Goal p.wish)
        → Walk words P sixth (row_lines_of m) p.of_rows
        → Walk words P first (lines_of m) statements
    along P a h b c e g r =
        walk_append words P first (map parameter_words (written_parameters m)) _ p.of_parameters _ a
        (walk_append words P second (map declared_set_words m.sets) _ p.of_names _ h
        (walk_append words P named_behind (set_lines_of m) _ p.of_set _ b
        (walk_append words P third (map variable_words m.variables) _ p.of_variables _ c
        (walk_append words P fourth (map (adaptive_words (naming_of m)) m.adaptives)
        (goal_line_of m ∷ row_lines_of m) p.of_adaptives
        (parsed.Goal p.wish ∷ p.of_rows) e (g, r)))))

    -- each declared name is new
    pub all_new : Walk words (IsNewThere words) first (lines_of m) statements
    all_new = along (IsNewThere words) parameter_block.0.new name_block.0.new set_block.0.new variable_block.0.new
        adaptive_block.0.new refl row_block.0.new

    -- no goal stands in front of the goal
    no_goal : fifth.goal ≡ false
    no_goal = adaptive_block.0.goal_is ∙ variable_block.0.goal_is ∙ set_block.0.goal_is ∙ name_block.0.goal_is
        ∙ parameter_block.0.goal_is

    pub one_goal : Walk words (IsFirstGoal words) first (lines_of m) statements
    one_goal = along (IsFirstGoal words) parameter_block.0.goals name_block.0.goals set_block.0.goals
        variable_block.0.goals adaptive_block.0.goals no_goal row_block.0.goals

    pub goal_found : goal_in statements ≡ Some p.wish
    goal_found =
        goal_later p.of_parameters _ parameter_block.0.plain ∙ goal_later p.of_names _ name_block.0.plain
        ∙ goal_later p.of_set _ set_block.0.plain ∙ goal_later p.of_variables _ variable_block.0.plain
        ∙ goal_later p.of_adaptives (parsed.Goal p.wish ∷ p.of_rows) adaptive_block.0.plain

    pub goals_are : Each (GoalIs p.wish) statements
    goals_are =
        let of : (a b : List Statement) → Each (λ s. is_goal s ≡ false) a → Each (GoalIs p.wish) b
        → Each (GoalIs p.wish) (a ++ b) =
        λ a b plain rest. each_append (GoalIs p.wish) a b
        (each_map (λ s. is_goal s ≡ false) (GoalIs p.wish) (no_goal_is p.wish) a plain) rest in
        of p.of_parameters _ parameter_block.0.plain
        (of p.of_names _ name_block.0.plain
        (of p.of_set _ set_block.0.plain
        (of p.of_variables _ variable_block.0.plain
        (of p.of_adaptives (parsed.Goal p.wish ∷ p.of_rows) adaptive_block.0.plain
        (refl, each_map (λ s. is_goal s ≡ false) (GoalIs p.wish) (no_goal_is p.wish) p.of_rows row_block.0.plain)))))

    -- what is known behind the last line
    pub last_is : behind_all first statements ≡ last
    last_is =
        behind_append first p.of_parameters _ ∙ behind_append second p.of_names _
        ∙ behind_append named_behind p.of_set _ ∙ behind_append third p.of_variables _
        ∙ behind_append fourth p.of_adaptives (parsed.Goal p.wish ∷ p.of_rows)

    pub sorts_are : (behind_all first statements).sorts ≡ canonical_sorts words m
    sorts_are = ap (λ (x : Earlier). x.sorts) last_is ∙ row_block.0.sorts_are

    pub goal_is : (behind_all first statements).goal ≡ true
    goal_is = ap (λ (x : Earlier). x.goal) last_is ∙ row_block.0.goal_is

    -- ---- no name and no number of a line is at fault
    module _ (small : limit < 2 ^ 62) (good : IsModel (written_model m))
        (once : Each HasDistinctMembers (written_model m).set_lines) where
      kept_as : (a b c : List (Option Sort)) → Kept a b → c ≡ b → Kept a c
      kept_as a b c kept same = subst (Kept a) (sym same) kept

      abbrev w : RobustModel
      w = written_model m

      abbrev names : Naming
      names = naming_of m

      abbrev IsFineSet : model.SetLine × ℕ → Type 0
      IsFineSet z = (IsReadableSetLine limit names z.0 × IsSetLine w z.0 × HasDistinctMembers z.0)
          × (z.1 < suc (length m.sets))

      fine_set : Each IsFineSet (beside w.set_lines m.line_sets)
      fine_set =
          let both : model.SetLine → Type 0 =
          λ c. IsReadableSetLine limit names c × IsSetLine w c × HasDistinctMembers c in
          each_both (λ (z : model.SetLine × ℕ). both z.0) (λ (z : model.SetLine × ℕ). z.1 < suc (length m.sets))
          IsFineSet (λ z a b. (a, b)) (beside w.set_lines m.line_sets)
          (each_beside both w.set_lines m.line_sets
          (each_both (λ c. IsReadableSetLine limit names c × IsSetLine w c) HasDistinctMembers both
          (λ c a b. (a.0, a.1, b)) w.set_lines
          (each_both (IsReadableSetLine limit names) (IsSetLine w)
          (λ c. IsReadableSetLine limit names c × IsSetLine w c) (λ c a b. (a, b)) w.set_lines
          readable.parts.set_lines good.set_lines)
          once))
          (numbers_beside (suc (length m.sets)) w.set_lines m.line_sets
          (readable.placed.line_sets ∙ sym (length-map m.set_lines (line_written (written_count m))))
          readable.placed.of_lines)

      abbrev IsFineAdaptive : model.AdaptiveVariable → Type 0
      IsFineAdaptive y =
          IsDeclarable words y.name
          × (Each (λ k. k < length (written_names m)) y.on × (IsBound limit y.lower × IsBound limit y.upper))
          × AreDistinct y.on

      fine_adaptives : Each IsFineAdaptive m.adaptives
      fine_adaptives =
          let of_lists : model.AdaptiveVariable → Type 0 =
          λ y. Each (λ k. k < length (written_names m)) y.on × (IsBound limit y.lower × IsBound limit y.upper) in
          each_both (λ (y : model.AdaptiveVariable). IsDeclarable words y.name × of_lists y)
          (λ (y : model.AdaptiveVariable). AreDistinct y.on) IsFineAdaptive (λ y a b. (a.0, a.1, b)) m.adaptives
          (each_both (λ (y : model.AdaptiveVariable). IsDeclarable words y.name) of_lists
          (λ y. IsDeclarable words y.name × of_lists y) (λ y a b. (a, b)) m.adaptives d.adaptives
          readable.parts.adaptives)
          named.lists

      abbrev IsFineRow : model.Row × ℕ → Type 0
      IsFineRow z = (IsDeclarable words z.0.name × (IsReadable limit names z.0.left × IsReadable limit names z.0.right))
          × (z.1 < suc (length m.sets))

      fine_rows : Each IsFineRow (beside w.rows m.row_sets)
      fine_rows =
          let sound : model.Row → Type 0 =
          λ r. IsDeclarable words r.name × (IsReadable limit names r.left × IsReadable limit names r.right) in
          each_both (λ (z : model.Row × ℕ). sound z.0) (λ (z : model.Row × ℕ). z.1 < suc (length m.sets)) IsFineRow
          (λ z a b. (a, b)) (beside w.rows m.row_sets)
          (each_beside sound w.rows m.row_sets
          (each_both (λ (r : model.Row). IsDeclarable words r.name)
          (λ (r : model.Row). IsReadable limit names r.left × IsReadable limit names r.right) sound
          (λ r a b. (a, b)) w.rows
          (rows_declarable words (written_count m) m.rows d.rows) readable.parts.rows))
          (numbers_beside (suc (length m.sets)) w.rows m.row_sets
          (readable.placed.row_sets ∙ sym (length-map m.rows (row_written (written_count m))))
          readable.placed.of_rows)

      pub all_faultless : Walk words (HasNoFaultBehind limit) first (lines_of m) statements
      all_faultless =
          let parameters_later = parameters_known words m d spelled named.distinct in
          let sets_later = sets_stand words m d spelled named.distinct in
          let all_later = all_known words m d spelled named.distinct in
          let of_sets = kept_noted (behind_parameters words m) (sets_declared words m) fresh.sets in
          let of_variables = kept_noted (behind_sets words m) (variables_declared words m) fresh.variables in
          let behind_fourth =
          kept_as (behind_parameters words m) (behind_variables words m) fourth.sorts
          (kept_more (behind_parameters words m) (behind_sets words m) (behind_variables words m) of_sets
          of_variables) variable_block.0.sorts_are in
          let behind_fifth =
          kept_as (behind_adaptives words m) (behind_adaptives words m) fifth.sorts (λ k x is. is)
          adaptive_block.0.sorts_are in
          along (HasNoFaultBehind limit)
          (walk_kind words parameter_words (λ (x : model.Parameter). IsDeclarable words x.name
          × (IsBound limit x.lower × IsBound limit x.upper)) (HasNoFaultBehind limit) first.sorts
          (λ z s e q is kept. parameter_faultless limit small words e.sorts z q.0 q.1.0 q.1.1 s is)
          (written_parameters m) first p.of_parameters (λ k x is. is)
          (each_both (λ (x : model.Parameter). IsDeclarable words x.name)
          (λ (x : model.Parameter). IsBound limit x.lower × IsBound limit x.upper) _ (λ z a b. (a, b))
          (written_parameters m) d.parameters readable.parts.parameters)
          p.parameters parameter_block.0.new)
          (walk_kind words declared_set_words (IsDeclarable words) (HasNoFaultBehind limit) second.sorts
          (λ z s e q is kept. declared_set_faultless limit small words e.sorts z q s is) m.sets second
          p.of_names (λ k x is. is) d.sets
          p.names name_block.0.new)
          (walk_kind words (placed_words (set_words names) m.sets) IsFineSet (HasNoFaultBehind limit)
          (behind_sets words m) (λ z s e q is kept.
          set_faultless limit small words e.sorts names
          (parameters_later e.sorts
          (kept_more (behind_parameters words m) (behind_sets words m) e.sorts of_sets kept)) w
          z.0 q.0.0 q.0.1 q.0.2 z.1
          (answer_of limit small words e.sorts m.sets (sets_later e.sorts kept) z.1 q.1) s is)
          (beside w.set_lines m.line_sets) named_behind p.of_set
          (kept_as (behind_sets words m) (behind_sets words m) named_behind.sorts (λ k x is. is) name_block.0.sorts_are)
          fine_set p.set set_block.0.new)
          (walk_kind words variable_words (λ (x : model.Variable). IsDeclarable words x.name
          × (IsBound limit x.lower × IsBound limit x.upper)) (HasNoFaultBehind limit) third.sorts
          (λ z s e q is kept. variable_faultless limit small words e.sorts z q.0 q.1.0 q.1.1 s is) m.variables third
          p.of_variables (λ k x is. is)
          (each_both (λ (x : model.Variable). IsDeclarable words x.name)
          (λ (x : model.Variable). IsBound limit x.lower × IsBound limit x.upper) _ (λ z a b. (a, b)) m.variables
          d.variables readable.parts.variables)
          p.variables variable_block.0.new)
          (walk_kind words (adaptive_words names) IsFineAdaptive (HasNoFaultBehind limit) (behind_parameters words m)
          (λ z s e q is kept. adaptive_faultless limit small words e.sorts names (parameters_later e.sorts kept) z q.0
          q.1.0 q.2 q.1.1.0 q.1.1.1 s is)
          m.adaptives fourth p.of_adaptives behind_fourth fine_adaptives p.adaptives adaptive_block.0.new)
          (goal_faultless limit small words fifth.sorts names (all_later fifth.sorts behind_fifth) m.sense w.objective
          readable.parts.objective m.objective_set
          (answer_of limit small words fifth.sorts m.sets (all_later fifth.sorts behind_fifth).sets m.objective_set
          readable.placed.of_objective) (parsed.Goal p.wish) p.goal)
          (walk_kind words (placed_words (row_words names) m.sets) IsFineRow (HasNoFaultBehind limit)
          (behind_adaptives words m) (λ z s e q is kept.
          row_faultless limit small words e.sorts names (all_later e.sorts kept) z.0 q.0.0 q.0.1.0 q.0.1.1 z.1
          (answer_of limit small words e.sorts m.sets (all_later e.sorts kept).sets z.1 q.1) s is)
          (beside w.rows m.row_sets) sixth p.of_rows behind_fifth fine_rows p.rows row_block.0.new)
