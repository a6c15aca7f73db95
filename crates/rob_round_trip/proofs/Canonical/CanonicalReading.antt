-- A readable, well-named model within the limits, whose lines are few and shallow, is read from its canonical text.
use Rattle.std.proofs.Common.{◌≡◌, ℕ, ◌^◌, ◌<◌, ◌≤◌, true, List, [], ◌∷◌, ◌++◌, length, map, fold, refl, sym, ap, ◌∙◌, subst, arith}
use Rattle.std.specs.Prelude.{Option}
use Rattle.std.specs.List.{flat_map}
use Rattle.rob_meaning.proofs.Lists.EachLemmas.{each_both}
use Rattle.rob_meaning.specs.Degrees.{IsLinear}
use Rattle.rob_meaning.specs.Named.{HasDistinctMembers, IsNamed, declared_names}
use Rattle.rob_meaning.specs.Places.{Each}
use Rattle.rob_meaning.specs.RobustModel as model
use Rattle.rob_meaning.specs.RobustModel.{AdaptiveVariable, RobustModel}
use Rattle.rob_meaning.specs.WellFormed.{IsModel, IsExpression, IsSetLine}
use Rattle.rob_lex.specs.Offences.{most_tokens}
use Rattle.rob_model.specs.Limits.{IsWithinLimits}
use Rattle.rob_rules.specs.declared.sort.Sort.{Sort}
use Rattle.rob_syntax.specs.declared.symbol.Symbol.{Symbol}
use Rattle.rob_syntax.specs.declared.syntax.Statement.{Statement}
use Rattle.rob_write.specs.WrittenModel.{written_model}
use Rattle.rob_write.specs.ExpressionWords.{naming_of}
use Rattle.rob_write.specs.Canonical.{lines_of, model_text}
use Rattle.rob_rules.specs.Degrees.{sort_at, products}
use Rattle.rob_rules.specs.Faults.{is_unknown, expressions}
use Rattle.rob_parse.specs.Modelled.{ReadsModel}
use Rattle.rob_parse.specs.Written.{expression, adaptives, set_lines, rows, objective_of, sets, written_of}
use Rattle.rob_parse.specs.Models.{model_of}
use Rattle.rob_round_trip.specs.Pages.{IsLine, IsShallow, IsWritable, ended, symbols_on, words_on}
use Rattle.rob_syntax.specs.Names.{IsSpelled}
use Rattle.rob_round_trip.specs.Readable.{IsReadableModel, AreDeclarable, AreStatements}
use Rattle.rob_rules.specs.Reading.{Follows}
use Rattle.rob_rules.specs.Scopes.{Earlier, start}
use Rattle.rob_rules.specs.Sizes.{start_sizes, counted, is_within}
use Rattle.rob_syntax.specs.Statements.{IsStatement}
use Rattle.rob_syntax.specs.Trees.{tree_of}
use Rattle.rob_round_trip.proofs.Faultless.CanonicalParts.{GoalIs, Parted, parted, joined}
use Rattle.rob_round_trip.proofs.Faultless.CanonicalBlocks.{all_new, one_goal, goal_found, goals_are, sorts_are, goal_is, all_faultless}
use Rattle.rob_round_trip.proofs.Faultless.CanonicalScopes.{Kept, canonical_sorts, all_known, all_fresh, behind_adaptives, rows_declared, kept_noted}
use Rattle.rob_round_trip.proofs.Faultless.CanonicalWalk.{Walk, walk_both, walk_pair, walk_statements, each_walk, IsNewThere, IsFirstGoal, kept_to_end}
use Rattle.rob_parse.proofs.Sizes.StatementSizes.{added, sizes_are}
use Rattle.rob_round_trip.proofs.Faultless.CanonicalSizes.{counts_within, written_counts, written_sizes}
use Rattle.rob_rules.specs.Stages.{behind_all}
use Rattle.rob_round_trip.proofs.Faultless.FaultlessParts.{HasNoFaultBehind}
use Rattle.rob_round_trip.proofs.Faultless.FaultlessProducts.{statement_products}
use Rattle.rob_parse.proofs.Degrees.DegreeLemmas.{EachName, Clean, Stands}
use Rattle.rob_round_trip.proofs.Faultless.FaultlessLines.{free_expressions, each_flat_apart, IsLinearStatement, linear_statement, names_behind, counts_behind, IsRight, right_follow, StaysWithin, within_walk}
use Rattle.rob_round_trip.proofs.Indexed.PlainTexts.{text_reads}
use Rattle.rob_round_trip.proofs.ReadBack.LinesText.{AreWrittenBack, lines_written}
use Rattle.rob_parse.proofs.Building.ModelLemmas.{each_name, stand}
use Rattle.rob_round_trip.proofs.Faultless.NoFault.{no_fault as no_faults}
use Rattle.rob_round_trip.proofs.Pages.PageSymbols.{page_is_read}
use Rattle.rob_parse.proofs.Names.SortLemmas.{Names, none_named}
use Rattle.rob_parse.proofs.Degrees.UsedLemmas.{IsFreeName}
use Rattle.rob_round_trip.proofs.Written.WritableLines.{all_fine}
use Rattle.rob_round_trip.proofs.Written.DeclarableLines.{all_declarable}

-- the canonical lines are statements, whose model it is, where names stand for what these lines declare
pub lines_read : (words : List (List ℕ)) (m : RobustModel) → AreDeclarable words m → Each IsSpelled (declared_names m)
    → IsNamed m → (limit : ℕ)
    → limit < 2 ^ 62 → IsReadableModel limit (naming_of m) m → AreWrittenBack words (canonical_sorts words m) m
lines_read words m d spelled named limit small readable =
    let fresh = all_fresh words m d spelled named.distinct in
    lines_written limit small words (canonical_sorts words m) m
    (all_known words m d spelled named.distinct (canonical_sorts words m)
    (kept_noted (behind_adaptives words m) (rows_declared words m) fresh.rows)) d readable

module _ (limit : ℕ) (low : 1 ≤ limit) (small : limit < 2 ^ 62) (words : List (List ℕ)) (m : RobustModel)
    (d : AreDeclarable words m)
    (spelled : Each IsSpelled (declared_names m)) (named : IsNamed m) (readable : IsReadableModel limit (naming_of m) m)
    (good : IsModel (written_model m)) (once : Each HasDistinctMembers (written_model m).set_lines) where
  abbrev w : RobustModel
  w = written_model m

  module _ (list : List Statement) (p : Parted words m list)
      (are : AreStatements words (lines_of m) (joined words m list p))
      (model_is : model_of words (canonical_sorts words m) (joined words m list p) ≡ m)
      (written_is : written_of words (canonical_sorts words m) (joined words m list p) ≡ written_model m)
      (within : is_within (fold counted start_sizes (joined words m list p)) ≡ true) where
    abbrev all : List Statement
    all = joined words m list p

    abbrev first : Earlier
    first = start (length words)

    abbrev f : Earlier
    f = behind_all first all

    same_sorts : f.sorts ≡ canonical_sorts words m
    same_sorts = sorts_are limit words m d spelled named readable list p

    same_model : model_of words f.sorts all ≡ m
    same_model = ap (λ (x : List (Option Sort)). model_of words x all) same_sorts ∙ model_is

    same_written : written_of words f.sorts all ≡ w
    same_written = ap (λ (x : List (Option Sort)). written_of words x all) same_sorts ∙ written_is

    names : (k : ℕ) → Names (length w.parameters) (length w.variables) w.adaptives (sort_at f.sorts k)
    names k =
        let c = counts_behind words f.sorts first all in
        let all_names = names_behind words f.sorts first all [] (none_named (length words)) in
        let ps : f.sizes.parameters ≡ length w.parameters =
        omega (arith, c.parameters_are, ap (λ (x : RobustModel). length x.parameters) same_written) in
        let vs : f.sizes.variables ≡ length w.variables =
        omega (arith, c.variables_are, ap (λ (x : RobustModel). length x.variables) same_written) in
        let ys : flat_map (adaptives words f.sorts) all ≡ w.adaptives =
        ap (λ (x : RobustModel). x.adaptives) same_written in
        subst (λ (n : ℕ). Names n (length w.variables) w.adaptives (sort_at f.sorts k)) ps
        (subst (λ (n : ℕ). Names f.sizes.parameters n w.adaptives (sort_at f.sorts k)) vs
        (subst (λ (y : List AdaptiveVariable). Names f.sizes.parameters f.sizes.variables y (sort_at f.sorts k)) ys
        (all_names.1 k)))

    -- ---- products
    linear : Each (IsLinearStatement w words f.sorts) all
    linear =
        let sets = each_flat_apart (IsSetLine w) (set_lines f.sorts) all
        (subst (Each (IsSetLine w)) (ap (λ (x : RobustModel). x.set_lines) (sym same_written)) good.set_lines) in
        let of_rows =
        each_flat_apart (λ (r : model.Row). IsExpression w r.left × IsExpression w r.right) (rows words f.sorts) all
        (subst (Each (λ (r : model.Row). IsExpression w r.left × IsExpression w r.right))
        (ap (λ (x : RobustModel). x.rows) (sym same_written)) good.rows) in
        let found = goal_found limit words m d spelled named readable list p in
        let objective : w.objective ≡ expression f.sorts (tree_of p.wish.objective) =
        ap (λ (x : RobustModel). x.objective) (sym same_written) ∙ ap (objective_of f.sorts) found in
        let to = linear_statement w words f.sorts p.wish (subst (IsLinear w) objective good.objective.1) in
        each_both (λ s. GoalIs p.wish s × Each (IsSetLine w) (set_lines f.sorts s))
        (λ s. Each (λ (r : model.Row). IsExpression w r.left × IsExpression w r.right) (rows words f.sorts s))
        (IsLinearStatement w words f.sorts)
        (λ s a b. to s a.0 a.1 b) all
        (each_both (GoalIs p.wish) (λ s. Each (IsSetLine w) (set_lines f.sorts s))
        (λ s. GoalIs p.wish s × Each (IsSetLine w) (set_lines f.sorts s)) (λ s a b. (a, b)) all
        (goals_are limit words m d spelled named readable list p) sets)
        of_rows

    abbrev HasGoodProducts : Earlier → List Symbol → Statement → Type 0
    HasGoodProducts e symbols s = Clean (flat_map (products e.sorts) (expressions s))

    good_products : (e : Earlier) (symbols : List Symbol) (s : Statement) → Kept e.sorts f.sorts
        → HasNoFaultBehind limit e symbols s
        → IsLinearStatement w words f.sorts s → HasGoodProducts e symbols s
    good_products e symbols s kept free straight =
        statement_products w f.sorts e.sorts s
        (each_both (EachName (IsFreeName (is_unknown e.sorts))) (λ t. IsLinear w (expression f.sorts t))
        (λ t. EachName (Stands w f.sorts e.sorts) t × IsLinear w (expression f.sorts t))
        (λ t a b. (each_name (stand limit low w f names e kept) t a, b)) (expressions s)
        (free_expressions (is_unknown e.sorts) s free.unknown) straight)

    -- ---- no line has a fault
    no_fault : Walk words (IsRight limit words) first (lines_of m) all
    no_fault =
        let faultless = all_faultless limit words m d spelled named readable list p small good once in
        let news = all_new limit words m d spelled named readable list p in
        let goals = one_goal limit words m d spelled named readable list p in
        let sizes = within_walk words [] first (lines_of m) all refl are within in
        let said = walk_statements words first (lines_of m) all are in
        let straight = each_walk words (IsLinearStatement w words f.sorts) first (lines_of m) all are linear in
        let kept = kept_to_end words first (lines_of m) all news in
        let of_products =
        walk_both words (λ e symbols s. Kept e.sorts f.sorts)
        (λ e symbols s. HasNoFaultBehind limit e symbols s × IsLinearStatement w words f.sorts s) HasGoodProducts
        (λ e symbols s a b. good_products e symbols s a b.0 b.1) first (lines_of m) all kept
        (walk_pair words (HasNoFaultBehind limit) (λ e symbols s. IsLinearStatement w words f.sorts s) first
        (lines_of m) all faultless straight) in
        walk_both words
        (λ e symbols s. IsStatement symbols s × (HasNoFaultBehind limit e symbols s × HasGoodProducts e symbols s))
        (λ e symbols s. IsNewThere words e symbols s
        × (IsFirstGoal words e symbols s × StaysWithin words e symbols s)) (IsRight limit words)
        (λ e symbols s a b. (a.0, no_faults limit e s a.1.0 b.0 a.1.1 b.1.0 b.1.1)) first (lines_of m) all
        (walk_pair words (λ e symbols s. IsStatement symbols s)
        (λ e symbols s. HasNoFaultBehind limit e symbols s × HasGoodProducts e symbols s) first (lines_of m) all said
        (walk_pair words (HasNoFaultBehind limit) HasGoodProducts first (lines_of m) all faultless of_products))
        (walk_pair words (IsNewThere words)
        (λ e symbols s. IsFirstGoal words e symbols s × StaysWithin words e symbols s) first (lines_of m) all news
        (walk_pair words (IsFirstGoal words) (StaysWithin words) first (lines_of m) all goals sizes))

    pub lines_follow : Follows limit first (map (symbols_on words) (lines_of m) ++ [] ∷ []) all f
    lines_follow = right_follow limit words first (lines_of m) all no_fault

    pub goal_there : f.goal ≡ true
    goal_there = goal_is limit words m d spelled named readable list p

  -- the lines follow one another, and their model is that model
  pub record AreFollowed : Type 0 where
    pub list : List Statement
    pub known : Earlier
    pub follows : Follows limit (start (length words)) (map (symbols_on words) (lines_of m) ++ [] ∷ []) list known
    pub goal : known.goal ≡ true
    pub model_is : m ≡ model_of words known.sorts list

  pub followed : ((list : List Statement) → written_of words (canonical_sorts words m) list ≡ w
      → flat_map (sets words) list ≡ m.sets → is_within (fold counted start_sizes list) ≡ true) → AreFollowed
  followed within =
      let back = lines_read words m d spelled named limit small readable in
      let p = parted words m back.list back.statements in
      let list = joined words m back.list p in
      let are : AreStatements words (lines_of m) list =
      subst (AreStatements words (lines_of m)) p.whole back.statements in
      let model_is : model_of words (canonical_sorts words m) list ≡ m =
      ap (model_of words (canonical_sorts words m)) (sym p.whole) ∙ back.model_is in
      let names_are : flat_map (sets words) list ≡ m.sets = ap (λ (x : RobustModel). x.sets) model_is in
      let written_is : written_of words (canonical_sorts words m) list ≡ w =
      ap (written_of words (canonical_sorts words m)) (sym p.whole) ∙ back.written_is in
      let small_enough = within list written_is names_are in
      record {
        list = list;
        known = behind_all (start (length words)) list;
        follows = lines_follow back.list p are model_is written_is small_enough;
        goal = goal_there back.list p are model_is written_is small_enough;
        model_is = sym (same_model back.list p are model_is written_is small_enough);
      }

-- ---- the whole text
module _ (limit : ℕ) (m : RobustModel) (low : 1 ≤ limit) (small : limit < 2 ^ 62)
    (readable : IsReadableModel limit (naming_of m) m)
    (good : IsModel (written_model m)) (named : IsNamed m) (spelled : Each IsSpelled (declared_names m))
    (once : Each HasDistinctMembers (written_model m).set_lines) (fits : IsWithinLimits m) where
  abbrev page_words : List (List ℕ)
  page_words = words_on (lines_of m)

  lines_are : Each (IsShallow 0) (lines_of m) → Each IsLine (lines_of m)
  lines_are shallow =
      each_both (Each IsWritable) (IsShallow 0) IsLine (λ l a b. record { writable = a; shallow = b }) (lines_of m)
      (all_fine limit small m spelled readable) shallow

  -- statements that write what the model has written, and name its sets, are within the limits
  sizes_fit : (list : List Statement) → written_of page_words (canonical_sorts page_words m) list ≡ written_model m
      → flat_map (sets page_words) list ≡ m.sets → is_within (fold counted start_sizes list) ≡ true
  sizes_fit list written names =
      ap is_within
      (sizes_are page_words (canonical_sorts page_words m) list
      ∙ (λ i. added start_sizes (length (names i)) (written i)))
      ∙ counts_within m (written_sizes m) (written_counts m readable.placed.taken_is) fits

  are_followed : AreFollowed limit low small page_words m (all_declarable m spelled) spelled named readable good once
  are_followed =
      followed limit low small page_words m (all_declarable m spelled) spelled named readable good once sizes_fit

  -- the law
  pub canonical_reads : Each (IsShallow 0) (lines_of m) → length (ended (lines_of m)) ≤ most_tokens
      → ReadsModel limit (model_text m) m
  canonical_reads shallow few =
      let page = page_is_read (lines_of m) (lines_are shallow) few in
      let r = are_followed in
      record {
        words = page_words;
        list = r.list;
        known = r.known;
        reads = text_reads limit (model_text m) page_words r.list r.known (record {
          tokens = page.tokens;
          are_tokens = page.are_tokens;
          words_are = page.words_are;
          follows = subst (λ (l : List (List Symbol)). Follows limit (start (length page_words)) l r.list r.known)
              (sym page.lines_are) r.follows;
          goal = r.goal;
        });
        model_is = r.model_is;
      }
