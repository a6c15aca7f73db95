-- What a statement stands for, by its line and the settings of its ranges.
use Rattle.std.proofs.Common.{◌≡◌, ℕ, ◌+◌, ◌<◌, ◌≤◌, ◌==◌, Bool, true, false, List, [], ◌∷◌, ◌++◌, map, length, drop, get_or, refl, sym, ap, ◌∙◌, subst}
use Rattle.std.specs.Prelude.{ℤ, fold, ◌||◌, ◌&&◌}
use Rattle.std.specs.List.{flat_map, list_any}
use Rattle.rob_index.specs.Statements.{Name, Statement, Tree, Indexed}
use Rattle.rob_index.specs.Expansion.{ranges_of, expand}
use Rattle.rob_index.specs.Forms.{Ends, extensions}
use Rattle.rob_index.specs.Fast.{nest_of}
use Rattle.rob_index.specs.Places.{places}
use Rattle.rob_index.specs.Rules.{is_long_name, is_no_statement, is_out}
use Rattle.rob_syntax.specs.declared.syntax.Statement.{Statement as Code}
use Rattle.rob_syntax.specs.declared.syntax.Indexed.{Indexed as CodeIndexed}
use Rattle.rob_syntax.specs.declared.syntax.Indexed.TheVariants as parsed
use Rattle.rob_syntax.specs.declared.syntax.Shares.{Shares}
use Rattle.rob_syntax.specs.Numbered.{numbered}
use Rattle.rob_syntax.specs.Seen.{seen_numeral, seen_over, seen_ranged, seen_share, seen_statement}
use Rattle.rob_syntax.specs.Plain.{is_nothing}
use Rattle.rob_settings.specs.declared.item.Item.{Item}
use Rattle.rob_expand.specs.declared.line.Line.{Line}
use Rattle.rob_expand.specs.Statements.{IsLine, IsLineOf}
use Rattle.rob_expand.specs.Names.{names_of, grown}
use Rattle.rob_expand.specs.Growing.{printed, add_name, line_names, lacks_members, is_bare}
use Rattle.rob_expand.specs.Instances.{instance}
use Rattle.rob_expand.proofs.Walks.WalkLemmas.{or_both, flat_mapped}
use Rattle.rob_expand.proofs.Expanding.InstanceLemmas.{instances_are}
use Rattle.rob_expand.proofs.Expanding.NameLemmas.{line_names_are, none_long, grown_all, no_statements_are, budget_lacks, none_lacks}
use Rattle.rob_index.proofs.Faults.FastLemmas.{flat_same}
use Rattle.std.proofs.Math.Dec.{eqb-suc-zero}
use Rattle.std.proofs.lemmas.List.{at_drop_more, at_drop_all}

-- its line, whatever the limit
pub line_of_is : (limit : ℕ) (s : Indexed Tree) (ranges : List Ends) (line : Line) → IsLine limit s ranges line
    → IsLineOf s line
line_of_is limit s ranges line is =
    let here : IsLine limit s (nest_of [] (ranges_of s)) line = record {
      ranges_are = refl;
      limit_is = is.limit_is;
      base_is = is.base_is;
      head_is = is.head_is;
      trees_are = is.trees_are;
      items_are = is.items_are;
      over_is = is.over_is;
    } in
    subst (λ (n : ℕ). IsLine n s (nest_of [] (ranges_of s)) line) (sym is.limit_is) here

module _ (own : List Name) (limit : ℕ) (s : Indexed Tree) (ranges : List Ends) (line : Line)
    (is : IsLine limit s ranges line)
    (within : list_any is_out (places s) ≡ false) (es : List (List ℤ)) (es_are : es ≡ extensions ranges []) where
  pub settings_are : es ≡ extensions (nest_of [] (ranges_of s)) []
  settings_are = es_are ∙ ap (λ (rs : List Ends). extensions rs []) is.ranges_are

  -- the plain statements
  pub all_are : map (instance own printed s) es ≡ expand own s
  all_are = ap (map (instance own printed s)) settings_are ∙ instances_are own s within

  names_are : flat_map (line_names own line) es ≡ flat_map names_of (expand own s)
  names_are =
      flat_same (line_names own line) (λ vs. names_of (instance own printed s vs))
      (λ vs. line_names_are own vs s line (line_of_is limit s ranges line is)) es
      ∙ sym (flat_mapped names_of (instance own printed s) es) ∙ ap (flat_map names_of) all_are

  module _ (long : Bool) (told : long ≡ list_any is_long_name (flat_map (line_names own line) es)) where
    told_of_names : long ≡ list_any is_long_name (flat_map names_of (expand own s))
    told_of_names = told ∙ ap (list_any is_long_name) names_are

    -- a name is too long
    pub is_refused : long ≡ true → list_any is_no_statement (expand own s) ≡ true
    is_refused is_long =
        no_statements_are (expand own s)
        ∙ ap (λ (b : Bool). list_any lacks_members (expand own s) || b) (sym told_of_names ∙ is_long)
        ∙ either_true (list_any lacks_members (expand own s))
      where
        either_true : (b : Bool) → (b || true) ≡ true
        either_true true = refl
        either_true false = refl

    -- none is, and the words have grown by all
    pub words_are : (old new : List Name) → new ≡ fold add_name old (flat_map (line_names own line) es) → long ≡ false
        → new ≡ fold grown old (expand own s)
    words_are old new by is_short =
        by ∙ ap (fold add_name old) names_are
        ∙ none_long old (flat_map names_of (expand own s)) (sym told_of_names ∙ is_short)
        ∙ sym (grown_all old (expand own s))

    module _ (lacking : Bool)
        (lacks : lacking
        ≡ list_any lacks_members (map (instance own printed s) (extensions (nest_of [] (ranges_of s)) []))) where
      pub is_lacking : lacking ≡ list_any lacks_members (expand own s)
      is_lacking = lacks ∙ ap (list_any lacks_members) (instances_are own s within)

      -- all are statements
      pub are_statements : long ≡ false → lacking ≡ false → list_any is_no_statement (expand own s) ≡ false
      are_statements is_short has_members =
          no_statements_are (expand own s)
          ∙ or_both (sym is_lacking ∙ has_members) (sym told_of_names ∙ is_short)

  -- a budget has no member
  pub lacks_refused : (lacking : Bool)
      → lacking ≡ list_any lacks_members (map (instance own printed s) (extensions (nest_of [] (ranges_of s)) []))
      → lacking ≡ true
      → list_any is_no_statement (expand own s) ≡ true
  lacks_refused lacking lacks lacks_some =
      no_statements_are (expand own s)
      ∙ ap (λ (b : Bool). b || list_any is_long_name (flat_map names_of (expand own s)))
      (sym (lacks ∙ ap (list_any lacks_members) (instances_are own s within)) ∙ lacks_some)

  -- the statements with the numbers of words
  pub list_is : (words : List Name) (old new : List Code)
      → new ≡ old ++ map (numbered words) (map (instance own printed s) es)
      → new ≡ old ++ map (numbered words) (expand own s)
  list_is words old new by = by ∙ ap (λ (ps : List Statement). old ++ map (numbered words) ps) all_are

-- ---- items without a setting
pub empty_told : {A : Type 0} (xs : List A) → is_nothing xs ≡ (length xs == 0)
empty_told [] = refl
empty_told (x ∷ xs) = sym (eqb-suc-zero (length xs))

module _ (vs : List ℤ) where
  bare_step : (xs : List Item) (i : ℕ) (x : Item) → i < length xs → x ≡ get_or xs i x
      → is_bare (drop i xs) vs ≡ (is_nothing (extensions x.ranges vs) && is_bare (drop (i + 1) xs) vs)
  bare_step xs i x inside here =
      at_drop_more (λ (l : List Item). is_bare l vs) xs i x inside
      ∙ ap (λ (y : Item). is_nothing (extensions y.ranges vs) && is_bare (drop (i + 1) xs) vs) (sym here)

  -- no setting of an item more
  pub bare_more : (xs : List Item) (i : ℕ) (x : Item) (es : List (List ℤ)) {result : Bool} → i < length xs
      → x ≡ get_or xs i x
      → es ≡ extensions x.ranges vs → is_nothing es ≡ true → is_bare (drop i xs) vs ≡ result
      → is_bare (drop (i + 1) xs) vs ≡ result
  bare_more xs i x es inside here es_are none so_far =
      sym (bare_step xs i x inside here
      ∙ ap (λ (b : Bool). b && is_bare (drop (i + 1) xs) vs) (ap is_nothing (sym es_are) ∙ none))
      ∙ so_far

  -- a setting of an item
  pub bare_stop : (xs : List Item) (i : ℕ) (x : Item) (es : List (List ℤ)) {result : Bool} → i < length xs
      → x ≡ get_or xs i x
      → es ≡ extensions x.ranges vs → is_nothing es ≡ false → is_bare (drop i xs) vs ≡ result → false ≡ result
  bare_stop xs i x es inside here es_are some so_far =
      sym (bare_step xs i x inside here
      ∙ ap (λ (b : Bool). b && is_bare (drop (i + 1) xs) vs) (ap is_nothing (sym es_are) ∙ some))
      ∙ so_far

  pub bare_all : (xs : List Item) (i : ℕ) {result : Bool} → length xs ≤ i → is_bare (drop i xs) vs ≡ result
      → true ≡ result
  bare_all xs i all so_far = sym (at_drop_all (λ (l : List Item). is_bare l vs) xs i all) ∙ so_far

-- ---- whether a statement lacks members
module _ (own : List Name) where
  -- the settings of its ranges
  abbrev settings_of : CodeIndexed → List (List ℤ)
  settings_of s = extensions (nest_of [] (ranges_of (seen_statement s))) []

  -- it is the same for all of them
  abbrev lacking : CodeIndexed → Bool
  lacking s = list_any lacks_members (map (instance own printed (seen_statement s)) (settings_of s))

  none_of : (s : CodeIndexed)
      → ((vs : List ℤ) → lacks_members (instance own printed (seen_statement s) vs) ≡ false) → false ≡ lacking s
  none_of s none = none_lacks (instance own printed (seen_statement s)) none (settings_of s)

  pub lacks_budget : (s : CodeIndexed) (b : Shares) (line : Line) → s ≡ parsed.Budget b
      → IsLineOf (seen_statement s) line
      → is_bare line.items [] ≡ lacking s
  lacks_budget s b line here is =
      budget_lacks own (seen_numeral b.limit) (map (seen_ranged seen_share) b.members) (seen_over b.over) line
      (subst (λ (y : CodeIndexed). IsLineOf (seen_statement y) line) here is)
      ∙ ap lacking (sym here)

  pub lacks_other : (s : CodeIndexed) → ((b : Shares) → s ≡ parsed.Budget b → ⊥) → false ≡ lacking s
  lacks_other (parsed.Uncertain x) other = none_of (parsed.Uncertain x) (λ vs. refl)
  lacks_other (parsed.Over x) other = none_of (parsed.Over x) (λ vs. refl)
  lacks_other (parsed.Set x) other = none_of (parsed.Set x) (λ vs. refl)
  lacks_other (parsed.Budget b) other = absurd (other b refl)
  lacks_other (parsed.Var x) other = none_of (parsed.Var x) (λ vs. refl)
  lacks_other (parsed.Adaptive x) other = none_of (parsed.Adaptive x) (λ vs. refl)
  lacks_other (parsed.Goal x) other = none_of (parsed.Goal x) (λ vs. refl)
  lacks_other (parsed.Row n x) other = none_of (parsed.Row n x) (λ vs. refl)
