-- The answers of `whole` and `tree`, from what the search for names and the growing of a tree answer.
use Rattle.std.proofs.Common.{◌≡◌, ◌≤◌, ℕ, nat_abs, List, map, Option, Some, None, Result, Ok, Err, IfOk, refl, subst, sym, ◌∙◌}
use Rattle.std.proofs.lemmas.List.{length-map}
use Rattle.std.specs.Prelude.{MatchOption}
use Rattle.rob_algebra.specs.Fraction.{of_int}
use Rattle.rob_dualize.specs.Models.{IsWideIn}
use Rattle.rob_branch.specs.Growth.{AreBoxesWritten, HasCause, IsWrittenUpTo, RoseIfWide}
use Rattle.rob_meaning.specs.Certificates.{Status, optimal, infeasible, unbounded}
use Rattle.rob_meaning.specs.Places.{Each}
use Rattle.rob_meaning.specs.RobustModel.{RobustModel}
use Rattle.rob_number.specs.declared.memory.Memory.{Memory as Want}
use Rattle.rob_reach.proofs.GrowingLemmas.{comes_allowed}
use Rattle.rob_reach.proofs.GrownLemmas.{grown_proves}
use Rattle.rob_reach.proofs.RuleLemmas.{rules_kept}
use Rattle.rob_reach.specs.Boxes.{box}
use Rattle.rob_reach.specs.Growing.{IsAllowedPath, IsGrown, start}
use Rattle.rob_reach.specs.Ranges.{KeepsBothBounds, whole_rule}
use Rattle.rob_reach.specs.Trees.{Tree}
use Rattle.rob_reach.specs.WholeStatus.{HasWholeStatus}
use Rattle.rob_tree.specs.Reading.{TreeFits}
use Rattle.rob_tree.specs.Shape.{HasTreeShape}
use Rattle.rob_tree.specs.TreeText.{tree_text}
use Rattle.rob_tree.specs.View.{branch_of}
use Rattle.rob_tree.specs.declared.error.TreeStop.{TreeStop}
use Rattle.rob_tree.specs.declared.error.TreeStop.TheVariants as ungrown
use Rattle.rob_commands.specs.Answers.{whole_fault_text}
use Rattle.rob_top.specs.Branched.{IsBranched, IsPrintedTree, no_ranges, no_variables}
use Rattle.rob_commands.specs.TreeReport.{IsReport}
use Rattle.rob_top.specs.Calls.{Call, Count, count}
use Rattle.rob_top.specs.Commands.{IsBranching}
use Rattle.rob_top.specs.Files.{word_of}
use Rattle.rob_top.specs.Headline.{Means}
use Rattle.rob_top.specs.Inputs.{AreVariables}
use Rattle.rob_commands.specs.Replies.{Replies, ended_of}
use Rattle.rob_top.specs.Work.{AnswersModel, AnswersNames, AnswersVariables, IsCallAt}
use Rattle.rob_commands.specs.Stops.{IsUngrownOf, RepliesUngrown}
use Rattle.rob_top.specs.Ways.{branched, while_branching, while_growing}
use Rattle.rob_commands.specs.declared.ended.Ended.{Ended}
use Rattle.rob_commands.specs.declared.ended.Ended.TheVariants.{Whole}
use Rattle.rob_top.specs.declared.files.Texts.{Texts}
use Rattle.rob_commands.specs.declared.reply.Reply.{Reply}
use Rattle.rob_commands.proofs.BoxPathLemmas.{box_spot, path_columns}
use Rattle.rob_top.proofs.Fetching.OwnLemmas.{has_names, own_told}
use Rattle.rob_words.specs.Commands.{Line}
use Rattle.rob_words.specs.Names.{parts_of}
use Rattle.rob_words.specs.Values.{Word}
use Rattle.rob_words.specs.Verbs.{own_of}
use Rattle.rob_words.specs.declared.verb.Own.TheVariants as own
use Rattle.rob_words.specs.declared.verb.Verb.{Verb}
use Rattle.rob_words.specs.declared.verb.Verb.TheVariants.{Whole as WholeVerb, Tree as TreeVerb}
use Rattle.rob_elab.specs.Written.{IsWritten}

-- a status is an answer of a tree
means_branched : (call : Call) (status : Status) (text : List ℕ) → IsBranched call status text
    → Means call (ended_of status) text
means_branched call optimal text h = branched h
means_branched call infeasible text h = branched h
means_branched call unbounded text h = branched h

-- what a command prints of a tree
module _ (m : RobustModel) (names : List ℕ) (t : Tree) where
  pub report_printed : (verb : Verb) (r : Result (List ℕ) Want) → verb ≡ WholeVerb → IfOk r (IsReport m names t)
      → IfOk r (IsPrintedTree verb m names t)
  report_printed verb (Err want) e h = tt
  report_printed verb (Ok text) e h = subst (λ (v : Verb). IsPrintedTree v m names t text) (sym e) h

  pub tree_printed : (verb : Verb) (r : Result (List ℕ) Want) → verb ≡ TreeVerb → IfOk r (λ text. text ≡ tree_text m t)
      → IfOk r (IsPrintedTree verb m names t)
  tree_printed verb (Err want) e h = tt
  tree_printed verb (Ok text) e h = subst (λ (v : Verb). IsPrintedTree v m names t text) (sym e) h

-- what is said of the numbers that were found, or of none
module _ (m : RobustModel) (names : List ℕ) where
  abbrev AreTheirs : List ℕ → Type 0
  AreTheirs numbers = AreVariables m (parts_of names) numbers

  abbrev IsNobody : Type 0
  IsNobody = (numbers : List ℕ) → AreTheirs numbers → ⊥

  pub numbers_found : (o : Option (List ℕ)) (found numbers : List ℕ) → o ≡ Some found → numbers ≡ found
      → MatchOption o IsNobody AreTheirs
      → AreTheirs numbers
  numbers_found None found numbers e same h = absurd (let no : None ≡ Some found = e in cc)
  numbers_found (Some others) found numbers e same h =
      let both : others ≡ numbers = cc in subst AreTheirs both h

  pub nobody_found : (o : Option (List ℕ)) → o ≡ None → MatchOption o IsNobody AreTheirs → IsNobody
  nobody_found None e h = h
  nobody_found (Some others) e h = absurd (let no : Some others ≡ None = e in cc)

-- ---- rules of named variables
-- no rule is broken where a broken one is told and another answer came
pub no_rule : (m : RobustModel) (numbers : List ℕ) → ((rule : ℕ) → whole_rule m numbers ≡ Some rule → ⊥)
    → whole_rule m numbers ≡ None
no_rule m numbers none = by (whole_rule m numbers) refl
  where
    by : (o : Option ℕ) → whole_rule m numbers ≡ o → whole_rule m numbers ≡ None
    by None e = e
    by (Some rule) e = absurd (none rule e)

-- so a tree that has grown says that none is
pub grown_keeps : {X : Type 0} (m : RobustModel) (numbers : List ℕ) (r : Result X TreeStop) (t : X) → r ≡ Ok t
    → ((rule : ℕ) → whole_rule m numbers ≡ Some rule → r ≡ Err (ungrown.Rule rule)) → whole_rule m numbers ≡ None
grown_keeps m numbers r t is told =
    no_rule m numbers (λ rule e. let clash : Ok t ≡ Err (ungrown.Rule rule) = sym is ∙ told rule e in cc)

-- and a stop is that of a broken rule, where one is
pub stop_told : {X : Type 0} (m : RobustModel) (numbers : List ℕ) (r : Result X TreeStop) (s : TreeStop) → r ≡ Err s
    → ((rule : ℕ) → whole_rule m numbers ≡ Some rule → r ≡ Err (ungrown.Rule rule))
    → (rule : ℕ) → whole_rule m numbers ≡ Some rule → s ≡ ungrown.Rule rule
stop_told m numbers r s is told rule e = let same : Err s ≡ Err (ungrown.Rule rule) = sym is ∙ told rule e in cc

pub kept_bounds : (m : RobustModel) (numbers : List ℕ) → whole_rule m numbers ≡ None → KeepsBothBounds m numbers
kept_bounds m numbers e = ((rules_kept m numbers).0 e).0

module _ (limit : ℕ) (m : RobustModel) where
  module _ (verb : Verb) (numbers : List ℕ) (is_branching : IsBranching verb) where
    is_here : (wides : Count) (call : Call) (line : Line) → IsCallAt limit wides verb call line → IsBranching line.verb
    is_here wides call line at = subst (λ (v : Verb). IsBranching v) (sym at.verb_is) is_branching

    -- ---- a tree that has grown
    pub tree_answers : (wides : Count) (t : Tree) (r : Result Reply Want)
        → whole_rule m numbers ≡ None → IsGrown m numbers t
        → HasWholeStatus m numbers t.status t.value → HasTreeShape limit m numbers t → TreeFits limit m t
        → IsWritten limit m → AreBoxesWritten limit m t.root → IfOk r (λ reply. reply.ended ≡ ended_of t.status)
        → IfOk r (λ reply. IsPrintedTree verb m numbers t reply.text)
        → IfOk r (AnswersVariables limit wides m verb numbers)
    tree_answers wides t (Err want) keeps grown holds shape fits written boxes is printed = tt
    tree_answers wides t (Ok reply) keeps grown holds shape fits written boxes is printed = λ call line at has.
        subst (λ (ended : Ended). Means call ended reply.text) (sym is)
        (means_branched call t.status reply.text (record {
          line = line;
          m = m;
          names = numbers;
          has = record { named = has; keeps = keeps };
          branches = is_here wides call line at;
          t = t;
          status_is = refl;
          holds = holds;
          proves = grown_proves m numbers t grown;
          grown = grown;
          shape = subst (λ (l : ℕ). HasTreeShape l m numbers t) (sym at.limit_is) shape;
          fits = subst (λ (l : ℕ). TreeFits l m t) (sym at.limit_is) fits;
          written = subst (λ (l : ℕ). IsWritten l m) (sym at.limit_is) written;
          boxes = subst (λ (l : ℕ). AreBoxesWritten l m t.root) (sym at.limit_is) boxes;
          printed = subst (λ (v : Verb). IsPrintedTree v m numbers t reply.text) (sym at.verb_is) printed;
        }))

    -- ---- no tree has grown
    stop_answers : (before now : ℕ) (s : TreeStop) (reply : Reply) → HasCause limit m numbers s
        → RoseIfWide before now s
        → ((rule : ℕ) → whole_rule m numbers ≡ Some rule → s ≡ ungrown.Rule rule) → RepliesUngrown m s reply
        → AnswersVariables limit (count before now) m verb numbers reply
    stop_answers before now (ungrown.Rule rule) reply cause rose told is = λ call line at has.
        subst (λ (ended : Ended). Means call ended reply.text) (sym is.0)
        (record {
          line = line;
          m = m;
          breaks = no_ranges numbers has cause;
          printed = is.1;
        })
    stop_answers before now (ungrown.EmptySet weights) reply cause rose told is = λ call line at has.
        subst (λ (ended : Ended). Means call ended reply.text) (sym is.0)
        (while_branching (record {
          line = line;
          m = m;
          names = numbers;
          has = record {
            named = has;
            keeps = no_rule m numbers
                (λ rule e. let no : ungrown.EmptySet weights ≡ ungrown.Rule rule = told rule e in cc);
          };
          branches = is_here (count before now) call line at;
          written = subst (λ (l : ℕ). IsWritten l m) (sym at.limit_is) cause.0;
          shown = cause.1.shown;
          fits = subst (λ (l : ℕ). Each (λ weight. nat_abs weight ≤ l) weights) (sym at.limit_is) cause.1.fits;
          printed = is.1;
        }))
    stop_answers before now (ungrown.Wide path spot) reply cause rose told is = λ call line at has.
        subst (λ (ended : Ended). Means call ended reply.text) (sym is.0)
        (while_growing (record {
          line = line;
          m = m;
          names = numbers;
          has = record {
            named = has;
            keeps = no_rule m numbers
                (λ rule e. let no : ungrown.Wide path spot ≡ ungrown.Rule rule = told rule e in cc);
          };
          branches = is_here (count before now) call line at;
          comes = cause.0;
          written = subst (λ (l : ℕ). IsWrittenUpTo l m (map branch_of path)) (sym at.limit_is) cause.1;
          wide = subst (λ (l : ℕ). IsWideIn l (box m (map branch_of path)) spot) (sym at.limit_is) cause.2;
          raised = at.raised rose;
          printed = is.1;
        }))
    stop_answers before now ungrown.Memory reply cause rose told is = absurd is

    pub stopped_answers : (before now : ℕ) (s : TreeStop) (r : Result Reply Want) → HasCause limit m numbers s
        → RoseIfWide before now s
        → ((rule : ℕ) → whole_rule m numbers ≡ Some rule → s ≡ ungrown.Rule rule) → IfOk r (RepliesUngrown m s)
        → IfOk r (AnswersVariables limit (count before now) m verb numbers)
    stopped_answers before now s (Err want) cause rose told is = tt
    stopped_answers before now s (Ok reply) cause rose told is = stop_answers before now s reply cause rose told is

  -- what a stop names is the model's
  pub stop_named : (numbers : List ℕ) (s : TreeStop)
      → ((rule : ℕ) → whole_rule m numbers ≡ Some rule → s ≡ ungrown.Rule rule)
      → HasCause limit m numbers s → IsUngrownOf m s
  stop_named numbers (ungrown.Rule rule) told cause = tt
  stop_named numbers (ungrown.EmptySet weights) told cause = sym (length-map weights of_int) ∙ cause.1.shown.shows.count
  stop_named numbers (ungrown.Wide path spot) told cause =
      let keeps : whole_rule m numbers ≡ None =
      no_rule m numbers (λ rule e. let no : ungrown.Wide path spot ≡ ungrown.Rule rule = told rule e in cc)
      in
      let bounded : KeepsBothBounds m numbers = kept_bounds m numbers keeps in
      let allowed : IsAllowedPath m numbers (map branch_of path) =
      comes_allowed m numbers start cause.0.0 (map branch_of path) cause.0.1 in (
        box_spot limit m numbers (map branch_of path) spot bounded allowed cause.2,
        path_columns numbers m m path bounded allowed,
      )
  stop_named numbers ungrown.Memory told cause = tt

  -- ---- a list of names
  pub variables_answer : (wides : Count) (verb : Verb) (names : List ℕ) (numbers : List ℕ) (r : Result Reply Want)
      → AreVariables m (parts_of names) numbers → IfOk r (AnswersVariables limit wides m verb numbers)
      → IfOk r (AnswersNames limit wides m verb names)
  variables_answer wides verb names numbers (Err want) are h = tt
  variables_answer wides verb names numbers (Ok reply) are h = λ call line at given.
      h call line at (record { model = given.0; names = parts_of names; told = given.1; variables = are })

  pub no_variables_answer : (wides : Count) (verb : Verb) (names : List ℕ) (r : Result Reply Want) → IsBranching verb
      → ((numbers : List ℕ) → AreVariables m (parts_of names) numbers → ⊥)
      → IfOk r (Replies (Whole 61) (whole_fault_text 61))
      → IfOk r (AnswersNames limit wides m verb names)
  no_variables_answer wides verb names (Err want) is_branching none is = tt
  no_variables_answer wides verb names (Ok reply) is_branching none is = λ call line at given.
      subst (λ (ended : Ended). Means call ended reply.text) (sym is.0)
      (record {
        line = line;
        m = m;
        breaks = no_variables (parts_of names) given.0 given.1 none refl;
        printed = is.1;
      })

  -- the command has such a list among its own words
  pub names_answer : (wides : Count) (line : Line) (texts : Texts) (words : List Word) (names : Word)
      (r : Result Reply Want) → IsBranching line.verb
      → line.own ≡ words
      → ((word : Word) → word_of own.Names (own_of line.verb) words ≡ Some word → names ≡ word)
      → IfOk r (AnswersNames limit wides m line.verb names)
      → IfOk r (AnswersModel limit wides m line texts)
  names_answer wides line texts words names (Err want) here same told h = tt
  names_answer wides line texts words names (Ok reply) here same told h = λ call at came has.
      h call line at (
        has,
        record {
          word = names;
          told = own_told call line line.verb own.Names words names refl came.spelled (has_names line.verb here) same
              told;
          parts = refl;
        },
      )
