-- The answers of `checktree`, from what the search for names, the reading of a tree and its check answer.
use Rattle.std.proofs.Common.{◌≡◌, ◌≤◌, ℕ, List, map, Some, None, true, Result, Ok, Err, IfOk, refl, subst, sym}
use Rattle.rob_branch.specs.Verdicts.{IsAccepted, IsRejectedAt, IsTooWideAt, IsVerdict, OnAccepted, RoseIfTooWide}
use Rattle.rob_meaning.specs.RobustModel.{RobustModel}
use Rattle.rob_number.specs.declared.memory.Memory.{Memory as Want}
use Rattle.rob_reach.proofs.VerdictLemmas.{fault_refuses}
use Rattle.rob_reach.specs.Ranges.{whole_rule}
use Rattle.rob_reach.specs.Trees.{ProvesTree, Tree}
use Rattle.rob_reach.specs.WholeStatus.{HasWholeStatus}
use Rattle.rob_tree.specs.Reading.{Breaks, TreeFits}
use Rattle.rob_tree.specs.Shape.{HasTreeShape}
use Rattle.rob_tree.specs.TreeText.{IsTextOfTree}
use Rattle.rob_tree.specs.View.{branch_of}
use Rattle.rob_tree.specs.declared.verdict.LeafFault.{LeafFault}
use Rattle.rob_tree.specs.declared.verdict.TreeVerdict.{TreeVerdict}
use Rattle.rob_tree.specs.declared.verdict.TreeVerdict.TheVariants as verdict
use Rattle.rob_top.proofs.Fetching.OwnLemmas.{file_came, has_kind, own_told}
use Rattle.rob_number.proofs.CountLemmas.{rose_later}
use Rattle.rob_top.proofs.Meaning.WorkLemmas.{call_of_verb, call_within}
use Rattle.rob_commands.specs.Answers.{tree_fault_text, whole_fault_text}
use Rattle.rob_top.specs.Branched.{no_ranges, no_variables}
use Rattle.rob_top.specs.Calls.{Count, count}
use Rattle.rob_top.specs.Files.{HasFile, word_of}
use Rattle.rob_top.specs.Headline.{Means}
use Rattle.rob_top.specs.Inputs.{AreVariables}
use Rattle.rob_commands.specs.Replies.{Replies}
use Rattle.rob_top.specs.TreeWork.{AnswersTree, AnswersTreeFile, AnswersTreeNames, AnswersTreeNumbers, RepliesVerdict}
use Rattle.rob_top.specs.Work.{AnswersModel}
use Rattle.rob_top.specs.Ways.{a_tree, while_checking}
use Rattle.rob_commands.specs.declared.ended.Ended.{Ended}
use Rattle.rob_commands.specs.declared.ended.Ended.TheVariants.{Whole, Tree as TreeRule}
use Rattle.rob_top.specs.declared.files.Texts.{Texts}
use Rattle.rob_commands.specs.declared.reply.Reply.{Reply}
use Rattle.rob_words.specs.Commands.{Line}
use Rattle.rob_words.specs.Names.{parts_of}
use Rattle.rob_words.specs.Values.{Word}
use Rattle.rob_words.specs.Verbs.{own_of}
use Rattle.rob_words.specs.declared.verb.Own.{Own}
use Rattle.rob_words.specs.declared.verb.Own.TheVariants as own
use Rattle.rob_words.specs.declared.verb.Verb.{Verb}
use Rattle.rob_words.specs.declared.verb.Verb.TheVariants.{CheckTree}

-- a tree that is rejected doesn't prove
pub rejected_not : (limit : ℕ) (m : RobustModel) (names : List ℕ) (t : Tree) (number : ℕ) (told : LeafFault)
    → HasTreeShape limit m names t
    → IsRejectedAt limit m names t number told → ProvesTree m names t → ⊥
rejected_not limit m names t number told shape h = fault_refuses m names t shape.tree h.condition h.first

module _ (limit : ℕ) (m : RobustModel) where
  -- ---- the verdict on a tree
  module _ (numbers : List ℕ) (t : Tree) where
    reply_answers : (before now : ℕ) (v : TreeVerdict) (reply : Reply) → IsVerdict limit m numbers t v
        → OnAccepted v (HasWholeStatus m numbers t.status t.value) → RoseIfTooWide before now v
        → RepliesVerdict m t v reply
        → AnswersTree limit (count before now) m numbers t reply
    reply_answers before now verdict.Accepted reply h holds rose said = λ call line at read.
        subst (λ (ended : Ended). Means call ended reply.text) (sym said.0)
        (a_tree (record {
          line = line;
          m = m;
          names = numbers;
          t = t;
          read = read;
          accepted = subst (λ (l : ℕ). IsAccepted l m numbers t) (sym at.limit_is) h;
          holds = holds;
          printed = said.1;
        }))
    reply_answers before now (verdict.Rejected number told) reply h holds rose said = λ call line at read.
        subst (λ (ended : Ended). Means call ended reply.text) (sym said.0)
        (record {
          line = line;
          m = m;
          names = numbers;
          t = t;
          read = read;
          rejected = subst (λ (l : ℕ). IsRejectedAt l m numbers t number told) (sym at.limit_is) h;
          proves_not = rejected_not limit m numbers t number told
              (subst (λ (l : ℕ). HasTreeShape l m numbers t) at.limit_is read.text.shape) h;
          printed = said.1;
        })
    reply_answers before now (verdict.TooWide path spot) reply h holds rose said = λ call line at read.
        subst (λ (ended : Ended). Means call ended reply.text) (sym said.0)
        (while_checking (record {
          line = line;
          m = m;
          names = numbers;
          t = t;
          read = read;
          wide = subst (λ (l : ℕ). IsTooWideAt l m numbers t (map branch_of path) spot) (sym at.limit_is) h;
          raised = at.raised rose;
          printed = said.1;
        }))
    reply_answers before now verdict.Memory reply h holds rose said = absurd said

    pub verdict_answers : (before now : ℕ) (v : TreeVerdict) (r : Result Reply Want) → IsVerdict limit m numbers t v
        → OnAccepted v (HasWholeStatus m numbers t.status t.value) → RoseIfTooWide before now v
        → IfOk r (RepliesVerdict m t v)
        → IfOk r (AnswersTree limit (count before now) m numbers t)
    verdict_answers before now v (Err want) h holds rose said = tt
    verdict_answers before now v (Ok reply) h holds rose said = reply_answers before now v reply h holds rose said

    -- ---- the text of a tree
    pub tree_answers : (before middle now : ℕ) (text : List ℕ) (r : Result Reply Want) → before ≤ middle
        → IsTextOfTree limit m numbers t text → TreeFits limit m t
        → IfOk r (AnswersTree limit (count middle now) m numbers t)
        → IfOk r (AnswersTreeFile limit (count before now) m numbers text)
    tree_answers before middle now text (Err want) least is fits h = tt
    tree_answers before middle now text (Ok reply) least is fits h = λ call line at file.
        h call line
        (call_within limit (count middle now) (count before now) CheckTree call line
        (rose_later before middle now least) at)
        (record {
          bytes = text;
          file = file;
          text = subst (λ (l : ℕ). IsTextOfTree l m numbers t text) (sym at.limit_is) is;
          fits = subst (λ (l : ℕ). TreeFits l m t) (sym at.limit_is) fits;
        })

  pub rule_answers : (wides : Count) (numbers text : List ℕ) (rule number : ℕ) (r : Result Reply Want)
      → Breaks limit m numbers text rule number → IfOk r (Replies (TreeRule rule number) (tree_fault_text rule number))
      → IfOk r (AnswersTreeFile limit wides m numbers text)
  rule_answers wides numbers text rule number (Err want) broken said = tt
  rule_answers wides numbers text rule number (Ok reply) broken said = λ call line at file.
      subst (λ (ended : Ended). Means call ended reply.text) (sym said.0)
      (record {
        line = line;
        m = m;
        names = numbers;
        bytes = text;
        file = file;
        breaks = subst (λ (l : ℕ). Breaks l m numbers text rule number) (sym at.limit_is) broken;
        printed = said.1;
      })

  -- ---- variables that are to take whole numbers
  pub ranges_answers : (wides : Count) (numbers text : List ℕ) (rule : ℕ) (r : Result Reply Want)
      → whole_rule m numbers ≡ Some rule
      → IfOk r (Replies (Whole rule) (whole_fault_text rule)) → IfOk r (AnswersTreeNumbers limit wides m numbers text)
  ranges_answers wides numbers text rule (Err want) broken said = tt
  ranges_answers wides numbers text rule (Ok reply) broken said = λ call line at given.
      subst (λ (ended : Ended). Means call ended reply.text) (sym said.0)
      (record { line = line; m = m; breaks = no_ranges numbers given.0 broken; printed = said.1 })

  pub kept_answers : (wides : Count) (numbers text : List ℕ) (r : Result Reply Want) → whole_rule m numbers ≡ None
      → IfOk r (AnswersTreeFile limit wides m numbers text) → IfOk r (AnswersTreeNumbers limit wides m numbers text)
  kept_answers wides numbers text (Err want) keeps h = tt
  kept_answers wides numbers text (Ok reply) keeps h = λ call line at given.
      h call line at (record {
        variables = record { named = given.0; keeps = keeps };
        is_checktree = at.verb_is;
        file = given.1;
      })

  pub numbers_answers : (wides : Count) (names numbers text : List ℕ) (r : Result Reply Want)
      → AreVariables m (parts_of names) numbers
      → IfOk r (AnswersTreeNumbers limit wides m numbers text) → IfOk r (AnswersTreeNames limit wides m names text)
  numbers_answers wides names numbers text (Err want) are h = tt
  numbers_answers wides names numbers text (Ok reply) are h = λ call line at given.
      h call line at (record { model = given.0; names = parts_of names; told = given.1; variables = are }, given.2)

  pub nameless_answers : (wides : Count) (names text : List ℕ) (r : Result Reply Want)
      → ((numbers : List ℕ) → AreVariables m (parts_of names) numbers → ⊥)
      → IfOk r (Replies (Whole 61) (whole_fault_text 61))
      → IfOk r (AnswersTreeNames limit wides m names text)
  nameless_answers wides names text (Err want) none said = tt
  nameless_answers wides names text (Ok reply) none said = λ call line at given.
      subst (λ (ended : Ended). Means call ended reply.text) (sym said.0)
      (record {
        line = line;
        m = m;
        breaks = no_variables (parts_of names) given.0 given.1 none refl;
        printed =
            said.1;
      })

  -- ---- the command is `checktree`, so a list of names and the file of a tree came
  own_kind : (verb : Verb) (kind : Own) → verb ≡ CheckTree → has_kind kind (own_of CheckTree) ≡ true
      → has_kind kind (own_of verb) ≡ true
  own_kind verb kind e h = subst (λ (v : Verb). has_kind kind (own_of v) ≡ true) (sym e) h

  pub texts_answers : (wides : Count) (line : Line) (texts : Texts) (words : List Word) (names : Word)
      (text : List ℕ) (r : Result Reply Want)
      → line.verb ≡ CheckTree → line.own ≡ words
      → ((word : Word) → word_of own.Names (own_of line.verb) words ≡ Some word → names ≡ word)
      → text ≡ texts.tree.items
      → IfOk r (AnswersTreeNames limit wides m names text) → IfOk r (AnswersModel limit wides m line texts)
  texts_answers wides line texts words names text (Err want) here same told alike h = tt
  texts_answers wides line texts words names text (Ok reply) here same told alike h = λ call at came has.
      h call line (call_of_verb limit wides line.verb CheckTree call line here at) (
        has,
        record {
          word = names;
          told = own_told call line line.verb own.Names words names refl came.spelled
              (own_kind line.verb own.Names here refl) same told;
          parts = refl;
        },
        subst (λ (list : List ℕ). HasFile call line own.Tree list) (sym alike)
            (file_came call line texts own.Tree _ refl came (own_kind line.verb own.Tree here refl)),
      )
