-- Which answer has to come at `checktree`, where what is known of the files decides.
use Rattle.std.proofs.Common.{◌≡◌, ℕ, List, inl, inr, refl, ◌∙◌, ap, subst, ◌⊎◌}
use Rattle.rob_branch.proofs.OneSpotLemmas.{passed_narrow}
use Rattle.rob_branch.specs.Verdicts.{IsAccepted, IsPassed, IsWideInLeaf, NoneWide}
use Rattle.rob_meaning.specs.RobustModel.{RobustModel}
use Rattle.rob_model.specs.declared.place.Spot.{Spot}
use Rattle.rob_reach.specs.Ranges.{KeepsBothBounds}
use Rattle.rob_reach.specs.Trees.{ProvesTree, Tree, leaves}
use Rattle.rob_reach.proofs.VerdictLemmas.{at_place}
use Rattle.rob_tree.proofs.OneText.TreeLaws as laws
use Rattle.rob_tree.specs.Reading.{Breaks, TreeFits}
use Rattle.rob_tree.specs.TreeText.{IsTextOfTree}
use Rattle.rob_tree.specs.Shape.{HasTreeShape}
use Rattle.rob_top.proofs.Meaning.BranchingLemmas.{kept_bounds}
use Rattle.rob_top.proofs.Telling.NamingLemmas.{breaking_verb}
use Rattle.rob_top.proofs.Origins.ReadOnceLemmas.{well, named, in_words, most}
use Rattle.rob_top.proofs.Origins.ProgressLemmas.{file_once}
use Rattle.rob_top.proofs.Meaning.TreeCheckLemmas.{rejected_not}
use Rattle.rob_top.proofs.Origins.TreeOriginLemmas.{TreeOrigin, breaks_names, breaks_text, judges_tree}
use Rattle.rob_top.proofs.Coming.ComingLemmas.{Comes, comes_ends}
use Rattle.rob_top.proofs.Coming.TrueAnswerLemmas.{first_of_two, unformed_origin}
use Rattle.rob_top.proofs.Coming.WholeAnswerLemmas.{branching_decides, model_of, no_break, one_rule, whole_once}
use Rattle.rob_top.specs.Branched.{BreaksWhole}
use Rattle.rob_top.specs.Calls.{Call, Known, limit_of}
use Rattle.rob_top.specs.Commands as works
use Rattle.rob_top.specs.Commands.{IsBranching, work_of}
use Rattle.rob_top.specs.Endings.{EndsAs, IsOutside, IsTreeAnswer, NamesFault, NamesWidth}
use Rattle.rob_top.specs.Headline.{Means}
use Rattle.rob_top.specs.Inputs.{HasModel}
use Rattle.rob_top.specs.TreeChecked.{HasTree, HasTreeFile}
use Rattle.rob_top.specs.TreeEnds.{MustEndTree}
use Rattle.rob_commands.specs.declared.ended.Ended.{Ended}
use Rattle.rob_commands.specs.declared.ended.Ended.TheVariants.{Accepted, Memory, ReadFault, Tree as TreeRule, Whole}
use Rattle.rob_words.specs.Commands.{Line}
use Rattle.rob_words.specs.declared.verb.Own.TheVariants as own
use Rattle.rob_words.specs.declared.verb.Verb.TheVariants.{CheckTree}

module _ (call : Call) (known : Known call.source) (line : Line) (m : RobustModel) where
  -- the command checks a tree, so that stands behind its answer
  tree_origin : HasModel call line m → line.verb ≡ CheckTree → (ended : Ended) (text : List ℕ) → Means call ended text
      → TreeOrigin call line m ended ⊎ ((ended ≡ ReadFault) ⊎ (ended ≡ Memory))
  tree_origin has is = unformed_origin call known line m has works.tree_checking refl (ap work_of is)

  -- ---- a broken rule of the named variables
  tree_rule_decides : (rule : ℕ) → line.verb ≡ CheckTree → BreaksWhole call line m rule
      → (ended : Ended) (text : List ℕ)
      → Means call ended text → (ended ≡ Whole rule) ⊎ ((ended ≡ ReadFault) ⊎ (ended ≡ Memory))
  tree_rule_decides rule is broken ended text means =
      first_of_two by (tree_origin (model_of call known line m rule broken) is ended text means)
    where
      by : TreeOrigin call line m ended → ended ≡ Whole rule
      by (breaks_names other h e) = e ∙ ap (λ r. Whole r) (one_rule call known line m other rule h broken)
      by (breaks_text names bytes other number h breach e) =
          absurd (no_break call known line m rule names broken h.variables)
      by (judges_tree names t h answer) = absurd (no_break call known line m rule names broken h.file.variables)

  pub breaking_decides : (rule : ℕ) → BreaksWhole call line m rule → (ended : Ended) (text : List ℕ)
      → Means call ended text → (ended ≡ Whole rule) ⊎ ((ended ≡ ReadFault) ⊎ (ended ≡ Memory))
  breaking_decides rule broken = by (breaking_verb call line m rule broken)
    where
      by : IsBranching line.verb ⊎ (line.verb ≡ CheckTree) → (ended : Ended) (text : List ℕ)
          → Means call ended text → (ended ≡ Whole rule) ⊎ ((ended ≡ ReadFault) ⊎ (ended ≡ Memory))
      by (inl is) = branching_decides call known line m rule is broken
      by (inr is) = tree_rule_decides rule is broken

  -- ---- the text of a tree
  same_file : (names others bytes more : List ℕ) → HasTreeFile call line m names bytes
      → HasTreeFile call line m others more → bytes ≡ more
  same_file names others bytes more h k = file_once call line own.Tree bytes more known h.file k.file

  same_names : (names others bytes more : List ℕ) → HasTreeFile call line m names bytes
      → HasTreeFile call line m others more
      → names ≡ others
  same_names names others bytes more h k = whole_once call known line m names others h.variables k.variables

  module _ (names bytes : List ℕ) (file : HasTreeFile call line m names bytes) where
    has_model : HasModel call line m
    has_model = file.variables.named.model

    bounds : KeepsBothBounds m names
    bounds = kept_bounds m names file.variables.keeps

    -- one that is the text of a tree breaks no rule
    no_breach : (t : Tree) (rule number : ℕ) → IsTextOfTree (limit_of line) m names t bytes
        → TreeFits (limit_of line) m t
        → Breaks (limit_of line) m names bytes rule number → ⊥
    no_breach t rule number is fits breach =
        laws.breaks_none m (limit_of line) names (well call line m has_model) (named call line m has_model)
        (in_words call line m has_model) (most call line m) bounds t bytes is fits rule number breach

    -- it is that of one tree
    one_tree : (t u : Tree) → IsTextOfTree (limit_of line) m names t bytes
        → IsTextOfTree (limit_of line) m names u bytes
        → TreeFits (limit_of line) m t → TreeFits (limit_of line) m u → t ≡ u
    one_tree t u =
        laws.read_once m (limit_of line) names (well call line m has_model) (named call line m has_model)
        (in_words call line m has_model) (most call line m) bounds t u bytes

    -- and one text breaks one rule, at one line
    one_breach : (rule number other line_number : ℕ) → Breaks (limit_of line) m names bytes rule number
        → Breaks (limit_of line) m names bytes other line_number → (rule ≡ other) × (number ≡ line_number)
    one_breach =
        laws.one_cause m (limit_of line) names (well call line m has_model) (named call line m has_model)
        (in_words call line m has_model) (most call line m) bounds bytes

    -- the same of what another reading of it says
    breach_here : (others more : List ℕ) (rule number : ℕ) → HasTreeFile call line m others more
        → Breaks (limit_of line) m others more rule number → Breaks (limit_of line) m names bytes rule number
    breach_here others more rule number k breach =
        subst (λ (ns : List ℕ). Breaks (limit_of line) m ns bytes rule number)
        (same_names others names more bytes k file)
        (subst (λ (list : List ℕ). Breaks (limit_of line) m others list rule number)
        (same_file others names more bytes k file) breach)

    text_here : (others : List ℕ) (u : Tree) (k : HasTree call line m others u)
        → IsTextOfTree (limit_of line) m names u bytes
    text_here others u k =
        subst (λ (ns : List ℕ). IsTextOfTree (limit_of line) m ns u bytes)
        (same_names others names k.bytes bytes k.file file)
        (subst (λ (list : List ℕ). IsTextOfTree (limit_of line) m others u list)
        (same_file others names k.bytes bytes k.file file) k.text)

    pub tree_broken_decides : (rule number : ℕ) → Breaks (limit_of line) m names bytes rule number
        → (ended : Ended) (text : List ℕ)
        → Means call ended text → (ended ≡ TreeRule rule number) ⊎ ((ended ≡ ReadFault) ⊎ (ended ≡ Memory))
    tree_broken_decides rule number broken ended text means =
        first_of_two by (tree_origin has_model file.is_checktree ended text means)
      where
        by : TreeOrigin call line m ended → ended ≡ TreeRule rule number
        by (breaks_names other h e) = absurd (no_break call known line m other names h file.variables)
        by (breaks_text others more r n h breach e) =
            let one = one_breach r n rule number (breach_here others more r n h breach) broken in
            e ∙ ap (λ k. TreeRule k n) one.0 ∙ ap (λ k. TreeRule rule k) one.1
        by (judges_tree others u h answer) = absurd (no_breach u rule number (text_here others u h) h.fits broken)

    pub tree_verdict_decides : (t : Tree) → IsTextOfTree (limit_of line) m names t bytes → TreeFits (limit_of line) m t
        → (ended : Ended) (text : List ℕ) → Means call ended text → IsTreeAnswer (limit_of line) m names t ended
    tree_verdict_decides t is fits ended text means = all (tree_origin has_model file.is_checktree ended text means)
      where
        by : TreeOrigin call line m ended → IsTreeAnswer (limit_of line) m names t ended
        by (breaks_names other h e) = absurd (no_break call known line m other names h file.variables)
        by (breaks_text others more r n h breach e) =
            absurd (no_breach t r n is fits (breach_here others more r n h breach))
        by (judges_tree others u h answer) =
            subst (λ (ns : List ℕ). IsTreeAnswer (limit_of line) m ns t ended)
            (same_names others names h.bytes bytes h.file file)
            (subst (λ (x : Tree). IsTreeAnswer (limit_of line) m others x ended)
            (one_tree u t (text_here others u h) is h.fits fits) answer)

        all : TreeOrigin call line m ended ⊎ ((ended ≡ ReadFault) ⊎ (ended ≡ Memory))
            → IsTreeAnswer (limit_of line) m names t ended
        all (inl origin) = by origin
        all (inr (inl e)) = inr (inr (inr (inl e)))
        all (inr (inr e)) = inr (inr (inr (inr (inr e))))

-- ---- what the verdict is where the tree proves, and where it doesn't
module _ (limit : ℕ) (m : RobustModel) (names : List ℕ) (t : Tree)
    (shape : HasTreeShape limit m names t) (ended : Ended) where
  no_fault : ProvesTree m names t → NamesFault limit m names t ended → ⊥
  no_fault proves h = rejected_not limit m names t h.0 h.1 shape h.2 proves

  pub proved_tree : ProvesTree m names t → IsTreeAnswer limit m names t ended → EndsAs Accepted ended
      ⊎ NamesWidth limit m names t ended
  proved_tree proves (inl h) = inl (inl h.1)
  proved_tree proves (inr (inl h)) = absurd (no_fault proves h)
  proved_tree proves (inr (inr (inl h))) = inr h
  proved_tree proves (inr (inr (inr h))) = inl (inr h)

  pub accepted_tree : IsAccepted limit m names t → IsTreeAnswer limit m names t ended → EndsAs Accepted ended
  accepted_tree accepted answer = by (proved_tree accepted.proves answer)
    where
      no_width : NamesWidth limit m names t ended → ⊥
      no_width h =
          let wide = h.2 in
          passed_narrow limit wide.leaf h.1 wide.wide
          (at_place (IsPassed limit) (leaves m t.root) wide.number wide.leaf wide.here accepted.passed)

      by : EndsAs Accepted ended ⊎ NamesWidth limit m names t ended → EndsAs Accepted ended
      by (inl h) = h
      by (inr h) = absurd (no_width h)

  pub unproved_tree : (ProvesTree m names t → ⊥) → IsTreeAnswer limit m names t ended
      → NamesFault limit m names t ended ⊎ (NamesWidth limit m names t ended ⊎ IsOutside ended)
  unproved_tree not (inl h) = absurd (not h.0.proves)
  unproved_tree not (inr h) = h

  -- and where no number of the check is wide
  no_width_told : NoneWide limit m t → NamesWidth limit m names t ended → ⊥
  no_width_told none h =
      let wide = h.2 in
      at_place (λ l. (spot : Spot) → IsWideInLeaf limit l spot → ⊥) (leaves m t.root) wide.number wide.leaf
      wide.here none h.1 wide.wide

  pub judged_tree : NoneWide limit m t → (ProvesTree m names t → ⊥) → IsTreeAnswer limit m names t ended
      → NamesFault limit m names t ended ⊎ IsOutside ended
  judged_tree none not answer = by (unproved_tree not answer)
    where
      by : NamesFault limit m names t ended ⊎ (NamesWidth limit m names t ended ⊎ IsOutside ended)
          → NamesFault limit m names t ended ⊎ IsOutside ended
      by (inl h) = inl h
      by (inr (inl h)) = absurd (no_width_told none h)
      by (inr (inr h)) = inr h

-- ---- all of it
module _ (call : Call) (known : Known call.source) (ended : Ended) (comes : Comes call ended) where
  tree_verdict_ends : (line : Line) (m : RobustModel) (names : List ℕ) (t : Tree) → HasTree call line m names t
      → IsTreeAnswer (limit_of line) m names t ended
  tree_verdict_ends line m names t has = by comes
    where
      by : Comes call ended → IsTreeAnswer (limit_of line) m names t ended
      by (inl h) = tree_verdict_decides call known line m names has.bytes has.file t has.text has.fits ended h.0 h.1
      by (inr h) = inr (inr (inr (inr h)))

  pub tree_ends : MustEndTree call ended
  tree_ends = record {
    broken = λ line m names bytes rule number has breaks.
        comes_ends call (TreeRule rule number) ended comes
        (tree_broken_decides call known line m names bytes has rule number breaks ended);
    verdict = tree_verdict_ends;
    proved = λ line m names t has proves.
        proved_tree (limit_of line) m names t has.text.shape ended proves (tree_verdict_ends line m names t has);
    accepted = λ line m names t has accepted.
        accepted_tree (limit_of line) m names t has.text.shape ended accepted (tree_verdict_ends line m names t has);
    rejected = λ line m names t has not.
        unproved_tree (limit_of line) m names t has.text.shape ended not (tree_verdict_ends line m names t has);
    judged = λ line m names t has none not.
        judged_tree (limit_of line) m names t has.text.shape ended none not (tree_verdict_ends line m names t has);
  }
