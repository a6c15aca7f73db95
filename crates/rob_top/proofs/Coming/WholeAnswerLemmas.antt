-- Which answer has to come at `whole` and `tree`, where what is known of the files decides.
use Rattle.std.proofs.Common.{◌≡◌, ℕ, pos, List, [], ◌∷◌, map, Some, None, inl, inr, refl, sym, ◌∙◌, ap, subst, ◌⊎◌}
use Rattle.rob_algebra.specs.Fraction.{Fraction, of_int}
use Rattle.rob_branch.proofs.OneSpotLemmas.{first_once, none_first}
use Rattle.rob_branch.specs.Growth.{IsWrittenUpTo}
use Rattle.rob_dualize.specs.Models.{IsWideIn}
use Rattle.rob_meaning.specs.Certificates.{Status, optimal, infeasible, unbounded}
use Rattle.rob_meaning.specs.RobustModel.{RobustModel}
use Rattle.rob_meaning.specs.UncertaintySet.{Admits, IsEmptySet}
use Rattle.rob_model.specs.declared.place.Spot.{Spot}
use Rattle.rob_reach.proofs.StatusLemmas.{infeasible_not_unbounded, optimal_not_infeasible, optimal_not_unbounded}
use Rattle.rob_reach.specs.Boxes.{Branch, box}
use Rattle.rob_reach.specs.Growing.{Visits, start}
use Rattle.rob_reach.specs.Ranges.{whole_rule}
use Rattle.rob_reach.specs.WholeStatus.{HasWholeStatus}
use Rattle.rob_reach_ends.proofs.EndingLemmas.{whole_status}
use Rattle.rob_sets.specs.FirstWide.{IsFirstWide}
use Rattle.rob_tree.specs.View.{branch_of}
use Rattle.rob_tree.specs.declared.tree.Branch as declared
use Rattle.rob_top.proofs.Meaning.BeforeLemmas.{before_it}
use Rattle.rob_top.proofs.Meaning.BranchingLemmas.{kept_bounds}
use Rattle.rob_top.proofs.Origins.OriginLemmas.{WholeOrigin, breaks, grows, inside_admitted, shows_none, wide_box}
use Rattle.rob_top.proofs.Telling.NumberingLemmas.{one_numbering}
use Rattle.rob_top.proofs.Origins.ReadOnceLemmas.{named, well}
use Rattle.rob_top.proofs.Coming.TrueAnswerLemmas.{first_of_two, unformed_origin}
use Rattle.rob_top.specs.Branched.{BreaksWhole, no_ranges, no_variables}
use Rattle.rob_top.specs.Calls.{Call, Known, limit_of}
use Rattle.rob_top.specs.Commands as works
use Rattle.rob_top.specs.Commands.{IsBranching}
use Rattle.rob_top.specs.Endings.{IsEmptyWholeAnswer, IsNarrowBelow, IsWholeAnswer}
use Rattle.rob_top.specs.Headline.{Means}
use Rattle.rob_top.specs.Inputs.{AreVariables, HasModel, HasVariables, HasWholeVariables, TellsNames}
use Rattle.rob_commands.specs.Replies.{ended_of}
use Rattle.rob_commands.specs.declared.ended.Ended.{Ended}
use Rattle.rob_commands.specs.declared.ended.Ended.TheVariants.{EmptySet, WideNode, Whole, ReadFault, Memory}
use Rattle.rob_words.specs.Commands.{Line}
use Rattle.rob_words.specs.Names.{parts_of}
use Rattle.rob_words.specs.Values.{Word}
use Rattle.rob_elab.specs.Written.{judged, IsWritten}

-- a model has one status over plans with whole numbers
pub same_whole_status : (m : RobustModel) (names : List ℕ) (a b : Status) (v w : Fraction) → HasWholeStatus m names a v
    → HasWholeStatus m names b w → a ≡ b
same_whole_status m names optimal optimal v w h k = refl
same_whole_status m names optimal infeasible v w h k = absurd (optimal_not_infeasible m names v h k)
same_whole_status m names optimal unbounded v w h k = absurd (optimal_not_unbounded m names v h k)
same_whole_status m names infeasible optimal v w h k = absurd (optimal_not_infeasible m names w k h)
same_whole_status m names infeasible infeasible v w h k = refl
same_whole_status m names infeasible unbounded v w h k = absurd (infeasible_not_unbounded m names h k)
same_whole_status m names unbounded optimal v w h k = absurd (optimal_not_unbounded m names w k h)
same_whole_status m names unbounded infeasible v w h k = absurd (infeasible_not_unbounded m names k h)
same_whole_status m names unbounded unbounded v w h k = refl

-- the words tell one list of names
one_list : (line : Line) (a b : List Word) → TellsNames line a → TellsNames line b → a ≡ b
one_list line a b h k =
    let both : Some h.word ≡ Some k.word = sym h.told ∙ k.told in
    let same : h.word ≡ k.word = cc in
    h.parts ∙ ap parts_of same ∙ sym k.parts

-- a search that goes on behind a branch has a certificate, so some scenario is admitted
path_admits : (m : RobustModel) (names : List ℕ) (b : Branch) (path : List Branch) → Visits m names start (b ∷ path)
    → (u : List Fraction) × Admits m u
path_admits m names b path h =
    let c = h.1.0 in (c.inside, inside_admitted m c c.status h.1.3.proves)

module _ (call : Call) (known : Known call.source) (line : Line) (m : RobustModel) where
  variables_once : (a b : List ℕ) → HasVariables call line m a → HasVariables call line m b → a ≡ b
  variables_once a b h k =
      let list : h.names ≡ k.names = one_list line h.names k.names h.told k.told in
      one_numbering m (well call line m h.model) (named call line m h.model) k.names a b
      (subst (λ (names : List Word). AreVariables m names a) list h.variables) k.variables

  pub whole_once : (a b : List ℕ) → HasWholeVariables call line m a → HasWholeVariables call line m b → a ≡ b
  whole_once a b h k = variables_once a b h.named k.named

  -- one rule is broken first
  named_not : (names : List Word) (numbers : List ℕ) → TellsNames line names
      → ((ns : List ℕ) → AreVariables m names ns → ⊥)
      → HasVariables call line m numbers → ⊥
  named_not names numbers told none h =
      none numbers
      (subst (λ (list : List Word). AreVariables m list numbers)
      (one_list line h.names names h.told told) h.variables)

  pub one_rule : (rule other : ℕ) → BreaksWhole call line m rule → BreaksWhole call line m other → rule ≡ other
  one_rule rule other (no_variables names has told none e) (no_variables list has_too told_too none_too d) = e ∙ sym d
  one_rule rule other (no_variables names has told none e) (no_ranges numbers h d) =
      absurd (named_not names numbers told none h)
  one_rule rule other (no_ranges numbers h e) (no_variables names has told none d) =
      absurd (named_not names numbers told none h)
  one_rule rule other (no_ranges a h e) (no_ranges b k d) =
      let both : Some rule ≡ Some other =
      sym e ∙ ap (λ (ns : List ℕ). whole_rule m ns) (variables_once a b h k) ∙ d
      in
      cc

  -- and none where they keep them
  pub no_break : (rule : ℕ) (numbers : List ℕ) → BreaksWhole call line m rule
      → HasWholeVariables call line m numbers → ⊥
  no_break rule numbers (no_variables names has told none e) h = named_not names numbers told none h.named
  no_break rule numbers (no_ranges other k e) h =
      let no : Some rule ≡ None =
      sym e ∙ ap (λ (ns : List ℕ). whole_rule m ns) (variables_once other numbers k h.named) ∙ h.keeps in cc

  -- the command grows a tree, so that stands behind its answer
  pub whole_origin : HasModel call line m → IsBranching line.verb
      → (ended : Ended) (text : List ℕ) → Means call ended text
      → WholeOrigin call line m ended ⊎ ((ended ≡ ReadFault) ⊎ (ended ≡ Memory))
  whole_origin has is = unformed_origin call known line m has works.branching refl is

  pub model_of : (rule : ℕ) → BreaksWhole call line m rule → HasModel call line m
  model_of rule (no_variables names has told none e) = has
  model_of rule (no_ranges numbers h e) = h.model

  -- ---- a broken rule
  pub branching_decides : (rule : ℕ) → IsBranching line.verb → BreaksWhole call line m rule
      → (ended : Ended) (text : List ℕ)
      → Means call ended text → (ended ≡ Whole rule) ⊎ ((ended ≡ ReadFault) ⊎ (ended ≡ Memory))
  branching_decides rule is broken ended text means =
      first_of_two by (whole_origin (model_of rule broken) is ended text means)
    where
      by : WholeOrigin call line m ended → ended ≡ Whole rule
      by (breaks other h e) = e ∙ ap (λ r. Whole r) (one_rule other rule h broken)
      by (grows names status v u has written admitted holds e) = absurd (no_break rule names broken has)
      by (shows_none names weights has written shown e) = absurd (no_break rule names broken has)
      by (wide_box names path spot has written comes wide e) = absurd (no_break rule names broken has)

  module _ (names : List ℕ) (has : HasWholeVariables call line m names) (is : IsBranching line.verb) where
    -- ---- none is broken
    status_answer : (status : Status) (v : Fraction) → HasWholeStatus m names status v
        → IsWholeAnswer (limit_of line) m names (ended_of status)
    status_answer optimal v h = (v, h)
    status_answer infeasible v h = (v, h)
    status_answer unbounded v h = (v, h)

    answer_is : (ended other : Ended) → ended ≡ other → IsWholeAnswer (limit_of line) m names other
        → IsWholeAnswer (limit_of line) m names ended
    answer_is ended other e h = subst (λ (x : Ended). IsWholeAnswer (limit_of line) m names x) (sym e) h

    pub whole_decides : (ended : Ended) (text : List ℕ) → Means call ended text
        → IsWholeAnswer (limit_of line) m names ended
    whole_decides ended text means = all (whole_origin has.named.model is ended text means)
      where
        by : WholeOrigin call line m ended → IsWholeAnswer (limit_of line) m names ended
        by (breaks rule h e) = absurd (no_break rule names h has)
        by (grows others status v u other written admitted holds e) =
            answer_is ended (ended_of status) e
            (status_answer status v
            (subst (λ (ns : List ℕ). HasWholeStatus m ns status v) (whole_once others names other has) holds))
        by (shows_none others weights other written shown e) = answer_is ended (EmptySet weights) e shown.empty
        by (wide_box others path spot other written comes wide e) =
            answer_is ended (WideNode path spot) e (
              subst (λ (ns : List ℕ). Visits m ns start (map branch_of path)) (whole_once others names other has) comes,
              wide,
            )

        all : WholeOrigin call line m ended ⊎ ((ended ≡ ReadFault) ⊎ (ended ≡ Memory))
            → IsWholeAnswer (limit_of line) m names ended
        all (inl origin) = by origin
        all (inr (inl e)) = answer_is ended ReadFault e (inl refl)
        all (inr (inr e)) = answer_is ended Memory e (inr (inr refl))

    -- ---- a number of the set rows and forms is wide
    pub whole_wide_decides : (spot : Spot) → IsFirstWide (limit_of line) m (judged m) spot
        → (ended : Ended) (text : List ℕ)
        → Means call ended text → (ended ≡ WideNode [] spot) ⊎ ((ended ≡ ReadFault) ⊎ (ended ≡ Memory))
    whole_wide_decides spot first ended text means = first_of_two by (whole_origin has.named.model is ended text means)
      where
        unwritten : IsWritten (limit_of line) m → ⊥
        unwritten written = none_first (limit_of line) m (judged m) spot written first

        at_root : (path : List declared.Branch) (other : Spot) → IsWrittenUpTo (limit_of line) m (map branch_of path)
            → IsWideIn (limit_of line) (box m (map branch_of path)) other → WideNode path other ≡ WideNode [] spot
        at_root [] other written (inl h) =
            ap (λ (s : Spot). WideNode [] s) (first_once (limit_of line) m (judged m) other spot h first)
        at_root [] other written (inr h) = absurd (unwritten h.0)
        at_root (b ∷ path) other written wide = absurd (unwritten written.0)

        by : WholeOrigin call line m ended → ended ≡ WideNode [] spot
        by (breaks rule h e) = absurd (no_break rule names h has)
        by (grows others status v u other written admitted holds e) = absurd (unwritten written)
        by (shows_none others weights other written shown e) = absurd (unwritten written)
        by (wide_box others path found other written comes wide e) = e ∙ at_root path found written wide

    -- ---- no scenario is admitted
    empty_is : (ended other : Ended) → ended ≡ other → IsEmptyWholeAnswer (limit_of line) m other
        → IsEmptyWholeAnswer (limit_of line) m ended
    empty_is ended other e h = subst (λ (x : Ended). IsEmptyWholeAnswer (limit_of line) m x) (sym e) h

    empty_box : IsEmptySet m → (others : List ℕ) (path : List declared.Branch) (spot : Spot)
        → Visits m others start (map branch_of path)
        → IsWideIn (limit_of line) (box m (map branch_of path)) spot
        → IsEmptyWholeAnswer (limit_of line) m (WideNode path spot)
    empty_box none others [] spot comes wide = (refl, before_it (limit_of line) m none spot wide)
    empty_box none others (b ∷ path) spot comes wide =
        let u = path_admits m others (branch_of b) (map branch_of path) comes in absurd (none u.0 u.1)

    pub whole_empty_decides : IsEmptySet m → (ended : Ended) (text : List ℕ) → Means call ended text
        → IsEmptyWholeAnswer (limit_of line) m ended
    whole_empty_decides none ended text means = all (whole_origin has.named.model is ended text means)
      where
        by : WholeOrigin call line m ended → IsEmptyWholeAnswer (limit_of line) m ended
        by (breaks rule h e) = absurd (no_break rule names h has)
        by (grows others status v u other written admitted holds e) = absurd (none u admitted)
        by (shows_none others weights other written shown e) = empty_is ended (EmptySet weights) e shown
        by (wide_box others path spot other written comes wide e) =
            empty_is ended (WideNode path spot) e (empty_box none others path spot comes wide)

        all : WholeOrigin call line m ended ⊎ ((ended ≡ ReadFault) ⊎ (ended ≡ Memory))
            → IsEmptyWholeAnswer (limit_of line) m ended
        all (inl origin) = by origin
        all (inr (inl e)) = empty_is ended ReadFault e (inl refl)
        all (inr (inr e)) = empty_is ended Memory e (inr (inr refl))

    -- ---- some scenario is, and no number is wide
    pub whole_status_decides : (u : List Fraction) → Admits m u → IsNarrowBelow (limit_of line) m names
        → (status : Status) (v : Fraction) → HasWholeStatus m names status v
        → (ended : Ended) (text : List ℕ) → Means call ended text
        → (ended ≡ ended_of status) ⊎ ((ended ≡ ReadFault) ⊎ (ended ≡ Memory))
    whole_status_decides u admitted narrow status v true_of ended text means =
        first_of_two by (whole_origin has.named.model is ended text means)
      where
        by : WholeOrigin call line m ended → ended ≡ ended_of status
        by (breaks rule h e) = absurd (no_break rule names h has)
        by (grows others other w inner same written inside holds e) =
            e ∙ ap ended_of (same_whole_status m names other status w v
            (subst (λ (ns : List ℕ). HasWholeStatus m ns other w) (whole_once others names same has) holds) true_of)
        by (shows_none others weights other written shown e) = absurd (shown.empty u admitted)
        by (wide_box others path spot other written comes wide e) =
            absurd (narrow (map branch_of path) spot
            (subst (λ (ns : List ℕ). Visits m ns start (map branch_of path)) (whole_once others names other has) comes)
            wide)

    -- the model has one
    pub some_whole_status : (u : List Fraction) → Admits m u → (status : Status) × (v : Fraction)
        × HasWholeStatus m names status v
    some_whole_status u admitted =
        by (whole_status m (well call line m has.named.model) u admitted names (kept_bounds m names has.keeps))
      where
        by : ((v : Fraction) × HasWholeStatus m names optimal v)
            ⊎ (HasWholeStatus m names infeasible (of_int (pos 0)) ⊎ HasWholeStatus m names unbounded (of_int (pos 0)))
            → (status : Status) × (v : Fraction) × HasWholeStatus m names status v
        by (inl h) = (optimal, h.0, h.1)
        by (inr (inl h)) = (infeasible, of_int (pos 0), h)
        by (inr (inr h)) = (unbounded, of_int (pos 0), h)
