-- Which answer has to come at `cells` and `celltext`, where what is known of the files decides.
use Rattle.std.proofs.Common.{◌≡◌, ◌⊎◌, ℕ, List, Some, inl, inr, refl, sym, ◌∙◌, ap, subst}
use Rattle.rob_algebra.specs.Fraction.{Fraction}
use Rattle.rob_branch.proofs.OneSpotLemmas.{first_once, none_first}
use Rattle.rob_cells.specs.Rules.{BreaksRule, KeepsRules}
use Rattle.rob_dualize.specs.Models.{IsWideIn}
use Rattle.rob_meaning.specs.Certificates.{Status, optimal, infeasible, unbounded}
use Rattle.rob_meaning.specs.RobustModel.{RobustModel}
use Rattle.rob_meaning.specs.UncertaintySet.{IsEmptySet}
use Rattle.rob_model.specs.declared.place.Spot.{Spot}
use Rattle.rob_pieces.proofs.PieceLemmas.{piece_not_both, piece_not_infeasible, piece_not_unbounded}
use Rattle.rob_pieces.specs.Cuts.{AreCuts, Cut}
use Rattle.rob_pieces.specs.SplitModel.{split_model}
use Rattle.rob_sets.specs.FirstWide.{IsFirstWide}
use Rattle.rob_top.proofs.Meaning.BeforeLemmas.{before_it}
use Rattle.rob_top.proofs.Coming.ComingLemmas.{Comes, comes_ends, ends_in}
use Rattle.rob_top.proofs.Origins.CommandLemmas.{two_verbs}
use Rattle.rob_top.proofs.Telling.CutTellingLemmas.{cuts_at_once, cuts_inside}
use Rattle.rob_top.proofs.Coming.NarrowAnswerLemmas.{has_status}
use Rattle.rob_top.proofs.Origins.ReadOnceLemmas.{named, well}
use Rattle.rob_top.proofs.Origins.SplitOriginLemmas.{SplitOrigin, breaks_cells, cells_model, cells_splits, finds_pieces, shows_empty_cell, wide_cell, writes_split}
use Rattle.rob_top.proofs.Meaning.SplittingLemmas.{admits_each, each_admits, split_model_is, status_over_pieces}
use Rattle.rob_top.proofs.Coming.TrueAnswerLemmas.{first_of_two, unformed_origin}
use Rattle.rob_top.specs.Calls.{Call, Known, limit_of}
use Rattle.rob_top.specs.Endings.{EndsAs}
use Rattle.rob_top.specs.Headline.{Means}
use Rattle.rob_top.specs.Inputs.{HasModel}
use Rattle.rob_top.specs.Split.{AreCutsAt, BreaksCells, EachCellAdmits, HasCuts, HasCutWord, HasSplit, HasStatusOverPieces, named_set, no_parameter, of_split}
use Rattle.rob_top.specs.Commands as works
use Rattle.rob_top.specs.Commands.{IsSplitting}
use Rattle.rob_top.specs.SplitEnds.{IsCellsAnswer, IsEmptyCellsAnswer, IsNarrowSplit, MustEndSplit}
use Rattle.rob_commands.specs.Replies.{ended_of}
use Rattle.rob_commands.specs.declared.ended.Ended.{Ended}
use Rattle.rob_commands.specs.declared.ended.Ended.TheVariants.{Printed, EmptySet, TooWide, Cells as CellsRule, ReadFault, Memory}
use Rattle.rob_words.specs.Commands.{Line}
use Rattle.rob_words.specs.Names.{parts_of}
use Rattle.rob_words.specs.Values.{Word}
use Rattle.rob_words.specs.declared.verb.Verb.{Verb}
use Rattle.rob_words.specs.declared.verb.Verb.TheVariants.{Cells, CellText}
use Rattle.rob_elab.specs.Written.{judged, IsWritten}

-- `cells` isn't `celltext`
two_splits : (verb : Verb) → verb ≡ Cells → verb ≡ CellText → ⊥
two_splits verb = two_verbs Cells CellText verb (λ e. cc)

-- ---- one rule is broken first
one_broken : (m : RobustModel) (cuts : List Cut) (rule other : ℕ) → BreaksRule m cuts rule
    → BreaksRule m cuts other → rule ≡ other
one_broken m cuts rule other (inl h) (inl k) = h.0 ∙ sym k.0
one_broken m cuts rule other (inl h) (inr (inl k)) = absurd (h.1 k.1.0)
one_broken m cuts rule other (inl h) (inr (inr k)) = absurd (h.1 k.1.0)
one_broken m cuts rule other (inr (inl h)) (inl k) = absurd (k.1 h.1.0)
one_broken m cuts rule other (inr (inl h)) (inr (inl k)) = h.0 ∙ sym k.0
one_broken m cuts rule other (inr (inl h)) (inr (inr k)) = absurd (h.1.1 k.1.1.0)
one_broken m cuts rule other (inr (inr h)) (inl k) = absurd (k.1 h.1.0)
one_broken m cuts rule other (inr (inr h)) (inr (inl k)) = absurd (k.1.1 h.1.1.0)
one_broken m cuts rule other (inr (inr h)) (inr (inr k)) = h.0 ∙ sym k.0

-- and none where they are kept
none_broken : (m : RobustModel) (cuts : List Cut) (rule : ℕ) → BreaksRule m cuts rule → KeepsRules m cuts → ⊥
none_broken m cuts rule (inl h) keeps = h.1 keeps.alone
none_broken m cuts rule (inr (inl h)) keeps = h.1.1 keeps.names
none_broken m cuts rule (inr (inr h)) keeps = h.1.1.1 keeps.limits

-- a model has one status over pieces
pub same_piece_status : (m : RobustModel) (cuts : List Cut) (a b : Status) (v w : Fraction)
    → HasStatusOverPieces m cuts a v
    → HasStatusOverPieces m cuts b w → a ≡ b
same_piece_status m cuts optimal optimal v w h k = refl
same_piece_status m cuts optimal infeasible v w h k = absurd (piece_not_infeasible m cuts v h k)
same_piece_status m cuts optimal unbounded v w h k = absurd (piece_not_unbounded m cuts v h k)
same_piece_status m cuts infeasible optimal v w h k = absurd (piece_not_infeasible m cuts w k h)
same_piece_status m cuts infeasible infeasible v w h k = refl
same_piece_status m cuts infeasible unbounded v w h k = absurd (piece_not_both m cuts h k)
same_piece_status m cuts unbounded optimal v w h k = absurd (piece_not_unbounded m cuts w k h)
same_piece_status m cuts unbounded infeasible v w h k = absurd (piece_not_both m cuts k h)
same_piece_status m cuts unbounded unbounded v w h k = refl

module _ (call : Call) (known : Known call.source) (line : Line) (m : RobustModel) where
  -- the command cuts, so that stands behind its answer
  split_origin : HasModel call line m → IsSplitting line.verb → (ended : Ended) (text : List ℕ) → Means call ended text
      → SplitOrigin call line m ended ⊎ ((ended ≡ ReadFault) ⊎ (ended ≡ Memory))
  split_origin has is = unformed_origin call known line m has works.splitting refl is

  -- ---- the words tell one list of cuts
  word_once : (a b : Word) → HasCutWord call line m a → HasCutWord call line m b → a ≡ b
  word_once a b h k = let both : Some a ≡ Some b = sym h.told ∙ k.told in cc

  cuts_once : (a b : List Cut) → HasCuts call line m a → HasCuts call line m b → a ≡ b
  cuts_once a b h k =
      let word : h.word ≡ k.word = word_once h.word k.word h.has_word k.has_word in
      cuts_at_once m (well call line m h.has_word.model)
      (named call line m h.has_word.model) (parts_of k.word) a b
      (subst (λ (w : Word). AreCutsAt m (parts_of w) a) word h.are) k.are

  no_cuts : (word : Word) (cuts : List Cut) → HasCutWord call line m word
      → ((list : List Cut) → AreCutsAt m (parts_of word) list → ⊥)
      → HasCuts call line m cuts → ⊥
  no_cuts word cuts has none h =
      none cuts (subst (λ (w : Word). AreCutsAt m (parts_of w) cuts) (word_once h.word word h.has_word has) h.are)

  one_rule : (rule other : ℕ) → BreaksCells call line m rule → BreaksCells call line m other → rule ≡ other
  one_rule rule other (named_set word has some e) (named_set w too more d) = e ∙ sym d
  one_rule rule other (named_set word has some e) (no_parameter w too alone none d) = absurd (some alone)
  one_rule rule other (named_set word has some e) (of_split cuts h breaks) = absurd (some h.alone)
  one_rule rule other (no_parameter word has alone none e) (named_set w too some d) = absurd (some alone)
  one_rule rule other (no_parameter word has alone none e) (no_parameter w too only nothing d) = e ∙ sym d
  one_rule rule other (no_parameter word has alone none e) (of_split cuts h breaks) =
      absurd (no_cuts word cuts has none h)
  one_rule rule other (of_split cuts h breaks) (named_set w too some d) = absurd (some h.alone)
  one_rule rule other (of_split cuts h breaks) (no_parameter w too alone none d) = absurd (no_cuts w cuts too none h)
  one_rule rule other (of_split a h breaks) (of_split b k too) =
      one_broken m b rule other (subst (λ (cuts : List Cut). BreaksRule m cuts rule) (cuts_once a b h k) breaks) too

  no_break : (rule : ℕ) (cuts : List Cut) → BreaksCells call line m rule → HasSplit call line m cuts → ⊥
  no_break rule cuts (named_set word has some e) h = some h.has_cuts.alone
  no_break rule cuts (no_parameter word has alone none e) h = no_cuts word cuts has none h.has_cuts
  no_break rule cuts (of_split other k breaks) h =
      none_broken m cuts rule
      (subst (λ (list : List Cut). BreaksRule m list rule) (cuts_once other cuts k h.has_cuts) breaks) h.keeps

  split_once : (a b : List Cut) → HasSplit call line m a → HasSplit call line m b → a ≡ b
  split_once a b h k = cuts_once a b h.has_cuts k.has_cuts

  -- ---- a rule is broken
  breaking_cells_decides : (rule : ℕ) → BreaksCells call line m rule
      → (ended : Ended) (text : List ℕ) → Means call ended text
      → (ended ≡ CellsRule rule) ⊎ ((ended ≡ ReadFault) ⊎ (ended ≡ Memory))
  breaking_cells_decides rule broken ended text means =
      first_of_two by
      (split_origin (cells_model call line m rule broken) (cells_splits call line m rule broken) ended text means)
    where
      by : SplitOrigin call line m ended → ended ≡ CellsRule rule
      by (breaks_cells other h e) = e ∙ ap (λ r. CellsRule r) (one_rule other rule h broken)
      by (finds_pieces cuts status v has is written each holds e) = absurd (no_break rule cuts broken has)
      by (shows_empty_cell cuts weights has is written shown none e) = absurd (no_break rule cuts broken has)
      by (wide_cell cuts spot has is wide e) = absurd (no_break rule cuts broken has)
      by (writes_split cuts has is e) = absurd (no_break rule cuts broken has)

  module _ (cuts : List Cut) (has : HasSplit call line m cuts) where
    has_here : HasModel call line m
    has_here = has.has_cuts.has_word.model

    are_here : AreCuts m cuts
    are_here = cuts_inside m (parts_of has.has_cuts.word) cuts has.has_cuts.are

    here : (ended : Ended) (text : List ℕ) → Means call ended text
        → SplitOrigin call line m ended ⊎ ((ended ≡ ReadFault) ⊎ (ended ≡ Memory))
    here ended text means = split_origin has_here has.has_cuts.has_word.is_splitting ended text means

    -- ---- `celltext`
    written_decides : line.verb ≡ CellText → (ended : Ended) (text : List ℕ) → Means call ended text
        → (ended ≡ Printed) ⊎ ((ended ≡ ReadFault) ⊎ (ended ≡ Memory))
    written_decides is ended text means = first_of_two by (here ended text means)
      where
        by : SplitOrigin call line m ended → ended ≡ Printed
        by (breaks_cells rule h e) = absurd (no_break rule cuts h has)
        by (finds_pieces list status v h other written each holds e) = absurd (two_splits line.verb other is)
        by (shows_empty_cell list weights h other written shown none e) = absurd (two_splits line.verb other is)
        by (wide_cell list spot h other wide e) = absurd (two_splits line.verb other is)
        by (writes_split list h also e) = e

    -- ---- `cells`
    module _ (is : line.verb ≡ Cells) where
      moved : (P : List Cut → Type 0) (list : List Cut) → HasSplit call line m list → P list → P cuts
      moved P list h p = subst P (split_once list cuts h has) p

      status_answer : (status : Status) (v : Fraction) → HasStatusOverPieces m cuts status v
          → IsCellsAnswer (limit_of line) m cuts (ended_of status)
      status_answer optimal v h = (v, h)
      status_answer infeasible v h = (v, h)
      status_answer unbounded v h = (v, h)

      answer_is : (ended other : Ended) → ended ≡ other → IsCellsAnswer (limit_of line) m cuts other
          → IsCellsAnswer (limit_of line) m cuts ended
      answer_is ended other e h = subst (λ (x : Ended). IsCellsAnswer (limit_of line) m cuts x) (sym e) h

      pub cells_decides : (ended : Ended) (text : List ℕ) → Means call ended text
          → IsCellsAnswer (limit_of line) m cuts ended
      cells_decides ended text means = all (here ended text means)
        where
          by : SplitOrigin call line m ended → IsCellsAnswer (limit_of line) m cuts ended
          by (breaks_cells rule h e) = absurd (no_break rule cuts h has)
          by (finds_pieces list status v h also written each holds e) =
              answer_is ended (ended_of status) e
              (status_answer status v (moved (λ (cs : List Cut). HasStatusOverPieces m cs status v) list h holds))
          by (shows_empty_cell list weights h also written shown none e) =
              answer_is ended (EmptySet weights) e (moved (λ (cs : List Cut). EachCellAdmits m cs → ⊥) list h none)
          by (wide_cell list spot h also wide e) =
              answer_is ended (TooWide spot) e
              (moved (λ (cs : List Cut). IsWideIn (limit_of line) (split_model m cs) spot) list h wide)
          by (writes_split list h other e) = absurd (two_splits line.verb is other)

          all : SplitOrigin call line m ended ⊎ ((ended ≡ ReadFault) ⊎ (ended ≡ Memory))
              → IsCellsAnswer (limit_of line) m cuts ended
          all (inl origin) = by origin
          all (inr (inl e)) = answer_is ended ReadFault e (inl refl)
          all (inr (inr e)) = answer_is ended Memory e (inr (inr refl))

      -- a number of the split model's set rows and forms is wide
      wide_cells_decides : (spot : Spot)
          → IsFirstWide (limit_of line) (split_model m cuts) (judged (split_model m cuts)) spot → (ended : Ended)
          (text : List ℕ) → Means call ended text → (ended ≡ TooWide spot) ⊎ ((ended ≡ ReadFault) ⊎ (ended ≡ Memory))
      wide_cells_decides spot first ended text means = first_of_two by (here ended text means)
        where
          unwritten : (list : List Cut) → HasSplit call line m list → IsWritten (limit_of line) (split_model m list) → ⊥
          unwritten list h written =
              none_first (limit_of line) (split_model m cuts) (judged (split_model m cuts)) spot
              (moved (λ (cs : List Cut). IsWritten (limit_of line) (split_model m cs)) list h written) first

          one : (other : Spot) → IsWideIn (limit_of line) (split_model m cuts) other → TooWide other ≡ TooWide spot
          one other (inl h) =
              ap (λ (s : Spot). TooWide s)
              (first_once (limit_of line) (split_model m cuts) (judged (split_model m cuts)) other spot h first)
          one other (inr h) =
              absurd (none_first (limit_of line) (split_model m cuts) (judged (split_model m cuts)) spot h.0 first)

          by : SplitOrigin call line m ended → ended ≡ TooWide spot
          by (breaks_cells rule h e) = absurd (no_break rule cuts h has)
          by (finds_pieces list status v h also written each holds e) = absurd (unwritten list h written)
          by (shows_empty_cell list weights h also written shown none e) = absurd (unwritten list h written)
          by (wide_cell list other h also wide e) =
              e ∙ one other (moved (λ (cs : List Cut). IsWideIn (limit_of line) (split_model m cs) other) list h wide)
          by (writes_split list h other e) = absurd (two_splits line.verb is other)

      -- not each cell holds an admitted scenario
      empty_is : (ended other : Ended) → ended ≡ other → IsEmptyCellsAnswer (limit_of line) m cuts other
          → IsEmptyCellsAnswer (limit_of line) m cuts ended
      empty_is ended other e h = subst (λ (x : Ended). IsEmptyCellsAnswer (limit_of line) m cuts x) (sym e) h

      none_joint : (EachCellAdmits m cuts → ⊥) → IsEmptySet (split_model m cuts)
      none_joint none w admitted =
          none (each_admits m (well call line m has_here) cuts has.keeps are_here w admitted)

      empty_cells_decides : (EachCellAdmits m cuts → ⊥) → (ended : Ended) (text : List ℕ) → Means call ended text
          → IsEmptyCellsAnswer (limit_of line) m cuts ended
      empty_cells_decides not_each ended text means = all (here ended text means)
        where
          by : SplitOrigin call line m ended → IsEmptyCellsAnswer (limit_of line) m cuts ended
          by (breaks_cells rule h e) = absurd (no_break rule cuts h has)
          by (finds_pieces list status v h also written each holds e) =
              absurd (not_each (moved (λ (cs : List Cut). EachCellAdmits m cs) list h each))
          by (shows_empty_cell list weights h also written shown none e) =
              empty_is ended (EmptySet weights) e
              (moved (λ (cs : List Cut). IsEmptyCellsAnswer (limit_of line) m cs (EmptySet weights)) list h shown)
          by (wide_cell list spot h also wide e) =
              empty_is ended (TooWide spot) e
              (before_it (limit_of line) (split_model m cuts) (none_joint not_each) spot
              (moved (λ (cs : List Cut). IsWideIn (limit_of line) (split_model m cs) spot) list h wide))
          by (writes_split list h other e) = absurd (two_splits line.verb is other)

          all : SplitOrigin call line m ended ⊎ ((ended ≡ ReadFault) ⊎ (ended ≡ Memory))
              → IsEmptyCellsAnswer (limit_of line) m cuts ended
          all (inl origin) = by origin
          all (inr (inl e)) = empty_is ended ReadFault e (inl refl)
          all (inr (inr e)) = empty_is ended Memory e (inr (inr refl))

      -- each does, and no number is wide
      pieces_decide : EachCellAdmits m cuts → IsNarrowSplit (limit_of line) m cuts → (status : Status) (v : Fraction)
          → HasStatusOverPieces m cuts status v → (ended : Ended) (text : List ℕ) → Means call ended text
          → (ended ≡ ended_of status) ⊎ ((ended ≡ ReadFault) ⊎ (ended ≡ Memory))
      pieces_decide each narrow status v true_of ended text means = first_of_two by (here ended text means)
        where
          by : SplitOrigin call line m ended → ended ≡ ended_of status
          by (breaks_cells rule h e) = absurd (no_break rule cuts h has)
          by (finds_pieces list other w h also written inside holds e) =
              e ∙ ap ended_of (same_piece_status m cuts other status w v
              (moved (λ (cs : List Cut). HasStatusOverPieces m cs other w) list h holds) true_of)
          by (shows_empty_cell list weights h also written shown none e) =
              absurd (moved (λ (cs : List Cut). EachCellAdmits m cs → ⊥) list h none each)
          by (wide_cell list spot h also wide e) =
              absurd (narrow spot
              (moved (λ (cs : List Cut). IsWideIn (limit_of line) (split_model m cs) spot) list h wide))
          by (writes_split list h other e) = absurd (two_splits line.verb is other)

      -- the model has a status over pieces
      some_piece_status : EachCellAdmits m cuts → (status : Status) × (v : Fraction)
          × HasStatusOverPieces m cuts status v
      some_piece_status each =
          let model = well call line m has_here in
          let w = admits_each m model cuts has.keeps are_here each in
          let s = has_status (split_model m cuts) (split_model_is m model cuts has.keeps are_here) w.0 w.1 in
          (s.0, s.1, status_over_pieces m model cuts has.keeps are_here s.0 s.1 s.2)

module _ (call : Call) (known : Known call.source) (ended : Ended) (comes : Comes call ended) where
  module _ (line : Line) (m : RobustModel) (cuts : List Cut) (has : HasSplit call line m cuts)
      (is : line.verb ≡ Cells) where
    cells_end : IsCellsAnswer (limit_of line) m cuts ended
    cells_end =
        ends_in call (λ (x : Ended). IsCellsAnswer (limit_of line) m cuts x) ended
        (inr (inl refl)) (inr (inr refl)) comes
        (cells_decides call known line m cuts has is ended)

    empty_cells_end : (EachCellAdmits m cuts → ⊥) → IsEmptyCellsAnswer (limit_of line) m cuts ended
    empty_cells_end none =
        ends_in call (λ (x : Ended). IsEmptyCellsAnswer (limit_of line) m cuts x) ended
        (inr (inl refl)) (inr (inr refl)) comes
        (empty_cells_decides call known line m cuts has is none ended)

    pieces_end : EachCellAdmits m cuts → IsNarrowSplit (limit_of line) m cuts
        → (status : Status) × (v : Fraction) × HasStatusOverPieces m cuts status v × EndsAs (ended_of status) ended
    pieces_end each narrow =
        let s = some_piece_status call known line m cuts has is each in (
          s.0,
          s.1,
          s.2,
          comes_ends call (ended_of s.0) ended comes
              (pieces_decide call known line m cuts has is each narrow s.0 s.1 s.2 ended),
        )

  pub split_ends : MustEndSplit call ended
  split_ends = record {
    rule = λ line m rule breaks.
        comes_ends call (CellsRule rule) ended comes (breaking_cells_decides call known line m rule breaks ended);
    cells = cells_end;
    wide = λ line m cuts spot has is first.
        comes_ends call (TooWide spot) ended comes (wide_cells_decides call known line m cuts has is spot first ended);
    empty = empty_cells_end;
    status = pieces_end;
    written = λ line m cuts has is.
        comes_ends call Printed ended comes (written_decides call known line m cuts has is ended);
  }
