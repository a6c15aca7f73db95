-- The answers of `cells` and `celltext`, from what the words tell and what the work on the split model answers.
use Rattle.std.proofs.Common.{◌≡◌, ◌≢◌, ◌≤◌, ◌||◌, ◌⊎◌, ℕ, nat_abs, Bool, true, false, not, List, [], ◌++◌, Some, Result, Ok, Err, IfOk, inl, inr, refl, subst, sym, ap, ◌∙◌}
use Rattle.std.proofs.lemmas.List.{length-map}
use denote.Enum.Bare.{same_true, sameb}
use Rattle.rob_algebra.specs.Fraction.{Fraction, of_int}
use Rattle.rob_cells.proofs.MeaningLemmas.{cell_sets, piece_status}
use Rattle.rob_cells.specs.Meaning.{HasPieceStatus}
use Rattle.rob_cells.specs.Rules.{BreaksRule, KeepsRules}
use Rattle.rob_cert.specs.Apart.{FitsLines}
use Rattle.rob_cert.specs.declared.ending.Stop.{Stop}
use Rattle.rob_cert.specs.declared.ending.Stop.TheVariants as stop
use Rattle.rob_dualize.specs.Models.{HasModelCause, IsWideIn, RoseIfStopped}
use Rattle.rob_dualize.specs.Solving.{IsSolution}
use Rattle.rob_meaning.proofs.Proving.ProvesLemmas.{certificate_true}
use Rattle.rob_meaning.specs.Certificates.{Certificate, Status, optimal, infeasible, unbounded}
use Rattle.rob_meaning.specs.Places.{Each}
use Rattle.rob_meaning.specs.Proves.{HasStatus, Proves}
use Rattle.rob_meaning.specs.RobustModel.{RobustModel}
use Rattle.rob_meaning.specs.UncertaintySet.{Admits}
use Rattle.rob_meaning.specs.WellFormed.{IsModel}
use Rattle.rob_number.specs.declared.memory.Memory.{Memory as Want}
use Rattle.rob_pieces.proofs.FormedLemmas.{split_is_model}
use Rattle.rob_pieces.proofs.PieceLemmas.{bound_piece}
use Rattle.rob_pieces.specs.Cuts.{AreCuts, Cut, cell_count}
use Rattle.rob_pieces.specs.SplitModel.{split_model}
use Rattle.rob_report.specs.Report.{report_of}
use Rattle.rob_commands.proofs.BoxPathLemmas.{spot_in}
use Rattle.rob_top.proofs.Origins.CommandLemmas.{is_splitting_work}
use Rattle.rob_top.proofs.Origins.OriginLemmas.{inside_admitted}
use Rattle.rob_top.proofs.Fetching.OwnLemmas.{has_kind, own_of_kind, own_told, second_of}
use Rattle.rob_top.proofs.Meaning.RouteLemmas.{no_rounds}
use Rattle.rob_commands.proofs.PlanLemmas.{proved_bound}
use Rattle.rob_number.proofs.CountLemmas.{rose_later}
use Rattle.rob_top.proofs.Meaning.WorkLemmas.{call_within}
use Rattle.rob_top.specs.Calls.{Call, Count, count, limit_of}
use Rattle.rob_top.specs.Files.{word_of}
use Rattle.rob_top.specs.Headline.{Means}
use Rattle.rob_top.specs.Inputs.{HasModel}
use Rattle.rob_top.specs.WorkStops.{IsStopOf, RepliesStop}
use Rattle.rob_commands.specs.Replies.{Replies, ended_of}
use Rattle.rob_top.specs.Split.{AreCutsAt, EachCellAdmits, HasCuts, HasCutWord, HasSplit, HasStatusOverPieces, IsPieceKept, IsPieced, TellsCuts, cells_fault_text, named_set, no_parameter, of_split}
use Rattle.rob_commands.specs.Answers.{cells_line}
use Rattle.rob_top.specs.Commands.{IsSplitting, Work, work_of}
use Rattle.rob_top.specs.SplitWork.{AnswersCutWord, AnswersCuts, RepliesPieces, RepliesSplit}
use Rattle.rob_top.specs.Ways.{in_cells, in_split, pieced, split_written}
use Rattle.rob_top.specs.Work.{AnswersWords, IsCallAt}
use Rattle.rob_commands.specs.declared.ended.Ended.{Ended}
use Rattle.rob_commands.specs.declared.ended.Ended.TheVariants.{Printed, Cells as CellsRule}
use Rattle.rob_commands.specs.declared.reply.Reply.{Reply}
use Rattle.rob_words.proofs.EachValue.{each_value}
use Rattle.rob_words.specs.Commands.{Line}
use Rattle.rob_words.specs.Cuts.{IsCutList}
use Rattle.rob_words.specs.Names.{parts_of}
use Rattle.rob_words.specs.Values.{Word}
use Rattle.rob_words.specs.Verbs.{own_of}
use Rattle.rob_words.specs.contracts.verb.Verb.{enum, the_type as verb_type}
use Rattle.rob_words.specs.declared.route.Route.TheVariants.{Dual}
use Rattle.rob_words.specs.declared.verb.Own.TheVariants.{Cuts}
use Rattle.rob_words.specs.declared.verb.Verb.{Verb}
use Rattle.rob_words.specs.declared.verb.Verb.TheVariants.{Cells, CellText}
use Rattle.rob_write.specs.Canonical.{model_text}
use Rattle.rob_elab.specs.Written.{IsWritten}

-- ---- the word of cuts

cut_list : (limit : ℕ) (wides : Count) (verb : Verb) (call : Call) (line : Line) (m : RobustModel) (word : Word)
    → IsCallAt limit wides verb call line → HasModel call line m → TellsCuts line word → IsCutList limit word
cut_list limit wides verb call line m word at has told =
    own_of_kind limit call line Cuts word has.spelled at.limit_is told

-- a command that cuts has a word of cuts
abbrev tells_cuts : Verb → Bool
tells_cuts v = not (is_splitting_work (work_of v)) || has_kind Cuts (own_of v)

pub cuts_there : (verb : Verb) → IsSplitting verb → has_kind Cuts (own_of verb) ≡ true
cuts_there verb is =
    second_of (not (is_splitting_work (work_of verb))) (has_kind Cuts (own_of verb))
    (each_value enum tells_cuts refl verb) (ap (λ (w : Work). not (is_splitting_work w)) is)

-- it is `cells` or `celltext`
abbrev is_either : Verb → Bool
is_either v = not (is_splitting_work (work_of v)) || (sameb verb_type v Cells || sameb verb_type v CellText)

either_verb : (verb : Verb) → IsSplitting verb → (verb ≡ Cells) ⊎ (verb ≡ CellText)
either_verb verb is =
    by (sameb verb_type verb Cells) refl
    (second_of (not (is_splitting_work (work_of verb))) (sameb verb_type verb Cells || sameb verb_type verb CellText)
    (each_value enum is_either refl verb) (ap (λ (w : Work). not (is_splitting_work w)) is))
  where
    by : (b : Bool) → sameb verb_type verb Cells ≡ b → (b || sameb verb_type verb CellText) ≡ true
        → (verb ≡ Cells) ⊎ (verb ≡ CellText)
    by true e k = inl (same_true verb_type tt verb Cells e)
    by false e k = inr (same_true verb_type tt verb CellText k)

splits_as : (verb same : Verb) → verb ≡ same → IsSplitting same → IsSplitting verb
splits_as verb same e h = subst (λ (v : Verb). IsSplitting v) (sym e) h

module _ (limit : ℕ) (m : RobustModel) (verb : Verb) (is : IsSplitting verb) where
  has_word : (wides : Count) (call : Call) (line : Line) (word : Word)
      → IsCallAt limit wides verb call line → HasModel call line m
      → TellsCuts line word → HasCutWord call line m word
  has_word wides call line word at has told =
      record { model = has; is_splitting = splits_as line.verb verb at.verb_is is; told = told }

  -- ---- the command's own words are the line's
  pub told_words : (wides : Count) (words : List Word) (word : Word) (r : Result Reply Want)
      → ((other : Word) → word_of Cuts (own_of verb) words ≡ Some other → word ≡ other)
      → IfOk r (AnswersCutWord limit wides m verb word) → IfOk r (AnswersWords limit wides m verb words)
  told_words wides words word (Err want) told h = tt
  told_words wides words word (Ok reply) told h = λ call line at given.
      h call line at (
        given.0,
        own_told call line verb Cuts words word at.verb_is given.0.spelled
            (cuts_there line.verb (splits_as line.verb verb at.verb_is is)) given.1 told,
      )

  -- ---- rules 51 and 52
  pub named_answers : (wides : Count) (word : Word) (r : Result Reply Want) → m.sets ≢ []
      → IfOk r (Replies (CellsRule 51) (cells_fault_text 51))
      → IfOk r (AnswersCutWord limit wides m verb word)
  named_answers wides word (Err want) some says = tt
  named_answers wides word (Ok reply) some says = λ call line at given.
      subst (λ (ended : Ended). Means call ended reply.text) (sym says.0)
      (record {
        line = line;
        m = m;
        breaks = named_set word (has_word wides call line word at given.0 given.1) some refl;
        printed = says.1;
      })

  pub unknown_answers : (wides : Count) (word : Word) (r : Result Reply Want) → m.sets ≡ []
      → (IsCutList limit word → (cuts : List Cut) → AreCutsAt m (parts_of word) cuts → ⊥)
      → IfOk r (Replies (CellsRule 52) (cells_fault_text 52)) → IfOk r (AnswersCutWord limit wides m verb word)
  unknown_answers wides word (Err want) alone none says = tt
  unknown_answers wides word (Ok reply) alone none says = λ call line at given.
      subst (λ (ended : Ended). Means call ended reply.text) (sym says.0)
      (record {
        line = line;
        m = m;
        breaks = no_parameter word (has_word wides call line word at given.0 given.1) alone
            (none (cut_list limit wides verb call line m word at given.0 given.1)) refl;
        printed = says.1;
      })

  -- ---- the cuts are told
  pub cuts_answers : (before middle now : ℕ) (word : Word) (cuts : List Cut) (r : Result Reply Want) → m.sets ≡ []
      → AreCutsAt m (parts_of word) cuts → before ≤ middle → IfOk r (AnswersCuts limit (count middle now) m verb cuts)
      → IfOk r (AnswersCutWord limit (count before now) m verb word)
  cuts_answers before middle now word cuts (Err want) alone are least h = tt
  cuts_answers before middle now word cuts (Ok reply) alone are least h = λ call line at given.
      h call line
      (call_within limit (count middle now) (count before now) verb call line
      (rose_later before middle now least) at)
      (record {
        word = word;
        has_word = has_word (count before now) call line word at given.0 given.1;
        alone = alone;
        are = are;
      })

  -- the split model breaks a rule
  pub rule_answers : (wides : Count) (cuts : List Cut) (rule : ℕ) (r : Result Reply Want) → BreaksRule m cuts rule
      → IfOk r (Replies (CellsRule rule) (cells_fault_text rule)) → IfOk r (AnswersCuts limit wides m verb cuts)
  rule_answers wides cuts rule (Err want) breaks says = tt
  rule_answers wides cuts rule (Ok reply) breaks says = λ call line at has.
      subst (λ (ended : Ended). Means call ended reply.text) (sym says.0)
      (record { line = line; m = m; breaks = of_split cuts has breaks; printed = says.1 })

-- ---- what the split model means
over_pieces : (m : RobustModel) (cuts : List Cut) (s : RobustModel) → HasPieceStatus m cuts s
    → (status : Status) (v : Fraction)
    → HasStatus s status v → HasStatusOverPieces m cuts status v
over_pieces m cuts s pieces optimal v h = (pieces.optimal v).0 h
over_pieces m cuts s pieces infeasible v h = pieces.infeasible.0 h
over_pieces m cuts s pieces unbounded v h = pieces.unbounded.0 h

module _ (m : RobustModel) (model : IsModel m) (cuts : List Cut) (keeps : KeepsRules m cuts)
    (are : AreCuts m cuts) where
  abbrev s : RobustModel
  s = split_model m cuts

  pub split_model_is : IsModel s
  split_model_is = split_is_model m model keeps.alone cuts are

  pub status_over_pieces : (status : Status) (v : Fraction) → HasStatus s status v → HasStatusOverPieces m cuts status v
  status_over_pieces = over_pieces m cuts s (piece_status m cuts keeps model are)

  -- it admits some joint scenario exactly where each cell holds an admitted one
  pub each_admits : (w : List Fraction) → Admits s w → EachCellAdmits m cuts
  each_admits w admitted = (cell_sets m cuts keeps model are).some_admitted.0 (w, admitted)

  pub admits_each : EachCellAdmits m cuts → (w : List Fraction) × Admits s w
  admits_each each = (cell_sets m cuts keeps model are).some_admitted.1 each

  piece_kept : (c : Certificate) → Proves s c → (status : Status) → c.status ≡ status → IsPieceKept m cuts c status
  piece_kept c proves infeasible e = tt
  piece_kept c proves optimal e =
      bound_piece m model keeps.alone cuts are c.plan c.value
      (proved_bound s split_model_is c proves (λ d. (let no : optimal ≡ infeasible = sym e ∙ d in cc)))
  piece_kept c proves unbounded e =
      bound_piece m model keeps.alone cuts are c.plan c.value
      (proved_bound s split_model_is c proves (λ d. (let no : unbounded ≡ infeasible = sym e ∙ d in cc)))

  module _ (limit : ℕ) where
    has_split : (call : Call) (line : Line) → HasCuts call line m cuts → HasSplit call line m cuts
    has_split call line has = record { has_cuts = has; keeps = keeps }

    -- ---- a certificate was found
    means_pieced : (call : Call) (line : Line) (text : List ℕ) (c : Certificate) (status : Status)
        → limit_of line ≡ limit → line.verb ≡ Cells
        → HasCuts call line m cuts → IsWritten limit s → IsSolution s c → FitsLines limit s c → c.status ≡ status
        → text ≡ cells_line (cell_count cuts) ++ report_of s c → Means call (ended_of status) text
    means_pieced call line text c status at is has written found fits e printed =
        let holds : HasStatus s status c.value =
        subst (λ (t : Status). HasStatus s t c.value) e (certificate_true s split_model_is c found.proves)
        in
        by status (record {
          line = line;
          m = m;
          cuts = cuts;
          has = has_split call line has;
          is_cells = is;
          c = c;
          status_is = e;
          holds = status_over_pieces status c.value holds;
          kept = piece_kept c found.proves status e;
          admits = each_admits c.inside (inside_admitted s c c.status found.proves);
          pieces = piece_status m cuts keeps model are;
          sets = cell_sets m cuts keeps model are;
          proves = found.proves;
          last = found.read;
          inside = found.inside;
          shape = found.shape;
          fits = subst (λ (l : ℕ). FitsLines l s c) (sym at) fits;
          written = subst (λ (l : ℕ). IsWritten l s) (sym at) written;
          printed = printed;
        })
      where
        by : (t : Status) → IsPieced call t text → Means call (ended_of t) text
        by optimal h = pieced h
        by infeasible h = pieced h
        by unbounded h = pieced h

    -- ---- the route stopped
    means_stopped : (call : Call) (line : Line) (reply : Reply) (before now : ℕ) (cause_of : Stop)
        → IsCallAt limit (count before now) Cells call line
        → HasCuts call line m cuts → HasModelCause limit s cause_of → RoseIfStopped before now cause_of
        → RepliesStop s Dual cause_of reply
        → Means call reply.ended reply.text
    means_stopped call line reply before now (stop.EmptySet weights) at has cause rose says =
        subst (λ (ended : Ended). Means call ended reply.text) (sym says.0)
        (in_cells (record {
          line = line;
          m = m;
          cuts = cuts;
          has = has_split call line has;
          is_cells = at.verb_is;
          written = subst (λ (l : ℕ). IsWritten l s) (sym at.limit_is) cause.0;
          shown = cause.1.shown;
          fits = subst (λ (l : ℕ). Each (λ weight. nat_abs weight ≤ l) weights) (sym at.limit_is) cause.1.fits;
          not_each = λ each. (let w = admits_each each in cause.1.shown.empty w.0 w.1);
          printed = says.1;
        }))
    means_stopped call line reply before now (stop.Wide spot trace) at has cause rose says =
        subst (λ (ended : Ended). Means call ended reply.text) (sym says.0)
        (in_split (record {
          line = line;
          m = m;
          cuts = cuts;
          has = has_split call line has;
          is_cells = at.verb_is;
          wide = subst (λ (l : ℕ). IsWideIn l s spot) (sym at.limit_is) cause.0;
          raised = at.raised rose;
          printed = says.1;
        }))
    means_stopped call line reply before now stop.Memory at has cause rose says = absurd says

    cells_answers : (before now : ℕ) (reply : Reply) → RepliesPieces limit (count before now) s (cell_count cuts) reply
        → AnswersCuts limit (count before now) m Cells cuts reply
    cells_answers before now reply (inl h) = λ call line at has.
        subst (λ (ended : Ended). Means call ended reply.text) (sym h.replies.0)
        (means_pieced call line reply.text h.c h.c.status at.limit_is at.verb_is has h.written h.found
        h.fits refl h.replies.1)
    cells_answers before now reply (inr h) = λ call line at has.
        means_stopped call line reply before now h.stop at has h.cause h.rose h.replies

    text_answers : (wides : Count) (reply : Reply) → Replies Printed (model_text s) reply
        → AnswersCuts limit wides m CellText cuts reply
    text_answers wides reply says = λ call line at has.
        subst (λ (ended : Ended). Means call ended reply.text) (sym says.0)
        (split_written (record {
          line = line;
          m = m;
          cuts = cuts;
          has = has_split call line has;
          is_text = at.verb_is;
          pieces = piece_status m cuts keeps model are;
          sets = cell_sets m cuts keeps model are;
          printed = says.1;
        }))

    -- ---- all of it
    pub split_answers : (before now : ℕ) (verb : Verb) (other : RobustModel) (cells : ℕ) (r : Result Reply Want)
        → IsSplitting verb → other ≡ s
        → cells ≡ cell_count cuts → IfOk r (RepliesSplit limit (count before now) other cells verb)
        → IfOk r (AnswersCuts limit (count before now) m verb cuts)
    split_answers before now verb other cells (Err want) is same counted h = tt
    split_answers before now verb other cells (Ok reply) is same counted h =
        by (either_verb verb is)
        (subst (λ (x : RobustModel). RepliesSplit limit (count before now) x (cell_count cuts) verb reply) same
        (subst (λ (k : ℕ). RepliesSplit limit (count before now) other k verb reply) counted h))
      where
        by : (verb ≡ Cells) ⊎ (verb ≡ CellText) → RepliesSplit limit (count before now) s (cell_count cuts) verb reply
            → AnswersCuts limit (count before now) m verb cuts reply
        by (inl e) h =
            subst (λ (v : Verb). AnswersCuts limit (count before now) m v cuts reply) (sym e)
            (cells_answers before now reply
            (subst (λ (v : Verb). RepliesSplit limit (count before now) s (cell_count cuts) v reply) e h))
        by (inr e) h =
            subst (λ (v : Verb). AnswersCuts limit (count before now) m v cuts reply) (sym e)
            (text_answers (count before now) reply
            (subst (λ (v : Verb). RepliesSplit limit (count before now) s (cell_count cuts) v reply) e h))

-- ---- the route on one model
module _ (limit : ℕ) (m : RobustModel) where
  pub model_stop_of : (cause_of : Stop) → HasModelCause limit m cause_of → IsStopOf m cause_of
  model_stop_of (stop.EmptySet weights) h = sym (length-map weights of_int) ∙ h.1.shown.shows.count
  model_stop_of (stop.Wide place trace) h = (spot_in limit m place h.0, no_rounds m trace.rounds h.1)
  model_stop_of stop.Memory h = tt

  pub plan_replies : (wides : Count) (cells : ℕ) (c : Certificate) (r : Result Reply Want) → IsWritten limit m
      → IsSolution m c → FitsLines limit m c
      → IfOk r (Replies (ended_of c.status) (cells_line cells ++ report_of m c))
      → IfOk r (RepliesPieces limit wides m cells)
  plan_replies wides cells c (Err want) written found fits says = tt
  plan_replies wides cells c (Ok reply) written found fits says =
      inl (record { c = c; written = written; found = found; fits = fits; replies = says })

  pub stop_replies : (before now : ℕ) (cells : ℕ) (cause_of : Stop) (r : Result Reply Want)
      → HasModelCause limit m cause_of
      → RoseIfStopped before now cause_of → IfOk r (RepliesStop m Dual cause_of)
      → IfOk r (RepliesPieces limit (count before now) m cells)
  stop_replies before now cells cause_of (Err want) cause rose says = tt
  stop_replies before now cells cause_of (Ok reply) cause rose says =
      inr (record { stop = cause_of; cause = cause; rose = rose; replies = says })

-- the reply to the command that is known
pub pieces_replies : (limit : ℕ) (wides : Count) (m : RobustModel) (cells : ℕ) (verb : Verb) (r : Result Reply Want)
    → verb ≡ Cells
    → IfOk r (RepliesPieces limit wides m cells) → IfOk r (RepliesSplit limit wides m cells verb)
pieces_replies limit wides m cells verb (Err want) e h = tt
pieces_replies limit wides m cells verb (Ok reply) e h =
    subst (λ (v : Verb). RepliesSplit limit wides m cells v reply) (sym e) h

pub text_replies : (limit : ℕ) (wides : Count) (m : RobustModel) (cells : ℕ) (verb : Verb) (r : Result Reply Want)
    → verb ≡ CellText
    → IfOk r (Replies Printed (model_text m)) → IfOk r (RepliesSplit limit wides m cells verb)
text_replies limit wides m cells verb (Err want) e h = tt
text_replies limit wides m cells verb (Ok reply) e h =
    subst (λ (v : Verb). RepliesSplit limit wides m cells v reply) (sym e) h
