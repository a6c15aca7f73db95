-- The text that `celltext` printed is read as the split model, by each later call at the same width; so what `solve`
-- and `prove` answer of it is true of the first model over pieces.
use Rattle.std.proofs.Common.{◌≡◌, ◌⊎◌, ◌∙◌, ◌-◌, ◌^◌, ◌<◌, ◌≤◌, ℕ, suc, Bool, true, false, List, [], ◌∷◌, length, pos, inl, inr, refl, sym, ap, subst, arith}
use Rattle.rob_algebra.specs.Fraction.{Fraction, of_pair}
use Rattle.rob_algebra.specs.Width.{Fits}
use Rattle.rob_cells.specs.Rules.{KeepsRules}
use Rattle.rob_meaning.specs.Certificates.{Status, optimal, infeasible, unbounded}
use Rattle.rob_meaning.specs.Proves.{HasStatus}
use Rattle.rob_meaning.specs.RobustModel.{RobustModel}
use Rattle.rob_meaning.specs.Values.{signed}
use Rattle.rob_meaning.specs.WellFormed.{IsModel}
use Rattle.rob_number.specs.Lowest.{limit_high, limit_low}
use Rattle.rob_parse.proofs.Building.OneModel.{not_both}
use Rattle.rob_parse.proofs.Building.PlacedLemmas.{well_formed}
use Rattle.rob_parse.proofs.Degrees.NumberLemmas.{pair_fits}
use Rattle.rob_parse.specs.Modelled.{ReadsModel}
use Rattle.rob_pieces.specs.Cuts.{AreCuts, Cut}
use Rattle.rob_round_trip.proofs.Written.ReadableLemmas.{negated_fits}
use Rattle.rob_rules.specs.Texts.{Breaks}
use Rattle.rob_sets.specs.FirstWide.{NothingWide}
use Rattle.rob_split_text.proofs.SplitReading.{split_text_few, split_text_reads}
use Rattle.rob_split_text.specs.SplitTexts.{HasFewTokens, HaveFittingLevels}
use Rattle.rob_top.proofs.Coming.CompletenessLemmas.{proved_then_checked}
use Rattle.rob_top.proofs.Origins.OriginLemmas.{Origin, SolveOrigin, does, finds, same_work, shows_empty, wide_number, wide_row}
use Rattle.rob_top.proofs.Telling.CutTellingLemmas.{cuts_inside}
use Rattle.rob_top.proofs.Origins.KnownInputs.{known_again, model_known}
use Rattle.rob_top.proofs.Origins.KnownLemmas.{means_known}
use Rattle.rob_top.proofs.Coming.NarrowAnswerLemmas.{has_status}
use Rattle.rob_top.proofs.Fetching.OwnLemmas.{own_of_kind}
use Rattle.rob_top.proofs.Meaning.SplittingLemmas.{admits_each, split_model_is, status_over_pieces}
use Rattle.rob_top.proofs.Origins.ProgressLemmas.{broken_here, file_once, one_model_read}
use Rattle.rob_top.proofs.Coming.TrueAnswerLemmas.{origin_of}
use Rattle.rob_top.proofs.Meaning.WorkLemmas.{limit_is}
use Rattle.rob_top.specs.Calls.{Call, Known, known_call, limit_of}
use Rattle.rob_top.specs.Commands as works
use Rattle.rob_top.specs.Commands.{IsSolving}
use Rattle.rob_top.specs.Files.{HasFile}
use Rattle.rob_top.specs.Completeness.{MustEnd}
use Rattle.rob_top.specs.Endings.{EndsAs, IsProvedAnswer}
use Rattle.rob_top.specs.Headline.{Means}
use Rattle.rob_top.specs.Inputs.{HasForms, HasModel}
use Rattle.rob_top.specs.Refused.{IsNoModel}
use Rattle.rob_top.specs.Solved.{IsSolved}
use Rattle.rob_top.specs.Split.{AreCutsAt, EachCellAdmits, HasStatusOverPieces, IsSplitText}
use Rattle.rob_top.specs.SplitTexts.{IsNarrowOnWay, IsPiecesAnswer, TakesSplit, written_split}
use Rattle.rob_top.specs.Swept.{limit_value}
use Rattle.rob_commands.specs.Replies.{ended_of}
use Rattle.rob_commands.specs.declared.ended.Ended.{Ended}
use Rattle.rob_commands.specs.declared.ended.Ended.TheVariants.{Model, EmptySet, TooWide, ReadFault, Memory}
use Rattle.rob_words.proofs.LimitLemmas.{limit_fits}
use Rattle.rob_words.proofs.Spellings.{one_line}
use Rattle.rob_words.specs.Commands.{Line}
use Rattle.rob_words.specs.Cuts.{IsCut, IsCutList, cut_level, has_sign, unsigned}
use Rattle.rob_words.specs.Limits.{denominator_of, numerator_of}
use Rattle.rob_words.specs.Names.{AreAll, parts_of}
use Rattle.rob_words.specs.Values.{Word, bits_of}
use Rattle.rob_words.specs.declared.verb.Own.TheVariants as own
use Rattle.rob_words.specs.declared.verb.Verb.TheVariants.{Check, Prove}
use Rattle.rob_words.specs.declared.width.Width.{Width}
use Rattle.rob_elab.specs.Written.{judged}

-- ---- the numbers of cuts
module _ (limit : ℕ) (low : 1 ≤ limit) where
  level_fits : (word : Word) → IsCut limit word
      → Fits limit (signed (has_sign (cut_level word)) (limit_value (unsigned (cut_level word))))
  level_fits word cut = by (has_sign (cut_level word))
    where
      size : Fits limit
          (of_pair (pos (numerator_of (unsigned (cut_level word)))) (denominator_of (unsigned (cut_level word))))
      size =
          let f = limit_fits limit (unsigned (cut_level word)) low cut.level in
          pair_fits limit (numerator_of (unsigned (cut_level word))) (denominator_of (unsigned (cut_level word)))
          f.positive f.numerator f.denominator

      by : (sign : Bool) → Fits limit (signed sign (limit_value (unsigned (cut_level word))))
      by true = negated_fits limit (limit_value (unsigned (cut_level word))) size
      by false = size

  module _ (m : RobustModel) where
    levels_fit : (words : List Word) (cuts : List Cut) → AreAll (IsCut limit) words → AreCutsAt m words cuts
        → HaveFittingLevels limit cuts
    levels_fit words [] all are = tt
    levels_fit [] (c ∷ cuts) all are = absurd are
    levels_fit (word ∷ words) (c ∷ cuts) all are =
        (subst (Fits limit) (sym are.0.level) (level_fits word all.0), levels_fit words cuts all.1 are.1)

    as_many : (words : List Word) (cuts : List Cut) → AreCutsAt m words cuts → length cuts ≡ length words
    as_many [] [] are = refl
    as_many [] (c ∷ cuts) are = absurd are
    as_many (word ∷ words) [] are = absurd are
    as_many (word ∷ words) (c ∷ cuts) are = ap suc (as_many words cuts are.1)

-- ---- the printed text
module _ (printing : Call) (text : List ℕ) (split : IsSplitText printing text) where
  abbrev m : RobustModel
  m = split.m

  abbrev s : RobustModel
  s = written_split split

  abbrev limit : ℕ
  limit = limit_of split.line

  low : 1 ≤ limit
  low = subst (λ (l : ℕ). 1 ≤ l) (limit_is split.line.width) (limit_low (bits_of split.line.width))

  high : limit ≤ 2 ^ 62 - 1
  high = subst (λ (l : ℕ). l ≤ 2 ^ 62 - 1) (limit_is split.line.width) (limit_high (bits_of split.line.width))

  keeps : KeepsRules m split.cuts
  keeps = split.has.keeps

  has : HasModel printing split.line m
  has = split.has.has_cuts.has_word.model

  model : IsModel m
  model = well_formed limit has.bytes m has.reads low

  are : AreCuts m split.cuts
  are = cuts_inside m (parts_of split.has.has_cuts.word) split.cuts split.has.has_cuts.are

  list : IsCutList limit split.has.has_cuts.word
  list =
      own_of_kind limit printing split.line own.Cuts split.has.has_cuts.word has.spelled refl
      split.has.has_cuts.has_word.told

  three : length split.cuts ≤ 3
  three =
      let same = as_many limit low m (parts_of split.has.has_cuts.word) split.cuts split.has.has_cuts.are in
      let few = list.few in
      omega (arith, same, few)

  cuts_fit : HaveFittingLevels limit split.cuts
  cuts_fit = levels_fit limit low m (parts_of split.has.has_cuts.word) split.cuts list.parts split.has.has_cuts.are

  small : limit < 2 ^ 62
  small = let most = high in omega (arith, most)

  -- it is read as the split model
  pub printed_reads : HasFewTokens s → ReadsModel limit text s
  printed_reads few =
      subst (λ (bytes : List ℕ). ReadsModel limit bytes s) (sym split.printed)
      (split_text_reads limit has.bytes m split.cuts low small has.reads keeps.alone three are cuts_fit
      keeps.names keeps.limits few)

  -- exactly where it has no more tokens than a text may have
  pub printed_few : ReadsModel limit text s → HasFewTokens s
  printed_few reads =
      split_text_few limit has.bytes m split.cuts low small has.reads keeps.alone three are cuts_fit
      keeps.names keeps.limits s
      (subst (λ (bytes : List ℕ). ReadsModel limit bytes s) split.printed reads)

  over_pieces : (status : Status) (v : Fraction) → HasStatus s status v → HasStatusOverPieces m split.cuts status v
  over_pieces = status_over_pieces m model split.cuts keeps are

  -- ---- a later call
  module _ (later : Call) (known : Known later.source) (line : Line)
      (takes : TakesSplit split (known_call later known) line) where
    abbrev told : Call
    told = known_call later known

    same_limit : limit ≡ limit_of line
    same_limit = ap (λ (w : Width). 2 ^ bits_of w - 1) (sym takes.width)

    text_reads : ReadsModel (limit_of line) text s
    text_reads = subst (λ (l : ℕ). ReadsModel l text s) same_limit (printed_reads takes.few)

    -- has read the split model
    pub taken_model : HasModel told line s
    taken_model = record {
      spelled = takes.given.spelled;
      came = takes.given.came;
      bytes = text;
      file = takes.given.file;
      reads = text_reads;
    }

    -- and no other
    pub taken_once : (l : Line) (other : RobustModel) → HasModel later l other → other ≡ s
    taken_once l other h =
        one_model_read told l line other s (known_again known) (model_known later known l other h) taken_model

    -- no rule of its text is named
    pub taken_unbroken : (rule number : ℕ) (shown : List ℕ) → Means later (Model rule number) shown → ⊥
    taken_unbroken rule number shown means =
        let h : IsNoModel told rule number shown = means_known later known (Model rule number) shown means in
        let b = broken_here told (known_again known) line takes.given.spelled rule number shown h in
        let same : b.0 ≡ text = file_once told line own.Model b.0 text (known_again known) b.1 takes.given.file in
        not_both (limit_of line) text s rule number text_reads
        (subst (λ (bytes : List ℕ). Breaks (limit_of line) bytes rule number) same b.2)

    -- a status that is shown is that over pieces
    pub taken_status : (status : Status) (shown : List ℕ) (solved : IsSolved later status shown)
        → HasStatusOverPieces m split.cuts status solved.c.value
    taken_status status shown solved =
        over_pieces status solved.c.value
        (subst (λ (x : RobustModel). HasStatus x status solved.c.value)
        (taken_once solved.line solved.m solved.forms.model) solved.holds)

    -- ---- each answer of `solve` and `prove`
    module _ (solves : IsSolving line.verb) where
      abbrev IsAnswer : Ended → Type 0
      IsAnswer ended = IsPiecesAnswer line.way (limit_of line) m split.cuts ended

      answer_is : (ended other : Ended) → ended ≡ other → IsAnswer other → IsAnswer ended
      answer_is ended other e h = subst IsAnswer (sym e) h

      status_answer : (status : Status) (v : Fraction) → HasStatusOverPieces m split.cuts status v
          → IsAnswer (ended_of status)
      status_answer optimal v h = (v, h)
      status_answer infeasible v h = (v, h)
      status_answer unbounded v h = (v, h)

      pub taken_answer : (ended : Ended) (shown : List ℕ) → Means later ended shown → IsAnswer ended
      taken_answer ended shown means =
          all (origin_of told (known_again known) line s taken_model ended shown
          (means_known later known ended shown means))
        where
          of_work : SolveOrigin told line s ended → IsAnswer ended
          of_work (finds status v u inside forms holds e) =
              answer_is ended (ended_of status) e (status_answer status v (over_pieces status v holds))
          of_work (shows_empty weights forms shown e) =
              answer_is ended (EmptySet weights) e (λ each. let w =
              admits_each m model split.cuts keeps are each in shown.empty w.0 w.1)
          of_work (wide_row spot forms wide e) = answer_is ended (TooWide spot) e (inr wide)

          by : Origin told line s ended → IsAnswer ended
          by (wide_number spot makes h e) = answer_is ended (TooWide spot) e (inl h)
          by (does w is origin) = of_work (same_work told line s ended w works.solving is solves origin)

          all : Origin told line s ended ⊎ ((ended ≡ ReadFault) ⊎ (ended ≡ Memory)) → IsAnswer ended
          all (inl origin) = by origin
          all (inr (inl e)) = answer_is ended ReadFault e (inl refl)
          all (inr (inr e)) = answer_is ended Memory e (inr (inr refl))

      -- the status has to come, where each cell holds an admitted scenario and no number is wide
      pub taken_has_status : EachCellAdmits m split.cuts → IsNarrowOnWay line.way (limit_of line) s
          → (ended : Ended) → MustEnd told ended
          → (status : Status) × (v : Fraction) × HasStatusOverPieces m split.cuts status v
          × EndsAs (ended_of status) ended
      taken_has_status each narrow ended must =
          let w = admits_each m model split.cuts keeps are each in
          let forms : HasForms told line s = record { model = taken_model; none_wide = narrow.forms } in
          let found = has_status s (split_model_is m model split.cuts keeps are) w.0 w.1 in (
            found.0,
            found.1,
            over_pieces found.0 found.1 found.2,
            must.status line s found.0 found.1 w.0 forms solves found.2 w.1 narrow.none,
          )

  -- ---- a certificate that `prove` printed of it, in a call of `check` that takes it too
  module _ (proving : Call) (known : Known proving.source) (line : Line)
      (takes : TakesSplit split (known_call proving known) line)
      (checking : Call) (again : Known checking.source) (other : Line)
      (takes_too : TakesSplit split (known_call checking again) other) where
    pub taken_certificate : (status : Status) (certificate : List ℕ) (solved : IsSolved proving status certificate)
        → solved.line.verb ≡ Prove
        → other.verb ≡ Check → HasFile (known_call checking again) other own.Certificate certificate → (ended : Ended)
        → MustEnd (known_call checking again) ended → IsProvedAnswer (limit_of other) s solved.c ended
    taken_certificate status certificate solved is_prove is_check file ended must =
        let same : solved.m ≡ s = taken_once proving known line takes solved.line solved.m solved.forms.model in
        let one : solved.line ≡ line =
        one_line proving.words solved.line line solved.forms.model.spelled takes.given.spelled in
        let width : other.width ≡ solved.line.width =
        takes_too.width ∙ sym takes.width ∙ sym (ap (λ (l : Line). l.width) one) in
        let forms : HasForms (known_call checking again) other solved.m = record {
          model =
              subst (λ (x : RobustModel). HasModel (known_call checking again) other x) (sym same)
              (taken_model checking again other takes_too);
          none_wide =
              subst (λ (w : Width). NothingWide (2 ^ bits_of w - 1) solved.m
              (judged solved.m)) (sym width)
              solved.forms.none_wide;
        } in
        subst (λ (x : RobustModel). IsProvedAnswer (limit_of other) x solved.c ended) same
        (proved_then_checked proving checking again status certificate solved other ended is_prove width
        (record { read = forms; is_verb = is_check; file = file }) must)
