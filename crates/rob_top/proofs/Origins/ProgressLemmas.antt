-- How far a call came, by its answer; and so which answers a model's file allows.
use Rattle.std.proofs.Common.{◌≡◌, ℕ, List, [], ◌∷◌, ◌++◌, Option, Some, IfSome, false, refl, sym, ◌∙◌, ap, subst, inl, inr, ◌⊎◌}
use Rattle.rob_meaning.specs.Places.{Each}
use Rattle.rob_algebra.specs.Fraction.{Fraction}
use Rattle.rob_meaning.specs.Certificates.{Status, optimal, infeasible, unbounded}
use Rattle.rob_meaning.specs.Proves.{HasStatus}
use Rattle.rob_meaning.specs.RobustModel.{RobustModel}
use Rattle.rob_meaning.proofs.Proving.StatusLemmas.{optimal_not_infeasible, optimal_not_unbounded, infeasible_not_unbounded}
use Rattle.rob_parse.specs.Modelled.{ReadsModel}
use Rattle.rob_outside.specs.Fetches.{Fetch}
use Rattle.rob_outside.specs.Files.{File, Found, whole, missing, too_long, found_at}
use Rattle.rob_rules.specs.Texts.{Breaks}
use Rattle.rob_parse.proofs.Building.OneModel.{not_both, one_model}
use Rattle.rob_rules.proofs.Joining.OneText.{one_break}
use Rattle.rob_model.specs.declared.place.Spot.{Spot}
use Rattle.rob_top.proofs.Origins.OriginLemmas.{Origin, accepted_origin, branched_origin, cert_origin, empty_branched_origin, empty_origin, limited_origin, no_sweep_origin, no_tree_origin, empty_sought_origin, no_row_origin, no_whole_origin, priced_origin, rejected_origin, lacking_origin, narrowed_origin, replayed_origin, rows_origin, scenarios_origin, searched_origin, solved_origin, wide_budget_origin, tree_accepted_origin, tree_rejected_origin, unplanned_origin, wide_origin, wide_leaf_origin, wide_node_origin, wide_way_origin, does}
use Rattle.rob_top.proofs.Fetching.FilesLemmas.{empty_split}
use Rattle.rob_top.proofs.Fetching.OwnLemmas.{number_no_file, number_no_files}
use Rattle.rob_top.proofs.Origins.NumberOriginLemmas.{NumberOrigin, compared_origin, wide_compared_origin, writes_model}
use Rattle.rob_top.proofs.Meaning.SoughtLemmas.{forms_sought, forms_unnamed, lacking_model}
use Rattle.rob_top.specs.Branched.{BreaksWhole, no_ranges, no_variables}
use Rattle.rob_top.proofs.Origins.SplitOriginLemmas.{breaks_cells, cells_model, cells_splits, empty_cell_origin, pieced_origin, wide_split_origin, written_origin}
use Rattle.rob_top.specs.Calls.{Call, Known, by_fetches, by_files, limit_of}
use Rattle.rob_top.specs.Commands as works
use Rattle.rob_top.specs.Commands.{reads_model}
use Rattle.rob_top.specs.Files.{Came, HasFile, IsFirstAbsent, IsFound, NamesFile, Request, answer_to, requests}
use Rattle.rob_top.specs.Headline.{Means}
use Rattle.rob_top.specs.Inputs.{HasModel}
use Rattle.rob_top.specs.Refused.{IsNoModel, IsWideSpot, checking, elaborating, replaying, searching}
use Rattle.rob_top.specs.Swept.{BreaksSweep, at_limit, at_limits}
use Rattle.rob_top.specs.Ways.{solved, branched, rows, replayed, generated, compared, worst_found, priced, limited, narrowed, a_certificate, a_tree, while_solving, while_branching, while_searching, in_model, on_way, while_growing, while_checking, not_checked, not_replayed, not_searched, pieced, split_written, in_cells, in_split, in_summary}
use Rattle.rob_commands.specs.declared.ended.Ended.{Ended}
use Rattle.rob_commands.specs.declared.ended.Ended.TheVariants.{Optimal, Infeasible, Unbounded, Printed, Accepted, Rejected, Words, Missing, TooLong, Model, EmptySet, TooWide, WideNode, WideBudget, Cert, Scenarios, Whole, Sweep, Cells, Tree, TreeRejected, NoRow, ReadFault, WriteFault, Memory}
use Rattle.rob_words.specs.Commands.{Line, IsCommandLine, IsSpelled}
use Rattle.rob_words.specs.Values.{Word}
use Rattle.rob_words.specs.declared.verb.Own.{Own}
use Rattle.rob_words.specs.declared.verb.Own.TheVariants as own
use Rattle.rob_words.proofs.Spellings.{one_line}
use Rattle.rob_words.specs.declared.verb.Verb.TheVariants as verbs

-- how far the call came
pub data Progress (call : Call) (ended : Ended) : Type 0 where
  wordless : (IsCommandLine call.words → ⊥) → Progress call ended
  absent : (name : Word) → IsFirstAbsent call missing name → ended ≡ Missing → Progress call ended
  over : (name : Word) → IsFirstAbsent call too_long name → ended ≡ TooLong → Progress call ended
  broken : (rule number : ℕ) (text : List ℕ) → IsNoModel call rule number text
      → ended ≡ Model rule number → Progress call ended
  read : (line : Line) (m : RobustModel) → HasModel call line m → Origin call line m ended → Progress call ended
  answers_number : (line : Line) → IsSpelled call.words line → reads_model line.verb ≡ false
      → NumberOrigin call line ended → Progress call ended
  failed : NamesFile call.words → ended ≡ ReadFault → Progress call ended
  wanting : ended ≡ Memory → Progress call ended

wide_model : (call : Call) (line : Line) (m : RobustModel) (spot : Spot)
    → IsWideSpot call line m spot → HasModel call line m
wide_model call line m spot (elaborating has makes first) = has
wide_model call line m spot (checking c place has is verdict) = has.file.read.model
wide_model call line m spot (replaying c bytes number has is gives) = has.plan.certificate.file.read
wide_model call line m spot (searching c form has wide) = (forms_sought call line m c form has).model

breaking_model : (call : Call) (line : Line) (m : RobustModel) (rule : ℕ)
    → BreaksWhole call line m rule → HasModel call line m
breaking_model call line m rule (no_variables names h told none e) = h
breaking_model call line m rule (no_ranges numbers h e) = h.model

sweeping_model : (call : Call) (line : Line) (m : RobustModel) (rule : ℕ)
    → BreaksSweep call line m rule → HasModel call line m
sweeping_model call line m rule (at_limits n limits has breaks) = has.model
sweeping_model call line m rule (at_limit n g has none e) = has.model

pub progress_of : (call : Call) (ended : Ended) (text : List ℕ) → Means call ended text → Progress call ended
progress_of call Optimal text (solved h) = read h.line h.m h.forms.model (solved_origin call optimal text h)
progress_of call Optimal text (branched h) = read h.line h.m h.has.named.model (branched_origin call optimal text h)
progress_of call Optimal text (pieced h) =
    read h.line h.m h.has.has_cuts.has_word.model
    (does works.splitting h.has.has_cuts.has_word.is_splitting (pieced_origin call optimal text h))
progress_of call Infeasible text (solved h) = read h.line h.m h.forms.model (solved_origin call infeasible text h)
progress_of call Infeasible text (branched h) =
    read h.line h.m h.has.named.model (branched_origin call infeasible text h)
progress_of call Infeasible text (pieced h) =
    read h.line h.m h.has.has_cuts.has_word.model
    (does works.splitting h.has.has_cuts.has_word.is_splitting (pieced_origin call infeasible text h))
progress_of call Unbounded text (solved h) = read h.line h.m h.forms.model (solved_origin call unbounded text h)
progress_of call Unbounded text (branched h) = read h.line h.m h.has.named.model (branched_origin call unbounded text h)
progress_of call Unbounded text (pieced h) =
    read h.line h.m h.has.has_cuts.has_word.model
    (does works.splitting h.has.has_cuts.has_word.is_splitting (pieced_origin call unbounded text h))
progress_of call Printed text (rows h) = read h.line h.m h.forms.model (rows_origin call text h)
progress_of call Printed text (replayed h) =
    read h.line h.m h.has.plan.certificate.file.read (replayed_origin call text h)
progress_of call Printed text (generated h) =
    answers_number h.line h.spelled (ap reads_model h.is_text) (writes_model h.is_text refl)
progress_of call Printed text (compared h) =
    answers_number h.line h.asks.spelled (ap reads_model h.asks.is_gen) (compared_origin call text h)
progress_of call Printed text (worst_found h) =
    read h.line h.m (forms_sought call h.line h.m h.c h.form h.has).model (searched_origin call text h)
progress_of call Printed text (priced h) = read h.line h.m h.has.model (priced_origin call text h)
progress_of call Printed text (limited h) = read h.line h.m h.has.model (limited_origin call text h)
progress_of call Printed text (narrowed h) = read h.line h.m h.forms.model (narrowed_origin call text h)
progress_of call Printed text (split_written h) =
    read h.line h.m h.has.has_cuts.has_word.model
    (does works.splitting h.has.has_cuts.has_word.is_splitting (written_origin call text h))
progress_of call Accepted text (a_certificate h) = read h.line h.m h.read.file.read.model (accepted_origin call text h)
progress_of call Accepted text (a_tree h) =
    read h.line h.m h.read.file.variables.named.model (tree_accepted_origin call text h)
progress_of call (Rejected place) text h = read h.line h.m h.read.file.read.model (rejected_origin call place text h)
progress_of call (TreeRejected number fault) text h =
    read h.line h.m h.read.file.variables.named.model (tree_rejected_origin call number fault text h)
progress_of call Words text h = wordless h.0
progress_of call Missing text h = absent h.0 h.1 refl
progress_of call TooLong text h = over h.0 h.1 refl
progress_of call (Model rule number) text h = broken rule number text h refl
progress_of call (EmptySet weights) text (while_solving h) =
    read h.line h.m h.forms.model (empty_origin call weights text h)
progress_of call (EmptySet weights) text (while_branching h) =
    read h.line h.m h.has.named.model (empty_branched_origin call weights text h)
progress_of call (EmptySet weights) text (in_cells h) =
    read h.line h.m h.has.has_cuts.has_word.model
    (does works.splitting h.has.has_cuts.has_word.is_splitting (empty_cell_origin call weights text h))
progress_of call (EmptySet weights) text (while_searching h) =
    read h.line h.m (forms_sought call h.line h.m h.c h.form h.has).model (empty_sought_origin call weights text h)
progress_of call (WideNode path spot) text (while_growing h) =
    read h.line h.m h.has.named.model (wide_node_origin call path spot text h)
progress_of call (WideNode path spot) text (while_checking h) =
    read h.line h.m h.read.file.variables.named.model (wide_leaf_origin call path spot text h)
progress_of call (WideBudget number spot) text h =
    read h.line h.m h.has.model (wide_budget_origin call number spot text h)
progress_of call (Sweep rule) text h =
    read h.line h.m (sweeping_model call h.line h.m rule h.breaks) (no_sweep_origin call rule text h)
progress_of call (Cells rule) text h =
    read h.line h.m (cells_model call h.line h.m rule h.breaks)
    (does works.splitting (cells_splits call h.line h.m rule h.breaks) (breaks_cells rule h.breaks refl))
progress_of call (Whole rule) text h =
    read h.line h.m (breaking_model call h.line h.m rule h.breaks) (no_whole_origin call rule text h)
progress_of call (Tree rule number) text h =
    read h.line h.m h.file.variables.named.model (no_tree_origin call rule number text h)
progress_of call (TooWide spot) text (in_model h) =
    read h.line h.m (wide_model call h.line h.m spot h.wide) (wide_origin call h.line h.m spot h.wide)
progress_of call (TooWide spot) text (on_way h) = read h.line h.m h.forms.model (wide_way_origin call spot text h)
progress_of call (TooWide spot) text (in_split h) =
    read h.line h.m h.has.has_cuts.has_word.model
    (does works.splitting h.has.has_cuts.has_word.is_splitting (wide_split_origin call spot text h))
progress_of call (TooWide spot) text (in_summary h) =
    answers_number h.line h.asks.spelled (ap reads_model h.asks.is_gen) (wide_compared_origin call spot text h)
progress_of call (Cert rule number) text (not_checked h) =
    read h.line h.m h.file.read.model (cert_origin call rule number text h)
progress_of call (Cert rule number) text (not_replayed h) =
    read h.line h.m (lacking_model call h.line h.m verbs.Replay rule number h.lacks)
    (lacking_origin call rule number text h)
progress_of call (Cert rule number) text (not_searched h) =
    read h.line h.m (lacking_model call h.line h.m verbs.Worst rule number h.lacks)
    (unplanned_origin call rule number text h)
progress_of call NoRow text h =
    read h.line h.m (forms_unnamed call h.line h.m h.c h.name h.names_none).model (no_row_origin call text h)
progress_of call (Scenarios rule number) text h =
    read h.line h.m h.has.plan.certificate.file.read (scenarios_origin call rule number text h)
progress_of call ReadFault text h = failed h.0 refl
progress_of call WriteFault text h = absurd h
progress_of call Memory text h = absurd h

-- ---- what is found of a known file is one thing
pub found_once : (call : Call) (request : Request) (a b : Found) → Known call.source → IsFound call request a
    → IsFound call request b → a ≡ b
found_once call request a b (by_files files e) h k = sym (here a h) ∙ here b k
  where
    here : (found : Found) → IsFound call request found → found_at request.name request.most files ≡ found
    here found h =
        subst (λ (t : Option (List File)). IfSome t (λ fs. found_at request.name request.most fs ≡ found)) e h.0
found_once call request a b (by_fetches fetches e) h k = let same : Some a ≡ Some b = sym (here a h) ∙ here b k in cc
  where
    here : (found : Found) → IsFound call request found → answer_to request fetches ≡ Some found
    here found h = subst (λ (t : Option (List Fetch)). IfSome t (λ fs. answer_to request fs ≡ Some found)) e h.1

-- and so is what a line's file of a kind holds
pub file_once : (call : Call) (line : Line) (kind : Own) (a b : List ℕ) → Known call.source → HasFile call line kind a
    → HasFile call line kind b → a ≡ b
file_once call line kind a b known h k =
    let both : Some h.request ≡ Some k.request = sym h.named ∙ k.named in
    let same : h.request ≡ k.request = cc in
    let found : IsFound call k.request (whole a) = subst (λ (r : Request). IsFound call r (whole a)) same h.found in
    let wholes : whole a ≡ whole b = found_once call k.request (whole a) (whole b) known found k.found in
    cc

came_at : (call : Call) (before behind : List Request) (request : Request)
    → Each (Came call) (before ++ request ∷ behind) → Came call request
came_at call [] behind request h = h.0
came_at call (r ∷ before) behind request h = came_at call before behind request h.1

module _ (call : Call) (known : Known call.source) (line : Line) (spelled : IsSpelled call.words line) where
  -- a model that was read is of this line
  pub read_here : (l : Line) (m : RobustModel) → HasModel call l m → HasModel call line m
  read_here l m h = subst (λ (x : Line). HasModel call x m) (one_line call.words l line h.spelled spelled) h

  pub broken_here : (rule number : ℕ) (text : List ℕ) (h : IsNoModel call rule number text)
      → (bytes : List ℕ) × HasFile call line own.Model bytes × Breaks (limit_of line) bytes rule number
  broken_here rule number text h =
      let same = one_line call.words h.line line h.spelled spelled in (
        h.bytes,
        subst (λ (x : Line). HasFile call x own.Model h.bytes) same h.file,
        subst (λ (x : Line). Breaks (limit_of x) h.bytes rule number) same h.breaks,
      )

  -- the words of a command that reads no model name no file, that of a model neither
  reads_here : (l : Line) → IsSpelled call.words l → reads_model l.verb ≡ false → reads_model line.verb ≡ false
  reads_here l sp none = ap (λ (x : Line). reads_model x.verb) (one_line call.words line l spelled sp) ∙ none

  pub number_here : (l : Line) → IsSpelled call.words l → reads_model l.verb ≡ false → (bytes : List ℕ)
      → HasFile call line own.Model bytes → ⊥
  number_here l sp none bytes f = number_no_file call line bytes (reads_here l sp none) f

  number_asks_none : (l : Line) → IsSpelled call.words l → reads_model l.verb ≡ false → requests line ≡ []
  number_asks_none l sp none = number_no_files line (reads_here l sp none)

  pub number_none_absent : (l : Line) → IsSpelled call.words l → reads_model l.verb ≡ false
      → (before : List Request) (request : Request) (behind : List Request)
      → requests line ≡ before ++ request ∷ behind → ⊥
  number_none_absent l sp none before request behind order =
      empty_split before request behind (sym (number_asks_none l sp none) ∙ order)

  -- so no file is named in a call with them
  pub number_names_none : (l : Line) → IsSpelled call.words l → reads_model l.verb ≡ false → NamesFile call.words → ⊥
  number_names_none l sp none names =
      names.some (ap requests (one_line call.words names.line line names.spelled spelled) ∙ number_asks_none l sp none)

  -- where all come, none is the first that doesn't
  pub none_absent : (found : Found) (name : Word) → Each (Came call) (requests line)
      → ((bytes : List ℕ) → found ≡ whole bytes → ⊥) → IsFirstAbsent call found name → ⊥
  none_absent found name all other h =
      let same = one_line call.words h.line line h.spelled spelled in
      let each = subst (λ (list : List Request). Each (Came call) list)
      (ap (λ (x : Line). requests x) (sym same) ∙ h.order) all in
      let came = came_at call h.before h.behind h.request each in
      other came.0 (found_once call h.request found (whole came.0) known h.absent came.1)

  pub broken_answer : (ended : Ended) (text bytes : List ℕ) (rule number : ℕ) → Each (Came call) (requests line)
      → HasFile call line own.Model bytes → Breaks (limit_of line) bytes rule number → Means call ended text
      → (ended ≡ Model rule number) ⊎ ((ended ≡ ReadFault) ⊎ (ended ≡ Memory))
  broken_answer ended text bytes rule number all f breaks means = by (progress_of call ended text means)
    where
      same_bytes : (other : List ℕ) → HasFile call line own.Model other → other ≡ bytes
      same_bytes other h = file_once call line own.Model other bytes known h f

      is_rule : (r n : ℕ) → Breaks (limit_of line) bytes r n → ended ≡ Model r n → ended ≡ Model rule number
      is_rule r n b e =
          let one = one_break (limit_of line) bytes r n rule number b breaks in
          e ∙ ap (λ k. Model k n) one.0 ∙ ap (λ k. Model rule k) one.1

      by : Progress call ended → (ended ≡ Model rule number) ⊎ ((ended ≡ ReadFault) ⊎ (ended ≡ Memory))
      by (wordless none) = absurd (none (line, spelled))
      by (absent name h e) = absurd (none_absent missing name all (λ b q. (let x : ⊥ = cc in x)) h)
      by (over name h e) = absurd (none_absent too_long name all (λ b q. (let x : ⊥ = cc in x)) h)
      by (broken r n t h e) =
          let b = broken_here r n t h in
          inl (is_rule r n (subst (λ (list : List ℕ). Breaks (limit_of line) list r n) (same_bytes b.0 b.1) b.2) e)
      by (read l m h origin) =
          let r = read_here l m h in
          absurd
          (not_both (limit_of line) r.bytes m rule number r.reads
          (subst (λ (list : List ℕ). Breaks (limit_of line) list rule number) (sym (same_bytes r.bytes r.file)) breaks))
      by (answers_number l sp none origin) = absurd (number_here l sp none bytes f)
      by (failed names e) = inr (inl e)
      by (wanting e) = inr (inr e)

-- ---- a model has one status
pub one_model_read : (call : Call) (k l : Line) (a b : RobustModel) → Known call.source → HasModel call k a
    → HasModel call l b → a ≡ b
one_model_read call k l a b known h other =
    let here : HasModel call k b = read_here call known k h.spelled l b other in
    let same : h.bytes ≡ here.bytes = file_once call k own.Model h.bytes here.bytes known h.file here.file in
    one_model (limit_of k) here.bytes a b
    (subst (λ (list : List ℕ). ReadsModel (limit_of k) list a) same h.reads) here.reads

pub same_status : (m : RobustModel) (a b : Status) (v w : Fraction) → HasStatus m a v → HasStatus m b w → a ≡ b
same_status m optimal optimal v w h k = refl
same_status m optimal infeasible v w h k = absurd (optimal_not_infeasible m v h k)
same_status m optimal unbounded v w h k = absurd (optimal_not_unbounded m v h k)
same_status m infeasible optimal v w h k = absurd (optimal_not_infeasible m w k h)
same_status m infeasible infeasible v w h k = refl
same_status m infeasible unbounded v w h k = absurd (infeasible_not_unbounded m h k)
same_status m unbounded optimal v w h k = absurd (optimal_not_unbounded m w k h)
same_status m unbounded infeasible v w h k = absurd (infeasible_not_unbounded m k h)
same_status m unbounded unbounded v w h k = refl
