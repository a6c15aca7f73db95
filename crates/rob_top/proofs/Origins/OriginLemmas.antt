-- What an answer comes from, where a model was read.
use Rattle.std.proofs.Common.{◌≡◌, ℕ, ℤ, true, false, List, Some, None, map, refl, sym, ◌∙◌, ap, subst, inl, inr, ◌⊎◌}
use Rattle.rob_algebra.specs.Fraction.{Fraction, of_int}
use Rattle.rob_branch.specs.Growth.{IsWrittenUpTo}
use Rattle.rob_dualize.specs.Models.{IsWideIn}
use Rattle.rob_check.specs.Conditions.{verdict_of}
use Rattle.rob_dualize.specs.Solving.{IsShownEmpty}
use Rattle.rob_meaning.specs.Certificates.{Certificate, Status, optimal, infeasible, unbounded}
use Rattle.rob_meaning.specs.Proves.{HasStatus, Proves, ProvesAs}
use Rattle.rob_meaning.specs.RobustModel.{RobustModel}
use Rattle.rob_meaning.specs.UncertaintySet.{Admits}
use Rattle.rob_model.specs.declared.place.Place.{Place}
use Rattle.rob_model.specs.declared.place.Spot.{Spot}
use Rattle.rob_reach.specs.Boxes.{box}
use Rattle.rob_reach.specs.Growing.{Grows, IsGrown, Visits, start as first_search}
use Rattle.rob_reach.specs.Sweeps.{IsBudgetAt}
use Rattle.rob_reach.specs.Trees.{Node, Tree, leaf, left_open, split}
use Rattle.rob_reach.specs.WholeStatus.{HasWholeStatus}
use Rattle.rob_replay.specs.Files.{IsFile}
use Rattle.rob_replay.specs.Outcome.{outcome}
use Rattle.rob_sets.specs.FirstWide.{IsFirstWide}
use Rattle.rob_sweep.specs.Answering.{AreWritten}
use Rattle.rob_sweep.specs.Stops.{IsWideAtLimit, KeepsRules}
use Rattle.rob_tree.specs.View.{branch_of}
use Rattle.rob_tree.specs.declared.tree.Branch.{Branch}
use Rattle.rob_top.proofs.Meaning.RouteLemmas.{wide_on_way}
use Rattle.rob_top.proofs.Meaning.SoughtLemmas.{forms_sought, forms_unnamed, forms_unplanned, lacking_verb}
use Rattle.rob_tree.specs.declared.verdict.LeafFault.{LeafFault}
use Rattle.rob_top.proofs.Telling.NamingLemmas.{breaking_verb}
use Rattle.rob_top.proofs.Origins.SplitOriginLemmas.{SplitOrigin}
use Rattle.rob_top.proofs.Origins.TreeOriginLemmas.{TreeOrigin, breaks_names, breaks_text, judges_tree}
use Rattle.rob_top.specs.Branched.{BreaksWhole, IsBranched, IsEmptyBranched, IsNoWhole, IsWideNode}
use Rattle.rob_top.specs.Calls.{Call, limit_of}
use Rattle.rob_top.specs.Checked.{IsCertificateAccepted, IsCertificateRejected}
use Rattle.rob_top.specs.Commands as works
use Rattle.rob_top.specs.Commands.{IsBranching, IsElaborating, IsSweeping, Work, makes_forms, work_of}
use Rattle.rob_top.specs.Inputs.{BreaksCertificate, HasCertificate, HasCertificateFile, HasForms, HasScenarioFile, HasSought, HasWholeVariables, LacksPlan}
use Rattle.rob_top.specs.Refused.{IsNoCertificate, IsNoPlan, IsTooWideOnWay, IsWideSpot, checking, elaborating, replaying, searching}
use Rattle.rob_top.specs.Narrowed.{IsNarrowed}
use Rattle.rob_top.specs.Replayed.{IsNoScenarios, IsReplayed, replay_ended}
use Rattle.rob_top.specs.Routes.{IsWideOnWay}
use Rattle.rob_top.specs.Searched.{IsEmptySought, IsNoRow, IsSearched, IsWideSought, NamesNoForm, ShowsWorst, certificate_vector}
use Rattle.rob_top.specs.Solved.{IsEmptySet as IsShownEmptySet, IsRows, IsSolved}
use Rattle.rob_top.specs.TreeChecked.{IsNoTree, IsTreeAccepted, IsTreeRejected, IsWideLeaf}
use Rattle.rob_top.specs.Swept.{BreaksSweep, HasLimit, HasSweep, IsLimited, IsNoSweep, IsPriced, IsWideBudget, at_limit, at_limits}
use Rattle.rob_top.specs.Work.{verdict_ended}
use Rattle.rob_commands.specs.Replies.{ended_of}
use Rattle.rob_commands.specs.declared.ended.Ended.{Ended}
use Rattle.rob_commands.specs.declared.ended.Ended.TheVariants.{Printed, Accepted, Rejected, EmptySet, TooWide, WideNode, WideBudget, Cert, Scenarios, Whole, Sweep, Tree as TreeRule, TreeRejected, NoRow}
use Rattle.rob_words.specs.Commands.{Line}
use Rattle.rob_words.specs.Values.{Word}
use Rattle.rob_words.specs.declared.verb.Verb.TheVariants.{CheckTree}
use Rattle.rob_elab.specs.Written.{judged, IsWritten}
use Rattle.rob_words.specs.declared.verb.Verb.TheVariants as verbs

-- what stands behind an answer of `whole` and `tree`: a rule that the named variables break; a status over plans where
-- they are whole; an empty set; or a number that is wide in a box
pub data WholeOrigin (call : Call) (line : Line) (m : RobustModel) (ended : Ended) : Type 0 where
  breaks : (rule : ℕ) → BreaksWhole call line m rule → ended ≡ Whole rule → WholeOrigin call line m ended
  grows : (names : List ℕ) (status : Status) (v : Fraction) (u : List Fraction) → HasWholeVariables call line m names
      → IsWritten (limit_of line) m → Admits m u → HasWholeStatus m names status v → ended ≡ ended_of status
      → WholeOrigin call line m ended
  shows_none : (names : List ℕ) (weights : List ℤ) → HasWholeVariables call line m names → IsWritten (limit_of line) m
      → IsShownEmpty m (map of_int weights) → ended ≡ EmptySet weights → WholeOrigin call line m ended
  wide_box : (names : List ℕ) (path : List Branch) (spot : Spot) → HasWholeVariables call line m names
      → IsWrittenUpTo (limit_of line) m (map branch_of path)
      → Visits m names first_search (map branch_of path) → IsWideIn (limit_of line) (box m (map branch_of path)) spot
      → ended ≡ WideNode path spot → WholeOrigin call line m ended

-- what stands behind an answer of `worst`: a certificate without a plan; a word that names no form; a worst case, where
-- some scenario is admitted; an empty set; or a number that is wide on the way
pub data WorstOrigin (call : Call) (line : Line) (m : RobustModel) (ended : Ended) : Type 0 where
  plans_none : (rule number : ℕ) → LacksPlan call verbs.Worst line m rule number → ended ≡ Cert rule number
      → WorstOrigin call line m ended
  names_none : (c : Certificate) (name : Word) → NamesNoForm call line m c name → ended ≡ NoRow
      → WorstOrigin call line m ended
  shows_worst : (c : Certificate) (form : ℕ) (text : List ℕ) → HasSought call line m c form
      → ShowsWorst (limit_of line) m form (certificate_vector c) text → ended ≡ Printed → WorstOrigin call line m ended
  admits_none : (c : Certificate) (form : ℕ) (weights : List ℤ) → HasSought call line m c form
      → IsShownEmpty m (map of_int weights) → ended ≡ EmptySet weights → WorstOrigin call line m ended
  wide_search : (c : Certificate) (form : ℕ) (spot : Spot) → HasSought call line m c form
      → IsWideSought (limit_of line) m form (certificate_vector c) spot → ended ≡ TooWide spot
      → WorstOrigin call line m ended

-- what stands behind an answer of `sweep` and `sweeptext`: a rule that is
-- broken; printed answers; or a number that is wide at a limit
pub data SweepOrigin (call : Call) (line : Line) (m : RobustModel) (ended : Ended) : Type 0 where
  breaks_rule : (rule : ℕ) → BreaksSweep call line m rule → ended ≡ Sweep rule → SweepOrigin call line m ended
  prices : (n : ℕ) (limits : List Fraction) → HasSweep call line m n limits → KeepsRules m.set_lines n limits
      → AreWritten (limit_of line) m n limits → ended ≡ Printed → SweepOrigin call line m ended
  wide_limit : (n : ℕ) (limits : List Fraction) (number : ℕ) (spot : Spot) → HasSweep call line m n limits
      → KeepsRules m.set_lines n limits → IsWideAtLimit (limit_of line) m n limits number spot
      → ended ≡ WideBudget number spot
      → SweepOrigin call line m ended
  writes_limit : (n : ℕ) (g : Fraction) → HasLimit call line m n g → IsBudgetAt m.set_lines n → ended ≡ Printed
      → SweepOrigin call line m ended

-- what stands behind an answer of `solve` and `prove`: a status of the model; an empty set; or a number that is wide on
-- the way of the route
pub data SolveOrigin (call : Call) (line : Line) (m : RobustModel) (ended : Ended) : Type 0 where
  finds : (status : Status) (v : Fraction) (u : List Fraction) → Admits m u → HasForms call line m
      → HasStatus m status v → ended ≡ ended_of status → SolveOrigin call line m ended
  shows_empty : (weights : List ℤ) → HasForms call line m → IsShownEmpty m (map of_int weights)
      → ended ≡ EmptySet weights → SolveOrigin call line m ended
  wide_row : (spot : Spot) → HasForms call line m → IsWideOnWay line.way (limit_of line) m spot
      → ended ≡ TooWide spot → SolveOrigin call line m ended

-- of `check`: a verdict, or a certificate's text that breaks a rule
pub data CheckOrigin (call : Call) (line : Line) (m : RobustModel) (ended : Ended) : Type 0 where
  judges : (c : Certificate) → HasCertificate call verbs.Check line m c
      → ended ≡ verdict_ended (verdict_of (limit_of line) m c) → CheckOrigin call line m ended
  refuses : (bytes : List ℕ) (rule number : ℕ) → HasCertificateFile call verbs.Check line m bytes
      → BreaksCertificate (limit_of line) m bytes rule number → ended ≡ Cert rule number
      → CheckOrigin call line m ended

-- of `replay`: the outcome of a scenario file's records, or a certificate without a plan
pub data ReplayOrigin (call : Call) (line : Line) (m : RobustModel) (ended : Ended) : Type 0 where
  replays : (c : Certificate) (bytes : List ℕ) (rows : List (List (List ℕ)))
      → HasScenarioFile call line m c bytes → IsFile bytes rows
      → ended ≡ replay_ended (outcome (limit_of line) m c.plan rows) → ReplayOrigin call line m ended
  lacks_plan : (rule number : ℕ) → LacksPlan call verbs.Replay line m rule number → ended ≡ Cert rule number
      → ReplayOrigin call line m ended

-- by the work of the command. `rows` and `narrow` print, and nothing else; a command on a number reads no model
abbrev pub WorkOrigin : Work → Call → Line → RobustModel → Ended → Type 0
WorkOrigin works.rows call line m ended = HasForms call line m × (ended ≡ Printed)
WorkOrigin works.solving call line m ended = SolveOrigin call line m ended
WorkOrigin works.checking call line m ended = CheckOrigin call line m ended
WorkOrigin works.searching call line m ended = WorstOrigin call line m ended
WorkOrigin works.narrowing call line m ended = HasForms call line m × (ended ≡ Printed)
WorkOrigin works.replaying call line m ended = ReplayOrigin call line m ended
WorkOrigin works.branching call line m ended = WholeOrigin call line m ended
WorkOrigin works.tree_checking call line m ended = TreeOrigin call line m ended
WorkOrigin works.sweeping call line m ended = SweepOrigin call line m ended
WorkOrigin works.splitting call line m ended = SplitOrigin call line m ended
WorkOrigin works.generating call line m ended = ⊥

-- what stands behind the answer: a number of the set rows and forms that is wide, where the command makes them; or what
-- stands behind an answer of its work
pub data Origin (call : Call) (line : Line) (m : RobustModel) (ended : Ended) : Type 0 where
  wide_number : (spot : Spot) → IsElaborating line.verb → IsFirstWide (limit_of line) m (judged m) spot
      → ended ≡ TooWide spot → Origin call line m ended
  does : (w : Work) → work_of line.verb ≡ w → WorkOrigin w call line m ended → Origin call line m ended

-- `worst` makes set rows and forms before all that
worst_forms : (call : Call) (line : Line) (m : RobustModel) (ended : Ended)
    → WorstOrigin call line m ended → HasForms call line m
worst_forms call line m ended (plans_none rule number h e) = forms_unplanned call line m rule number h
worst_forms call line m ended (names_none c name h e) = forms_unnamed call line m c name h
worst_forms call line m ended (shows_worst c form text h shows e) = forms_sought call line m c form h
worst_forms call line m ended (admits_none c form weights h shown e) = forms_sought call line m c form h
worst_forms call line m ended (wide_search c form spot h wide e) = forms_sought call line m c form h

-- and so does each work that makes them
pub forms_of : (call : Call) (line : Line) (m : RobustModel) (ended : Ended) (w : Work) → makes_forms w ≡ true
    → WorkOrigin w call line m ended → HasForms call line m
forms_of call line m ended works.rows makes origin = origin.0
forms_of call line m ended works.solving makes (finds status v u inside forms holds e) = forms
forms_of call line m ended works.solving makes (shows_empty weights forms shown e) = forms
forms_of call line m ended works.solving makes (wide_row spot forms wide e) = forms
forms_of call line m ended works.checking makes (judges c h e) = h.file.read
forms_of call line m ended works.checking makes (refuses bytes rule number h breach e) = h.read
forms_of call line m ended works.searching makes origin = worst_forms call line m ended origin
forms_of call line m ended works.narrowing makes origin = origin.0
forms_of call line m ended other makes origin = absurd (let no : false ≡ true = makes in cc)

-- a command does one work, so no other stands behind its answer
pub same_work : (call : Call) (line : Line) (m : RobustModel) (ended : Ended) (v w : Work) → work_of line.verb ≡ v
    → work_of line.verb ≡ w → WorkOrigin v call line m ended → WorkOrigin w call line m ended
same_work call line m ended v w here is origin =
    subst (λ (x : Work). WorkOrigin x call line m ended) (sym here ∙ is) origin

-- a certificate that proves has an admitted scenario
pub inside_admitted : (m : RobustModel) (c : Certificate) (status : Status) → ProvesAs status m c → Admits m c.inside
inside_admitted m c optimal h = h.inside
inside_admitted m c infeasible h = h.inside
inside_admitted m c unbounded h = h.inside

-- and so has a model that grows into a tree, which has a certificate
pub grown_admits : (m : RobustModel) (names : List ℕ) (t : Tree) → IsGrown m names t → (u : List Fraction) × Admits m u
grown_admits m names t h = by t.root h.grows
  where
    of_certificate : (c : Certificate) → Proves m c → (u : List Fraction) × Admits m u
    of_certificate c proves = (c.inside, inside_admitted m c c.status proves)

    by : (root : Node) → Grows m names first_search root h.after → (u : List Fraction) × Admits m u
    by (leaf c) g = of_certificate c g.proves
    by (split j k below above) g = of_certificate g.0.0 g.0.1.proves
    by left_open g = absurd (let no : None ≡ Some g.0.0 = g.0.1 in cc)

module _ (call : Call) where
  pub branched_origin : (status : Status) (text : List ℕ) (h : IsBranched call status text)
      → Origin call h.line h.m (ended_of status)
  branched_origin status text h =
      let u = grown_admits h.m h.names h.t h.grown in
      does works.branching h.branches (grows h.names status h.t.value u.0 h.has h.written u.1 h.holds refl)

  pub empty_branched_origin : (weights : List ℤ) (text : List ℕ) (h : IsEmptyBranched call weights text)
      → Origin call h.line h.m (EmptySet weights)
  empty_branched_origin weights text h =
      does works.branching h.branches (shows_none h.names weights h.has h.written h.shown refl)

  pub wide_node_origin : (path : List Branch) (spot : Spot) (text : List ℕ) (h : IsWideNode call path spot text)
      → Origin call h.line h.m (WideNode path spot)
  wide_node_origin path spot text h =
      does works.branching h.branches (wide_box h.names path spot h.has h.written h.comes h.wide refl)

  pub no_whole_origin : (rule : ℕ) (text : List ℕ) (h : IsNoWhole call rule text) → Origin call h.line h.m (Whole rule)
  no_whole_origin rule text h = by (breaking_verb call h.line h.m rule h.breaks)
    where
      by : IsBranching h.line.verb ⊎ (h.line.verb ≡ CheckTree) → Origin call h.line h.m (Whole rule)
      by (inl is) = does works.branching is (breaks rule h.breaks refl)
      by (inr is) = does works.tree_checking (ap work_of is) (breaks_names rule h.breaks refl)

  pub tree_accepted_origin : (text : List ℕ) (h : IsTreeAccepted call text) → Origin call h.line h.m Accepted
  tree_accepted_origin text h =
      does works.tree_checking (ap work_of h.read.file.is_checktree)
      (judges_tree h.names h.t h.read (inl (h.accepted, refl)))

  pub tree_rejected_origin : (number : ℕ) (fault : LeafFault) (text : List ℕ)
      (h : IsTreeRejected call number fault text)
      → Origin call h.line h.m (TreeRejected number fault)
  tree_rejected_origin number fault text h =
      does works.tree_checking (ap work_of h.read.file.is_checktree)
      (judges_tree h.names h.t h.read (inr (inl (number, fault, h.rejected, refl))))

  pub wide_leaf_origin : (path : List Branch) (spot : Spot) (text : List ℕ) (h : IsWideLeaf call path spot text)
      → Origin call h.line h.m (WideNode path spot)
  wide_leaf_origin path spot text h =
      does works.tree_checking (ap work_of h.read.file.is_checktree)
      (judges_tree h.names h.t h.read (inr (inr (inl (path, spot, h.wide, refl)))))

  pub no_tree_origin : (rule number : ℕ) (text : List ℕ) (h : IsNoTree call rule number text)
      → Origin call h.line h.m (TreeRule rule number)
  no_tree_origin rule number text h =
      does works.tree_checking (ap work_of h.file.is_checktree)
      (breaks_text h.names h.bytes rule number h.file h.breaks refl)

  breaks_here : (line : Line) (m : RobustModel) (rule : ℕ) → BreaksSweep call line m rule → IsSweeping line.verb
  breaks_here line m rule (at_limits n limits has broken) = ap work_of has.is_sweep
  breaks_here line m rule (at_limit n g has none e) = ap work_of has.is_text

  pub no_sweep_origin : (rule : ℕ) (text : List ℕ) (h : IsNoSweep call rule text) → Origin call h.line h.m (Sweep rule)
  no_sweep_origin rule text h =
      does works.sweeping (breaks_here h.line h.m rule h.breaks) (breaks_rule rule h.breaks refl)

  pub priced_origin : (text : List ℕ) (h : IsPriced call text) → Origin call h.line h.m Printed
  priced_origin text h =
      does works.sweeping (ap work_of h.has.is_sweep) (prices h.n h.limits h.has h.keeps h.written refl)

  pub limited_origin : (text : List ℕ) (h : IsLimited call text) → Origin call h.line h.m Printed
  limited_origin text h = does works.sweeping (ap work_of h.has.is_text) (writes_limit h.n h.g h.has h.budget refl)

  pub wide_budget_origin : (number : ℕ) (spot : Spot) (text : List ℕ) (h : IsWideBudget call number spot text)
      → Origin call h.line h.m (WideBudget number spot)
  wide_budget_origin number spot text h =
      does works.sweeping (ap work_of h.has.is_sweep)
      (wide_limit h.n h.limits number spot h.has h.keeps h.wide refl)

  pub solved_origin : (status : Status) (text : List ℕ) (h : IsSolved call status text)
      → Origin call h.line h.m (ended_of status)
  solved_origin status text h =
      does works.solving h.solves
      (finds status h.c.value h.c.inside (inside_admitted h.m h.c h.c.status h.proves) h.forms h.holds refl)

  pub empty_origin : (weights : List ℤ) (text : List ℕ) (h : IsShownEmptySet call weights text)
      → Origin call h.line h.m (EmptySet weights)
  empty_origin weights text h = does works.solving h.solves (shows_empty weights h.forms h.shown refl)

  pub rows_origin : (text : List ℕ) (h : IsRows call text) → Origin call h.line h.m Printed
  rows_origin text h = does works.rows (ap work_of h.is_rows) (h.forms, refl)

  pub narrowed_origin : (text : List ℕ) (h : IsNarrowed call text) → Origin call h.line h.m Printed
  narrowed_origin text h = does works.narrowing (ap work_of h.is_narrow) (h.forms, refl)

  pub accepted_origin : (text : List ℕ) (h : IsCertificateAccepted call text) → Origin call h.line h.m Accepted
  accepted_origin text h =
      does works.checking (ap work_of h.read.file.is_verb) (judges h.c h.read (ap verdict_ended (sym h.verdict)))

  pub rejected_origin : (place : Place) (text : List ℕ) (h : IsCertificateRejected call place text)
      → Origin call h.line h.m (Rejected place)
  rejected_origin place text h =
      does works.checking (ap work_of h.read.file.is_verb) (judges h.c h.read (ap verdict_ended (sym h.verdict)))

  pub cert_origin : (rule number : ℕ) (text : List ℕ) (h : IsNoCertificate call rule number text)
      → Origin call h.line h.m (Cert rule number)
  cert_origin rule number text h =
      does works.checking (ap work_of h.file.is_verb) (refuses h.bytes rule number h.file h.breaks refl)

  pub wide_origin : (line : Line) (m : RobustModel) (spot : Spot) → IsWideSpot call line m spot
      → Origin call line m (TooWide spot)
  wide_origin line m spot (elaborating has makes first) = wide_number spot makes first refl
  wide_origin line m spot (checking c place has is verdict) =
      does works.checking (ap work_of has.file.is_verb)
      (judges c has (ap (λ (s : Spot). TooWide s) is ∙ ap verdict_ended (sym verdict)))
  wide_origin line m spot (replaying c bytes number has is gives) =
      does works.replaying (ap work_of has.plan.certificate.file.is_verb)
      (replays c bytes gives.0 has gives.1 (ap (λ (s : Spot). TooWide s) is ∙ ap replay_ended (sym gives.2)))
  wide_origin line m spot (searching c form has wide) =
      does works.searching (ap work_of has.plan.certificate.file.is_verb) (wide_search c form spot has wide refl)

  pub wide_way_origin : (spot : Spot) (text : List ℕ) (h : IsTooWideOnWay call spot text)
      → Origin call h.line h.m (TooWide spot)
  wide_way_origin spot text h =
      does works.solving h.solves
      (wide_row spot h.forms (wide_on_way h.m h.line.way (limit_of h.line) spot h.rounds h.wide) refl)

  pub replayed_origin : (text : List ℕ) (h : IsReplayed call text) → Origin call h.line h.m Printed
  replayed_origin text h =
      does works.replaying (ap work_of h.has.plan.certificate.file.is_verb)
      (replays h.c h.bytes h.rows h.has h.file (ap replay_ended (sym h.narrow)))

  pub scenarios_origin : (rule number : ℕ) (text : List ℕ) (h : IsNoScenarios call rule number text)
      → Origin call h.line h.m (Scenarios rule number)
  scenarios_origin rule number text h =
      does works.replaying (ap work_of h.has.plan.certificate.file.is_verb)
      (replays h.c h.bytes h.refused.0 h.has h.refused.1 (ap replay_ended (sym h.refused.2)))

  pub lacking_origin : (rule number : ℕ) (text : List ℕ) (h : IsNoPlan call verbs.Replay rule number text)
      → Origin call h.line h.m (Cert rule number)
  lacking_origin rule number text h =
      does works.replaying (ap work_of (lacking_verb call h.line h.m verbs.Replay rule number h.lacks))
      (lacks_plan rule number h.lacks refl)

  pub searched_origin : (text : List ℕ) (h : IsSearched call text) → Origin call h.line h.m Printed
  searched_origin text h =
      does works.searching (ap work_of h.has.plan.certificate.file.is_verb)
      (shows_worst h.c h.form text h.has h.shows refl)

  pub empty_sought_origin : (weights : List ℤ) (text : List ℕ) (h : IsEmptySought call weights text)
      → Origin call h.line h.m (EmptySet weights)
  empty_sought_origin weights text h =
      does works.searching (ap work_of h.has.plan.certificate.file.is_verb)
      (admits_none h.c h.form weights h.has h.shown refl)

  pub no_row_origin : (text : List ℕ) (h : IsNoRow call text) → Origin call h.line h.m NoRow
  no_row_origin text h =
      does works.searching (ap work_of h.names_none.plan.certificate.file.is_verb)
      (names_none h.c h.name h.names_none refl)

  pub unplanned_origin : (rule number : ℕ) (text : List ℕ) (h : IsNoPlan call verbs.Worst rule number text)
      → Origin call h.line h.m (Cert rule number)
  unplanned_origin rule number text h =
      does works.searching (ap work_of (lacking_verb call h.line h.m verbs.Worst rule number h.lacks))
      (plans_none rule number h.lacks refl)

-- the same of equal lines and models
pub origin_at : (call : Call) (l line : Line) (k m : RobustModel) (ended : Ended) → l ≡ line → k ≡ m
    → Origin call l k ended → Origin call line m ended
origin_at call l line k m ended same alike h =
    subst (λ (x : Line). Origin call x m ended) same (subst (λ (x : RobustModel). Origin call l x ended) alike h)
