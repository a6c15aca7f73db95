-- A model has one status, and none where no scenario is admitted: what two answers say of each other, of one call, or
-- of two calls of `solve` and `prove` on one model, or on the same bytes.
use Rattle.std.proofs.Common.{◌≡◌, ◌∙◌, ℕ, ℤ, List, ap, subst, sym}
use Rattle.rob_algebra.specs.Fraction.{Fraction}
use Rattle.rob_meaning.proofs.Proving.StatusLemmas.{one_optimum}
use Rattle.rob_meaning.specs.Certificates.{Status, optimal, infeasible, unbounded}
use Rattle.rob_meaning.specs.Proves.{HasStatus}
use Rattle.rob_meaning.specs.RobustModel.{RobustModel}
use Rattle.rob_meaning.specs.UncertaintySet.{Admits}
use Rattle.rob_parse.proofs.Building.OneModel.{model_alike}
use Rattle.rob_parse.specs.Modelled.{ReadsModel}
use Rattle.rob_pieces.specs.Cuts.{Cut}
use Rattle.rob_reach.specs.WholeStatus.{HasWholeStatus}
use Rattle.rob_top.proofs.Origins.OriginLemmas.{grown_admits, inside_admitted}
use Rattle.rob_top.proofs.Origins.KnownInputs.{known_again, model_known}
use Rattle.rob_top.proofs.Coming.SplitAnswerLemmas.{cells_decides, same_piece_status}
use Rattle.rob_top.proofs.Origins.ProgressLemmas.{file_once, read_here, same_status}
use Rattle.rob_top.proofs.Coming.TrueAnswerLemmas.{solve_decides}
use Rattle.rob_top.proofs.Coming.WholeAnswerLemmas.{same_whole_status, whole_decides}
use Rattle.rob_top.specs.Calls.{Call, Known, known_call, limit_of}
use Rattle.rob_top.specs.Commands as works
use Rattle.rob_top.specs.Commands.{IsBranching, IsSolving, IsSplitting, Work, work_of}
use Rattle.rob_top.specs.Endings.{IsSolveAnswer, IsWholeAnswer}
use Rattle.rob_top.specs.Headline.{Means}
use Rattle.rob_top.specs.Inputs.{HasModel, HasModelText}
use Rattle.rob_top.specs.Solved.{IsEmptySet, IsSolved}
use Rattle.rob_top.specs.Ways.{FindsEmpty, FindsStatus, branched, in_cells, pieced, solved, while_branching, while_searching, while_solving}
use Rattle.rob_top.specs.Split.{HasStatusOverPieces}
use Rattle.rob_top.specs.SplitEnds.{IsCellsAnswer}
use Rattle.rob_commands.specs.Replies.{ended_of}
use Rattle.rob_commands.specs.declared.ended.Ended.TheVariants.{EmptySet}
use Rattle.rob_words.proofs.Spellings.{one_line}
use Rattle.rob_words.specs.Commands.{Line}
use Rattle.rob_words.specs.declared.route.Route.{Route}
use Rattle.rob_words.specs.declared.verb.Own.TheVariants as own
use Rattle.rob_words.specs.declared.verb.Verb.TheVariants.{Worst}

-- a status is answered by a certificate, by a tree, or over pieces
status_by : (call : Call) (status : Status) (text : List ℕ) → Means call (ended_of status) text
    → FindsStatus call status text
status_by call optimal text h = h
status_by call infeasible text h = h
status_by call unbounded text h = h

solve_status : (way : Route) (limit : ℕ) (m : RobustModel) (b : Status) → IsSolveAnswer way limit m (ended_of b)
    → (w : Fraction) × HasStatus m b w
solve_status way limit m optimal h = h
solve_status way limit m infeasible h = h
solve_status way limit m unbounded h = h

tree_status : (limit : ℕ) (m : RobustModel) (names : List ℕ) (b : Status) → IsWholeAnswer limit m names (ended_of b)
    → (w : Fraction) × HasWholeStatus m names b w
tree_status limit m names optimal h = h
tree_status limit m names infeasible h = h
tree_status limit m names unbounded h = h

piece_status : (limit : ℕ) (m : RobustModel) (cuts : List Cut) (b : Status) → IsCellsAnswer limit m cuts (ended_of b)
    → (w : Fraction) × HasStatusOverPieces m cuts b w
piece_status limit m cuts optimal h = h
piece_status limit m cuts infeasible h = h
piece_status limit m cuts unbounded h = h

pub one_status : (call : Call) (a b : Status) (text other : List ℕ) → Known call.source
    → Means call (ended_of a) text → Means call (ended_of b) other → a ≡ b
one_status call a b text other known h k = by (status_by call a text h)
  where
    by : FindsStatus call a text → a ≡ b
    by (solved s) =
        let w = solve_status s.line.way _ s.m b
        (solve_decides call known s.line s.m s.forms s.solves (ended_of b) other k) in
        same_status s.m a b s.c.value w.0 s.holds w.1
    by (branched s) =
        let w = tree_status _ s.m s.names b
        (whole_decides call known s.line s.m s.names s.has s.branches (ended_of b) other k) in
        same_whole_status s.m s.names a b s.t.value w.0 s.holds w.1
    by (pieced s) =
        let w = piece_status _ s.m s.cuts b
        (cells_decides call known s.line s.m s.cuts s.has s.is_cells (ended_of b) other k) in
        same_piece_status s.m s.cuts a b s.c.value w.0 s.holds w.1

pub not_empty : (call : Call) (status : Status) (weights : List ℤ) (text other : List ℕ) → Known call.source
    → Means call (ended_of status) text → Means call (EmptySet weights) other → ⊥
not_empty call status weights text other known h empty = by (status_by call status text h)
  where
    by : FindsStatus call status text → ⊥
    by (solved s) =
        solve_decides call known s.line s.m s.forms s.solves (EmptySet weights) other empty s.c.inside
        (inside_admitted s.m s.c s.c.status s.proves)
    by (branched s) =
        let u = grown_admits s.m s.names s.t s.grown in
        whole_decides call known s.line s.m s.names s.has s.branches (EmptySet weights) other empty u.0 u.1
    by (pieced s) = cells_decides call known s.line s.m s.cuts s.has s.is_cells (EmptySet weights) other empty s.admits

-- two calls on one model have one status, and an optimum one value, whichever their routes
pub one_answer : (a b : Call) (s t : Status) (text other : List ℕ) (x : IsSolved a s text) (y : IsSolved b t other)
    → x.m ≡ y.m
    → (s ≡ t) × (s ≡ optimal → x.c.value ≡ y.c.value)
one_answer a b s t text other x y same = (statuses, λ is. values is statuses)
  where
    there : HasStatus y.m s x.c.value
    there = subst (λ (k : RobustModel). HasStatus k s x.c.value) same x.holds

    statuses : s ≡ t
    statuses = same_status y.m s t x.c.value y.c.value there y.holds

    values : s ≡ optimal → s ≡ t → x.c.value ≡ y.c.value
    values is alike =
        one_optimum y.m x.c.value y.c.value (subst (λ (k : Status). HasStatus y.m k x.c.value) is there)
        (subst (λ (k : Status). HasStatus y.m k y.c.value) (sym alike ∙ is) y.holds)

-- and none has a status where no scenario is admitted
pub one_emptiness : (a b : Call) (s : Status) (weights : List ℤ) (text other : List ℕ) (x : IsSolved a s text)
    (y : IsEmptySet b weights other)
    → x.m ≡ y.m → ⊥
one_emptiness a b s weights text other x y same =
    y.shown.empty x.c.inside
    (subst (λ (k : RobustModel). Admits k x.c.inside) same (inside_admitted x.m x.c x.c.status x.proves))

-- ---- a call of `solve` or `prove` whose model's file has these bytes
module _ (call : Call) (known : Known call.source) (line : Line) (bytes : List ℕ)
    (has : HasModelText (known_call call known) line bytes)
    (solves : IsSolving line.verb) where
  this_line : (l : Line) (m : RobustModel) → HasModel call l m → l ≡ line
  this_line l m h = one_line call.words l line h.spelled has.spelled

  -- the model that was read was read from them
  read_from : (l : Line) (m : RobustModel) → HasModel call l m → ReadsModel (limit_of line) bytes m
  read_from l m h =
      let told : HasModel (known_call call known) line m =
      read_here (known_call call known) (known_again known) line has.spelled l m (model_known call known l m h)
      in
      let same : told.bytes ≡ bytes =
      file_once (known_call call known) line own.Model told.bytes bytes (known_again known) told.file has.file
      in
      subst (λ (b : List ℕ). ReadsModel (limit_of line) b m) same told.reads

  -- its work is to solve it, and no other
  work_here : (w : Work) (l : Line) (m : RobustModel) → HasModel call l m → work_of l.verb ≡ w → works.solving ≡ w
  work_here w l m h is = sym solves ∙ ap (λ (k : Line). work_of k.verb) (sym (this_line l m h)) ∙ is

  no_branch : (l : Line) (m : RobustModel) → HasModel call l m → IsBranching l.verb → ⊥
  no_branch l m h is = let no : works.solving ≡ works.branching = work_here works.branching l m h is in cc

  no_split : (l : Line) (m : RobustModel) → HasModel call l m → IsSplitting l.verb → ⊥
  no_split l m h is = let no : works.solving ≡ works.splitting = work_here works.splitting l m h is in cc

  no_search : (l : Line) (m : RobustModel) → HasModel call l m → l.verb ≡ Worst → ⊥
  no_search l m h is =
      let no : works.solving ≡ works.searching = work_here works.searching l m h (ap work_of is) in cc

  certified : (status : Status) (text : List ℕ) → Means call (ended_of status) text → IsSolved call status text
  certified status text means = by (status_by call status text means)
    where
      by : FindsStatus call status text → IsSolved call status text
      by (solved s) = s
      by (branched s) = absurd (no_branch s.line s.m s.has.named.model s.branches)
      by (pieced s) =
          absurd (no_split s.line s.m s.has.has_cuts.has_word.model s.has.has_cuts.has_word.is_splitting)

  shown_empty : (weights : List ℤ) (text : List ℕ) → Means call (EmptySet weights) text → IsEmptySet call weights text
  shown_empty weights text means = by means
    where
      by : FindsEmpty call weights text → IsEmptySet call weights text
      by (while_solving s) = s
      by (while_branching s) = absurd (no_branch s.line s.m s.has.named.model s.branches)
      by (while_searching s) =
          let file = s.has.plan.certificate.file in
          absurd (no_search s.line s.m file.read.model file.is_verb)
      by (in_cells s) =
          absurd (no_split s.line s.m s.has.has_cuts.has_word.model s.has.has_cuts.has_word.is_splitting)

-- ---- two of them, whichever their routes and widths
module _ (a b : Call) (known : Known a.source) (again : Known b.source) (line other : Line) (bytes : List ℕ)
    (first : HasModelText (known_call a known) line bytes) (second : HasModelText (known_call b again) other bytes)
    (solves : IsSolving line.verb) (solves_too : IsSolving other.verb) where
  one_read : (l k : Line) (m n : RobustModel) → HasModel a l m → HasModel b k n → m ≡ n
  one_read l k m n h g =
      model_alike (limit_of line) (limit_of other) bytes m n (read_from a known line bytes first solves l m h)
      (read_from b again other bytes second solves_too k n g)

  -- have one status, and of an optimum one value
  pub same_bytes : (s t : Status) (text shown : List ℕ) → Means a (ended_of s) text → Means b (ended_of t) shown
      → (x : IsSolved a s text) × (y : IsSolved b t shown) × (s ≡ t) × (s ≡ optimal → x.c.value ≡ y.c.value)
  same_bytes s t text shown h k =
      let x = certified a known line bytes first solves s text h in
      let y = certified b again other bytes second solves_too t shown k in
      let one = one_answer a b s t text shown x y (one_read x.line y.line x.m y.m x.forms.model y.forms.model) in
      (x, y, one.0, one.1)

  -- and not the one a status and the other an empty set
  pub same_emptiness : (s : Status) (weights : List ℤ) (text shown : List ℕ) → Means a (ended_of s) text
      → Means b (EmptySet weights) shown → ⊥
  same_emptiness s weights text shown h k =
      let x = certified a known line bytes first solves s text h in
      let y = shown_empty b again other bytes second solves_too weights shown k in
      one_emptiness a b s weights text shown x y (one_read x.line y.line x.m y.m x.forms.model y.forms.model)
