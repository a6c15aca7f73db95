-- What a call of `gen` prints for a number, where both routes have a status:
-- one text, whichever the call and its width.
use Rattle.std.proofs.Common.{◌≡◌, ◌≢◌, ℕ, List, ◌++◌, ap, ap₂, refl, sym, ◌∙◌, subst}
use Rattle.rob_algebra.specs.Fraction.{Fraction}
use Rattle.rob_gen.specs.Generated.{generated}
use Rattle.rob_meaning.specs.Certificates.{Status, optimal, infeasible, unbounded}
use Rattle.rob_meaning.specs.Proves.{HasStatus}
use Rattle.rob_meaning.specs.RobustModel.{RobustModel}
use Rattle.rob_top.proofs.Coming.ComparedAnswerLemmas.{one_number}
use Rattle.rob_top.proofs.Meaning.ComparedLemmas.{one_value}
use Rattle.rob_top.proofs.Origins.ProgressLemmas.{same_status}
use Rattle.rob_top.specs.Calls.{Call, limit_of}
use Rattle.rob_top.specs.Compared.{AsksFor, IsCompared, TellsStatus, heading, status_line}
use Rattle.rob_top.specs.Generated.{TellsNumber}
use Rattle.rob_top.specs.Headline.{Means}
use Rattle.rob_top.specs.Ways as ways
use Rattle.rob_top.specs.Ways.{Prints}
use Rattle.rob_commands.specs.declared.ended.Ended.TheVariants.{Printed}
use Rattle.rob_words.proofs.Spellings.{one_line}
use Rattle.rob_words.specs.Commands.{IsSpelled, Line}
use Rattle.rob_words.specs.declared.route.Route.{Route}
use Rattle.rob_words.specs.declared.route.Route.TheVariants.{Cuts, Dual}
use Rattle.rob_words.specs.declared.verb.Verb.{Verb}
use Rattle.rob_words.specs.declared.verb.Verb.TheVariants.{CellText, Gen, Narrow, Replay, Rows, Sweep, SweepText, Text, Worst}

-- ---- what a call on the number prints
module _ (call : Call) (l : Line) (n : ℕ) (asks : AsksFor call l n) where
  number_is : (k : Line) (number : ℕ) → AsksFor call k number → number ≡ n
  number_is k number h =
      one_number l number n
      (subst (λ (x : Line). TellsNumber x number) (one_line call.words k l h.spelled asks.spelled) h.told) asks.told

  pub summary_of : (text : List ℕ) → Means call Printed text → (h : IsCompared call text) × (h.number ≡ n)
  summary_of text means = by means
    where
      other : (verb : Verb) → verb ≢ Gen → (k : Line) → IsSpelled call.words k → k.verb ≡ verb
          → (h : IsCompared call text) × (h.number ≡ n)
      other verb differ k spelled is =
          absurd (differ
          (sym is ∙ ap (λ (x : Line). x.verb) (one_line call.words k l spelled asks.spelled) ∙ asks.is_gen))

      by : Prints call text → (h : IsCompared call text) × (h.number ≡ n)
      by (ways.rows h) = other Rows (λ e. cc) h.line h.forms.model.spelled h.is_rows
      by (ways.replayed h) =
          other Replay (λ e. cc) h.line h.has.plan.certificate.file.read.spelled h.has.plan.certificate.file.is_verb
      by (ways.generated h) = other Text (λ e. cc) h.line h.spelled h.is_text
      by (ways.worst_found h) =
          other Worst (λ e. cc) h.line h.has.plan.certificate.file.read.model.spelled
          h.has.plan.certificate.file.is_verb
      by (ways.priced h) = other Sweep (λ e. cc) h.line h.has.model.spelled h.has.is_sweep
      by (ways.limited h) = other SweepText (λ e. cc) h.line h.has.model.spelled h.has.is_text
      by (ways.narrowed h) = other Narrow (λ e. cc) h.line h.forms.model.spelled h.is_narrow
      by (ways.split_written h) = other CellText (λ e. cc) h.line h.has.has_cuts.has_word.model.spelled h.is_text
      by (ways.compared h) = (h, number_is h.line h.number h.asks)

-- ---- the line of a route is the same
line_alike : (way : Route) (s : Status) (v w : Fraction) → (s ≡ optimal → v ≡ w)
    → status_line way s v ≡ status_line way s w
line_alike way optimal v w e = ap (λ (x : Fraction). status_line way optimal x) (e refl)
line_alike way infeasible v w e = refl
line_alike way unbounded v w e = refl

told_alike : (m : RobustModel) (way : Route) (limit limit' : ℕ) (s t : Status) (text other : List ℕ)
    → TellsStatus limit m way s text → TellsStatus limit' m way t other → text ≡ other
told_alike m way limit limit' s t text other x y =
    let same : s ≡ t = same_status m s t x.c.value y.c.value x.holds y.holds in
    let holds : HasStatus m s y.c.value = subst (λ (z : Status). HasStatus m z y.c.value) (sym same) y.holds in
    x.printed
    ∙ line_alike way s x.c.value y.c.value (one_value limit m s x.c.value y.c.value x.holds holds)
    ∙ ap (λ (z : Status). status_line way z y.c.value) same
    ∙ sym y.printed

-- ---- so the text is
alike : (a b : Call) (n : ℕ) (text other : List ℕ) (x : IsCompared a text) (y : IsCompared b other)
    → x.number ≡ n → y.number ≡ n
    → text ≡ other
alike a b n text other x y first second =
    let tells : (way : Route) (limit : ℕ) (s : Status) (line : List ℕ) (k : ℕ) → k ≡ n
    → TellsStatus limit (generated k) way s line
    → TellsStatus limit (generated n) way s line =
    λ way limit s line k e h. subst (λ (i : ℕ). TellsStatus limit (generated i) way s line) e h
    in
    let duals =
    told_alike (generated n) Dual (limit_of x.line) (limit_of y.line) x.status y.status x.by_dual y.by_dual
    (tells Dual (limit_of x.line) x.status x.by_dual x.number first x.dual)
    (tells Dual (limit_of y.line) y.status y.by_dual y.number second y.dual)
    in
    let cuts =
    told_alike (generated n) Cuts (limit_of x.line) (limit_of y.line) x.status y.status x.by_cuts y.by_cuts
    (tells Cuts (limit_of x.line) x.status x.by_cuts x.number first x.cuts)
    (tells Cuts (limit_of y.line) y.status y.by_cuts y.number second y.cuts)
    in
    x.printed
    ∙ ap₂ (λ (k : ℕ) (lines : List ℕ). heading k ++ lines) (first ∙ sym second)
    (ap₂ (λ (p q : List ℕ). p ++ q) duals cuts)
    ∙ sym y.printed

pub one_summary : (a b : Call) (l k : Line) (n : ℕ) (text other : List ℕ) → AsksFor a l n → AsksFor b k n
    → Means a Printed text → Means b Printed other → text ≡ other
one_summary a b l k n text other here there means also =
    let x = summary_of a l n here text means in
    let y = summary_of b k n there other also in
    alike a b n text other x.0 y.0 x.1 y.1
