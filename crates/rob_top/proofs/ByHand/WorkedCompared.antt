-- Calls of `gen`: each number is answered; and what `gen 0` prints, worked by hand.
use Rattle.std.proofs.Common.{◌≡◌, ℕ, List, [], ◌∷◌, ◌++◌, ap₂, inr, refl, ◌∙◌, subst, arith}
use Rattle.std.specs.Fmt.{digits}
use Rattle.std.specs.Prelude.{codes}
use Rattle.rob_algebra.specs.Fraction.{Fraction, ratio}
use Rattle.rob_gen.specs.Generated.{generated}
use Rattle.rob_meaning.proofs.Proving.StatusLemmas.{one_optimum}
use Rattle.rob_meaning.proofs.ByHand.WorkedNotation.{int}
use Rattle.rob_meaning.proofs.ByHand.WorkedTests.{found, test_certificate}
use Rattle.rob_meaning.specs.Certificates.{Certificate, Status, optimal}
use Rattle.rob_meaning.specs.Places.{0ℚ, 1ℚ}
use Rattle.rob_meaning.specs.Proves.{HasStatus}
use Rattle.rob_top.proofs.Relations.OneSummary.{summary_of}
use Rattle.rob_top.proofs.Origins.ProgressLemmas.{same_status}
use Rattle.rob_top.proofs.ByHand.WorkedNumbers.{number_plain}
use Rattle.rob_top.specs.Calls.{Call}
use Rattle.rob_top.specs.Compared.{AsksFor, IsCompared, heading, status_line}
use Rattle.rob_top.specs.ComparedEnds.{IsComparedAnswer}
use Rattle.rob_top.specs.Completeness.{MustEnd}
use Rattle.rob_top.specs.Headline.{Means}
use Rattle.rob_top.specs.WorkedModels.{greatest}
use Rattle.rob_top.specs.WorkedCompared.{first_summary, gen_call}
use Rattle.rob_commands.specs.declared.ended.Ended.{Ended}
use Rattle.rob_commands.specs.declared.ended.Ended.TheVariants.{Printed}
use Rattle.rob_words.specs.Commands.{IsSpelled, Line, own}
use Rattle.rob_words.specs.Kinds.{IsNumber, number_of}
use Rattle.rob_words.specs.Values.{Word}
use Rattle.rob_words.specs.declared.route.Route.{Route}
use Rattle.rob_words.specs.declared.route.Route.TheVariants.{Cuts, Dual}
use Rattle.rob_words.specs.declared.verb.Verb.TheVariants.{Gen}
use Rattle.rob_words.specs.declared.width.Width.TheVariants.{SixtyTwo}

-- ---- gen WORD
abbrev line : Word → Line
line word = record { verb = Gen; own = word ∷ []; way = Dual; width = SixtyTwo }

line_spelled : (word : Word) → IsNumber word → IsSpelled (codes "gen" ∷ word ∷ []) (line word)
line_spelled word h = (
  own word ∷ [],
  record {
    spelled = refl;
    own = refl;
    count = refl;
    names = (number_plain word h, tt);
    kinds = (h, tt);
    width = inr (refl, refl);
    route = (refl, refl);
  },
)

-- each number's summary is printed, with a status that its model has, or a number on the way of a route is wide
pub number_is_compared : (word : Word) → IsNumber word → (result : Ended) → MustEnd (gen_call word) result
    → IsComparedAnswer greatest (generated (number_of word)) result
number_is_compared word h result must =
    must.compared.answer (line word) (number_of word)
    (record {
      spelled = line_spelled word h;
      is_gen = refl;
      told = record { word = word; told = refl; spells = refl };
    })

-- ---- gen 0: x = 13, and y2 = 1 + d1. The objective at d = (11, 10), the row need1 at (13, 12) and twice need2 at
-- (11, 14) sum to 31 - tau <= 0
abbrev two_orders : Certificate
two_orders = record {
  status = optimal;
  value = int 31;
  scale = 1ℚ;
  inside = int 11 ∷ (int 12 ∷ []);
  plan = int 13 ∷ (1ℚ ∷ (1ℚ ∷ []));
  step = [];
  step_bound = 0ℚ;
  covers =
      record { form = 0; set_row = 2; amount = 1ℚ }
      ∷ (record { form = 1; set_row = 1; amount = 1ℚ }
      ∷ (record { form = 2; set_row = 3; amount = 1ℚ } ∷ (record { form = 4; set_row = 0; amount = 1ℚ } ∷ [])));
  holds = [];
  items =
      record { form = 0; weight = 1ℚ; base = 1ℚ; vector = int 11 ∷ (int 10 ∷ []) }
      ∷ (record { form = 1; weight = 1ℚ; base = 1ℚ; vector = int 13 ∷ (int 12 ∷ []) }
      ∷ (record { form = 2; weight = int 2; base = 1ℚ; vector = int 11 ∷ (int 14 ∷ []) } ∷ []));
}

first_costs_31 : HasStatus (generated 0) optimal (int 31)
unfolding ratio digits
first_costs_31 = found (test_certificate (generated 0) two_orders) tt

-- the summary with an optimum of 31 in both lines
summary_is : heading 0 ++ (status_line Dual optimal (int 31) ++ status_line Cuts optimal (int 31)) ≡ first_summary
unfolding ratio digits
summary_is = refl

-- ---- what is printed for 0
abbrev first_call : Call
first_call = gen_call (codes "0")

zero_spelled : IsNumber (codes "0")
zero_spelled = record { digits = (omega arith, (omega arith, tt)); few = omega arith; fits = omega arith }

status_is : (number : ℕ) → number ≡ 0 → (status : Status) (v : Fraction) → HasStatus (generated number) status v
    → (status ≡ optimal) × (v ≡ int 31)
status_is number e status v h =
    let here : HasStatus (generated 0) status v = subst (λ (n : ℕ). HasStatus (generated n) status v) e h in
    let is : status ≡ optimal = same_status (generated 0) status optimal v (int 31) here first_costs_31 in (
      is,
      one_optimum (generated 0) v (int 31) (subst (λ (s : Status). HasStatus (generated 0) s v) is here) first_costs_31,
    )

line_is : (way : Route) (status : Status) (v : Fraction) (text : List ℕ) → text ≡ status_line way status v
    → (status ≡ optimal) × (v ≡ int 31) → text ≡ status_line way optimal (int 31)
line_is way status v text printed is = printed ∙ ap₂ (λ (s : Status) (x : Fraction). status_line way s x) is.0 is.1

summary_printed : (text : List ℕ) (h : IsCompared first_call text) → h.number ≡ 0 → text ≡ first_summary
summary_printed text h zero_is =
    let by_dual = line_is Dual h.status h.dual.c.value h.by_dual h.dual.printed
    (status_is h.number zero_is h.status h.dual.c.value h.dual.holds)
    in
    let by_cuts = line_is Cuts h.status h.cuts.c.value h.by_cuts h.cuts.printed
    (status_is h.number zero_is h.status h.cuts.c.value h.cuts.holds)
    in
    h.printed
    ∙ ap₂ (λ (n : ℕ) (lines : List ℕ). heading n ++ lines) zero_is
    (ap₂ (λ (a b : List ℕ). a ++ b) by_dual by_cuts)
    ∙ summary_is

first_asks : AsksFor first_call (line (codes "0")) 0
first_asks = record {
  spelled = line_spelled (codes "0") zero_spelled;
  is_gen = refl;
  told = record { word = codes "0"; told = refl; spells = refl };
}

pub first_is_printed : (text : List ℕ) → Means (gen_call (codes "0")) Printed text → text ≡ first_summary
first_is_printed text means =
    let h = summary_of first_call (line (codes "0")) 0 first_asks text means in
    summary_printed text h.0 h.1
