-- The answer of `gen`: both routes solve the model of a number, and a line tells what each comes to. No set row and no
-- form of such a model has a wide number, and its sets admit a scenario, so what can be wide is on a route's way.
-- Two routes to one optimum: Bertsimas, Dunning, Lubin, Reformulation versus cutting-planes for robust optimization
-- (2016).
use Rattle.std.specs.Fmt.{decimal}
use Rattle.std.specs.Prelude.{◌≡◌, ℕ, List, [], ◌∷◌, ◌++◌, codes}
use Rattle.rob_algebra.specs.Fraction.{Fraction}
use Rattle.rob_cert.specs.Apart.{FitsLines}
use Rattle.rob_cert.specs.Spelling.{number_text, spaced}
use Rattle.rob_cert.specs.declared.trace.Round.{Round}
use Rattle.rob_cuts.specs.Rounds.{RoundFits}
use Rattle.rob_gen.specs.Generated.{generated, periods}
use Rattle.rob_meaning.specs.Certificates.{Certificate, Status, optimal, infeasible, unbounded}
use Rattle.rob_meaning.specs.Places.{Each}
use Rattle.rob_meaning.specs.Proves.{HasStatus}
use Rattle.rob_meaning.specs.RobustModel.{RobustModel}
use Rattle.rob_model.specs.declared.place.Spot.{Spot}
use Rattle.rob_report.specs.Lines.{line as one_line}
use Rattle.rob_report.specs.Spots.{too_wide_line}
use Rattle.rob_top.specs.Calls.{Call, WasRaised, limit_of}
use Rattle.rob_top.specs.Generated.{TellsNumber}
use Rattle.rob_top.specs.Routes.{IsFound, IsWideBy, with_rounds}
use Rattle.rob_words.specs.Commands.{Line, IsSpelled}
use Rattle.rob_words.specs.Values.{route_text}
use Rattle.rob_words.specs.declared.route.Route.{Route}
use Rattle.rob_words.specs.declared.route.Route.TheVariants.{Dual, Cuts}
use Rattle.rob_words.specs.declared.verb.Verb.TheVariants.{Gen}

-- ---- lines

-- `gen N periods T`
abbrev pub heading : ℕ → List ℕ
heading number = one_line (codes "gen " ++ (decimal number ++ (codes " periods " ++ decimal (periods number))))

-- the line of a route that finds a status: its name and the status, and of an optimum the value
abbrev pub status_line : Route → Status → Fraction → List ℕ
status_line way optimal v = spaced (route_text way ∷ (codes "optimal" ∷ (number_text v ∷ [])))
status_line way infeasible v = spaced (route_text way ∷ (codes "infeasible" ∷ []))
status_line way unbounded v = spaced (route_text way ∷ (codes "unbounded" ∷ []))

-- the line of a route on whose way a number is wide: its name and the number's spot
abbrev pub wide_line : Route → RobustModel → Spot → List ℕ
wide_line way m spot = route_text way ++ (codes " " ++ too_wide_line m spot)

-- ---- what a route comes to

module _ (limit : ℕ) (m : RobustModel) where
  -- the model has the status: a certificate of it was found by the route, which proves it, and whose numbers fit; the
  -- route's line tells it. The certificate isn't printed
  pub record TellsStatus (way : Route) (status : Status) (text : List ℕ) : Type 0 where
    pub c : Certificate
    pub status_is : c.status ≡ status
    pub holds : HasStatus m status c.value
    pub rounds : List Round
    pub found : IsFound way m c rounds
    pub fits : FitsLines limit m c
    pub printed : text ≡ status_line way status c.value

  -- a number on the route's way is wide, and the route's line tells its spot, by cutting planes with the rounds before
  -- it behind; the numbers of their cuts fit
  pub record TellsWide (way : Route) (spot : Spot) (text : List ℕ) : Type 0 where
    pub rounds : List Round
    pub wide : IsWideBy way limit m spot rounds
    pub rounds_fit : Each (RoundFits limit) rounds
    pub printed : text ≡ with_rounds way m rounds (wide_line way m spot)

  -- what the cutting planes come to: a status, or a wide number
  pub data TellsEither (way : Route) (text : List ℕ) : Type 0 where
    a_status : (status : Status) → TellsStatus way status text → TellsEither way text
    a_spot : (spot : Spot) → TellsWide way spot text → TellsEither way text

  -- the spot is the first that is told: that of the counterpart; or that of the cutting planes, where the counterpart
  -- has a status
  pub data TellsFirst (spot : Spot) (by_dual by_cuts : List ℕ) : Type 0 where
    by_counterpart : TellsWide Dual spot by_dual → TellsEither Cuts by_cuts → TellsFirst spot by_dual by_cuts
    by_cutting : (status : Status) → TellsStatus Dual status by_dual → TellsWide Cuts spot by_cuts
        → TellsFirst spot by_dual by_cuts

-- ---- answers

module _ (call : Call) where
  -- the words are this command line, which says `gen` and this number
  pub record AsksFor (line : Line) (number : ℕ) : Type 0 where
    pub spelled : IsSpelled call.words line
    pub is_gen : line.verb ≡ Gen
    pub told : TellsNumber line number

  -- the number's model has the status, by both routes, and an optimum has one value. The summary is printed
  pub record IsCompared (text : List ℕ) : Type 0 where
    pub line : Line
    pub number : ℕ
    pub asks : AsksFor line number
    pub status : Status
    pub by_dual : List ℕ
    pub by_cuts : List ℕ
    pub dual : TellsStatus (limit_of line) (generated number) Dual status by_dual
    pub cuts : TellsStatus (limit_of line) (generated number) Cuts status by_cuts
    pub one_value : status ≡ optimal → dual.c.value ≡ cuts.c.value
    pub printed : text ≡ heading number ++ (by_dual ++ by_cuts)

  -- a number on the way of a route is wide, the first that is told, and the ledger has counted it in this call. The
  -- summary is printed all the same
  pub record IsWideCompared (spot : Spot) (text : List ℕ) : Type 0 where
    pub line : Line
    pub number : ℕ
    pub asks : AsksFor line number
    pub by_dual : List ℕ
    pub by_cuts : List ℕ
    pub first : TellsFirst (limit_of line) (generated number) spot by_dual by_cuts
    pub raised : WasRaised call.wides
    pub printed : text ≡ heading number ++ (by_dual ++ by_cuts)
