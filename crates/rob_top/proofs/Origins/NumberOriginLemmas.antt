-- What an answer on a number comes from: the printed text of its model, or what `gen` comes to.
use Rattle.std.proofs.Common.{◌≡◌, ℕ, List, subst}
use Rattle.rob_gen.specs.Generated.{generated}
use Rattle.rob_meaning.specs.RobustModel.{RobustModel}
use Rattle.rob_model.specs.declared.place.Spot.{Spot}
use Rattle.rob_top.proofs.Meaning.RouteLemmas.{wide_on_way}
use Rattle.rob_top.specs.Calls.{Call, limit_of}
use Rattle.rob_top.specs.Compared.{AsksFor, IsCompared, IsWideCompared, TellsFirst, by_counterpart, by_cutting}
use Rattle.rob_top.specs.ComparedEnds.{IsComparedAnswer}
use Rattle.rob_top.specs.Routes.{IsWideOnWay}
use Rattle.rob_commands.specs.declared.ended.Ended.{Ended}
use Rattle.rob_commands.specs.declared.ended.Ended.TheVariants.{Printed, TooWide}
use Rattle.rob_words.specs.Commands.{Line}
use Rattle.rob_words.specs.declared.route.Route.{Route}
use Rattle.rob_words.specs.declared.route.Route.TheVariants.{Dual, Cuts}
use Rattle.rob_words.specs.declared.verb.Verb.TheVariants.{Text}

-- what stands behind the answer: the text of the number's model, by `text`; or a status or a wide number, by `gen`
pub data NumberOrigin (call : Call) (line : Line) (ended : Ended) : Type 0 where
  writes_model : line.verb ≡ Text → ended ≡ Printed → NumberOrigin call line ended
  compares : (number : ℕ) → AsksFor call line number → IsComparedAnswer (limit_of line) (generated number) ended
      → NumberOrigin call line ended

pub number_origin_at : (call : Call) (l line : Line) (ended : Ended) → l ≡ line → NumberOrigin call l ended
    → NumberOrigin call line ended
number_origin_at call l line ended same h = subst (λ (x : Line). NumberOrigin call x ended) same h

module _ (call : Call) where
  pub compared_origin : (text : List ℕ) (h : IsCompared call text) → NumberOrigin call h.line Printed
  compared_origin text h = compares h.number h.asks (h.status, h.dual.c.value, h.dual.holds)

  -- the first spot that is told is that of the counterpart, or of the cutting planes
  pub wide_compared_origin : (spot : Spot) (text : List ℕ) (h : IsWideCompared call spot text)
      → NumberOrigin call h.line (TooWide spot)
  wide_compared_origin spot text h = compares h.number h.asks (by h.first)
    where
      m : RobustModel
      m = generated h.number

      limit : ℕ
      limit = limit_of h.line

      by : TellsFirst limit m spot h.by_dual h.by_cuts → (way : Route) × IsWideOnWay way limit m spot
      by (by_counterpart w other) = (Dual, wide_on_way m Dual limit spot w.rounds w.wide)
      by (by_cutting status found w) = (Cuts, wide_on_way m Cuts limit spot w.rounds w.wide)
