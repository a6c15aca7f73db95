-- No other answer of `gen` may come.
use Rattle.std.proofs.Common.{◌≡◌, ℕ, ap, inl, inr, ◌⊎◌, refl, sym, ◌∙◌, subst}
use Rattle.std.specs.Prelude.{Some}
use Rattle.rob_gen.specs.Generated.{generated}
use Rattle.rob_meaning.specs.RobustModel.{RobustModel}
use Rattle.rob_model.specs.declared.place.Spot.{Spot}
use Rattle.rob_top.proofs.Origins.CommandLemmas.{two_verbs}
use Rattle.rob_top.proofs.Coming.ComingLemmas.{Comes}
use Rattle.rob_top.proofs.Meaning.GeneratedLemmas.{number_decides}
use Rattle.rob_top.proofs.Origins.NumberOriginLemmas.{NumberOrigin, compares, writes_model}
use Rattle.rob_top.specs.Calls.{Call, Known, limit_of}
use Rattle.rob_top.specs.Commands.{reads_model}
use Rattle.rob_top.specs.Compared.{AsksFor}
use Rattle.rob_top.specs.ComparedEnds.{IsComparedAnswer, MustEndCompared}
use Rattle.rob_top.specs.Endings.{IsUnput}
use Rattle.rob_top.specs.Generated.{TellsNumber}
use Rattle.rob_top.specs.Routes.{IsWideOnWay}
use Rattle.rob_commands.specs.declared.ended.Ended.{Ended}
use Rattle.rob_commands.specs.declared.ended.Ended.TheVariants.{Optimal, Infeasible, Unbounded, Printed, Accepted, Rejected, Words, Missing, TooLong, Model, EmptySet, TooWide, WideNode, WideBudget, Cert, Scenarios, Whole, Sweep, Cells, NoRow, Tree, TreeRejected, ReadFault, WriteFault, Memory}
use Rattle.rob_words.specs.Commands.{Line}
use Rattle.rob_words.specs.Kinds.{number_of}
use Rattle.rob_words.specs.declared.route.Route.{Route}
use Rattle.rob_words.specs.declared.verb.Verb.TheVariants.{Gen, Text}

-- a line tells one number
pub one_number : (line : Line) (a b : ℕ) → TellsNumber line a → TellsNumber line b → a ≡ b
one_number line a b h k =
    let both : Some h.word ≡ Some k.word = sym h.told ∙ k.told in
    let same : h.word ≡ k.word = cc in
    h.spells ∙ ap number_of same ∙ sym k.spells

module _ (limit : ℕ) (m : RobustModel) where
  unput_answer : (ended : Ended) → IsUnput ended → IsComparedAnswer limit m ended
  unput_answer ended (inl e) = subst (IsComparedAnswer limit m) (sym e) (inl refl)
  unput_answer ended (inr e) = subst (IsComparedAnswer limit m) (sym e) (inr refl)

  -- where no number is wide, the summary is printed
  narrow_answer : ((way : Route) (spot : Spot) → IsWideOnWay way limit m spot → ⊥) → (ended : Ended)
      → IsComparedAnswer limit m ended
      → (ended ≡ Printed) ⊎ IsUnput ended
  narrow_answer narrow Printed h = inl refl
  narrow_answer narrow (TooWide spot) h = absurd (narrow h.0 spot h.1)
  narrow_answer narrow Optimal h = inr h
  narrow_answer narrow Infeasible h = inr h
  narrow_answer narrow Unbounded h = inr h
  narrow_answer narrow Accepted h = inr h
  narrow_answer narrow (Rejected place) h = inr h
  narrow_answer narrow (TreeRejected number fault) h = inr h
  narrow_answer narrow Words h = inr h
  narrow_answer narrow Missing h = inr h
  narrow_answer narrow TooLong h = inr h
  narrow_answer narrow (Model rule number) h = inr h
  narrow_answer narrow (EmptySet weights) h = inr h
  narrow_answer narrow (WideNode path spot) h = inr h
  narrow_answer narrow (WideBudget number spot) h = inr h
  narrow_answer narrow (Cert rule number) h = inr h
  narrow_answer narrow (Scenarios rule number) h = inr h
  narrow_answer narrow (Whole rule) h = inr h
  narrow_answer narrow NoRow h = inr h
  narrow_answer narrow (Tree rule number) h = inr h
  narrow_answer narrow (Sweep rule) h = inr h
  narrow_answer narrow (Cells rule) h = inr h
  narrow_answer narrow ReadFault h = inr h
  narrow_answer narrow WriteFault h = inr h
  narrow_answer narrow Memory h = inr h

module _ (call : Call) (known : Known call.source) (ended : Ended) (comes : Comes call ended) where
  answer_ends : (line : Line) (number : ℕ) → AsksFor call line number
      → IsComparedAnswer (limit_of line) (generated number) ended
  answer_ends line number asks = all comes
    where
      by : NumberOrigin call line ended ⊎ (ended ≡ Memory) → IsComparedAnswer (limit_of line) (generated number) ended
      by (inl (writes_model is e)) = absurd (two_verbs Text Gen line.verb (λ e. cc) is asks.is_gen)
      by (inl (compares other told answer)) =
          subst (λ (n : ℕ). IsComparedAnswer (limit_of line) (generated n) ended)
          (one_number line other number told.told asks.told) answer
      by (inr e) = unput_answer (limit_of line) (generated number) ended (inr e)

      all : Comes call ended → IsComparedAnswer (limit_of line) (generated number) ended
      all (inl h) = by (number_decides call known line asks.spelled (ap reads_model asks.is_gen) ended h.0 h.1)
      all (inr e) = unput_answer (limit_of line) (generated number) ended e

  pub compared_ends : MustEndCompared call ended
  compared_ends = record {
    answer = answer_ends;
    narrow = λ line number asks none.
        narrow_answer (limit_of line) (generated number) none ended (answer_ends line number asks);
  }
