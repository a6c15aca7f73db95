-- The answers of `sweep` and `sweeptext`: a model at other limits of one of its budgets.
use Rattle.std.specs.Prelude.{◌≡◌, ℕ, pos, List, Some, map}
use Rattle.rob_algebra.specs.Fraction.{Fraction, of_pair}
use Rattle.rob_algebra.specs.Width.{Fits}
use Rattle.rob_meaning.specs.Places.{Each}
use Rattle.rob_meaning.specs.RobustModel.{RobustModel}
use Rattle.rob_model.specs.declared.place.Spot.{Spot}
use Rattle.rob_reach.specs.Sweeps.{IsBudgetAt, SweepAnswer, Swept, is_optimal, with_budget}
use Rattle.rob_sweep.specs.Answering.{AreWritten, EachAnswer, EachGrowsHarder, NamesEmpty}
use Rattle.rob_sweep.specs.Stops.{BreaksRule, IsWideAtLimit, KeepsRules}
use Rattle.rob_sweep.specs.SweepText.{sweep_text}
use Rattle.rob_commands.specs.Answers.{sweep_fault_text, wide_budget_text}
use Rattle.rob_top.specs.Calls.{Call, WasRaised, limit_of}
use Rattle.rob_top.specs.Files.{word_of}
use Rattle.rob_top.specs.Inputs.{HasModel}
use Rattle.rob_words.specs.Commands.{Line}
use Rattle.rob_words.specs.Kinds.{number_of}
use Rattle.rob_words.specs.Limits.{denominator_of, numerator_of}
use Rattle.rob_words.specs.Names.{parts_of}
use Rattle.rob_words.specs.Values.{Word}
use Rattle.rob_words.specs.Verbs.{own_of}
use Rattle.rob_words.specs.declared.verb.Own.TheVariants as own
use Rattle.rob_words.specs.declared.verb.Verb.TheVariants.{Sweep, SweepText}
use Rattle.rob_write.specs.Canonical.{model_text}

-- ---- what the words tell

-- the command line's own word that is a statement's number spells this one
pub record TellsStatement (line : Line) (n : ℕ) : Type 0 where
  pub word : Word
  pub told : word_of own.Statement (own_of line.verb) line.own ≡ Some word
  pub spells : n ≡ number_of word

-- the number that a limit's word spells
abbrev pub limit_value : Word → Fraction
limit_value word = of_pair (pos (numerator_of word)) (denominator_of word)

-- its own word that is a limit spells this one
pub record TellsLimit (line : Line) (g : Fraction) : Type 0 where
  pub word : Word
  pub told : word_of own.Limit (own_of line.verb) line.own ≡ Some word
  pub spells : g ≡ limit_value word

-- its own word that is a list of limits has these
pub record TellsLimits (line : Line) (limits : List Fraction) : Type 0 where
  pub word : Word
  pub told : word_of own.Limits (own_of line.verb) line.own ≡ Some word
  pub parts : limits ≡ map limit_value (parts_of word)

-- the value that an answer tells fits
abbrev pub ValueFits : ℕ → SweepAnswer → Type 0
ValueFits limit (is_optimal v) = Fits limit v
ValueFits limit answer = Unit {0}

module _ (call : Call) where
  -- the model was read, and the words say `sweep`, and tell this statement and these limits
  pub record HasSweep (line : Line) (m : RobustModel) (n : ℕ) (limits : List Fraction) : Type 0 where
    pub model : HasModel call line m
    pub is_sweep : line.verb ≡ Sweep
    pub statement : TellsStatement line n
    pub limits_are : TellsLimits line limits

  -- or they say `sweeptext`, and tell this statement and this limit
  pub record HasLimit (line : Line) (m : RobustModel) (n : ℕ) (g : Fraction) : Type 0 where
    pub model : HasModel call line m
    pub is_text : line.verb ≡ SweepText
    pub statement : TellsStatement line n
    pub limit_is : TellsLimit line g

  -- ---- answers

  -- a line for each limit is printed, with the answer of the model that has it: its status, or that the set is
  -- empty, exactly where no joint scenario is admitted, and then one of its sets admits nothing. Of any two answers the
  -- later one is no easier. The statement is a budget, the limits rise, no number is wide when the models with them are
  -- written in whole numbers, and the values fit
  pub record IsPriced (text : List ℕ) : Type 0 where
    pub line : Line
    pub m : RobustModel
    pub n : ℕ
    pub limits : List Fraction
    pub has : HasSweep line m n limits
    pub keeps : KeepsRules m.set_lines n limits
    pub written : AreWritten (limit_of line) m n limits
    pub answers : List SweepAnswer
    pub swept : Swept m n limits answers
    pub empty : EachAnswer NamesEmpty m n limits answers
    pub harder : EachGrowsHarder m.sense answers
    pub fits : Each (ValueFits (limit_of line)) answers
    pub printed : text ≡ sweep_text limits answers

  -- the statement is a budget, and the canonical text of the model with that limit in it is printed
  pub record IsLimited (text : List ℕ) : Type 0 where
    pub line : Line
    pub m : RobustModel
    pub n : ℕ
    pub g : Fraction
    pub has : HasLimit line m n g
    pub budget : IsBudgetAt m.set_lines n
    pub printed : text ≡ model_text (with_budget m n g)

  -- ---- refusals

  -- the rule is broken, first: 81 where the statement doesn't exist or isn't a budget; 82 where the limits don't rise
  -- strictly
  pub data BreaksSweep (line : Line) (m : RobustModel) (rule : ℕ) : Type 0 where
    at_limits : (n : ℕ) (limits : List Fraction) → HasSweep line m n limits → BreaksRule m.set_lines n limits rule
        → BreaksSweep line m rule
    at_limit : (n : ℕ) (g : Fraction) → HasLimit line m n g → (IsBudgetAt m.set_lines n → ⊥) → rule ≡ 81
        → BreaksSweep line m rule

  -- so it is named
  pub record IsNoSweep (rule : ℕ) (text : List ℕ) : Type 0 where
    pub line : Line
    pub m : RobustModel
    pub breaks : BreaksSweep line m rule
    pub printed : text ≡ sweep_fault_text rule

  -- a number is wide in the model with the limit of that number, from 1, and the ledger has counted it in this call; no
  -- number is when the models with the limits before it are written in whole numbers
  pub record IsWideBudget (number : ℕ) (spot : Spot) (text : List ℕ) : Type 0 where
    pub line : Line
    pub m : RobustModel
    pub n : ℕ
    pub limits : List Fraction
    pub has : HasSweep line m n limits
    pub keeps : KeepsRules m.set_lines n limits
    pub wide : IsWideAtLimit (limit_of line) m n limits number spot
    pub raised : WasRaised call.wides
    pub printed : text ≡ wide_budget_text m n wide.here spot
