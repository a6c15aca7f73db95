-- The answers of `cells` and `celltext`: a model with a policy of its own in each cell of its set. In the records m
-- is the model that was read, and `split_model m cuts` the one that the cuts make of it.
use Rattle.std.specs.Fmt.{decimal}
use Rattle.std.specs.Prelude.{◌≡◌, ◌≢◌, ◌<◌, ◌≤◌, ◌++◌, ℕ, ℤ, nat_abs, List, [], ◌∷◌, Some, codes, length, map}
use Rattle.rob_algebra.specs.Fraction.{Fraction, of_int}
use Rattle.rob_cells.specs.Meaning.{HasCellSets, HasPieceStatus}
use Rattle.rob_cells.specs.Rules.{BreaksRule, KeepsRules}
use Rattle.rob_cert.specs.Apart.{FitsLines}
use Rattle.rob_cert.specs.Shape.{HasShape}
use Rattle.rob_cert.specs.Spelling.{name_at}
use Rattle.rob_dualize.specs.Models.{IsWideIn}
use Rattle.rob_dualize.specs.Solving.{IsLastScenario, IsReadAtEnd, IsShownEmpty}
use Rattle.rob_meaning.specs.Certificates.{Certificate, Status, optimal, infeasible, unbounded}
use Rattle.rob_meaning.specs.Named.{parameter_names}
use Rattle.rob_meaning.specs.Places.{Each}
use Rattle.rob_meaning.specs.Proves.{Proves}
use Rattle.rob_meaning.specs.RobustModel.{RobustModel}
use Rattle.rob_meaning.specs.UncertaintySet.{AdmitsIn}
use Rattle.rob_meaning.specs.Values.{signed}
use Rattle.rob_model.specs.declared.place.Spot.{Spot}
use Rattle.rob_pieces.specs.Cuts.{CellHolds, Cut, IsCell, cell_count}
use Rattle.rob_pieces.specs.Pieces.{IsPieceInfeasible, IsPieceOptimal, IsPieceUnbounded, PieceBound, piece_of}
use Rattle.rob_pieces.specs.SplitModel.{split_model}
use Rattle.rob_report.specs.Report.{report_of}
use Rattle.rob_report.specs.Spots.{empty_set_lines, too_wide_line}
use Rattle.rob_commands.specs.Answers.{cells_line, fault_text}
use Rattle.rob_top.specs.Calls.{Call, WasRaised, limit_of}
use Rattle.rob_top.specs.Commands.{IsSplitting}
use Rattle.rob_top.specs.Files.{word_of}
use Rattle.rob_top.specs.Inputs.{HasModel}
use Rattle.rob_top.specs.Swept.{limit_value}
use Rattle.rob_words.specs.Commands.{Line}
use Rattle.rob_words.specs.Cuts.{cut_level, cut_name, has_sign, unsigned}
use Rattle.rob_words.specs.Names.{parts_of}
use Rattle.rob_words.specs.Values.{Word}
use Rattle.rob_words.specs.Verbs.{own_of}
use Rattle.rob_words.specs.declared.verb.Own.TheVariants as own
use Rattle.rob_words.specs.declared.verb.Verb.TheVariants.{Cells, CellText}
use Rattle.rob_write.specs.Canonical.{model_text}
use Rattle.rob_elab.specs.Written.{IsWritten}

-- ---- what the words tell

-- the number that a word spells, with or without a sign
abbrev pub level_value : Word → Fraction
level_value word = signed (has_sign word) (limit_value (unsigned word))

-- the cut that a word spells: it has the word's number, and its parameter the word's name
pub record IsCutAt (m : RobustModel) (word : Word) (cut : Cut) : Type 0 where
  pub inside : cut.parameter < length m.parameters
  pub named : name_at (parameter_names m) cut.parameter ≡ cut_name word
  pub level : cut.level ≡ level_value (cut_level word)

-- the cuts that these words spell, in their order
abbrev pub AreCutsAt : RobustModel → List Word → List Cut → Type 0
AreCutsAt m [] [] = Unit {0}
AreCutsAt m (word ∷ words) (cut ∷ cuts) = IsCutAt m word cut × AreCutsAt m words cuts
AreCutsAt m _ _ = ⊥

-- the command line's own word that is a list of cuts is this
abbrev pub TellsCuts : Line → Word → Type 0
TellsCuts line word = word_of own.Cuts (own_of line.verb) line.own ≡ Some word

module _ (call : Call) where
  -- the model was read, and the words say `cells` or `celltext`, and this word is their list of cuts
  pub record HasCutWord (line : Line) (m : RobustModel) (word : Word) : Type 0 where
    pub model : HasModel call line m
    pub is_splitting : IsSplitting line.verb
    pub told : TellsCuts line word

  -- the model has no named set, and the words tell these cuts, which are at its parameters
  pub record HasCuts (line : Line) (m : RobustModel) (cuts : List Cut) : Type 0 where
    pub word : Word
    pub has_word : HasCutWord line m word
    pub alone : m.sets ≡ []
    pub are : AreCutsAt m (parts_of word) cuts

  -- and the split model keeps the rules
  pub record HasSplit (line : Line) (m : RobustModel) (cuts : List Cut) : Type 0 where
    pub has_cuts : HasCuts line m cuts
    pub keeps : KeepsRules m cuts

-- ---- answers

-- the model has the status over pieces: plans with a policy of their own in each cell
abbrev pub HasStatusOverPieces : RobustModel → List Cut → Status → Fraction → Type 0
HasStatusOverPieces m cuts optimal v = IsPieceOptimal m cuts v
HasStatusOverPieces m cuts infeasible v = IsPieceInfeasible m cuts
HasStatusOverPieces m cuts unbounded v = IsPieceUnbounded m cuts

-- the plan is a piece with the certificate's value as its bound; an infeasible one has none
abbrev pub IsPieceKept : RobustModel → List Cut → Certificate → Status → Type 0
IsPieceKept m cuts c infeasible = Unit {0}
IsPieceKept m cuts c status = PieceBound m cuts (piece_of m cuts c.plan) c.value

-- each cell holds a scenario that the model admits
abbrev pub EachCellAdmits : RobustModel → List Cut → Type 0
EachCellAdmits m cuts = (c : ℕ) → IsCell cuts c → (u : List Fraction) × (AdmitsIn m 0 u × CellHolds cuts c u)

-- a rule of cuts is broken
abbrev pub cells_fault_text : ℕ → List ℕ
cells_fault_text rule = fault_text (codes "cells " ++ decimal rule)

module _ (call : Call) where
  -- `cells`: the model has the status over pieces, and each cell holds an admitted scenario. A certificate of the
  -- split model was found that proves its status, as the last basis of the split model's counterpart gives it, with
  -- the scenario that the last basis of its sets' program gives; the number of cells is printed, and its plan, which is
  -- a piece with that bound. No number of the split model's set rows and forms is wide. What the split model means of
  -- the model: its statuses, none worse than with one policy, and its sets, the cells, one of which holds each scenario
  pub record IsPieced (status : Status) (text : List ℕ) : Type 0 where
    pub line : Line
    pub m : RobustModel
    pub cuts : List Cut
    pub has : HasSplit call line m cuts
    pub is_cells : line.verb ≡ Cells
    pub c : Certificate
    pub status_is : c.status ≡ status
    pub holds : HasStatusOverPieces m cuts status c.value
    pub kept : IsPieceKept m cuts c status
    pub admits : EachCellAdmits m cuts
    pub pieces : HasPieceStatus m cuts (split_model m cuts)
    pub sets : HasCellSets m cuts (split_model m cuts)
    pub proves : Proves (split_model m cuts) c
    pub last : IsReadAtEnd (split_model m cuts) c
    pub inside : IsLastScenario (split_model m cuts) c.inside
    pub shape : HasShape (split_model m cuts) c
    pub fits : FitsLines (limit_of line) (split_model m cuts) c
    pub written : IsWritten (limit_of line) (split_model m cuts)
    pub printed : text ≡ cells_line (cell_count cuts) ++ report_of (split_model m cuts) c

  -- `celltext`: the canonical text of the split model is printed, which means that of the model
  pub record IsSplitText (text : List ℕ) : Type 0 where
    pub line : Line
    pub m : RobustModel
    pub cuts : List Cut
    pub has : HasSplit call line m cuts
    pub is_text : line.verb ≡ CellText
    pub pieces : HasPieceStatus m cuts (split_model m cuts)
    pub sets : HasCellSets m cuts (split_model m cuts)
    pub printed : text ≡ model_text (split_model m cuts)

  -- ---- refusals

  -- the rule is broken, first: 51 where the model has a named set; 52 where a cut's name is no parameter's; 53 and 54
  -- are those of the split model
  pub data BreaksCells (line : Line) (m : RobustModel) (rule : ℕ) : Type 0 where
    named_set : (word : Word) → HasCutWord call line m word → m.sets ≢ [] → rule ≡ 51 → BreaksCells line m rule
    no_parameter : (word : Word) → HasCutWord call line m word → m.sets ≡ []
        → ((cuts : List Cut) → AreCutsAt m (parts_of word) cuts → ⊥) → rule ≡ 52 → BreaksCells line m rule
    of_split : (cuts : List Cut) → HasCuts call line m cuts → BreaksRule m cuts rule → BreaksCells line m rule

  -- so it is named
  pub record IsNoCells (rule : ℕ) (text : List ℕ) : Type 0 where
    pub line : Line
    pub m : RobustModel
    pub breaks : BreaksCells line m rule
    pub printed : text ≡ cells_fault_text rule

  -- no number of the split model's set rows and forms is wide, and no joint scenario of it is admitted, as the weights
  -- show: not each cell holds a scenario that the model admits
  pub record IsEmptyCell (weights : List ℤ) (text : List ℕ) : Type 0 where
    pub line : Line
    pub m : RobustModel
    pub cuts : List Cut
    pub has : HasSplit call line m cuts
    pub is_cells : line.verb ≡ Cells
    pub written : IsWritten (limit_of line) (split_model m cuts)
    pub shown : IsShownEmpty (split_model m cuts) (map of_int weights)
    pub fits : Each (λ weight. nat_abs weight ≤ limit_of line) weights
    pub not_each : EachCellAdmits m cuts → ⊥
    pub printed : text ≡ empty_set_lines (split_model m cuts) weights

  -- a number is wide in the split model, and the ledger has counted it in this call
  pub record IsWideSplit (spot : Spot) (text : List ℕ) : Type 0 where
    pub line : Line
    pub m : RobustModel
    pub cuts : List Cut
    pub has : HasSplit call line m cuts
    pub is_cells : line.verb ≡ Cells
    pub wide : IsWideIn (limit_of line) (split_model m cuts) spot
    pub raised : WasRaised call.wides
    pub printed : text ≡ too_wide_line (split_model m cuts) spot
