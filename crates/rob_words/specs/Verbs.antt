-- The commands: their names, their own words and their options. Each command has one line in each of the three tables.
use Rattle.std.specs.Prelude.{Bool, true, false, List, [], ◌∷◌, codes}
use Rattle.rob_words.specs.Values.{Word}
use Rattle.rob_words.specs.declared.verb.Own.{Own}
use Rattle.rob_words.specs.declared.verb.Own.TheVariants.{Model, Certificate, Scenarios, Number, Names, Statement, Limit, Limits, Form, Cuts}
use Rattle.rob_words.specs.declared.verb.Own.TheVariants as own
use Rattle.rob_words.specs.declared.verb.Verb.{Verb}
use Rattle.rob_words.specs.declared.verb.Verb.TheVariants.{Rows, Solve, Prove, Check, Replay, Text, Gen, Whole, Tree, Narrow, Sweep, SweepText, CheckTree, Worst, Cells, CellText}

-- the name of a command
abbrev pub verb_word : Verb → Word
verb_word Rows = codes "rows"
verb_word Solve = codes "solve"
verb_word Prove = codes "prove"
verb_word Check = codes "check"
verb_word Replay = codes "replay"
verb_word Text = codes "text"
verb_word Gen = codes "gen"
verb_word Whole = codes "whole"
verb_word Tree = codes "tree"
verb_word Worst = codes "worst"
verb_word Cells = codes "cells"
verb_word CellText = codes "celltext"
verb_word CheckTree = codes "checktree"
verb_word Sweep = codes "sweep"
verb_word SweepText = codes "sweeptext"
verb_word Narrow = codes "narrow"

-- what a command's own words name, in their order
abbrev pub own_of : Verb → List Own
own_of Rows = Model ∷ []
own_of Solve = Model ∷ []
own_of Prove = Model ∷ []
own_of Check = Model ∷ Certificate ∷ []
own_of Replay = Model ∷ Certificate ∷ Scenarios ∷ []
own_of Text = Number ∷ []
own_of Gen = Number ∷ []
own_of Whole = Model ∷ Names ∷ []
own_of Tree = Model ∷ Names ∷ []
own_of Worst = Model ∷ Certificate ∷ Form ∷ []
own_of Cells = Model ∷ Cuts ∷ []
own_of CellText = Model ∷ Cuts ∷ []
own_of CheckTree = Model ∷ Names ∷ own.Tree ∷ []
own_of Sweep = Model ∷ Statement ∷ Limits ∷ []
own_of SweepText = Model ∷ Statement ∷ Limit ∷ []
own_of Narrow = Model ∷ []

-- the command takes the option `route`
abbrev pub takes_route : Verb → Bool
takes_route Rows = false
takes_route Solve = true
takes_route Prove = true
takes_route Check = false
takes_route Replay = false
takes_route Text = false
takes_route Gen = false
takes_route Whole = false
takes_route Tree = false
takes_route Worst = false
takes_route Cells = false
takes_route CellText = false
takes_route CheckTree = false
takes_route Sweep = false
takes_route SweepText = false
takes_route Narrow = false
