-- The commands by their work: two that do the same work solve a model, grow a tree, sweep or cut alike; the two that
-- read no model stand together. What a command asks of its model goes by its work alone.
use Rattle.std.specs.Prelude.{◌≡◌, Bool, true, false}
use Rattle.rob_words.specs.declared.verb.Verb.{Verb}
use Rattle.rob_words.specs.declared.verb.Verb.TheVariants.{Rows, Solve, Prove, Check, Replay, Text, Gen, Whole, Tree, Narrow, Sweep, SweepText, CheckTree, Worst, Cells, CellText}

-- the works of commands
pub data Work : Type 0 where
  rows : Work
  solving : Work
  checking : Work
  searching : Work
  narrowing : Work
  replaying : Work
  branching : Work
  tree_checking : Work
  sweeping : Work
  splitting : Work
  generating : Work

-- the work of a command
abbrev pub work_of : Verb → Work
work_of Rows = rows
work_of Solve = solving
work_of Prove = solving
work_of Check = checking
work_of Worst = searching
work_of Narrow = narrowing
work_of Replay = replaying
work_of Whole = branching
work_of Tree = branching
work_of CheckTree = tree_checking
work_of Sweep = sweeping
work_of SweepText = sweeping
work_of Cells = splitting
work_of CellText = splitting
work_of Text = generating
work_of Gen = generating

-- the command solves a model, by a route: it is `solve` or `prove`
abbrev pub IsSolving : Verb → Type 0
IsSolving verb = work_of verb ≡ solving

-- it grows a branch tree, as some variables of its model take whole numbers: it is `whole` or `tree`
abbrev pub IsBranching : Verb → Type 0
IsBranching verb = work_of verb ≡ branching

-- it works on its model at other limits of a budget: it is `sweep` or `sweeptext`
abbrev pub IsSweeping : Verb → Type 0
IsSweeping verb = work_of verb ≡ sweeping

-- it cuts the set of its model: it is `cells` or `celltext`
abbrev pub IsSplitting : Verb → Type 0
IsSplitting verb = work_of verb ≡ splitting

-- ---- what the work asks of a model

-- the work is on a model that is read; that of `text` and `gen` is on a number
abbrev pub is_on_model : Work → Bool
is_on_model generating = false
is_on_model _ = true

-- so the command reads a model
abbrev pub reads_model : Verb → Bool
reads_model verb = is_on_model (work_of verb)

-- it is one that reads a model
abbrev pub IsOnModel : Verb → Type 0
IsOnModel verb = reads_model verb ≡ true

-- the work makes the set rows and forms of the model as it is written; not those of boxes, or at other limits
abbrev pub makes_forms : Work → Bool
makes_forms rows = true
makes_forms solving = true
makes_forms checking = true
makes_forms searching = true
makes_forms narrowing = true
makes_forms _ = false

-- so the command makes them
abbrev pub elaborates : Verb → Bool
elaborates verb = makes_forms (work_of verb)

-- it is one that makes them
abbrev pub IsElaborating : Verb → Type 0
IsElaborating verb = elaborates verb ≡ true
