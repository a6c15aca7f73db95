-- Where an answer has to come.
use Rattle.std.proofs.Common.{◌≡◌, ℕ, List, refl}
use Rattle.rob_meaning.specs.RobustModel.{RobustModel}
use Rattle.rob_model.specs.declared.place.Spot.{Spot}
use Rattle.rob_top.specs.Branched.{BreaksWhole, no_ranges, no_variables}
use Rattle.rob_top.specs.Calls.{Call}
use Rattle.rob_top.proofs.Origins.SplitOriginLemmas.{cells_model}
use Rattle.rob_top.specs.Headline.{Means}
use Rattle.rob_top.specs.Inputs.{LacksPlan}
use Rattle.rob_top.specs.Refused.{IsWideSpot, elaborating, checking, replaying, searching}
use Rattle.rob_top.specs.Swept.{BreaksSweep, at_limit, at_limits}
use Rattle.rob_top.specs.Ways.{solved, branched, rows, replayed, generated, compared, worst_found, priced, limited, narrowed, a_certificate, a_tree, while_solving, while_branching, while_searching, in_model, on_way, while_growing, while_checking, not_checked, not_replayed, not_searched, pieced, split_written, in_cells, in_split, in_summary}
use Rattle.rob_commands.specs.declared.ended.Ended.{Ended}
use Rattle.rob_commands.specs.declared.ended.Ended.TheVariants.{Optimal, Infeasible, Unbounded, Printed, Accepted, Rejected, Words, Missing, TooLong, Model, EmptySet, TooWide, WideNode, WideBudget, Cert, Scenarios, Whole, Sweep, Cells, Tree, TreeRejected, NoRow, ReadFault, WriteFault, Memory}
use Rattle.rob_words.specs.Commands.{Line, IsCommandLine}
use Rattle.rob_top.proofs.Meaning.SoughtLemmas.{lacking_model}
use Rattle.rob_words.specs.declared.verb.Verb.TheVariants as verbs
use Rattle.rob_words.specs.declared.verb.Verb.{Verb}

-- a wide number's words are a command line
wide_line : (call : Call) (line : Line) (m : RobustModel) (spot : Spot) → IsWideSpot call line m spot
    → IsCommandLine call.words
wide_line call line m spot (elaborating h makes first) = (line, h.spelled)
wide_line call line m spot (checking c place h e verdict) = (line, h.file.read.model.spelled)
wide_line call line m spot (replaying c bytes number h e gives) = (line, h.plan.certificate.file.read.spelled)
wide_line call line m spot (searching c form h wide) = (line, h.plan.certificate.file.read.model.spelled)

-- and so are those of a certificate without a plan
lacking_line : (call : Call) (verb : Verb) (line : Line) (m : RobustModel) (rule number : ℕ)
    → LacksPlan call verb line m rule number → IsCommandLine call.words
lacking_line call verb line m rule number h = (line, (lacking_model call line m verb rule number h).spelled)

-- and of variables that break a rule
breaking_line : (call : Call) (line : Line) (m : RobustModel) (rule : ℕ) → BreaksWhole call line m rule
    → IsCommandLine call.words
breaking_line call line m rule (no_variables names h told none e) = (line, h.spelled)
breaking_line call line m rule (no_ranges numbers h e) = (line, h.model.spelled)

-- and of a sweep that breaks a rule
sweeping_line : (call : Call) (line : Line) (m : RobustModel) (rule : ℕ) → BreaksSweep call line m rule
    → IsCommandLine call.words
sweeping_line call line m rule (at_limits n limits has breaks) = (line, has.model.spelled)
sweeping_line call line m rule (at_limit n g has none e) = (line, has.model.spelled)

-- words that are no command line have no other answer
pub no_command : (call : Call) (ended : Ended) (text : List ℕ) → (IsCommandLine call.words → ⊥) → Means call ended text
    → ended ≡ Words
no_command call Words text none h = refl
no_command call Memory text none h = absurd h
no_command call WriteFault text none h = absurd h
no_command call Optimal text none (solved h) = absurd (none ((h.line, h.forms.model.spelled)))
no_command call Optimal text none (branched h) = absurd (none ((h.line, h.has.named.model.spelled)))
no_command call Optimal text none (pieced h) = absurd (none ((h.line, h.has.has_cuts.has_word.model.spelled)))
no_command call Infeasible text none (solved h) = absurd (none ((h.line, h.forms.model.spelled)))
no_command call Infeasible text none (branched h) = absurd (none ((h.line, h.has.named.model.spelled)))
no_command call Infeasible text none (pieced h) = absurd (none ((h.line, h.has.has_cuts.has_word.model.spelled)))
no_command call Unbounded text none (solved h) = absurd (none ((h.line, h.forms.model.spelled)))
no_command call Unbounded text none (branched h) = absurd (none ((h.line, h.has.named.model.spelled)))
no_command call Unbounded text none (pieced h) = absurd (none ((h.line, h.has.has_cuts.has_word.model.spelled)))
no_command call Printed text none (rows h) = absurd (none ((h.line, h.forms.model.spelled)))
no_command call Printed text none (replayed h) = absurd (none ((h.line, h.has.plan.certificate.file.read.spelled)))
no_command call Printed text none (generated h) = absurd (none ((h.line, h.spelled)))
no_command call Printed text none (compared h) = absurd (none ((h.line, h.asks.spelled)))
no_command call Printed text none (worst_found h) =
    absurd (none ((h.line, h.has.plan.certificate.file.read.model.spelled)))
no_command call Printed text none (priced h) = absurd (none ((h.line, h.has.model.spelled)))
no_command call Printed text none (limited h) = absurd (none ((h.line, h.has.model.spelled)))
no_command call Printed text none (narrowed h) = absurd (none ((h.line, h.forms.model.spelled)))
no_command call Printed text none (split_written h) = absurd (none ((h.line, h.has.has_cuts.has_word.model.spelled)))
no_command call Accepted text none (a_certificate h) = absurd (none ((h.line, h.read.file.read.model.spelled)))
no_command call Accepted text none (a_tree h) = absurd (none ((h.line, h.read.file.variables.named.model.spelled)))
no_command call (Rejected place) text none h = absurd (none ((h.line, h.read.file.read.model.spelled)))
no_command call (TreeRejected number fault) text none h =
    absurd (none ((h.line, h.read.file.variables.named.model.spelled)))
no_command call (Model rule line) text none h = absurd (none ((h.line, h.spelled)))
no_command call (EmptySet weights) text none (while_solving h) = absurd (none ((h.line, h.forms.model.spelled)))
no_command call (EmptySet weights) text none (while_branching h) = absurd (none ((h.line, h.has.named.model.spelled)))
no_command call (EmptySet weights) text none (while_searching h) =
    absurd (none ((h.line, h.has.plan.certificate.file.read.model.spelled)))
no_command call (EmptySet weights) text none (in_cells h) =
    absurd (none ((h.line, h.has.has_cuts.has_word.model.spelled)))
no_command call (TooWide spot) text none (in_model h) = absurd (none (wide_line call h.line h.m spot h.wide))
no_command call (TooWide spot) text none (on_way h) = absurd (none ((h.line, h.forms.model.spelled)))
no_command call (TooWide spot) text none (in_split h) = absurd (none ((h.line, h.has.has_cuts.has_word.model.spelled)))
no_command call (TooWide spot) text none (in_summary h) = absurd (none ((h.line, h.asks.spelled)))
no_command call (WideNode path spot) text none (while_growing h) = absurd (none ((h.line, h.has.named.model.spelled)))
no_command call (WideNode path spot) text none (while_checking h) =
    absurd (none ((h.line, h.read.file.variables.named.model.spelled)))
no_command call (Whole rule) text none h = absurd (none (breaking_line call h.line h.m rule h.breaks))
no_command call (Tree rule line) text none h = absurd (none ((h.line, h.file.variables.named.model.spelled)))
no_command call (WideBudget number spot) text none h = absurd (none ((h.line, h.has.model.spelled)))
no_command call (Sweep rule) text none h = absurd (none (sweeping_line call h.line h.m rule h.breaks))
no_command call (Cells rule) text none h = absurd (none (h.line, (cells_model call h.line h.m rule h.breaks).spelled))
no_command call (Cert rule line) text none (not_checked h) = absurd (none ((h.line, h.file.read.model.spelled)))
no_command call (Cert rule line) text none (not_replayed h) =
    absurd (none (lacking_line call verbs.Replay h.line h.m rule line h.lacks))
no_command call (Cert rule line) text none (not_searched h) =
    absurd (none (lacking_line call verbs.Worst h.line h.m rule line h.lacks))
no_command call NoRow text none h = absurd (none ((h.line, h.names_none.plan.certificate.file.read.model.spelled)))
no_command call (Scenarios rule number) text none h = absurd (none ((h.line, h.has.plan.certificate.file.read.spelled)))
no_command call Missing text none h = absurd (none ((h.1.line, h.1.spelled)))
no_command call TooLong text none h = absurd (none ((h.1.line, h.1.spelled)))
no_command call ReadFault text none h = absurd (none ((h.0.line, h.0.spelled)))
