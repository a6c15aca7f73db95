-- The exit statuses.
use Rattle.std.specs.Prelude.{ℕ}
use Rattle.rob_commands.specs.declared.ended.Ended.{Ended}
use Rattle.rob_commands.specs.declared.ended.Ended.TheVariants.{Optimal, Infeasible, Unbounded, Printed, Accepted, Rejected, Words, Missing, TooLong, Model, EmptySet, TooWide, WideNode, WideBudget, Cert, Scenarios, Whole, Sweep, Cells, Tree, TreeRejected, NoRow, ReadFault, WriteFault, Memory}

-- the exit status of an answer: 0 for what was asked, 10 and 11 for a model without an optimum, 12 for a certificate
-- or a branch tree that doesn't prove, from 20 on for refusals
abbrev pub code_of : Ended → ℕ
code_of Optimal = 0
code_of Infeasible = 10
code_of Unbounded = 11
code_of Printed = 0
code_of Accepted = 0
code_of (Rejected place) = 12
code_of (TreeRejected leaf fault) = 12
code_of Words = 20
code_of Missing = 21
code_of TooLong = 22
code_of (Model rule line) = 23
code_of (EmptySet weights) = 24
code_of (TooWide spot) = 25
code_of (WideNode path spot) = 25
code_of (WideBudget number spot) = 25
code_of (Cert rule line) = 26
code_of (Scenarios rule number) = 27
code_of (Whole rule) = 33
code_of NoRow = 29
code_of (Tree rule line) = 34
code_of (Sweep rule) = 35
code_of (Cells rule) = 32
code_of ReadFault = 30
code_of WriteFault = 31
code_of Memory = 40
