-- What the program promises: what each answer means of the files that were read, and which bytes were put for it.
--
-- In short, of `solve` and `prove`, for every text that is read as a model whose set isn't empty: `optimal v` comes
-- with a plan that keeps every row in every admitted scenario, with worst case v, and no affine plan has a better
-- one; `infeasible` and `unbounded` are true alike; the printed certificate proves it; and `too wide` names a number
-- on the way to that model's solution that leaves the width. Where that is one of a row of a program, a row of that
-- position has an entry over 2^126 - 1 there, or the basis is the program's last and tells a number there that leaves
-- the width. Of `whole` and `tree` the same holds over plans whose named variables are whole, and a branch tree proves
-- it; of `cells` over plans with a policy of their own in each cell, and a certificate of the split model was found
-- that proves it. Of a model with several sets read: a set isn't empty where each named set and the default set admit
-- some scenario; and a row is kept in every scenario that the row's own set admits.
--
-- The premises stand here, and nowhere else. What a file holds is what the fetch of it answered in this call,
-- whatever the shelf; where the shelf tells its files too, it is what they hold. What was put is what the sink's puts
-- were asked to take and answered that they took, whatever the sink. That a fetch of the machine's shelf reads the
-- file of its name, that a put of standard output writes its piece, and that what was written is what one sees, is
-- trusted. Want of memory is an answer of its own, and free: nothing is said of when it comes.
use Rattle.std.specs.Prelude.{◌≡◌, ◌⊎◌, ℕ, List}
use Rattle.rob_meaning.specs.Certificates.{optimal, infeasible, unbounded}
use Rattle.rob_outside.specs.Puts.{PutAll, PutUntil}
use Rattle.rob_outside.specs.Taken.{Took, TookPrefix}
use Rattle.rob_top.specs.Branched.{IsNoWhole}
use Rattle.rob_top.specs.Calls.{Call, Output, WasRaised}
use Rattle.rob_top.specs.Checked.{IsCertificateRejected}
use Rattle.rob_top.specs.Lines.{PutMemory, text_lines}
use Rattle.rob_top.specs.Refused.{IsMissing, IsNoCommandLine, IsNoModel, IsTooLong, IsUnread}
use Rattle.rob_top.specs.Replayed.{IsNoScenarios}
use Rattle.rob_top.specs.Searched.{IsNoRow}
use Rattle.rob_top.specs.Split.{IsNoCells}
use Rattle.rob_top.specs.Swept.{IsNoSweep, IsWideBudget}
use Rattle.rob_top.specs.TreeChecked.{IsNoTree, IsTreeRejected}
use Rattle.rob_top.specs.Ways.{Accepts, FindsEmpty, FindsStatus, NamesCertificateLine, NamesWide, NamesWideNode, Prints}
use Rattle.rob_commands.specs.declared.ended.Ended.{Ended}
use Rattle.rob_commands.specs.declared.ended.Ended.TheVariants.{Optimal, Infeasible, Unbounded, Printed, Accepted, Rejected, Words, Missing, TooLong, Model, EmptySet, TooWide, WideNode, WideBudget, Cert, Scenarios, Whole, Sweep, Cells, Tree, TreeRejected, NoRow, ReadFault, WriteFault, Memory}

module _ (call : Call) where
  -- what each answer means, and its text; where several commands give it, specs/Ways.antt has a constructor for each.
  -- An answer comes only where this holds; where it must come, because no other may, is said by
  -- specs/Completeness.antt
  abbrev pub Means : Ended → List ℕ → Type 0
  Means Optimal text = FindsStatus call optimal text
  Means Infeasible text = FindsStatus call infeasible text
  Means Unbounded text = FindsStatus call unbounded text
  Means Printed text = Prints call text
  Means Accepted text = Accepts call text
  Means (Rejected place) text = IsCertificateRejected call place text
  Means (TreeRejected number fault) text = IsTreeRejected call number fault text
  Means Words text = IsNoCommandLine call text
  Means Missing text = IsMissing call text
  Means TooLong text = IsTooLong call text
  Means (Model rule line) text = IsNoModel call rule line text
  Means (EmptySet weights) text = FindsEmpty call weights text
  Means (TooWide spot) text = NamesWide call spot text
  Means (WideNode path spot) text = NamesWideNode call path spot text
  Means (WideBudget number spot) text = IsWideBudget call number spot text
  Means (Cert rule line) text = NamesCertificateLine call rule line text
  Means (Scenarios rule number) text = IsNoScenarios call rule number text
  Means (Whole rule) text = IsNoWhole call rule text
  Means NoRow text = IsNoRow call text
  Means (Tree rule line) text = IsNoTree call rule line text
  Means (Sweep rule) text = IsNoSweep call rule text
  Means (Cells rule) text = IsNoCells call rule text
  Means ReadFault text = IsUnread call text
  -- of a refused put and of want of memory `Ends` says what was put
  Means WriteFault text = ⊥
  Means Memory text = ⊥

  -- a put was refused: a text of some answer that is allowed here was put up to some byte, one put for each of its
  -- first lines, in order, each taken whole but the last one, which was refused, and none behind it
  pub record PutRefused (output : Output) : Type 0 where
    pub answer : Ended
    pub text : List ℕ
    pub means : Means answer text
    pub took : TookPrefix output.before output.now text
    pub puts : PutUntil output.puts_before output.puts_now (text_lines text)

  -- the answer's text was put, all of it: one put for each of its lines, in order, each taken whole, and no other
  pub record PutWhole (output : Output) (answer : Ended) : Type 0 where
    pub text : List ℕ
    pub means : Means answer text
    pub took : Took output.before output.now text
    pub puts : PutAll output.puts_before output.puts_now (text_lines text)

  -- how a call ends: with an answer whose text was put; or with a put that the outside refused; or for want of
  -- memory, at a put, and then no put failed, or before the first one, and then the line that says so was put
  abbrev pub Ends : Output → Ended → Type 0
  Ends output WriteFault = WasRaised output.write_faults × PutRefused output
  Ends output Memory =
      (output.write_faults.now ≡ output.write_faults.before) × PutRefused output ⊎ PutMemory output
  Ends output answer = PutWhole output answer
