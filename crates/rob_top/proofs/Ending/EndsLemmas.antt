-- How a call ends, from what was put.
use Rattle.std.proofs.Common.{◌≡◌, ℕ, true, false, List, [], ◌∷◌, ◌++◌, Result, Ok, Err}
use Rattle.rob_outside.specs.Puts.{PutAll, put_of}
use Rattle.rob_outside.specs.Taken.{Took, Takes}
use Rattle.rob_outside.proofs.TakenLemmas.{took_is_prefix}
use Rattle.rob_commands.specs.Answers.{memory_text}
use Rattle.rob_top.specs.Calls.{Call, Output}
use Rattle.rob_top.specs.Headline.{Means, Ends}
use Rattle.rob_top.specs.Lines.{PutMemory, text_lines}
use Rattle.rob_commands.specs.declared.ended.Ended.{Ended}
use Rattle.rob_commands.specs.declared.ended.Ended.TheVariants.{Optimal, Infeasible, Unbounded, Printed, Accepted, Rejected, Words, Missing, TooLong, Model, EmptySet, TooWide, WideNode, WideBudget, Cert, Scenarios, Whole, Sweep, Cells, Tree, TreeRejected, NoRow, ReadFault, WriteFault, Memory}

-- the text of an answer was put whole
pub ends_whole : (call : Call) (output : Output) (ended : Ended) (text : List ℕ)
    → Means call ended text → Took output.before output.now text
    → PutAll output.puts_before output.puts_now (text_lines text) → Ends call output ended
ends_whole call output WriteFault text means took puts = absurd means
ends_whole call output Memory text means took puts = absurd means
ends_whole call output Optimal text means took puts = record { text = text; means = means; took = took; puts = puts }
ends_whole call output Infeasible text means took puts = record { text = text; means = means; took = took; puts = puts }
ends_whole call output Unbounded text means took puts = record { text = text; means = means; took = took; puts = puts }
ends_whole call output Printed text means took puts = record { text = text; means = means; took = took; puts = puts }
ends_whole call output Accepted text means took puts = record { text = text; means = means; took = took; puts = puts }
ends_whole call output (Rejected place) text means took puts = record {
  text = text;
  means = means;
  took = took;
  puts = puts;
}
ends_whole call output (TreeRejected number fault) text means took puts = record {
  text = text;
  means = means;
  took = took;
  puts = puts;
}
ends_whole call output Words text means took puts = record { text = text; means = means; took = took; puts = puts }
ends_whole call output Missing text means took puts = record { text = text; means = means; took = took; puts = puts }
ends_whole call output TooLong text means took puts = record { text = text; means = means; took = took; puts = puts }
ends_whole call output (Model rule line) text means took puts = record {
  text = text;
  means = means;
  took = took;
  puts = puts;
}
ends_whole call output (EmptySet weights) text means took puts = record {
  text = text;
  means = means;
  took = took;
  puts = puts;
}
ends_whole call output (TooWide spot) text means took puts = record {
  text = text;
  means = means;
  took = took;
  puts = puts;
}
ends_whole call output (WideNode path spot) text means took puts = record {
  text = text;
  means = means;
  took = took;
  puts = puts;
}
ends_whole call output (WideBudget number spot) text means took puts = record {
  text = text;
  means = means;
  took = took;
  puts = puts;
}
ends_whole call output (Cert rule line) text means took puts = record {
  text = text;
  means = means;
  took = took;
  puts = puts;
}
ends_whole call output (Scenarios rule number) text means took puts = record {
  text = text;
  means = means;
  took = took;
  puts = puts;
}
ends_whole call output (Whole rule) text means took puts = record {
  text = text;
  means = means;
  took = took;
  puts = puts;
}
ends_whole call output NoRow text means took puts = record { text = text; means = means; took = took; puts = puts }
ends_whole call output (Tree rule line) text means took puts = record {
  text = text;
  means = means;
  took = took;
  puts = puts;
}
ends_whole call output (Sweep rule) text means took puts = record {
  text = text;
  means = means;
  took = took;
  puts = puts;
}
ends_whole call output (Cells rule) text means took puts = record {
  text = text;
  means = means;
  took = took;
  puts = puts;
}
ends_whole call output ReadFault text means took puts = record { text = text; means = means; took = took; puts = puts }

-- a put of the line of a want of memory, whatever it answers
pub ends_memory : {T E : Type 0} (output : Output) (result : Result T E)
    → Takes output.before output.now memory_text result
    → output.puts_now ≡ output.puts_before ++ put_of memory_text result ∷ []
    → PutMemory output
ends_memory output (Ok value) took put =
    record { whole = true; took = took_is_prefix output.before output.now memory_text took; puts = put }
ends_memory output (Err error) took put = record { whole = false; took = took; puts = put }
