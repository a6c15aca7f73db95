use Rattle.std.proofs.Common.{◌≡◌, drop}
use Rattle.rob_outside.specs.MemSink.{first_of}
use Rattle.rob_outside.proofs.mem_sink.first_bytes.Given as goal

-- the entries so far are for other puts
abbrev pub invariant-loop-put : goal.invariant-loop-put
invariant-loop-put l = first_of l.call (drop l.put-index l.failing) ≡ first_of l.call l.failing
