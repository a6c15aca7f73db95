use Rattle.std.proofs.Common.{inr, refl}
use Rattle.rob_top.proofs.Coming.CompletenessLemmas.{ends_complete, unput_complete}
use Rattle.rob_commands.specs.declared.ended.Ended.TheVariants.{Memory}
use Rattle.rob_top.proofs.top.run.Goals as goal

pub returns-in-Ok-clause-complete : goal.returns-in-Ok-clause-complete
returns-in-Ok-clause-complete g c = ends_complete _ _ _ (c.put_reply.ensures.ends _ c.in-Ok.ensures.means)

pub returns-in-Err-clause-complete : goal.returns-in-Err-clause-complete
returns-in-Err-clause-complete g c = unput_complete _ Memory (inr refl)

pub returns-in-Err-clause-headline : goal.returns-in-Err-clause-headline
returns-in-Err-clause-headline g c = inr c.put_memory.ensures.line
