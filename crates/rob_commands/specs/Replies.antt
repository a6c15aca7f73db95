-- Answers with their texts, before they are put; and the answer for a status.
use Rattle.std.specs.Prelude.{◌≡◌, ℕ, List}
use Rattle.rob_meaning.specs.Certificates as meaning
use Rattle.rob_commands.specs.declared.ended.Ended.{Ended}
use Rattle.rob_commands.specs.declared.ended.Ended.TheVariants.{Optimal, Infeasible, Unbounded}
use Rattle.rob_commands.specs.declared.reply.Reply.{Reply}

-- the reply is this answer with this text
abbrev pub Replies : Ended → List ℕ → Reply → Type 0
Replies ended text reply = (reply.ended ≡ ended) × (reply.text ≡ text)

-- the answer for a status
abbrev pub ended_of : meaning.Status → Ended
ended_of meaning.optimal = Optimal
ended_of meaning.infeasible = Infeasible
ended_of meaning.unbounded = Unbounded
