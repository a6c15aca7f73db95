use Rattle.std.proofs.Common.{arith}
use Rattle.rob_parse.proofs.parts.member.Goals as goal

pub overflow_mul-result : goal.overflow_mul-result
overflow_mul-result g c = let room = c.requires.room c.args.member.now.name in omega (arith, room)
