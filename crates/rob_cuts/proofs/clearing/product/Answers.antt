use Rattle.rob_number.proofs.CastLemmas.{widened}
use Rattle.rob_cuts.proofs.RayLemmas.{multiple_fits, multiple_seen, multiple_size, natural_fits}
use Rattle.rob_cuts.proofs.clearing.product.Goals as goal

pub overflow_cast-result : goal.overflow_cast-result
overflow_cast-result c = widened c.args.a c.ranges.a

pub overflow_cast-result-2 : goal.overflow_cast-result-2
overflow_cast-result-2 c = natural_fits c.args.b c.requires.right

pub overflow_mul-result : goal.overflow_mul-result
overflow_mul-result c = multiple_fits c.args.a c.args.b c.ranges.a c.requires.left c.requires.right

pub returns-clause-value : goal.returns-clause-value
returns-clause-value c = multiple_seen c.args.a c.args.b c.ranges.a c.requires.left c.requires.right

pub returns-clause-size : goal.returns-clause-size
returns-clause-size c = multiple_size c.args.a c.args.b c.ranges.a c.requires.left c.requires.right
