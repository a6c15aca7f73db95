use Rattle.rob_cert.proofs.first_lines.read_bounds.Goals as goal

pub returns-in-Optimal-clause-read : goal.returns-in-Optimal-clause-read
returns-in-Optimal-clause-read g c names = rw c.in-Optimal.is (c.read_both.ensures.read names)

pub returns-in-Unbounded-clause-read : goal.returns-in-Unbounded-clause-read
returns-in-Unbounded-clause-read g c names = rw c.in-Unbounded.is (c.read_both-in-Unbounded.ensures.read names)
