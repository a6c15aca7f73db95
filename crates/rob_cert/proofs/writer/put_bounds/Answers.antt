use Rattle.rob_cert.proofs.writer.put_bounds.Goals as goal

pub returns-in-Optimal : goal.returns-in-Optimal
returns-in-Optimal g c = record { appended = λ names. rw c.in-Optimal.is (c.put_both.ensures.appended names) }

pub returns-in-Unbounded : goal.returns-in-Unbounded
returns-in-Unbounded g c =
    record { appended = λ names. rw c.in-Unbounded.is (c.put_both-in-Unbounded.ensures.appended names) }
