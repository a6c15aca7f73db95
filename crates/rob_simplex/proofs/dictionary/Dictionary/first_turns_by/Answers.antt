use Rattle.std.proofs.Common.{ℕ, ◌≤◌, IfErr, MatchResult, subst, inl}
use Rattle.rob_number.proofs.CountLemmas.{only_later}
use Rattle.rob_simplex.specs.Dictionaries.{columns_of}
use Rattle.rob_simplex.specs.Explicit.{FirstTurns, StopsFirst}
use Rattle.rob_simplex.proofs.Turns.FirstTurns.{starts_left, starts_beside}
use Rattle.rob_simplex.proofs.Places.Sizes.{sized_after}
use Rattle.rob_simplex.proofs.dictionary.Dictionary.first_turns_by.Goals as goal

pub least-requires : goal.least-requires
least-requires g c = record { known = λ i l on. absurd (let off = c.forget_all.ensures.off i in cc) }

pub returns-in_default-clause-ended : goal.returns-in_default-clause-ended
returns-in_default-clause-ended g c P h = starts_left P c.args.self.now h c.in_default.ensures.least

pub go_beside-requires : goal.go_beside-requires
go_beside-requires g c = record {
  stands = (
    c.requires.starts.0,
    starts_beside c.requires.starts.0 c.args.self.now c.requires.starts.1 c.in-Some.q
        c.in-Some.ensures.least,
  );
  known = c.in-Some.ensures.known;
}

pub returns-in-Infeasible-clause-ended : goal.returns-in-Infeasible-clause-ended
returns-in-Infeasible-clause-ended g c P h =
    let x = c.in-Infeasible.ensures.ended P (starts_beside P c.args.self.now h c.in-Some.q c.in-Some.ensures.least) in
    inl (record { inside = x.0.holds.inside; stands = x.0; none = x.1 })

pub returns-in-Feasible-clause-ended : goal.returns-in-Feasible-clause-ended
returns-in-Feasible-clause-ended g c P h =
    c.in-Feasible.ensures.ended P (starts_beside P c.args.self.now h c.in-Some.q c.in-Some.ensures.least)

pub explicit_turns-requires : goal.explicit_turns-requires
explicit_turns-requires g c = record {
  opened = (
    c.requires.starts.0,
    c.in-Open.ensures.ended c.requires.starts.0
        (starts_beside c.requires.starts.0 c.args.self.now c.requires.starts.1 c.in-Some.q c.in-Some.ensures.least),
  );
}

pub returns-in-Open-clause-ended : goal.returns-in-Open-clause-ended
returns-in-Open-clause-ended g c P h =
    subst (λ (l : ℕ). MatchResult c.explicit_turns.result (λ ending. FirstTurns P ending c.explicit_turns.new.self)
    (λ i. StopsFirst l P (columns_of c.explicit_turns.new.self.basis) i)) c.go_beside.ensures.sized.limit
    (c.explicit_turns.ensures.ended P
    (c.in-Open.ensures.ended P (starts_beside P c.args.self.now h c.in-Some.q c.in-Some.ensures.least)))

pub returns-in-Open-clause-position : goal.returns-in-Open-clause-position
returns-in-Open-clause-position g c =
    subst (λ (m : ℕ). IfErr c.explicit_turns.result (λ i. i ≤ m)) c.go_beside.ensures.sized.positions
    c.explicit_turns.ensures.position

pub returns-in-Open-clause-counted : goal.returns-in-Open-clause-counted
returns-in-Open-clause-counted g c = only_later c.go_beside.ensures.counted c.explicit_turns.ensures.counted

pub returns-in-Open-clause-sized : goal.returns-in-Open-clause-sized
returns-in-Open-clause-sized g c = sized_after c.go_beside.ensures.sized c.explicit_turns.ensures.sized
