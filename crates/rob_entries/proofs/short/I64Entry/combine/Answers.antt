use Rattle.std.proofs.Common.{sym, subst}
use Rattle.std.proofs.lemmas.List.{map-id}
use Rattle.std.specs.Result.{OnOk, OnErr}
use Rattle.rob_rows.specs.PrimitiveParts.{IsWithin, HasWidePart}
use Rattle.rob_entries.proofs.ShortRows.{combination_read}
use Rattle.rob_entries.proofs.short.I64Entry.combine.Goals as goal

pub combine_lowest-requires-clause-rows : goal.combine_lowest-requires-clause-rows
combine_lowest-requires-clause-rows c = record {
  top_length = c.requires.lengths.0;
  low_length = c.requires.lengths.1;
  top_within = subst (IsWithin c.args.limit) (map-id c.args.upper.now) c.requires.within.0;
  low_within = subst (IsWithin c.args.limit) (map-id c.args.low.now) c.requires.within.1;
}

pub returns-clause-bounded : goal.returns-clause-bounded
returns-clause-bounded c =
    subst (λ row. OnOk c.combine_lowest.result (IsWithin c.args.limit row)) (sym (map-id c.combine_lowest.new.out))
    c.combine_lowest.ensures.within

pub returns-clause-wide : goal.returns-clause-wide
returns-clause-wide c =
    subst (λ row. OnErr c.combine_lowest.result (HasWidePart c.args.limit row))
    (combination_read c.args.p c.args.upper.now c.args.q c.args.low.now c.ranges.p c.ranges.q)
    c.combine_lowest.ensures.wide
