use Rattle.std.proofs.Common.{◌≡◌, ◌≢◌, ◌-◌, ◌^◌, ◌<◌, ◌≤◌, sym, subst, arith, length, pos, nat_abs}
use Rattle.std.proofs.lemmas.List.{map-id}
use Rattle.std.specs.Result.{OnOk, OnErr}
use Rattle.rob_algebra.specs.Gcd.{gcd}
use Rattle.rob_linear.specs.Vectors.{at}
use Rattle.rob_rows.specs.PrimitiveParts.{content, IsWithin, HasWidePart}
use Rattle.rob_deep.proofs.Words.{read, seen}
use Rattle.rob_entries.specs.Entries.{long_high}
use Rattle.rob_entries.proofs.LongRows.{combination_read}
use Rattle.rob_entries.proofs.long.I128Entry.combine.Goals as goal

pub combine_deep-requires : goal.combine_deep-requires
combine_deep-requires c =
    let p = c.args.p in
    let q = c.args.q in
    let last = length c.args.out.now - 1 in
    let ep : read c.args.p ≡ c.args.p = seen c.args.p c.ranges.p in
    let eq : read c.args.q ≡ c.args.q = seen c.args.q c.ranges.q in
    let high : 2 ^ 126 - 1 < 2 ^ 126 = long_high in
    let limit_in : c.args.limit ≤ 2 ^ 126 - 1 = c.requires.factors.limit_low in
    let p_in : nat_abs c.args.p ≤ 2 ^ 126 - 1 = c.requires.factors.sizes.0 in
    let q_in : nat_abs c.args.q ≤ 2 ^ 126 - 1 = c.requires.factors.sizes.1 in
    let some : 0 < length c.args.out.now = c.requires.own.0 in
    let wide : length c.args.upper.now ≡ length c.args.out.now = c.requires.lengths.0 in
    record {
      ready = record {
        limit_low = omega arith;
        lowest = record {
          lowest =
              subst (λ t. gcd (nat_abs t) (nat_abs (read q)) ≤ 1) (sym ep)
              (subst (λ t. gcd (nat_abs p) (nat_abs t) ≤ 1) (sym eq) c.requires.factors.lowest);
          p_size = subst (λ t. nat_abs t < 2 ^ 126) (sym ep) (omega arith);
          q_size = subst (λ t. nat_abs t < 2 ^ 126) (sym eq) (omega arith);
        };
        pivot = subst (λ t. t ≢ pos 0) (sym ep) c.requires.factors.pivot;
        top_length = wide;
        low_length = c.requires.lengths.1;
        top_within = subst (IsWithin c.args.limit) (map-id c.args.upper.now) c.requires.within.0;
        low_within = subst (IsWithin c.args.limit) (map-id c.args.low.now) c.requires.within.1;
        primitive = subst (λ row. content row ≡ 1) (map-id c.args.low.now) c.requires.primitive;
        own_in = record {
          inside = omega arith;
          nonzero = subst (λ row. at row last ≢ pos 0) (map-id c.args.upper.now) c.requires.own.2;
          zero = subst (λ row. at row last ≡ pos 0) (map-id c.args.low.now) c.requires.own.1;
        };
      };
    }

pub returns-clause-bounded : goal.returns-clause-bounded
returns-clause-bounded c =
    subst (λ row. OnOk c.combine_deep.result (IsWithin c.args.limit row)) (sym (map-id c.combine_deep.new.out))
    c.combine_deep.ensures.within

pub returns-clause-wide : goal.returns-clause-wide
returns-clause-wide c =
    subst (λ row. OnErr c.combine_deep.result (HasWidePart c.args.limit row))
    (combination_read c.args.p c.args.upper.now c.args.q c.args.low.now c.ranges.p c.ranges.q)
    c.combine_deep.ensures.wide
