use Rattle.std.proofs.Common.{◌<◌, sym, arith}
use Rattle.rob_expand.proofs.Walks.LineLemmas.{entries_first, entries_later}
use Rattle.rob_expand.proofs.line.tokens_of_entries.Goals as goal

pub returns-then-first : goal.returns-then-first
returns-then-first c = record {
  tokens =
      let some : 0 < c.args.entries = omega (arith, c.if-entries-eq0.false) in
      let a = c.from.ensures in
      let b = c.from-2.ensures in
      rw (a, b, c.if-first.true) (sym (entries_first c.args.behind c.args.entries some));
}

pub returns-else-first : goal.returns-else-first
returns-else-first c = record {
  tokens =
      let a = c.from.ensures in
      let b = c.from-2.ensures in
      rw (a, b, c.if-first.false) (sym (entries_later c.args.behind c.args.entries));
}
