use Rattle.std.proofs.Common.{Some, sym, ap, ◌∙◌}
use Rattle.rob_case.proofs.BytesLemmas.{times_repeated, times_uncounted, times_unspelled}
use Rattle.rob_case.proofs.bytes.append_times.Goals as goal

pub returns-in_err-count : goal.returns-in_err-count
returns-in_err-count c = record {
  appended = times_uncounted c.args.rest.now _ _ c.keyword.ensures.keyword c.keyword.ensures.rest _ _ _ _
      c.from_residual.ensures.1 c.in_err-count.ensures.small;
}

pub returns-in_err-unescape : goal.returns-in_err-unescape
returns-in_err-unescape c = record {
  appended = times_unspelled c.args.rest.now _ _ c.keyword.ensures.keyword
      (c.as_bytes.ensures.value ∙ c.keyword.ensures.rest) _ _ _ _ _ c.from_residual-in_err-unescape.ensures.1
      c.in_err-unescape.ensures.appended;
}

pub returns : goal.returns
returns c = record {
  appended = times_repeated c.args.rest.now _ _ c.keyword.ensures.keyword
      (c.as_bytes.ensures.value ∙ c.keyword.ensures.rest) _ _ _ _ _ _ c.in_ok-count.ensures.small
      c.new-piece.ensures.items (c.in_ok-unescape.ensures.appended ∙ ap Some (sym c.as_slice.ensures.value))
      c.repeat.ensures.appended;
}
