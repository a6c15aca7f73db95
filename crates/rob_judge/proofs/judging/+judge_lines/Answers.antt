use Rattle.std.proofs.Common.{◌≡◌, length, sym, ◌∙◌, subst, refl, arith}
use Rattle.std.specs.Prelude.{true}
use Rattle.rob_ranges.proofs.SpanLemmas.{behind_of, every_at, front_of}
use Rattle.rob_expand.specs.Judging.{line_found}
use Rattle.rob_settings.specs.Spots.{IsThinAt}
use Rattle.rob_settings.proofs.AppendLemmas.{thin_moved}
use Rattle.rob_expand.proofs.Walks.FindingLemmas.{found_first, found_if_only, found_none, found_split}
use Rattle.rob_judge.proofs.judging.+judge_lines.Goals as goal

pub judge_line-requires : goal.judge_line-requires
judge_line-requires t c =
    let one : length c.args.settings.now ≡ 1 = omega (arith, c.in-len1.len_at_least, c.in-len1.len_below) in
    record {
      thin =
          subst (IsThinAt true c.args.line.now.items c.args.kept.now) (sym c.items.ensures.list)
          (every_at (IsThinAt true c.args.line.now.items c.args.kept.now) c.args.settings.now 0 c.setting-item.result
          (omega (arith, one)) c.setting-item.is c.requires.thin);
    }

pub thin_in-requires : goal.thin_in-requires
thin_in-requires t c = record {
  kept =
      thin_moved true _ _ _ _ _ _ c.items-items.ensures.list refl refl
      (front_of (IsThinAt true c.args.line.now.items c.args.kept.now) c.args.settings.now c.split_at.result.0.now
      c.split_at.result.1.now c.split_at.ensures.by_index.0 c.requires.thin);
}

pub thin_in-requires-in_default : goal.thin_in-requires-in_default
thin_in-requires-in_default t c = record {
  kept =
      thin_moved true _ _ _ _ _ _ c.items-items.ensures.list refl refl
      (behind_of (IsThinAt true c.args.line.now.items c.args.kept.now) c.args.settings.now c.split_at.result.0.now
      c.split_at.result.1.now c.split_at.ensures.by_index.0 c.requires.thin);
}

pub judge_lines-requires : goal.judge_lines-requires
judge_lines-requires t c = (
  omega (arith, c.decreases, c.split_at.ensures.front_len, c.middle.ensures.behind),
  thin_moved true _ _ _ _ _ _ (sym c.items-items.ensures.list) c.items-in_default.ensures.list refl
      c.in_ok-first-in_default.ensures.thin,
)

pub judge_lines-requires-in_default : goal.judge_lines-requires-in_default
judge_lines-requires-in_default t c = (
  omega (arith, c.decreases, c.split_at.ensures.back_len, c.middle.ensures.front, c.middle.ensures.behind),
  thin_moved true _ _ _ _ _ _ (sym c.items-items.ensures.list) c.items-in_default-2.ensures.list refl
      c.in_ok-second-in_default.ensures.thin,
)

pub returns-in-empty : goal.returns-in-empty
returns-in-empty t c = record {
  found = found_none (line_found c.args.line.now) c.args.settings.now c.in-empty.len_below;
}

pub returns-in-len1 : goal.returns-in-len1
returns-in-len1 t c =
    let f = line_found c.args.line.now in
    let one : length c.args.settings.now ≡ 1 = omega (arith, c.in-len1.len_at_least, c.in-len1.len_below) in
    record {
      found =
          found_if_only f c.args.settings.now c.setting-item.result c.items.result.now one c.setting-item.is
          c.judge_line.result
          c.items.ensures.list c.judge_line.ensures.found;
    }

pub returns-then-is_too_long : goal.returns-then-is_too_long
returns-then-is_too_long t c = record {
  found =
      found_first (line_found c.args.line.now) c.args.settings.now c.split_at.result.0.now c.split_at.result.1.now
      c.split_at.ensures.by_index.0 c.in_ok-found-in_default.found c.in_ok-found-in_default.ensures.found
      (sym c.is_too_long.ensures.is ∙ c.if-is_too_long.true);
}

pub returns-in_ok-here-in_default : goal.returns-in_ok-here-in_default
returns-in_ok-here-in_default t c = record {
  found =
      c.worse.ensures.worse
      ∙ found_split (line_found c.args.line.now) c.args.settings.now c.split_at.result.0.now c.split_at.result.1.now
      c.split_at.ensures.by_index.0 c.in_ok-found-in_default.ensures.found c.in_ok-here-in_default.ensures.found;
}
