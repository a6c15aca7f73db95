use Rattle.std.proofs.Common.{◌≡◌, List, length, sym, ap, ◌∙◌, subst, refl, arith}
use Rattle.std.specs.Prelude.{ℤ, false}
use Rattle.std.proofs.lemmas.Result.{err_from_is_err_and}
use Rattle.rob_ranges.proofs.SpanLemmas.{behind_of, every_at, front_of}
use Rattle.rob_expand.specs.Lines.{line_left}
use Rattle.rob_settings.specs.Settings.{all_left}
use Rattle.rob_settings.specs.Spots.{IsThinAt}
use Rattle.rob_settings.proofs.AppendLemmas.{thin_moved}
use Rattle.rob_expand.proofs.Walks.LineLemmas.{left_behind, left_none, left_only, left_short}
use Rattle.rob_settings.proofs.AnswerLemmas.{refused, moved}
use Rattle.rob_expand.proofs.line.+spend_lines.Goals as goal

pub spend_line-requires : goal.spend_line-requires
spend_line-requires t c =
    let one : length c.args.settings.now ≡ 1 = omega (arith, c.in-len1.len_at_least, c.in-len1.len_below) in
    record {
      thin =
          subst (IsThinAt false c.args.line.now.items c.args.kept.now) (sym c.items.ensures.list)
          (every_at (IsThinAt false c.args.line.now.items c.args.kept.now) c.args.settings.now 0 c.setting-item.result
          (omega (arith, one)) c.setting-item.is c.requires.thin);
    }

pub thin_in-requires : goal.thin_in-requires
thin_in-requires t c = record {
  kept =
      thin_moved false _ _ _ _ _ _ c.items-items.ensures.list refl refl
      (front_of (IsThinAt false c.args.line.now.items c.args.kept.now) c.args.settings.now c.split_at.result.0.now
      c.split_at.result.1.now c.split_at.ensures.by_index.0 c.requires.thin);
}

pub thin_in-requires-in_default : goal.thin_in-requires-in_default
thin_in-requires-in_default t c = record {
  kept =
      thin_moved false _ _ _ _ _ _ c.items-items.ensures.list refl refl
      (behind_of (IsThinAt false c.args.line.now.items c.args.kept.now) c.args.settings.now c.split_at.result.0.now
      c.split_at.result.1.now c.split_at.ensures.by_index.0 c.requires.thin);
}

pub spend_lines-requires : goal.spend_lines-requires
spend_lines-requires t c = (
  omega (arith, c.decreases, c.split_at.ensures.front_len, c.middle.ensures.behind),
  thin_moved false _ _ _ _ _ _ (sym c.items-items.ensures.list) c.items-in_default.ensures.list refl
      c.in_ok-first-in_default.ensures.thin,
)

pub spend_lines-requires-in_default : goal.spend_lines-requires-in_default
spend_lines-requires-in_default t c = (
  omega (arith, c.decreases, c.split_at.ensures.back_len, c.middle.ensures.front, c.middle.ensures.behind),
  thin_moved false _ _ _ _ _ _ (sym c.items-items.ensures.list) c.items-in_default-2.ensures.list refl
      c.in_ok-second-in_default.ensures.thin,
)

pub returns-in-empty : goal.returns-in-empty
returns-in-empty t c = record {
  left = left_none (line_left c.args.line.now) c.args.settings.now c.args.room c.in-empty.len_below;
}

pub returns-in-len1 : goal.returns-in-len1
returns-in-len1 t c =
    let f = line_left c.args.line.now in
    let one : length c.args.settings.now ≡ 1 = omega (arith, c.in-len1.len_at_least, c.in-len1.len_below) in
    record {
      left =
          moved c.spend_line.result _ _
          (ap (λ (vs : List ℤ). f vs c.args.room) c.items.ensures.list
          ∙ left_only f c.args.settings.now c.setting-item.result c.args.room one c.setting-item.is)
          c.spend_line.ensures.left;
    }

pub returns-in_err-left-in_default : goal.returns-in_err-left-in_default
returns-in_err-left-in_default t c =
    let f = line_left c.args.line.now in
    record {
      left =
          let p = err_from_is_err_and c.from_residual-in_err-left-in_default.result
          c.from_residual-in_err-left-in_default.ensures.1 in
          refused c.from_residual-in_err-left-in_default.result _
          (all_left f c.split_at.result.0.now c.args.room) (all_left f c.args.settings.now c.args.room)
          c.in_err-left-in_default.field-0.0 p.0 p.1 p.2
          (left_short f c.args.settings.now c.split_at.result.0.now c.split_at.result.1.now
          c.split_at.ensures.by_index.0 c.args.room)
          c.in_err-left-in_default.ensures.left;
    }

pub returns-in_ok-second-in_default : goal.returns-in_ok-second-in_default
returns-in_ok-second-in_default t c =
    let f = line_left c.args.line.now in
    record {
      left =
          moved c.spend_lines-in_default.result _ _
          (left_behind f c.args.settings.now c.split_at.result.0.now c.split_at.result.1.now
          c.split_at.ensures.by_index.0 c.args.room c.in_ok-left-in_default.left c.in_ok-left-in_default.ensures.left)
          c.spend_lines-in_default.ensures.left;
    }
