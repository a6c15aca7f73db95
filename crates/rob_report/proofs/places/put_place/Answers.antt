use Rattle.std.proofs.Common.{◌≤◌, suc, subst, arith}
use Rattle.rob_meaning.specs.RobustModel.{column_count}
use Rattle.rob_model.specs.View.{robust}
use Rattle.rob_report.proofs.PlaceAnswers.{base_written, cover_sign_written, cover_written, hold_sign_written, hold_written, inside_written, item_written, sum_written, weight_written}
use Rattle.rob_report.specs.Places.{IsPlaceOf}
use Rattle.rob_report.proofs.places.put_place.Goals as goal

pub put_condition-requires-clause-inside : goal.put_condition-requires-clause-inside
put_condition-requires-clause-inside g c =
    subst (IsPlaceOf (robust g.N.Exact.value c.args.model.now)) c.in-Inside.is c.requires.named

pub put_condition-requires-in-Item-clause-inside : goal.put_condition-requires-in-Item-clause-inside
put_condition-requires-in-Item-clause-inside g c =
    subst (IsPlaceOf (robust g.N.Exact.value c.args.model.now)) c.in-Item.is c.requires.named

pub put_sum_column-requires-clause-inside : goal.put_sum_column-requires-clause-inside
put_sum_column-requires-clause-inside g c =
    let m = robust g.N.Exact.value c.args.model.now in
    let h : c.in-Sum.column ≤ suc (column_count m) = subst (IsPlaceOf m) c.in-Sum.is c.requires.named in
    omega (arith, h)

pub put_sign-requires-clause-named : goal.put_sign-requires-clause-named
put_sign-requires-clause-named g c =
    subst (IsPlaceOf (robust g.N.Exact.value c.args.model.now)) c.in-CoverSign.is c.requires.named

pub put_sum-requires-clause-named : goal.put_sum-requires-clause-named
put_sum-requires-clause-named g c =
    subst (IsPlaceOf (robust g.N.Exact.value c.args.model.now)) c.in-Cover.is c.requires.named

pub put_sign-requires-in-HoldSign-clause-named : goal.put_sign-requires-in-HoldSign-clause-named
put_sign-requires-in-HoldSign-clause-named g c =
    subst (IsPlaceOf (robust g.N.Exact.value c.args.model.now)) c.in-HoldSign.is c.requires.named

pub put_sum-requires-in-Hold-clause-named : goal.put_sum-requires-in-Hold-clause-named
put_sum-requires-in-Hold-clause-named g c =
    subst (IsPlaceOf (robust g.N.Exact.value c.args.model.now)) c.in-Hold.is c.requires.named

pub returns-in_ok-push-in-Inside : goal.returns-in_ok-push-in-Inside
returns-in_ok-push-in-Inside g c = record {
  appended = inside_written (robust g.N.Exact.value c.args.model.now) c.put_condition.result c.args.out.now
      c.put_condition.new.out c.in-Inside.is c.in_ok-push-in-Inside.ensures.appended c.put_condition.ensures.appended;
}

pub returns-in-Weight : goal.returns-in-Weight
returns-in-Weight g c = record {
  appended = weight_written (robust g.N.Exact.value c.args.model.now) c.put_item.result c.args.out.now
      c.put_item.new.out c.in-Weight.is c.put_item.ensures.appended;
}

pub returns-in-Base : goal.returns-in-Base
returns-in-Base g c = record {
  appended = base_written (robust g.N.Exact.value c.args.model.now) c.put_item-in-Base.result c.args.out.now
      c.put_item-in-Base.new.out c.in-Base.is c.put_item-in-Base.ensures.appended;
}

pub returns-in_ok-push-in-Item : goal.returns-in_ok-push-in-Item
returns-in_ok-push-in-Item g c = record {
  appended = item_written (robust g.N.Exact.value c.args.model.now) c.put_condition-in-Item.result c.args.out.now
      c.put_condition-in-Item.new.out c.in-Item.is c.in_ok-put_item-in-Item.ensures.appended
      c.in_ok-push-in-Item.ensures.appended c.put_condition-in-Item.ensures.appended;
}

pub returns-in_ok-push-in-Sum : goal.returns-in_ok-push-in-Sum
returns-in_ok-push-in-Sum g c = record {
  appended = sum_written (robust g.N.Exact.value c.args.model.now) c.put_sum_column.result c.args.out.now
      c.put_sum_column.new.out c.in-Sum.is c.in_ok-push-in-Sum.ensures.appended c.put_sum_column.ensures.appended;
}

pub returns-in_ok-push-in-CoverSign : goal.returns-in_ok-push-in-CoverSign
returns-in_ok-push-in-CoverSign g c = record {
  appended = cover_sign_written (robust g.N.Exact.value c.args.model.now) c.put_sign.result c.args.out.now
      c.put_sign.new.out c.in-CoverSign.is c.in_ok-push-in-CoverSign.ensures.appended c.put_sign.ensures.appended;
}

pub returns-in_ok-push-in-Cover : goal.returns-in_ok-push-in-Cover
returns-in_ok-push-in-Cover g c = record {
  appended = cover_written (robust g.N.Exact.value c.args.model.now) c.put_sum.result c.args.out.now
      c.put_sum.new.out c.in-Cover.is c.in_ok-push-in-Cover.ensures.appended c.put_sum.ensures.appended;
}

pub returns-in_ok-push-in-HoldSign : goal.returns-in_ok-push-in-HoldSign
returns-in_ok-push-in-HoldSign g c = record {
  appended = hold_sign_written (robust g.N.Exact.value c.args.model.now) c.put_sign-in-HoldSign.result c.args.out.now
      c.put_sign-in-HoldSign.new.out c.in-HoldSign.is c.in_ok-push-in-HoldSign.ensures.appended
      c.put_sign-in-HoldSign.ensures.appended;
}

pub returns-in_ok-push-in-Hold : goal.returns-in_ok-push-in-Hold
returns-in_ok-push-in-Hold g c = record {
  appended = hold_written (robust g.N.Exact.value c.args.model.now) c.put_sum-in-Hold.result c.args.out.now
      c.put_sum-in-Hold.new.out c.in-Hold.is c.in_ok-push-in-Hold.ensures.appended c.put_sum-in-Hold.ensures.appended;
}
