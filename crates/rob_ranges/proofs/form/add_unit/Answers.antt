use Rattle.std.proofs.Common.{◌<◌, ◌≤◌, length, ap, subst, sym, arith}
use Rattle.std.specs.Prelude.{pos}
use Rattle.rob_index.specs.Fast.{unit_at}
use Rattle.rob_ranges.specs.Joining.{joined_from}
use Rattle.rob_ranges.proofs.JoinLemmas.{joined_longer, none_yet, units_more, units_here, units_all}
use Rattle.rob_ranges.proofs.form.add_unit.Goals as goal

pub loop-own-init : goal.loop-own-init
loop-own-init c =
    let same = c.in_ok-make_room.ensures.same in
    record {
      place = none_yet c.args.from;
      within = subst (λ fs. c.args.from ≤ length fs) (sym same) c.requires.from;
      room = c.in_ok-make_room.ensures.room;
      so_far = ap (joined_from c.args.from c.args.sign.now (unit_at c.args.names.now c.args.name)) same;
    }

pub pad-requires-clause-place : goal.pad-requires-clause-place
pad-requires-clause-place c = c.loop-own.invariant.within

pub pad-requires-clause-room : goal.pad-requires-clause-room
pad-requires-clause-room c =
    omega (arith, c.loop-own.invariant.place, c.loop-own.invariant.room, c.loop-own-test.true)

pub add_product-requires : goal.add_product-requires
add_product-requires c = record { place = c.loop-own.invariant.within }

pub returns-in_err-make_room-clause-within : goal.returns-in_err-make_room-clause-within
returns-in_err-make_room-clause-within c =
    subst (λ fs. c.args.from ≤ length fs) (sym c.make_room.ensures.same) c.requires.from

pub returns-then-own-name-clause-within : goal.returns-then-own-name-clause-within
returns-then-own-name-clause-within c =
    omega (arith, c.add_product-then-own-name.ensures.within, c.loop-own.invariant.place)

pub returns-then-own-name-clause-added : goal.returns-then-own-name-clause-added
returns-then-own-name-clause-added c =
    let here = c.loop-own in
    units_here here.place here.own-index c.args.sign.now here.factors.items
    c.add_product-then-own-name.new.factors.items here.invariant.within c.add_product-then-own-name.result
    c.small.result c.args.names.now c.args.name c.loop-own-test.true c.if-own-name.true c.small.ensures.value
    here.invariant.so_far c.add_product-then-own-name.ensures.added

pub loop-own-preserved : goal.loop-own-preserved
loop-own-preserved c =
    let here = c.loop-own in
    let longer = joined_longer here.place (pos 0) (pos 0) here.factors.items here.invariant.within in
    let within : here.place < length c.pad.new.factors.items =
    subst (λ fs. here.place < length fs) (sym c.pad.ensures.padded) longer in
    record {
      place = omega (arith, here.invariant.place);
      within = omega (arith, within);
      room = omega (arith, c.pad.ensures.capacity, here.invariant.room);
      so_far =
          units_more here.place here.own-index c.args.sign.now here.factors.items c.pad.new.factors.items
          here.invariant.within c.args.names.now c.args.name c.loop-own-test.true c.if-own-name.false
          c.pad.ensures.padded here.invariant.so_far;
    }

pub returns : goal.returns
returns c =
    let here = c.loop-own in
    record {
      added =
          units_all here.place here.own-index c.args.sign.now here.factors.items here.factors.items
          here.invariant.within c.args.names.now c.args.name c.loop-own-test.false here.invariant.so_far;
      within = omega (arith, here.invariant.place, here.invariant.within);
    }
