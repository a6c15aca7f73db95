use Rattle.std.proofs.Common.{◌≡◌, length, arith}
use Rattle.rob_settings.proofs.SpotLemmas.{only_idle}
use Rattle.rob_settings.proofs.spot.are_idle.Goals as goal

pub returns-in-len1 : goal.returns-in-len1
returns-in-len1 c = record {
  idle = λ t vs within.
      let one : length c.args.items.now ≡ 1 = omega (arith, c.in-len1.len_at_least, c.in-len1.len_below) in
      only_idle c.args.short c.args.items.now c.item-item.result vs one c.item-item.is
      (c.is_idle.ensures.idle t vs within);
}
