use Rattle.std.proofs.Common.{[], ◌++◌, ◌∷◌, subst, sym}
use Rattle.rob_index.specs.Forms.{onto}
use Rattle.rob_ranges.specs.Nests.{IsTold}
use Rattle.rob_ranges.proofs.NestLists.{told_inside_is}
use Rattle.rob_ranges.proofs.nest.told_inside.Goals as goal

pub returns : goal.returns
returns c =
    record {
      told =
          subst (IsTold (onto (c.args.around.now ++ c.args.innermost.now ∷ []) [])) (sym c.told_with.ensures.told)
          (told_inside_is c.args.around.now c.args.innermost.now c.args.told c.in_ok-runs.runs c.in_ok-dead.dead
          c.requires.told c.in_ok-runs.ensures.runs c.in_ok-dead.ensures.dead);
    }
