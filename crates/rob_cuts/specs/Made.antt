-- The cuts that the code makes.
use Rattle.rob_runs.specs.Cuts.{Cut}
use Rattle.rob_cuts.specs.declared.cut.Cut.{Cut as Made}

-- the cut that it is
abbrev pub cut_made : Made → Cut
cut_made c = record { form = c.form; base = c.base; vector = c.vector }
