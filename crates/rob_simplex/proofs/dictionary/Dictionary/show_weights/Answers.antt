use Rattle.std.proofs.Common.{◌∙◌}
use Rattle.rob_simplex.proofs.Telling.WeightLemmas.{row_low, row_free, shown_weights}
use Rattle.rob_simplex.proofs.dictionary.Dictionary.show_weights.Goals as goal

pub lowest_slacks-requires-clause-row_in : goal.lowest_slacks-requires-clause-row_in
lowest_slacks-requires-clause-row_in g c = row_low c.requires.ends.0 c.args.row c.args.self.now c.requires.ends.1

pub tell_auxiliary-requires-clause-row_in : goal.tell_auxiliary-requires-clause-row_in
tell_auxiliary-requires-clause-row_in g c = row_low c.requires.ends.0 c.args.row c.args.self.now c.requires.ends.1

pub tell_auxiliary-requires-clause-free : goal.tell_auxiliary-requires-clause-free
tell_auxiliary-requires-clause-free g c = row_free c.requires.ends.0 c.args.row c.args.self.now c.requires.ends.1

pub returns-clause-shown : goal.returns-clause-shown
returns-clause-shown g c P h =
    shown_weights P c.args.row c.args.self.now h c.lowest_slacks.new.weights c.tell_auxiliary.new.self.basis
    (c.lowest_slacks.ensures.size ∙ c.requires.size) c.lowest_slacks.ensures.lowest c.lowest_slacks.ensures.weights
    c.tell_auxiliary.ensures.comes c.tell_auxiliary.ensures.stays
