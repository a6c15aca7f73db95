use Rattle.rob_dualize.proofs.MakingLemmas.{set_of_one}
use Rattle.rob_dualize.proofs.RowBoundLemmas.{both_narrow, told_of_model}
use Rattle.rob_dualize.proofs.bounds.model_bounds.Goals as goal

pub set_bound-requires : goal.set_bound-requires
set_bound-requires g c = record { model = set_of_one c.args.forms.now c.args.set.now c.requires.model }

pub counterpart_bound-requires : goal.counterpart_bound-requires
counterpart_bound-requires g c = record { model = record { elaborated = c.requires.model; few = c.requires.few } }

pub returns-clause-bounds : goal.returns-clause-bounds
returns-clause-bounds g c = λ m f st.
    told_of_model g.N.Exact.limit m c.args.forms.now c.args.set.now f st c.in_ok-of_set.of_set
    c.in_ok-counterpart.counterpart
    c.in_ok-of_set.ensures.bound c.in_ok-counterpart.ensures.bound

pub returns-clause-narrow : goal.returns-clause-narrow
returns-clause-narrow g c = λ m f st.
    both_narrow g.N.Exact.limit m (record {
      set = c.in_ok-of_set.of_set;
      counterpart = c.in_ok-counterpart.counterpart;
    })
    (told_of_model g.N.Exact.limit m c.args.forms.now c.args.set.now f st c.in_ok-of_set.of_set
    c.in_ok-counterpart.counterpart
    c.in_ok-of_set.ensures.bound c.in_ok-counterpart.ensures.bound)
