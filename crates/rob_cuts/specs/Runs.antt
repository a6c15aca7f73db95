-- A run so far, as the code holds it.
use Rattle.std.specs.Prelude.{ℕ, suc, ◌+◌, ◌^◌, length}
use Rattle.rob_meaning.specs.Places.{Each}
use Rattle.rob_elab.specs.declared.forms.Forms.{Forms}
use Rattle.rob_rows.specs.LinearPrograms.{HasNumbersWithin}
use Rattle.rob_sets.specs.declared.set_form.SetForm.{SetForm}
use Rattle.rob_dualize.specs.Wholes.{HoldsOfEach}
use Rattle.rob_cuts.specs.declared.run.Run.{Run}
use Rattle.rob_cuts.specs.Master.{IsMasterList}
use Rattle.rob_cuts.specs.Rounds.{cuts_told, RoundFits, TellsRun}

-- the program is the master over the cuts of the rounds, and no number is over the limit; the rounds are a run of each
-- model with these forms and set rows
pub record IsRunSoFar (limit : ℕ) (forms : Forms) (set : SetForm) (run : Run) : Type 0 where
  pub master : IsMasterList forms (cuts_told run.rounds) run.master
  pub within : HasNumbersWithin limit run.master
  pub fits : Each (RoundFits limit) run.rounds
  pub tells : HoldsOfEach forms set (λ m. TellsRun m run.rounds)

-- no run has more rounds than this
abbrev pub round_limit : Forms → SetForm → ℕ
round_limit forms set =
    (length forms.matrices + suc ((set.columns + set.columns) + length set.rows)) ^ suc (suc (length set.rows))
