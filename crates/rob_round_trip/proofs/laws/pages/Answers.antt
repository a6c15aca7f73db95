use Rattle.rob_round_trip.proofs.Pages.PageSymbols.{page_is_read, told_as}
use Rattle.rob_round_trip.proofs.laws.pages.Goals as goal

pub returns : goal.returns
returns c = record { read = page_is_read; only = λ ls tokens h are. told_as ls h tokens are }
