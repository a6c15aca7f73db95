use Rattle.rob_settings.proofs.SettingsLemmas.{between_skip}
use Rattle.rob_settings.proofs.laws.passed_over.Goals as goal

pub returns : goal.returns
returns c = record { settings = between_skip }
