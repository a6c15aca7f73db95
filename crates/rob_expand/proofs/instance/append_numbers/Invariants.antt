use Rattle.std.proofs.Common.{◌≡◌, [], ◌∷◌, ◌++◌, drop}
use Rattle.std.specs.List.{flat_map}
use Rattle.rob_syntax.specs.Known.{texts}
use Rattle.rob_syntax.specs.Symbols.{number_of}
use Rattle.rob_expand.specs.Growing.{named_at}
use Rattle.rob_expand.proofs.instance.append_numbers.Given as goal

abbrev pub invariant-loop-setting : goal.invariant-loop-setting
invariant-loop-setting l =
    l.numbers
    ++ flat_map (λ e. number_of (texts l.names.words.now.keys) (named_at (texts l.names.own.now.keys) l.name e) ∷ [])
    (drop l.setting-index l.settings)
    ≡ l.fn.numbers
    ++ flat_map (λ e. number_of (texts l.names.words.now.keys) (named_at (texts l.names.own.now.keys) l.name e) ∷ [])
    l.settings
