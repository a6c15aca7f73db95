use Rattle.std.proofs.Common.{◌≡◌, [], ◌∷◌, ◌++◌, drop}
use Rattle.std.specs.List.{flat_map}
use Rattle.rob_syntax.specs.Known.{texts}
use Rattle.rob_expand.specs.Making.{entry_at}
use Rattle.rob_expand.proofs.instance.append_entries.Given as goal

abbrev pub invariant-loop-setting : goal.invariant-loop-setting
invariant-loop-setting l =
    l.members ++ flat_map
    (λ e. entry_at (texts l.names.own.now.keys) (texts l.names.words.now.keys) l.name l.spread e ∷ [])
    (drop l.setting-index l.settings)
    ≡ l.fn.members ++ flat_map
    (λ e. entry_at (texts l.names.own.now.keys) (texts l.names.words.now.keys) l.name l.spread e ∷ []) l.settings
