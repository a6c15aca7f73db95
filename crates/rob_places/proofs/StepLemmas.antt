-- Where a search missed, the next one decides.
use Rattle.std.proofs.Common.{◌≡◌, ℕ, Bool, false, sym, ap}
use Rattle.std.specs.Prelude.{if◌then◌else◌}
use Rattle.rob_index.specs.Search.{Searched, search_on}

pub on_missed : (s : Searched) (next : ℕ → Searched) → s.found ≡ false → next s.left ≡ search_on s next
on_missed s next h = sym (ap (λ (b : Bool). if b then s else next s.left) h)
