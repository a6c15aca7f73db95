-- From step to step a dictionary keeps its size.
use Rattle.std.proofs.Common.{◌≡◌, ◌∙◌, refl, ap}
use Rattle.rob_simplex.specs.Dictionaries.{Table, positions, IsSized}

pub sized_same : {t : Table} → IsSized t t
sized_same = record { columns = refl; positions = refl; limit = refl }

-- equal dictionaries
pub sized_view : {t u : Table} → t ≡ u → IsSized u t
sized_view e = record {
  columns = ap (λ (v : Table). v.columns) e;
  positions = ap (λ (v : Table). positions v) e;
  limit = ap (λ (v : Table). v.limit) e;
}

pub sized_after : {a b c : Table} → IsSized a b → IsSized b c → IsSized a c
sized_after h k =
    record { columns = k.columns ∙ h.columns; positions = k.positions ∙ h.positions; limit = k.limit ∙ h.limit }
