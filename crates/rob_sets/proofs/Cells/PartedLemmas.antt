-- A list in two parts.
use Rattle.std.specs.Prelude.{◌≡◌, List, [], ◌++◌, refl}
use Rattle.std.proofs.Common.{sym, ◌∙◌, append-nil}

-- the list is its first part and then the rest
pub record Parted {A : Type 0} (all first rest : List A) : Type 0 where
  pub is : all ≡ first ++ rest

pub parted : {A : Type 0} (first rest : List A) → Parted (first ++ rest) first rest
parted first rest = record { is = refl }

-- nothing is behind the last part
pub parted_last : {A : Type 0} {all last : List A} → all ≡ last → Parted all last []
parted_last {last} e = record { is = e ∙ sym (append-nil last) }
