-- The settings of some ranges: which values their names have, and what an index is then.
use Rattle.std.specs.Prelude.{ℕ, zero, suc, ◌==◌, ℤ, pos, negsuc, ◌+ℤ◌, ◌-ℤ◌, neg_ℤ, Bool, true, false, List, [], ◌∷◌, if◌then◌else◌}
use Rattle.std.specs.List.{flat_map}
use Rattle.rob_index.specs.Statements.{Atom, digits, bound, Step, Index, Range}

-- a range's name and its value
pub record Value : Type 0 where
  pub name : ℕ
  pub value : ℤ

-- a setting: the values of the ranges round a place, the innermost first
abbrev pub Setting : Type 0
Setting = List Value

-- the value of a name: that of the innermost range that binds it, and 0 where none does
abbrev pub value_at : Setting → ℕ → ℤ
value_at [] k = pos 0
value_at (b ∷ bs) k = if b.name == k then b.value else value_at bs k

-- the value of an atom
abbrev pub atom_value : Setting → Atom → ℤ
atom_value setting (digits n) = pos n
atom_value setting (bound k) = value_at setting k

-- the value, or its opposite
abbrev pub signed_value : Bool → ℤ → ℤ
signed_value true z = neg_ℤ z
signed_value false z = z

-- the sum of the steps
abbrev pub steps_value : Setting → List Step → ℤ
steps_value setting [] = pos 0
steps_value setting (s ∷ ss) = signed_value s.minus (atom_value setting s.atom) +ℤ steps_value setting ss

-- the value of an index
abbrev pub index_value : Setting → Index → ℤ
index_value setting x = atom_value setting x.first +ℤ steps_value setting x.more

-- 0 where a number is below 0
abbrev pub natural : ℤ → ℕ
natural (pos n) = n
natural (negsuc n) = 0

-- how many values a range has: none where its end is below its start
abbrev pub count : ℤ → ℤ → ℕ
count from upto = natural ((upto +ℤ pos 1) -ℤ from)

-- n numbers upwards
abbrev pub upwards : ℤ → ℕ → List ℤ
upwards from zero = []
upwards from (suc n) = from ∷ upwards (from +ℤ pos 1) n

-- the values of a range, upwards
abbrev pub values : Setting → Range → List ℤ
values setting r = upwards (index_value setting r.from)
    (count (index_value setting r.from) (index_value setting r.upto))

-- a setting with one range more
abbrev pub with_value : Range → Setting → ℤ → Setting
with_value r setting v = record { name = r.name; value = v } ∷ setting

-- all settings of some ranges, the last running fastest
abbrev pub settings : List Range → Setting → List Setting
settings [] setting = setting ∷ []
settings (r ∷ rs) setting = flat_map (λ v. settings rs (with_value r setting v)) (values setting r)
