-- Items with commas between them.
use Rattle.std.specs.Prelude.{List, [], ◌∷◌, ◌++◌}
use Rattle.rob_syntax.specs.declared.symbol.Symbol.{Symbol}
use Rattle.rob_syntax.specs.declared.symbol.Symbol.TheVariants.{Sign}
use Rattle.rob_syntax.specs.declared.symbol.Mark.TheVariants.{Comma}

-- { "," item }
abbrev pub spell_more : {A : Type 0} → (A → List Symbol) → List A → List Symbol
spell_more spell [] = []
spell_more spell (x ∷ xs) = Sign Comma ∷ (spell x ++ spell_more spell xs)

-- [ item { "," item } ]
abbrev pub spell_list : {A : Type 0} → (A → List Symbol) → List A → List Symbol
spell_list spell [] = []
spell_list spell (x ∷ xs) = spell x ++ spell_more spell xs
