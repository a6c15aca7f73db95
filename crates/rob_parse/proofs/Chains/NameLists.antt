-- The names of a plain statement, each and in a list.
use Rattle.std.proofs.Common.{List, [], ◌∷◌, ◌++◌, map}
use Rattle.std.specs.Prelude.{Option, Some, None, option_to_list}
use Rattle.rob_index.specs.Refs.{EachFactorName, EachName, EachNameOf, EachPartName, EachSideName, IfThere}
use Rattle.rob_index.specs.Statements as stated
use Rattle.rob_index.specs.Statements.{Factors, Member, Name, Parts, Plain, Statement}
use Rattle.rob_meaning.proofs.Lists.EachLemmas.{each_append, each_left, each_right, each_map}
use Rattle.rob_meaning.specs.Places.{Each}
use Rattle.rob_rules.specs.Names.{factor_names, names_of, part_names, side_names, tree_names}

-- ---- what holds of all holds of each
module _ (P : Name → Type 0) where
  mutual
    from_tree : (p : Plain) → Each P (tree_names p) → EachName P p
    from_tree (stated.number n) h = tt
    from_tree (stated.name n) h = h.0
    from_tree (stated.sum ps) h = from_parts ps h
    from_tree (stated.product ps) h = from_factors ps h

    from_parts : (ps : Parts) → Each P (part_names ps) → EachPartName P ps
    from_parts stated.no_parts h = tt
    from_parts (stated.part minus p ps) h = (
      from_tree p (each_left P (tree_names p) (part_names ps) h),
      from_parts ps
          (each_right P (tree_names p) (part_names ps) h),
    )

    from_factors : (ps : Factors) → Each P (factor_names ps) → EachFactorName P ps
    from_factors stated.no_factors h = tt
    from_factors (stated.factor p ps) h = (
      from_tree p (each_left P (tree_names p) (factor_names ps) h),
      from_factors ps (each_right P (tree_names p) (factor_names ps) h),
    )

  from_over : (o : Option Name) → Each P (option_to_list o) → IfThere P o
  from_over None h = tt
  from_over (Some n) h = h.0

  from_members : (ms : List Member) → Each P (map (λ (m : Member). m.name) ms) → Each (λ (m : Member). P m.name) ms
  from_members [] h = tt
  from_members (m ∷ ms) h = (h.0, from_members ms h.1)

  from_sides : (l p : Plain) (o : Option Name) → Each P (side_names l p o) → EachSideName P l p o
  from_sides l p o h =
      let behind = each_right P (tree_names l) (tree_names p ++ option_to_list o) h in (
        from_tree l (each_left P (tree_names l) (tree_names p ++ option_to_list o) h),
        from_tree p (each_left P (tree_names p) (option_to_list o) behind),
        from_over o (each_right P (tree_names p) (option_to_list o) behind),
      )

  pub from_names : (s : Statement) → Each P (names_of s) → EachNameOf P s
  from_names (stated.uncertain n b) h = h.0
  from_names (stated.over n) h = h.0
  from_names (stated.set l r p o) h = from_sides l p o h
  from_names (stated.budget n ms o) h = (
    from_members ms (each_left P (map (λ (m : Member). m.name) ms) (option_to_list o) h),
    from_over o (each_right P (map (λ (m : Member). m.name) ms) (option_to_list o) h),
  )
  from_names (stated.variable n b) h = h.0
  from_names (stated.adaptive n on b) h = h
  from_names (stated.goal s e o) h = (
    from_tree e (each_left P (tree_names e) (option_to_list o) h),
    from_over o (each_right P (tree_names e) (option_to_list o) h),
  )
  from_names (stated.row n l r p o) h = (h.0, from_sides l p o h.1)

-- ---- what holds of each holds of all
module _ (P : Name → Type 0) where
  mutual
    of_tree : (p : Plain) → EachName P p → Each P (tree_names p)
    of_tree (stated.number n) h = tt
    of_tree (stated.name n) h = (h, tt)
    of_tree (stated.sum ps) h = of_parts ps h
    of_tree (stated.product ps) h = of_factors ps h

    of_parts : (ps : Parts) → EachPartName P ps → Each P (part_names ps)
    of_parts stated.no_parts h = tt
    of_parts (stated.part minus p ps) h = each_append P (tree_names p) (part_names ps) (of_tree p h.0) (of_parts ps h.1)

    of_factors : (ps : Factors) → EachFactorName P ps → Each P (factor_names ps)
    of_factors stated.no_factors h = tt
    of_factors (stated.factor p ps) h =
        each_append P (tree_names p) (factor_names ps) (of_tree p h.0) (of_factors ps h.1)

  of_over : (o : Option Name) → IfThere P o → Each P (option_to_list o)
  of_over None h = tt
  of_over (Some n) h = (h, tt)

  of_members : (ms : List Member) → Each (λ (m : Member). P m.name) ms → Each P (map (λ (m : Member). m.name) ms)
  of_members [] h = tt
  of_members (m ∷ ms) h = (h.0, of_members ms h.1)

  of_sides : (l p : Plain) (o : Option Name) → EachSideName P l p o → Each P (side_names l p o)
  of_sides l p o h =
      each_append P (tree_names l) (tree_names p ++ option_to_list o) (of_tree l h.0)
      (each_append P (tree_names p) (option_to_list o) (of_tree p h.1) (of_over o h.2))

  pub of_names : (s : Statement) → EachNameOf P s → Each P (names_of s)
  of_names (stated.uncertain n b) h = (h, tt)
  of_names (stated.over n) h = (h, tt)
  of_names (stated.set l r p o) h = of_sides l p o h
  of_names (stated.budget n ms o) h =
      each_append P (map (λ (m : Member). m.name) ms) (option_to_list o) (of_members ms h.0) (of_over o h.1)
  of_names (stated.variable n b) h = (h, tt)
  of_names (stated.adaptive n on b) h = h
  of_names (stated.goal s e o) h = each_append P (tree_names e) (option_to_list o) (of_tree e h.0) (of_over o h.1)
  of_names (stated.row n l r p o) h = (h.0, of_sides l p o h.1)

-- ---- what holds of each name, and gives something else of it, gives that of each
module _ (P Q : Name → Type 0) (to : (n : Name) → P n → Q n) where
  mutual
    map_tree : (p : Plain) → EachName P p → EachName Q p
    map_tree (stated.number n) h = tt
    map_tree (stated.name n) h = to n h
    map_tree (stated.sum ps) h = map_parts ps h
    map_tree (stated.product ps) h = map_factors ps h

    map_parts : (ps : Parts) → EachPartName P ps → EachPartName Q ps
    map_parts stated.no_parts h = tt
    map_parts (stated.part minus p ps) h = (map_tree p h.0, map_parts ps h.1)

    map_factors : (ps : Factors) → EachFactorName P ps → EachFactorName Q ps
    map_factors stated.no_factors h = tt
    map_factors (stated.factor p ps) h = (map_tree p h.0, map_factors ps h.1)

  map_over : (o : Option Name) → IfThere P o → IfThere Q o
  map_over None h = tt
  map_over (Some n) h = to n h

  map_sides : (l p : Plain) (o : Option Name) → EachSideName P l p o → EachSideName Q l p o
  map_sides l p o h = (map_tree l h.0, map_tree p h.1, map_over o h.2)

  pub name_map : (s : Statement) → EachNameOf P s → EachNameOf Q s
  name_map (stated.uncertain n b) h = to n h
  name_map (stated.over n) h = to n h
  name_map (stated.set l r p o) h = map_sides l p o h
  name_map (stated.budget n ms o) h = (
    each_map (λ (m : Member). P m.name) (λ (m : Member). Q m.name) (λ m. to m.name) ms h.0,
    map_over o h.1,
  )
  name_map (stated.variable n b) h = to n h
  name_map (stated.adaptive n on b) h = (to n h.0, each_map P Q to on h.1)
  name_map (stated.goal s e o) h = (map_tree e h.0, map_over o h.1)
  name_map (stated.row n l r p o) h = (to n h.0, map_sides l p o h.1)
