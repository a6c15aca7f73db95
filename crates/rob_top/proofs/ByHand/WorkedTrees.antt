-- Calls of `checktree` worked by hand: on an empty file, on a tree that proves,
-- and on one that doesn't; and so how each must end.
use Rattle.std.proofs.Common.{◌≡◌, ◌⊎◌, ℕ, pos, nat_abs, List, [], ◌∷◌, Some, refl, ◌∙◌, ap, inl, inr, arith}
use Rattle.std.specs.Fmt.{digits}
use Rattle.std.specs.Prelude.{codes}
use Rattle.rob_algebra.proofs.Parts.{one_not_zero}
use Rattle.rob_algebra.specs.Fraction.{Fraction, ratio}
use Rattle.rob_cert.specs.Apart.{FitsLines}
use Rattle.rob_cert.specs.Shape.{HasShape}
use Rattle.rob_meaning.proofs.ByHand.WorkedNotation.{int}
use Rattle.rob_meaning.proofs.ByHand.WorkedTests.{found}
use Rattle.rob_meaning.specs.Certificates.{Certificate}
use Rattle.rob_meaning.specs.Places.{1ℚ}
use Rattle.rob_outside.specs.Files.{File, file_of, found_at, whole}
use Rattle.rob_reach.proofs.WorkedTests.{test_tree}
use Rattle.rob_reach.specs.Boxes.{box_above, box_below}
use Rattle.rob_reach.specs.Trees.{IsBestLeaf, ProvesTree, Tree}
use Rattle.rob_tree.specs.Reading.{Breaks, TreeFits, in_claim}
use Rattle.rob_tree.specs.Shape.{HasTreeShape}
use Rattle.rob_tree.specs.TreeText.{tree_text}
use Rattle.rob_tree.specs.declared.error.Offence.TheVariants.{NoLine}
use Rattle.rob_top.proofs.Fetching.FilesLemmas.{empty_split}
use Rattle.rob_top.proofs.ByHand.WorkedCalls.{fits_by}
use Rattle.rob_top.proofs.ByHand.WorkedWholes.{half_reads}
use Rattle.rob_top.specs.Completeness.{MustEnd}
use Rattle.rob_top.specs.Endings.{EndsAs, IsOutside, NamesFault, NamesWidth}
use Rattle.rob_top.specs.Inputs.{HasModel, HasWholeVariables}
use Rattle.rob_top.specs.TreeChecked.{HasTree, HasTreeFile}
use Rattle.rob_top.specs.WorkedCalls.{model_name, model_request}
use Rattle.rob_top.specs.WorkedModels.{greatest, half_a_demand}
use Rattle.rob_top.specs.WorkedTrees.{cheaper_orders, not_below_6, order_7, tree_call, tree_name, whole_orders}
use Rattle.rob_commands.specs.declared.ended.Ended.{Ended}
use Rattle.rob_commands.specs.declared.ended.Ended.TheVariants.{Accepted, Tree as TreeRule}
use Rattle.rob_words.specs.Commands.{Line, own, IsSpelled}
use Rattle.rob_words.specs.declared.route.Route.TheVariants.{Dual}
use Rattle.rob_words.specs.declared.verb.Verb.TheVariants.{CheckTree}
use Rattle.rob_words.specs.declared.width.Width.TheVariants.{SixtyTwo}
use Rattle.rob_write.specs.Canonical.{model_text}

abbrev line : Line
line = record { verb = CheckTree; own = model_name ∷ codes "x" ∷ tree_name ∷ []; way = Dual; width = SixtyTwo }

abbrev files : List ℕ → List File
files bytes = file_of model_name (model_text half_a_demand) ∷ file_of tree_name bytes ∷ []

words_spelled : IsSpelled (codes "checktree" ∷ model_name ∷ codes "x" ∷ tree_name ∷ []) line
words_spelled = (
  own model_name ∷ own (codes "x") ∷ own tree_name ∷ [],
  record {
    spelled = refl;
    own = refl;
    count = refl;
    names = ((λ e. cc), ((λ e. cc), ((λ e. cc), tt)));
    kinds = (
      tt,
      (record { parts = (record { is_word = (refl, tt); no_keyword = refl }, tt); few = omega arith }, (tt, tt)),
    );
    width = inr (refl, refl);
    route = (refl, refl);
  },
)

-- both files come whole
record Come (bytes : List ℕ) : Type 0 where
  model : found_at model_name 65536 (files bytes) ≡ whole (model_text half_a_demand)
  tree : found_at tree_name 67108864 (files bytes) ≡ whole bytes

has_model : (bytes : List ℕ) → Come bytes → HasModel (tree_call half_a_demand bytes) line half_a_demand
has_model bytes come = record {
  spelled = words_spelled;
  came = ((model_text half_a_demand, (come.model, tt)), ((bytes, (come.tree, tt)), tt));
  bytes = model_text half_a_demand;
  file = record {
    request = model_request;
    named = refl;
    found = (come.model, tt);
  };
  reads = half_reads;
}

has_variables : (bytes : List ℕ) → Come bytes
    → HasWholeVariables (tree_call half_a_demand bytes) line half_a_demand (0 ∷ [])
unfolding ratio
has_variables bytes come = record {
  named = record {
    model = has_model bytes come;
    names = codes "x" ∷ [];
    told = record { word = codes "x"; told = refl; parts = refl };
    variables = record { named = refl; kept = record { inside = (omega arith, tt); distinct = (tt, tt) } };
  };
  keeps = refl;
}

has_file : (bytes : List ℕ) → Come bytes → HasTreeFile (tree_call half_a_demand bytes) line half_a_demand (0 ∷ []) bytes
has_file bytes come = record {
  variables = has_variables bytes come;
  is_checktree = refl;
  file = record {
    request = record { place = 1; name = tree_name; most = 67108864 };
    named = refl;
    found = (come.tree, tt);
  };
}

-- ---- an empty file
nothing_comes : Come []
unfolding ratio digits
nothing_comes = record { model = refl; tree = refl }

-- an empty text has no first line
empty_breaks : Breaks greatest half_a_demand (0 ∷ []) [] 71 1
empty_breaks = in_claim NoLine (λ first after begins s is. empty_split first 10 after begins.split) refl refl

-- so this one rule 71
pub empty_tree_is_refused : (result : Ended) → MustEnd (tree_call half_a_demand []) result
    → EndsAs (TreeRule 71 1) result
empty_tree_is_refused result must =
    must.tree.broken line half_a_demand (0 ∷ []) [] 71 1 (has_file [] nothing_comes) empty_breaks

-- ---- the text of a tree
abbrev bytes_of : Tree → List ℕ
bytes_of t = tree_text half_a_demand t

tree_on : (t : Tree) → Come (bytes_of t) → HasTreeShape greatest half_a_demand (0 ∷ []) t
    → TreeFits greatest half_a_demand t
    → HasTree (tree_call half_a_demand (bytes_of t)) line half_a_demand (0 ∷ []) t
tree_on t come shape fits = record {
  bytes = bytes_of t;
  file = has_file (bytes_of t) come;
  text = record { shape = shape; spelled = refl };
  fits = fits;
}

not_below_6_shape : HasShape (box_below half_a_demand 0 (pos 6)) not_below_6
unfolding ratio
not_below_6_shape = record {
  inside = refl;
  parts = record {
    value = refl;
    scale = refl;
    plan = refl;
    step = refl;
    step_bound = refl;
    covers = refl;
    holds = refl;
  };
  covers = record { each = tt; ordered = tt };
  holds = record { each = tt; ordered = tt };
  items = record {
    each = (record { form = omega arith; numbers = refl }, (record { form = omega arith; numbers = refl }, tt));
    ordered = ((omega arith, tt), (tt, tt));
    few = omega arith;
  };
}

order_7_shape : HasShape (box_above half_a_demand 0 (pos 6)) order_7
unfolding ratio
order_7_shape = record {
  inside = refl;
  parts = record { plan = refl; step = refl; step_bound = refl; holds = refl };
  covers = record {
    each = (record { form = omega arith; set_row = omega arith; amount = one_not_zero }, tt);
    ordered = (tt, tt);
  };
  holds = record { each = tt; ordered = tt };
  items = record {
    each = (record { form = omega arith; numbers = refl }, (record { form = omega arith; numbers = refl }, tt));
    ordered = ((omega arith, tt), (tt, tt));
    few = omega arith;
  };
}

not_below_6_fits : FitsLines greatest half_a_demand not_below_6
unfolding ratio
not_below_6_fits = (
  tt,
  (
    fits_by (int 8) refl refl,
    (
      (fits_by 1ℚ refl refl, fits_by 1ℚ refl refl),
      (
        fits_by (int 13) refl refl,
        ((fits_by (int 2) refl refl, fits_by 1ℚ refl refl), (fits_by (int 8) refl refl, (tt, tt))),
      ),
    ),
  ),
)

order_7_fits : FitsLines greatest half_a_demand order_7
unfolding ratio
order_7_fits = (
  tt,
  (
    fits_by (int 7) refl refl,
    (
      fits_by 1ℚ refl refl,
      (
        fits_by (int 8) refl refl,
        (
          fits_by (int 7) refl refl,
          (
            fits_by 1ℚ refl refl,
            (
              (fits_by 1ℚ refl refl, fits_by 1ℚ refl refl),
              (
                fits_by (int 8) refl refl,
                ((fits_by 1ℚ refl refl, fits_by 1ℚ refl refl), (fits_by (int 8) refl refl, (tt, tt))),
              ),
            ),
          ),
        ),
      ),
    ),
  ),
)

-- both trees have their shape, whatever value they claim
shape_at : (v : Fraction) → HasTreeShape greatest half_a_demand (0 ∷ []) (record whole_orders { value = v })
shape_at v = record {
  tree = record {
    on_names = (inl refl, tt, tt);
    few = omega arith;
    closed = (tt, tt);
    best = (omega arith, omega arith);
  };
  shaped = (not_below_6_shape, (order_7_shape, tt));
  numbers = ((omega arith, λ e. let same : 6 ≡ greatest = ap nat_abs e in omega (arith, same)), tt, tt);
  parts = tt;
}

-- ---- 7 is claimed
whole_orders_come : Come (bytes_of whole_orders)
unfolding ratio digits
whole_orders_come = record { model = refl; tree = refl }

whole_orders_fit : TreeFits greatest half_a_demand whole_orders
unfolding ratio
whole_orders_fit =
    record { value = fits_by (int 7) refl refl; best = omega arith; root = (not_below_6_fits, order_7_fits) }

whole_orders_prove : ProvesTree half_a_demand (0 ∷ []) whole_orders
unfolding ratio
whole_orders_prove = found (test_tree half_a_demand (0 ∷ []) whole_orders) tt

-- this call has to answer `accepted`, or name a wide number
pub whole_orders_are_accepted : (result : Ended) → MustEnd (tree_call half_a_demand (bytes_of whole_orders)) result
    → EndsAs Accepted result ⊎ NamesWidth greatest half_a_demand (0 ∷ []) whole_orders result
whole_orders_are_accepted result must =
    must.tree.proved line half_a_demand (0 ∷ []) whole_orders
    (tree_on whole_orders whole_orders_come (shape_at (int 7)) whole_orders_fit) whole_orders_prove

-- ---- 6 is claimed
cheaper_orders_come : Come (bytes_of cheaper_orders)
unfolding ratio digits
cheaper_orders_come = record { model = refl; tree = refl }

cheaper_orders_fit : TreeFits greatest half_a_demand cheaper_orders
unfolding ratio
cheaper_orders_fit =
    record { value = fits_by (int 6) refl refl; best = omega arith; root = (not_below_6_fits, order_7_fits) }

cheaper_orders_prove_not : ProvesTree half_a_demand (0 ∷ []) cheaper_orders → ⊥
unfolding ratio
cheaper_orders_prove_not h =
    let best : IsBestLeaf (0 ∷ []) (int 6) (record {
      box = box_above half_a_demand 0 (pos 6);
      certificate = Some order_7;
    }) = h.shows.1 in
    let there : Some order_7 ≡ Some best.certificate = best.here in
    let same : order_7 ≡ best.certificate = cc in
    let value : int 7 ≡ int 6 = ap (λ (c : Certificate). c.value) same ∙ best.value in
    let n : ℕ = 7 in
    let differ : n ≡ 6 = ap (λ (x : Fraction). nat_abs x.num) value in
    omega arith

-- this call has to name a condition that fails, or a wide number
pub cheaper_orders_are_rejected : (result : Ended) → MustEnd (tree_call half_a_demand (bytes_of cheaper_orders)) result
    → NamesFault greatest half_a_demand (0 ∷ []) cheaper_orders result
    ⊎ (NamesWidth greatest half_a_demand (0 ∷ []) cheaper_orders result ⊎ IsOutside result)
cheaper_orders_are_rejected result must =
    must.tree.rejected line half_a_demand (0 ∷ []) cheaper_orders
    (tree_on cheaper_orders cheaper_orders_come (shape_at (int 6)) cheaper_orders_fit) cheaper_orders_prove_not
