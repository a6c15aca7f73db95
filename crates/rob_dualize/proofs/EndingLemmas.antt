-- How a solver ends on a program with the numbers of the counterpart, and the solution that is read there.
use Rattle.std.proofs.Common.{◌≡◌, ◌≢◌, ℕ, zero, suc, ◌+◌, ◌*◌, ◌<◌, ◌≤◌, ◌^◌, List, [], length, refl, sym, ap, ◌∙◌, subst, arith}
use Rattle.rob_algebra.specs.Fraction.{Fraction, of_int}
use Rattle.rob_linear.specs.Vectors.{Matrix, Columns}
use Rattle.rob_linear.specs.Systems.{System}
use Rattle.rob_linear.specs.Programs.{Program, system_of, auxiliary_of}
use Rattle.rob_linear.specs.Turns.{own_of, Enters}
use Rattle.rob_meaning.specs.Certificates.{infeasible, Cover, Item, Certificate}
use Rattle.rob_meaning.specs.Forms.{matrices}
use Rattle.rob_meaning.specs.Places.{0ℚ, 1ℚ}
use Rattle.rob_meaning.specs.RobustModel.{RobustModel, column_count}
use Rattle.rob_meaning.specs.UncertaintySet.{Admits}
use Rattle.rob_meaning.specs.WellFormed.{IsModel}
use Rattle.rob_meaning.proofs.Lists.EachLemmas.{each_map, each_both}
use Rattle.rob_meaning.proofs.Tables.MatrixLemmas.{length-matrices}
use Rattle.rob_number.specs.declared.lp_kind.LpKind.{LpKind}
use Rattle.rob_number.specs.declared.lp_kind.LpKind.TheVariants as kind
use Rattle.rob_simplex.specs.Dictionaries.{columns_of}
use Rattle.rob_simplex.specs.Solvers.{Solver, entries, column_of}
use Rattle.rob_simplex.specs.Solutions.{point_of, dual_of, ray_of, weights_of}
use Rattle.rob_simplex.specs.Endings.{IsOptimumOf, IsRayOf, HasWeightsFor}
use Rattle.rob_cert.specs.Shape.{IsCoverOf, IsItemOf, AreCoversOf, AreItemsOf}
use Rattle.rob_cert.proofs.Writing.ShapeLemmas.{no_covers, no_items}
use Rattle.rob_counterpart.specs.Reform.{block}
use Rattle.rob_counterpart.specs.Counterpart.{robust_of, counterpart}
use Rattle.rob_counterpart.specs.Endings.{OptimalEnding, InfeasibleEnding, UnboundedEnding}
use Rattle.rob_counterpart.specs.ReadCertificates.{weight_of, optimal_read, infeasible_read, unbounded_read}
use Rattle.rob_counterpart.proofs.Proving.CertificateLemmas.{read_optimal_proves, read_infeasible_proves, read_unbounded_proves, optimal_is_read, infeasible_is_read, unbounded_is_read}
use Rattle.rob_counterpart.proofs.Positions.SamePaths.{own_same, own_auxiliary_same, last_same, optimal_same, infeasible_same, unbounded_same}
use Rattle.rob_counterpart.proofs.Positions.SameSystems.{systems_same}
use Rattle.rob_counterpart.proofs.Pairs.TabulateLemmas.{length-tabulate}
use Rattle.rob_counterpart.specs.Splitting.{difference}
use Rattle.rob_dualize.specs.Ending.{HasEnded, read_from}
use Rattle.rob_counterpart.specs.ReadNumbers.{covers_to, items_to}
use Rattle.rob_dualize.specs.Solving.{IsLastScenario, IsSolution}
use Rattle.rob_dualize.specs.Wholes.{IsFew}
use Rattle.rob_dualize.proofs.ReadingLemmas.{items_same}
use Rattle.rob_dualize.proofs.ShapeLemmas.{covers_inside, covers_nonzero, covers_ordered, items_inside, items_in_order, items_count}

-- ---- the ending of a program with the same numbers
module _ (Q : Program) (s : Solver) where
  pub optimal_end : HasEnded Q kind.Optimal s → OptimalEnding Q (own_of (system_of Q) (columns_of s.basis))
      (entries s) (point_of s) (dual_of s)
  optimal_end h =
      let o : IsOptimumOf h.program s = h.solved in
      subst (λ (own : Columns). OptimalEnding Q own (entries s) (point_of s) (dual_of s))
      (own_same h.program Q h.same (columns_of s.basis))
      (optimal_same h.program Q h.same (own_of (system_of h.program) (columns_of s.basis)) (entries s) (point_of s)
      (dual_of s)
      (record { basis = o.basis; ends = o.ends; point = o.basic; duals = o.scaled }))

  pub unbounded_end : HasEnded Q kind.Unbounded s
      → UnboundedEnding Q (own_of (system_of Q) (columns_of s.basis)) (entries s) (column_of s.state) (point_of s)
      (ray_of s)
  unbounded_end h =
      let o : IsRayOf h.program s = h.solved in
      subst (λ (own : Columns). UnboundedEnding Q own (entries s) (column_of s.state) (point_of s) (ray_of s))
      (own_same h.program Q h.same (columns_of s.basis))
      (unbounded_same h.program Q h.same (own_of (system_of h.program) (columns_of s.basis)) (entries s)
      (column_of s.state) (point_of s) (ray_of s)
      (record { basis = o.basis; ends = o.ends; point = o.basic; move = o.move }))

  pub entered : HasEnded Q kind.Unbounded s → Enters (system_of Q) (entries s) (column_of s.state)
  entered h =
      let o : IsRayOf h.program s = h.solved in subst (λ (S : System). Enters S (entries s) (column_of s.state))
      (systems_same h.program Q h.same) o.enters

  pub infeasible_end : (h : HasEnded Q kind.Infeasible s) → (rows : Matrix)
      × InfeasibleEnding Q (own_of (auxiliary_of Q) (columns_of s.basis)) rows
      × ((t : ℕ) → t < Q.m → of_int (weights_of s t) ≡ weight_of Q rows t)
  infeasible_end h =
      let o : HasWeightsFor h.program s = h.solved in
      let em : h.program.m ≡ Q.m = h.same.height in
      let en : h.program.n ≡ Q.n = h.same.width in (
        o.ending.rows,
        subst (λ (own : Columns). InfeasibleEnding Q own o.ending.rows)
            (own_auxiliary_same h.program Q h.same (columns_of s.basis))
            (infeasible_same h.program Q h.same (own_of (auxiliary_of h.program) (columns_of s.basis)) o.ending.rows
            (record { basis = o.ending.basis; ends = o.ending.ends })),
        λ t l. ap of_int (sym (o.ending.weights_are t (omega arith)) ∙ ap (λ i. o.ending.rows i (h.program.n + t)) em
            ∙ ap (λ n. o.ending.rows Q.m (n + t)) en),
      )

-- ---- shapes
at_least : (n k : ℕ) → n ≤ n * suc k
at_least zero k = omega arith
at_least (suc n) k = let h : n ≤ n * suc k = at_least n k in let e : suc n * suc k ≡ (n * suc k) + suc k =
    grind arith in omega arith

module _ (m : RobustModel) where
  covers_shape : (x : ℕ → Fraction) → AreCoversOf m (covers_to (robust_of m) (length (matrices m)) x)
  covers_shape x = record {
    each = each_both (λ (c : Cover). (c.form < length (matrices m)) × (c.set_row < (robust_of m).set_rows))
        (λ (c : Cover). c.amount ≢ 0ℚ) (IsCoverOf m)
        (λ c h z. record { form = subst (λ n. c.form < n) (length-matrices m) h.0; set_row = h.1; amount = z })
        (covers_to (robust_of m) (length (matrices m)) x)
        (covers_inside (robust_of m) x (length (matrices m))) (covers_nonzero (robust_of m) x (length (matrices m)));
    ordered = covers_ordered (robust_of m) x (length (matrices m));
  }

  few_forms : IsFew (counterpart m) → length (matrices m) < 2 ^ 32
  few_forms few =
      let h : length (matrices m) ≤ length (matrices m) * block (robust_of m) =
      at_least (length (matrices m)) ((robust_of m).set_columns + (robust_of m).set_columns) in
      omega arith

  items_shape : (y : ℕ → Fraction) → IsFew (counterpart m) → AreItemsOf m
      (items_to (robust_of m) (length (matrices m)) y)
  items_shape y few = record {
    each = each_map (λ (i : Item). (i.form < length (matrices m)) × (length i.vector ≡ (robust_of m).parameters))
        (IsItemOf m)
        (λ i h. record { form = subst (λ n. i.form < n) (length-matrices m) h.0; numbers = h.1 })
        (items_to (robust_of m) (length (matrices m)) y) (items_inside (robust_of m) y (length (matrices m)));
    ordered = items_in_order (robust_of m) y (length (matrices m));
    few = let h : length (items_to (robust_of m) (length (matrices m)) y) ≤ length (matrices m) =
        items_count (robust_of m) y (length (matrices m)) in
        let f : length (matrices m) < 2 ^ 32 = few_forms few in omega arith;
  }

-- ---- solutions
module _ (m : RobustModel) (model : IsModel m) (few : IsFew (counterpart m)) (inside : List Fraction)
    (admitted : Admits m inside) (last : IsLastScenario m inside) (s : Solver) where
  abbrev own : Columns
  own = own_of (system_of (counterpart m)) (columns_of s.basis)

  optimal_solution : HasEnded (counterpart m) kind.Optimal s
      → IsSolution m (optimal_read m inside (point_of s) (dual_of s))
  optimal_solution h =
      let o : IsOptimumOf h.program s = h.solved in
      let r = optimal_is_read m inside own (entries s) (point_of s) (dual_of s) (optimal_end (counterpart m) s h) in
      record {
        proves = read_optimal_proves m model own (entries s) (optimal_read m inside (point_of s) (dual_of s)) admitted
            (point_of s) (dual_of s) r;
        shape = record {
          inside = admitted.numbers;
          parts = record {
            plan = length-tabulate (column_count m) (difference (point_of s));
            step = refl;
            step_bound = refl;
            holds = refl;
          };
          covers = covers_shape m (point_of s);
          holds = no_covers m;
          items = items_shape m (dual_of s) few;
        };
        read = record {
          basis = columns_of s.basis;
          rows = entries s;
          last = last_same h.program (counterpart m) h.same (columns_of s.basis) o.last;
          read = (point_of s, dual_of s, r);
        };
        inside = last;
      }

  unbounded_solution : HasEnded (counterpart m) kind.Unbounded s
      → IsSolution m (unbounded_read m inside (point_of s) (ray_of s))
  unbounded_solution h =
      let o : IsRayOf h.program s = h.solved in
      let r = unbounded_is_read m inside own (entries s) (column_of s.state) (point_of s) (ray_of s)
      (unbounded_end (counterpart m) s h) in
      record {
        proves = read_unbounded_proves m model own (entries s) (unbounded_read m inside (point_of s) (ray_of s))
            admitted (column_of s.state) (point_of s) (ray_of s) r;
        shape = record {
          inside = admitted.numbers;
          parts = record {
            plan = length-tabulate (column_count m) (difference (point_of s));
            step = length-tabulate (column_count m) (difference (ray_of s));
            items = refl;
          };
          covers = covers_shape m (point_of s);
          holds = covers_shape m (ray_of s);
          items = no_items m;
        };
        read = record {
          basis = columns_of s.basis;
          rows = entries s;
          last = last_same h.program (counterpart m) h.same (columns_of s.basis) o.last;
          read = (column_of s.state, point_of s, ray_of s, entered (counterpart m) s h, r);
        };
        inside = last;
      }

  abbrev auxiliary_own : Columns
  auxiliary_own = own_of (auxiliary_of (counterpart m)) (columns_of s.basis)

  infeasible_at : HasEnded (counterpart m) kind.Infeasible s → (rows : Matrix)
      → InfeasibleEnding (counterpart m) auxiliary_own rows → IsSolution m (infeasible_read m inside rows)
  infeasible_at h rows en =
      let o : HasWeightsFor h.program s = h.solved in
      let r = infeasible_is_read m inside auxiliary_own rows en in
      record {
        proves = read_infeasible_proves m model auxiliary_own rows (infeasible_read m inside rows) admitted r;
        shape = record {
          inside = admitted.numbers;
          parts = record {
            value = refl;
            scale = refl;
            plan = refl;
            step = refl;
            step_bound = refl;
            covers = refl;
            holds = refl;
          };
          covers = no_covers m;
          holds = no_covers m;
          items = items_shape m (weight_of (counterpart m) rows) few;
        };
        read = record {
          basis = columns_of s.basis;
          rows = rows;
          last = last_same h.program (counterpart m) h.same (columns_of s.basis) o.last;
          read = r;
        };
        inside = last;
      }

  abbrev with_items : List Item → Certificate
  with_items items = record {
    status = infeasible;
    value = 0ℚ;
    scale = 1ℚ;
    inside = inside;
    plan = [];
    step = [];
    step_bound = 0ℚ;
    covers = [];
    holds = [];
    items = items;
  }

  infeasible_solution : HasEnded (counterpart m) kind.Infeasible s
      → IsSolution m (read_from (robust_of m) inside kind.Infeasible s)
  infeasible_solution h =
      let en : (rows : Matrix) × InfeasibleEnding (counterpart m) auxiliary_own rows
      × ((t : ℕ) → t < (counterpart m).m → of_int (weights_of s t) ≡ weight_of (counterpart m) rows t) =
      infeasible_end (counterpart m) s h in
      let e : items_to (robust_of m) (length (matrices m)) (λ i. of_int (weights_of s i))
      ≡ items_to (robust_of m) (length (matrices m)) (weight_of (counterpart m) en.0) =
      items_same (robust_of m) (λ i. of_int (weights_of s i)) (weight_of (counterpart m) en.0) (length (matrices m))
      (omega arith) (omega arith) en.2 in
      subst (λ (is : List Item). IsSolution m (with_items is)) (sym e) (infeasible_at h en.0 en.1)

  pub solution : (k : LpKind) → HasEnded (counterpart m) k s → IsSolution m (read_from (robust_of m) inside k s)
  solution kind.Optimal h = optimal_solution h
  solution kind.Infeasible h = infeasible_solution h
  solution kind.Unbounded h = unbounded_solution h
