-- The certificates of the three endings are read off where the run is finished, and have their shape.
use Rattle.std.proofs.Common.{◌≡◌, ◌≢◌, ℕ, ◌<◌, ◌≤◌, ◌^◌, List, length, refl, sym, ap, ◌∙◌, subst, arith}
use Rattle.rob_algebra.specs.Fraction.{Fraction, ◌*ℚ◌}
use Rattle.rob_linear.specs.Vectors.{Matrix}
use Rattle.rob_meaning.specs.Certificates.{Cover, Item}
use Rattle.rob_meaning.specs.Forms.{matrices}
use Rattle.rob_meaning.specs.Places.{0ℚ, Each}
use Rattle.rob_meaning.specs.RobustModel.{RobustModel}
use Rattle.rob_meaning.specs.SetRows.{set_rows}
use Rattle.rob_meaning.specs.UncertaintySet.{Admits}
use Rattle.rob_meaning.specs.Vectors.{scale}
use Rattle.rob_meaning.proofs.Lists.EachLemmas.{each_map}
use Rattle.rob_meaning.proofs.Tables.MatrixLemmas.{length-matrices}
use Rattle.rob_cert.specs.Shape.{IsCoverOf, IsItemOf, AreCoversOf, AreItemsOf}
use Rattle.rob_cert.specs.declared.trace.Round.{Round as Traced}
use Rattle.rob_cert.proofs.Writing.ShapeLemmas.{no_covers, no_items}
use Rattle.rob_counterpart.specs.ReadCertificates.{plan_read, bound_read, weight_of}
use Rattle.rob_dualize.specs.Solving.{IsLastScenario}
use Rattle.rob_runs.specs.Cuts.{Cut, IsCut, master_over}
use Rattle.rob_runs.specs.Readings.{AreKept, GivesAmounts, covers_of_amounts, run_items, cleared_by}
use Rattle.rob_runs.specs.Runs.{plan_at, direction_at, MasterIsOptimal, MasterIsUnbounded, MasterIsInfeasible}
use Rattle.rob_runs.proofs.Proving.CoverLists.{covers_give_amounts}
use Rattle.rob_runs.proofs.Proving.RunCertificates.{length-plan}
use Rattle.rob_runs.proofs.Proving.ShapeLemmas.{covers_in, covers_in_order, items_in, items_in_order, items_count}
use Rattle.rob_algebra.specs.Lists.{length-scale}
use Rattle.rob_algebra.specs.FractionLaws.{ℚ_ring}
use Rattle.rob_dualize.specs.Ending.{infeasible_with}
use Rattle.rob_cuts.specs.Certificates.{CoveredPlan, optimal_with, unbounded_with, items_told}
use Rattle.rob_cuts.specs.Rounds.{cuts_told, TellsRun}
use Rattle.rob_cuts.specs.Outcomes.{IsEnd}
use Rattle.rob_cuts.proofs.RunLemmas.{are_cuts_told, items_are, length-cuts}

module _ (m : RobustModel) where
  -- ---- shapes
  covers_shape : (amounts : ℕ → List Fraction) → AreCoversOf m (covers_of_amounts m amounts)
  covers_shape amounts = record {
    each = each_map (λ (c : Cover). (c.form < length (matrices m)) × (c.set_row < length (set_rows m))
        × (c.amount ≢ 0ℚ)) (IsCoverOf m)
        (λ c h. record { form = subst (λ n. c.form < n) (length-matrices m) h.0; set_row = h.1; amount = h.2 })
        (covers_of_amounts m amounts) (covers_in m amounts);
    ordered = covers_in_order m amounts;
  }

  items_shape : (cuts : List Cut) (weight : ℕ → Fraction) → Each (IsCut m) cuts → length cuts < 2 ^ 32
      → AreItemsOf m (run_items m cuts weight)
  items_shape cuts weight h few = record {
    each = each_map (λ (i : Item). (i.form < length (matrices m)) × (length i.vector ≡ length m.parameters))
        (IsItemOf m)
        (λ i k. record { form = subst (λ n. i.form < n) (length-matrices m) k.0; numbers = k.1 })
        (run_items m cuts weight) (items_in m cuts weight h);
    ordered = items_in_order m cuts weight;
    few = let l : length (run_items m cuts weight) ≤ length cuts = items_count m cuts weight in omega arith;
  }

  gives : (covers : List Cover) (amounts : ℕ → List Fraction) → covers ≡ covers_of_amounts m amounts
      → GivesAmounts m amounts covers
  gives covers amounts e = subst (GivesAmounts m amounts) (sym e) (covers_give_amounts m amounts)

  -- a plan that is covered where the point x is
  pub record IsCoveredAt (x : ℕ → Fraction) (amounts : ℕ → List Fraction) (p : CoveredPlan) : Type 0 where
    pub kept : AreKept m (plan_at m x) amounts
    pub plan : p.plan ≡ plan_read m x
    pub bound : p.bound ≡ bound_read m x
    pub scale_is : p.scale ≡ cleared_by (plan_at m x)
    pub covers : p.covers ≡ covers_of_amounts m amounts

  module _ (rounds : List Traced) (t : TellsRun m rounds) (few : length rounds < 2 ^ 32)
      (inside : List Fraction) (admitted : Admits m inside) (last : IsLastScenario m inside) where
    few_cuts : length (cuts_told rounds) < 2 ^ 32
    few_cuts = let e : length (cuts_told rounds) ≡ length rounds = length-cuts rounds in omega arith

    -- ---- optimal
    optimal_at : (basis : List ℕ) (x y : ℕ → Fraction) (amounts : ℕ → List Fraction) (p : CoveredPlan)
        → MasterIsOptimal m (cuts_told rounds) basis x y
        → IsCoveredAt x amounts p → IsEnd m (cuts_told rounds)
        (optimal_with inside p (run_items m (cuts_told rounds) y))
    optimal_at basis x y amounts p o k = record {
      basis = basis;
      read = record {
        x = x;
        y = y;
        master = o;
        amounts = amounts;
        kept = k.kept;
        status = refl;
        scale_is = k.scale_is;
        plan = k.plan;
        value = k.bound;
        covers = gives p.covers amounts k.covers;
        items = refl;
      };
      shape = record {
        inside = admitted.numbers;
        parts = record { plan = ap length k.plan ∙ length-plan m x; step = refl; step_bound = refl; holds = refl };
        covers = subst (AreCoversOf m) (sym k.covers) (covers_shape amounts);
        holds = no_covers m;
        items = items_shape (cuts_told rounds) y (are_cuts_told m rounds t) few_cuts;
      };
      admitted = admitted;
      inside = last;
    }

    pub optimal_end_is : (basis : List ℕ) (x y : ℕ → Fraction) (amounts : ℕ → List Fraction) (p : CoveredPlan)
        → MasterIsOptimal m (cuts_told rounds) basis x y → IsCoveredAt x amounts p
        → IsEnd m (cuts_told rounds) (optimal_with inside p (items_told (length (matrices m)) rounds y))
    optimal_end_is basis x y amounts p o k =
        subst (λ (items : List Item). IsEnd m (cuts_told rounds) (optimal_with inside p items))
        (sym (items_are m rounds t y y (λ q l. refl))) (optimal_at basis x y amounts p o k)

    -- ---- infeasible
    pub infeasible_end_is : (basis : List ℕ) (rows : Matrix) (weight : ℕ → Fraction)
        → MasterIsInfeasible m (cuts_told rounds) basis rows
        → ((q : ℕ) → q < length rounds → weight q ≡ weight_of (master_over m (cuts_told rounds)) rows q)
        → IsEnd m (cuts_told rounds) (infeasible_with inside (items_told (length (matrices m)) rounds weight))
    infeasible_end_is basis rows weight o h =
        subst (λ (items : List Item). IsEnd m (cuts_told rounds) (infeasible_with inside items))
        (sym (items_are m rounds t weight (weight_of (master_over m (cuts_told rounds)) rows) h))
        (record {
          basis = basis;
          read = record { rows = rows; master = o; status = refl; scale_is = refl; items = refl };
          shape = record {
            inside = admitted.numbers;
            parts = record {
              value = refl;
              scale = refl;
              plan = refl;
              step = refl;
              step_bound = refl;
              covers = refl;
              holds = refl;
            };
            covers = no_covers m;
            holds = no_covers m;
            items = items_shape (cuts_told rounds) (weight_of (master_over m (cuts_told rounds)) rows)
                (are_cuts_told m rounds t) few_cuts;
          };
          admitted = admitted;
          inside = last;
        })

    -- ---- unbounded
    pub unbounded_end_is : (basis : List ℕ) (column : ℕ) (x r : ℕ → Fraction)
        (amounts step_amounts : ℕ → List Fraction) (p : CoveredPlan)
        (step : List Fraction) (step_bound : Fraction) (holds : List Cover)
        → MasterIsUnbounded m (cuts_told rounds) basis column x r → IsCoveredAt x amounts p
        → AreKept m (direction_at m r) step_amounts
        → holds ≡ covers_of_amounts m step_amounts → step ≡ scale (cleared_by (direction_at m r)) (plan_read m r)
        → step_bound ≡ cleared_by (direction_at m r) *ℚ bound_read m r
        → IsEnd m (cuts_told rounds) (unbounded_with inside p step step_bound holds)
    unbounded_end_is basis column x r amounts step_amounts p step step_bound holds o k held hh hs hb = record {
      basis = basis;
      read = record {
        column = column;
        x = x;
        r = r;
        master = o;
        amounts = amounts;
        kept = k.kept;
        step_amounts = step_amounts;
        step_kept = held;
        status = refl;
        scale_is = k.scale_is;
        plan = k.plan;
        value = k.bound;
        covers = gives p.covers amounts k.covers;
        step = hs;
        step_bound = hb;
        holds = gives holds step_amounts hh;
        items = refl;
      };
      shape = record {
        inside = admitted.numbers;
        parts = record {
          plan = ap length k.plan ∙ length-plan m x;
          step = ap length hs ∙ length-scale ℚ_ring (cleared_by (direction_at m r)) (plan_read m r) ∙ length-plan m r;
          items = refl;
        };
        covers = subst (AreCoversOf m) (sym k.covers) (covers_shape amounts);
        holds = subst (AreCoversOf m) (sym hh) (covers_shape step_amounts);
        items = no_items m;
      };
      admitted = admitted;
      inside = last;
    }
