-- What `solve` and `prove` answer where the model is optimal, and `cells` where it is so over pieces.
use Rattle.std.proofs.Common.{◌≡◌, ◌⊎◌, List, inl, inr, refl}
use Rattle.std.specs.Prelude.{ℕ}
use Rattle.rob_algebra.specs.Fraction.{Fraction}
use Rattle.rob_dualize.specs.Models.{IsWideIn}
use Rattle.rob_meaning.proofs.Proving.StatusLemmas.{optimal_not_infeasible, optimal_not_unbounded}
use Rattle.rob_meaning.specs.Certificates.{optimal}
use Rattle.rob_meaning.specs.Proves.{HasStatus}
use Rattle.rob_meaning.specs.RobustModel.{RobustModel}
use Rattle.rob_meaning.specs.UncertaintySet.{Admits}
use Rattle.rob_model.specs.declared.place.Spot.{Spot}
use Rattle.rob_pieces.proofs.PieceLemmas.{piece_not_infeasible, piece_not_unbounded}
use Rattle.rob_pieces.specs.Cuts.{Cut}
use Rattle.rob_pieces.specs.Pieces.{IsPieceOptimal}
use Rattle.rob_pieces.specs.SplitModel.{split_model}
use Rattle.rob_top.specs.Endings.{EndsAs, IsSolveAnswer}
use Rattle.rob_top.specs.Routes.{IsWideOnWay}
use Rattle.rob_top.specs.Split.{EachCellAdmits}
use Rattle.rob_top.specs.SplitEnds.{IsCellsAnswer}
use Rattle.rob_commands.specs.declared.ended.Ended.{Ended}
use Rattle.rob_commands.specs.declared.ended.Ended.TheVariants.{Optimal, Infeasible, Unbounded, Printed, Accepted, Rejected, Words, Missing, TooLong, Model, EmptySet, TooWide, WideNode, WideBudget, Cert, Scenarios, Whole, Sweep, Cells, NoRow, Tree, TreeRejected, ReadFault, WriteFault, Memory}
use Rattle.rob_words.specs.declared.route.Route.{Route}

module _ (way : Route) (limit : ℕ) (m : RobustModel) where
  -- the status, or a wide number on the way of the route
  abbrev pub IsSolvedOrWide : Ended → Type 0
  IsSolvedOrWide result =
      EndsAs Optimal result ⊎ ((spot : Spot) × IsWideOnWay way limit m spot × (result ≡ TooWide spot))

  pub optimal_or_wide : (v : Fraction) (u : List Fraction) → HasStatus m optimal v → Admits m u → (result : Ended)
      → IsSolveAnswer way limit m result → IsSolvedOrWide result
  optimal_or_wide v u is admitted Optimal h = inl (inl refl)
  optimal_or_wide v u is admitted Infeasible h = absurd (optimal_not_infeasible m v is h.1)
  optimal_or_wide v u is admitted Unbounded h = absurd (optimal_not_unbounded m v is h.1)
  optimal_or_wide v u is admitted (EmptySet weights) h = absurd (h u admitted)
  optimal_or_wide v u is admitted (TooWide spot) h = inr (spot, h, refl)
  optimal_or_wide v u is admitted (WideNode path spot) h = inl (inr h)
  optimal_or_wide v u is admitted (WideBudget number spot) h = inl (inr h)
  optimal_or_wide v u is admitted (Sweep rule) h = inl (inr h)
  optimal_or_wide v u is admitted (Cells rule) h = inl (inr h)
  optimal_or_wide v u is admitted Printed h = inl (inr h)
  optimal_or_wide v u is admitted Accepted h = inl (inr h)
  optimal_or_wide v u is admitted (Rejected place) h = inl (inr h)
  optimal_or_wide v u is admitted (TreeRejected number fault) h = inl (inr h)
  optimal_or_wide v u is admitted Words h = inl (inr h)
  optimal_or_wide v u is admitted Missing h = inl (inr h)
  optimal_or_wide v u is admitted TooLong h = inl (inr h)
  optimal_or_wide v u is admitted (Model rule place) h = inl (inr h)
  optimal_or_wide v u is admitted (Cert rule place) h = inl (inr h)
  optimal_or_wide v u is admitted (Scenarios rule place) h = inl (inr h)
  optimal_or_wide v u is admitted (Whole rule) h = inl (inr h)
  optimal_or_wide v u is admitted (Tree rule place) h = inl (inr h)
  optimal_or_wide v u is admitted NoRow h = inl (inr h)
  optimal_or_wide v u is admitted ReadFault h = inl (inr h)
  optimal_or_wide v u is admitted WriteFault h = inl (inr h)
  optimal_or_wide v u is admitted Memory h = inl (inr h)

module _ (limit : ℕ) (m : RobustModel) (cuts : List Cut) where
  -- the status, or a wide number of the split model
  abbrev pub IsPiecedOrWide : Ended → Type 0
  IsPiecedOrWide result =
      EndsAs Optimal result ⊎ ((spot : Spot) × IsWideIn limit (split_model m cuts) spot × (result ≡ TooWide spot))

  pub pieced_or_wide : (v : Fraction) → IsPieceOptimal m cuts v → EachCellAdmits m cuts → (result : Ended)
      → IsCellsAnswer limit m cuts result → IsPiecedOrWide result
  pieced_or_wide v is each Optimal h = inl (inl refl)
  pieced_or_wide v is each Infeasible h = absurd (piece_not_infeasible m cuts v is h.1)
  pieced_or_wide v is each Unbounded h = absurd (piece_not_unbounded m cuts v is h.1)
  pieced_or_wide v is each (EmptySet weights) h = absurd (h each)
  pieced_or_wide v is each (TooWide spot) h = inr (spot, h, refl)
  pieced_or_wide v is each (WideNode path spot) h = inl (inr h)
  pieced_or_wide v is each (WideBudget number spot) h = inl (inr h)
  pieced_or_wide v is each (Sweep rule) h = inl (inr h)
  pieced_or_wide v is each (Cells rule) h = inl (inr h)
  pieced_or_wide v is each Printed h = inl (inr h)
  pieced_or_wide v is each Accepted h = inl (inr h)
  pieced_or_wide v is each (Rejected place) h = inl (inr h)
  pieced_or_wide v is each (TreeRejected number fault) h = inl (inr h)
  pieced_or_wide v is each Words h = inl (inr h)
  pieced_or_wide v is each Missing h = inl (inr h)
  pieced_or_wide v is each TooLong h = inl (inr h)
  pieced_or_wide v is each (Model rule place) h = inl (inr h)
  pieced_or_wide v is each (Cert rule place) h = inl (inr h)
  pieced_or_wide v is each (Scenarios rule place) h = inl (inr h)
  pieced_or_wide v is each (Whole rule) h = inl (inr h)
  pieced_or_wide v is each (Tree rule place) h = inl (inr h)
  pieced_or_wide v is each NoRow h = inl (inr h)
  pieced_or_wide v is each ReadFault h = inl (inr h)
  pieced_or_wide v is each WriteFault h = inl (inr h)
  pieced_or_wide v is each Memory h = inl (inr h)
