-- Lists of cuts by number, and as the cuts of a master.
use Rattle.std.proofs.Common.{◌≡◌, ◌≢◌, ℕ, zero, suc, ◌<◌, List, [], ◌∷◌, ◌++◌, length, map, refl, sym, subst, arith}
use Rattle.rob_algebra.specs.Fraction.{Fraction, of_int, ◌≤ℚ◌}
use Rattle.rob_meaning.specs.Places.{0ℚ, Each}
use Rattle.rob_meaning.specs.Forms.{form_at}
use Rattle.rob_meaning.specs.Named.{AreDistinct}
use Rattle.rob_meaning.specs.RobustModel.{RobustModel}
use Rattle.rob_meaning.specs.SetConditions.{IsTaken}
use Rattle.rob_counterpart.specs.MasterItems.{AreCuts, cut_vector}
use Rattle.rob_counterpart.proofs.Pairs.TabulateLemmas.{row-tabulate}
use Rattle.rob_runs.specs.Cuts.{Cut, IsCut, cut_at, cut_of_number, cuts_of}

-- what each cut has, the cut of each number has
pub each_numbered : (P : Cut → Type 0) (cuts : List Cut) → Each P cuts → (q : ℕ) → q < length cuts
    → P (cut_of_number cuts q)
each_numbered P [] h q l = absurd (omega arith)
each_numbered P (c ∷ cuts) h zero l = h.0
each_numbered P (c ∷ cuts) h (suc q) l = each_numbered P cuts h.1 q (omega arith)

pub numbered_each : (P : Cut → Type 0) (cuts : List Cut)
    → ((q : ℕ) → q < length cuts → P (cut_of_number cuts q)) → Each P cuts
numbered_each P [] h = tt
numbered_each P (c ∷ cuts) h = (h zero (omega arith), numbered_each P cuts (λ q l. h (suc q) (omega arith)))

-- one cut more
pub each_more : (P : Cut → Type 0) (cuts : List Cut) (c : Cut) → Each P cuts → P c → Each P (cuts ++ c ∷ [])
each_more P [] c h p = (p, tt)
each_more P (d ∷ cuts) c h p = (h.0, each_more P cuts c h.1 p)

pub distinct_more : (cuts : List Cut) (c : Cut) → AreDistinct cuts → Each (λ d. d ≢ c) cuts
    → AreDistinct (cuts ++ c ∷ [])
distinct_more [] c h n = (tt, tt)
distinct_more (d ∷ cuts) c h n = (each_more (λ e. d ≢ e) cuts c h.0 n.0, distinct_more cuts c h.1 n.1)

-- the cuts so far keep their numbers, and the new one has the next
pub numbered_before : (cuts : List Cut) (c : Cut) (q : ℕ) → q < length cuts
    → cut_of_number (cuts ++ c ∷ []) q ≡ cut_of_number cuts q
numbered_before [] c q l = absurd (omega arith)
numbered_before (d ∷ cuts) c zero l = refl
numbered_before (d ∷ cuts) c (suc q) l = numbered_before cuts c q (omega arith)

pub numbered_last : (cuts : List Cut) (c : Cut) → cut_of_number (cuts ++ c ∷ []) (length cuts) ≡ c
numbered_last [] c = refl
numbered_last (d ∷ cuts) c = numbered_last cuts c

module _ (m : RobustModel) where
  -- a cut's vector, as the master reads it
  pub vector_numbered : (cuts : List Cut) (q : ℕ) → IsCut m (cut_of_number cuts q)
      → map of_int (cut_of_number cuts q).vector ≡ cut_vector m (cuts_of cuts) q
  vector_numbered cuts q c = row-tabulate (cut_of_number cuts q).vector (length m.parameters) c.numbers

  -- the cuts are those of a master
  pub are_cuts : (cuts : List Cut) → Each (IsCut m) cuts → AreCuts m (cuts_of cuts)
  are_cuts cuts h = record {
    forms = λ q l. (each_numbered (IsCut m) cuts h q l).form_in;
    taken = λ q l.
        let c : IsCut m (cut_of_number cuts q) = each_numbered (IsCut m) cuts h q l in
        subst (λ (v : List Fraction). IsTaken m (of_int (cut_of_number cuts q).base) v)
        (vector_numbered cuts q c) c.taken;
  }

  -- what a master keeps, in terms of its cuts
  pub kept_each : (cuts : List Cut) (z : List Fraction) → Each (IsCut m) cuts
      → ((q : ℕ) → q < length cuts
      → form_at m (cut_of_number cuts q).form (of_int (cut_of_number cuts q).base) (cut_vector m (cuts_of cuts) q) z
      ≤ℚ 0ℚ)
      → Each (λ c. cut_at m c z ≤ℚ 0ℚ) cuts
  kept_each cuts z h k =
      numbered_each (λ c. cut_at m c z ≤ℚ 0ℚ) cuts (λ q l.
      let c : IsCut m (cut_of_number cuts q) = each_numbered (IsCut m) cuts h q l in
      subst (λ (v : List Fraction). form_at m (cut_of_number cuts q).form (of_int (cut_of_number cuts q).base) v z
      ≤ℚ 0ℚ) (sym (vector_numbered cuts q c)) (k q l))
