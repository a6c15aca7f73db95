-- The master's program, as it is listed, is the master over the cuts.
use Rattle.std.proofs.Common.{◌≡◌, ℕ, zero, suc, ◌+◌, ◌/◌, ◌<◌, ◌≤◌, List, [], ◌∷◌, ◌++◌, map, length, refl, sym, ap, ap₂, ◌∙◌, subst, arith, cond}
use Rattle.std.proofs.lemmas.List.{length-map, map-append}
use Rattle.std.proofs.lemmas.List.Elements.{All-append}
use Rattle.std.specs.Prelude.{slice_index_or, nat_eq, Result, Ok, Err, IfOk, MatchResult}
use lib.IntN.{ℤ, pos, nat_abs, neg_ℤ, ◌*ℤ◌}
use Rattle.rob_linear.specs.Vectors.{at, sum_to}
use Rattle.rob_meaning.specs.Forms.{matrix_at, form_rows}
use Rattle.rob_meaning.specs.RobustModel.{RobustModel, Sense}
use Rattle.rob_elab.specs.Forms.{IsForms}
use Rattle.rob_elab.specs.declared.forms.Forms.{Forms}
use Rattle.rob_rows.specs.declared.program.Lp.{Lp}
use Rattle.rob_rows.specs.LinearPrograms.{program_of, IsShaped, HasNumbersWithin}
use Rattle.rob_rows.specs.PrimitiveParts.{IsWithin}
use Rattle.rob_cert.specs.declared.ending.Stop.{Stop}
use Rattle.rob_cert.specs.declared.ending.Stop.TheVariants.{Memory}
use Rattle.rob_number.specs.declared.memory.Memory.{Memory as NoMemory}
use Rattle.rob_counterpart.specs.Counterpart.{cell, sign_of, robust_of}
use Rattle.rob_counterpart.specs.Master.{cut_entry as entry_of_cut}
use Rattle.rob_counterpart.specs.Reform.{pairs, tau_cost}
use Rattle.rob_counterpart.specs.SamePrograms.{AreSame}
use Rattle.rob_counterpart.specs.Splitting.{signed_entry}
use Rattle.rob_counterpart.proofs.Pairs.TabulateLemmas.{length-tabulate}
use Rattle.rob_dualize.proofs.TabulateLemmas.{item-tabulate}
use Rattle.rob_runs.specs.Cuts.{Cut, cut_of_number, cuts_of, master_over}
use Rattle.rob_runs.specs.Spots.{cut_term}
use Rattle.rob_runs.proofs.Clearing.SumLemmas.{cut_is_master_entry}
use Rattle.rob_dualize.specs.Wholes.{cost_of}
use Rattle.rob_cuts.specs.Master.{cut_number, plan_pairs, cut_entry, cut_row, cut_right, IsMasterList, AddsCut}

-- the item at a place of a list of images
item-map : {A B : Type 0} (f : A → B) (xs : List A) (k : ℕ) (d : B) (e : A) → k < length xs
    → slice_index_or (map f xs) k d ≡ f (slice_index_or xs k e)
item-map f [] k d e l = absurd (omega arith)
item-map f (x ∷ xs) zero d e l = refl
item-map f (x ∷ xs) (suc k) d e l = item-map f xs k d e (omega arith)

-- ---- a cut more
pub cut_added : (forms : Forms) (cuts : List Cut) (c : Cut) (before now : Lp)
    → IsMasterList forms cuts before → AddsCut forms c before now → IsMasterList forms (cuts ++ c ∷ []) now
cut_added forms cuts c before now h a = record {
  a = a.a ∙ ap (λ (rows : List (List ℤ)). rows ++ cut_row forms c ∷ []) h.a
      ∙ sym (map-append (cut_row forms) cuts (c ∷ []));
  b = a.b ∙ ap (λ (rights : List ℤ). rights ++ cut_right forms c ∷ []) h.b
      ∙ sym (map-append (cut_right forms) cuts (c ∷ []));
  c = a.c ∙ h.c;
}

-- ---- the shape
module _ {forms : Forms} {cuts : List Cut} {lp : Lp} (h : IsMasterList forms cuts lp) where
  pub rights_count : length lp.b ≡ length cuts
  rights_count = ap length h.b ∙ length-map cuts (cut_right forms)

  pub costs_count : length lp.c ≡ plan_pairs forms
  costs_count = ap length h.c ∙ length-tabulate (plan_pairs forms) (cost_of forms)

  rows_count : length lp.a ≡ length cuts
  rows_count = ap length h.a ∙ length-map cuts (cut_row forms)

  row_is : (q : ℕ) (d : List ℤ) → q < length cuts → slice_index_or lp.a q d ≡ cut_row forms (cut_of_number cuts q)
  row_is q d l =
      ap (λ (rows : List (List ℤ)). slice_index_or rows q d) h.a
      ∙ item-map (cut_row forms) cuts q d (record { form = 0; base = pos 0; vector = [] }) l

  pub master_shaped : IsShaped lp
  master_shaped = record {
    rows = rows_count ∙ sym rights_count;
    columns = λ q d l. ap length (row_is q d (let e : length lp.a ≡ length cuts = rows_count in omega arith))
        ∙ length-tabulate (plan_pairs forms) (cut_entry forms (cut_of_number cuts q)) ∙ sym costs_count;
  }

  -- ---- the program
  module _ {m : RobustModel} (f : IsForms m forms) where
    number_same : (c : Cut) (j : ℕ) → cut_number forms c j ≡ sum_to (form_rows m) (cut_term m c j)
    number_same c j =
        ap₂ (λ (all : List (List (List ℤ))) (n : ℕ). sum_to (suc n)
        (λ k. cell (matrix_at all c.form) k j *ℤ at (c.base ∷ c.vector) k))
        f.matrices f.params

    number_is_entry : (q j : ℕ) → cut_number forms (cut_of_number cuts q) j
        ≡ entry_of_cut (robust_of m) (cuts_of cuts) q j
    number_is_entry q j = number_same (cut_of_number cuts q) j ∙ cut_is_master_entry m cuts q j

    pairs_same : plan_pairs forms ≡ pairs (robust_of m)
    pairs_same = ap (λ (n : ℕ). suc n + suc n) f.columns

    cost_same : (k : ℕ) → cost_of forms k ≡ tau_cost (robust_of m) k
    cost_same k =
        ap₂ (λ (n : ℕ) (s : Sense). cond (nat_eq (k / 2) n) (signed_entry k (sign_of s)) (pos 0)) f.columns f.sense

    pub master_same : AreSame (program_of lp) (master_over m cuts)
    master_same =
        let rights : length lp.b ≡ length cuts = rights_count in
        let costs : length lp.c ≡ plan_pairs forms = costs_count in
        record {
          height = rights_count;
          width = costs_count ∙ pairs_same;
          rows = λ q k ql kl.
              ap (λ (row : List ℤ). at row k) (row_is q [] (omega arith))
              ∙ item-tabulate (plan_pairs forms) (cut_entry forms (cut_of_number cuts q)) k (pos 0) (omega arith)
              ∙ ap (signed_entry k) (number_is_entry q (suc (k / 2)));
          rights = λ q ql.
              ap (λ (xs : List ℤ). at xs q) h.b
              ∙ item-map (cut_right forms) cuts q (pos 0) (record { form = 0; base = pos 0; vector = [] }) (omega arith)
              ∙ ap neg_ℤ (number_is_entry q 0);
          costs = λ k kl.
              ap (λ (xs : List ℤ). at xs k) h.c
              ∙ item-tabulate (plan_pairs forms) (cost_of forms) k (pos 0) (omega arith)
              ∙ cost_same k;
        }

-- ---- sizes
one_within : (limit : ℕ) (v : ℤ) → nat_abs v ≤ limit → IsWithin limit (v ∷ [])
one_within limit v h zero d l = h
one_within limit v h (suc k) d l = absurd (omega arith)

-- a row more
pub within_more : (limit : ℕ) (before now : Lp) (row : List ℤ) (right : ℤ) → now.a ≡ before.a ++ row ∷ []
    → now.b ≡ before.b ++ right ∷ []
    → now.c ≡ before.c → IsWithin limit row → nat_abs right ≤ limit → HasNumbersWithin limit before
    → HasNumbersWithin limit now
within_more limit before now row right ea eb ec hr hb h = record {
  a = subst (λ (rows : List (List ℤ)). (k : ℕ) (d : List ℤ) → k < length rows
      → IsWithin limit (slice_index_or rows k d)) (sym ea)
      (All-append (λ (r : List ℤ). IsWithin limit r) before.a (row ∷ []) h.a (one_row row hr));
  b = subst (IsWithin limit) (sym eb) (All-append (λ (v : ℤ). nat_abs v ≤ limit) before.b (right ∷ []) h.b
      (one_within limit right hb));
  c = subst (IsWithin limit) (sym ec) h.c;
}
  where
    one_row : (r : List ℤ) → IsWithin limit r → (k : ℕ) (d : List ℤ) → k < 1
        → IsWithin limit (slice_index_or (r ∷ []) k d)
    one_row r hr zero d l = hr
    one_row r hr (suc k) d l = absurd (omega arith)

-- a row that was appended, or not for want of memory
pub append_within : (limit : ℕ) (before now : Lp) (row : List ℤ) (right : ℤ) (pushed : Result (Unit {0}) NoMemory)
    → IfOk pushed (λ _. now.a ≡ before.a ++ row ∷ []) → IfOk pushed (λ _. now.b ≡ before.b ++ right ∷ [])
    → now.c ≡ before.c → IsWithin limit row → nat_abs right ≤ limit
    → (result : Result (Unit {0}) Stop) → MatchResult result (λ x. pushed ≡ Ok x) (λ stop. stop ≡ Memory)
    → IfOk result (λ _. HasNumbersWithin limit before → HasNumbersWithin limit now)
append_within limit before now row right pushed ea eb ec hr hb (Ok x) is =
    within_more limit before now row right
    (subst (λ (r : Result (Unit {0}) NoMemory). IfOk r (λ _. now.a ≡ before.a ++ row ∷ [])) is ea)
    (subst (λ (r : Result (Unit {0}) NoMemory). IfOk r (λ _. now.b ≡ before.b ++ right ∷ [])) is eb) ec hr hb
append_within limit before now row right pushed ea eb ec hr hb (Err stop) is = tt
