-- The numbers of a certificate that a program holds fit.
use Rattle.std.proofs.Common.{ℕ, suc, List, [], ◌∷◌, ◌++◌, map, Bool, true, false}
use Rattle.std.specs.Prelude.{if◌then◌else◌, Result, Ok, Err, IfOk}
use Rattle.rob_algebra.specs.Fraction.{Fraction}
use Rattle.rob_algebra.specs.FractionOrder.{eq_ℚ}
use Rattle.rob_algebra.specs.Width.{Fits}
use Rattle.rob_meaning.proofs.Lists.EachLemmas.{each_append}
use Rattle.rob_meaning.specs.Certificates as meaning
use Rattle.rob_meaning.specs.Places.{0ℚ, Each}
use Rattle.rob_meaning.specs.RobustModel.{RobustModel}
use Rattle.rob_cert.specs.Apart.{FitsLines}
use Rattle.rob_cert.specs.declared.certificate.Cert.{Cert}
use Rattle.rob_cert.specs.declared.certificate.Cover.{Cover}
use Rattle.rob_cert.specs.declared.certificate.Item.{Item}
use Rattle.rob_cert.specs.declared.kind.Multipliers.{Multipliers}
use Rattle.rob_cert.specs.declared.kind.Multipliers.TheVariants.{Covers, Holds}
use Rattle.rob_cert.specs.declared.kind.Vector.{Vector}
use Rattle.rob_cert.specs.declared.kind.Vector.TheVariants.{Inside, Plan, Move, At}
use Rattle.rob_cert.specs.Lines.{Line, entry_line, end_line, bound_lines, entry_lines, cover_lines, item_lines}
use Rattle.rob_cert.specs.Reading.{FitsLine}
use Rattle.rob_cert.specs.Spelling.{Naming, naming_of}
use Rattle.rob_cert.specs.View.{certificate_of, cover_of, item_of, status_of}

module _ (names : Naming) (limit : ℕ) where
  entries_fit : (v : Vector) (p : ℕ) (qs : List Fraction) → Each (Fits limit) qs
      → Each (FitsLine names limit) (entry_lines v p qs)
  entries_fit v p [] h = tt
  entries_fit v p (q ∷ qs) h = by (eq_ℚ q 0ℚ) (entries_fit v (suc p) qs h.1)
    where
      by : (t : Bool) → Each (FitsLine names limit) (entry_lines v (suc p) qs)
          → Each (FitsLine names limit)
          (if t then entry_lines v (suc p) qs else (entry_line v p q ∷ entry_lines v (suc p) qs))
      by true rest = rest
      by false rest = (h.0, rest)

  bounds_fit : (s : meaning.Status) (v c : Fraction) → Fits limit v → Fits limit c
      → Each (FitsLine names limit) (bound_lines s v c)
  bounds_fit meaning.optimal v c f g = (f, (g, tt))
  bounds_fit meaning.infeasible v c f g = tt
  bounds_fit meaning.unbounded v c f g = (f, (g, tt))

module _ {N : Type 0} (value : N → Fraction) (limit : ℕ) (fits : (x : N) → Fits limit (value x)) (names : Naming) where
  all_fit : (xs : List N) → Each (Fits limit) (map value xs)
  all_fit [] = tt
  all_fit (x ∷ xs) = (fits x, all_fit xs)

  moved_fit : (xs : List N) (b : N) → Each (Fits limit) (map value xs ++ value b ∷ [])
  moved_fit [] b = (fits b, tt)
  moved_fit (x ∷ xs) b = (fits x, moved_fit xs b)

  covers_fit : (which : Multipliers) (cs : List (Cover N))
      → Each (FitsLine names limit) (cover_lines which (map (cover_of value) cs))
  covers_fit which [] = tt
  covers_fit which (c ∷ cs) = (fits c.amount, covers_fit which cs)

  items_fit : (is : List (Item N)) → Each (FitsLine names limit) (item_lines (map (item_of value) is))
  items_fit [] = tt
  items_fit (i ∷ is) = (
    (fits i.weight, fits i.base),
    each_append (FitsLine names limit) (entry_lines At 0 (map value i.vector)) (item_lines (map (item_of value) is))
        (entries_fit names limit At 0 (map value i.vector) (all_fit i.vector)) (items_fit is),
  )

module _ {N : Type 0} (value : N → Fraction) (limit : ℕ) (fits : (x : N) → Fits limit (value x)) (m : RobustModel) where
  -- the numbers of a certificate's lines fit
  cert_fits : (c : Cert N) → FitsLines limit m (certificate_of value c)
  cert_fits c =
      let n = naming_of m in
      let F = FitsLine n limit in
      let i = entry_lines Inside 0 (map value c.inside.values) in
      let p = entry_lines Plan 0 (map value c.plan) in
      let t = entry_lines Move 0 (map value c.step ++ value c.step_bound ∷ []) in
      let v = cover_lines Covers (map (cover_of value) c.covers) in
      let h = cover_lines Holds (map (cover_of value) c.holds) in
      let l = item_lines (map (item_of value) c.items) in
      let e : List (Line Fraction) = end_line ∷ [] in (
        tt,
        each_append F (bound_lines (status_of c.status) (value c.value) (value c.scale))
            (i ++ (p ++ (t ++ (v ++ (h ++ (l ++ e))))))
            (bounds_fit n limit (status_of c.status) (value c.value) (value c.scale) (fits c.value) (fits c.scale))
            (each_append F i (p ++ (t ++ (v ++ (h ++ (l ++ e)))))
            (entries_fit n limit Inside 0 (map value c.inside.values) (all_fit value limit fits n c.inside.values))
            (each_append F p (t ++ (v ++ (h ++ (l ++ e))))
            (entries_fit n limit Plan 0 (map value c.plan) (all_fit value limit fits n c.plan))
            (each_append F t (v ++ (h ++ (l ++ e)))
            (entries_fit n limit Move 0 (map value c.step ++ value c.step_bound ∷ [])
            (moved_fit value limit fits n c.step c.step_bound))
            (each_append F v (h ++ (l ++ e)) (covers_fit value limit fits n Covers c.covers)
            (each_append F h (l ++ e) (covers_fit value limit fits n Holds c.holds)
            (each_append F l e (items_fit value limit fits n c.items) (tt, tt))))))),
      )

  -- the same of an answer
  pub answer_fits : {E : Type 0} (r : Result (Cert N) E) → IfOk r (λ c. FitsLines limit m (certificate_of value c))
  answer_fits (Ok c) = cert_fits c
  answer_fits (Err e) = tt
