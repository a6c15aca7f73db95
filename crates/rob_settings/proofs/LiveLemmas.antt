-- How far a range's start is behind its end changes by the same amount from each value of the range around it to the
-- next.
use Rattle.std.proofs.Common.{◌≡◌, ◌⊎◌, inl, inr, List, ◌∷◌, Option, Some, None, sym, ap, subst, arith}
use Rattle.std.specs.Prelude.{ℤ, pos, negsuc, ◌+ℤ◌, ◌-ℤ◌, ◌*ℤ◌, ◌≤ℤ◌, ◌<ℤ◌, IfSome, SomeIff}
use Rattle.std.proofs.lemmas.Int.{ints}
use Rattle.rob_algebra.specs.Integer.{products}
use Rattle.rob_algebra.specs.IntegerOrder.{mul_nonneg, mul_mono, le_total}
use Rattle.rob_index.specs.Forms.{Ends, value_of, outer, first_factor}
use Rattle.rob_index.proofs.Faults.FormLemmas.{outer_is}
use Rattle.rob_settings.specs.Live.{lack_at}

-- the change from each value to the next
abbrev pub slope : Ends → ℤ
slope r = first_factor r.from.factors -ℤ first_factor r.upto.factors

-- what doesn't change
abbrev pub level : Ends → List ℤ → ℤ
level r vs = value_of (outer r.from) vs -ℤ value_of (outer r.upto) vs

opposite : (u : ℤ) → negsuc 0 *ℤ u ≡ pos 0 -ℤ u
opposite u = simp products (omega (arith, ints))

lines_apart : (f u a b p q v : ℤ) → f ≡ a +ℤ (p *ℤ v) → u ≡ b +ℤ (q *ℤ v)
    → f +ℤ (negsuc 0 *ℤ u) ≡ (a -ℤ b) +ℤ ((p -ℤ q) *ℤ v)
lines_apart f u a b p q v h k =
    let e = opposite u in
    let g : (p -ℤ q) *ℤ v ≡ (p *ℤ v) -ℤ (q *ℤ v) = simp products (omega (arith, ints)) in
    omega (arith, ints, h, k, e, g)

lack_is : (r : Ends) (vs : List ℤ) (v : ℤ) → lack_at r vs v ≡ level r vs +ℤ (slope r *ℤ v)
lack_is r vs v =
    lines_apart (value_of r.from (v ∷ vs)) (value_of r.upto (v ∷ vs)) (value_of (outer r.from) vs)
    (value_of (outer r.upto) vs) (first_factor r.from.factors) (first_factor r.upto.factors) v
    (outer_is r.from v vs) (outer_is r.upto v vs)

-- a line from one place to another, and its slope
line_from : (x y l s v w : ℤ) → x ≡ l +ℤ (s *ℤ v) → y ≡ l +ℤ (s *ℤ w) → y ≡ x +ℤ (s *ℤ (w -ℤ v))
line_from x y l s v w h k =
    let g : s *ℤ (w -ℤ v) ≡ (s *ℤ w) -ℤ (s *ℤ v) = simp products (omega (arith, ints)) in omega (arith, ints, h, k, g)

line_slope : (x y l s v : ℤ) → x ≡ l +ℤ (s *ℤ v) → y ≡ l +ℤ (s *ℤ (v +ℤ pos 1)) → s ≡ y -ℤ x
line_slope x y l s v h k =
    let g : s *ℤ (v +ℤ pos 1) ≡ (s *ℤ v) +ℤ s = simp products (omega (arith, ints)) in omega (arith, ints, h, k, g)

-- from one value to another
lack_from : (r : Ends) (vs : List ℤ) (v w : ℤ) → lack_at r vs w ≡ lack_at r vs v +ℤ (slope r *ℤ (w -ℤ v))
lack_from r vs v w =
    line_from (lack_at r vs v) (lack_at r vs w) (level r vs) (slope r) v w (lack_is r vs v) (lack_is r vs w)

-- one step of it, from here on
slope_is : (r : Ends) (vs : List ℤ) (v : ℤ) → slope r ≡ lack_at r vs (v +ℤ pos 1) -ℤ lack_at r vs v
slope_is r vs v =
    line_slope (lack_at r vs v) (lack_at r vs (v +ℤ pos 1)) (level r vs) (slope r) v (lack_is r vs v)
    (lack_is r vs (v +ℤ pos 1))

-- a line that doesn't fall stays over 0
stays_over : (x y s v w fall : ℤ) → y ≡ x +ℤ (s *ℤ (w -ℤ v)) → s ≡ pos 0 -ℤ fall → pos 0 <ℤ x → fall ≤ℤ pos 0 → v ≤ℤ w
    → pos 0 <ℤ y
stays_over x y s v w fall a b over low behind =
    let c = mul_nonneg s (w -ℤ v) (omega (arith, ints, low, b)) (omega (arith, ints, behind)) in
    omega (arith, ints, a, c, over)

-- a line that falls by `step` is over 0 as long as that was taken too seldom
falls_later : (x y s v w step steps : ℤ) → y ≡ x +ℤ (s *ℤ (w -ℤ v)) → s ≡ pos 0 -ℤ step → pos 0 <ℤ step
    → ((steps -ℤ pos 1) *ℤ step) <ℤ x → w <ℤ (v +ℤ steps) → pos 0 <ℤ y
falls_later x y s v w step steps a b falls least before =
    let d = mul_mono (w -ℤ v) (steps -ℤ pos 1) step (omega (arith, ints, before)) (omega (arith, ints, falls)) in
    let e : s *ℤ (w -ℤ v) ≡ (pos 0 -ℤ step) *ℤ (w -ℤ v) = ap (λ (z : ℤ). z *ℤ (w -ℤ v)) b in
    let f : (pos 0 -ℤ step) *ℤ (w -ℤ v) ≡ pos 0 -ℤ ((w -ℤ v) *ℤ step) = simp products (omega (arith, ints)) in
    omega (arith, ints, a, d, e, f, least)

-- one that falls by `step` is over 0 no longer where that was taken often enough
falls_enough : (x y s v w step steps : ℤ) → y ≡ x +ℤ (s *ℤ (w -ℤ v)) → s ≡ pos 0 -ℤ step → x ≤ℤ (steps *ℤ step)
    → w ≡ v +ℤ steps → y ≤ℤ pos 0
falls_enough x y s v w step steps a b enough there =
    let d : w -ℤ v ≡ steps = omega (arith, ints, there) in
    let e : s *ℤ (w -ℤ v) ≡ (pos 0 -ℤ step) *ℤ steps = λ i. b i *ℤ d i in
    let f : (pos 0 -ℤ step) *ℤ steps ≡ pos 0 -ℤ (steps *ℤ step) = simp products (omega (arith, ints)) in
    omega (arith, ints, a, e, f, enough)

-- it was taken some times
pub steps_positive : (number step steps : ℤ) → pos 0 <ℤ number → pos 0 <ℤ step → number ≤ℤ (steps *ℤ step)
    → pos 0 <ℤ steps
steps_positive number step steps over falls enough = by (le_total steps (pos 0))
  where
    by : (steps ≤ℤ pos 0) ⊎ (pos 0 <ℤ steps) → pos 0 <ℤ steps
    by (inl l) =
        let a = mul_mono steps (pos 0) step l (omega (arith, ints, falls)) in
        absurd (omega (arith, ints, a, enough, over))
    by (inr l) = l

-- ---- as the code computes it
fall_is : (a b s step : ℤ) → step ≡ a +ℤ (negsuc 0 *ℤ b) → s ≡ b -ℤ a → s ≡ pos 0 -ℤ step
fall_is a b s step is slope = let e = opposite b in omega (arith, ints, is, slope, e)

pub none_live : (r : Ends) (vs : List ℤ) (v here step : ℤ) → here ≡ lack_at r vs v → pos 0 <ℤ here
    → step ≡ lack_at r vs v +ℤ (negsuc 0 *ℤ lack_at r vs (v +ℤ pos 1)) → step ≤ℤ pos 0
    → (w : ℤ) → v ≤ℤ w → pos 0 <ℤ lack_at r vs w
none_live r vs v here step is over fall low w behind =
    stays_over (lack_at r vs v) (lack_at r vs w) (slope r) v w step (lack_from r vs v w)
    (fall_is (lack_at r vs v) (lack_at r vs (v +ℤ pos 1)) (slope r) step fall (slope_is r vs v))
    (subst (λ (z : ℤ). pos 0 <ℤ z) is over) low behind

pub some_live : (r : Ends) (vs : List ℤ) (v here step steps live : ℤ) → here ≡ lack_at r vs v → pos 0 <ℤ here
    → step ≡ lack_at r vs v +ℤ (negsuc 0 *ℤ lack_at r vs (v +ℤ pos 1)) → pos 0 <ℤ step
    → here ≤ℤ (steps *ℤ step) → ((steps -ℤ pos 1) *ℤ step) <ℤ here → live ≡ v +ℤ (pos 1 *ℤ steps)
    → (v ≤ℤ live) × ((w : ℤ) → v ≤ℤ w → w <ℤ live → pos 0 <ℤ lack_at r vs w)
some_live r vs v here step steps live is over fall high enough least made =
    let f : pos 1 *ℤ steps ≡ steps = simp products (omega (arith, ints)) in
    let some = steps_positive here step steps over high enough in (
      omega (arith, ints, made, f, some),
      λ w g h. falls_later (lack_at r vs v) (lack_at r vs w) (slope r) v w step steps (lack_from r vs v w)
          (fall_is (lack_at r vs v) (lack_at r vs (v +ℤ pos 1)) (slope r) step fall (slope_is r vs v)) high
          (subst (λ (z : ℤ). ((steps -ℤ pos 1) *ℤ step) <ℤ z) is least) (omega (arith, ints, h, made, f)),
    )

pub alive_there : (r : Ends) (vs : List ℤ) (v here step steps live : ℤ) → here ≡ lack_at r vs v
    → step ≡ lack_at r vs v +ℤ (negsuc 0 *ℤ lack_at r vs (v +ℤ pos 1)) → here ≤ℤ (steps *ℤ step)
    → live ≡ v +ℤ (pos 1 *ℤ steps) → pos 0 <ℤ lack_at r vs live → ⊥
alive_there r vs v here step steps live is fall enough made over =
    let f : pos 1 *ℤ steps ≡ steps = simp products (omega (arith, ints)) in
    let low = falls_enough (lack_at r vs v) (lack_at r vs live) (slope r) v live step steps (lack_from r vs v live)
    (fall_is (lack_at r vs v) (lack_at r vs (v +ℤ pos 1)) (slope r) step fall (slope_is r vs v))
    (subst (λ (z : ℤ). z ≤ℤ (steps *ℤ step)) is enough) (omega (arith, ints, made, f)) in
    omega (arith, ints, low, over)

-- ---- the same in machine numbers
-- the change by the factors
fall_of : (r : Ends) (vs : List ℤ) (v step : ℤ) → step ≡ first_factor r.upto.factors -ℤ first_factor r.from.factors
    → step ≡ lack_at r vs v +ℤ (negsuc 0 *ℤ lack_at r vs (v +ℤ pos 1))
fall_of r vs v step is =
    let s = slope_is r vs v in
    let e = opposite (lack_at r vs (v +ℤ pos 1)) in
    omega (arith, ints, is, s, e)

module _ (r : Ends) (vs : List ℤ) (v here : ℤ) (is : here ≡ lack_at r vs v) where
  -- the start isn't behind the end here
  pub small_here : (live : ℤ) → live ≡ v → here ≤ℤ pos 0
      → ((v ≤ℤ live) × ((w : ℤ) → v ≤ℤ w → w <ℤ live → pos 0 <ℤ lack_at r vs w)) × (pos 0 <ℤ lack_at r vs live → ⊥)
  small_here live e low = (
    (omega (arith, ints, e), λ w g h. absurd (omega (arith, ints, e, g, h))),
    λ over. let same = ap (lack_at r vs) e in omega (arith, ints, is, low, same, over),
  )

  module _ (step : ℤ) (over : pos 0 <ℤ here)
      (growth : step ≡ first_factor r.upto.factors -ℤ first_factor r.from.factors) where
    -- it never comes up to it
    pub small_none : step ≤ℤ pos 0 → (w : ℤ) → v ≤ℤ w → pos 0 <ℤ lack_at r vs w
    small_none low w behind = none_live r vs v here step is over (fall_of r vs v step growth) low w behind

    -- it comes up to it there, as it is told of equal numbers
    pub small_some : (h b s l live : ℤ) → h ≡ here → b ≡ v → s ≡ step → l ≡ live → pos 0 <ℤ step
        → h ≤ℤ ((l -ℤ b) *ℤ s) → (((l -ℤ b) -ℤ pos 1) *ℤ s) <ℤ h
        → ((v ≤ℤ live) × ((w : ℤ) → v ≤ℤ w → w <ℤ live → pos 0 <ℤ lack_at r vs w))
        × (pos 0 <ℤ lack_at r vs live → ⊥)
    small_some h b s l live eh eb es el high enough least =
        let steps = live -ℤ v in
        let p : (l -ℤ b) *ℤ s ≡ steps *ℤ step = λ i. (el i -ℤ eb i) *ℤ es i in
        let q : ((l -ℤ b) -ℤ pos 1) *ℤ s ≡ (steps -ℤ pos 1) *ℤ step = λ i. ((el i -ℤ eb i) -ℤ pos 1) *ℤ es i in
        let made : pos 1 *ℤ steps ≡ steps = simp products (omega (arith, ints)) in
        let often : here ≤ℤ (steps *ℤ step) = omega (arith, ints, enough, p, eh) in
        let seldom : ((steps -ℤ pos 1) *ℤ step) <ℤ here = omega (arith, ints, least, q, eh) in
        let fall = fall_of r vs v step growth in (
          some_live r vs v here step steps live is over fall high often seldom (omega (arith, ints, made)),
          alive_there r vs v here step steps live is fall often (omega (arith, ints, made)),
        )

-- a number of steps from a value on
module _ (from steps : ℤ) (a : ℤ) (b : ℤ) (is_a : a ≡ from) (is_b : b ≡ steps) where
  pub behind_enough : (o : Option ℤ) (P : Type 0) (lack step c d : ℤ) → SomeIff o P (a +ℤ b) → c ≡ lack → d ≡ step
      → c ≤ℤ (steps *ℤ d) → IfSome o (λ live. lack ≤ℤ ((live -ℤ from) *ℤ step))
  behind_enough None P lack step c d made is_c is_d enough = tt
  behind_enough (Some live) P lack step c d made is_c is_d enough =
      let e : live -ℤ from ≡ steps = omega (arith, ints, made.1, is_a, is_b) in
      let p : steps *ℤ d ≡ (live -ℤ from) *ℤ step = λ i. sym e i *ℤ is_d i in
      omega (arith, ints, enough, p, is_c)

  pub behind_least : (o : Option ℤ) (P : Type 0) (lack step c d : ℤ) → SomeIff o P (a +ℤ b) → c ≡ lack → d ≡ step
      → ((steps -ℤ pos 1) *ℤ d) <ℤ c → IfSome o (λ live. ((live -ℤ from -ℤ pos 1) *ℤ step) <ℤ lack)
  behind_least None P lack step c d made is_c is_d least = tt
  behind_least (Some live) P lack step c d made is_c is_d least =
      let e : live -ℤ from ≡ steps = omega (arith, ints, made.1, is_a, is_b) in
      let p : (steps -ℤ pos 1) *ℤ d ≡ ((live -ℤ from) -ℤ pos 1) *ℤ step = λ i. (sym e i -ℤ pos 1) *ℤ is_d i in
      omega (arith, ints, least, p, is_c)
