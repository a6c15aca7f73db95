-- The names around an expression; forms that stand for their values, and what is put into a form for them; and forms
-- that are 0 everywhere.
use Rattle.std.proofs.Common.{◌≡◌, ℕ, ◌==◌, ◌<◌, ◌-◌, Bool, true, false, List, [], ◌∷◌, length, drop, take, get_or, refl, sym, ap, ◌∙◌, subst, arith}
use Rattle.std.specs.Prelude.{ℤ, pos, ◌+ℤ◌, ◌*ℤ◌}
use Rattle.std.proofs.lemmas.Bool.Decides.{nat_tests}
use Rattle.std.proofs.lemmas.Int.{ints}
use Rattle.std.proofs.lemmas.List.{take_rest}
use Rattle.std.proofs.Math.IntN.{zero-*ℤ}
use Rattle.rob_algebra.specs.Integer.{products}
use Rattle.rob_index.specs.Forms.{Form, weighed, value_of, first_factor, outer, plus_times}
use Rattle.rob_index.proofs.Faults.FormLemmas.{plus_times_is, outer_is}
use Rattle.rob_index.proofs.Faults.NestLemmas.{no_values}
use Rattle.rob_ranges.proofs.NestLemmas.{plus_none}
use Rattle.rob_expand.specs.declared.scope.Binding.{Binding}
use Rattle.rob_expand.specs.Scopes.{Scope, AreEqual, IsPutIn, IsNothing, AddNothing, inside, outside, values_in, offset, further, in_front, with_first}

-- ---- the names around
-- one more, and one fewer
pub outside_is : (s : Scope) (name : ℕ) (b : Binding) → outside (inside s name b) ≡ s
outside_is s name b = λ i. record { names = s.names; bound = s.bound }

-- ---- forms that are put in
-- where there are none, or a form names no value, nothing is
pub none_put : (bound : List Binding) (f : Form) → length bound < 1 → IsPutIn bound f f
none_put [] f none = λ ws. refl
none_put (b ∷ bound) f none = absurd (omega (arith, none))

pub constant_put : (bound : List Binding) (f : Form) (cs : List ℤ) → cs ≡ f.factors → true ≡ (length cs == 0)
    → IsPutIn bound f f
constant_put bound f [] is h =
    λ ws.
    ap (λ (l : List ℤ). f.constant +ℤ weighed l ws) (sym is)
    ∙ ap (λ (l : List ℤ). f.constant +ℤ weighed l (values_in bound ws)) is
constant_put bound f (c ∷ cs) is h = absurd (grind (arith, nat_tests))

regrouped : (k p s : ℤ) → k +ℤ (p +ℤ s) ≡ (k +ℤ s) +ℤ p
regrouped k p s = omega (arith, ints)

spread : (a c s w : ℤ) → (a +ℤ (c *ℤ s)) +ℤ (c *ℤ w) ≡ a +ℤ (c *ℤ (s +ℤ w))
spread a c s w = simp products (omega (arith, ints))

-- ---- forms with the same value everywhere
-- 0 times a form is nothing
pub nothing_added : (f : Form) (c : ℤ) (g : Form) → c ≡ pos 0 → AreEqual f (plus_times f c g)
nothing_added f c g zero =
    λ ws.
    let sum : value_of (plus_times f c g) ws ≡ value_of f ws +ℤ (pos 0 *ℤ value_of g ws) =
    plus_times_is f c g ws ∙ ap (λ (k : ℤ). value_of f ws +ℤ (k *ℤ value_of g ws)) zero in
    sym (sum ∙ omega (arith, ints, zero-*ℤ (value_of g ws)))

-- once each, the order makes no difference
swapped : (a b : ℤ) → b +ℤ (pos 1 *ℤ a) ≡ a +ℤ (pos 1 *ℤ b)
swapped a b = simp products (omega (arith, ints))

pub once_each : (new f : Form) (c : ℤ) (g : Form) → c ≡ pos 1 → new ≡ plus_times g c f
    → AreEqual new (plus_times f c g)
once_each new f c g one is =
    λ ws.
    ap (λ (h : Form). value_of h ws) is
    ∙ plus_times_is g c f ws
    ∙ ap (λ (k : ℤ). value_of g ws +ℤ (k *ℤ value_of f ws)) one
    ∙ swapped (value_of f ws) (value_of g ws)
    ∙ ap (λ (k : ℤ). value_of f ws +ℤ (k *ℤ value_of g ws)) (sym one)
    ∙ sym (plus_times_is f c g ws)

-- and so with a factor in front
fronted : (c : ℤ) (f g : Form) → AreEqual f g → AreEqual (in_front true c f) (in_front true c g)
fronted c f g same [] =
    ap (λ (z : ℤ). f.constant +ℤ z) (sym (no_values f.factors))
    ∙ same []
    ∙ ap (λ (z : ℤ). g.constant +ℤ z) (no_values g.factors)
fronted c f g same (w ∷ ws) =
    regrouped f.constant (c *ℤ w) (weighed f.factors ws)
    ∙ ap (λ (z : ℤ). z +ℤ (c *ℤ w)) (same ws)
    ∙ sym (regrouped g.constant (c *ℤ w) (weighed g.factors ws))

pub moving_put : (b : Binding) (c : ℤ) (f g new : Form) → b.moves ≡ true → AreEqual g (plus_times f c b.start)
    → new ≡ record { constant = g.constant; factors = c ∷ g.factors } → AreEqual new (with_first b c f)
moving_put b c f g new moves same is =
    subst (λ (m : Bool). AreEqual new (in_front m c (plus_times f c b.start))) (sym moves)
    (λ ws. ap (λ (h : Form). value_of h ws) is ∙ fronted c g (plus_times f c b.start) same ws)

-- ---- the innermost value's share, behind what is put in for the others
module _ (bound : List Binding) (f taken g : Form) (c : ℤ) (c_is : c ≡ first_factor f.factors)
    (taken_is : taken ≡ outer f) (others : IsPutIn bound g taken) where
  others_at : (ws : List ℤ) → value_of g ws ≡ value_of (outer f) (values_in bound ws)
  others_at ws = others ws ∙ ap (λ (h : Form). value_of h (values_in bound ws)) taken_is

  share : (ws : List ℤ) (v : ℤ) → value_of g ws +ℤ (c *ℤ v) ≡ value_of f (v ∷ values_in bound ws)
  share ws v = (λ i. others_at ws i +ℤ (c_is i *ℤ v)) ∙ sym (outer_is f v (values_in bound ws))

  -- of a name that is at its start
  at_start : (start : Form) (ws : List ℤ)
      → value_of (plus_times g c start) ws ≡ value_of f ((value_of start ws +ℤ pos 0) ∷ values_in bound ws)
  at_start start ws =
      plus_times_is g c start ws
      ∙ ap (λ (z : ℤ). value_of g ws +ℤ (c *ℤ z)) (plus_none (value_of start ws))
      ∙ share ws (value_of start ws +ℤ pos 0)

  first_at : (moves : Bool) (start : Form) (ws : List ℤ)
      → value_of (in_front moves c (plus_times g c start)) ws
      ≡ value_of f ((value_of start (further moves ws) +ℤ offset moves ws) ∷ values_in bound (further moves ws))
  first_at false start ws = at_start start ws
  first_at true start [] =
      let h = plus_times g c start in
      ap (λ (z : ℤ). h.constant +ℤ z) (sym (no_values h.factors)) ∙ at_start start []
  first_at true start (w ∷ ws) =
      let h = plus_times g c start in
      regrouped h.constant (c *ℤ w) (weighed h.factors ws)
      ∙ ap (λ (z : ℤ). z +ℤ (c *ℤ w)) (plus_times_is g c start ws)
      ∙ spread (value_of g ws) c (value_of start ws) w
      ∙ share ws (value_of start ws +ℤ w)

  pub first_put : (b : Binding) (new : Form) → AreEqual new (with_first b c g) → IsPutIn (b ∷ bound) new f
  first_put b new is = λ ws. is ws ∙ first_at b.moves b.start ws

-- and so where they are the first and the rest of a list
pub starts_put : (all : List Binding) (first : Binding) → 0 < length all → first ≡ get_or all 0 first
    → (f taken g new : Form) (c : ℤ) → c ≡ first_factor f.factors → taken ≡ outer f
    → IsPutIn (take (length all - 1) (drop 1 all)) g taken → AreEqual new (with_first first c g) → IsPutIn all new f
starts_put [] first some is f taken g new c c_is taken_is others new_is = absurd (omega (arith, some))
starts_put (x ∷ all) first some is f taken g new c c_is taken_is others new_is =
    let rest : IsPutIn all g taken =
    subst (λ (l : List Binding). IsPutIn l g taken) (take_rest (x ∷ all) 1) others in
    first_put all f taken g c c_is taken_is rest x new
    (subst (λ (b : Binding). AreEqual new (with_first b c g)) is new_is)

-- ---- forms that are 0 everywhere
pub nothing_none : (cs : List ℤ) → length cs < 1 → AddNothing cs
nothing_none [] none = λ ws. refl
nothing_none (c ∷ cs) none = absurd (omega (arith, none))

zero_first : (c : ℤ) (cs : List ℤ) → c ≡ pos 0 → AddNothing cs → (ws : List ℤ) → weighed (c ∷ cs) ws ≡ pos 0
zero_first c cs zero others [] = refl
zero_first c cs zero others (x ∷ ws) = (λ i. (zero i *ℤ x) +ℤ others ws i) ∙ omega (arith, ints, zero-*ℤ x)

pub nothing_more : (all : List ℤ) (c : ℤ) → 0 < length all → c ≡ get_or all 0 c → c ≡ pos 0
    → AddNothing (take (length all - 1) (drop 1 all)) → AddNothing all
nothing_more [] c some is zero others = absurd (omega (arith, some))
nothing_more (x ∷ all) c some is zero others =
    let rest : AddNothing all = subst (λ (l : List ℤ). AddNothing l) (take_rest (x ∷ all) 1) others in
    λ ws. zero_first x all (sym is ∙ zero) rest ws

pub nothing_is : (f : Form) (k : ℤ) (cs : List ℤ) → k ≡ f.constant → cs ≡ f.factors → k ≡ pos 0 → AddNothing cs
    → IsNothing f
nothing_is f k cs k_is cs_is zero nothing =
    let constant : f.constant ≡ pos 0 = sym k_is ∙ zero in
    λ ws.
    (λ i. constant i +ℤ weighed (sym cs_is i) ws) ∙ (λ i. pos 0 +ℤ nothing ws i) ∙ omega (arith, ints)
