use Rattle.std.proofs.Common.{◌∙◌, arith}
use Rattle.rob_simplex.proofs.Telling.ToldRows.{growing_in, own_in, own_positive, right_in, told_point, told_ray, told_slack, told_wide_point, told_wide_ray}
use Rattle.rob_simplex.proofs.dictionary.Dictionary.tells_wide.Goals as goal

pub overflow_add-self-inside : goal.overflow_add-self-inside
overflow_add-self-inside g c = omega (arith, c.self.invariant.few, c.len.ensures)

pub overflow_add-self-inside-2 : goal.overflow_add-self-inside-2
overflow_add-self-inside-2 g c = omega (arith, c.self.invariant.few, c.len.ensures)

-- ---- what is asked of the two columns
pub is_wide_over-requires-clause-column_in : goal.is_wide_over-requires-clause-column_in
is_wide_over-requires-clause-column_in g c =
    right_in c.self.view_is c.requires.own c.requires.i_in c.index-own.ensures
    (c.len.ensures ∙ c.self.inside.basis.ok.0)

pub is_wide_over-requires-clause-own_in : goal.is_wide_over-requires-clause-own_in
is_wide_over-requires-clause-own_in g c = own_in c.self.view_is c.requires.own c.requires.i_in c.index-own.ensures

pub is_wide_over-requires-clause-positive : goal.is_wide_over-requires-clause-positive
is_wide_over-requires-clause-positive g c =
    own_positive c.self.view_is c.requires.own c.requires.i_in c.index-own.ensures

pub is_wide_over-requires-in-Some-clause-column_in : goal.is_wide_over-requires-in-Some-clause-column_in
is_wide_over-requires-in-Some-clause-column_in g c = growing_in c.args.self.now c.requires.growing_in c.in-Some.is

pub is_wide_over-requires-in-Some-clause-own_in : goal.is_wide_over-requires-in-Some-clause-own_in
is_wide_over-requires-in-Some-clause-own_in g c =
    own_in c.self.view_is c.requires.own c.requires.i_in c.index-own.ensures

pub is_wide_over-requires-in-Some-clause-positive : goal.is_wide_over-requires-in-Some-clause-positive
is_wide_over-requires-in-Some-clause-positive g c =
    own_positive c.self.view_is c.requires.own c.requires.i_in c.index-own.ensures

-- ---- what the row tells
pub returns-then-own-self-clause-fits : goal.returns-then-own-self-clause-fits
returns-then-own-self-clause-fits g c =
    told_slack c.self.view_is c.requires.own c.requires.i_in c.index-own.ensures c.if-own-self.true

pub returns-then-is_wide_over-clause-wide : goal.returns-then-is_wide_over-clause-wide
returns-then-is_wide_over-clause-wide g c =
    told_wide_point c.self.view_is c.requires.own c.requires.i_in c.index-own.ensures
    (c.len.ensures ∙ c.self.inside.basis.ok.0)
    c.if-own-self.false c.if-is_wide_over.ensures.wide

pub returns-in-None-clause-fits : goal.returns-in-None-clause-fits
returns-in-None-clause-fits g c =
    told_point c.self.view_is c.requires.own c.requires.i_in c.index-own.ensures
    (c.len.ensures ∙ c.self.inside.basis.ok.0) c.in-None.is
    c.if-is_wide_over.ensures.fits

pub returns-in-Some-clause-fits : goal.returns-in-Some-clause-fits
returns-in-Some-clause-fits g c =
    told_ray c.self.view_is c.requires.own c.requires.i_in c.index-own.ensures
    (c.len.ensures ∙ c.self.inside.basis.ok.0) c.in-Some.is
    c.if-is_wide_over.ensures.fits c.is_wide_over-in-Some.result c.is_wide_over-in-Some.ensures.fits

pub returns-in-Some-clause-wide : goal.returns-in-Some-clause-wide
returns-in-Some-clause-wide g c =
    told_wide_ray c.self.view_is c.requires.own c.requires.i_in c.index-own.ensures
    (c.len.ensures ∙ c.self.inside.basis.ok.0) c.in-Some.is
    g.N.Exact.limit c.if-own-self.false c.is_wide_over-in-Some.result c.is_wide_over-in-Some.ensures.wide
