use Rattle.std.proofs.Common.{◌≡◌, ◌+◌, ◌*◌, ◌-◌, ◌∙◌, length, arith, set, pos, List, ap}
use Rattle.std.proofs.lemmas.List.{length-set}
use lib.IntN.{ℤ}
use Rattle.rob_table.proofs.Places.{row_inside}
use Rattle.rob_table.proofs.RowMoves.{unit_others, unit_bounds, unit_place, unit_zero}
use Rattle.rob_table.proofs.row_moves.write_unit.Goals as goal

pub overflow_mul-i : goal.overflow_mul-i
overflow_mul-i g c =
    let within = row_inside c.args.width c.args.i c.requires.inside c.requires.size in
    omega (arith, within, c.len.ensures.len, c.len.type_inv)

pub overflow_mul-i-2 : goal.overflow_mul-i-2
overflow_mul-i-2 g c =
    let within = row_inside c.args.width c.args.i c.requires.inside c.requires.size in
    omega (arith, within, c.len.ensures.len, c.len.type_inv)

pub overflow_add-i : goal.overflow_add-i
overflow_add-i g c =
    let within = row_inside c.args.width c.args.i c.requires.inside c.requires.size in
    omega (arith, within, c.requires.place_in, c.len.ensures.len, c.len.type_inv)

pub overflow_add-i-2 : goal.overflow_add-i-2
overflow_add-i-2 g c =
    let within = row_inside c.args.width c.args.i c.requires.inside c.requires.size in
    omega (arith, within, c.requires.place_in, c.len.ensures.len, c.len.type_inv)

pub write_number-requires-clause-inside : goal.write_number-requires-clause-inside
write_number-requires-clause-inside g c =
    let within = row_inside c.args.width c.args.i c.requires.inside c.requires.size in
    omega (arith, within, c.requires.place_in, c.empty_row.ensures.size)

pub write_number-requires-2-clause-inside : goal.write_number-requires-2-clause-inside
write_number-requires-2-clause-inside g c =
    let within = row_inside c.args.width c.args.i c.requires.inside c.requires.size in
    let size : length c.write_number.new.rows ≡ length c.empty_row.new.rows =
    ap length c.write_number.ensures.written
    ∙ length-set c.empty_row.new.rows (c.args.i * c.args.width + c.args.place) (pos 1) in
    omega (arith, within, c.requires.place_in, size, c.empty_row.ensures.size)

pub returns-clause-at_place : goal.returns-clause-at_place
returns-clause-at_place g c =
    let il = row_inside c.args.width c.args.i c.requires.inside c.requires.size in
    let wl : c.args.width - 1 + 1 ≡ c.args.width = omega (arith, c.requires.place_in) in
    let e =
    c.write_number-2.ensures.written
    ∙ ap (λ (t : List ℤ). set t (c.args.i * c.args.width + (c.args.width - 1)) (pos 1))
    c.write_number.ensures.written in
    unit_place c.args.rows.now c.empty_row.new.rows c.write_number-2.new.rows c.args.width c.args.i c.args.place
    (c.args.width - 1) wl il c.requires.place_in c.empty_row.ensures.size e c.empty_row.ensures.others
    c.empty_row.ensures.zero

pub returns-clause-zero : goal.returns-clause-zero
returns-clause-zero g c =
    let il = row_inside c.args.width c.args.i c.requires.inside c.requires.size in
    let wl : c.args.width - 1 + 1 ≡ c.args.width = omega (arith, c.requires.place_in) in
    let e =
    c.write_number-2.ensures.written
    ∙ ap (λ (t : List ℤ). set t (c.args.i * c.args.width + (c.args.width - 1)) (pos 1))
    c.write_number.ensures.written in
    unit_zero c.args.rows.now c.empty_row.new.rows c.write_number-2.new.rows c.args.width c.args.i c.args.place
    (c.args.width - 1) wl il c.requires.place_in c.empty_row.ensures.size e c.empty_row.ensures.others
    c.empty_row.ensures.zero

pub returns-clause-others : goal.returns-clause-others
returns-clause-others g c =
    let il = row_inside c.args.width c.args.i c.requires.inside c.requires.size in
    let wl : c.args.width - 1 + 1 ≡ c.args.width = omega (arith, c.requires.place_in) in
    let e =
    c.write_number-2.ensures.written
    ∙ ap (λ (t : List ℤ). set t (c.args.i * c.args.width + (c.args.width - 1)) (pos 1))
    c.write_number.ensures.written in
    unit_others c.args.rows.now c.empty_row.new.rows c.write_number-2.new.rows c.args.width c.args.i c.args.place
    (c.args.width - 1) wl il c.requires.place_in c.empty_row.ensures.size e c.empty_row.ensures.others
    c.empty_row.ensures.zero

pub returns-clause-bounded : goal.returns-clause-bounded
returns-clause-bounded g c limit low h =
    let il = row_inside c.args.width c.args.i c.requires.inside c.requires.size in
    let wl : c.args.width - 1 + 1 ≡ c.args.width = omega (arith, c.requires.place_in) in
    let e =
    c.write_number-2.ensures.written
    ∙ ap (λ (t : List ℤ). set t (c.args.i * c.args.width + (c.args.width - 1)) (pos 1))
    c.write_number.ensures.written in
    unit_bounds c.args.rows.now c.empty_row.new.rows c.write_number-2.new.rows c.args.width c.args.i c.args.place
    (c.args.width - 1) wl il c.requires.place_in c.empty_row.ensures.size e c.empty_row.ensures.others
    c.empty_row.ensures.zero limit c.args.bounds.now c.requires.inside low h
