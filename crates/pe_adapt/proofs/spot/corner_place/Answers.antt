use Rattle.std.proofs.Common.{◌^◌, get_or, arith}
use Rattle.pe_adapt.proofs.CornerPlaces.{corner_is, corners_below, cell_below}
use Rattle.pe_adapt.proofs.spot.corner_place.Goals as goal

pub overflow_add-result : goal.overflow_add-result
overflow_add-result c = omega (arith, c.requires.pos 0)

pub overflow_add-result-2 : goal.overflow_add-result-2
overflow_add-result-2 c = omega (arith, c.requires.pos 1)

pub overflow_add-result-3 : goal.overflow_add-result-3
overflow_add-result-3 c = omega (arith, c.requires.pos 2)

pub overflow_add-result-4 : goal.overflow_add-result-4
overflow_add-result-4 c = omega (arith, c.requires.pos 3)

pub returns-clause-place : goal.returns-clause-place
returns-clause-place c = λ axes within is below. corner_is axes c.args.k c.args.cell.now within below is.pos.four

pub returns-clause-below : goal.returns-clause-below
returns-clause-below c = λ axes is.
    let cell = c.args.cell.now in
    let at = cell_below axes cell is in
    record {
      deep = c.requires.deep;
      level = c.requires.level;
      pos = corners_below (3 ^ cell.level) c.args.k (get_or cell.pos 0 0) (get_or cell.pos 1 0) (get_or cell.pos 2 0) (get_or cell.pos 3 0) (at 0) (at 1) (at 2) (at 3);
    }
