use Rattle.pe_walk.proofs.CornerLists.{full-of, seen_corners-full}
use Rattle.pe_walk.proofs.corners.load_corners.Goals as goal

pub returns-in-Ok-clause-follows : goal.returns-in-Ok-clause-follows
returns-in-Ok-clause-follows g c = λ cells room.
    rw (seen_corners-full g.M.Mapping.numbers.vertex (g.M.Mapping.held c.args.m.now).dim c.load_quads.new.corners c.in-Ok.ensures.corners c.in-Ok.ensures.loaded)
    (c.in-Ok.ensures.goes.follows cells room)

pub returns-in-Ok-clause-loaded : goal.returns-in-Ok-clause-loaded
returns-in-Ok-clause-loaded g c = full-of (g.M.Mapping.held c.args.m.now).dim c.load_quads.new.corners c.in-Ok.ensures.corners c.in-Ok.ensures.loaded
