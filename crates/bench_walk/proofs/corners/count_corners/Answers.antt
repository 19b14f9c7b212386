use Rattle.std.proofs.Common.{◌≡◌, ◌∙◌, ap, arith}
use Rattle.bench_walk.specs.Slots.{counted_quad}
use Rattle.bench_walk.proofs.CountedCorners.{sixteen_by}
use Rattle.bench_walk.proofs.corners.count_corners.Goals as goal

pub returns-in_default : goal.returns-in_default
returns-in_default c =
    let same : c.args.dim ≡ 4 = omega (arith, c.axes.ensures.value, c.axes.ensures.range.0, c.axes.ensures.range.1) in
    sixteen_by _ c.args.dim _ _ _ _ c.requires same (c.count_quad-in_default.ensures ∙ ap counted_quad c.quad_mut-in_default.ensures.value)
    (c.count_quad-in_default-2.ensures ∙ ap counted_quad c.quad_mut-in_default-2.ensures.value) (c.count_quad-in_default-3.ensures ∙ ap counted_quad c.quad_mut-in_default-3.ensures.value)
    (c.count_quad-in_default-4.ensures ∙ ap counted_quad c.quad_mut-in_default-4.ensures.value)
