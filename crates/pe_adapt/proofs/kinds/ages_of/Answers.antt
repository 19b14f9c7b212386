use Rattle.std.proofs.Common.{◌≡◌, ◌^◌, refl, ◌&&◌, subst, ap, ◌∙◌, arith}
use Rattle.std.specs.Prelude.{◌||◌, ◌==◌}
use Rattle.pe_states.proofs.BoundaryLaws.{small_corner}
use Rattle.pe_states.specs.Ages.{is_old_at, is_new_at}
use Rattle.pe_adapt.proofs.KindLaws.{HaveAges, aged-more, ages-are}
use Rattle.pe_adapt.proofs.kinds.ages_of.Goals as goal

pub with-ages-requires : goal.with-ages-requires
with-ages-requires g c = small_corner c.args.dim c.loop-k.k c.corners-k-end.ensures.range.1 (omega (arith, c.loop-k-test.true, c.corners-k-end.ensures.value))

pub loop-k-preserved : goal.loop-k-preserved
loop-k-preserved g c = record {
  corners = refl;
  end = c.corners-k-end.ensures.value;
  aged = aged-more c.args.corners.now c.loop-k.k c.loop-k.ages c.with-ages.result c.at-vertex.result.now
      (small_corner c.args.dim c.loop-k.k c.corners-k-end.ensures.range.1 (omega (arith, c.loop-k-test.true, c.corners-k-end.ensures.value)))
      c.loop-k.invariant.aged c.at-vertex.ensures
      (λ j small. c.with-ages.ensures.old j small ∙ ap (λ b. is_old_at c.loop-k.ages j || j == c.loop-k.k && b) c.is_old.ensures)
      (λ j small. c.with-ages.ensures.new j small ∙ ap (λ b. is_new_at c.loop-k.ages j || j == c.loop-k.k && b) c.is_new.ensures);
}

pub returns : goal.returns
returns g c = λ numbers.
    let all : c.loop-k.k ≡ 2 ^ c.args.dim = omega (arith, c.loop-k-test.false, c.corners-k-end.ensures.value, c.loop-k.auto.k-end) in
    ages-are numbers c.args.dim c.args.corners.now c.loop-k.ages c.requires (subst (λ k. HaveAges c.args.corners.now k c.loop-k.ages) all c.loop-k.invariant.aged)
