-- The law of a face.
use Rattle.std.proofs.Common.{◌≡◌, suc, ◌^◌, true, refl, sym, ap, subst, ◌∙◌, arith}
use Rattle.std.proofs.Math.Nat.{mul-le-mul_left}
use Rattle.pe_base.specs.Walk.Course.{Ending, done, halts, stuck}
use Rattle.pe_base.specs.Tree.Dim.{IsDim}
use Rattle.pe_base.specs.Calls.Follows.{is_fit}
use Rattle.pe_base.specs.Walk.Core.{Setting}
use Rattle.pe_base.specs.Walk.Working.{Working}
use Rattle.pe_base.specs.Walk.Walk as model
use Rattle.pe_adapt.specs.CountedTouches.{Machine}
use Rattle.pe_walk.specs.Machine as machine
use Rattle.pe_walk.specs.Gridded.{stream_stacks_of}
use Rattle.pe_order.specs.Laws.{IsCell}
use Rattle.pe_walk.specs.Standing.{HasRoom}
use Rattle.pe_walk.specs.FaceLaw.{Moment, MayWalk, HasWalked, CellEndsAlike, IsBrief, IsCellWalked}
use Rattle.pe_order.proofs.Tests.{some_power, times_one}
use Rattle.pe_order.proofs.Tokens.Traversals.{walk_of_a_cell}
use Rattle.pe_walk.proofs.Simulation.Matching.{ending_map}
use Rattle.pe_walk.proofs.Simulation.Unstuck.{walk-fits}
use Rattle.pe_walk.proofs.Simulation.Cells.Simulated.{cell_simulated}

module _ {Plan : Type 0} (set : Setting Plan) (at : Moment) where
  -- each push leaves its stack short
  brief : HasRoom set at.foreseen_start (IsBrief set at)
  brief = record {
    vertices = λ st w t h s there other. record {
      there = there;
      apart = other;
      few = let some = mul-le-mul_left (2 ^ set.axes) h.owes.cells in omega (arith, h.owes.lens s, some);
    };
    cells = λ st w t h s there other. record {
      there = there;
      apart = other;
      few = let one = some_power set.axes in let some = times_one (2 ^ set.axes) set.max_cells one in omega (arith, h.owes.cell_lens s, h.owes.cells, some);
    };
  }

  pub law_of_a_face : (m : Machine) → MayWalk set at m → IsCellWalked set at (machine.walk_cell set (stream_stacks_of at.foreseen_start.outlook.swapped) (suc at.levels) at.stage.cell m)
  law_of_a_face m may =
      let runs = walk_of_a_cell at.foreseen_start.outlook at.walked (set.rules.greatest set.plan) at.levels at.stage.cell dim may.foreseen_start.grown (subst (λ n. IsCell n at.foreseen_start.outlook.way at.stage.cell) (sym may.foreseen_start.foresees.axes) may.stage.cell) may.deep at.beneath at.cells_beneath at.places may.takes in
      let steps = cell_simulated set at.foreseen_start at.walked (IsBrief set at) may.foreseen_start brief at.levels at.stage at.rest may.stage may.unloaded may.ahead at.working at.places runs.0 may.holds runs.1 in
      subst (λ (x : Machine). IsCellWalked set at (machine.walk_cell set (stream_stacks_of at.foreseen_start.outlook.swapped) (suc at.levels) at.stage.cell x)) may.image
      (record {
        text = steps.same.text;
        ending = by steps.same.ending
            (λ w ends. record { places = runs.0; holds = steps.holds w ends; gives = runs.2; image = refl });
        log = steps.same.log;
      })
    where
      dim : IsDim at.foreseen_start.outlook.axes
      dim = subst IsDim (sym may.foreseen_start.foresees.axes) may.foreseen_start.foresees.dim

      by : {image : Working → Machine} {a : Ending Machine} → a ≡ ending_map image (model.walk_cell set at.levels at.stage.parent at.stage.cell at.working).ending
          → ((w : Working) → (model.walk_cell set at.levels at.stage.parent at.stage.cell at.working).ending ≡ done w → HasWalked set at w (image w))
          → CellEndsAlike set at (model.walk_cell set at.levels at.stage.parent at.stage.cell at.working).ending a
      by {image} {a} same walked = go (model.walk_cell set at.levels at.stage.parent at.stage.cell at.working).ending refl (walk-fits set at.levels at.stage.parent at.stage.cell at.working)
        where
          go : (e : Ending Working) → (model.walk_cell set at.levels at.stage.parent at.stage.cell at.working).ending ≡ e → is_fit e ≡ true → CellEndsAlike set at e a
          go (done w) k fit = subst (CellEndsAlike set at (done w)) (sym (same ∙ ap (ending_map image) k)) (walked w k)
          go (halts cause) k fit = subst (CellEndsAlike set at (halts cause)) (sym (same ∙ ap (ending_map image) k)) refl
          go stuck k fit = absurd cc
