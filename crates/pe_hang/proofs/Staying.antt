-- What stays through a call that does nothing to it, and through one call after another.
use Rattle.std.proofs.Common.{◌≡◌, ℕ, ℤ, List, refl, sym, ap, subst, ◌∙◌, arith}
use Rattle.pe_stacks.specs.declared.record.Vertex.{Vertex}
use Rattle.pe_stacks.specs.Corners.{CornerList, IsFull}
use Rattle.pe_base.specs.Acts.Effects.{Rules}
use Rattle.pe_base.specs.Calls.Follows.{IsRoomier}
use Rattle.pe_mapping.specs.Held.{Held, Keeps, found_of}
use Rattle.pe_hang.specs.InHand.{setting_of, CornersStay, Stays}

module _ {Plan : Type 0} where
  -- a mapping that was not called, and one that was called again
  pub keeps-same : (held : Held Plan) → Keeps held held
  keeps-same held = record { plan = refl; dim = refl; sure = refl; lent = refl }

  pub keeps-then : {a b c : Held Plan} → Keeps a b → Keeps b c → Keeps a c
  keeps-then first second = record {
    plan = second.plan ∙ first.plan;
    dim = second.dim ∙ first.dim;
    sure = second.sure ∙ first.sure;
    lent = second.lent ∙ first.lent;
  }

module _ {V : Type 0} {numbers : V → List ℤ} where
  -- corners that were touched again, where the dimension stayed
  pub corners-then : {axes axes' : ℕ} {a b c : CornerList (Vertex V)} → axes' ≡ axes → CornersStay numbers axes a b → CornersStay numbers axes' b c → CornersStay numbers axes a c
  corners-then {axes} {axes'} {a} {b} {c} same first second = record { full = subst (λ d. IsFull d c) same second.full; ages = second.ages ∙ first.ages }

  module _ {Plan : Type 0} {held held' : Held Plan} {old : CornerList (Vertex V)} where
    -- a call that did not touch them
    pub stays-beside : Keeps held held' → IsFull held.dim old → Stays numbers held held' old old
    stays-beside keeps full = record { keeps = keeps; parents = record { full = full; ages = refl } }

    module _ {new : CornerList (Vertex V)} where
      -- one that did: they are full still
      pub stays-full : Stays numbers held held' old new → IsFull held'.dim new
      stays-full stays = subst (λ d. IsFull d new) (sym stays.keeps.dim) stays.parents.full

      -- and one after another
      pub stays-then : {last : Held Plan} {end : CornerList (Vertex V)} → Stays numbers held held' old new → Stays numbers held' last new end → Stays numbers held last old end
      stays-then first second = record { keeps = keeps-then first.keeps second.keeps; parents = corners-then first.keeps.dim first.parents second.parents }

-- the room of stacks that nothing was done with
pub roomier-held : {Plan : Type 0} (old new : Held Plan) (vertices cells : ℕ → ℕ) → Keeps old new → IsRoomier (found_of old vertices cells) (found_of new vertices cells)
roomier-held old new vertices cells keeps = record { sure = keeps.sure; vertices = λ s. omega arith; cells = λ s. omega arith }

-- a setting stays
pub setting-kept : {Plan : Type 0} (rules : Rules Plan) (old new : Held Plan) (start_level max_cells traversal : ℕ) → Keeps old new
    → setting_of rules new start_level max_cells traversal ≡ setting_of rules old start_level max_cells traversal
setting-kept rules old new start_level max_cells traversal keeps =
    ap (λ plan. record { rules = rules; plan = plan; axes = new.dim; start_level = start_level; max_cells = max_cells; traversal = traversal }) keeps.plan
    ∙ ap (λ axes. record { rules = rules; plan = old.plan; axes = axes; start_level = start_level; max_cells = max_cells; traversal = traversal }) keeps.dim
