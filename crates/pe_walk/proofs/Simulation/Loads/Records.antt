-- What the load of a corner puts under its place, or under its cell where it hangs.
use Rattle.std.proofs.Common.{◌≡◌, ◌≢◌, ℕ, ◌+◌, Bool, true, false, not, ◌&&◌, ◌==◌, ◌∷◌, Some, refl, ap, ◌∙◌, arith}
use Rattle.std.specs.Prelude.{nat_eq, is_some, if◌then◌else◌}
use Rattle.std.specs.Option.{unwrap_or}
use Rattle.std.specs.Cmp.Lexicographic.{pointwise}
use Rattle.std.proofs.Math.Bool.{and-false}
use Rattle.std.proofs.lemmas.Bool.{ne_eqb}
use Rattle.pe_base.specs.declared.place.Place.{Place}
use Rattle.pe_base.specs.declared.kind.Kind.{Kind}
use Rattle.pe_base.specs.declared.kind.Kind.TheVariants.{Kept, Born, Dying, Hanging}
use Rattle.pe_base.specs.Tree.Places.{corner, is_same}
use Rattle.pe_base.specs.Life.Kinds.{is_hanging}
use Rattle.pe_base.specs.Acts.Effects.{VertexRecord}
use Rattle.pe_base.specs.Walk.Maps.{at, at_corner}
use Rattle.pe_base.specs.Walk.Core.{Setting}
use Rattle.pe_base.specs.Walk.Working.{Working, loads_of, put_vertex, loaded_again}
use Rattle.pe_base.specs.Walk.Touches.{put_loaded}
use Rattle.pe_base.proofs.Walk.MapLaws.{is_key, at-put, found-changed}
use Rattle.pe_base.proofs.Walk.Slots.{is_hung}
use Rattle.pe_base.proofs.Tree.Ranks.{same_places}
use Rattle.pe_order.proofs.Tokens.Apart.{one_if}

-- a record is put under a vertex that counts, which is loaded once more, or under a corner of the cell that hangs
pub record LoadsRecord (counts : Bool) (cell vertex : Place) (k : ℕ) (it : VertexRecord) (w after : Working) : Type 0 where
  pub vertices : (q : Place) → at after.vertices q ≡ (if counts && is_same vertex q then Some it else at w.vertices q)
  pub loads : (q : Place) → loads_of after q ≡ loads_of w q + one_if (counts && is_same vertex q)
  pub hanging : (x : Place) (j : ℕ) → at_corner after.hanging x j ≡ (if not counts && is_key k (cell.level ∷ cell.pos) j (x.level ∷ x.pos) then Some it else at_corner w.hanging x j)
  pub cells : after.cells ≡ w.cells
  pub tally : after.tally ≡ w.tally

again : (vertex : Place) (w : Working) (q : Place) → loads_of (loaded_again vertex w) q ≡ loads_of w q + one_if (is_same vertex q)
again vertex w q = ap (λ found. unwrap_or found 0) (at-put w.loads vertex q (loads_of w vertex + 1)) ∙ go (is_same vertex q) refl
  where
    go : (b : Bool) → is_same vertex q ≡ b → unwrap_or (if b then Some (loads_of w vertex + 1) else at w.loads q) 0 ≡ loads_of w q + one_if b
    go true e = ap (λ p. loads_of w p + 1) (same_places vertex q e)
    go false e = omega arith

puts-stored : (cell vertex : Place) (k : ℕ) (it : VertexRecord) (w : Working) → LoadsRecord true cell vertex k it w (loaded_again vertex (put_vertex vertex it w))
puts-stored cell vertex k it w = record {
  vertices = λ q. at-put w.vertices vertex q it;
  loads = λ q. again vertex w q;
  hanging = λ x j. refl;
  cells = refl;
  tally = refl;
}

pub loads_record : {Plan : Type 0} (set : Setting Plan) (kind : Kind) (cell : Place) (k : ℕ) (it : VertexRecord) (w : Working)
    → LoadsRecord (not (is_hanging kind)) cell (corner set.axes cell k) k it w (put_loaded set kind cell k it w)
loads_record set Kept cell k it w = puts-stored cell (corner set.axes cell k) k it w
loads_record set Born cell k it w = puts-stored cell (corner set.axes cell k) k it w
loads_record set Dying cell k it w = puts-stored cell (corner set.axes cell k) k it w
loads_record set Hanging cell k it w = record {
  vertices = λ q. refl;
  loads = λ q. omega arith;
  hanging = λ x j. found-changed w.hanging k (cell.level ∷ cell.pos) (Some it) j (x.level ∷ x.pos);
  cells = refl;
  tally = refl;
}

-- corners of cells of another level hang as before
pub hung_elsewhere : (counts : Bool) (cell vertex : Place) (k : ℕ) (it : VertexRecord) (w after : Working) → LoadsRecord counts cell vertex k it w after
    → (x : Place) (j : ℕ) → cell.level ≢ x.level → is_hung after x j ≡ is_hung w x j
hung_elsewhere counts cell vertex k it w after puts x j other =
    let key : is_key k (cell.level ∷ cell.pos) j (x.level ∷ x.pos) ≡ false = ap (λ c. k == j && (c && pointwise nat_eq cell.pos x.pos)) (ne_eqb cell.level x.level other) ∙ and-false (k == j) in
    ap is_some (puts.hanging x j ∙ ap (λ b. if b then Some it else at_corner w.hanging x j) (ap (λ c. not counts && c) key ∙ and-false (not counts)))
