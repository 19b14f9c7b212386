-- The results of courses that are done.
use Rattle.std.specs.List.{AllByRecursion as Each}
use Rattle.std.proofs.Common.{◌≡◌, List, [], ◌∷◌, refl, sym, subst}
use Rattle.pe_base.specs.Walk.Course.{Cause, Ending, done, halts, stuck, Course, ends, at_once, from, and_then, course_map, each}

pub done_same : {X : Type 0} (a b : X) → done a ≡ done b → a ≡ b
done_same a b e = cc

-- the result of a course that is put back
pub mapped-done : {R W : Type 0} (core : Course R) (a : R → W) (w : W) → (course_map a core).ending ≡ done w → (r : R) × (core.ending ≡ done r) × (w ≡ a r)
mapped-done {R = R} core a w h = go core.ending refl h
  where
    go : (e : Ending R) → core.ending ≡ e → (from e (λ r. at_once (a r))).ending ≡ done w → (r : R) × (core.ending ≡ done r) × (w ≡ a r)
    go (done r) k h = (r, k, cc)
    go (halts cause) k h = absurd cc
    go stuck k h = absurd cc

-- the result of two courses, one after the other
pub then-done : {W V : Type 0} (first : Course W) (next : W → Course V) (v : V) → (and_then first next).ending ≡ done v → (w : W) × (first.ending ≡ done w) × ((next w).ending ≡ done v)
then-done {W = W} first next v h = go first.ending refl h
  where
    go : (e : Ending W) → first.ending ≡ e → (from e next).ending ≡ done v → (w : W) × (first.ending ≡ done w) × ((next w).ending ≡ done v)
    go (done w) k h = (w, k, h)
    go (halts cause) k h = absurd cc
    go stuck k h = absurd cc

-- What a course keeps of the state before it, where it is done.
module _ {W : Type 0} (Kept : W → W → Type 0) (same : (w : W) → Kept w w) (both : (a b c : W) → Kept a b → Kept b c → Kept a c) where
  abbrev pub Keeps : W → Course W → Type 0
  Keeps w course = (after : W) → course.ending ≡ done after → Kept w after

  pub keeps-at_once : (w after : W) → Kept w after → Keeps w (at_once after)
  keeps-at_once w after h v k = subst (Kept w) (done_same after v k) h

  pub keeps-halts : (w : W) (cause : Cause) → Keeps w (ends (halts cause))
  keeps-halts w cause v k = absurd cc

  pub keeps-map : {R : Type 0} (w : W) (core : Course R) (a : R → W) → ((r : R) → Kept w (a r)) → Keeps w (course_map a core)
  keeps-map w core a h v k = let at = mapped-done core a v k in subst (Kept w) (sym at.2) (h at.0)

  pub keeps-then : (w : W) (first : Course W) (next : W → Course W) → Keeps w first → ((v : W) → Keeps v (next v)) → Keeps w (and_then first next)
  keeps-then w first next h k v q = let at = then-done first next v q in both w at.0 v (h at.0 at.1) (k at.0 v at.2)

  pub keeps-each : {A : Type 0} (step : A → W → Course W) (items : List A) → Each (λ a. (w : W) → Keeps w (step a w)) items → (w : W) → Keeps w (each step items w)
  keeps-each step [] h w = keeps-at_once w w (same w)
  keeps-each step (a ∷ items) h w = keeps-then w (step a w) (each step items) (h.0 w) (keeps-each step items h.1)
