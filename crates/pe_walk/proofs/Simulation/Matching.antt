-- Alike of a model and of a machine that match: they add one text, and end alike, where the machine is an image of the
-- model's state. What the machine logs has room.
use Rattle.std.specs.List.{AllByRecursion as Each}
use Rattle.std.proofs.Common.{◌≡◌, List, [], ◌∷◌, ◌++◌, refl, sym, ap, ap₂, subst, ◌∙◌, Option, Some, None}
use Rattle.std.specs.Option.{option_and_then}
use Rattle.std.proofs.lemmas.List.{append_assoc, append-nil}
use Rattle.pe_base.proofs.Lists.{Each-append}
pub use Rattle.pe_base.proofs.Walk.Courses.{done_same, mapped-done, then-done}
use Rattle.pe_order.specs.Tokens.{each_some}
use Rattle.pe_base.specs.Walk.Course.{Ending, done, halts, stuck, Push, Course, ends, at_once, behind, from, and_then, course_map, each}

-- an ending with its result turned
abbrev pub ending_map : {X Y : Type 0} → (X → Y) → Ending X → Ending Y
ending_map f (done x) = done (f x)
ending_map f (halts cause) = halts cause
ending_map f stuck = stuck

pub some_same : {X : Type 0} (a b : X) → Some a ≡ Some b → a ≡ b
some_same a b e = cc

-- what tokens give in two moves
pub both_some : {T U : Type 0} (first : Option T) (next : T → Option U) (u : U) → option_and_then next first ≡ Some u → (t : T) × (first ≡ Some t) × (next t ≡ Some u)
both_some None next u h = absurd cc
both_some (Some t) next u h = (t, refl, h)

-- a course that is turned, and goes on, goes on from what it is turned into
pub turned-then : {X Y Z : Type 0} (course : Course X) (f : X → Y) (next : Y → Course Z) → and_then (course_map f course) next ≡ and_then course (λ x. next (f x))
turned-then {X = X} course f next = go course.ending
  where
    go : (e : Ending X) → and_then (behind course.text course.log (from e (λ x. at_once (f x)))) next ≡ behind course.text course.log (from e (λ x. next (f x)))
    go (done x) = ap₂ (λ a b. behind a b (next (f x))) (append-nil course.text) (append-nil course.log)
    go (halts cause) = ap₂ (λ a b. behind a b (ends (halts cause))) (append-nil course.text) (append-nil course.log)
    go stuck = ap₂ (λ a b. behind a b (ends stuck)) (append-nil course.text) (append-nil course.log)

-- courses one after another, however they are grouped
pub then-grouped : {X Y Z : Type 0} (first : Course X) (next : X → Course Y) (last : Y → Course Z) → and_then (and_then first next) last ≡ and_then first (λ x. and_then (next x) last)
then-grouped {X = X} first next last = go first.ending
  where
    go : (e : Ending X) → and_then (behind first.text first.log (from e next)) last ≡ behind first.text first.log (from e (λ x. and_then (next x) last))
    go (done x) =
        let rest = from (next x).ending last in
        ap₂ (λ a b. record { text = a; log = b; ending = rest.ending }) (append_assoc first.text (next x).text rest.text) (append_assoc first.log (next x).log rest.log)
    go (halts cause) = ap₂ (λ a b. record { text = a; log = b; ending = halts cause }) (append-nil (first.text ++ [])) (append-nil (first.log ++ []))
    go stuck = ap₂ (λ a b. record { text = a; log = b; ending = stuck }) (append-nil (first.text ++ [])) (append-nil (first.log ++ []))

module _ (room : Push → Type 0) where
  pub record Matches {W M : Type 0} (image : W → M) (model : Course W) (machine : Course M) : Type 0 where
    pub text : machine.text ≡ model.text
    pub ending : machine.ending ≡ ending_map image model.ending
    pub log : Each room machine.log

  -- one course is matched as another that is equal to it
  pub matches-same : {W M : Type 0} (image : W → M) (model : Course W) (a b : Course M) → a ≡ b → Matches image model a → Matches image model b
  matches-same image model a b e h = subst (λ c. Matches image model c) e h

  module _ {W V M N : Type 0} (image : W → M) (image' : V → N) where
    from-matches : (f : W → Course V) (g : M → Course N) (e : Ending W) (em : Ending M) → em ≡ ending_map image e
        → ((w : W) → e ≡ done w → Matches image' (f w) (g (image w))) → Matches image' (from e f) (from em g)
    from-matches f g (done w) em h next = subst (λ x. Matches image' (f w) (from x g)) (sym h) (next w refl)
    from-matches f g (halts cause) em h next = subst (λ x. Matches image' (ends (halts cause)) (from x g)) (sym h) (record { text = refl; ending = refl; log = tt })
    from-matches f g stuck em h next = subst (λ x. Matches image' (ends stuck) (from x g)) (sym h) (record { text = refl; ending = refl; log = tt })

    -- two moves that match, and then two that match from every result
    pub then-matches : (model : Course W) (machine : Course M) (f : W → Course V) (g : M → Course N) → Matches image model machine
        → ((w : W) → model.ending ≡ done w → Matches image' (f w) (g (image w))) → Matches image' (and_then model f) (and_then machine g)
    then-matches model machine f g first next =
        let rest = from-matches f g model.ending machine.ending first.ending next in
        record { text = ap₂ (λ a b. a ++ b) first.text rest.text; ending = rest.ending; log = Each-append room machine.log (from machine.ending g).log first.log rest.log }

  -- a machine whose result is turned
  pub mapped-matches : {W M N : Type 0} (image : W → M) (image' : W → N) (f : M → N) (model : Course W) (machine : Course M) → Matches image model machine
      → ((w : W) → model.ending ≡ done w → f (image w) ≡ image' w) → Matches image' model (course_map f machine)
  mapped-matches {W = W} {M = M} {N = N} image image' f model machine same turned = go model.ending machine.ending refl same.ending
    where
      ends_as : (e : Ending N) → ending_map image' model.ending ≡ e → Matches image' model (behind machine.text machine.log (ends e))
      ends_as e k = record { text = append-nil machine.text ∙ same.text; ending = sym k; log = subst (Each room) (sym (append-nil machine.log)) same.log }

      go : (e : Ending W) (em : Ending M) → model.ending ≡ e → em ≡ ending_map image e → Matches image' model (behind machine.text machine.log (from em (λ x. at_once (f x))))
      go (done w) em k h = subst (λ x. Matches image' model (behind machine.text machine.log (from x (λ x. at_once (f x))))) (sym h) (ends_as (done (f (image w))) (ap (ending_map image') k ∙ ap done (sym (turned w k))))
      go (halts cause) em k h = subst (λ x. Matches image' model (behind machine.text machine.log (from x (λ x. at_once (f x))))) (sym h) (ends_as (halts cause) (ap (ending_map image') k))
      go stuck em k h = subst (λ x. Matches image' model (behind machine.text machine.log (from x (λ x. at_once (f x))))) (sym h) (ends_as stuck (ap (ending_map image') k))

  -- one core, whose result is put back in two ways
  pub core-matches : {R W M : Type 0} (image : W → M) (core : Course R) (a : R → W) (b : R → M) → core.log ≡ [] → ((r : R) → core.ending ≡ done r → b r ≡ image (a r))
      → Matches image (course_map a core) (course_map b core)
  core-matches {R = R} image core a b silent same = go core.ending refl
    where
      logged : (c : List Push) → c ≡ [] → Each room (core.log ++ c)
      logged c e = subst (λ x. Each room (x ++ c)) (sym silent) (subst (λ x. Each room x) (sym e) tt)

      go : (e : Ending R) → core.ending ≡ e → Matches image (behind core.text core.log (from e (λ r. at_once (a r)))) (behind core.text core.log (from e (λ r. at_once (b r))))
      go (done r) h = record { text = refl; ending = ap done (same r h); log = logged [] refl }
      go (halts cause) h = record { text = refl; ending = refl; log = logged [] refl }
      go stuck h = record { text = refl; ending = refl; log = logged [] refl }

  -- one core, whose result is put back at once, and by a move that matches
  pub core-then-matches : {R W M : Type 0} (image : W → M) (core : Course R) (a : R → W) (b : R → Course M) → core.log ≡ [] → ((r : R) → core.ending ≡ done r → Matches image (at_once (a r)) (b r))
      → Matches image (course_map a core) (and_then core b)
  core-then-matches {R = R} image core a b silent same = go core.ending refl
    where
      logged : (c : List Push) → Each room c → Each room (core.log ++ c)
      logged c h = subst (λ x. Each room (x ++ c)) (sym silent) h

      go : (e : Ending R) → core.ending ≡ e → Matches image (behind core.text core.log (from e (λ r. at_once (a r)))) (behind core.text core.log (from e b))
      go (done r) h = let m = same r h in record { text = ap (λ x. core.text ++ x) m.text; ending = m.ending; log = logged (b r).log m.log }
      go (halts cause) h = record { text = refl; ending = refl; log = logged [] tt }
      go stuck h = record { text = refl; ending = refl; log = logged [] tt }

  -- A move of the model, of the machine and of the tokens: where it holds and the tokens go on, model and machine match, and
  -- what holds goes on.
  pub record Alike {V U N : Type 0} (image' : V → U → N) (holds' : V → U → Type 0) (model : Course V) (machine : Course N) (t' : U) : Type 0 where
    pub same : Matches (λ v. image' v t') model machine
    pub holds : (v : V) → model.ending ≡ done v → holds' v t'

  abbrev pub Sim : {W T M V U N : Type 0} → (W → T → Type 0) → (W → T → M) → (V → U → Type 0) → (V → U → N) → (W → Course V) → (M → Course N) → (T → Option U) → Type 0
  Sim {W} {T} {M} {V} {U} {N} holds image holds' image' model machine tokens =
      (w : W) (t : T) (t' : U) → holds w t → tokens t ≡ Some t' → Alike image' holds' (model w) (machine (image w t)) t'

  -- moves one after another
  pub sim-then : {W T M V U N X S P : Type 0} (holds : W → T → Type 0) (image : W → T → M) (holds' : V → U → Type 0) (image' : V → U → N) (holds'' : X → S → Type 0) (image'' : X → S → P)
      (model : W → Course V) (machine : M → Course N) (tokens : T → Option U) (model' : V → Course X) (machine' : N → Course P) (tokens' : U → Option S)
      → Sim holds image holds' image' model machine tokens → Sim holds' image' holds'' image'' model' machine' tokens'
      → Sim holds image holds'' image'' (λ w. and_then (model w) model') (λ m. and_then (machine m) machine') (λ t. option_and_then tokens' (tokens t))
  sim-then holds image holds' image' holds'' image'' model machine tokens model' machine' tokens' first next w t t'' h k =
      let mid = both_some (tokens t) tokens' t'' k in
      let one = first w t mid.0 h mid.1 in
      record {
        same = then-matches (λ v. image' v mid.0) (λ x. image'' x t'') (model w) (machine (image w t)) model' machine' one.same
            (λ v e. (next v mid.0 t'' (one.holds v e) mid.2).same);
        holds = λ x e. let at = then-done (model w) model' x e in (next at.0 mid.0 t'' (one.holds at.0 at.1) mid.2).holds x at.2;
      }

  -- a move that changes nothing
  pub sim-nothing : {W T M : Type 0} (holds : W → T → Type 0) (image : W → T → M) → Sim holds image holds image (λ w. at_once w) (λ m. at_once m) (λ t. Some t)
  sim-nothing holds image w t t' h k =
      subst (λ x. Alike image holds (at_once w) (at_once (image w t)) x) (some_same t t' k)
      (record { same = record { text = refl; ending = refl; log = tt }; holds = λ v e. subst (λ x. holds x t) (done_same w v e) h })

  -- a machine that does the same with another image of the state
  pub sim-alike : {W T M P V U N : Type 0} (holds : W → T → Type 0) (image : W → T → M) (other : W → T → P) (holds' : V → U → Type 0) (image' : V → U → N) (model : W → Course V) (machine : M → Course N) (machine' : P → Course N) (tokens : T → Option U)
      → ((w : W) (t : T) → holds w t → machine (image w t) ≡ machine' (other w t))
      → Sim holds image holds' image' model machine tokens → Sim holds other holds' image' model machine' tokens
  sim-alike holds image other holds' image' model machine machine' tokens same sim w t t' h k =
      let steps = sim w t t' h k in
      record { same = matches-same (λ v. image' v t') (model w) (machine (image w t)) (machine' (other w t)) (same w t h) steps.same; holds = steps.holds }

  -- what holds before may be stronger, and what holds after weaker
  pub sim-weaker : {W T M V U N : Type 0} (strong holds : W → T → Type 0) (image : W → T → M) (holds' weak : V → U → Type 0) (image' : V → U → N) (model : W → Course V) (machine : M → Course N) (tokens : T → Option U)
      → ((w : W) (t : T) → strong w t → holds w t) → ((v : V) (u : U) → holds' v u → weak v u)
      → Sim holds image holds' image' model machine tokens → Sim strong image weak image' model machine tokens
  sim-weaker strong holds image holds' weak image' model machine tokens to from_ sim w t t' h k =
      let steps = sim w t t' (to w t h) k in
      record { same = steps.same; holds = λ v e. from_ v t' (steps.holds v e) }

  -- a move for each item of a list, where what holds depends on the items that are left
  abbrev pub Along : {A W T M : Type 0} → (List A → W → T → Type 0) → (W → T → M) → (A → W → Course W) → (A → M → Course M) → (A → T → Option T) → List A → Type 0
  Along holds image model machine tokens [] = Unit {0}
  Along holds image model machine tokens (a ∷ items) =
      Sim (holds (a ∷ items)) image (holds items) image (model a) (machine a) (tokens a) × Along holds image model machine tokens items

  pub sim-along : {A W T M : Type 0} (holds : List A → W → T → Type 0) (image : W → T → M) (model : A → W → Course W) (machine : A → M → Course M) (tokens : A → T → Option T) (items : List A)
      → Along holds image model machine tokens items
      → Sim (holds items) image (holds []) image (each model items) (each machine items) (each_some tokens items)
  sim-along holds image model machine tokens [] h = sim-nothing (holds []) image
  sim-along holds image model machine tokens (a ∷ items) h =
      sim-then (holds (a ∷ items)) image (holds items) image (holds []) image (model a) (machine a) (tokens a) (each model items) (each machine items) (each_some tokens items)
      h.0 (sim-along holds image model machine tokens items h.1)
