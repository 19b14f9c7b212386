-- Within a body: from the start of a course to its end.
use Rattle.std.proofs.Common.{◌≡◌, ℕ, Bool, true, false, List, [], ◌++◌, Result, Ok, Err, refl, sym, ap, subst, ◌∙◌, arith, append_assoc}
use Rattle.std.specs.Prelude.{Contains}
use Rattle.std.proofs.lemmas.List.{append-nil}
use Rattle.std.proofs.lemmas.List.Elements.{Contains-append_left, Contains-append_right}
use Rattle.pe_base.specs.Walk.Course.{Cause, Ending, done, halts, stuck, Push, Course, ends, at_once, behind, and_then, course_map, from, allowed}
use Rattle.pe_base.specs.Calls.Told.{Told, Adds, AddsPart}
use Rattle.pe_base.proofs.Calls.Texts.{adds-nothing, adds-then, part-added, part-first, part-then, fails-then}
use Rattle.pe_base.specs.Calls.Follows.{Fits, is_fit, BeforeCall, IsOverfull, HasOverfull, Failure, halted, unwritten, wanting, unheard_of, Follows, IsRoomier, Leads}

-- room that is the same, and room behind room
pub roomier-same : (found : BeforeCall) → IsRoomier found found
roomier-same found = record { sure = refl; vertices = λ s. omega arith; cells = λ s. omega arith }

pub roomier-then : (a b c : BeforeCall) → IsRoomier a b → IsRoomier b c → IsRoomier a c
roomier-then a b c first second = record {
  sure = second.sure ∙ first.sure;
  vertices = λ s. omega (arith, first.vertices s, second.vertices s);
  cells = λ s. omega (arith, first.cells s, second.cells s);
}

-- a push that has no room later had none before
overfull-before : (a b : BeforeCall) (push : Push) → IsRoomier a b → IsOverfull b push → IsOverfull a push
overfull-before a b push room over = at push.of_cell over
  where
    at : (of_cell : Bool) → IsOverfull b (record push { of_cell = of_cell }) → IsOverfull a (record push { of_cell = of_cell })
    at true over = omega (arith, room.cells push.stack, over)
    at false over = omega (arith, room.vertices push.stack, over)

-- pieces of courses
behind-behind : {X : Type 0} (text text' : List ℕ) (log log' : List Push) (course : Course X)
    → behind text log (behind text' log' course) ≡ behind (text ++ text') (log ++ log') course
behind-behind text text' log log' course =
    ap (λ x. record { text = x; log = log ++ (log' ++ course.log); ending = course.ending }) (sym (append_assoc text text' course.text))
    ∙ ap (λ x. record { text = (text ++ text') ++ course.text; log = x; ending = course.ending }) (sym (append_assoc log log' course.log))

fit-from : {X Y : Type 0} (ending : Ending X) (next : X → Course Y) → is_fit (from ending next).ending ≡ true → is_fit ending ≡ true
fit-from (done x) next fit = refl
fit-from (halts cause) next fit = refl
fit-from stuck next fit = fit

-- the first of two steps does not get stuck
pub and_then-fits : {X Y : Type 0} (course : Course X) (next : X → Course Y) → Fits (and_then course next) → Fits course
and_then-fits course next fits = fit-from course.ending next fits

-- the whole course is behind nothing
pub leads_start : {X : Type 0} (course : Course X) (found : BeforeCall) → Leads course found found course
leads_start course found = record { text = []; log = []; splits = refl; told = adds-nothing found.told; room = roomier-same found }

module _ {Y : Type 0} {whole : Course Y} {old now : BeforeCall} where
  -- the rest does not get stuck
  pub leads_rest : (rest : Course Y) → Leads whole old now rest → Fits whole → Fits rest
  leads_rest rest lead fits = subst (λ course. is_fit course.ending ≡ true) lead.splits fits

  -- what comes next does not
  pub leads_fits : {X : Type 0} (course : Course X) (next : X → Course Y) → Leads whole old now (and_then course next) → Fits whole → Fits course
  leads_fits course next lead fits = fit-from course.ending next (leads_rest (and_then course next) lead fits)

  -- a step that may be made only where a test passes: it does
  pub leads_may : (test : Bool) (course : Course Y) → Leads whole old now (allowed test course) → Fits whole → test ≡ true
  leads_may true course lead fits = refl
  leads_may false course lead fits = leads_rest (allowed false course) lead fits

  pub leads_allowed : (test : Bool) (course : Course Y) → Leads whole old now (allowed test course) → Fits whole → Leads whole old now course
  leads_allowed true course lead fits = lead
  leads_allowed false course lead fits = absurd (let stuck : false ≡ true = leads_rest (allowed false course) lead fits in cc)

  -- after a call that came through
  pub leads_next : {X A : Type 0} (course : Course X) (next : X → Course Y) (after : A → X) (a : A) (new : BeforeCall)
      → Leads whole old now (and_then course next) → Follows course after (Ok a) now new.told → IsRoomier now new → Leads whole old new (next (after a))
  leads_next course next after a new lead answer room = record {
    text = lead.text ++ course.text;
    log = lead.log ++ course.log;
    splits = lead.splits
        ∙ ap (λ ending. behind lead.text lead.log (behind course.text course.log (from ending next))) answer.ends
        ∙ behind-behind lead.text course.text lead.log course.log (next (after a));
    told = adds-then old.told now.told new.told lead.text course.text lead.told answer.told;
    room = roomier-then old now new lead.room room;
  }

  -- a step that adds nothing to the text
  pub leads_step : {X : Type 0} (course : Course X) (next : X → Course Y) (x : X) (new : BeforeCall)
      → Leads whole old now (and_then course next) → course.ending ≡ done x → course.text ≡ [] → now.told ≡ new.told → IsRoomier now new → Leads whole old new (next x)
  leads_step course next x new lead ends silent told room =
      leads_next course next (λ (u : Unit {0}). x) tt new lead
      (record { ends = ends; told = subst (λ t. Adds now.told course.text t) told (subst (λ text. Adds now.told text now.told) (sym silent) (adds-nothing now.told)) })
      room

  -- where the text that is told stays
  pub leads_found : (rest : Course Y) (new : BeforeCall) → Leads whole old now rest → now.told ≡ new.told → IsRoomier now new → Leads whole old new rest
  leads_found rest new lead told room = record {
    text = lead.text;
    log = lead.log;
    splits = lead.splits;
    told = subst (λ t. Adds old.told lead.text t) told lead.told;
    room = roomier-then old now new lead.room room;
  }

  -- at the end of the course
  pub leads_end : {A : Type 0} (after : A → Y) (a : A) → Leads whole old now (at_once (after a)) → Follows whole after (Ok a) old now.told
  leads_end after a lead = record {
    ends = ap (λ course. course.ending) lead.splits;
    told = subst (λ text. Adds old.told text now.told) (sym (ap (λ course. course.text) lead.splits ∙ append-nil lead.text)) lead.told;
  }

  -- a failure on the way, of which a part of the text is known
  part-of : (rest : Course Y) (text more : List ℕ) (new : Told) → Leads whole old now rest → rest.text ≡ text ++ more → AddsPart now.told text new → AddsPart old.told whole.text new
  part-of rest text more new lead split part =
      let is : whole.text ≡ lead.text ++ (text ++ more) = ap (λ course. course.text) lead.splits ∙ ap (λ t. lead.text ++ t) split in
      subst (λ t. AddsPart old.told t new) (sym is)
      (part-then old.told now.told new lead.text (text ++ more) lead.told (part-first now.told new text more part))

  overfull-of : (rest : Course Y) (log more : List Push) → Leads whole old now rest → rest.log ≡ log ++ more → HasOverfull now log → HasOverfull old whole.log
  overfull-of rest log more lead split over =
      let is : whole.log ≡ lead.log ++ (log ++ more) = ap (λ course. course.log) lead.splits ∙ ap (λ t. lead.log ++ t) split in (
        over.0,
        subst (λ l. Contains l over.0) (sym is) (Contains-append_right lead.log (log ++ more) over.0 (Contains-append_left log more over.0 over.1)),
        overfull-before old now over.0 lead.room over.2,
      )

  -- the failure of a call is the caller's
  pub leads_err : {X A B : Type 0} (course : Course X) (next : X → Course Y) (after : A → X) (after' : B → Y) (failure : Failure) (new : Told)
      → Leads whole old now (and_then course next) → Follows course after (Err failure) now new → Follows whole after' (Err failure) old new
  leads_err course next after after' (halted cause) new lead answer =
      let halt : and_then course next ≡ behind course.text course.log (ends (halts cause)) = ap (λ ending. behind course.text course.log (from ending next)) answer.ends in
      let is : whole ≡ behind lead.text lead.log (behind course.text course.log (ends (halts cause))) = lead.splits ∙ ap (λ rest. behind lead.text lead.log rest) halt in
      record {
        ends = ap (λ course. course.ending) is;
        told = subst (λ text. Adds old.told text new) (sym (ap (λ course. course.text) is ∙ ap (λ t. lead.text ++ t) (append-nil course.text)))
            (adds-then old.told now.told new lead.text course.text lead.told answer.told);
      }
  leads_err course next after after' unwritten new lead answer = record {
    failed = fails-then old.told now.told new lead.text lead.told answer.failed;
    told = part-of (and_then course next) course.text (from course.ending next).text new lead refl answer.told;
  }
  leads_err course next after after' wanting new lead answer = record {
    told = part-of (and_then course next) course.text (from course.ending next).text new lead refl answer.told;
    room = λ sure. overfull-of (and_then course next) course.log (from course.ending next).log lead refl (answer.room (lead.room.sure ∙ sure));
  }
  leads_err course next after after' unheard_of new lead answer = answer

  -- a call that is the rest of the course
  pub leads_last : {A : Type 0} (rest : Course Y) (after : A → Y) (answer : Result A Failure) (new : Told)
      → Leads whole old now rest → Follows rest after answer now new → Follows whole after answer old new
  leads_last rest after (Ok a) new lead answer = record {
    ends = ap (λ course. course.ending) lead.splits ∙ answer.ends;
    told = subst (λ text. Adds old.told text new) (sym (ap (λ course. course.text) lead.splits)) (adds-then old.told now.told new lead.text rest.text lead.told answer.told);
  }
  leads_last rest after (Err (halted cause)) new lead answer = record {
    ends = ap (λ course. course.ending) lead.splits ∙ answer.ends;
    told = subst (λ text. Adds old.told text new) (sym (ap (λ course. course.text) lead.splits)) (adds-then old.told now.told new lead.text rest.text lead.told answer.told);
  }
  leads_last rest after (Err unwritten) new lead answer = record {
    failed = fails-then old.told now.told new lead.text lead.told answer.failed;
    told = part-of rest rest.text [] new lead (sym (append-nil rest.text)) answer.told;
  }
  leads_last rest after (Err wanting) new lead answer = record {
    told = part-of rest rest.text [] new lead (sym (append-nil rest.text)) answer.told;
    room = λ sure. overfull-of rest rest.log [] lead (sym (append-nil rest.log)) (answer.room (lead.room.sure ∙ sure));
  }
  leads_last rest after (Err unheard_of) new lead answer = answer

  -- a halt at once
  pub leads_halt : {A : Type 0} (after : A → Y) (cause : Cause) → Leads whole old now (ends (halts cause)) → Follows whole after (Err (halted cause)) old now.told
  leads_halt after cause lead = record {
    ends = ap (λ course. course.ending) lead.splits;
    told = subst (λ text. Adds old.told text now.told) (sym (ap (λ course. course.text) lead.splits ∙ append-nil lead.text)) lead.told;
  }

  -- memory was wanting before the rest
  pub leads_want : {A : Type 0} (rest : Course Y) (after : A → Y) → Leads whole old now rest → now.sure ≡ false → Follows whole after (Err wanting) old now.told
  leads_want rest after lead unsure = record {
    told = subst (λ text. AddsPart old.told text now.told) (sym (ap (λ course. course.text) lead.splits))
        (part-added old.told now.told lead.text rest.text (lead.text ++ rest.text) refl lead.told);
    room = λ sure. absurd (let both : true ≡ false = sym sure ∙ sym lead.room.sure ∙ unsure in cc);
  }

-- what a course is turned into follows it
pub follows-map : {X Y A : Type 0} (f : X → Y) (course : Course X) (after : A → X) (answer : Result A Failure) (old : BeforeCall) (new : Told)
    → Follows course after answer old new → Follows (course_map f course) (λ a. f (after a)) answer old new
follows-map f course after (Ok a) old new is =
    leads_end (λ a. f (after a)) a
    (leads_next course (λ x. at_once (f x)) after a (record old { told = new }) (leads_start (course_map f course) old) is
    (record { sure = refl; vertices = λ s. omega arith; cells = λ s. omega arith }))
follows-map f course after (Err failure) old new is =
    leads_err course (λ x. at_once (f x)) after (λ a. f (after a)) failure new (leads_start (course_map f course) old) is

-- a course follows where a step that adds nothing to the text comes before it
pub follows-behind : {X Y A : Type 0} (course : Course X) (next : X → Course Y) (x : X) (after : A → Y) (answer : Result A Failure) (old : BeforeCall) (new : Told)
    → course.ending ≡ done x → course.text ≡ [] → Follows (next x) after answer old new → Follows (and_then course next) after answer old new
follows-behind course next x after answer old new ends silent is =
    leads_last (next x) after answer new
    (leads_step course next x old (leads_start (and_then course next) old) ends silent refl (roomier-same old)) is

-- one course follows, and from its result the next
pub follows-then : {X Y A B : Type 0} (course : Course X) (next : X → Course Y) (after : A → X) (a : A) (after' : B → Y) (answer : Result B Failure) (old now : BeforeCall) (new : Told)
    → Follows course after (Ok a) old now.told → IsRoomier old now → Follows (next (after a)) after' answer now new → Follows (and_then course next) after' answer old new
follows-then course next after a after' answer old now new first room second =
    leads_last (next (after a)) after' answer new (leads_next course next after a now (leads_start (and_then course next) old) first room) second

-- one course follows where another has left off with the same text
pub follows-found : {X A : Type 0} (course : Course X) (after : A → X) (answer : Result A Failure) (old now : BeforeCall) (new : Told)
    → old.told ≡ now.told → IsRoomier old now → Follows course after answer now new → Follows course after answer old new
follows-found course after answer old now new told room is =
    leads_last course after answer new (leads_found course now (leads_start course old) told room) is
