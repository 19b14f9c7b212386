-- The law of a touch: a corner of a cell is loaded off the stack that the order around it names, where it is on top, and that
-- is the load by address. It is stored on the stack that the order names, and that is the store by address.
use Rattle.std.specs.Prelude.{◌≡◌, ℕ, suc, ◌+◌, ◌-◌, ◌^◌, ◌<◌, ◌≤◌, Bool, true, false, Some}
use Rattle.std.specs.List.{AllByRecursion}
use Rattle.pe_base.specs.declared.place.Place.{Place}
use Rattle.pe_base.specs.Acts.Effects.{VertexRecord}
use Rattle.pe_base.specs.Steps.Faces.{Touch}
use Rattle.pe_base.specs.Walk.Course.{Ending, done, halts, stuck, Push, Course}
use Rattle.pe_base.specs.Walk.Core.{Setting}
use Rattle.pe_base.specs.Walk.Working.{Working, record_at}
use Rattle.pe_base.specs.Walk.Touches as model
use Rattle.pe_stacks.specs.Holdings.{items_at, len_at}
use Rattle.pe_adapt.specs.CountedTouches.{Machine, load_corner, store_corner}
use Rattle.pe_order.specs.Tokens.{Outlook, Tokens, is_top, source, target, touch_of, cells_before}
use Rattle.pe_order.specs.Tokens as tokens
use Rattle.pe_walk.specs.Standing.{ForeseenStart, Stage, Holds, IsForeseenStart, IsStage}
use Rattle.pe_walk.specs.Images.{image_of}
use Rattle.pe_walk.specs.Gridded.{stream_stacks_of}

-- a course ends as another one does, and what is done is alike
abbrev pub EndsAs : {W M : Type 0} → (W → M → Type 0) → Ending W → Ending M → Type 0
EndsAs Same (done w) (done m) = Same w m
EndsAs Same (done w) (halts cause) = ⊥
EndsAs Same (done w) stuck = ⊥
EndsAs Same (halts cause) (done m) = ⊥
EndsAs Same (halts cause) (halts other) = cause ≡ other
EndsAs Same (halts cause) stuck = ⊥
EndsAs Same stuck other = ⊥

-- a touch by the machine is one by address: it adds the same text, ends alike, and each push that it makes is so
pub record IsTouched {W M : Type 0} (Same : W → M → Type 0) (room : Push → Type 0) (by_address : Course W) (course : Course M) : Type 0 where
  pub text : course.text ≡ by_address.text
  pub ending : EndsAs Same by_address.ending course.ending
  pub log : AllByRecursion room course.log

-- a vertex that counts was met by the cells around it that come before this one, and is on top of the stack that is named: one
-- that is born comes from none
pub record IsOnTop (o : Outlook) (touch : Touch) (t : Tokens) : Type 0 where
  pub due : t.met touch.vertex ≡ cells_before o.axes o.way touch
  pub top : (s : ℕ) → source o touch ≡ Some s → is_top touch.vertex (items_at t.vertices s) ≡ true

-- A corner of the cell of a stage may be touched: what holds then, of the working state by address and of the places on stacks.
pub record MayTouch {Plan : Type 0} (set : Setting Plan) (e : ForeseenStart) (walked : Place → Bool) (st : Stage) (k : ℕ) (w : Working) (t : Tokens) : Type 0 where
  pub foreseen_start : IsForeseenStart set e walked
  pub stage : IsStage set.axes e.outlook st
  pub corner : k < 2 ^ set.axes
  pub owed : 1 ≤ st.owed
  pub holds : Holds set e st w t

-- The corner was loaded: its record came to hand, all others are as they are by address, and its place is no longer on a stack.
pub record IsLoaded {Plan : Type 0} (set : Setting Plan) (e : ForeseenStart) (st : Stage) (k : ℕ) (t : Tokens) (w : Working) (it : VertexRecord × Machine) : Type 0 where
  pub places : Tokens
  pub took : tokens.load e.outlook st.cell k t ≡ Some places
  pub holds : Holds set e (record st { from = k; owed = st.owed - 1 }) w places
  pub found : it.0 ≡ record_at set.axes w st.cell k
  pub image : it.1 ≡ image_of set e st.parent w places

-- it was stored: its record left the hand, and its place is on the stack that is named, if any is
pub record IsStored {Plan : Type 0} (set : Setting Plan) (e : ForeseenStart) (st : Stage) (k : ℕ) (t : Tokens) (w : Working) (m : Machine) : Type 0 where
  pub places : Tokens
  pub gave : tokens.store e.outlook st.cell k t ≡ Some places
  pub holds : Holds set e (record st { from = k + 1; owed = st.owed - 1; unstored = st.unstored - 1 }) w places
  pub image : m ≡ image_of set e st.parent w places

-- the corners after this one are in hand, and it is loaded next
abbrev pub LoadOfACorner : Type 0 → Type 0
LoadOfACorner Plan = (set : Setting Plan) (e : ForeseenStart) (walked : Place → Bool) (st : Stage) (k : ℕ) (w : Working) (t : Tokens)
    → MayTouch set e walked st k w t → st.from ≡ suc k
    → (e.outlook.counts (touch_of e.outlook st.cell k).vertex ≡ true → IsOnTop e.outlook (touch_of e.outlook st.cell k) t)
    → IsTouched (IsLoaded set e st k t) (λ push. ⊥) (model.load_corner set st.parent st.cell k w) (load_corner set (stream_stacks_of e.outlook.swapped) st.cell k (image_of set e st.parent w t))

-- a push is on the stack that is named, and leaves it longer by one
pub record GoesThere (o : Outlook) (touch : Touch) (t : Tokens) (push : Push) : Type 0 where
  pub vertex : push.of_cell ≡ false
  pub stack : target o touch ≡ Some push.stack
  pub length : push.length ≡ len_at t.vertices push.stack + 1

-- the corners before this one were stored, and it is stored next: the record is the one that is in hand
abbrev pub StoreOfACorner : Type 0 → Type 0
StoreOfACorner Plan = (set : Setting Plan) (e : ForeseenStart) (walked : Place → Bool) (st : Stage) (k : ℕ) (w : Working) (t : Tokens)
    → MayTouch set e walked st k w t → st.from ≡ k → 1 ≤ st.unstored
    → IsTouched (IsStored set e st k t) (GoesThere e.outlook (touch_of e.outlook st.cell k) t) (model.store_corner set st.parent st.cell k w)
    (store_corner set (stream_stacks_of e.outlook.swapped) st.cell k (record_at set.axes w st.cell k) (image_of set e st.parent w t))
