-- Where the records of a cell's corners lie in the working state, and that reading them after writing gives what was written.
--
-- A slot is a stored vertex's, by its place, or a hanging vertex's, by its cell and corner number. All that one event sees
-- lies in different slots.
use Rattle.std.specs.List.{AllByRecursion as Each}
use Rattle.std.proofs.Common.{◌≡◌, ℕ, Bool, true, false, ◌==◌, List, [], ◌∷◌, map, length, Option, Some, None, refl, sym, ap, subst, ◌∙◌, if◌then◌else◌, arith, is_some}
use Rattle.std.specs.Option.{unwrap_or}
use Rattle.pe_base.specs.declared.place.Place.{Place}
use Rattle.pe_base.specs.Tree.Places.{corner, is_same}
use Rattle.pe_base.specs.Acts.Effects.{VertexRecord}
use Rattle.pe_base.specs.Walk.Maps.{found, at_corner}
use Rattle.pe_base.specs.Walk.Working.{Working, no_vertex, vertex_at, put_vertex, put_hanging, record_at, put_at, put_record}
use Rattle.std.proofs.lemmas.Bool.{and_parts, eqb-true}
use Rattle.std.specs.Cmp.Lexicographic.{pointwise, same_text}
use Rattle.std.specs.Prelude.{nat_eq}
use Rattle.pe_base.proofs.Steps.VertexTouches.{is_same_itself}
use Rattle.pe_base.proofs.Walk.MapLaws.{is_key, found-changed, at-put}

pub data Slot : Type 0 where
  stored : Place → Slot
  hangs : Place → ℕ → Slot

abbrev pub read : Working → Slot → VertexRecord
read w (stored vertex) = vertex_at w vertex
read w (hangs cell k) = unwrap_or (at_corner w.hanging cell k) no_vertex

abbrev pub write : Slot → VertexRecord → Working → Working
write (stored vertex) it w = put_vertex vertex it w
write (hangs cell k) it w = put_hanging cell k it w

-- two slots are one
abbrev pub is_slot : Slot → Slot → Bool
is_slot (stored p) (stored q) = is_same p q
is_slot (stored p) (hangs d j) = false
is_slot (hangs c k) (stored q) = false
is_slot (hangs c k) (hangs d j) = is_key k (c.level ∷ c.pos) j (d.level ∷ d.pos)

-- the slot of a corner, by whether the cell has a hanging vertex there
abbrev pub slot_if : ℕ → Bool → Place → ℕ → Slot
slot_if axes true cell k = hangs cell k
slot_if axes false cell k = stored (corner axes cell k)

abbrev pub is_hung : Working → Place → ℕ → Bool
is_hung w cell k = is_some (at_corner w.hanging cell k)

abbrev pub slot_of : ℕ → Working → Place → ℕ → Slot
slot_of axes w cell k = slot_if axes (is_hung w cell k) cell k

unwrap_else : {X : Type 0} (b : Bool) (v : X) (o : Option X) (e : X) → unwrap_or (if b then Some v else o) e ≡ (if b then v else unwrap_or o e)
unwrap_else true v o e = refl
unwrap_else false v o e = refl

-- what is written is read, and other slots are as they were
pub read-write : (s s' : Slot) (it : VertexRecord) (w : Working) → read (write s it w) s' ≡ (if is_slot s s' then it else read w s')
read-write (stored p) (stored q) it w = ap (λ o. unwrap_or o no_vertex) (at-put w.vertices p q it) ∙ unwrap_else (is_same p q) it _ no_vertex
read-write (stored p) (hangs d j) it w = refl
read-write (hangs c k) (stored q) it w = refl
read-write (hangs c k) (hangs d j) it w =
    ap (λ o. unwrap_or o no_vertex) (found-changed w.hanging k (c.level ∷ c.pos) (Some it) j (d.level ∷ d.pos))
    ∙ unwrap_else (is_key k (c.level ∷ c.pos) j (d.level ∷ d.pos)) it _ no_vertex

-- the same without the slot's form
pub read_there : (s s' : Slot) (it : VertexRecord) (w : Working) → is_slot s s' ≡ true → read (write s it w) s' ≡ it
read_there s s' it w e = read-write s s' it w ∙ ap (λ b. if b then it else read w s') e

pub read_elsewhere : (s s' : Slot) (it : VertexRecord) (w : Working) → is_slot s s' ≡ false → read (write s it w) s' ≡ read w s'
read_elsewhere s s' it w e = read-write s s' it w ∙ ap (λ b. if b then it else read w s') e

-- records of vertices are all that a write changes
pub record SameBeside (w w' : Working) : Type 0 where
  pub cells : w'.cells ≡ w.cells
  pub loads : w'.loads ≡ w.loads
  pub list : w'.list ≡ w.list
  pub tally : w'.tally ≡ w.tally

pub beside-same : (w : Working) → SameBeside w w
beside-same w = record { cells = refl; loads = refl; list = refl; tally = refl }

pub beside-write : (s : Slot) (it : VertexRecord) (w : Working) → SameBeside w (write s it w)
beside-write (stored p) it w = record { cells = refl; loads = refl; list = refl; tally = refl }
beside-write (hangs c k) it w = record { cells = refl; loads = refl; list = refl; tally = refl }

pub beside-then : (a b c : Working) → SameBeside a b → SameBeside b c → SameBeside a c
beside-then a b c h k = record { cells = k.cells ∙ h.cells; loads = k.loads ∙ h.loads; list = k.list ∙ h.list; tally = k.tally ∙ h.tally }

-- no hanging vertex has come or gone
abbrev pub HangsSame : Working → Working → Type 0
HangsSame w w' = (cell : Place) (k : ℕ) → is_hung w' cell k ≡ is_hung w cell k

some_if : {X : Type 0} (b : Bool) (v : X) (o : Option X) → (b ≡ true → is_some o ≡ true) → is_some (if b then Some v else o) ≡ is_some o
some_if true v o h = sym (h refl)
some_if false v o h = refl

-- a corner's slot stays where hanging vertices neither come nor go
pub slot_of-same : (axes : ℕ) (w w' : Working) (cell : Place) (k : ℕ) → HangsSame w w' → slot_of axes w' cell k ≡ slot_of axes w cell k
slot_of-same axes w w' cell k h = ap (λ b. slot_if axes b cell k) (h cell k)

is_key-true : (x : ℕ) (xs : List ℕ) (y : ℕ) (ys : List ℕ) → is_key x xs y ys ≡ true → (x ≡ y) × (xs ≡ ys)
is_key-true x xs y ys e =
    let k = and_parts (x == y) (pointwise nat_eq xs ys) e in
    (eqb-true x y k.0, same_text xs ys (sym k.1))

pub hangs-put : (w : Working) (c : Place) (k : ℕ) (it : VertexRecord) → is_hung w c k ≡ true → HangsSame w (put_hanging c k it w)
hangs-put w c k it here d j =
    ap is_some (found-changed w.hanging k (c.level ∷ c.pos) (Some it) j (d.level ∷ d.pos))
    ∙ some_if (is_key k (c.level ∷ c.pos) j (d.level ∷ d.pos)) it _ (λ e.
    let same = is_key-true k (c.level ∷ c.pos) j (d.level ∷ d.pos) e in
    subst (λ (at_key : ℕ × List ℕ). is_some (found w.hanging at_key.0 at_key.1) ≡ true) (λ i. (same.0 i, same.1 i)) here)

pub hangs-write : (axes : ℕ) (b : Bool) (w : Working) (c : Place) (k : ℕ) (it : VertexRecord) → is_hung w c k ≡ b → HangsSame w (write (slot_if axes b c k) it w)
hangs-write axes true w c k it here = hangs-put w c k it here
hangs-write axes false w c k it here = λ d j. refl

-- to put a corner's record is to write its slot
put-is : (axes : ℕ) (o : Option VertexRecord) (c : Place) (k : ℕ) (it : VertexRecord) (w : Working) → put_at axes o c k it w ≡ write (slot_if axes (is_some o) c k) it w
put-is axes None c k it w = refl
put-is axes (Some v) c k it w = refl

pub put_record-is : (axes : ℕ) (c : Place) (k : ℕ) (it : VertexRecord) (w : Working) → put_record axes c k it w ≡ write (slot_of axes w c k) it w
put_record-is axes c k it w = put-is axes (at_corner w.hanging c k) c k it w

read-is : (axes : ℕ) (w : Working) (c : Place) (k : ℕ) (b : Bool) (o : Option VertexRecord) → at_corner w.hanging c k ≡ o → is_some o ≡ b
    → unwrap_or o (vertex_at w (corner axes c k)) ≡ read w (slot_if axes b c k)
read-is axes w c k true None e h = absurd cc
read-is axes w c k false None e h = refl
read-is axes w c k true (Some v) e h = sym (ap (λ o. unwrap_or o no_vertex) e)
read-is axes w c k false (Some v) e h = absurd cc

-- and to find it is to read its slot
pub record_at-is : (axes : ℕ) (w : Working) (c : Place) (k : ℕ) → record_at axes w c k ≡ read w (slot_of axes w c k)
record_at-is axes w c k = read-is axes w c k (is_hung w c k) (at_corner w.hanging c k) refl refl

-- several slots written one after another
abbrev pub write_all : List Slot → List VertexRecord → Working → Working
write_all [] its w = w
write_all (s ∷ ss) [] w = w
write_all (s ∷ ss) (it ∷ its) w = write_all ss its (write s it w)

pub beside-write_all : (ss : List Slot) (its : List VertexRecord) (w : Working) → SameBeside w (write_all ss its w)
beside-write_all [] its w = beside-same w
beside-write_all (s ∷ ss) [] w = beside-same w
beside-write_all (s ∷ ss) (it ∷ its) w = beside-then w (write s it w) (write_all ss its (write s it w)) (beside-write s it w) (beside-write_all ss its (write s it w))

-- another slot is as it was
pub read-write_all_other : (ss : List Slot) (its : List VertexRecord) (w : Working) (s : Slot) → Each (λ other. is_slot other s ≡ false) ss → read (write_all ss its w) s ≡ read w s
read-write_all_other [] its w s apart = refl
read-write_all_other (x ∷ ss) [] w s apart = refl
read-write_all_other (x ∷ ss) (it ∷ its) w s apart = read-write_all_other ss its (write x it w) s apart.1 ∙ read_elsewhere x s it w apart.0

-- slots of which no two are one
abbrev pub AreApart : List Slot → Type 0
AreApart [] = Unit {0}
AreApart (s ∷ ss) = Each (λ other. is_slot other s ≡ false) ss × AreApart ss

is_slot-itself : (s : Slot) → is_slot s s ≡ true
is_slot-itself (stored p) = is_same_itself p
is_slot-itself (hangs c k) = is_same_itself (record { level = k; pos = c.level ∷ c.pos })

-- different slots give what was written there
pub read-write_all : (ss : List Slot) (its : List VertexRecord) (w : Working) → AreApart ss → length its ≡ length ss → map (read (write_all ss its w)) ss ≡ its
read-write_all [] [] w apart count = refl
read-write_all [] (it ∷ its) w apart count = absurd (omega arith)
read-write_all (s ∷ ss) [] w apart count = absurd (omega arith)
read-write_all (s ∷ ss) (it ∷ its) w apart count =
    ap (λ v. v ∷ map (read (write_all ss its (write s it w))) ss) (read-write_all_other ss its (write s it w) s apart.0 ∙ read_there s s it w (is_slot-itself s))
    ∙ ap (λ vs. it ∷ vs) (read-write_all ss its (write s it w) apart.1 (omega arith))
