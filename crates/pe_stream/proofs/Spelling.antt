-- No bytes are those of two saved grids.
use Rattle.std.proofs.Common.{◌≡◌, ℕ, zero, suc, ◌^◌, ◌<◌, ℤ, pos, FitsSigned, List, [], ◌∷◌, ◌++◌, length, take, drop, All, refl, sym, ap, ◌∙◌, append_assoc, arith}
use Rattle.std.specs.List.{flat_map, AllByRecursion}
use Rattle.std.specs.Int.{w64, cast_unsigned, cast_signed}
use Rattle.std.specs.Prelude.{slice_index}
use Rattle.std.proofs.Math.Facts.{Fits-of_z, to_z-of_z}
use Rattle.std.proofs.lemmas.List.{length-take, length-drop, take-append-drop}
use Rattle.std.proofs.lemmas.List.Elements.{All-take, recursion_from_All}
use Rattle.std.proofs.lemmas.List.Concat.{flat_map-cons}
use Rattle.byteorder.specs.Endian.{little_number}
use Rattle.byteorder.specs.Numbers.{little_number-reads_back}
use Rattle.pe_base.specs.declared.fields.Fields.{Fields}
use Rattle.pe_base.specs.declared.state.State.{State}
use Rattle.pe_base.specs.declared.state.State.TheVariants.{Unrefined, RefinementTriggered, Refining, Refined, EraseTriggered, Erasing}
use Rattle.pe_base.specs.Life.Numbers.{state_number}
use Rattle.pe_stream.specs.declared.saved.SavedVertex.{SavedVertex}
use Rattle.pe_stream.specs.Layout.{number_bytes, signed_bytes, fields_bytes, vertex_bytes}
use Rattle.pe_stream.specs.Parts.{IsReadPayload, IsReadVertex}

-- what a front of the bytes says, and what is left of them, is said but once
abbrev pub SaidOnce : {X : Type 0} → (X → List ℕ) → (X → Type 0) → Type 0
SaidOnce {X} spelled Is = (x y : X) (r t : List ℕ) → Is x → Is y → spelled x ++ r ≡ spelled y ++ t → (x ≡ y) × (r ≡ t)

pub number_once : SaidOnce number_bytes (λ n. n < 2 ^ 64)
number_once m n r t m_fits n_fits e =
    (sym (little_number-reads_back 8 m r m_fits) ∙ ap (little_number 8) e ∙ little_number-reads_back 8 n t n_fits, ap (drop 8) e)

signed_once : SaidOnce signed_bytes (FitsSigned w64)
signed_once y z r t y_fits z_fits e =
    let both = number_once (cast_unsigned w64 y) (cast_unsigned w64 z) r t (Fits-of_z y_fits).fits (Fits-of_z z_fits).fits e in
    (sym (to_z-of_z y_fits) ∙ ap (cast_signed w64) both.0 ∙ to_z-of_z z_fits, both.1)

list_once : {X : Type 0} (spelled : X → List ℕ) (Is : X → Type 0) → SaidOnce spelled Is → (xs ys : List X) (r t : List ℕ) → length xs ≡ length ys
    → AllByRecursion Is xs → AllByRecursion Is ys → flat_map spelled xs ++ r ≡ flat_map spelled ys ++ t → (xs ≡ ys) × (r ≡ t)
list_once spelled Is once [] [] r t len xs_are ys_are e = (refl, e)
list_once spelled Is once [] (y ∷ ys) r t len xs_are ys_are e = absurd (omega (arith, len))
list_once spelled Is once (x ∷ xs) [] r t len xs_are ys_are e = absurd (omega (arith, len))
list_once spelled Is once (x ∷ xs) (y ∷ ys) r t len xs_are ys_are e =
    let moved = sym (append_assoc (spelled x) (flat_map spelled xs) r) ∙ ap (λ l. l ++ r) (sym (flat_map-cons spelled x xs)) ∙ e
    ∙ ap (λ l. l ++ t) (flat_map-cons spelled y ys) ∙ append_assoc (spelled y) (flat_map spelled ys) t in
    let first = once x y (flat_map spelled xs ++ r) (flat_map spelled ys ++ t) xs_are.0 ys_are.0 moved in
    let rest = list_once spelled Is once xs ys r t (omega (arith, len)) xs_are.1 ys_are.1 first.1 in
    (ap (λ z. z ∷ xs) first.0 ∙ ap (λ l. y ∷ l) rest.0, rest.1)

pub all_once : {X : Type 0} (spelled : X → List ℕ) (Is : X → Type 0) → SaidOnce spelled Is → (xs ys : List X) (r t : List ℕ) → length xs ≡ length ys
    → All Is xs → All Is ys → flat_map spelled xs ++ r ≡ flat_map spelled ys ++ t → (xs ≡ ys) × (r ≡ t)
all_once spelled Is once xs ys r t len xs_are ys_are e =
    list_once spelled Is once xs ys r t len (recursion_from_All Is xs xs_are) (recursion_from_All Is ys ys_are) e

-- two lists of zeros
zeros_once : (xs ys : List ℤ) → length xs ≡ length ys → AllByRecursion (λ z. z ≡ pos 0) xs → AllByRecursion (λ z. z ≡ pos 0) ys → xs ≡ ys
zeros_once [] [] len xs_are ys_are = refl
zeros_once [] (y ∷ ys) len xs_are ys_are = absurd (omega (arith, len))
zeros_once (x ∷ xs) [] len xs_are ys_are = absurd (omega (arith, len))
zeros_once (x ∷ xs) (y ∷ ys) len xs_are ys_are =
    ap (λ z. z ∷ xs) (xs_are.0 ∙ sym ys_are.0) ∙ ap (λ l. y ∷ l) (zeros_once xs ys (omega (arith, len)) xs_are.1 ys_are.1)

pub fields_once : (count : ℕ) → SaidOnce (fields_bytes count) (IsReadPayload count)
fields_once count f g r t f_is g_is e =
    let Zero : ℤ → Type 0 = λ z. z ≡ pos 0 in
    let lengths : length f.a ≡ length g.a = f_is.payload.eight ∙ sym g_is.payload.eight in
    let both = all_once signed_bytes (FitsSigned w64) signed_once (take count f.a) (take count g.a) r t
    (omega (arith, length-take count f.a, length-take count g.a, lengths))
    (All-take (FitsSigned w64) count f.a f_is.payload.fit) (All-take (FitsSigned w64) count g.a g_is.payload.fit) e in
    let rest = zeros_once (drop count f.a) (drop count g.a) (omega (arith, length-drop count f.a, length-drop count g.a, lengths))
    (recursion_from_All Zero (drop count f.a) f_is.padded) (recursion_from_All Zero (drop count g.a) g_is.padded) in
    let numbers : f.a ≡ g.a = sym (take-append-drop count f.a) ∙ ap (λ l. l ++ drop count f.a) both.0 ∙ ap (λ l. take count g.a ++ l) rest ∙ take-append-drop count g.a in
    (ap (λ a. let fields : Fields = record { a = a } in fields) numbers, both.1)

-- the state of a byte
state_in : ℕ → State
state_in zero = Unrefined
state_in (suc zero) = RefinementTriggered
state_in (suc (suc zero)) = Refining
state_in (suc (suc (suc zero))) = Refined
state_in (suc (suc (suc (suc zero)))) = EraseTriggered
state_in (suc (suc (suc (suc (suc n))))) = Erasing

state_in-state_number : (state : State) → state_in (state_number state) ≡ state
unfolding state_in
state_in-state_number Unrefined = refl
state_in-state_number RefinementTriggered = refl
state_in-state_number Refining = refl
state_in-state_number Refined = refl
state_in-state_number EraseTriggered = refl
state_in-state_number Erasing = refl

pub vertex_once : (count : ℕ) → SaidOnce (vertex_bytes count) (IsReadVertex count)
vertex_once count v w r t v_is w_is e =
    let state : v.state ≡ w.state = sym (state_in-state_number v.state) ∙ ap (λ l. state_in (slice_index l 0)) e ∙ state_in-state_number w.state in
    let both = fields_once count v.fields w.fields r t (record { padded = v_is.saved.fields; payload = v_is.payload }) (record { padded = w_is.saved.fields; payload = w_is.payload }) (ap (drop 1) e) in (
      ap (λ s. let vertex : SavedVertex = record { state = s; fields = v.fields } in vertex) state
          ∙ ap (λ f. let vertex : SavedVertex = record { state = w.state; fields = f } in vertex) both.0,
      both.1,
    )
