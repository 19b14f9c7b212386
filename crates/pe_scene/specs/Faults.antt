-- What a reader answers, beside what the document says.
use Rattle.std.specs.Prelude.{◌≡◌, ℕ, List, Result, Ok, Err}
use Rattle.pe_scene.specs.declared.fault.SceneFault.{SceneFault}
use Rattle.pe_scene.specs.declared.fault.SceneFault.TheVariants.{TooLong, NotToml, UnknownKey, Missing, Shape, Range, Name, Body, Memory}
use Rattle.pe_scene.specs.declared.fault.KeyFault.{KeyFault}
use Rattle.pe_scene.specs.declared.fault.KeyFault.TheVariants as at_key

-- what is wrong with a key, or with what stands there
abbrev pub fault_at : KeyFault → List ℕ → SceneFault
fault_at at_key.Unknown key = UnknownKey key
fault_at at_key.Missing key = Missing key
fault_at at_key.Shape key = Shape key
fault_at at_key.Range key = Range key
fault_at at_key.Name key = Name key

-- what is read next, where nothing was refused
abbrev pub on_ok : {X Y : Type 0} → Result X SceneFault → (X → Result Y SceneFault) → Result Y SceneFault
on_ok (Ok x) next = next x
on_ok (Err fault) next = Err fault

-- the document is refused for this cause, unless memory ran out
abbrev pub Refuses : {D : Type 0} → SceneFault → Result D SceneFault → Type 0
Refuses TooLong said = said ≡ Err TooLong
Refuses NotToml said = said ≡ Err NotToml
Refuses (UnknownKey key) said = said ≡ Err (UnknownKey key)
Refuses (Missing key) said = said ≡ Err (Missing key)
Refuses (Shape key) said = said ≡ Err (Shape key)
Refuses (Range key) said = said ≡ Err (Range key)
Refuses (Name key) said = said ≡ Err (Name key)
Refuses (Body event at cause) said = said ≡ Err (Body event at cause)
Refuses Memory said = Unit {0}

-- the answer is what the document says, or the cause for which it is refused, unless memory ran out
abbrev pub Gives : {T D : Type 0} → (T → D) → Result T SceneFault → Result D SceneFault → Type 0
Gives view (Ok t) said = said ≡ Ok (view t)
Gives view (Err fault) said = Refuses fault said
