-- The lines that the program prints.
use Rattle.std.specs.Prelude.{ℕ, ◌||◌, ◌==◌, List, [], ◌∷◌, ◌++◌, map, take, codes, decimal, if◌then◌else◌}
use Rattle.std.specs.List.{flat_map}
use Rattle.std.specs.Char.{is_ascii_alphanumeric}
use Rattle.pe_base.specs.declared.place.Place.{Place}
use Rattle.pe_base.specs.declared.event.Event.{Event}
use Rattle.pe_base.specs.declared.event.Sort.{Sort}
use Rattle.pe_base.specs.declared.event.Sort.TheVariants.{Plain, Vertex, Cell}
use Rattle.pe_base.specs.declared.tally.Tally.{Tally}
use Rattle.pe_base.specs.declared.way.Way.{Way}
use Rattle.pe_base.specs.declared.way.Way.TheVariants.{Forward, Inverted}
use Rattle.pe_base.specs.Acts.Events.{name_of, sort_of}

-- a word, each further part behind one space, and a line feed
abbrev pub line : List ℕ → List (List ℕ) → List ℕ
line word parts = word ++ flat_map (λ part. 32 ∷ part) parts ++ 10 ∷ []

-- a place: its level and its position on each axis
abbrev pub place_parts : ℕ → Place → List (List ℕ)
place_parts dim place = decimal place.level ∷ map decimal (take dim place.pos)

-- the trace line of a plain event, with the traversal's number
abbrev pub plain_line : Event → ℕ → List ℕ
plain_line event traversal = line (name_of event) (decimal traversal ∷ [])

-- the trace line of an event at a place
abbrev pub place_line : ℕ → Event → Place → List ℕ
place_line dim event place = line (name_of event) (place_parts dim place)

-- the trace line of an event of a sort
abbrev pub line_by : Sort → ℕ → Event → ℕ → Place → List ℕ
line_by Plain dim event traversal place = plain_line event traversal
line_by Vertex dim event traversal place = place_line dim event place
line_by Cell dim event traversal place = place_line dim event place

-- the name of a way
abbrev pub way_name : Way → List ℕ
way_name Forward = codes "forward"
way_name Inverted = codes "inverted"

-- the line of a tally, after the trace lines of its traversal
abbrev pub tally_line : Tally → List ℕ
tally_line tally = line (codes "traversal") (decimal tally.traversal ∷ way_name tally.way
    ∷ codes "cells" ∷ decimal tally.cells ∷ codes "in" ∷ decimal tally.read ∷ codes "out" ∷ decimal tally.written
    ∷ codes "created" ∷ decimal tally.created ∷ codes "destroyed" ∷ decimal tally.destroyed ∷ codes "hanging" ∷ decimal tally.hanging ∷ [])

-- the last line of a run that has done all
abbrev pub done_line : List ℕ
done_line = line (codes "done") []

-- a byte of a key as it is shown: letters, digits, `_` (95), `-` (45) and `.` (46) as they are, every other as `?` (63)
abbrev pub shown_byte : ℕ → ℕ
shown_byte b = if is_ascii_alphanumeric b || b == 95 || b == 45 || b == 46 then b else 63

-- a key as it is shown in a line: its first 64 bytes
abbrev pub shown_key : List ℕ → List ℕ
shown_key key = map shown_byte (take 64 key)

-- the line of a refusal: what is refused, and why
abbrev pub fault_line : List (List ℕ) → List ℕ
fault_line parts = line (codes "fault") parts

-- the words name no job
abbrev pub fault_words : List ℕ
fault_words = fault_line (codes "words" ∷ [])

-- the shelf gives no scenario
abbrev pub fault_shelf_scenario : List ℕ
fault_shelf_scenario = fault_line (codes "shelf" ∷ codes "scenario" ∷ [])

-- a scenario is refused
abbrev pub fault_scenario : List (List ℕ) → List ℕ
fault_scenario parts = fault_line (codes "scenario" ∷ parts)

-- for a key, or for what stands there
abbrev pub fault_at_key : List ℕ → List ℕ → List ℕ
fault_at_key cause key = fault_scenario (cause ∷ shown_key key ∷ [])

-- for the body of an event, at an offset
abbrev pub fault_in_body : Event → ℕ → List ℕ → List ℕ
fault_in_body event offset cause = fault_scenario (codes "body" ∷ name_of event ∷ decimal offset ∷ cause ∷ [])

-- an event, with its place unless it is plain
abbrev pub event_parts : Sort → ℕ → Event → Place → List (List ℕ)
event_parts Plain dim event place = name_of event ∷ []
event_parts Vertex dim event place = name_of event ∷ place_parts dim place
event_parts Cell dim event place = name_of event ∷ place_parts dim place

-- a traversal is halted
abbrev pub fault_in_traversal : List ℕ → ℕ → List (List ℕ) → List ℕ
fault_in_traversal cause traversal parts = fault_line (cause ∷ codes "traversal" ∷ decimal traversal ∷ parts)

-- at an event
abbrev pub fault_at_event : List ℕ → ℕ → ℕ → Event → Place → List ℕ
fault_at_event cause dim traversal event place = fault_in_traversal cause traversal (event_parts (sort_of event) dim event place)

-- at one cell too many
abbrev pub fault_cells : ℕ → ℕ → Place → List ℕ
fault_cells dim traversal place = fault_in_traversal (codes "cells") traversal (place_parts dim place)
