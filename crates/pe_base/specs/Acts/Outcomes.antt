-- Outcomes of events that are made in turn, one part behind another.
use Rattle.std.specs.Prelude.{ℕ, ℤ, List, [], ◌++◌, Option, Some, None}
use Rattle.pe_base.specs.Acts.Effects.{Seen, Fault, Outcome}

-- all is as given, and nothing is wrong
abbrev pub fine : Seen → List ℤ → Outcome
fine seen list = record { seen = seen; list = list; text = []; fault = None }

-- all is as given, and the event stops
abbrev pub faulty : Seen → List ℤ → Fault → Outcome
faulty seen list fault = record { seen = seen; list = list; text = []; fault = Some fault }

-- an outcome with the text that was written before it
abbrev pub after_text : List ℕ → Outcome → Outcome
after_text text outcome = record outcome { text = text ++ outcome.text }

-- what is done next, unless this fault has stopped the event
abbrev pub unless_stopped : Option Fault → Outcome → (Seen → List ℤ → Outcome) → Outcome
unless_stopped None outcome next = after_text outcome.text (next outcome.seen outcome.list)
unless_stopped (Some fault) outcome next = outcome
