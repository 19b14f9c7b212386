-- A line that is given to a sink as one piece.
use Rattle.std.proofs.Common.{◌≡◌, ◌∙◌, sym, ap, ◌⊎◌, inl, inr, ℕ, ◌+◌, ◌<◌, ◌≤◌, List, [], ◌∷◌, ◌++◌, length, take, drop, Option, Some, None, Result, Ok, Err, OnOk, OnErr, refl, arith}
use Rattle.std.proofs.lemmas.Bool.{cases_lt}
use Rattle.std.proofs.lemmas.List.{take-append-drop, length-append, take-append-le, take_all}
use Rattle.std.proofs.lemmas.List.Sums.{sum_by-append, sum_by-take-le}
use Rattle.pe_base.specs.Calls.Counters.{CountsOne}
use Rattle.pe_base.specs.Calls.Told.{Told, Appends, feeds_of, line_feeds, counted, AddsPart, SinkFailed, Tells}
use Rattle.pe_io.specs.Sink.{AppendsPrefix}
use Rattle.pe_io.specs.Line.{HasNoFeed}

module _ (old new : Told) (line : List ℕ) (plain : HasNoFeed line) (count : CountsOne old.writes new.writes) (faults : old.faults ≤ new.faults) where
  abbrev whole : List ℕ
  whole = line ++ 10 ∷ []

  one_feed : line_feeds whole ≡ 1
  one_feed = let last : line_feeds (10 ∷ []) ≡ 1 = refl in omega (arith, sum_by-append feeds_of line (10 ∷ []), plain, last)

  -- the first bytes of a line have its line feed only where they are all of it
  first_counted : (n : ℕ) → (new.writes ≡ counted (line_feeds (take n whole)) old.writes) ⊎ (new.writes ≡ counted (line_feeds (take n whole) + 1) old.writes)
  first_counted n = elim (cases_lt n (length line + 1)) [ inl within ↦ inr (at (some within)) | inr all ↦ inl (at (one all)) ]
    where
      at : {feeds : ℕ} → feeds ≡ 1 → new.writes ≡ counted feeds old.writes
      at is = count ∙ ap (λ k. counted k old.writes) (sym is)

      some : n < length line + 1 → line_feeds (take n whole) + 1 ≡ 1
      some within = omega (arith, sum_by-take-le feeds_of line n, plain, ap line_feeds (take-append-le n line (10 ∷ []) (omega (arith, within))))

      one : length line + 1 ≤ n → line_feeds (take n whole) ≡ 1
      one all = ap line_feeds (take_all n whole (omega (arith, all, length-append line (10 ∷ [])))) ∙ one_feed

  -- the sink took the first bytes of the line
  cut : AppendsPrefix old.text whole new.text → AddsPart old whole new
  cut text = by (first_of old.text text)
    where
      first_of : (before : Option (List ℕ)) → AppendsPrefix before whole new.text → (n : ℕ) × Appends before (take n whole) new.text
      first_of None none = (0, none)
      first_of (Some text) some = some

      by : ((n : ℕ) × Appends old.text (take n whole) new.text) → AddsPart old whole new
      by first = record {
        part = take first.0 whole;
        rest = drop first.0 whole;
        whole = sym (take-append-drop first.0 whole);
        text = first.1;
        writes = first_counted first.0;
        faults = faults;
      }

  pub line_told : {T E : Type 0} (result : Result T E) → OnOk result (Appends old.text whole new.text) → OnErr result (AppendsPrefix old.text whole new.text) → OnErr result (SinkFailed old new)
      → Tells whole old new result
  line_told (Ok done) text part failed = record { text = text; writes = count ∙ ap (λ k. counted k old.writes) (sym one_feed); faults = faults }
  line_told (Err fault) text part failed = record { failed = failed; told = cut part }
