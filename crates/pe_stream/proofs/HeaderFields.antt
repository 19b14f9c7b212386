-- The fields of a header, one after another.
use Rattle.std.proofs.Common.{◌≡◌, ℕ, zero, suc, ◌+◌, ◌<◌, ◌≤◌, List, [], ◌∷◌, ◌++◌, length, take, map, get_or, Some, None, refl, ap, sym, subst, ◌∙◌, arith}
use Rattle.std.specs.List.{AllByRecursion}
use Rattle.std.proofs.lemmas.List.{take_more, take_all}
use Rattle.pe_stream.specs.declared.fault.HeaderField.{HeaderField}
use Rattle.pe_stream.specs.declared.fault.HeaderField.TheVariants.{Dim, MaxLevel, VertexFields, CellFields, GlobalFields, Zero, Traversals}
use Rattle.pe_stream.specs.declared.fault.StreamFault.{StreamFault}
use Rattle.pe_stream.specs.declared.range.Range.{Range}
use Rattle.pe_stream.specs.Ranges.{IsIn, limits}
use Rattle.pe_stream.specs.Faults.{found, first_of, out_of_range, header_fields, first_out_of_range}

-- a field is in its range
pub record Passes (ranges : HeaderField → Range) (bytes : List ℕ) (field : HeaderField) : Type 0 where
  pub tested : out_of_range ranges bytes field ≡ None
  pub expected : IsIn (ranges field) (found bytes field)
  pub in_limits : IsIn (limits field) (found bytes field)

push : {X : Type 0} (P : X → Type 0) (xs : List X) (x : X) → AllByRecursion P xs → P x → AllByRecursion P (xs ++ x ∷ [])
push P [] x all here = (here, tt)
push P (y ∷ ys) x all here = (all.0, push P ys x all.1 here)

-- one field more
pub passes_more : (P : HeaderField → Type 0) (fields : List HeaderField) (i : ℕ) (field : HeaderField) → i < length fields → field ≡ get_or fields i Dim
    → AllByRecursion P (take i fields) → P field → AllByRecursion P (take (i + 1) fields)
passes_more P fields i field inside is so_far here =
    subst (AllByRecursion P) (ap (λ f. take i fields ++ f ∷ []) is ∙ sym (take_more fields i Dim inside)) (push P (take i fields) field so_far here)

module _ (ranges : HeaderField → Range) (bytes : List ℕ) where
  -- the first field that does not pass
  pub first_found : (fields : List HeaderField) (i : ℕ) (field : HeaderField) (fault : StreamFault) → i < length fields → field ≡ get_or fields i Dim
      → AllByRecursion (Passes ranges bytes) (take i fields) → out_of_range ranges bytes field ≡ Some fault → first_of (map (out_of_range ranges bytes) fields) ≡ Some fault
  first_found [] i field fault inside is so_far fails = absurd (omega arith)
  first_found (f ∷ fs) zero field fault inside is so_far fails =
      ap (λ t. first_of (t ∷ map (out_of_range ranges bytes) fs)) (ap (out_of_range ranges bytes) (sym is) ∙ fails)
  first_found (f ∷ fs) (suc i) field fault inside is so_far fails =
      ap (λ t. first_of (t ∷ map (out_of_range ranges bytes) fs)) so_far.0.tested ∙ first_found fs i field fault (omega arith) is so_far.1 fails

  none_found : (fields : List HeaderField) → AllByRecursion (Passes ranges bytes) fields → first_of (map (out_of_range ranges bytes) fields) ≡ None
  none_found [] all = refl
  none_found (f ∷ fs) all = ap (λ t. first_of (t ∷ map (out_of_range ranges bytes) fs)) all.0.tested ∙ none_found fs all.1

  -- all fields pass
  pub record AllPass : Type 0 where
    pub none : first_out_of_range ranges bytes ≡ None
    pub each : (field : HeaderField) → Passes ranges bytes field

  by_field : AllByRecursion (Passes ranges bytes) header_fields → (field : HeaderField) → Passes ranges bytes field
  by_field all Dim = all.0
  by_field all MaxLevel = all.1.0
  by_field all VertexFields = all.1.1.0
  by_field all CellFields = all.1.1.1.0
  by_field all GlobalFields = all.1.1.1.1.0
  by_field all Zero = all.1.1.1.1.1.0
  by_field all Traversals = all.1.1.1.1.1.1.0

  pub all_pass : (i : ℕ) → 7 ≤ i → AllByRecursion (Passes ranges bytes) (take i header_fields) → AllPass
  all_pass i past so_far =
      let all : AllByRecursion (Passes ranges bytes) header_fields = subst (AllByRecursion (Passes ranges bytes)) (take_all i header_fields past) so_far in
      record { none = none_found header_fields all; each = by_field all }
