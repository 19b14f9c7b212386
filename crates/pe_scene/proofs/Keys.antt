-- The keys of a table ascend by bytes, so that the first which may not stand there is the least.
use Rattle.std.proofs.Common.{◌≡◌, ℕ, List, [], ◌∷◌, map, true, false, if◌then◌else◌, not, filter, Option, Some, None, Less, Greater, Global, String, string_bytes, refl, ap, ◌∙◌}
use Rattle.std.specs.Ordering.{nat_cmp, is_lt, ordering_reverse}
use Rattle.std.specs.Cmp.Lexicographic.{slice_cmp}
use Rattle.std.specs.List.{AllByRecursion}
use Rattle.std.specs.List.Sorted.{IsStrictlySortedBy}
use Rattle.std.specs.String.{string_cmp}
use Rattle.std.proofs.lemmas.Cmp.{nat_list_cmp_total}
use Rattle.toml.specs.View.{members_view}
use Rattle.toml.specs.declared.value.Value.{Value}
use Rattle.pe_scene.specs.declared.section.Section.{Section}
use Rattle.pe_scene.specs.Sections.{lists, lesser, least_of, keys_in, unknown_of}

-- the keys of some entries
pub keys_in-entries : (es : List (String Global × Value)) → keys_in (members_view es) ≡ map string_bytes (map (λ e. e.0) es)
keys_in-entries [] = refl
keys_in-entries (e ∷ es) = ap (λ keys. string_bytes e.0 ∷ keys) (keys_in-entries es)

abbrev unknown_keys : Section → List (String Global) → List (List ℕ)
unknown_keys section ks = filter (λ key. not (lists section key)) (map string_bytes ks)

abbrev Below : List ℕ → List ℕ → Type 0
Below k l = slice_cmp nat_cmp k l ≡ Less

abbrev BelowIfAny : List ℕ → Option (List ℕ) → Type 0
BelowIfAny k None = Unit {0}
BelowIfAny k (Some l) = Below k l

-- a key that is below another stays the lesser
lesser-below : (k : List ℕ) (found : Option (List ℕ)) → BelowIfAny k found → lesser k found ≡ k
lesser-below k None below = refl
lesser-below k (Some l) below =
    let back : slice_cmp nat_cmp l k ≡ Greater = nat_list_cmp_total.antisymm l k ∙ ap ordering_reverse below in
    rw back refl

below-lesser : (k l : List ℕ) (found : Option (List ℕ)) → Below k l → BelowIfAny k found → Below k (lesser l found)
below-lesser k l None first rest = first
below-lesser k l (Some o) first rest = elim (is_lt (slice_cmp nat_cmp o l)) as (λ b. Below k (if b then o else l)) [ true ↦ rest | false ↦ first ]

below-least : (section : Section) (k : String Global) (ks : List (String Global)) → AllByRecursion (λ y. string_cmp k y ≡ Less) ks → BelowIfAny (string_bytes k) (unknown_of section (map string_bytes ks))
below-least section k [] below = tt
below-least section k (l ∷ ks) below =
    let rest = below-least section k ks below.1 in
    elim (lists section (string_bytes l)) as (λ b. BelowIfAny (string_bytes k) (least_of (if not b then string_bytes l ∷ unknown_keys section ks else unknown_keys section ks))) [
      | true ↦ rest
      | false ↦ below-lesser (string_bytes k) (string_bytes l) (unknown_of section (map string_bytes ks)) below.0 rest
    ]

-- a key that may not stand there, with greater ones behind it, is the least of them
pub unknown_of-first : (section : Section) (k : String Global) (ks : List (String Global)) → IsStrictlySortedBy string_cmp (k ∷ ks) → lists section (string_bytes k) ≡ false → unknown_of section (map string_bytes (k ∷ ks)) ≡ Some (string_bytes k)
unfolding IsStrictlySortedBy
unknown_of-first section k ks ascend not_listed =
    rw not_listed (ap Some (lesser-below (string_bytes k) (unknown_of section (map string_bytes ks)) (below-least section k ks ascend.0)))

pub unknown_of-listed : (section : Section) (k : List ℕ) (ks : List (List ℕ)) → lists section k ≡ true → unknown_of section (k ∷ ks) ≡ unknown_of section ks
unknown_of-listed section k ks listed = rw listed refl
