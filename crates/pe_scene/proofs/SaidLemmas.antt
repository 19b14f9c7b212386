-- What the bytes of a scenario say, by its document.
use Rattle.std.proofs.Common.{◌≡◌, ◌⊎◌, ℕ, ◌≤◌, true, false, if◌then◌else◌, List, length, Option, None, inl, inr, refl, sym, ap, ◌∙◌}
use Rattle.std.specs.Str.{IsUtf8, is_utf8}
use Rattle.std.proofs.lemmas.Str.{IsUtf8-from_is_utf8, is_utf8-from_IsUtf8}
use Rattle.std.proofs.lemmas.Bool.{false≢true, le-ltb}
use Rattle.toml.specs.Data.{Members}
use Rattle.toml.specs.Parse.{parse_document}
use Rattle.pe_base.specs.Limits.{scenario_bytes}
use Rattle.pe_scene.specs.Said.{document_of, of_document, scenario_of}

-- the table of bytes that are text
pub document_of-text : (bytes : List ℕ) (r : Option Members) → (IsUtf8 bytes → parse_document bytes ≡ r) → (r ≡ None ⊎ IsUtf8 bytes) → document_of bytes ≡ r
unfolding document_of
document_of-text bytes r read known =
    elim (is_utf8 bytes) as (λ b. is_utf8 bytes ≡ b → (if b then parse_document bytes else None) ≡ r) [
      | true ↦ λ e. read (IsUtf8-from_is_utf8 bytes e)
      | false ↦ λ e. elim known [
        | inl none ↦ sym none
        | inr text ↦ absurd (false≢true (sym e ∙ is_utf8-from_IsUtf8 bytes text))
      ]
    ] refl

-- bytes within the limit say what their document says
pub scenario_of-document : (bytes : List ℕ) (r : Option Members) → length bytes ≤ scenario_bytes → document_of bytes ≡ r → scenario_of bytes ≡ of_document r
unfolding scenario_of
scenario_of-document bytes r small is = rw (le-ltb scenario_bytes (length bytes) small) (ap of_document is)
