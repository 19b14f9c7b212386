-- Line feeds of what lines are made of: there is none in a number, a name or a key, and one at the end of each line.
use Rattle.std.proofs.Common.{◌≡◌, ◌∙◌, sym, ap, refl, ℕ, zero, suc, ◌+◌, ◌<◌, ◌%◌, ◌/◌, ◌||◌, ◌==◌, ℤ, pos, negsuc, Bool, true, false, cond, List, [], ◌∷◌, ◌++◌, map, take, All, decimal, arith}
use Rattle.std.specs.List.{flat_map}
use Rattle.std.specs.Char.{is_ascii_alphanumeric}
use Rattle.std.specs.Fmt.{signed_decimal, digit_glyph, digits_onto, digits}
use Rattle.std.proofs.lemmas.List.Sums.{sum_by-cons, sum_by-append}
use Rattle.pe_base.specs.declared.event.Event.{Event}
use Rattle.pe_base.specs.declared.event.Event.TheVariants.{BeginIteration, EndIteration, TouchVertexFirstTime, TouchVertexLastTime, CreateInnerVertex, CreateHangingVertex, DestroyVertex, DestroyHangingVertex, CreateCell, DestroyCell, EnterCell, LeaveCell}
use Rattle.pe_base.specs.Acts.Events.{name_of}
use Rattle.pe_base.specs.Lines.{line, shown_byte, shown_key}
use Rattle.pe_base.specs.Calls.Told.{feeds_of, line_feeds}

-- bytes that are no line feed
feeds-other : (byte : ℕ) (bytes : List ℕ) → (byte == 10) ≡ false → line_feeds (byte ∷ bytes) ≡ line_feeds bytes
feeds-other byte bytes other = omega (arith, sum_by-cons feeds_of byte bytes, none)
  where
    none : feeds_of byte ≡ 0
    none = ap (λ b. cond b 1 0) other

digit_glyph-other : (d : ℕ) → d < 10 → (digit_glyph false d == 10) ≡ false
digit_glyph-other d small = grind arith

feeds_digits : (k n : ℕ) (bytes : List ℕ) → line_feeds (digits_onto k 10 false n bytes) ≡ line_feeds bytes
feeds_digits zero n bytes = refl
feeds_digits (suc k) n bytes = by (n / 10 == 0) (feeds_digits k (n / 10) (digit_glyph false (n % 10) ∷ bytes))
  where
    here : line_feeds (digit_glyph false (n % 10) ∷ bytes) ≡ line_feeds bytes
    here = feeds-other (digit_glyph false (n % 10)) bytes (digit_glyph-other (n % 10) (omega arith))

    by : (last : Bool) → line_feeds (digits_onto k 10 false (n / 10) (digit_glyph false (n % 10) ∷ bytes)) ≡ line_feeds (digit_glyph false (n % 10) ∷ bytes)
        → line_feeds (cond last (digit_glyph false (n % 10) ∷ bytes) (digits_onto k 10 false (n / 10) (digit_glyph false (n % 10) ∷ bytes))) ≡ line_feeds bytes
    by true rest = here
    by false rest = rest ∙ here

pub feeds_decimal : (n : ℕ) → line_feeds (decimal n) ≡ 0
unfolding digits
feeds_decimal n = feeds_digits 64 n []

pub feeds_signed : (n : ℤ) → line_feeds (signed_decimal n) ≡ 0
feeds_signed (pos n) = feeds_decimal n
feeds_signed (negsuc n) = feeds_decimal (suc n)

pub feeds_name : (event : Event) → line_feeds (name_of event) ≡ 0
feeds_name BeginIteration = refl
feeds_name EndIteration = refl
feeds_name TouchVertexFirstTime = refl
feeds_name TouchVertexLastTime = refl
feeds_name CreateInnerVertex = refl
feeds_name CreateHangingVertex = refl
feeds_name DestroyVertex = refl
feeds_name DestroyHangingVertex = refl
feeds_name CreateCell = refl
feeds_name DestroyCell = refl
feeds_name EnterCell = refl
feeds_name LeaveCell = refl

-- a byte as it is shown is a line feed for no byte
shown_byte-other : (byte : ℕ) → (shown_byte byte == 10) ≡ false
shown_byte-other byte = by (is_ascii_alphanumeric byte || byte == 95 || byte == 45 || byte == 46) refl
  where
    by : (same : Bool) → (is_ascii_alphanumeric byte || byte == 95 || byte == 45 || byte == 46) ≡ same → (cond same byte 63 == 10) ≡ false
    by true is = grind arith
    by false is = refl

pub feeds_shown : (bytes : List ℕ) → line_feeds (map shown_byte bytes) ≡ 0
feeds_shown [] = refl
feeds_shown (byte ∷ bytes) = feeds-other (shown_byte byte) (map shown_byte bytes) (shown_byte-other byte) ∙ feeds_shown bytes

pub feeds_key : (key : List ℕ) → line_feeds (shown_key key) ≡ 0
feeds_key key = feeds_shown (take 64 key)

-- parts that have none, each behind one space
module _ {X : Type 0} (text : X → List ℕ) (none : (x : X) → line_feeds (text x) ≡ 0) where
  pub feeds_parts : (xs : List X) → line_feeds (flat_map (λ part. 32 ∷ part) (map text xs)) ≡ 0
  feeds_parts [] = refl
  feeds_parts (x ∷ xs) =
      let rest : List ℕ = flat_map (λ part. 32 ∷ part) (map text xs) in
      omega (arith, sum_by-append feeds_of (32 ∷ text x) rest, feeds-other 32 (text x) refl, none x, feeds_parts xs)

  -- and the whole line
  pub feeds_line : (word : List ℕ) (xs : List X) → line_feeds word ≡ 0 → line_feeds (line word (map text xs)) ≡ 1
  feeds_line word xs plain =
      let parts : List ℕ = flat_map (λ part. 32 ∷ part) (map text xs) in
      let one : line_feeds (10 ∷ []) ≡ 1 = refl in
      omega (arith, sum_by-append feeds_of (word ++ parts) (10 ∷ []), sum_by-append feeds_of word parts, feeds_parts xs, plain, one)
