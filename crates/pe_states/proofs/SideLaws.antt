-- Ages along one axis: a child's sides by its parent's.
use Rattle.std.proofs.Common.{◌≡◌, ℕ, zero, suc, ◌+◌, ◌-◌, ◌*◌, ◌/◌, ◌%◌, ◌^◌, ◌<◌, ◌≤◌, Bool, true, false, ◌||◌, refl, sym, ap, ap₂, ◌∙◌, inl, inr, arith, IsTrue}
use Rattle.std.specs.Prelude.{◌==◌, bit_or, bit_and, nat_lt, nat_le, if◌then◌else◌}
use Rattle.std.specs.Int.{bit_at}
use Rattle.std.specs.List.{list_any, list_all, range_with_len}
use Rattle.std.proofs.Math.Nat.{mul-le-mul_left}
use Rattle.std.proofs.lemmas.Bool.{cases_lt, cond_both, and_parts, or_cases, eq-eqb, eqb-true, ltb-true, leb-true, le-ltb, both_ways, true≢false, and_right}
use Rattle.std.proofs.lemmas.Nat.{div-mul-add, pow_pos, shr_split, and_le_r, or_lt}
use Rattle.std.proofs.lemmas.Nat.Bits.{bit_at_cat_low}
use Rattle.std.proofs.Math.Bool.{or-false}
use Rattle.pe_base.specs.Life.Carriers.{thirds}
use Rattle.pe_base.proofs.Lists.{Each-all, list_any_none}
use Rattle.pe_states.specs.Ages.{has_bit}
use Rattle.pe_states.specs.Sides.{is_near_at, are_near, on_side, IsSpread}
use Rattle.pe_states.proofs.Bits.{has_bit_or, has_bit_and, lacks_bit, has_bit_shr, has_bit_shl_low, has_bit_shl_high, and_true, passed}

-- a number of the near side's bits, with the width of its runs
pub record IsNearSide (width near : ℕ) : Type 0 where
  pub positive : 0 < width
  pub small : width < 16
  pub aligned : 32 % (2 * width) ≡ 0
  pub each : (n : ℕ) → n < 32 → is_near_at width near n ≡ true

pub near_side : (width near : ℕ) → IsTrue (are_near width near) → IsNearSide width near
near_side width near h =
    let all = and_parts _ (list_all (is_near_at width near) (range_with_len 0 32)) h in
    let runs = and_parts _ (32 % (2 * width) == 0) all.0 in
    let range = and_parts (nat_lt 0 width) (nat_lt width 16) runs.0 in
    record {
      positive = ltb-true 0 width range.0;
      small = ltb-true width 16 range.1;
      aligned = eqb-true (32 % (2 * width)) 0 runs.1;
      each = λ n below. passed (is_near_at width near) 0 32 n all.1 (omega arith) (omega arith);
    }

-- on which side a corner lies
pub side_of : (width low high side : ℕ) → low < width → side < 2 → on_side width low high side / width % 2 ≡ side
side_of width low high side h k =
    let whole : on_side width low high side ≡ (side + 2 * high) * width + low = omega arith in
    let quotient : on_side width low high side / width ≡ side + 2 * high = ap (λ (x : ℕ). x / width) whole ∙ div-mul-add (side + 2 * high) width low h in
    omega (arith, quotient)

pub record OnNear (width near n : ℕ) : Type 0 where
  pub here : has_bit near n ≡ true
  pub before : width ≤ n → has_bit near (n - width) ≡ false

pub record OnFar (width near n : ℕ) : Type 0 where
  pub here : has_bit near n ≡ false
  pub inside : width ≤ n
  pub before : has_bit near (n - width) ≡ true

taken : (b : Bool) (x y : Bool) → (if b then x else y) ≡ true → b ≡ true → x ≡ true
taken true x y h e = h
taken false x y h e = absurd (true≢false (sym e))

left : (b : Bool) (x y : Bool) → (if b then x else y) ≡ true → b ≡ false → y ≡ true
left true x y h e = absurd (true≢false e)
left false x y h e = h

unset : (near n : ℕ) → (bit_at near n == 0) ≡ true → has_bit near n ≡ false
unset near n h = ap (λ (x : ℕ). x == 1) (eqb-true (bit_at near n) 0 h)

pub on_near : (width near n : ℕ) → IsNearSide width near → n < 32 → n / width % 2 ≡ 0 → OnNear width near n
on_near width near n h below side =
    let parts = and_parts (bit_at near n == 1) _ (taken (n / width % 2 == 0) _ _ (h.each n below) (eq-eqb (n / width % 2) 0 side)) in
    record {
      here = parts.0;
      before = λ far. elim (or_cases (nat_lt n width) (bit_at near (n - width) == 0) parts.1) [
        | inl less ↦ absurd (both_ways (nat_lt n width) (le-ltb n width far) less)
        | inr none ↦ unset near (n - width) none
      ];
    }

pub on_far : (width near n : ℕ) → IsNearSide width near → n < 32 → n / width % 2 ≡ 1 → OnFar width near n
on_far width near n h below side =
    let test : (n / width % 2 == 0) ≡ false = ap (λ (x : ℕ). x == 0) side in
    let all = and_parts _ (bit_at near (n - width) == 1) (left (n / width % 2 == 0) _ _ (h.each n below) test) in
    let first = and_parts (bit_at near n == 0) (nat_le width n) all.0 in
    record { here = unset near n first.0; inside = leb-true width n first.1; before = all.1 }

-- what one side of the child has of two sides of the parent
abbrev pub blend : Bool → ℕ → ℕ → ℕ
blend alone one other = if alone then one else other

blend_at : (alone : Bool) (one both n : ℕ) (a b : Bool) → has_bit one n ≡ a → has_bit both n ≡ b → has_bit (blend alone one both) n ≡ (if alone then a else b)
blend_at true one both n a b e f = e
blend_at false one both n a b e f = f

same_if : (alone : Bool) (a : Bool) → (if alone then a else a) ≡ a
same_if true a = refl
same_if false a = refl

-- the bits of a number that stay in 32 bits
kept : (x n : ℕ) → n < 32 → has_bit (x % 2 ^ 32) n ≡ has_bit x n
kept x n h =
    ap (λ (b : ℕ). b == 1) (sym (bit_at_cat_low (x / 2 ^ 32) 32 (x % 2 ^ 32) n h)) ∙ ap (λ (y : ℕ). has_bit y n) (shr_split x 32)

-- beyond 32 bits a corner and its neighbour along the axis lie together
beyond : (width low high side s : ℕ) → 32 % (2 * width) ≡ 0 → low < width → side < 2 → 32 ≤ on_side width low high side → 32 ≤ on_side width low high s
beyond width low high side s aligned h k past =
    let q = 32 / (2 * width) in
    let whole : 32 ≡ 2 * width * q = omega arith in
    elim (cases_lt high q) [
      | inl less ↦ (
          let most : 2 * width * (high + 1) ≤ 2 * width * q = mul-le-mul_left (2 * width) (omega arith) in
          let little : width * side ≤ width * 1 = mul-le-mul_left width (omega arith) in
          absurd (omega arith))
      | inr more ↦ (let least : 2 * width * q ≤ 2 * width * high = mul-le-mul_left (2 * width) more in omega arith)
    ]

module _ (width near digit m : ℕ) where
  abbrev pub near_ages : ℕ
  near_ages = bit_and m near

  abbrev pub far_ages : ℕ
  far_ages = bit_and (m / 2 ^ width) near

  abbrev pub low_ages : ℕ
  low_ages = blend (digit == 0) near_ages (bit_or near_ages far_ages)

  abbrev pub high_ages : ℕ
  high_ages = blend (digit == 2) far_ages (bit_or near_ages far_ages)

  abbrev pub spread_ages : ℕ
  spread_ages = bit_or low_ages (high_ages * 2 ^ width % 2 ^ 32)

  -- they fit 32 bits
  pub spread_fits : near < 2 ^ 32 → spread_ages < 2 ^ 32
  spread_fits h =
      let near_fits : near_ages < 2 ^ 32 = omega (arith, and_le_r m near) in
      let far_fits : far_ages < 2 ^ 32 = omega (arith, and_le_r (m / 2 ^ width) near) in
      let low_fits : low_ages < 2 ^ 32 = cond_both (digit == 0) near_ages (bit_or near_ages far_ages) (λ (x : ℕ). x < 2 ^ 32) (λ e. near_fits) (λ e. or_lt 32 near_ages far_ages near_fits far_fits) in
      or_lt 32 low_ages (high_ages * 2 ^ width % 2 ^ 32) low_fits (omega arith)

  near_on : (n : ℕ) → has_bit near n ≡ true → has_bit near_ages n ≡ has_bit m n
  near_on n h = has_bit_and m near n ∙ and_true (has_bit m n) (has_bit near n) h

  far_on : (n : ℕ) → has_bit near n ≡ true → has_bit far_ages n ≡ has_bit m (n + width)
  far_on n h = has_bit_and (m / 2 ^ width) near n ∙ and_true (has_bit (m / 2 ^ width) n) (has_bit near n) h ∙ has_bit_shr m width n

  both_on : (n : ℕ) → has_bit near n ≡ true → has_bit (bit_or near_ages far_ages) n ≡ (has_bit m n || has_bit m (n + width))
  both_on n h = has_bit_or near_ages far_ages n ∙ ap₂ (λ a b. a || b) (near_on n h) (far_on n h)

  near_off : (n : ℕ) → has_bit near n ≡ false → has_bit near_ages n ≡ false
  near_off n h = has_bit_and m near n ∙ and_right (has_bit m n) (has_bit near n) h

  far_off : (n : ℕ) → has_bit near n ≡ false → has_bit far_ages n ≡ false
  far_off n h = has_bit_and (m / 2 ^ width) near n ∙ and_right (has_bit (m / 2 ^ width) n) (has_bit near n) h

  both_off : (n : ℕ) → has_bit near n ≡ false → has_bit (bit_or near_ages far_ages) n ≡ false
  both_off n h = has_bit_or near_ages far_ages n ∙ ap₂ (λ a b. a || b) (near_off n h) (far_off n h)

  low_off : (n : ℕ) → has_bit near n ≡ false → has_bit low_ages n ≡ false
  low_off n h = blend_at (digit == 0) near_ages (bit_or near_ages far_ages) n false false (near_off n h) (both_off n h) ∙ same_if (digit == 0) false

  high_off : (n : ℕ) → has_bit near n ≡ false → has_bit high_ages n ≡ false
  high_off n h = blend_at (digit == 2) far_ages (bit_or near_ages far_ages) n false false (far_off n h) (both_off n h) ∙ same_if (digit == 2) false

  low_on : (n : ℕ) → has_bit near n ≡ true → has_bit low_ages n ≡ (if digit == 0 then has_bit m n else (has_bit m n || has_bit m (n + width)))
  low_on n h = blend_at (digit == 0) near_ages (bit_or near_ages far_ages) n _ _ (near_on n h) (both_on n h)

  high_on : (n : ℕ) → has_bit near n ≡ true → has_bit high_ages n ≡ (if digit == 2 then has_bit m (n + width) else (has_bit m n || has_bit m (n + width)))
  high_on n h = blend_at (digit == 2) far_ages (bit_or near_ages far_ages) n _ _ (far_on n h) (both_on n h)

  shifted_low : (n : ℕ) → n < 32 → n < width → has_bit (high_ages * 2 ^ width % 2 ^ 32) n ≡ false
  shifted_low n below h = kept (high_ages * 2 ^ width) n below ∙ has_bit_shl_low high_ages width n h

  shifted_high : (n : ℕ) → n < 32 → width ≤ n → has_bit (high_ages * 2 ^ width % 2 ^ 32) n ≡ has_bit high_ages (n - width)
  shifted_high n below h = kept (high_ages * 2 ^ width) n below ∙ has_bit_shl_high high_ages width n h (pow_pos width)

  -- a near corner of the child
  at_near : (n : ℕ) → n < 32 → OnNear width near n → has_bit spread_ages n ≡ (if digit == 0 then has_bit m n else (has_bit m n || has_bit m (n + width)))
  at_near n below h =
      let shifted : has_bit (high_ages * 2 ^ width % 2 ^ 32) n ≡ false = elim (cases_lt n width) [
        | inl less ↦ shifted_low n below less
        | inr more ↦ shifted_high n below more ∙ high_off (n - width) (h.before more)
      ] in
      has_bit_or low_ages (high_ages * 2 ^ width % 2 ^ 32) n ∙ ap₂ (λ a b. a || b) (low_on n h.here) shifted ∙ or-false _

  -- a far corner of the child
  at_far : (n : ℕ) → n < 32 → OnFar width near n → has_bit spread_ages n ≡ (if digit == 2 then has_bit m n else (has_bit m (n - width) || has_bit m n))
  at_far n below h =
      let back : n - width + width ≡ n = (let inside = h.inside in omega arith) in
      has_bit_or low_ages (high_ages * 2 ^ width % 2 ^ 32) n
      ∙ ap₂ (λ a b. a || b) (low_off n h.here) (shifted_high n below h.inside ∙ high_on (n - width) h.before)
      ∙ ap (λ (i : ℕ). if digit == 2 then has_bit m i else (has_bit m (n - width) || has_bit m i)) back

-- the carriers' sides, by the digit
near_thirds : (p : ℕ → Bool) (digit : ℕ) → digit < 3 → (if digit == 0 then p 0 else (p 0 || p 1)) ≡ list_any p (thirds (digit + 0))
near_thirds p zero h = sym (or-false (p 0))
near_thirds p (suc zero) h = ap (λ b. p 0 || b) (sym (or-false (p 1)))
near_thirds p (suc (suc zero)) h = ap (λ b. p 0 || b) (sym (or-false (p 1)))
near_thirds p (suc (suc (suc digit))) h = absurd (omega arith)

far_thirds : (p : ℕ → Bool) (digit : ℕ) → digit < 3 → (if digit == 2 then p 1 else (p 0 || p 1)) ≡ list_any p (thirds (digit + 1))
far_thirds p zero h = ap (λ b. p 0 || b) (sym (or-false (p 1)))
far_thirds p (suc zero) h = ap (λ b. p 0 || b) (sym (or-false (p 1)))
far_thirds p (suc (suc zero)) h = sym (or-false (p 1))
far_thirds p (suc (suc (suc digit))) h = absurd (omega arith)

-- each corner of the child has the ages of its carriers along the axis
pub spread_is : (width near digit m : ℕ) → IsTrue (are_near width near) → digit < 3 → m < 2 ^ 32 → near < 2 ^ 32 → IsSpread width digit m (spread_ages width near digit m)
spread_is width near digit m are small fits fits' low high side h k =
    let sides = near_side width near are in
    let n = on_side width low high side in
    let p : ℕ → Bool = λ s. has_bit m (on_side width low high s) in
    elim (cases_lt n 32) [
      | inr past ↦
          lacks_bit (spread_ages width near digit m) 32 n (spread_fits width near digit m fits') past
          ∙ sym (list_any_none p (thirds (digit + side)) (Each-all (λ s. p s ≡ false) (λ s. lacks_bit m 32 (on_side width low high s) fits (beyond width low high side s sides.aligned h k past)) (thirds (digit + side))))
      | inl below ↦ inside side h k below
    ]
  where
    inside : (side : ℕ) → low < width → side < 2 → on_side width low high side < 32 → has_bit (spread_ages width near digit m) (on_side width low high side) ≡ list_any (λ s. has_bit m (on_side width low high s)) (thirds (digit + side))
    inside zero h k below =
        let n = on_side width low high 0 in
        let next : n + width ≡ on_side width low high 1 = omega arith in
        at_near width near digit m n below (on_near width near n (near_side width near are) below (side_of width low high 0 h k))
        ∙ ap (λ (i : ℕ). if digit == 0 then has_bit m n else (has_bit m n || has_bit m i)) next
        ∙ near_thirds (λ s. has_bit m (on_side width low high s)) digit small
    inside (suc zero) h k below =
        let n = on_side width low high 1 in
        let before : n - width ≡ on_side width low high 0 = omega arith in
        at_far width near digit m n below (on_far width near n (near_side width near are) below (side_of width low high 1 h k))
        ∙ ap (λ (i : ℕ). if digit == 2 then has_bit m n else (has_bit m i || has_bit m n)) before
        ∙ far_thirds (λ s. has_bit m (on_side width low high s)) digit small
    inside (suc (suc side)) h k below = absurd (omega arith)
