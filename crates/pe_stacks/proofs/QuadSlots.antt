-- Four slots at once, in a list of which only the first ones are seen.
use Rattle.std.proofs.Common.{◌≡◌, ℕ, zero, suc, ◌+◌, ◌*◌, ◌^◌, ◌<◌, List, take, drop, set, get_or, length, sym, ◌∙◌, ap, arith, Option, None}
use Rattle.std.proofs.Math.Seq.{take-set-lt}
use Rattle.std.proofs.lemmas.List.{length-set, get_or-take, get_or-set_other, set-get_or, drop-set-lt}
use Rattle.pe_base.specs.Tree.Dim.{IsDim}
use Rattle.pe_stacks.specs.declared.quad.Quad.{Quad}
use Rattle.pe_stacks.specs.Quads.{quad_of, set_quad}

-- a quad of a cell's corners is one whole
pub quad_within : (axes q : ℕ) → IsDim axes → 4 * q < 2 ^ axes → 4 * q + 3 < 2 ^ axes
quad_within zero q range h = absurd (omega arith)
quad_within (suc zero) q range h = absurd (omega arith)
quad_within (suc (suc zero)) q range h = omega arith
quad_within (suc (suc (suc zero))) q range h = omega arith
quad_within (suc (suc (suc (suc zero)))) q range h = omega arith
quad_within (suc (suc (suc (suc (suc axes))))) q range h = absurd (omega arith)

module _ {X : Type 0} where
  -- a quad is seen as it is
  pub quad_seen : (n : ℕ) (xs : List (Option X)) (q : ℕ) → 4 * q + 3 < n → quad_of (take n xs) q ≡ quad_of xs q
  quad_seen n xs q h =
      let first = get_or-take n xs (4 * q) None (omega arith) in
      let second = get_or-take n xs (4 * q + 1) None (omega arith) in
      let third = get_or-take n xs (4 * q + 2) None (omega arith) in
      let fourth = get_or-take n xs (4 * q + 3) None h in
      cc

  -- a quad is set as it is
  pub take-set_quad : (n : ℕ) (xs : List (Option X)) (q : ℕ) (quad : Quad X) → 4 * q + 3 < n → take n (set_quad xs q quad) ≡ set_quad (take n xs) q quad
  take-set_quad n xs q quad h =
      let one = set xs (4 * q) quad.p0 in
      let two = set one (4 * q + 1) quad.p1 in
      let three = set two (4 * q + 2) quad.p2 in
      take-set-lt n three (4 * q + 3) quad.p3 h
      ∙ ap (λ ys. set ys (4 * q + 3) quad.p3) (take-set-lt n two (4 * q + 2) quad.p2 (omega arith)
      ∙ ap (λ ys. set ys (4 * q + 2) quad.p2) (take-set-lt n one (4 * q + 1) quad.p1 (omega arith)
      ∙ ap (λ ys. set ys (4 * q + 1) quad.p1) (take-set-lt n xs (4 * q) quad.p0 (omega arith))))

  pub drop-set_quad : (n : ℕ) (xs : List (Option X)) (q : ℕ) (quad : Quad X) → 4 * q + 3 < n → drop n (set_quad xs q quad) ≡ drop n xs
  drop-set_quad n xs q quad h =
      let one = set xs (4 * q) quad.p0 in
      let two = set one (4 * q + 1) quad.p1 in
      let three = set two (4 * q + 2) quad.p2 in
      drop-set-lt n three (4 * q + 3) quad.p3 h
      ∙ drop-set-lt n two (4 * q + 2) quad.p2 (omega arith)
      ∙ drop-set-lt n one (4 * q + 1) quad.p1 (omega arith)
      ∙ drop-set-lt n xs (4 * q) quad.p0 (omega arith)

  pub length-set_quad : (xs : List (Option X)) (q : ℕ) (quad : Quad X) → length (set_quad xs q quad) ≡ length xs
  length-set_quad xs q quad = simp length-set

  -- a slot that is set to what it holds
  kept : (xs ys : List (Option X)) (i : ℕ) → get_or ys i None ≡ get_or xs i None → set ys i (get_or xs i None) ≡ ys
  kept xs ys i same = ap (set ys i) (sym same) ∙ set-get_or ys i None

  -- a quad of which one slot is changed is that slot changed
  pub set_quad-first : (xs : List (Option X)) (q : ℕ) (x : Option X) → set_quad xs q (record (quad_of xs q) { p0 = x }) ≡ set xs (4 * q) x
  set_quad-first xs q x =
      let ys = set xs (4 * q) x in
      let other : (i : ℕ) → 0 < i → get_or ys (4 * q + i) None ≡ get_or xs (4 * q + i) None = λ i h. get_or-set_other xs (4 * q) (4 * q + i) x None (λ e. omega arith) in
      ap (λ zs. set (set zs (4 * q + 2) (get_or xs (4 * q + 2) None)) (4 * q + 3) (get_or xs (4 * q + 3) None)) (kept xs ys (4 * q + 1) (other 1 (omega arith)))
      ∙ ap (λ zs. set zs (4 * q + 3) (get_or xs (4 * q + 3) None)) (kept xs ys (4 * q + 2) (other 2 (omega arith)))
      ∙ kept xs ys (4 * q + 3) (other 3 (omega arith))

  pub set_quad-second : (xs : List (Option X)) (q : ℕ) (x : Option X) → set_quad xs q (record (quad_of xs q) { p1 = x }) ≡ set xs (4 * q + 1) x
  set_quad-second xs q x =
      let ys = set xs (4 * q + 1) x in
      let other : (i : ℕ) → 1 < i → get_or ys (4 * q + i) None ≡ get_or xs (4 * q + i) None = λ i h. get_or-set_other xs (4 * q + 1) (4 * q + i) x None (λ e. omega arith) in
      ap (λ zs. set (set (set zs (4 * q + 1) x) (4 * q + 2) (get_or xs (4 * q + 2) None)) (4 * q + 3) (get_or xs (4 * q + 3) None)) (set-get_or xs (4 * q) None)
      ∙ ap (λ zs. set zs (4 * q + 3) (get_or xs (4 * q + 3) None)) (kept xs ys (4 * q + 2) (other 2 (omega arith)))
      ∙ kept xs ys (4 * q + 3) (other 3 (omega arith))

  pub set_quad-third : (xs : List (Option X)) (q : ℕ) (x : Option X) → set_quad xs q (record (quad_of xs q) { p2 = x }) ≡ set xs (4 * q + 2) x
  set_quad-third xs q x =
      let ys = set xs (4 * q + 2) x in
      let other : (i : ℕ) → 2 < i → get_or ys (4 * q + i) None ≡ get_or xs (4 * q + i) None = λ i h. get_or-set_other xs (4 * q + 2) (4 * q + i) x None (λ e. omega arith) in
      ap (λ zs. set (set (set zs (4 * q + 1) (get_or xs (4 * q + 1) None)) (4 * q + 2) x) (4 * q + 3) (get_or xs (4 * q + 3) None)) (set-get_or xs (4 * q) None)
      ∙ ap (λ zs. set (set zs (4 * q + 2) x) (4 * q + 3) (get_or xs (4 * q + 3) None)) (set-get_or xs (4 * q + 1) None)
      ∙ kept xs ys (4 * q + 3) (other 3 (omega arith))

  pub set_quad-fourth : (xs : List (Option X)) (q : ℕ) (x : Option X) → set_quad xs q (record (quad_of xs q) { p3 = x }) ≡ set xs (4 * q + 3) x
  set_quad-fourth xs q x =
      ap (λ zs. set (set (set zs (4 * q + 1) (get_or xs (4 * q + 1) None)) (4 * q + 2) (get_or xs (4 * q + 2) None)) (4 * q + 3) x) (set-get_or xs (4 * q) None)
      ∙ ap (λ zs. set (set zs (4 * q + 2) (get_or xs (4 * q + 2) None)) (4 * q + 3) x) (set-get_or xs (4 * q + 1) None)
      ∙ ap (λ zs. set zs (4 * q + 3) x) (set-get_or xs (4 * q + 2) None)
