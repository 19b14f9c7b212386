-- With four axes the greatest of three numbers stands at each corner.
use Rattle.std.proofs.Common.{◌≡◌, ℕ, zero, suc, ◌/◌, ◌%◌, ◌<◌, [], ◌∷◌, max, arith}
use Rattle.std.specs.Prelude.{slice_index}
use Rattle.pe_access.specs.Rows.{side_of}
use Rattle.pe_access.proofs.state.set_greatest.Goals as goal

assoc : (a n x y z : ℕ) → a ≡ max x y → n ≡ max a z → n ≡ max x (max y z)
assoc a n x y z e f = omega arith

of_eight : (P : ℕ → Type 0) → P 0 → P 1 → P 2 → P 3 → P 4 → P 5 → P 6 → P 7 → (n : ℕ) → n < 8 → P n
of_eight P a b c d e f g h zero few = a
of_eight P a b c d e f g h (suc zero) few = b
of_eight P a b c d e f g h (suc (suc zero)) few = c
of_eight P a b c d e f g h (suc (suc (suc zero))) few = d
of_eight P a b c d e f g h (suc (suc (suc (suc zero)))) few = e
of_eight P a b c d e f g h (suc (suc (suc (suc (suc zero))))) few = f
of_eight P a b c d e f g h (suc (suc (suc (suc (suc (suc zero)))))) few = g
of_eight P a b c d e f g h (suc (suc (suc (suc (suc (suc (suc zero))))))) few = h
of_eight P a b c d e f g h (suc (suc (suc (suc (suc (suc (suc (suc n)))))))) few = absurd (omega arith)

pub returns-clause-four : goal.returns-clause-four
returns-clause-four c four =
    of_eight (λ corner. slice_index (c.max.result ∷ c.max-2.result ∷ c.max-3.result ∷ c.max-4.result ∷ c.max-5.result ∷ c.max-6.result ∷ c.max-7.result ∷ c.max-8.result ∷ []) corner
    ≡ max (side_of c.args.x (corner % 2)) (max (side_of c.args.y (corner / 2 % 2)) (side_of c.args.z (corner / 4))))
    (assoc _ _ _ _ _ c.max-a.ensures c.max.ensures)
    (assoc _ _ _ _ _ c.max-b.ensures c.max-2.ensures)
    (assoc _ _ _ _ _ c.max-c.ensures c.max-3.ensures)
    (assoc _ _ _ _ _ c.max-d.ensures c.max-4.ensures)
    (assoc _ _ _ _ _ c.max-a.ensures c.max-5.ensures)
    (assoc _ _ _ _ _ c.max-b.ensures c.max-6.ensures)
    (assoc _ _ _ _ _ c.max-c.ensures c.max-7.ensures)
    (assoc _ _ _ _ _ c.max-d.ensures c.max-8.ensures)
