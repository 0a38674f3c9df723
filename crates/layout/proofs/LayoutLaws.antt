-- A section lies within the numbers of the table's rows, and two sections share no number.
use Rattle.std.specs.Prelude.{◌≡◌, false, ℕ, zero, suc, ◌+◌, ◌*◌, ◌≤◌, ◌<◌, eqb}
use Rattle.std.proofs.Common.{inl, inr, arith}
use mathlib.Core.List.{List, [], ◌∷◌}
use Rattle.std.proofs.Math.Decide.{dec_lt}
use Rattle.std.proofs.lemmas.Bool.{eqb-false}
use Rattle.layout.specs.Layout.{Extent, total, section_from, section, end}
use Rattle.layout.specs.LayoutLaws.{Apart}

-- ---- the table
-- a section lies within the numbers of its rows
inside : (rows : List Extent) (at k : ℕ) → (at ≤ (section_from at rows k).at) × (end (section_from at rows k) ≤ at + total rows)
inside [] at k = (omega arith, omega arith)
inside (r ∷ rs) at zero = (omega arith, omega arith)
inside (r ∷ rs) at (suc k) = let h = inside rs (at + r.width * r.count) k in (omega arith, omega arith)

pub section_inside : (rows : List Extent) (k : ℕ) → end (section rows k) ≤ total rows
section_inside rows k = omega (arith, (inside rows 0 k).1)

before : (rows : List Extent) (at k l : ℕ) → k < l → end (section_from at rows k) ≤ (section_from at rows l).at
before [] at k l h = omega arith
before (r ∷ rs) at k zero h = absurd (omega arith)
before (r ∷ rs) at zero (suc l) h = (inside rs (at + r.width * r.count) l).0
before (r ∷ rs) at (suc k) (suc l) h = before rs (at + r.width * r.count) k l (omega arith)

pub sections_apart : (rows : List Extent) (k l : ℕ) → eqb k l ≡ false → Apart (section rows k) (section rows l)
sections_apart rows k l e = cases (dec_lt k l)
  where
    cases : Dec (k < l) → Apart (section rows k) (section rows l)
    cases (yes h) = inl (before rows 0 k l h)
    cases (no h) = inr (before rows 0 l k (let d : k ≡ l → ⊥ = eqb-false k l e in omega (arith, d)))
