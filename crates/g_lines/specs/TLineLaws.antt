-- The numbers of a line whose raws are replaced: those of the other fields stay, and a raw is read back.
use Rattle.std.proofs.Math.Path.{◌≡◌, refl}
use Rattle.std.proofs.Common.{ap, sym, ◌∙◌, arith}
use Rattle.std.specs.Prelude.{Bool, cond, ℕ, zero, suc, ◌+◌, ◌<◌, ◌≤◌, ℤ, pos, nat_abs, length, get_or}
use Rattle.std.proofs.Math.Bool.{true, false}
use mathlib.Core.List.{List, [], ◌∷◌}
use Rattle.lists.specs.Each.{Each, each_so, each_get_or}
use Rattle.text.specs.Pieces.{comma, minus}
use Rattle.text.specs.Numbers.{Number, Value, Malformed, number_of}
use Rattle.hexadecimal.specs.Hexadecimal.{hex_of}
use Rattle.decimals.specs.Decimals.{signed_decimal}
use Rattle.decimals.specs.ReadBackLaws.{read_back, bytes_from}
use Rattle.package.specs.Given.{Raws}
use Rattle.job_text.specs.Letters.{letter_g, raw, form_of}
use Rattle.job_text.specs.Lines.{Numbers, none, all, first, numbers_of}
use Rattle.g_lines.specs.JoinedLaws.{Without}
use Rattle.g_lines.specs.TLine.{letter_t, raw_index, raw_of, with_raws}

-- raws that a field can hold
abbrev pub Held : Raws → Type 0
Held q = Each (λ z. nat_abs z < 100000000) (q.r1 ∷ q.r2 ∷ q.r3 ∷ q.r4 ∷ [])

-- the numbers with these raws
unfoldable pub numbers_with : Raws → ℕ → List ℤ → List ℤ
numbers_with q n [] = []
numbers_with q n (z ∷ zs) = cond (raw n) (raw_of q n) z ∷ numbers_with q (n + 1) zs

pub numbers_as_many : (q : Raws) (n : ℕ) (zs : List ℤ) → length (numbers_with q n zs) ≡ length zs
unfolding numbers_with
numbers_as_many q n [] = refl
numbers_as_many q n (z ∷ zs) = ap suc (numbers_as_many q (n + 1) zs)

pub number_with : (q : Raws) (n : ℕ) (zs : List ℤ) (i : ℕ) → i < length zs
    → get_or (numbers_with q n zs) i (pos 0) ≡ cond (raw (n + i)) (raw_of q (n + i)) (get_or zs i (pos 0))
unfolding numbers_with
number_with q n [] i h = absurd (omega arith)
number_with q n (z ∷ zs) zero h = let e : n + 0 ≡ n = omega arith in rw e
number_with q n (z ∷ zs) (suc i) h = let e : n + 1 + i ≡ n + suc i = omega arith in number_with q (n + 1) zs i (omega arith) ∙ rw e

pub with_some : (q : Raws) (n : ℕ) (fs : List (List ℕ)) → length (with_raws q n fs) ≡ length fs
unfolding with_raws
with_some q n [] = refl
with_some q n (f ∷ fs) = ap suc (with_some q (n + 1) fs)

module _ (q : Raws) (held : Held q) where
  raw_held : (n : ℕ) → nat_abs (raw_of q n) < 100000000
  raw_held n = each_get_or (λ z. nat_abs z < 100000000) (q.r1 ∷ q.r2 ∷ q.r3 ∷ q.r4 ∷ []) (raw_index n) (pos 0) (omega arith) held

  no_comma : (z : ℤ) → nat_abs z < 100000000 → Without comma (signed_decimal z)
  no_comma z h = each_so {P = λ b. minus ≤ b} {Q = λ x. x ≡ comma → ⊥} (λ x p e. omega arith) (signed_decimal z) (bytes_from z h)

  pub with_without : (n : ℕ) (fs : List (List ℕ)) → Each (Without comma) fs → Each (Without comma) (with_raws q n fs)
  unfolding with_raws
  with_without n [] h = tt
  with_without n (f ∷ fs) h = (go (raw n), with_without (n + 1) fs h.1)
    where
      go : (b : Bool) → Without comma (cond b (signed_decimal (raw_of q n)) f)
      go true = no_comma (raw_of q n) (raw_held n)
      go false = h.0

  field_with : (n : ℕ) (f : List ℕ) (z : ℤ) → form_of letter_g n f ≡ Value z
      → form_of letter_t n (cond (raw n) (signed_decimal (raw_of q n)) f) ≡ Value (cond (raw n) (raw_of q n) z)
  field_with n f z e = go (raw n) e
    where
      go : (b : Bool) → cond b (hex_of f) (number_of f) ≡ Value z → number_of (cond b (signed_decimal (raw_of q n)) f) ≡ Value (cond b (raw_of q n) z)
      go true e = read_back (raw_of q n) (raw_held n)
      go false e = e

  pub numbers_with_lem : (n : ℕ) (fs : List (List ℕ)) (zs : List ℤ) → numbers_of (form_of letter_g) n fs ≡ all zs
      → numbers_of (form_of letter_t) n (with_raws q n fs) ≡ all (numbers_with q n zs)
  unfolding numbers_of with_raws numbers_with
  numbers_with_lem n [] zs e = let k : [] ≡ zs = cc in rw (sym k)
  numbers_with_lem n (f ∷ fs) zs e = go (form_of letter_g n f) (numbers_of (form_of letter_g) (n + 1) fs) refl refl e (numbers_with_lem (n + 1) fs)
    where
      go : (w : Number) (r : Numbers) → form_of letter_g n f ≡ w → numbers_of (form_of letter_g) (n + 1) fs ≡ r → first w r ≡ all zs
          → ((ys : List ℤ) → numbers_of (form_of letter_g) (n + 1) fs ≡ all ys
          → numbers_of (form_of letter_t) (n + 1) (with_raws q (n + 1) fs) ≡ all (numbers_with q (n + 1) ys))
          → first (form_of letter_t n (cond (raw n) (signed_decimal (raw_of q n)) f)) (numbers_of (form_of letter_t) (n + 1) (with_raws q (n + 1) fs))
          ≡ all (numbers_with q n zs)
      go (Value z) (all ys) a b c ih = let k : z ∷ ys ≡ zs = cc in rw (field_with n f z a, ih ys b, ← k)
      go (Value z) none a b c ih = let x : ◌≡◌ {A = ℕ} 0 1 = cc in absurd (omega arith)
      go Malformed r a b c ih = let x : ◌≡◌ {A = ℕ} 0 1 = cc in absurd (omega arith)
