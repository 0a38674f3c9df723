-- Texts one after the other in a buffer. Document 01, 'Alarm numbers': "Bytes past the output stay."
use Rattle.std.specs.Prelude.{◌≡◌, List, [], ◌∷◌, ◌++◌, ℕ, suc, ◌+◌, ◌≤◌, length, take, drop, set}
use Rattle.std.proofs.Common.{ap, ◌∙◌, append-nil, append_assoc, arith, add-one, length-append, take-append-drop, length-take-le, take-take, drop_at}
use Rattle.std.proofs.lemmas.List.{set_split, take-append-le}
use Rattle.lists.specs.Written.{written}
use Rattle.lists.specs.WrittenLaws.{written_length, written_more}

pub written_none : (old : List ℕ) (k : ℕ) → written old k [] ≡ old
unfolding written
written_none old k = let e : k + 0 ≡ k = omega arith in rw (append-nil (take k old), e, take-append-drop k old)

-- a byte before what is written
pub written_before : (old : List ℕ) (j b : ℕ) (t : List ℕ) → j + 1 + length t ≤ length old → set (written old (j + 1) t) j b ≡ written old j (b ∷ t)
unfolding written
written_before old j b t h =
    let n : length (take (j + 1) old) ≡ j + 1 = length-take-le (j + 1) old (omega arith) in
    let k : j + suc (length t) ≡ j + 1 + length t = omega arith in
    let l = written_length old (j + 1) t h in
    rw (
      set_split (take (j + 1) old ++ t ++ drop (j + 1 + length t) old) j b (omega arith),
      append_assoc (take (j + 1) old) t (drop (j + 1 + length t) old),
      take-append-le j (take (j + 1) old) (t ++ drop (j + 1 + length t) old) (omega arith),
      take-take j (j + 1) old (omega arith),
      ← add-one j,
      drop_at (take (j + 1) old) (t ++ drop (j + 1 + length t) old) (j + 1) n,
      k,
      append_assoc (take j old) (b ∷ t) (drop (j + 1 + length t) old),
    )

-- ---- the place and the buffer after a text t, and then after a text u behind it

abbrev pub Put : List ℕ → ℕ → List ℕ → ℕ → List ℕ → Type 0
Put a at t k b = (k ≡ at + length t) × (b ≡ written a at t)

pub fits_front : (at n : ℕ) (t u : List ℕ) → at + length (t ++ u) ≤ n → at + length t ≤ n
fits_front at n t u h = let e = length-append t u in omega arith

pub chain : (a b c : List ℕ) (at k l : ℕ) (t u : List ℕ) → at + length (t ++ u) ≤ length a → Put a at t k b → Put b k u l c → Put a at (t ++ u) l c
chain a b c at k l t u h p q =
    let e = length-append t u in
    (omega (arith, p.0, q.0), rw (q.1, p.1, p.0) (written_more a at t (fits_front at (length a) t u h) u))

pub fits_next : (a b : List ℕ) (at k : ℕ) (t u : List ℕ) → at + length (t ++ u) ≤ length a → Put a at t k b → k + length u ≤ length b
fits_next a b at k t u h p =
    let e = length-append t u in
    let l = ap length p.1 ∙ written_length a at t (fits_front at (length a) t u h) in
    omega (arith, p.0)
