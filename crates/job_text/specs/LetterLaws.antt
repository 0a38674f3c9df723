-- What the table of letters says of a line, by its letter and the numbers of its fields.
use Rattle.std.specs.Prelude.{◌≡◌, refl, Bool, true, false, cond, List, [], ◌∷◌, ℕ, ◌≤◌, eqb, ltb, ℤ, pos, length, get_or, take}
use Rattle.std.proofs.Common.{ap, arith, eq-eqb, ne_eqb, ltb-true, get_or-take}
use Rattle.lists.specs.Each.{Each}
use Rattle.job_text.specs.Letters.{Letter, letters, most_fields, by_letter, field_count}
use Rattle.job_text.specs.Lines.{none, all, malformed, says, counted}

-- ---- a call looks at the numbers of its own fields
own : (k : ℕ) (vs : List ℤ) (n : ℕ) → ltb n k ≡ true → get_or (take k vs) n (pos 0) ≡ get_or vs n (pos 0)
own k vs n t = get_or-take k vs n (pos 0) (ltb-true n k t)

pub own_fields : (vs : List ℤ) → Each (λ (l : Letter). l.call vs ≡ l.call (take l.fields vs)) letters
own_fields vs = (simp (own 2 vs), (simp (own 3 vs), (simp (own 4 vs), (simp (own 7 vs), (simp (own 21 vs), (simp (own 13 vs), (simp (own 21 vs), tt)))))))

-- ---- the row of a byte, or none

small : (ls : List Letter) (byte : ℕ) → Each (λ (l : Letter). l.fields ≤ most_fields) ls → by_letter ls byte (λ l. l.fields) 0 ≤ most_fields
small [] byte e = omega arith
small (l ∷ ls) byte e = go (eqb byte l.byte) (small ls byte e.1)
  where
    go : (t : Bool) → by_letter ls byte (λ l. l.fields) 0 ≤ most_fields → cond t l.fields (by_letter ls byte (λ l. l.fields) 0) ≤ most_fields
    go true h = e.0
    go false h = h

pub count_small : (byte : ℕ) → field_count byte ≤ most_fields
unfolding field_count
count_small byte = small letters byte (omega arith, (omega arith, (omega arith, (omega arith, (omega arith, (omega arith, (omega arith, tt)))))))

pub unread : (ls : List Letter) (byte : ℕ) → by_letter ls byte (counted none) malformed ≡ malformed
unread [] byte = refl
unread (l ∷ ls) byte = go (eqb byte l.byte) (unread ls byte)
  where
    go : (t : Bool) → by_letter ls byte (counted none) malformed ≡ malformed → cond t malformed (by_letter ls byte (counted none) malformed) ≡ malformed
    go true e = refl
    go false e = e

pub misfit : (ls : List Letter) (byte : ℕ) (zs : List ℤ) → (length zs ≡ by_letter ls byte (λ l. l.fields) 0 → ⊥)
    → by_letter ls byte (counted (all zs)) malformed ≡ malformed
misfit [] byte zs h = refl
misfit (l ∷ ls) byte zs h = go (eqb byte l.byte) h (misfit ls byte zs)
  where
    go : (t : Bool) → (length zs ≡ cond t l.fields (by_letter ls byte (λ l. l.fields) 0) → ⊥)
        → ((length zs ≡ by_letter ls byte (λ l. l.fields) 0 → ⊥) → by_letter ls byte (counted (all zs)) malformed ≡ malformed)
        → cond t (counted (all zs) l) (by_letter ls byte (counted (all zs)) malformed) ≡ malformed
    go true h ih = rw (ne_eqb (length zs) l.fields h)
    go false h ih = ih h

pub fit : (ls : List Letter) (byte : ℕ) (vs : List ℤ) (n : ℕ) → n ≡ by_letter ls byte (λ l. l.fields) 0 → length (take n vs) ≡ n
    → Each (λ (l : Letter). l.call vs ≡ l.call (take l.fields vs)) ls
    → by_letter ls byte (λ l. says (l.call vs)) malformed ≡ by_letter ls byte (counted (all (take n vs))) malformed
fit [] byte vs n e k o = refl
fit (l ∷ ls) byte vs n e k o = go (eqb byte l.byte) e (λ h. fit ls byte vs n h k o.1)
  where
    go : (t : Bool) → n ≡ cond t l.fields (by_letter ls byte (λ l. l.fields) 0)
        → (n ≡ by_letter ls byte (λ l. l.fields) 0
        → by_letter ls byte (λ l. says (l.call vs)) malformed ≡ by_letter ls byte (counted (all (take n vs))) malformed)
        → cond t (says (l.call vs)) (by_letter ls byte (λ l. says (l.call vs)) malformed)
        ≡ cond t (counted (all (take n vs)) l) (by_letter ls byte (counted (all (take n vs))) malformed)
    go true e ih = rw (k, e, eq-eqb l.fields l.fields refl) (ap says o.0)
    go false e ih = ih e
