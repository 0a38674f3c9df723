-- A number that is written is read back, where a field can hold it, and no byte of it is a comma or a line feed.
use Rattle.std.specs.Prelude.{◌≡◌, refl, Bool, true, false, cond, ◌&&◌, List, [], ◌∷◌, ◌++◌, ℕ, zero, suc, ◌+◌, ◌-◌, ◌*◌, ◌/◌, ◌%◌, ◌^◌, ◌<◌, ◌≤◌, T, eqb, ltb, leb, ℤ, pos, negsuc, nat_abs, length, get_or}
use Rattle.std.proofs.Common.{sym, ◌∙◌, arith, le-leb, lt-ltb, le-ltb, ne_eqb, leb→le, length-append}
use Rattle.std.proofs.Math.Bool.{and-false}
use Rattle.std.proofs.Math.Nat.{pow-succ'}
use Rattle.std.proofs.Math.Decide.{dec_lt}
use Rattle.std.proofs.Math.ListN.{get_or-append}
use Rattle.std.proofs.Math.Facts.{and_yes}
use Rattle.signed.specs.RangeLaws.{true_T}
use Rattle.lists.specs.Each.{Each, every, each}
use Rattle.text.specs.Pieces.{minus}
use Rattle.text.specs.Numbers.{Value, nought, nine, digit, whole, behind, number_of}
use Rattle.decimals.specs.Decimals.{digits, decimal, signed_decimal}
use Rattle.decimals.specs.DecimalLaws.{one_digit, decimal_length}

-- ---- digits one after the other
behind_last : (m : ℕ) (xs : List ℕ) (d : ℕ) → behind m (xs ++ (d ∷ [])) ≡ 10 * behind m xs + (d - nought)
unfolding behind
behind_last m [] d = refl
behind_last m (x ∷ xs) d = behind_last (10 * m + (x - nought)) xs d

every_last : (xs : List ℕ) (d : ℕ) → every digit xs ≡ true → digit d ≡ true → every digit (xs ++ (d ∷ [])) ≡ true
every_last [] d e h = rw h
every_last (x ∷ xs) d e h = go (digit x) e (λ k. every_last xs d k h)
  where
    go : (t : Bool) → (t && every digit xs) ≡ true → (every digit xs ≡ true → every digit (xs ++ (d ∷ [])) ≡ true) → (t && every digit (xs ++ (d ∷ []))) ≡ true
    go true e f = f e
    go false e f = e

a_digit : (n : ℕ) → n < 10 → digit (nought + n) ≡ true
a_digit n h = rw (le-leb nought (nought + n) (omega arith), le-leb (nought + n) nine (omega arith))

-- digits that spell n, with no needless 0 in front
record Spell (ds : List ℕ) (n : ℕ) : Type 0 where
  digits : every digit ds ≡ true
  value : behind 0 ds ≡ n
  some : 1 ≤ length ds
  first : 1 ≤ n → get_or ds 0 0 ≡ nought → ⊥

digits_spell : (k n : ℕ) → n < 10 ^ suc k → Spell (digits (suc k) n) n
unfolding digits behind
digits_spell zero n h = rw (lt-ltb n 10 h) (record {
  digits = rw (a_digit n h);
  value = omega arith;
  some = omega arith;
  first = λ l e. omega arith;
})
digits_spell (suc k) n h = go (dec_lt n 10) (digits_spell k (n / 10))
  where
    go : Dec (n < 10) → (n / 10 < 10 ^ suc k → Spell (digits (suc k) (n / 10)) (n / 10))
        → Spell (cond (ltb n 10) ((nought + n) ∷ []) (digits (suc k) (n / 10) ++ ((nought + n % 10) ∷ []))) n
    go (yes l) f = rw (lt-ltb n 10 l) (record {
      digits = rw (a_digit n l);
      value = omega arith;
      some = omega arith;
      first = λ l e. omega arith;
    })
    go (no l) f =
        let p : n < 10 * 10 ^ suc k = rw (pow-succ' 10 (suc k)) at h in
        let s = f (omega arith) in
        let ds = digits (suc k) (n / 10) in
        let d = nought + n % 10 in
        rw (le-ltb n 10 (omega arith)) (record {
          digits = every_last ds d s.digits (a_digit (n % 10) (omega arith));
          value = behind_last 0 ds d ∙ rw s.value (omega arith);
          some = simp length-append (omega arith);
          first = λ o e. s.first (omega arith) (sym (get_or-append ds (d ∷ []) 0 0 s.some) ∙ e);
        })

decimal_spell : (n : ℕ) → n < 10 ^ 10 → Spell (decimal n) n
unfolding decimal
decimal_spell n h = digits_spell 9 n h

-- ---- a number of at most eight digits
no_nought : (n : ℕ) → n < 10 ^ 10 → (ltb 1 (length (decimal n)) && eqb (get_or (decimal n) 0 0) nought) ≡ false
no_nought n h = go (dec_lt n 10)
  where
    go : Dec (n < 10) → (ltb 1 (length (decimal n)) && eqb (get_or (decimal n) 0 0) nought) ≡ false
    go (yes l) = rw (one_digit n l)
    go (no l) =
        rw (ne_eqb (get_or (decimal n) 0 0) nought ((decimal_spell n h).first (omega arith))) (and-false (ltb 1 (length (decimal n))))

whole_back : (n : ℕ) → n < 100000000 → whole (decimal n) ≡ true
unfolding whole
whole_back n h =
    let s = decimal_spell n (omega arith) in
    rw (le-leb 1 (length (decimal n)) s.some, le-leb (length (decimal n)) 8 (decimal_length 7 n (omega arith)), s.digits, no_nought n (omega arith))

-- the first byte is no minus
first_digit : (ds : List ℕ) → 1 ≤ length ds → every digit ds ≡ true → get_or ds 0 0 ≡ minus → ⊥
first_digit [] l e q = omega arith
first_digit (x ∷ xs) l e q = no (rw q at e)
  where
    no : (digit minus && every digit xs) ≡ true → ⊥
    no e = let z : ◌≡◌ {A = ℕ} 0 1 = cc in omega arith

pub read_back : (z : ℤ) → nat_abs z < 100000000 → number_of (signed_decimal z) ≡ Value z
unfolding number_of signed_decimal
read_back (pos n) h =
    let s = decimal_spell n (omega arith) in
    rw (ne_eqb (get_or (decimal n) 0 0) minus (first_digit (decimal n) s.some s.digits), whole_back n h, s.value)
read_back (negsuc n) h = rw (whole_back (suc n) h, (decimal_spell (suc n) (omega arith)).value, ne_eqb (suc n) 0 (λ e. omega arith))

-- ---- its bytes are digits and a minus
digit_bytes : (ds : List ℕ) → every digit ds ≡ true → Each (λ b. minus ≤ b) ds
digit_bytes ds e = each (λ b. minus ≤ b) digit digit_from ds (true_T e)
  where
    digit_from : (x : ℕ) → T (digit x) → minus ≤ x
    digit_from x t = omega (arith, leb→le nought x (and_yes (leb nought x) (leb x nine) t).0)

pub bytes_from : (z : ℤ) → nat_abs z < 100000000 → Each (λ b. minus ≤ b) (signed_decimal z)
unfolding signed_decimal
bytes_from (pos n) h = digit_bytes (decimal n) (decimal_spell n (omega arith)).digits
bytes_from (negsuc n) h = (omega arith, digit_bytes (decimal (suc n)) (decimal_spell (suc n) (omega arith)).digits)
