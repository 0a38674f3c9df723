-- Laws of the memory block: what is written is read again, and what is read is written again; the values of 40 bytes are in range.
use Rattle.std.specs.Prelude.{◌≡◌, refl, Bool, true, false, List, [], ◌∷◌, ℕ, zero, suc, ◌+◌, ◌-◌, ◌*◌, ◌/◌, ◌%◌, ◌<◌, ltb, ℤ, pos, negsuc, length}
use Rattle.std.proofs.Common.{ap, ◌∙◌, arith, le-leb, ltb-true, ltb-false}
use Rattle.std.specs.Int.Signed.{mag}
use Rattle.std.specs.Int.{w16}
use Rattle.std.proofs.Math.Facts.{sfits_lit}
use Rattle.signed.specs.Ranges.{minus}
use Rattle.signed.specs.RangeLaws.{within_fits}
use Rattle.lists.specs.Each.{Each}
use Rattle.rules.specs.Stores.{value_range}
use Rattle.rules.specs.Block.{twos, code, word, words, octets}
use Rattle.rules.specs.BlockLaws.{twos_low, twos_high, length_words, Values, Bytes}

-- the bits of a value, read again, and the value of 16 bits, written again
pub twos_code : (z : ℤ) → mag z < 32768 → twos (code z) ≡ z
twos_code (pos n) h = twos_low n h
twos_code (negsuc n) h = twos_high (65535 - n) (omega arith) (omega arith) ∙ ap negsuc (omega arith)

pub code_twos : (v : ℕ) → v < 65536 → code (twos v) ≡ v
code_twos v h = go (ltb v 32768) refl
  where
    go : (b : Bool) → ltb v 32768 ≡ b → code (twos v) ≡ v
    go true e = rw (twos_low v (ltb-true v 32768 e))
    go false e = rw (twos_high v (ltb-false v 32768 e) h) (omega (arith, ltb-false v 32768 e))

-- ---- there and back
halves : (n : ℕ) → n % 256 + 256 * (n / 256) ≡ n
halves n = omega arith

-- the bits of two bytes' value, and the two bytes of a value, read again
code_word : (lo hi : ℕ) → lo < 256 → hi < 256 → code (word lo hi) ≡ lo + 256 * hi
code_word lo hi l h = code_twos (lo + 256 * hi) (omega arith)

word_back : (z : ℤ) → mag z < 32768 → word (code z % 256) (code z / 256) ≡ z
word_back z h = ap twos (halves (code z)) ∙ twos_code z h

value_small : (z : ℤ) → value_range z ≡ true → mag z < 32768
value_small z e = (within_fits {w = w16} (minus 32768) (pos 32767) z (sfits_lit tt) (sfits_lit tt) e).sfits

words_octets : (zs : List ℤ) → Each (λ z. value_range z ≡ true) zs → words (octets zs) ≡ zs
unfolding words octets
words_octets [] h = refl
words_octets (z ∷ zs) h = rw (word_back z (value_small z h.0), words_octets zs h.1)

pub values_back : (zs : List ℤ) → Values zs → words (octets zs) ≡ zs
values_back zs h = words_octets zs h.entries

pub bytes_back : (n : ℕ) (bs : List ℕ) → length bs ≡ 2 * n → Bytes bs → octets (words bs) ≡ bs
unfolding words octets
bytes_back zero [] e h = refl
bytes_back zero (a ∷ []) e h = absurd (omega arith)
bytes_back zero (a ∷ b ∷ bs) e h = absurd (omega arith)
bytes_back (suc n) [] e h = absurd (omega arith)
bytes_back (suc n) (a ∷ []) e h = absurd (omega arith)
bytes_back (suc n) (lo ∷ hi ∷ bs) e h =
    let c = code_word lo hi h.0 h.1.0 in
    let low : (lo + 256 * hi) % 256 ≡ lo = omega (arith, h.0) in
    let high : (lo + 256 * hi) / 256 ≡ hi = omega (arith, h.0) in
    rw (c, low, high, bytes_back n bs (omega arith) h.1.1)

-- the values of 40 bytes are in range
pos_value : (v : ℕ) → v < 32768 → value_range (pos v) ≡ true
pos_value v h = le-leb v 32767 (omega arith)

neg_value : (v : ℕ) → v < 32768 → value_range (negsuc v) ≡ true
neg_value v h = rw (le-leb v 32767 (omega arith))

word_value : (v : ℕ) → v < 65536 → value_range (twos v) ≡ true
word_value v h = go (ltb v 32768) refl
  where
    go : (b : Bool) → ltb v 32768 ≡ b → value_range (twos v) ≡ true
    go true e = let l = ltb-true v 32768 e in rw (twos_low v l) (pos_value v l)
    go false e = let l = ltb-false v 32768 e in rw (twos_high v l h) (neg_value (65535 - v) (omega arith))

each_word : (bs : List ℕ) → Bytes bs → Each (λ z. value_range z ≡ true) (words bs)
unfolding words
each_word [] h = tt
each_word (a ∷ []) h = tt
each_word (lo ∷ hi ∷ bs) h = (word_value (lo + 256 * hi) (omega (arith, h.0, h.1.0)), each_word bs h.1.1)

pub words_values : (bs : List ℕ) → length bs ≡ 40 → Bytes bs → Values (words bs)
words_values bs e h = record { long = length_words 20 bs e; entries = each_word bs h }
