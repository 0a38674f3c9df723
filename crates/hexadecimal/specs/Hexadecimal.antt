-- Request 2026-01: "each r is eight lower-case hexadecimal digits of one float's bits, highest first".
use Rattle.std.specs.Prelude.{ℕ, ◌+◌, ◌-◌, ◌*◌, Bool, cond, ◌&&◌, List, [], ◌∷◌, length, pos, ◌==◌, nat_le, nat_lt}
use Rattle.lists.specs.Each.{every}
use Rattle.text.specs.Numbers.{Number, Value, Malformed, nought, nine}

abbrev pub digits : ℕ
digits = 8

-- the bytes of the digits a and f
abbrev pub small_a : ℕ
small_a = 97

abbrev pub small_f : ℕ
small_f = 102

-- what a digit spells, 16 where the byte is none
unfoldable pub digit_of : ℕ → ℕ
digit_of b = cond (nat_le nought b && nat_le b nine) (b - nought) (cond (nat_le small_a b && nat_le b small_f) (10 + (b - small_a)) 16)

abbrev pub digit : ℕ → Bool
digit b = nat_lt (digit_of b) 16

-- the number that digits spell behind a number n
unfoldable pub behind : ℕ → List ℕ → ℕ
behind n [] = n
behind n (d ∷ ds) = behind (16 * n + digit_of d) ds

-- the number that a field spells: the bits of a float
unfoldable pub hex_of : List ℕ → Number
hex_of f = cond (length f == digits && every digit f) (Value (pos (behind 0 f))) Malformed
