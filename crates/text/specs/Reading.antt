-- What a reader that stands at the front of a field, and stops where its form does, tells of the whole field.
use Rattle.std.specs.Prelude.{◌≡◌, ℕ, ℤ, ◌≤◌, false, cond, Option, Some, None, List, length, ◌==◌}
use Rattle.text.specs.declared.Field.{Field}
use Rattle.text.specs.Numbers.{Number, Value, Malformed, whole, behind}

-- what stands at a field's front, in k bytes
abbrev pub front : {T : Type 0} → T → ℕ → Option (Field T)
front z k = Some (record { value = z; size = k })

-- a number of so many bytes is what the field spells where the field has no more bytes
abbrev pub spelt : Option (Field ℤ) → List ℕ → Number
spelt (Some r) f = cond (r.size == length f) (Value r.value) Malformed
spelt None f = Malformed

abbrev pub size : Option (Field ℤ) → ℕ
size (Some r) = r.size
size None = 0

abbrev pub Reads : (List ℕ → Number) → Option (Field ℤ) → List ℕ → Type 0
Reads form r f = (spelt r f ≡ form f) × (size r ≤ length f)

-- the same of digits
abbrev pub ReadsWhole : Option (Field ℕ) → List ℕ → Type 0
ReadsWhole (Some r) f = (r.size ≤ length f) × (whole f ≡ (r.size == length f)) × (r.size ≡ length f → behind 0 f ≡ r.value)
ReadsWhole None f = whole f ≡ false
