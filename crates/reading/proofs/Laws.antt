-- A record of an area of the right length, by its number.
use mathlib.Core.Path.{◌≡◌, sym, ap, ◌∙◌}
use mathlib.Core.Bool.{true}
use mathlib.Core.List.{List}
use native.Mathlib.Omega.{arith}
use lib.IntN.{ℤ}
use lib.ListN.{length}
use mir.Syntax.{w64}
use mir.Val.{SFits, to_z, of_z}
use mir.Facts.{to_z-of_z}
use Rattle.rules.specs.Stores.{StoreName, at}
use Rattle.layout.specs.Layout.{named, record_of}
use Rattle.area.specs.Table.{area_length, section_of, record_from, held}
use Rattle.area.specs.RecordLaws.{at_held}

-- a number of a store, as the code holds it
pub record Known (area : List ℤ) (s : StoreName) (n : ℤ) : Type 0 where
  pub whole : length area ≡ area_length
  pub named_in : named (section_of s) n ≡ true
  pub fits : SFits w64 n

module _ {area : List ℤ} {s : StoreName} {n : ℤ} (k : Known area s n) where
  pub held_at : record_from s (record_of (section_of s) area n) ≡ at (held area) s n
  held_at = sym (at_held area (omega (arith, k.whole)) s n k.named_in)

  -- the numbers that `record_in` gave
  pub given : {zs : List ℤ} → zs ≡ record_of (section_of s) area (to_z w64 (of_z w64 n)) → record_from s zs ≡ at (held area) s n
  given e = ap (record_from s) (rw (to_z-of_z k.fits) at e) ∙ held_at
