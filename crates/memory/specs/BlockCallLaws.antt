-- A load and a save, case by case.
use Rattle.std.specs.Prelude.{◌≡◌, refl, List, [], ◌∷◌, map, ℕ, ℤ, length, take, drop}
use Rattle.std.proofs.Common.{◌∙◌, ne_eqb, eq-eqb}
use Rattle.lists.specs.Written.{written}
use Rattle.rules.specs.Refusals.{first}
use Rattle.rules.specs.Stores.{empiricals, means}
use Rattle.rules.specs.Block.{words, save_rules, saved_with}
use Rattle.rules.specs.Calls.{load, refusal}
use Rattle.layout.specs.Layout.{joined, records}
use Rattle.area.specs.Table.{area_length, section_of, numbers, record_from, held}
use Rattle.area.specs.Called.{unmeasured, called}
use Rattle.area.specs.CalledLaws.{call_done}
use Rattle.memory.specs.Saved.{saved_as, save_called}

module _ (area : List ℤ) where
  pub save_wrong : (length area ≡ area_length → ⊥) → (buffer : List ℕ) → saved_as 100 buffer ≡ save_called area buffer
  unfolding save_called
  save_wrong h buffer = rw (ne_eqb (length area) area_length h)

  module _ (whole : length area ≡ area_length) where
    -- records of one number each, in a row
    in_a_row : (zs : List ℤ) → joined (map (numbers means) zs) ≡ zs
    in_a_row [] = refl
    in_a_row (z ∷ zs) = rw (in_a_row zs)

    pub load_done : (bytes : List ℕ) → length bytes ≡ 80 → {once after : List ℤ} → once ≡ written area (section_of empiricals).at (words (take 40 bytes))
        → after ≡ written once (section_of means).at (words (drop 40 bytes)) → unmeasured 0 after ≡ called area (load bytes)
    load_done bytes n e f =
        call_done area (load bytes) whole (rw (eq-eqb (length bytes) 80 n)) refl
        (rw (in_a_row (words (take 40 bytes)), in_a_row (words (drop 40 bytes))) (f ∙ rw e))

    pub save_done : (buffer : List ℕ) {es ms : List ℤ} {r : ℕ} {after : List ℕ} → es ≡ map (record_from means) (records (section_of empiricals) area)
        → ms ≡ map (record_from means) (records (section_of means) area) → r ≡ first (save_rules buffer)
        → after ≡ saved_with (record { empirical = es; means = ms }) buffer → saved_as r after ≡ save_called area buffer
    unfolding save_called refusal held
    save_done buffer e m q f = rw (eq-eqb (length area) area_length whole, q, f, e, m)
