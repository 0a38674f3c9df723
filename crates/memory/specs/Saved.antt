-- A save from a lent area: the refusal, and every byte of the buffer. 100 is an area of another length.
use Rattle.std.specs.Prelude.{cond, List, ℕ, ℤ}
use Rattle.rules.specs.Calls.{save, refusal}
use Rattle.rules.specs.Answers.{saved}
use Rattle.area.specs.Table.{held}
use Rattle.area.specs.Called.{whole_area}

pub record Saved : Type 0 where
  pub refusal : ℕ
  pub buffer : List ℕ

abbrev pub saved_as : ℕ → List ℕ → Saved
saved_as refusal buffer = record { refusal = refusal; buffer = buffer }

unfoldable pub save_called : List ℤ → List ℕ → Saved
save_called area buffer =
    let p = held area in
    cond (whole_area area) (saved_as (refusal p (save buffer)) (saved p buffer)) (saved_as 100 buffer)
