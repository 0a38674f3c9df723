-- A measurement is turned away by what it is lent, or measured.
use Rattle.std.proofs.Common.{◌≡◌, Bool, true, false, refl, ◌∙◌, sym, ℕ, eqb, length, List, Option, Some, None, ℤ, is_some, option_map}
use Rattle.std.proofs.lemmas.Result.{err_from_is_err_and}
use Rattle.package.specs.RefusalLaws.{number_some}
use Rattle.rules.specs.Refusals.{first}
use Rattle.area.specs.Table.{area_length}
use Rattle.measuring.specs.Reply as measuring
use Rattle.measuring.specs.Reply.{lent_rules, reply, undecided, exported_of}
use Rattle.measuring.specs.ReplyLaws.{Asked, turned_away, handed_on, replied_by}
use Rattle.lent_measuring.proofs.measure.Goals as goal

module _ {M : Type 0} (said : M → measuring.Measurement) (area results : List ℤ) (place : ℕ) where
  abbrev asked : M → Asked
  asked m = record { measurement = said m; area = area; results = results; place = place }

  turned : (m : Option M) {n : ℕ} → n ≡ first (lent_rules (length area) (is_some m) (length results) place) → (n ≡ 0 → ⊥)
      → reply (undecided n) area results ≡ exported_of area (option_map said m) results place
  turned (Some m) e z = turned_away (asked m) true e z
  turned None {n} e z = go (eqb (length area) area_length) refl
    where
      go : (b : Bool) → eqb (length area) area_length ≡ b → reply (undecided n) area results ≡ exported_of area None results place
      go true q = rw (e, q)
      go false q = rw (e, q)

pub returns-in_err-lent : goal.returns-in_err-lent
returns-in_err-lent g c =
    let s = c.args in
    let r = err_from_is_err_and c.from_residual.result c.from_residual.ensures.1 in
    let e = rw c.is_some.ensures at c.in_err-lent.ensures in
    rw (r.1, r.2) (turned g.M.Measurement.said s.area.now s.results.now s.place s.m e (number_some c.in_err-lent.field-0.0))

pub returns : goal.returns
returns g c =
    let s = c.args in
    let passed = rw (c.is_some.ensures, c.unwrap.ensures) at c.in_ok-lent.ensures in
    rw c.unwrap.ensures
    (replied_by c.evaluate.result c.evaluate.new.area c.evaluate.new.results
    ∙ handed_on (asked g.M.Measurement.said s.area.now s.results.now s.place c.unwrap.result) true (sym passed) c.evaluate.ensures)
