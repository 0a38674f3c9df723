-- "Each branch 4 adds to the bound of the wear it corrects: K'/2 for pairs, K' for a plane, so at most K'/2 u." Bounds are kept doubled, in h.
use Rattle.std.specs.Prelude.{◌≡◌, refl, Bool, true, false, cond, ◌+◌, ◌*◌, ℤ, pos, nat_abs, ◌*ℤ◌}
use Rattle.std.proofs.Common.{ap, arith}
use Rattle.signed.specs.Ranges.{minus, eq_z}
use Rattle.package.specs.declared.found.Form.{Form}
use Rattle.package.specs.declared.found.Form.TheVariants.{Plane, Single, Double}
use Rattle.package.specs.declared.found.Kind.{Kind}
use Rattle.package.specs.declared.found.Branch.{Branch}
use Rattle.package.specs.declared.found.Branch.TheVariants.{One, Two, Three, Four, Five}
use Rattle.package.specs.Given.{ToolMeasurement}
use Rattle.package.specs.declared.found.ToolRecords.{ToolRecords}
use Rattle.rules.specs.Kinds.{by_form}
use Rattle.rules.specs.Probes.{sign}
use Rattle.rules.specs.Tool.{tool_kind_of, decision, deviation, factor, tool_factor}
use Rattle.reckoning.specs.Reckoning.{Exact, Mean, exact_correction, History, exact_new, exact_grown}
use Rattle.reckoning.specs.Bound.{added}

-- the h by which a wear grows for a unit of c
factor_is : (k : Kind) (direction : ℤ) → nat_abs (factor k direction) ≡ by_form k.form 2 1 1
factor_is k direction = go k.form
  where
    two : (b : Bool) → nat_abs (pos 2 *ℤ cond b (pos 1) (minus 1)) ≡ 2
    two true = refl
    two false = refl

    one : (b : Bool) → nat_abs (cond b (pos 1) (minus 1)) ≡ 1
    one true = refl
    one false = refl

    go : (f : Form) → nat_abs (by_form f (pos 2 *ℤ sign direction) (cond k.inside (pos 1) (minus 1)) (cond k.inside (pos 1) (minus 1))) ≡ by_form f 2 1 1
    go Plane = two (eq_z direction (pos 0))
    go Single = one k.inside
    go Double = one k.inside

terms : (b : Branch) (f : Form) (next : Mean) (d : ℤ) → by_form f 2 1 1 * (exact_correction b next d).doubled ≡ added b f next.exact.doubled
terms One f next d = omega arith
terms Two f next d = omega arith
terms Three f next d = omega arith
terms Four Plane next d = refl
terms Four Single next d = omega arith
terms Four Double next d = omega arith
terms Five f next d = omega arith

module _ (r : ToolRecords) (a : ToolMeasurement) (e : History) where
  correction_adds : nat_abs (tool_factor a) * (exact_correction (decision r a).branch (exact_new r a e) (deviation r a)).doubled
      ≡ added (decision r a).branch (tool_kind_of a).form (exact_new r a e).exact.doubled
  correction_adds =
      rw (factor_is (tool_kind_of a) a.probing.direction) (terms (decision r a).branch (tool_kind_of a).form (exact_new r a e) (deviation r a))

  -- the bound of the wear that is corrected grows by that, doubled, and by nothing in the other branches
  pub bound_added : (w : Exact) →
      (exact_grown r a e w).doubled ≡ w.doubled + added (decision r a).branch (tool_kind_of a).form (exact_new r a e).exact.doubled
  bound_added w = ap (λ n. w.doubled + n) correction_adds
