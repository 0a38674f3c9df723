-- The refusals of the arguments, test by test.
use Rattle.std.specs.Prelude.{◌≡◌, refl, Bool, true, false, ◌&&◌, [], ◌∷◌, ℕ, ℤ, pos, Result, Ok, Err}
use Rattle.std.proofs.Common.{sym, ap, ◌∙◌, arith}
use Rattle.signed.specs.Ranges.{within}
use Rattle.package.specs.declared.refusals.Refusal.{Refusal}
use Rattle.package.specs.declared.refusals.Refusal.TheVariants.{NoSuchNumber}
use Rattle.package.specs.declared.found.Kind.{Kind}
use Rattle.package.specs.Given.{ToolMeasurement, ToolReadings}
use Rattle.rules.specs.Refusals.{◌unless◌, first}
use Rattle.rules.specs.Stores.{tool_number}
use Rattle.rules.specs.Kinds.{tool_kind_number, tool_kind}
use Rattle.rules.specs.Measuring.{argument_rules}
use Rattle.rules.specs.Sizes.{numbers_ok, positions_ok}
use Rattle.rules.specs.Passed.{ToolArgumentsPassed, floats_good, tool_arguments_passed}
use Rattle.rules.specs.Tool.{named_or_none, limits_ok, tool_numbers, tool_positions, tool_arguments_with, tool_at, good_tool}
use Rattle.kinds.specs.Touches.{known}
use Rattle.kinds.specs.KindLaws.{known_is, known_not}
use Rattle.kind_tests.specs.Probing.{probing_rules}

-- what the code's call of a number n, read back as it is, tells
pub kind_found : (n : ℤ) {m : ℤ} {r : Result Kind Refusal} {k : Kind} → m ≡ n → r ≡ known (tool_kind_number m) (tool_kind m) → r ≡ Ok k
    → (tool_kind_number n ≡ true) × (k ≡ tool_kind n)
kind_found n q e w = known_is (tool_kind_number n) (tool_kind n) (sym (rw q at e) ∙ w)

pub kind_missing : (n : ℤ) {m : ℤ} {r : Result Kind Refusal} {x : Refusal} → m ≡ n → r ≡ known (tool_kind_number m) (tool_kind m) → r ≡ Err x
    → (tool_kind_number n ≡ false) × (x ≡ NoSuchNumber)
kind_missing n q e w = known_not (tool_kind_number n) (tool_kind n) (sym (rw q at e) ∙ w)

-- ---- the rules in their order, by the tests: of the kind's number, of what is probed, of the stores' numbers, of the weighting factor and of the limits
abbrev rules_by : (kind numbers stores good positions weight limits : Bool) → ℕ
rules_by kind numbers stores good positions weight limits =
    first (argument_rules (kind && (numbers && stores)) good (positions && weight) limits)

abbrev probing_by : (numbers good positions : Bool) → ℕ
probing_by numbers good positions = first (2 unless numbers ∷ 13 unless good ∷ 3 unless positions ∷ [])

regrouped : (b c d e f : Bool) → (b && (c && (d && e && f))) ≡ (b && c && d && e && f)
regrouped true true d e f = refl
regrouped true false d e f = refl
regrouped false c d e f = refl

no_stores : (numbers good positions weight limits : Bool) → 2 ≡ rules_by true numbers false good positions weight limits
no_stores true good positions weight limits = refl
no_stores false good positions weight limits = refl

not_probed : (numbers good positions weight limits : Bool) {n : ℕ} → n ≡ probing_by numbers good positions → (n ≡ 0 → ⊥)
    → n ≡ rules_by true numbers true good positions weight limits
not_probed false good positions weight limits e h = e
not_probed true false positions weight limits e h = e
not_probed true true false weight limits e h = e
not_probed true true true weight limits e h = absurd (h e)

probed : (numbers good positions weight limits : Bool) → 0 ≡ probing_by numbers good positions
    → rules_by true numbers true good positions weight limits ≡ first (3 unless weight ∷ 4 unless limits ∷ [])
probed false good positions weight limits e = absurd (omega (arith, e))
probed true false positions weight limits e = absurd (omega (arith, e))
probed true true false weight limits e = absurd (omega (arith, e))
probed true true true weight limits e = refl

module _ (t : ToolReadings) where
  abbrev a : ToolMeasurement
  a = tool_at t

  abbrev pub refusal : ℕ
  refusal = first (tool_arguments_with (good_tool t) a)

  abbrev kind : Bool
  kind = tool_kind_number t.probing.kind

  abbrev numbers : Bool
  numbers = numbers_ok (tool_kind t.probing.kind) t.probing

  abbrev stores : Bool
  stores = tool_number t.tool && named_or_none t.ev && named_or_none t.mv

  abbrev positions : Bool
  positions = positions_ok (tool_kind t.probing.kind) t.probing a.raws

  abbrev weight : Bool
  weight = within (pos 1) (pos 1000) t.k

  abbrev probing : ℕ
  probing = first (probing_rules (tool_kind t.probing.kind) t.probing t.raws)

  by_tests : rules_by kind numbers stores (good_tool t) positions weight (limits_ok t.limits) ≡ refusal
  unfolding tool_arguments_with
  by_tests =
      ap (λ b. first (argument_rules b (good_tool t) (positions && weight) (limits_ok t.limits)))
      (regrouped kind numbers (tool_number t.tool) (named_or_none t.ev) (named_or_none t.mv))

  pub kind_refused : kind ≡ false → 2 ≡ refusal
  kind_refused e = (rw e) ∙ by_tests

  pub stores_refused : kind ≡ true → stores ≡ false → 2 ≡ refusal
  stores_refused e s = (rw (e, s) (no_stores numbers (good_tool t) positions weight (limits_ok t.limits))) ∙ by_tests

  pub probing_refused : kind ≡ true → stores ≡ true → {n : ℕ} → n ≡ probing → (n ≡ 0 → ⊥) → n ≡ refusal
  probing_refused e s p h = (rw (e, s) (not_probed numbers (good_tool t) positions weight (limits_ok t.limits) p h)) ∙ by_tests

  rest : kind ≡ true → stores ≡ true → 0 ≡ probing → first (3 unless weight ∷ 4 unless limits_ok t.limits ∷ []) ≡ refusal
  rest e s p = sym (sym by_tests ∙ (rw (e, s) (probed numbers (good_tool t) positions weight (limits_ok t.limits) p)))

  pub weight_refused : kind ≡ true → stores ≡ true → 0 ≡ probing → weight ≡ false → 3 ≡ refusal
  weight_refused e s p w = (rw w) ∙ rest e s p

  pub limits_refused : kind ≡ true → stores ≡ true → 0 ≡ probing → weight ≡ true → limits_ok t.limits ≡ false → 4 ≡ refusal
  limits_refused e s p w l = (rw (w, l)) ∙ rest e s p

  pub none_refused : kind ≡ true → stores ≡ true → 0 ≡ probing → weight ≡ true → limits_ok t.limits ≡ true → 0 ≡ refusal
  none_refused e s p w l = (rw (w, l)) ∙ rest e s p

  pub arguments_passed : 0 ≡ refusal → ToolArgumentsPassed a
  unfolding tool_arguments_with
  arguments_passed e =
      tool_arguments_passed a (floats_good (tool_numbers a) (good_tool t) (3 unless tool_positions a ∷ 4 unless limits_ok a.limits ∷ []) (sym e))
