-- The rules of the arguments in their order: 2 of the kind's number, of the offset's and of the others, 13, 3, then 4.
use Rattle.std.proofs.Common.{◌≡◌, refl, ℕ, Bool, true, false, cond, ◌&&◌, pos, arith}
use Rattle.signed.specs.Ranges.{within}
use Rattle.package.specs.declared.refusals.Refusal.{Refusal}
use Rattle.package.specs.Refusals.{number}
use Rattle.package.specs.RefusalLaws.{number_some}
use Rattle.package.specs.declared.found.Kind.{Kind}
use Rattle.package.specs.Given.{ZeroMeasurement, ZeroReadings}
use Rattle.rules.specs.Stores.{offset_number}
use Rattle.rules.specs.Kinds.{zero_kind, zero_kind_number}
use Rattle.rules.specs.Sizes.{numbers_ok, positions_ok}
use Rattle.rules.specs.Zero.{zero_kind_of, good_zero, zero_at, zero_arguments_with}
use Rattle.rules.specs.Refusals.{first}
use Rattle.rules.specs.Measuring.{argument_rules}
use Rattle.rules.specs.Passed.{ZeroArgumentsPassed}
use Rattle.kind_tests.specs.Probing.{probing_rules}

module _ (t : ZeroReadings) where
  abbrev named : Bool
  named = zero_kind_number t.probing.kind

  abbrev kind : Kind
  kind = zero_kind t.probing.kind

  abbrev refusal : ℕ
  refusal = first (zero_arguments_with (good_zero t) (zero_at t))

  pub no_kind : named ≡ false → 2 ≡ refusal
  unfolding zero_arguments_with
  no_kind e = rw e refl

  pub no_offset : named ≡ true → offset_number t.offset ≡ false → 2 ≡ refusal
  unfolding zero_arguments_with
  no_offset e f = rw (e, f) (go (numbers_ok kind t.probing))
    where
      go : (b : Bool) → ◌≡◌ {A = ℕ} 2 (first (argument_rules (b && false) (good_zero t) (positions_ok kind t.probing (zero_at t).raws) (within (pos 0) (pos 1000000) t.tsa)))
      go true = refl
      go false = refl

  pub probed_first : (r : Refusal) → named ≡ true → offset_number t.offset ≡ true → number r ≡ first (probing_rules kind t.probing t.raws) → number r ≡ refusal
  unfolding zero_arguments_with
  probed_first r e f h = rw (e, f) (go (numbers_ok kind t.probing) (good_zero t) (positions_ok kind t.probing (zero_at t).raws) h)
    where
      go : (n g p : Bool) → number r ≡ cond n (cond g (cond p 0 3) 13) 2 → number r ≡ first (argument_rules (n && true) g p (within (pos 0) (pos 1000000) t.tsa))
      go true true true h = absurd (number_some r h)
      go true true false h = h
      go true false p h = h
      go false g p h = h

  pub tsa_last : named ≡ true → offset_number t.offset ≡ true → 0 ≡ first (probing_rules kind t.probing t.raws)
      → cond (within (pos 0) (pos 1000000) t.tsa) 0 4 ≡ refusal
  unfolding zero_arguments_with
  tsa_last e f h = rw (e, f) (go (numbers_ok kind t.probing) (good_zero t) (positions_ok kind t.probing (zero_at t).raws) h)
    where
      b : Bool
      b = within (pos 0) (pos 1000000) t.tsa

      go : (n g p : Bool) → ◌≡◌ {A = ℕ} 0 (cond n (cond g (cond p 0 3) 13) 2) → cond b 0 4 ≡ first (argument_rules (n && true) g p b)
      go true true true h = refl
      go true true false h = absurd (omega arith)
      go true false p h = absurd (omega arith)
      go false g p h = absurd (omega arith)

-- what no rule refuses
pub all_passed : (a : ZeroMeasurement) → zero_kind_number a.probing.kind ≡ true → numbers_ok (zero_kind_of a) a.probing ≡ true
    → positions_ok (zero_kind_of a) a.probing a.raws ≡ true → offset_number a.offset ≡ true → within (pos 0) (pos 1000000) a.tsa ≡ true → ZeroArgumentsPassed a
all_passed a k n p o t = record { numbers = record { kind = k; numbers = n; offset = o }; positions = p; tsa = t }
