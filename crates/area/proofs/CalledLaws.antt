-- The one law of every call on an area: what the area holds after it is `step` of what it held.
use Rattle.std.specs.Prelude.{◌≡◌, refl, cond, List, eqb, ℤ, length}
use Rattle.std.proofs.Common.{◌∙◌, arith}
use Prim.Native.Nat.{ℕ, zero, suc}
use borrow.Author.Tests.{ne_eqb, eq-eqb}
use Rattle.rules.specs.BlockLaws.{Bytes}
use Rattle.rules.specs.InRange.{typed}
use Rattle.rules.proofs.InRange.{fits}
use Rattle.rules.specs.Calls.{Call, meaning, refusal, changes, step}
use Rattle.area.specs.Table.{area_length, held}
use Rattle.area.specs.RecordLaws.{held_typed}
use Rattle.area.specs.Renewed.{renewed_all}
use Rattle.area.specs.RenewedLaws.{Clean}
use Rattle.area.proofs.RenewedLaws.{held_all, clean_all}
use Rattle.area.specs.Called.{called}
use Rattle.area.specs.CalledLaws.{by_call}

module _ (area : List ℤ) (c : Call) where
  module _ (whole : length area ≡ area_length) where
    module _ (b : Bytes (meaning c).given) where
      -- the law of every call
      pub call_is : (held (called area c).area ≡ step (held area) c) × (length (called area c).area ≡ area_length)
      unfolding called step
      call_is = rw (eq-eqb (length area) area_length whole) (go (refusal (held area) c) refl)
        where
          go : (n : ℕ) → refusal (held area) c ≡ n
              → (held (cond (eqb n 0) (renewed_all area (changes (held area) c)) area) ≡ step (held area) c)
              × (length (cond (eqb n 0) (renewed_all area (changes (held area) c)) area) ≡ area_length)
          go zero e =
              let h = held_all area (omega arith) (changes (held area) c) (fits typed (held area) c e b (held_typed area)) in
              (h.0 ∙ rw e, h.1 ∙ whole)
          go (suc n) e = let k = ne_eqb (suc n) 0 (λ q. omega arith) in (rw (e, k), rw k whole)

      pub call_clean : Clean area → Clean (called area c).area
      call_clean h =
          by_call area c whole Clean h (λ e. clean_all area (omega arith) (changes (held area) c) (fits typed (held area) c e b (held_typed area)) h)
