-- The tests stand in the order of the rules.
use Rattle.std.proofs.Common.{refl, sym, ◌∙◌, rules}
use Rattle.signed.specs.CodeLaws.{read}
use Rattle.package.specs.Given.{zero_by, zero_with}
use Rattle.kinds.specs.KindLaws.{known_is, known_not}
use Rattle.zero_refusals.proofs.Order.{no_kind, no_offset, probed_first, tsa_last, all_passed}
use Rattle.zero_refusals.proofs.passed_zero.Goals as goal

pub returns-in_err-kind-clause-refusal : goal.returns-in_err-kind-clause-refusal
returns-in_err-kind-clause-refusal g c =
    let k = known_not _ _ (sym c.zero_kind.ensures ∙ c.in_err-kind.was) in
    let n = no_kind (zero_by g.T.Raw.reading c.args.a) (rw (read c.args.a.probing.kind (search rules)) at k.0) in
    search rules

pub returns-then-not-in_range-clause-refusal : goal.returns-then-not-in_range-clause-refusal
returns-then-not-in_range-clause-refusal g c =
    let a = c.args.a in
    let k = rw (read a.probing.kind (search rules)) at (known_is _ _ (sym c.zero_kind.ensures ∙ c.in_ok-kind.was)) in
    let f = rw (read a.offset (search rules)) at (sym c.in_range.ensures ∙ c.if-not-in_range.true) in
    no_offset (zero_by g.T.Raw.reading a) k.0 f

pub returns-in_err-probed-clause-refusal : goal.returns-in_err-probed-clause-refusal
returns-in_err-probed-clause-refusal g c =
    let a = c.args.a in
    let k = rw (read a.probing.kind (search rules)) at (known_is _ _ (sym c.zero_kind.ensures ∙ c.in_ok-kind.was)) in
    let f = rw (read a.offset (search rules)) at (sym c.in_range.ensures ∙ c.if-not-in_range.false) in
    let h = rw (c.in_err-probed.was, k.1) at c.tested.ensures.refusal in
    let n = probed_first (zero_by g.T.Raw.reading a) c.in_err-probed.field-0.0 k.0 f h in
    search rules

pub returns-then-not-in_range-2-clause-refusal : goal.returns-then-not-in_range-2-clause-refusal
returns-then-not-in_range-2-clause-refusal g c =
    let a = c.args.a in
    let k = rw (read a.probing.kind (search rules)) at (known_is _ _ (sym c.zero_kind.ensures ∙ c.in_ok-kind.was)) in
    let f = rw (read a.offset (search rules)) at (sym c.in_range.ensures ∙ c.if-not-in_range.false) in
    let t = rw (read a.tsa (search rules)) at (sym c.in_range-2.ensures ∙ c.if-not-in_range-2.true) in
    rw t at (tsa_last (zero_by g.T.Raw.reading a) k.0 f (rw k.1 at c.in_ok-probed.ensures.refusal))

pub invariant_of-result : goal.invariant_of-result
invariant_of-result g c =
    let a = c.args.a in
    let p = c.in_ok-probed.probed in
    let given = c.in_ok-probed.ensures.given in
    let k = rw (read a.probing.kind (search rules)) at (known_is _ _ (sym c.zero_kind.ensures ∙ c.in_ok-kind.was)) in
    let f = rw (read a.offset (search rules)) at (sym c.in_range.ensures ∙ c.if-not-in_range.false) in
    let t = rw (read a.tsa (search rules)) at (sym c.in_range-2.ensures ∙ c.if-not-in_range-2.false) in
    let numbers = rw (given.0, k.1, given.1) at p.numbers in
    let positions = rw (given.0, k.1, given.1) at p.positions in
    record {
      named = rw c.with_raws-given.ensures (given.0 ∙ k.1);
      probing = rw c.with_raws-given.ensures (given.1, refl);
      passed = rw c.with_raws-given.ensures (all_passed (zero_with a p.raws) k.0 numbers positions f t);
    }
