-- Each test is that of the rules on the arguments, whose numbers are read back as they are; the tests before it passed.
use Rattle.std.specs.Prelude.{◌≡◌, refl}
use Rattle.std.proofs.Common.{sym, ap, ◌∙◌, rules}
use Rattle.signed.specs.CodeLaws.{read}
use Rattle.package.specs.Given.{tool_by, tool_with}
use Rattle.package.specs.Refusals.{number, refusal_in}
use Rattle.package.specs.RefusalLaws.{number_some}
use Rattle.tool_refusals.proofs.Arguments.{kind_found, kind_missing, kind_refused, stores_refused, probing_refused, weight_refused, limits_refused, none_refused, arguments_passed}
use Rattle.tool_refusals.proofs.passed_tool.Goals as goal

pub returns-in_err-kind-clause-refusal : goal.returns-in_err-kind-clause-refusal
returns-in_err-kind-clause-refusal g c =
    let n = c.args.a.probing.kind in
    let k = kind_missing n (read n (search rules)) c.tool_kind.ensures c.in_err-kind.was in
    let e : refusal_in c.from_residual.result ≡ number c.in_err-kind.field-0.0 = search rules in
    e ∙ ap number k.1 ∙ kind_refused (tool_by g.T.Raw.reading c.args.a) k.0

pub returns-then-not-stores_named-clause-refusal :
    goal.returns-then-not-stores_named-clause-refusal
returns-then-not-stores_named-clause-refusal g c =
    let a = c.args.a in
    let k = kind_found a.probing.kind (read a.probing.kind (search rules)) c.tool_kind.ensures c.in_ok-kind.was in
    let s = sym (rw (read a.tool (search rules), read a.ev (search rules), read a.mv (search rules)) at c.stores_named.ensures) in
    stores_refused (tool_by g.T.Raw.reading a) k.0 (s ∙ c.if-not-stores_named.true)

pub returns-in_err-probed-clause-refusal : goal.returns-in_err-probed-clause-refusal
returns-in_err-probed-clause-refusal g c =
    let a = c.args.a in
    let k = kind_found a.probing.kind (read a.probing.kind (search rules)) c.tool_kind.ensures c.in_ok-kind.was in
    let s = sym (rw (read a.tool (search rules), read a.ev (search rules), read a.mv (search rules)) at c.stores_named.ensures) in
    let e : refusal_in c.from_residual-in_err-probed.result ≡ number c.in_err-probed.field-0.0 = search rules in
    let p = rw k.1 at c.in_err-probed.ensures.refusal in
    e ∙ probing_refused (tool_by g.T.Raw.reading a) k.0 (s ∙ c.if-not-stores_named.false) p (number_some c.in_err-probed.field-0.0)

pub returns-then-not-in_range-clause-refusal : goal.returns-then-not-in_range-clause-refusal
returns-then-not-in_range-clause-refusal g c =
    let a = c.args.a in
    let k = kind_found a.probing.kind (read a.probing.kind (search rules)) c.tool_kind.ensures c.in_ok-kind.was in
    let s = sym (rw (read a.tool (search rules), read a.ev (search rules), read a.mv (search rules)) at c.stores_named.ensures) in
    let p = rw k.1 at c.in_ok-probed.ensures.refusal in
    let w = sym (rw (read a.k (search rules)) at c.in_range.ensures) in
    weight_refused (tool_by g.T.Raw.reading a) k.0 (s ∙ c.if-not-stores_named.false) p (w ∙ c.if-not-in_range.true)

pub returns-then-not-limits_ok-clause-refusal : goal.returns-then-not-limits_ok-clause-refusal
returns-then-not-limits_ok-clause-refusal g c =
    let a = c.args.a in
    let k = kind_found a.probing.kind (read a.probing.kind (search rules)) c.tool_kind.ensures c.in_ok-kind.was in
    let s = sym (rw (read a.tool (search rules), read a.ev (search rules), read a.mv (search rules)) at c.stores_named.ensures) in
    let p = rw k.1 at c.in_ok-probed.ensures.refusal in
    let w = sym (rw (read a.k (search rules)) at c.in_range.ensures) in
    limits_refused (tool_by g.T.Raw.reading a) k.0 (s ∙ c.if-not-stores_named.false) p (w ∙ c.if-not-in_range.false)
    (sym c.limits_ok.ensures ∙ c.if-not-limits_ok.true)

pub invariant_of-result : goal.invariant_of-result
invariant_of-result g c =
    let a = c.args.a in
    let k = kind_found a.probing.kind (read a.probing.kind (search rules)) c.tool_kind.ensures c.in_ok-kind.was in
    let s = sym (rw (read a.tool (search rules), read a.ev (search rules), read a.mv (search rules)) at c.stores_named.ensures) in
    let p = rw k.1 at c.in_ok-probed.ensures.refusal in
    let w = sym (rw (read a.k (search rules)) at c.in_range.ensures) in
    let r = none_refused (tool_by g.T.Raw.reading a) k.0 (s ∙ c.if-not-stores_named.false) p (w ∙ c.if-not-in_range.false)
    (sym c.limits_ok.ensures ∙ c.if-not-limits_ok.false) in
    let given = c.in_ok-probed.ensures.given in
    let e = c.with_raws-given.ensures in
    record {
      named = rw e (given.0 ∙ k.1);
      probing = rw e (given.1, refl);
      passed = rw (e ∙ ap (tool_with a) (rw k.1 at given.2)) (arguments_passed (tool_by g.T.Raw.reading a) r);
    }
