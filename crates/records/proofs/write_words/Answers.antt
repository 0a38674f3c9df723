-- After i turns the first 2·i bytes of the values are copied to the buffer; a turn adds the low and the high byte of one value.
use Rattle.std.specs.Prelude.{◌≡◌, List, ℕ, ◌+◌, ◌*◌, ◌/◌, ◌%◌, ◌<◌, ℤ, pos, length, get_or, set}
use Rattle.std.proofs.Common.{sym, ap, ◌∙◌, arith, rules, w16, to_z, of_z}
use Rattle.lists.specs.Copied.{copied, copied_suc, copied_all}
use Rattle.rules.specs.Block.{code, octets}
use Rattle.rules.specs.BlockLaws.{octets_low, octets_high}
use Rattle.records.proofs.Laws.{forty}
use Rattle.records.proofs.write_words.Goals as goal

-- the two bytes of one value more
two_more : (d : List ℕ) (vs : List ℤ) (i : ℕ) {buffer : List ℕ} {low high : ℕ} → 2 * i + 1 < length d → 2 * i + 1 < length (octets vs)
    → buffer ≡ copied d (octets vs) (2 * i) → low ≡ code (get_or vs i (pos 0)) % 256 → high ≡ code (get_or vs i (pos 0)) / 256
    → set (set buffer (2 * i) low) (2 * i + 1) high ≡ copied d (octets vs) (2 * (i + 1))
two_more d vs i f g e l h =
    let next : 2 * (i + 1) ≡ 2 * i + 1 + 1 = omega arith in
    let one = copied_suc d (octets vs) (2 * i) 0 (omega arith) (omega arith) in
    rw (e, l ∙ sym (octets_low vs i), h ∙ sym (octets_high vs i), next, one, copied_suc d (octets vs) (2 * i + 1) 0 f g)

pub loop-i-preserved : goal.loop-i-preserved
loop-i-preserved c =
    let vs = c.args.values in
    let i = c.loop-i.i in
    let long : length (octets vs) ≡ 40 = forty vs (search rules) in
    let back : to_z w16 (of_z w16 (get_or vs i (pos 0))) ≡ get_or vs i (pos 0) = search rules in
    let low = ap (λ (bs : List ℕ). get_or bs 0 0) c.encode.ensures ∙ ap (λ (z : ℤ). code z % 256) back in
    let high = ap (λ (bs : List ℕ). get_or bs 1 0) c.encode.ensures ∙ ap (λ (z : ℤ). code z / 256) back in
    two_more c.args.buffer.now vs i (omega arith) (omega arith) c.loop-i.invariant low high

pub returns : goal.returns
returns c =
    let vs = c.args.values in
    let e : 2 * c.loop-i.i ≡ 40 = omega arith in
    c.loop-i.invariant ∙ rw e (copied_all c.args.buffer.now (octets vs) 40 (forty vs (search rules)))
