-- Before each turn `value` is what the `size` digits so far spell and the field goes on there; a first byte that is 0 or no digit is a case of its own.
use Rattle.std.proofs.Common.{◌≡◌, ℕ, ◌+◌, ◌*◌, ◌^◌, ◌<◌, ◌≤◌, List, length, get_or, drop, ap, inl, inr, add-one, arith}
use native.Mathlib.Nat.{pow-succ'}
use Rattle.text.specs.Numbers.{nought}
use Rattle.text.specs.Pieces.{HasLine, field}
use Rattle.text.specs.PieceLaws.{field_next, field_within}
use Rattle.text.proofs.Laws.{Passed, none_passed, digit_passed, stops, no_digits, nought_alone, ended}
use Rattle.text.proofs.Ended.read_whole.Goals as goal

-- the line feed ends the field within the text
inside : (s : List ℕ) (n i : ℕ) → HasLine s → Passed (field s) n i (field (drop i s)) → i < length s
inside s n i h p = omega (arith, p.size, field_within s)

-- a digit at i is the field's
step : (s : List ℕ) (n i d : ℕ) → i < length s → d ≤ 9 → get_or s i 0 ≡ nought + d → Passed (field s) n i (field (drop i s))
    → Passed (field s) (10 * n + d) (i + 1) (field (drop (i + 1) s))
step s n i d h k e p = digit_passed d k (rw (← e, ← field_next s i h (λ q. omega arith) (λ q. omega arith)) p)

pub returns-in_err-value : goal.returns-in_err-value
returns-in_err-value c =
    let s = c.args.self.bytes.now in
    rw c.from_residual.ensures (no_digits (field s) (stops s 0 (omega arith) c.in_err-value.ensures))

pub returns-then-value-eq0 : goal.returns-then-value-eq0
returns-then-value-eq0 c =
    let s = c.args.self.bytes.now in
    let e : get_or s 0 0 ≡ nought = omega (arith, c.in_ok-value.ensures.1) in
    rw (c.if-value-eq0.true, field_next s 0 (omega arith) (λ q. omega arith) (λ q. omega arith), e) (nought_alone (field (drop 1 s)))

pub loop-size-init : goal.loop-size-init
loop-size-init c =
    let s = c.args.self.bytes.now in
    let d = c.in_ok-value.value in
    let g = c.in_ok-value.ensures in
    let f = field_next s 0 (omega arith) (λ q. omega (arith, g.1)) (λ q. omega (arith, g.1)) in
    let z : 10 * 0 + d ≡ d = omega arith in
    let p = step s 0 0 d (omega arith) g.0 g.1 (none_passed (field s)) in
    record {
      range = (omega arith, omega arith);
      small = omega (arith, g.0);
      passed = rw z at p;
      first = λ z. omega (arith, g.1, ap (λ (l : List ℕ). get_or l 0 0) f);
    }

pub bounds-self-size : goal.bounds-self-size
bounds-self-size c = inside c.args.self.bytes.now c.loop-size.value c.loop-size.size c.args.self.ended c.loop-size.invariant.passed

pub returns-in-None : goal.returns-in-None
returns-in-None c =
    let s = c.args.self.bytes.now in
    let l = c.loop-size in
    ended (field (drop l.size s)) l.invariant.passed l.invariant.range.0 l.invariant.range.1 l.invariant.first
    (inr (stops s l.size (inside s l.value l.size c.args.self.ended l.invariant.passed) c.in-None.ensures))

pub loop-size-preserved : goal.loop-size-preserved
loop-size-preserved c =
    let s = c.args.self.bytes.now in
    let l = c.loop-size in
    let g = c.in-Some.ensures in
    let p : 10 ^ (l.size + 1) ≡ 10 * 10 ^ l.size = rw (add-one l.size) (pow-succ' 10 l.size) in
    record {
      range = (omega arith, omega arith);
      small = omega (arith, g.0);
      passed = step s l.value l.size c.in-Some.d (inside s l.value l.size c.args.self.ended l.invariant.passed) g.0 g.1 l.invariant.passed;
      first = l.invariant.first;
    }

pub returns : goal.returns
returns c =
    let l = c.loop-size in
    let e : l.size ≡ 8 = omega arith in
    rw e at (ended (field (drop l.size c.args.self.bytes.now)) l.invariant.passed l.invariant.range.0 l.invariant.range.1 l.invariant.first (inl e))
