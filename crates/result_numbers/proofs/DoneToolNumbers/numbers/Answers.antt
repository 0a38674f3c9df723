-- Each entry is small, so that it is stored as it is; the array is filled entry by entry.
use Rattle.std.proofs.Common.{◌≡◌, ap, ap₂, ◌∙◌, ℕ, ◌≤◌, ◌<◌, ℤ, pos, ◌+ℤ◌, get_or, arith, rules, to_z, of_z, to_z-of_z}
use Rattle.std.proofs.Math.IntN.{nat_abs}
use Rattle.std.specs.Int.{w64}
use Rattle.signed.specs.CodeLaws.{read}
use Rattle.lists.specs.Each.{each_at}
use Rattle.package.specs.Given.{ToolMeasurement}
use Rattle.package.specs.declared.found.Found.{Found}
use Rattle.rules.specs.Passed.{ToolArgumentsPassed}
use Rattle.rules.specs.Tool.{tool_kind_of}
use Rattle.rules.specs.Results.{ovr, tool_entries, tool_filled}
use Rattle.result_sizes.specs.ResultLaws.{small_fits, asked, stored}
use Rattle.result_sizes.specs.OutcomeLaws.{number_size}
use Rattle.evaluation.specs.FoundSmall.{FoundSmall}
use Rattle.result_numbers.proofs.Laws.{both_small, limits_small, tool_small}
use Rattle.result_numbers.proofs.DoneToolNumbers.numbers.Goals as goal

pub size_numbers-n-requires : goal.size_numbers-n-requires
size_numbers-n-requires c =
    let a = c.args.self.passed.given in
    let f = c.args.self.found.found in
    let h = c.args.self.passed.passed.numbers in
    let t = c.args.self.found.small in
    rw (read f.ev (search rules), c.args.self.passed.named)
    (both_small (tool_kind_of a) a.probing f.sizes f.ev h.numbers (omega (arith, number_size 0 4 a.probing.kind h.kind)) t.sizes t.ev)

module _ (a : ToolMeasurement) (f : Found) (passed : ToolArgumentsPassed a × FoundSmall f) where
  -- the size of a number, by its place in the list of entries
  sized : (i : ℕ) → i < 13 → nat_abs (get_or (tool_entries a f.sizes f.ev f.decision) i (ovr 0 (pos 0))).number ≤ 1000000000
  sized i h =
      each_at (λ e. nat_abs e.number ≤ 1000000000) (tool_entries a f.sizes f.ev f.decision) i (ovr 0 (pos 0)) (tool_small a f passed.0 passed.1) h

  -- a limit added to the setpoint, as the code reads both
  raised_read : (t : ℤ) → nat_abs t ≤ 1000000 → (to_z w64 (of_z w64 f.sizes.held.setpoint) +ℤ to_z w64 (of_z w64 t)) ≡ (f.sizes.held.setpoint +ℤ t)
  raised_read t h =
      ap₂ ◌+ℤ◌
      (to_z-of_z (small_fits f.sizes.held.setpoint (omega (arith, passed.1.sizes.setpoint))))
      (to_z-of_z (small_fits t (omega (arith, h))))

  upper : (to_z w64 (of_z w64 f.sizes.held.setpoint) +ℤ to_z w64 (of_z w64 a.limits.tul)) ≡ (f.sizes.held.setpoint +ℤ a.limits.tul)
  upper = raised_read a.limits.tul (limits_small a.limits passed.0.limits).tul

  lower : (to_z w64 (of_z w64 f.sizes.held.setpoint) +ℤ to_z w64 (of_z w64 a.limits.tll)) ≡ (f.sizes.held.setpoint +ℤ a.limits.tll)
  lower = raised_read a.limits.tll (limits_small a.limits passed.0.limits).tll

pub returns : goal.returns
unfolding tool_filled
returns c =
    let a = c.args.self.passed.given in
    let f = c.args.self.found.found in
    let passed : ToolArgumentsPassed a × FoundSmall f = (c.args.self.passed.passed, c.args.self.found.small) in
    let small = sized a f passed in
    rw (
      c.size_numbers-n.ensures,
      c.args.self.passed.named,
      read f.ev (search rules),
      stored (f.sizes.held.setpoint +ℤ a.limits.tul) (small 0 (omega arith)) (c.narrow.ensures ∙ ap (λ (z : ℤ). to_z w64 (of_z w64 z)) (upper a f passed)),
      stored (f.sizes.held.setpoint +ℤ a.limits.tll) (small 1 (omega arith)) (c.narrow-2.ensures ∙ ap (λ (z : ℤ). to_z w64 (of_z w64 z)) (lower a f passed)),
      stored f.decision.correction (small 2 (omega arith)) c.narrow-3.ensures,
      stored a.limits.tzl (small 3 (omega arith)) c.narrow-4.ensures,
      stored a.limits.tsa (small 4 (omega arith)) c.narrow-5.ensures,
      stored a.limits.tdif (small 5 (omega arith)) c.narrow-6.ensures,
      stored f.ev (small 6 (omega arith)) c.narrow-7.ensures,
      stored f.decision.mean (small 7 (omega arith)) c.narrow-8.ensures,
      stored a.tool (small 8 (omega arith)) c.narrow-9.ensures,
      stored a.k (small 9 (omega arith)) c.narrow-10.ensures,
      stored a.mv (small 10 (omega arith)) c.narrow-11.ensures,
      stored a.ev (small 11 (omega arith)) c.narrow-12.ensures,
      stored a.tool (small 12 (omega arith)) c.narrow-13.ensures,
    )

pub overflow_add-sizes : goal.overflow_add-sizes
overflow_add-sizes c =
    let a = c.args.self.passed.given in
    let f = c.args.self.found.found in
    let passed : ToolArgumentsPassed a × FoundSmall f = (c.args.self.passed.passed, c.args.self.found.small) in
    rw (upper a f passed) (small_fits (f.sizes.held.setpoint +ℤ a.limits.tul) (sized a f passed 0 (omega arith)))

pub narrow-requires : goal.narrow-requires
narrow-requires c =
    let a = c.args.self.passed.given in
    let f = c.args.self.found.found in
    let passed : ToolArgumentsPassed a × FoundSmall f = (c.args.self.passed.passed, c.args.self.found.small) in
    rw (upper a f passed) (asked (f.sizes.held.setpoint +ℤ a.limits.tul) (sized a f passed 0 (omega arith)))

pub overflow_add-sizes-2 : goal.overflow_add-sizes-2
overflow_add-sizes-2 c =
    let a = c.args.self.passed.given in
    let f = c.args.self.found.found in
    let passed : ToolArgumentsPassed a × FoundSmall f = (c.args.self.passed.passed, c.args.self.found.small) in
    rw (lower a f passed) (small_fits (f.sizes.held.setpoint +ℤ a.limits.tll) (sized a f passed 1 (omega arith)))

pub narrow-requires-2 : goal.narrow-requires-2
narrow-requires-2 c =
    let a = c.args.self.passed.given in
    let f = c.args.self.found.found in
    let passed : ToolArgumentsPassed a × FoundSmall f = (c.args.self.passed.passed, c.args.self.found.small) in
    rw (lower a f passed) (asked (f.sizes.held.setpoint +ℤ a.limits.tll) (sized a f passed 1 (omega arith)))

pub narrow-requires-4 : goal.narrow-requires-4
narrow-requires-4 c = asked c.args.self.passed.given.limits.tzl (sized c.args.self.passed.given c.args.self.found.found (c.args.self.passed.passed, c.args.self.found.small) 3 (omega arith))

pub narrow-requires-5 : goal.narrow-requires-5
narrow-requires-5 c = asked c.args.self.passed.given.limits.tsa (sized c.args.self.passed.given c.args.self.found.found (c.args.self.passed.passed, c.args.self.found.small) 4 (omega arith))

pub narrow-requires-6 : goal.narrow-requires-6
narrow-requires-6 c = asked c.args.self.passed.given.limits.tdif (sized c.args.self.passed.given c.args.self.found.found (c.args.self.passed.passed, c.args.self.found.small) 5 (omega arith))

pub narrow-requires-8 : goal.narrow-requires-8
narrow-requires-8 c = asked c.args.self.found.found.decision.mean (sized c.args.self.passed.given c.args.self.found.found (c.args.self.passed.passed, c.args.self.found.small) 7 (omega arith))

pub narrow-requires-9 : goal.narrow-requires-9
narrow-requires-9 c = asked c.args.self.passed.given.tool (sized c.args.self.passed.given c.args.self.found.found (c.args.self.passed.passed, c.args.self.found.small) 8 (omega arith))

pub narrow-requires-10 : goal.narrow-requires-10
narrow-requires-10 c = asked c.args.self.passed.given.k (sized c.args.self.passed.given c.args.self.found.found (c.args.self.passed.passed, c.args.self.found.small) 9 (omega arith))

pub narrow-requires-11 : goal.narrow-requires-11
narrow-requires-11 c = asked c.args.self.passed.given.mv (sized c.args.self.passed.given c.args.self.found.found (c.args.self.passed.passed, c.args.self.found.small) 10 (omega arith))

pub narrow-requires-12 : goal.narrow-requires-12
narrow-requires-12 c = asked c.args.self.passed.given.ev (sized c.args.self.passed.given c.args.self.found.found (c.args.self.passed.passed, c.args.self.found.small) 11 (omega arith))

pub narrow-requires-13 : goal.narrow-requires-13
narrow-requires-13 c = asked c.args.self.passed.given.tool (sized c.args.self.passed.given c.args.self.found.found (c.args.self.passed.passed, c.args.self.found.small) 12 (omega arith))
