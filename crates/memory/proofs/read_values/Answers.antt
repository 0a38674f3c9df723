-- After i turns the first i entries are the values of the section's first i records; each record is one number, and 20 turns give them all.
use mathlib.Core.Path.{◌≡◌, sym, ap, ◌∙◌}
use mathlib.Core.List.{List, [], map, append-nil}
use Prim.Native.Nat.{ℕ, ◌+◌, ◌≤◌, ◌<◌}
use native.Mathlib.Omega.{arith}
use lib.IntN.{ℤ, pos}
use lib.ListN.{length, get_or, length-map}
use mir.Syntax.{w16, w32}
use mir.Val.{to_z, of_z}
use borrow.Author.Rules.{rules}
use Rattle.signed.specs.CodeLaws.{read_as}
use Rattle.lists.specs.Copied.{copied_suc, copied_all}
use Rattle.rules.specs.Stores.{means}
use Rattle.layout.specs.declared.Section.{Section}
use Rattle.layout.specs.Layout.{place, records}
use Rattle.layout.specs.LayoutLaws.{records_length, record_read, number_read}
use Rattle.area.specs.Table.{value_from, record_from}
use Rattle.memory.proofs.read_values.Goals as goal
use Rattle.memory.proofs.read_values.Goals.{At-loop-i}

-- a number that is read is that of its record
read_at : (s : Section) (area : List ℤ) (i : ℕ) → s.width ≡ 1 → i < s.count
    → value_from (get_or area (s.at + i) (pos 0)) ≡ get_or (map (record_from means) (records s area)) i (record_from means [])
read_at s area i w h =
    let e : s.at + i ≡ place s i + 0 = rw w (omega arith) in
    ap (λ (k : ℕ). value_from (get_or area k (pos 0))) e
    ∙ ap value_from (sym (number_read s area i 0 (pos 0) (omega arith)))
    ∙ sym (record_read s area (record_from means) i h)

module _ (c : At-loop-i) where
  abbrev section : Section
  section = c.before.args.s

  abbrev area : List ℤ
  area = c.before.args.area.now

  twenty : length (map (record_from means) (records section area)) ≡ 20
  twenty = length-map (records section area) (record_from means) ∙ records_length section area ∙ c.before.requires.1

  inside : section.at + 20 ≤ length area
  inside = rw (c.before.requires.0, c.before.requires.1) at c.before.requires.2

pub loop-i-preserved : goal.loop-i-preserved
loop-i-preserved c =
    let l = c.before.before.before.before in
    let back : to_z w16 (of_z w16 c.value_from.result) ≡ c.value_from.result = search rules in
    let r = c.value_from.ensures ∙ ap value_from (read_as w32 _ c.before.value_from-arg-1.given)
    ∙ read_at (section l) (area l) l.loop-i.i l.before.requires.0 (omega (arith, l.before.requires.1)) in
    let n = twenty l in
    rw (l.loop-i.invariant, back, r)
    (copied_suc _ (map (record_from means) (records (section l) (area l))) l.loop-i.i _ (omega arith) (omega arith))

pub returns : goal.returns
returns c =
    let l = c.before in
    let xs = map (record_from means) (records (section l) (area l)) in
    let e : l.loop-i.i ≡ 20 = omega arith in
    l.loop-i.invariant ∙ rw (e, copied_all _ xs 20 (twenty l)) (append-nil xs)
