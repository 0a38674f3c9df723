-- After i turns the area is that of the start with the first i values written from the place on; at 20 these are all of them.
use mathlib.Core.Path.{◌≡◌, ◌∙◌}
use mathlib.Core.List.{List}
use Prim.Native.Nat.{ℕ}
use native.Mathlib.Numerals.{add-one}
use native.Mathlib.Omega.{arith}
use lib.IntN.{pos}
use lib.ListN.{length}
use lib.Seq.{paste-suc, take_all}
use mir.Syntax.{w32}
use mir.Val.{to_z, of_z}
use borrow.Author.Rules.{rules}
use Rattle.lists.specs.Written.{written}
use Rattle.rules.specs.Block.{words}
use Rattle.rules.specs.BlockLaws.{length_words, words_at}
use Rattle.memory.proofs.write_values.Goals as goal

twenty : (bytes : List ℕ) → length bytes ≡ 40 → length (words bytes) ≡ 20
twenty bytes h = length_words 20 bytes h

pub loop-i-preserved : goal.loop-i-preserved
loop-i-preserved c =
    let kept : to_z w32 (of_z w32 c.from.result) ≡ c.decode-v.result = search rules in
    let n = twenty c.args.bytes.now c.requires.1 in
    rw (
      c.loop-i.invariant,
      kept,
      c.decode-v.ensures,
      ← words_at c.args.bytes.now c.loop-i.i (omega (arith, c.requires.1)),
      add-one c.loop-i.i,
    )
    (paste-suc c.args.area.now c.args.at (words c.args.bytes.now) c.loop-i.i (pos 0) (omega (arith, c.requires.0)) (omega arith))

pub returns : goal.returns
unfolding written
returns c =
    let n = twenty c.args.bytes.now c.requires.1 in
    let e : c.loop-i.i ≡ length (words c.args.bytes.now) = omega arith in
    c.loop-i.invariant ∙ rw (e, take_all (length (words c.args.bytes.now)) (words c.args.bytes.now) (omega arith))
