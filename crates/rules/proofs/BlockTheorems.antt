-- What a save writes a load reads back, and what a load reads a save writes again.
use Rattle.std.specs.Prelude.{◌≡◌, refl, List, ◌++◌, ℕ, ◌≤◌, ◌<◌, length, take, drop}
use Rattle.std.proofs.Common.{arith, length-append, length-take, length-drop, take-append-drop, take_at, drop_at, le-leb}
use Rattle.lists.specs.Each.{each_take, each_drop}
use Rattle.rules.specs.Stores.{Package, empiricals, means, with_entries}
use Rattle.package.specs.declared.records.Memory.{Memory}
use Rattle.rules.specs.Block.{octets, block_of, memory_in, saved_with}
use Rattle.rules.specs.Answers.{saved}
use Rattle.rules.specs.BlockLaws.{Bytes, length_octets}
use Rattle.rules.proofs.BlockLaws.{values_back, bytes_back}
use Rattle.rules.specs.Calls.{load, refusal, step}
use Rattle.rules.specs.BlockTheorems.{Typed}

block_length : (m : Memory) → Typed m → length (block_of m) ≡ 80
block_length m t =
    simp (length-append, length_octets) (omega (arith, t.empirical.long, t.means.long))

-- "Saving writes the first 80 bytes of the buffer and keeps the rest"
saved_long : (m : Memory) (buffer : List ℕ) → 80 ≤ length buffer → saved_with m buffer ≡ block_of m ++ drop 80 buffer
unfolding saved_with
saved_long m buffer h = rw (le-leb 80 (length buffer) h) refl

-- the same forty values, whatever package p they are loaded into
pub load_after_save : (p q : Package) (buffer : List ℕ) → Typed (memory_in p) → 80 ≤ length buffer →
    step q (load (take 80 (saved p buffer))) ≡ with_entries (with_entries q empiricals (memory_in p).empirical) means (memory_in p).means
unfolding step refusal
load_after_save p q buffer t h =
    let m = memory_in p in
    let e = octets m.empirical in
    let n : length (e ++ octets m.means) ≡ 80 = block_length m t in
    let ne : length e ≡ 40 = omega (arith, length_octets m.empirical, t.empirical.long) in
    rw (
      saved_long m buffer h,
      take_at (e ++ octets m.means) (drop 80 buffer) 80 n,
      n,
      take_at e (octets m.means) 40 ne,
      drop_at e (octets m.means) 40 ne,
      values_back m.empirical t.empirical,
      values_back m.means t.means,
    )

-- the same 80 bytes, whatever package p they were loaded into
pub save_after_load : (p : Package) (block buffer : List ℕ) → length block ≡ 80 → Bytes block → 80 ≤ length buffer →
    saved (step p (load block)) buffer ≡ block ++ drop 80 buffer
unfolding step refusal
save_after_load p block buffer n b h =
    let front : length (take 40 block) ≡ 40 = simp length-take (omega arith) in
    let rest : length (drop 40 block) ≡ 40 = simp length-drop (omega arith) in
    rw (
      saved_long (memory_in (step p (load block))) buffer h,
      n,
      bytes_back 20 (take 40 block) front (each_take (λ x. x < 256) 40 block b),
      bytes_back 20 (drop 40 block) rest (each_drop (λ x. x < 256) 40 block b),
      take-append-drop 40 block,
    )
