-- After each turn the numbers of the places before n are there.
use Rattle.std.proofs.Common.{◌≡◌, ◌∙◌, ◌<◌, List, ℕ, ℤ, ◌+◌, length, arith, rules, w64, to_z, of_z}
use Rattle.std.proofs.lemmas.Grind.{common_steps}
use lib.ListN.{set, length-set}
use Rattle.arguments.specs.Arguments.{at}
use Rattle.job_lines.proofs.fields_of.Goals as goal

-- one number more that is that of the others
one_more : (fs vs : List ℤ) (n : ℕ) (v : ℤ) → n < length fs → v ≡ at vs n → ((k : ℕ) → k < n → at fs k ≡ at vs k)
    → (k : ℕ) → k < n + 1 → at (set fs n v) k ≡ at vs k
one_more fs vs n v h e f k l = grind (arith, common_steps, f k)

pub loop-n-preserved : goal.loop-n-preserved
loop-n-preserved c =
    let fs = c.loop-n.fields in
    let n = c.loop-n.n in
    let v = c.number_in.result in
    let i = c.loop-n.invariant in
    let back : to_z w64 (of_z w64 v) ≡ v = search rules in
    rw back (record {
      room = length-set fs n v ∙ i.room;
      front = one_more fs c.args.numbers.now n v (omega arith) c.number_in.ensures i.front;
    })
