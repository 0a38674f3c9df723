-- After each turn the line's numbers are the first n values, then those of the line from `at` on; the byte behind a field tells how it ends.
use Rattle.std.proofs.Common.{◌≡◌, ◌∙◌, ap, sym, ℕ, ◌+◌, ◌<◌, ◌≤◌, List, [], ◌∷◌, ◌++◌, ℤ, length, take, drop, add-one, arith, length-take-le, w64, to_z, of_z, rules}
use lib.ListN.{set, length-set}
use lib.Seq.{take-suc-set}
use Rattle.text.specs.Reading.{Reads, front as read}
use Rattle.text.specs.Pieces.{cut, comma, field, line}
use Rattle.job_text.specs.Bytes.{byte_of}
use Rattle.job_text.specs.Letters.{form_of}
use Rattle.job_text.specs.Lines.{numbers_of}
use Rattle.job_text.specs.Fields.{few}
use Rattle.job_text.proofs.FieldLaws.{front, front_more, full, stays_within, one_more, ended_by_lem, not_read}
use Rattle.job_text.proofs.read_fields.Goals as goal
use Rattle.job_text.proofs.read_fields.Goals.{In_ok-field}

-- what is read of the part from a place on is read of the text there
here : (c : In_ok-field) → Reads (form_of (byte_of c.args.letter) c.loop-n.n) (read c.in_ok-field.field.value c.in_ok-field.field.size) (field (drop c.loop-n.at c.args.rest.bytes.now))
here c = rw c.from_place.ensures at c.in_ok-field.ensures

-- the field ends within the line, which ends within the text
within : (c : In_ok-field) → (c.loop-n.at + c.in_ok-field.field.size ≤ length (line c.args.rest.bytes.now)) × (length (line c.args.rest.bytes.now) < length c.args.rest.bytes.now)
within c =
    let s = c.args.rest.bytes.now in
    (stays_within (form_of (byte_of c.args.letter)) s c.args.rest.ended c.loop-n.n c.loop-n.at c.loop-n.invariant.within _ _ (here c), c.args.rest.ended)

-- a number in front of the others
more : (values : List ℤ) (n : ℕ) (v : ℤ) → n < length values → take (n + 1) (set values n v) ≡ take n values ++ (v ∷ [])
more values n v h = rw (add-one n) (take-suc-set values n v h)

pub returns-in_err-field : goal.returns-in_err-field
returns-in_err-field c =
    let form = form_of (byte_of c.args.letter) in
    let i = c.loop-n.invariant in
    let w = rw c.from_place.ensures at c.in_err-field.ensures in
    rw c.from_residual.ensures (sym (ap few (i.numbers ∙ ap (front _) (not_read form c.args.rest.bytes.now c.args.rest.ended c.loop-n.n c.loop-n.at i.within w))), tt)

pub overflow_add-at : goal.overflow_add-at
overflow_add-at c = omega (arith, within (goal.at.overflow_add-at c).In_ok-field)

pub bounds-rest-at : goal.bounds-rest-at
bounds-rest-at c = omega (arith, within (goal.at.bounds-rest-at c).In_ok-field)

pub bounds-rest-at-then-rest-at-ne-COMMA : goal.bounds-rest-at-then-rest-at-ne-COMMA
bounds-rest-at-then-rest-at-ne-COMMA c = omega (arith, within (goal.at.bounds-rest-at-then-rest-at-ne-COMMA c).In_ok-field)

pub returns-then-rest-at-ne-COMMA : goal.returns-then-rest-at-ne-COMMA
returns-then-rest-at-ne-COMMA c =
    let s = c.args.rest.bytes.now in
    let i = c.loop-n.invariant in
    let v = c.in_ok-field.field.value in
    let n = c.loop-n.n in
    let vs = c.loop-n.values in
    let one = more vs n v (omega arith) in
    let back : to_z w64 (of_z w64 v) ≡ v = search rules in
    let size = length-take-le (n + 1) (set vs n v) (omega (arith, length-set vs n v)) in
    rw (c.ended.ensures, back)
    (ended_by_lem (form_of (byte_of c.args.letter)) s c.args.rest.ended n c.loop-n.at i.within v _ (here (goal.at.returns-then-rest-at-ne-COMMA c).In_ok-field)
    _ _ _ (n + 1) i.numbers one (omega arith) (omega arith) c.if-rest-at-ne-COMMA.true)

pub loop-n-preserved : goal.loop-n-preserved
loop-n-preserved c =
    let s = c.args.rest.bytes.now in
    let form = form_of (byte_of c.args.letter) in
    let i = c.loop-n.invariant in
    let v = c.in_ok-field.field.value in
    let k = c.in_ok-field.field.size in
    let n = c.loop-n.n in
    let at = c.loop-n.at in
    let vs = c.loop-n.values in
    let back : to_z w64 (of_z w64 v) ≡ v = search rules in
    let q = one_more form s c.args.rest.ended n at i.within v k (here (goal.at.loop-n-preserved c).In_ok-field) c.if-rest-at-ne-COMMA.false in
    record {
      within = omega (arith, q.0);
      room = length-set vs n (to_z w64 (of_z w64 v)) ∙ i.room;
      numbers = rw (back, more vs n v (omega arith))
          (i.numbers ∙ ap (front (take n vs)) q.1 ∙ front_more (take n vs) v (numbers_of form (n + 1) (cut comma (drop (at + k + 1) (line s)))));
    }

pub returns : goal.returns
returns c =
    let i = c.loop-n.invariant in
    let n = c.loop-n.n in
    let size = length-take-le n c.loop-n.values (omega arith) in
    (sym (ap few i.numbers ∙ full (form_of (byte_of c.args.letter)) n (drop c.loop-n.at (line c.args.rest.bytes.now)) _ (omega arith)), tt)
