-- Each field stands behind those before it: the text so far, its room, and what has been written.
use Rattle.std.proofs.Common.{ℕ, ◌<◌, ◌^◌, List, ◌++◌, length, ℤ, w32, to_z, of_z, rules}
use lib.Signed.{mag}
use Rattle.signed.specs.CodeLaws.{read_as}
use Rattle.text.specs.Pieces.{comma, line_feed}
use Rattle.decimals.specs.BufferLaws.{Put, chain, fits_front}
use Rattle.job_answers.specs.LineAnswers.{whole_field, signed_field}
use Rattle.job_answers.proofs.put_evaluation.Goals as goal

-- the writing of a signed field, of the number and as the code reads it
put_read : (z : ℤ) (byte : ℕ) (h : mag z < 2 ^ 31) (k : ℕ) (a b : List ℕ) (l : ℕ)
    → Put a k (signed_field (to_z w32 (of_z w32 z)) byte) l b → Put a k (signed_field z byte) l b
put_read z byte h k a b l p = rw (read_as w32 z h) at p

pub returns : goal.returns
returns c =
    let e = c.args.e in
    let at = c.args.at in
    let n = length c.args.out.now in
    let t1 = whole_field e.branch comma in
    let t2 = t1 ++ whole_field e.verdict comma in
    let t3 = t2 ++ signed_field e.deviation comma in
    let fits3 = fits_front at n t3 (signed_field e.correction line_feed) c.requires in
    let fits2 = fits_front at n t2 (signed_field e.deviation comma) fits3 in
    let put2 = chain _ _ _ at _ _ t1 (whole_field e.verdict comma) fits2 c.put_field-verdict.ensures c.put_field-deviation.ensures in
    let put3 = chain _ _ _ at _ _ t2 (signed_field e.deviation comma) fits3 put2
    (put_read e.deviation comma (search rules) _ _ _ _ c.put_field-correction.ensures) in
    chain _ _ _ at _ _ t3 (signed_field e.correction line_feed) c.requires put3
    (put_read e.correction line_feed (search rules) _ _ _ _ c.put_field.ensures)
