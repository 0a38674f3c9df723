-- What a turn reads stands behind what was read before, and the input lost both.
use Rattle.std.proofs.Common.{◌≡◌, sym, ap, subst, ◌∙◌, rules, ℕ, ◌+◌, ◌≤◌, List, ◌++◌, length, take, append_assoc}
use Rattle.std.specs.Prelude.{Option, None, Some}
use Rattle.std.specs.Io.KnownBytes.{Consumes}
use Rattle.std.proofs.Math.Seq.{take-append-add}
use Rattle.std.proofs.lemmas.List.{take-append-le, length-take-le}
use borrow.Rule.Slice.PartMut.{put_mid, post_of}
use Rattle.file_input.proofs.read_full.Goals as goal

joined : (a b c : Option (List ℕ)) (xs ys : List ℕ) → Consumes a b xs → Consumes b c ys → Consumes a c (xs ++ ys)
joined None b c xs ys h k = tt
joined (Some x) None c xs ys h k = absurd h
joined (Some x) (Some y) None xs ys h k = absurd k
joined (Some x) (Some y) (Some z) xs ys h k = h ∙ ap (λ (l : List ℕ). xs ++ l) k ∙ sym (append_assoc xs ys z)

-- the front of a buffer after a part from a on is replaced
front : (a k n : ℕ) (xs ys : List ℕ) → a ≤ length xs → n ≤ length ys → take (a + n) (put_mid a k xs ys) ≡ take a xs ++ take n ys
front a k n xs ys h l =
    subst (λ (j : ℕ). take (j + n) (put_mid a k xs ys) ≡ take a xs ++ take n (ys ++ post_of a k xs)) (length-take-le a xs h)
    (take-append-add (take a xs) (ys ++ post_of a k xs) n)
    ∙ ap (λ (q : List ℕ). take a xs ++ q) (take-append-le n ys (post_of a k xs) l)

pub loop-done-preserved : goal.loop-done-preserved
loop-done-preserved g c = record {
  within = search rules;
  bytes =
      let l = c.loop-done in
      subst (λ (bs : List ℕ). Consumes (g.R.Read.remaining c.args.input.now) (g.R.Read.remaining c.read.new.self) bs)
      (sym (front l.done _ c.in_ok-size.size l.buffer c.read.new.buf l.invariant.within c.in_ok-size.ensures.bound.0))
      (joined (g.R.Read.remaining c.args.input.now) (g.R.Read.remaining l.input) (g.R.Read.remaining c.read.new.self) _ _ l.invariant.bytes c.in_ok-size.ensures.bytes.0);
}
