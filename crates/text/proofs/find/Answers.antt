-- The first place whose byte is b ends the piece before it.
use Rattle.std.proofs.Common.{◌≡◌, ℕ, ◌+◌, Bool, true, false, cond, ◌<◌, List, [], ◌∷◌, length, refl, ap, sym, ◌∙◌, arith, rules, tests, lt-ltb, le-ltb}
use Rattle.std.specs.Prelude.{◌==◌, Option, unwrap_or}
use Rattle.std.specs.List.{position, position_or_len}
use Rattle.std.proofs.Math.Decide.{dec_lt}
use Rattle.std.proofs.lemmas.Iterator.{YieldsList-from_slice}
use Rattle.std.proofs.lemmas.Iterator.Search.{position_from_yields_List}
use Rattle.std.proofs.lemmas.List.Recursion.{is_position_or_len}
use Rattle.text.specs.Pieces.{up_to}
use Rattle.text.specs.PieceLaws.{up_le}
use Rattle.text.proofs.find.Goals as goal

up_cons : (b x : ℕ) (xs : List ℕ) → length (up_to b (x ∷ xs)) ≡ cond (x == b) 0 (1 + length (up_to b xs))
unfolding up_to
up_cons b x xs = go (x == b)
  where
    go : (t : Bool) → length (cond t [] (x ∷ up_to b xs)) ≡ cond t 0 (1 + length (up_to b xs))
    go true = refl
    go false = omega arith

place : (b : ℕ) (s : List ℕ) → unwrap_or (position (λ x. x == b) s) (length s) ≡ length (up_to b s)
unfolding up_to
place b s = go (dec_lt (position_or_len (λ x. x == b) s) (length s))
  where
    same : length (up_to b s) ≡ position_or_len (λ x. x == b) s
    same = is_position_or_len (λ l. length (up_to b l)) (λ x. x == b) refl (up_cons b) s

    go : Dec (position_or_len (λ x. x == b) s < length s) → unwrap_or (position (λ x. x == b) s) (length s) ≡ length (up_to b s)
    go (yes h) = rw (lt-ltb (position_or_len (λ x. x == b) s) (length s) h) (sym same)
    go (no h) = rw (le-ltb (position_or_len (λ x. x == b) s) (length s) (omega arith)) (omega (arith, up_le b s, same))

pub returns : goal.returns
returns c =
    let s = c.args.s.now in
    let b = c.args.b in
    let e : c.position.result ≡ position (λ x. x == b) s =
    position_from_yields_List (λ x. x == b) _ _ _ c.position.ensures.ran (YieldsList-from_slice s cc) (λ x r q k. search (rules, tests)) in
    c.unwrap_or.ensures ∙ ap (λ (r : Option ℕ). unwrap_or r (length s)) e ∙ place b s
