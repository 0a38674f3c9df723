-- Fields without commas, joined and cut again, are the same fields; and no piece that was cut has a comma.
use Rattle.std.specs.Prelude.{◌≡◌, Bool, cond, ℕ, ◌≤◌, length}
use Rattle.std.proofs.Math.Path.{refl}
use Rattle.std.proofs.Common.{ap, ◌∙◌, arith, eq-eqb, ne_eqb}
use Rattle.std.proofs.Math.Bool.{true, false}
use mathlib.Core.List.{List, [], ◌∷◌, ◌++◌}
use Rattle.std.proofs.lemmas.Bool.{eqb-false}
use Rattle.std.proofs.Math.Dec.{eqb}
use Rattle.lists.specs.Each.{Each}
use Rattle.text.specs.Pieces.{comma, onto, cut}
use Rattle.g_lines.specs.Joined.{joined}

-- a list without the byte b
abbrev pub Without : ℕ → List ℕ → Type 0
Without b = Each (λ x. x ≡ b → ⊥)

module _ (b : ℕ) where
  cut_last : (xs : List ℕ) → Without b xs → cut b xs ≡ xs ∷ []
  unfolding cut
  cut_last [] h = refl
  cut_last (x ∷ xs) h = rw (ne_eqb x b h.0, cut_last xs h.1)

  cut_next : (xs rest : List ℕ) → Without b xs → cut b (xs ++ (b ∷ rest)) ≡ xs ∷ cut b rest
  unfolding cut
  cut_next [] rest h = rw (eq-eqb b b refl)
  cut_next (x ∷ xs) rest h = rw (ne_eqb x b h.0, cut_next xs rest h.1)

  onto_without : (x : ℕ) (ps : List (List ℕ)) → (x ≡ b → ⊥) → Each (Without b) ps → Each (Without b) (onto x ps)
  onto_without x [] n h = tt
  onto_without x (p ∷ ps) n h = ((n, h.0), h.1)

  pub cut_without : (xs : List ℕ) → Each (Without b) (cut b xs)
  unfolding cut
  cut_without [] = (tt, tt)
  cut_without (x ∷ xs) = go (eqb x b) refl (cut_without xs)
    where
      go : (t : Bool) → eqb x b ≡ t → Each (Without b) (cut b xs) → Each (Without b) (cond t ([] ∷ cut b xs) (onto x (cut b xs)))
      go true e h = (tt, h)
      go false e h = onto_without x (cut b xs) (eqb-false x b e) h

pub cut_joined : (fs : List (List ℕ)) → 1 ≤ length fs → Each (Without comma) fs → cut comma (joined fs) ≡ fs
unfolding joined
cut_joined [] l h = absurd (omega arith)
cut_joined (f ∷ []) l h = cut_last comma f h.0
cut_joined (f ∷ g ∷ gs) l h = cut_next comma f (joined (g ∷ gs)) h.0 ∙ ap (λ (l : List (List ℕ)). f ∷ l) (cut_joined (g ∷ gs) (omega arith) h.1)
