-- What a list of steps comes to, one after the other, and the laws of every such list.
use Rattle.std.specs.Prelude.{◌≡◌, refl, List, [], ◌∷◌, ◌++◌}
use Rattle.std.proofs.Common.{ap, ◌∙◌}
use Rattle.lists.specs.Each.{Each}

module _ {A B : Type 0} where
  abbrev pub folded : (A → B → A) → A → List B → A
  folded f a [] = a
  folded f a (b ∷ bs) = folded f (f a b) bs

  -- what each step of a kind keeps, a list of them keeps
  pub folded_keeps : (P : A → Type 0) (Q : B → Type 0) (f : A → B → A) → ((a : A) (b : B) → Q b → P a → P (f a b)) → (a : A) (bs : List B) → Each Q bs → P a
      → P (folded f a bs)
  folded_keeps P Q f h a [] q p = p
  folded_keeps P Q f h a (b ∷ bs) q p = folded_keeps P Q f h (f a b) bs q.1 (h a b q.0 p)

  pub folded_append : (f : A → B → A) (a : A) (bs cs : List B) → folded f a (bs ++ cs) ≡ folded f (folded f a bs) cs
  folded_append f a [] cs = refl
  folded_append f a (b ∷ bs) cs = folded_append f (f a b) bs cs

-- a part of the state that goes its own way
pub folded_part : {A B C : Type 0} (g : A → C) (f : A → B → A) (e : C → B → C) → ((a : A) (b : B) → g (f a b) ≡ e (g a) b) → (a : A) (bs : List B)
    → g (folded f a bs) ≡ folded e (g a) bs
folded_part g f e h a [] = refl
folded_part g f e h a (b ∷ bs) = folded_part g f e h (f a b) bs ∙ ap (λ c. folded e c bs) (h a b)
