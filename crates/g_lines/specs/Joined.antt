-- Fields with commas between them: document 01, 'Job files', "parted by commas, no quoting".
use Rattle.std.specs.Prelude.{List, [], ◌∷◌, ◌++◌, ℕ}
use Rattle.text.specs.Pieces.{comma}

unfoldable pub joined : List (List ℕ) → List ℕ
joined [] = []
joined (f ∷ []) = f
joined (f ∷ g ∷ gs) = f ++ (comma ∷ joined (g ∷ gs))
