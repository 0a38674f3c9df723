-- A state as a table of rows, numbered from 0: each row has entries of its own type, so many of them, all the same at the start. Each law is said once, for
-- every table and every row of it.
use Rattle.std.specs.Prelude.{◌≡◌, refl, false, List, [], ◌∷◌, ℕ, zero, suc, eqb, length, replicate}
use Rattle.std.proofs.Common.{ap₂, arith}
use Rattle.std.proofs.lemmas.Bool.{eqb-false}

-- what an entry of a row is, how many there are, and what each is at the start; the same is read where there is none
pub record Row : Type 1 where
  pub Entry : Type 0
  pub count : ℕ
  pub fresh : Entry

pub data Rows : Type 1 where
  end : Rows
  more : Row → Rows → Rows

abbrev pub none : Row
none = record { Entry = Unit {0}; count = 0; fresh = tt }

abbrev pub row_at : Rows → ℕ → Row
row_at end i = none
row_at (more r rs) zero = r
row_at (more r rs) (suc i) = row_at rs i

abbrev pub State : Rows → Type 0
State end = Unit {0}
State (more r rs) = List r.Entry × State rs

-- the entries of a row, the state with others there, and the state with given entries in every row
abbrev pub row_of : (rs : Rows) → State rs → (i : ℕ) → List (row_at rs i).Entry
row_of end s i = []
row_of (more r rs) s zero = s.0
row_of (more r rs) s (suc i) = row_of rs s.1 i

abbrev pub with_row : (rs : Rows) → State rs → (i : ℕ) → List (row_at rs i).Entry → State rs
with_row end s i xs = s
with_row (more r rs) s zero xs = (xs, s.1)
with_row (more r rs) s (suc i) xs = (s.0, with_row rs s.1 i xs)

abbrev pub state_of : (rs : Rows) → ((i : ℕ) → List (row_at rs i).Entry) → State rs
state_of end f = tt
state_of (more r rs) f = (f 0, state_of rs (λ i. f (suc i)))

abbrev pub fresh_state : (rs : Rows) → State rs
fresh_state rs = state_of rs (λ i. replicate (row_at rs i).count (row_at rs i).fresh)

-- ---- laws
-- what holds of the new entries of a row, and of every row before, holds of every row after
pub by_row : (rs : Rows) (P : (i : ℕ) → List (row_at rs i).Entry → Type 0) (s : State rs) (i : ℕ) (xs : List (row_at rs i).Entry) → P i xs
    → ((j : ℕ) → P j (row_of rs s j)) → (j : ℕ) → P j (row_of rs (with_row rs s i xs) j)
by_row end P s i xs h k j = k j
by_row (more r rs) P s zero xs h k zero = h
by_row (more r rs) P s zero xs h k (suc j) = k (suc j)
by_row (more r rs) P s (suc i) xs h k zero = k zero
by_row (more r rs) P s (suc i) xs h k (suc j) = by_row rs (λ j ys. P (suc j) ys) s.1 i xs h (λ j. k (suc j)) j

-- a row that was given other entries, as many as it has; every other row; and the rows of a state that was given them all
pub own_row : (rs : Rows) (s : State rs) (i : ℕ) (xs : List (row_at rs i).Entry) → length xs ≡ (row_at rs i).count → row_of rs (with_row rs s i xs) i ≡ xs
own_row end s i [] n = refl
own_row end s i (x ∷ xs) n = absurd (omega arith)
own_row (more r rs) s zero xs n = refl
own_row (more r rs) s (suc i) xs n = own_row rs s.1 i xs n

pub other_row : (rs : Rows) (s : State rs) (i : ℕ) (xs : List (row_at rs i).Entry) (j : ℕ) → eqb i j ≡ false → row_of rs (with_row rs s i xs) j ≡ row_of rs s j
other_row rs s i xs =
    by_row rs (λ j ys. eqb i j ≡ false → ys ≡ row_of rs s j) s i xs (λ e. absurd (eqb-false i i e refl)) (λ j e. refl)

pub given_row : (rs : Rows) (f : (i : ℕ) → List (row_at rs i).Entry) → ((i : ℕ) → length (f i) ≡ (row_at rs i).count) → (i : ℕ) → row_of rs (state_of rs f) i ≡ f i
given_row end f n i = go (f i) (n i)
  where
    go : (xs : List (Unit {0})) → length xs ≡ 0 → [] ≡ xs
    go [] n = refl
    go (x ∷ xs) n = absurd (omega arith)
given_row (more r rs) f n zero = refl
given_row (more r rs) f n (suc i) = given_row rs (λ i. f (suc i)) (λ i. n (suc i)) i

pub same_state : (rs : Rows) (s t : State rs) → ((i : ℕ) → row_of rs s i ≡ row_of rs t i) → s ≡ t
same_state end s t h = refl
same_state (more r rs) s t h = ap₂ (λ (xs : List r.Entry) (u : State rs). (xs, u)) (h 0) (same_state rs s.1 t.1 (λ i. h (suc i)))

-- ---- what each row has beside its entries, and what is asked of each
abbrev pub Column : (Row → Type 1) → Rows → Type 1
Column F end = Unit {1}
Column F (more r rs) = F r × Column F rs

abbrev pub column_at : (F : Row → Type 1) → F none → (rs : Rows) → Column F rs → (i : ℕ) → F (row_at rs i)
column_at F d end c i = d
column_at F d (more r rs) c zero = c.0
column_at F d (more r rs) c (suc i) = column_at F d rs c.1 i

-- what is shown of each row, and of every number past the last, holds of every number
abbrev pub Listed : Rows → (ℕ → Type 0) → Type 0
Listed end P = Unit {0}
Listed (more r rs) P = P 0 × Listed rs (λ i. P (suc i))

abbrev pub past : Rows → ℕ → ℕ
past end n = n
past (more r rs) n = suc (past rs n)

pub by_rows : (rs : Rows) (P : ℕ → Type 0) → Listed rs P → ((n : ℕ) → P (past rs n)) → (i : ℕ) → P i
by_rows end P l h i = h i
by_rows (more r rs) P l h zero = l.0
by_rows (more r rs) P l h (suc i) = by_rows rs (λ i. P (suc i)) l.1 h i
