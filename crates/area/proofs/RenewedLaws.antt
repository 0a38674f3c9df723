-- What an area holds after changes that fit is what it held with these changes: for every store, every record and every list of changes at once.
use Rattle.std.specs.Prelude.{◌≡◌, refl, Bool, true, false, List, [], ◌∷◌, map, ℕ, zero, suc, ◌≤◌, eqb, ℤ, pos, negsuc, length, set}
use Rattle.std.proofs.Common.{sym, ap, subst, ◌∙◌, arith, eqb-true}
use Rattle.std.proofs.lemmas.List.{length-map}
use Rattle.lists.specs.Each.{Each, each_set}
use Rattle.lists.specs.Rows.{own_row, other_row, same_state}
use Rattle.rules.specs.Stores.{Package, rows, put, StoreName, Holds, count_of, entries, with_entries}
use Rattle.rules.specs.StoreLaws.{length_put}
use Rattle.rules.specs.Changes.{Change, write, fill, made, made_all}
use Rattle.rules.specs.InRange.{typed, EntryKnown, Fits, AllFit}
use Rattle.layout.specs.LayoutLaws.{number_length, number_own, number_other}
use Rattle.layout.proofs.LayoutLaws.{sections_apart}
use Rattle.layout.specs.FillLaws.{Wide, fill_length, fill_own, fill_other}
use Rattle.area.specs.Table.{extents, area_length, section_of, numbers, record_from, records_of, held}
use Rattle.area.specs.RecordLaws.{counts, widths, long, entries_held, section_in, held_typed}
use Rattle.area.proofs.RecordLaws.{back}
use Rattle.area.specs.Renewed.{renewed, renewed_all}
use Rattle.area.specs.RenewedLaws.{Exact, Clean}

-- ---- the records of a store after a change: of the store that it names, and of another
abbrev named : Change → StoreName
named (write s n x) = s
named (fill s xs) = s

abbrev records_left : List (List ℤ) → Change → List (List ℤ)
records_left rs (write s n x) = put rs n (numbers s x)
records_left rs (fill s xs) = map (numbers s) xs

wide_one : (s : StoreName) (x : Holds s) → EntryKnown typed s x → length (numbers s x) ≡ (section_of s).width
wide_one s x k = long s x k ∙ sym (widths s)

wide : (s : StoreName) (xs : List (Holds s)) → Each (EntryKnown typed s) xs → Wide (section_of s) (map (numbers s) xs)
wide s [] k = tt
wide s (x ∷ xs) k = (wide_one s x k.0, wide s xs k.1)

module _ (area : List ℤ) (whole : area_length ≤ length area) where
  renewed_length : (c : Change) → Fits typed (held area) c → length (renewed area c) ≡ length area
  renewed_length (write s n x) f = number_length (section_of s) area (section_in area whole s) (numbers s x) (wide_one s x f.1) n (rw (counts s) f.0)
  renewed_length (fill s xs) f =
      fill_length (section_of s) area (section_in area whole s) (map (numbers s) xs) (length-map xs (numbers s) ∙ f.long ∙ sym (counts s))
      (wide s xs f.entries)

  own_records : (c : Change) → Fits typed (held area) c → records_of (named c) (renewed area c) ≡ records_left (records_of (named c) area) c
  own_records (write s n x) f = number_own (section_of s) area (section_in area whole s) (numbers s x) (wide_one s x f.1) n (rw (counts s) f.0)
  own_records (fill s xs) f =
      fill_own (section_of s) area (section_in area whole s) (map (numbers s) xs) (length-map xs (numbers s) ∙ f.long ∙ sym (counts s)) (wide s xs f.entries)

  other_records : (c : Change) → Fits typed (held area) c → (t : StoreName) → eqb (named c) t ≡ false → records_of t (renewed area c) ≡ records_of t area
  other_records (write s n x) f t e =
      number_other (section_of s) area (section_in area whole s) (numbers s x) (wide_one s x f.1) (section_of t) (sections_apart extents s t e) n
      (rw (counts s) f.0)
  other_records (fill s xs) f t e =
      fill_other (section_of s) area (section_in area whole s) (map (numbers s) xs) (length-map xs (numbers s) ∙ f.long ∙ sym (counts s))
      (wide s xs f.entries)
      (section_of t) (sections_apart extents s t e)

  -- what holds of the records of every store before, and of those that the change leaves, holds of every store after
  pub by_records : (P : (t : StoreName) → List (List ℤ) → Type 0) (c : Change) → Fits typed (held area) c
      → P (named c) (records_left (records_of (named c) area) c)
      → ((t : StoreName) → eqb (named c) t ≡ false → P t (records_of t area)) → (t : StoreName) → P t (records_of t (renewed area c))
  by_records P c f h k t = go (eqb (named c) t) refl
    where
      go : (b : Bool) → eqb (named c) t ≡ b → P t (records_of t (renewed area c))
      go true e = subst (λ (u : StoreName). P u (records_of u (renewed area c))) (eqb-true (named c) t e) (rw (own_records c f) h)
      go false e = rw (other_records c f t e) (k t e)

-- ---- what they are read as
map_put : {A B : Type 0} (f : A → B) (xs : List A) (n : ℤ) {x : A} (y : B) → f x ≡ y → map f (put xs n x) ≡ put (map f xs) n y
map_put f xs (pos zero) y e = refl
map_put f xs (negsuc i) y e = refl
map_put f xs (pos (suc i)) y e = go f xs i e
  where
    go : {A B : Type 0} (f : A → B) (xs : List A) (i : ℕ) {x : A} {y : B} → f x ≡ y → map f (set xs i x) ≡ set (map f xs) i y
    go f [] i e = refl
    go f (z ∷ zs) zero e = rw e
    go f (z ∷ zs) (suc i) e = rw (go f zs i e)

read_again : (s : StoreName) (xs : List (Holds s)) → Each (EntryKnown typed s) xs → map (record_from s) (map (numbers s) xs) ≡ xs
read_again s [] k = refl
read_again s (x ∷ xs) k = rw (back s x k.0, read_again s xs k.1)

abbrev entries_left : (p : Package) (c : Change) → List (Holds (named c))
entries_left p (write s n x) = put (entries p s) n x
entries_left p (fill s xs) = xs

made_is : (p : Package) (c : Change) → made p c ≡ with_entries p (named c) (entries_left p c)
made_is p (write s n x) = refl
made_is p (fill s xs) = refl

records_read : (area : List ℤ) (c : Change) → Fits typed (held area) c
    → map (record_from (named c)) (records_left (records_of (named c) area) c) ≡ entries_left (held area) c
records_read area (write s n x) f = rw (entries_held area s) (map_put (record_from s) (records_of s area) n x (back s x f.1))
records_read area (fill s xs) f = read_again s xs f.entries

left_long : (area : List ℤ) (c : Change) → Fits typed (held area) c → length (entries_left (held area) c) ≡ count_of (named c)
left_long area (write s n x) f = length_put (entries (held area) s) n x ∙ (held_typed area s).long
left_long area (fill s xs) f = f.long

held_renewed : (area : List ℤ) → area_length ≤ length area → (c : Change) → Fits typed (held area) c → held (renewed area c) ≡ made (held area) c
held_renewed area whole c f =
    let p = held area in
    same_state rows (held (renewed area c)) (made p c) (λ t.
    entries_held (renewed area c) t
    ∙ by_records area whole (λ u rs. map (record_from u) rs ≡ entries (made p c) u) c f
    (records_read area c f
    ∙ sym (ap (λ (q : Package). entries q (named c)) (made_is p c) ∙ own_row rows p (named c) (entries_left p c) (left_long area c f)))
    (λ u e. sym (entries_held area u) ∙ sym (ap (λ (q : Package). entries q u) (made_is p c) ∙ other_row rows p (named c) (entries_left p c) u e)) t)

-- ---- every list of changes
pub held_all : (area : List ℤ) → area_length ≤ length area → (cs : List Change) → AllFit typed (held area) cs
    → (held (renewed_all area cs) ≡ made_all (held area) cs) × (length (renewed_all area cs) ≡ length area)
held_all area whole [] f = (refl, refl)
held_all area whole (c ∷ cs) f =
    let n = renewed_length area whole c f.0 in
    let e = held_renewed area whole c f.0 in
    let rest = held_all (renewed area c) (omega arith) cs (subst (λ (p : Package). AllFit typed p cs) (sym e) f.1) in
    (rest.0 ∙ ap (λ (p : Package). made_all p cs) e, rest.1 ∙ n)

exact_again : (s : StoreName) (xs : List (Holds s)) → Each (EntryKnown typed s) xs → Each (Exact s) (map (numbers s) xs)
exact_again s [] k = tt
exact_again s (x ∷ xs) k = (ap (numbers s) (back s x k.0), exact_again s xs k.1)

records_exact : (p : Package) (rs : List (List ℤ)) (c : Change) → Fits typed p c → Each (Exact (named c)) rs → Each (Exact (named c)) (records_left rs c)
records_exact p rs (write s (pos zero) x) f h = h
records_exact p rs (write s (pos (suc i)) x) f h = each_set (Exact s) rs i (numbers s x) h (ap (numbers s) (back s x f.1))
records_exact p rs (write s (negsuc i) x) f h = h
records_exact p rs (fill s xs) f h = exact_again s xs f.entries

pub clean_all : (area : List ℤ) → area_length ≤ length area → (cs : List Change) → AllFit typed (held area) cs → Clean area → Clean (renewed_all area cs)
clean_all area whole [] f h = h
clean_all area whole (c ∷ cs) f h =
    let n = renewed_length area whole c f.0 in
    clean_all (renewed area c) (omega arith) cs (subst (λ (p : Package). AllFit typed p cs) (sym (held_renewed area whole c f.0)) f.1)
    (by_records area whole (λ s rs. Each (Exact s) rs) c f.0 (records_exact (held area) (records_of (named c) area) c f.0 (h (named c))) (λ s e. h s))
