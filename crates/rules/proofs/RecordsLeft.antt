-- "A measurement reads only its own ..": two packages that agree on the records that a call reads agree, once it is done, on every record that it writes,
-- and on every other on which they agreed before.
use Rattle.std.specs.Prelude.{◌≡◌, refl, Bool, true, false, cond, ℕ, zero, suc, eqb, ℤ, pos, negsuc, length, get_or, set}
use Rattle.std.proofs.Math.Path.{sym}
use Rattle.std.proofs.Common.{ap, subst, ◌∙◌, arith, eqb-true}
use Rattle.std.proofs.Math.Bool.{and-eq-true_iff}
use mathlib.Core.List.{List, [], ◌∷◌}
use Rattle.signed.specs.Ranges.{eq_z}
use Rattle.lists.specs.Each.{Each}
use Rattle.lists.specs.Rows.{own_row}
use Rattle.rules.specs.Stores.{Package, rows, pick, put, StoreName, Holds, count_of, nothing, entries, with_entries, at}
use Rattle.rules.specs.StoreLaws.{eq_z_yes, length_put}
use Rattle.rules.specs.Changes.{Change, write, fill, made, made_all, names}
use Rattle.rules.specs.BlockLaws.{Bytes}
use Rattle.rules.specs.Calls.{Call, meaning, refusal, changes, step}
use Rattle.rules.specs.ReadsOnly.{same_refusal, same_changes}
use Rattle.rules.specs.ChangesOnly.{one_keeps}
use Rattle.rules.specs.InRange.{typed, PackageKnown, Fits, AllFit, made_known}
use Rattle.rules.proofs.InRange.{fits}

-- ---- a record that is written
put_same : {A : Type 0} (d : A) (xs ys : List A) (n : ℤ) (x : A) → length xs ≡ length ys → pick d (put xs n x) n ≡ pick d (put ys n x) n
put_same d xs ys (pos zero) x l = refl
put_same d xs ys (negsuc i) x l = refl
put_same d xs ys (pos (suc i)) x l = go d x xs ys i l
  where
    go : {A : Type 0} (d x : A) (xs ys : List A) (i : ℕ) → length xs ≡ length ys → get_or (set xs i x) i d ≡ get_or (set ys i x) i d
    go d x [] [] i l = refl
    go d x [] (b ∷ ys) i l = absurd (omega arith)
    go d x (a ∷ xs) [] i l = absurd (omega arith)
    go d x (a ∷ xs) (b ∷ ys) zero l = refl
    go d x (a ∷ xs) (b ∷ ys) (suc i) l = go d x xs ys i (omega arith)

-- the entries of the store that is changed
own : (p : Package) (s : StoreName) (xs : List (Holds s)) (n : ℤ) → length xs ≡ count_of s → at (with_entries p s xs) s n ≡ pick (nothing s) xs n
own p s xs n l = rw (own_row rows p s xs l)

module _ (p q : Package) (h : PackageKnown typed p) (k : PackageKnown typed q) where
  written_same : (c : Change) → Fits typed p c → (s : StoreName) (n : ℤ) → names c s n ≡ true → at (made p c) s n ≡ at (made q c) s n
  written_same (write t m x) f s n e =
      let b = (and-eq-true_iff (eqb t s) (eq_z n m)).0 e in
      subst (λ (u : StoreName). at (made p (write t m x)) u n ≡ at (made q (write t m x)) u n) (eqb-true t s b.0)
      (rw (eq_z_yes n m b.1)
      (own p t (put (entries p t) m x) m (length_put (entries p t) m x ∙ (h t).long)
      ∙ put_same (nothing t) (entries p t) (entries q t) m x ((h t).long ∙ sym (k t).long)
      ∙ sym (own q t (put (entries q t) m x) m (length_put (entries q t) m x ∙ (k t).long))))
  written_same (fill t xs) f s n e =
      subst (λ (u : StoreName). at (made p (fill t xs)) u n ≡ at (made q (fill t xs)) u n) (eqb-true t s e)
      (own p t xs n f.long ∙ sym (own q t xs n f.long))

-- ---- every list of changes
all_same : (cs : List Change) (p q : Package) → PackageKnown typed p → PackageKnown typed q → AllFit typed p cs → AllFit typed q cs → (s : StoreName) (n : ℤ)
    → (Each (λ c. names c s n ≡ false) cs → at p s n ≡ at q s n) → at (made_all p cs) s n ≡ at (made_all q cs) s n
all_same [] p q h k f g s n a = a tt
all_same (c ∷ cs) p q h k f g s n a =
    all_same cs (made p c) (made q c) (made_known typed p c f.0 h) (made_known typed q c g.0 k) f.1 g.1 s n (go (names c s n) refl)
  where
    go : (b : Bool) → names c s n ≡ b → Each (λ c. names c s n ≡ false) cs → at (made p c) s n ≡ at (made q c) s n
    go true e r = written_same p q h k c f.0 s n e
    go false e r = one_keeps p c s n (e, tt) ∙ a (e, r) ∙ sym (one_keeps q c s n (e, tt))

-- ---- every call
after_done : (p : Package) (c : Call) → refusal p c ≡ 0 → step p c ≡ made_all p (changes p c)
unfolding step
after_done p c done = ap (λ (n : ℕ). cond (eqb n 0) (made_all p (changes p c)) p) done

module _ (p q : Package) (c : Call) (h : PackageKnown typed p) (k : PackageKnown typed q) (b : Bytes (meaning c).given)
    (same : (meaning c).read p ≡ (meaning c).read q) (done : refusal p c ≡ 0) where
  pub same_left : (s : StoreName) (n : ℤ) → (Each (λ c. names c s n ≡ false) (changes p c) → at p s n ≡ at q s n) → at (step p c) s n ≡ at (step q c) s n
  same_left s n a =
      let too : refusal q c ≡ 0 = sym (same_refusal p q c same) ∙ done in
      ap (λ (x : Package). at x s n) (after_done p c done)
      ∙ all_same (changes p c) p q h k (fits typed p c done b h)
      (subst (λ (cs : List Change). AllFit typed q cs) (sym (same_changes p q c same)) (fits typed q c too b k)) s n a
      ∙ ap (λ (cs : List Change). at (made_all q cs) s n) (same_changes p q c same)
      ∙ sym (ap (λ (x : Package). at x s n) (after_done q c too))
