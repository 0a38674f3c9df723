-- Document 01, 'Units and stores', in plain numbers: how many records there are, and the range of each. What the rules test by name is held to these numbers
-- here. `records_stated` of the crate `reckoning` says it of what every list of calls leaves.
use Rattle.std.specs.Prelude.{◌≡◌, List, ℕ, ◌<◌, ℤ, pos, length, get_or, ◌≤ℤ◌}
use Rattle.std.proofs.Common.{arith}
use Rattle.signed.specs.Ranges.{minus}
use Rattle.signed.specs.RangeLaws.{within_is}
use Rattle.lists.specs.Each.{each_at}
use Rattle.rules.specs.Stores.{Package, StoreName, probes, empiricals, means, tools, offsets, Holds, nothing, entries}
use Rattle.rules.specs.StoreLaws.{Store}
use Rattle.rules.specs.InRange.{InRange}

-- the record with an index, counted from 0
abbrev pub nth : Package → (s : StoreName) → ℕ → Holds s
nth p s n = get_or (entries p s) n (nothing s)

abbrev pub Between : (lo hi z : ℤ) → Type 0
Between lo hi z = (lo ≤ℤ z) × (z ≤ℤ hi)

pub record Counts (p : Package) : Type 0 where
  pub probe : length (entries p probes) ≡ 3
  pub empirical : length (entries p empiricals) ≡ 20
  pub mean : length (entries p means) ≡ 20
  pub tool : length (entries p tools) ≡ 32
  pub offset : length (entries p offsets) ≡ 4

-- "six trigger values (u, within ±100,000) and a six-bit status"; "-32,768..32,767 u"; "h, within ±2,000,000"; "three axes, h, within ±20,000,000"
pub record Stated (p : Package) : Type 0 where
  pub counts : Counts p
  pub six : (n : ℕ) → n < 3 → length (nth p probes n).triggers ≡ 6
  pub trigger : (n i : ℕ) → n < 3 → i < 6 → Between (minus 100000) (pos 100000) (get_or (nth p probes n).triggers i (pos 0))
  pub status : (n : ℕ) → n < 3 → (nth p probes n).status < 64
  pub empirical : (n : ℕ) → n < 20 → Between (minus 32768) (pos 32767) (nth p empiricals n)
  pub mean : (n : ℕ) → n < 20 → Between (minus 32768) (pos 32767) (nth p means n)
  pub radius : (n : ℕ) → n < 32 → Between (minus 2000000) (pos 2000000) (nth p tools n).radius
  pub long : (n : ℕ) → n < 32 → Between (minus 2000000) (pos 2000000) (nth p tools n).length
  pub three : (n : ℕ) → n < 4 → length (nth p offsets n).axes ≡ 3
  pub axis : (n i : ℕ) → n < 4 → i < 3 → Between (minus 20000000) (pos 20000000) (get_or (nth p offsets n).axes i (pos 0))

-- a record of a store, and a number of a record
one : {A : Type 0} {P : A → Type 0} {k : ℕ} {xs : List A} (d : A) → Store k P xs → (n : ℕ) → n < k → P (get_or xs n d)
one {P = P} {xs = xs} d s n h = each_at P xs n d s.entries (omega (arith, s.long))

pub in_range_stated : (p : Package) → InRange p → Stated p
in_range_stated p h =
    let x = one (nothing probes) (h probes) in
    let w = one (nothing tools) (h tools) in
    let o = one (nothing offsets) (h offsets) in
    record {
      counts = record { probe = (h probes).long; empirical = (h empiricals).long; mean = (h means).long; tool = (h tools).long; offset = (h offsets).long };
      six = λ n k. (x n k).triggers.long;
      trigger = λ n i k l. within_is (minus 100000) (pos 100000) _ (one (pos 0) (x n k).triggers i l);
      status = λ n k. (x n k).status;
      empirical = λ n k. within_is (minus 32768) (pos 32767) _ (one (pos 0) (h empiricals) n k);
      mean = λ n k. within_is (minus 32768) (pos 32767) _ (one (pos 0) (h means) n k);
      radius = λ n k. within_is (minus 2000000) (pos 2000000) _ (w n k).radius;
      long = λ n k. within_is (minus 2000000) (pos 2000000) _ (w n k).length;
      three = λ n k. (o n k).axes.long;
      axis = λ n i k l. within_is (minus 20000000) (pos 20000000) _ (one (pos 0) (o n k).axes i l);
    }
