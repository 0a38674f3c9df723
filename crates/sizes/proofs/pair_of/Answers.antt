-- Both surfaces are bounded, so that width, centre and shift are computed without overflow; the pair is then equal field by field.
use Rattle.std.proofs.Common.{◌≡◌, ◌∙◌, ◌≤◌, ℤ, w64, rules}
use Rattle.std.proofs.Math.IntN.{nat_abs}
use Rattle.signed.specs.CodeLaws.{read}
use Rattle.signed.specs.RangeLaws.{size_in}
use Rattle.signed.specs.Expressions.{Ex, Runs, run}
use Rattle.package.specs.declared.records.Probe.{Probe}
use Rattle.package.specs.Given.{Raws}
use Rattle.package.specs.declared.found.Pair.{Pair}
use Rattle.rules.specs.Sizes.{Across, surface, pair_of}
use Rattle.kinds.specs.Touches.{Positioned, across}
use Rattle.sizes.specs.SizeLaws.{surface_size, width_code, centre_code, shift_code}
use Rattle.sizes.proofs.pair_of.Goals as goal

-- the two surfaces
module _ (x : Probe) (q : Raws) (p : Across) (h : Positioned q p) (l g : ℤ) (low : l ≡ surface x q p.low) (high : g ≡ surface x q p.high) where
  low_size : nat_abs l ≤ 10100000
  low_size = rw low (surface_size x q p.low h.low)

  high_size : nat_abs g ≤ 10100000
  high_size = rw high (surface_size x q p.high h.high)

  abbrev wide : Ex w64
  wide = width_code l g low_size high_size

  wide_runs : Runs wide
  wide_runs = run wide tt (search)

  abbrev middle : Ex w64
  middle = centre_code l g low_size high_size

  middle_runs : Runs middle
  middle_runs = run middle tt (search)

  abbrev moved : Ex w64
  moved = shift_code l g low_size high_size p.set (size_in 10000000 p.set h.set)

  moved_runs : Runs moved
  moved_runs = run moved tt (search)

-- a pair by its fields
same_pair : {w v c d s t z y : ℤ} → w ≡ v → c ≡ d → s ≡ t → z ≡ y
    → ◌≡◌ {A = Pair} (record { width = w; centre = c; shift = s; set = z }) (record { width = v; centre = d; shift = t; set = y })
same_pair e f g h = λ i. record { width = e i; centre = f i; shift = g i; set = h i }

pub returns : goal.returns
unfolding pair_of
returns c =
    let a = c.args in
    let low = c.surface_of-low.ensures in
    let high = c.surface_of-high.ensures in
    same_pair
    ((wide_runs a.x a.q (across a.p) c.requires _ _ low high).value ∙ rw (low, high))
    ((middle_runs a.x a.q (across a.p) c.requires _ _ low high).value ∙ rw (low, high))
    ((moved_runs a.x a.q (across a.p) c.requires _ _ low high).value ∙ rw (low, high))
    (read a.p.set (search rules))

pub overflow_sub-result : goal.overflow_sub-result
overflow_sub-result c =
    search (wide_runs c.args.x c.args.q (across c.args.p) c.requires _ _ c.surface_of-low.ensures c.surface_of-high.ensures).asks

pub overflow_add-result : goal.overflow_add-result
overflow_add-result c =
    search (middle_runs c.args.x c.args.q (across c.args.p) c.requires _ _ c.surface_of-low.ensures c.surface_of-high.ensures).asks

pub overflow_add-result-2 : goal.overflow_add-result-2
overflow_add-result-2 c =
    search (middle_runs c.args.x c.args.q (across c.args.p) c.requires _ _ c.surface_of-low.ensures c.surface_of-high.ensures).asks

pub overflow_sub-result-2 : goal.overflow_sub-result-2
overflow_sub-result-2 c =
    search (moved_runs c.args.x c.args.q (across c.args.p) c.requires _ _ c.surface_of-low.ensures c.surface_of-high.ensures).asks
