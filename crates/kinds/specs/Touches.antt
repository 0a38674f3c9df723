-- What a kind touches, in the code's structs, as the rules have it.
use Rattle.std.specs.Prelude.{◌≡◌, Bool, true, false, cond, ◌&&◌, [], ◌∷◌, ℤ, pos, Result, Ok, Err}
use Rattle.signed.specs.Ranges.{within}
use Rattle.package.specs.declared.refusals.Refusal.{Refusal}
use Rattle.package.specs.declared.refusals.Refusal.TheVariants.{NoSuchNumber}
use Rattle.package.specs.declared.ways.Way.{Way}
use Rattle.package.specs.declared.found.Kind.{Kind}
use Rattle.package.specs.declared.found.Form.TheVariants.{Plane, Single, Double}
use Rattle.package.specs.declared.arguments.Probing.{Probing}
use Rattle.package.specs.Ways as ways
use Rattle.package.specs.Given.{Raws}
use Rattle.rules.specs.Stores.{axis_number, direction_number, position_range}
use Rattle.rules.specs.Kinds.{by_form}
use Rattle.rules.specs.Probes.{Direction, on}
use Rattle.rules.specs.Sizes as rules
use Rattle.kinds.specs.declared.Touch.{Touch}
use Rattle.kinds.specs.declared.Across.{Across}
use Rattle.kinds.specs.declared.Surfaces.{Surfaces}
use Rattle.kinds.specs.declared.Surfaces.TheVariants.{Plane as Flat, Pair, Pairs}

-- a kind where its number is one, else refusal 2
abbrev pub known : Bool → Kind → Result Kind Refusal
known true k = Ok k
known false k = Err NoSuchNumber

abbrev pub way : Way → Direction
way w = on (ways.axis_number w.axis) (ways.direction_number w.direction)

abbrev pub touch : Touch → rules.Touch
touch t = record { way = way t.way; number = t.number }

abbrev pub across : Across → rules.Across
across p = record { axis = ways.axis_number p.low.way.axis; low = touch p.low; high = touch p.high; set = p.set }

-- a pair across axis n, by the numbers of its raws and its set centre
abbrev pub span : Bool → (n low high set : ℤ) → rules.Across
span inside n low high set =
    record {
      axis = n;
      low = record { way = on n (cond inside (pos 1) (pos 0)); number = low };
      high = record { way = on n (cond inside (pos 0) (pos 1)); number = high };
      set = set;
    }

-- what is touched is what the kind touches
abbrev pub Touches : Kind → Probing → Surfaces → Type 0
Touches k a (Flat t) = (k.form ≡ Plane) × (touch t ≡ rules.plane a)
Touches k a (Pair p) = (k.form ≡ Single) × (rules.pairs k a ≡ across p ∷ [])
Touches k a (Pairs b) = (k.form ≡ Double) × (rules.pairs k a ≡ across b.abscissa ∷ across b.ordinate ∷ [])

-- whether the axis and the direction that the kind uses are numbers of theirs
abbrev pub ways_ok : Kind → Probing → Bool
ways_ok k a = by_form k.form (axis_number a.axis && direction_number a.direction) (within (pos 1) (pos 2) a.axis) true

-- what is touched where those numbers are, else refusal 2
abbrev pub TouchesIf : Kind → Probing → Result Surfaces Refusal → Type 0
TouchesIf k a (Ok t) = (ways_ok k a ≡ true) × Touches k a t
TouchesIf k a (Err r) = (ways_ok k a ≡ false) × (r ≡ NoSuchNumber)

-- a direction on an axis 1..3
pub record Placed (d : Direction) : Type 0 where
  pub axis : axis_number d.axis ≡ true
  pub direction : direction_number d.direction ≡ true

-- a pair whose raws and set centre are in range
pub record Positioned (q : Raws) (p : rules.Across) : Type 0 where
  pub low : position_range (rules.raw_at q p.low) ≡ true
  pub high : position_range (rules.raw_at q p.high) ≡ true
  pub set : position_range p.set ≡ true
