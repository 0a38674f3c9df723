-- A job's refusal by its length, its last byte and its lines.
use Rattle.std.specs.Prelude.{◌≡◌, refl, Bool, true, false, cond, ◌&&◌, not, List, ℕ, ◌-◌, ◌*◌, ◌<◌, ◌≤◌, eqb, leb, length, get_or}
use Rattle.std.proofs.Common.{arith}
use borrow.Author.Tests.{le-leb, lt-leb, eq-eqb, ne_eqb, eqb-true, leb-true}
use Rattle.text.specs.Pieces.{lines, line_feed}
use Rattle.job_limits.specs.JobRules.{job_refusal}

pub job_empty : (s : List ℕ) (room : ℕ) → length s ≡ 0 → job_refusal s room ≡ 11
unfolding job_refusal
job_empty s room e = rw (eq-eqb (length s) 0 e)

module _ (s : List ℕ) (room : ℕ) (one : length s ≡ 0 → ⊥) where
  pub job_long : 65536 < length s → job_refusal s room ≡ 12
  unfolding job_refusal
  job_long h = rw (ne_eqb (length s) 0 one, lt-leb (length s) 65536 h)

  module _ (h : length s ≤ 65536) where
    pub job_open : (get_or s (length s - 1) 0 ≡ line_feed → ⊥) → job_refusal s room ≡ 12
    unfolding job_refusal
    job_open e = rw (ne_eqb (length s) 0 one, le-leb (length s) 65536 h, ne_eqb (get_or s (length s - 1) 0) line_feed e)

    module _ (e : get_or s (length s - 1) 0 ≡ line_feed) where
      pub job_many : 1000 < length (lines s) → job_refusal s room ≡ 12
      unfolding job_refusal
      job_many l = rw (ne_eqb (length s) 0 one, le-leb (length s) 65536 h, eq-eqb (get_or s (length s - 1) 0) line_feed e, lt-leb (length (lines s)) 1000 l)

      -- what is left is the room
      pub job_room : length (lines s) ≤ 1000 → job_refusal s room ≡ cond (leb (40 * length (lines s)) room) 0 1
      unfolding job_refusal
      job_room l = rw (ne_eqb (length s) 0 one, le-leb (length s) 65536 h, eq-eqb (get_or s (length s - 1) 0) line_feed e, le-leb (length (lines s)) 1000 l)

-- what is known of a job that runs
pub record Runs (s : List ℕ) (n : ℕ) : Type 0 where
  pub size : length s ≤ 65536
  pub ended : get_or s (length s - 1) 0 ≡ line_feed
  pub count : length (lines s) ≤ 1000
  pub room : 40 * length (lines s) ≤ n

pub runs_when : (s : List ℕ) (room : ℕ) → job_refusal s room ≡ 0 → Runs s room
unfolding job_refusal
runs_when s room e =
    go (eqb (length s) 0) (leb (length s) 65536) (eqb (get_or s (length s - 1) 0) line_feed) (leb (length (lines s)) 1000)
    (leb (40 * length (lines s)) room) refl refl refl refl e
  where
    go : (a b c d f : Bool) → leb (length s) 65536 ≡ b → eqb (get_or s (length s - 1) 0) line_feed ≡ c → leb (length (lines s)) 1000 ≡ d
        → leb (40 * length (lines s)) room ≡ f
        → ◌≡◌ {A = ℕ} (cond (not a) (cond (b && c && d) (cond f 0 1) 12) 11) 0 → Runs s room
    go true b c d f w x y z e = absurd (omega arith)
    go false false c d f w x y z e = absurd (omega arith)
    go false true false d f w x y z e = absurd (omega arith)
    go false true true false f w x y z e = absurd (omega arith)
    go false true true true false w x y z e = absurd (omega arith)
    go false true true true true w x y z e =
        record {
          size = leb-true (length s) 65536 w;
          ended = eqb-true (get_or s (length s - 1) 0) line_feed x;
          count = leb-true (length (lines s)) 1000 y;
          room = leb-true (40 * length (lines s)) room z;
        }
