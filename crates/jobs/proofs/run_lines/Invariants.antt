use Rattle.std.proofs.Common.{◌≡◌, ◌+◌, ◌*◌, ◌≤◌, ◌-◌, ◌++◌, length, take, drop}
use Rattle.text.specs.Pieces.{lines}
use Rattle.area.specs.Table.{area_length}
use Rattle.jobs.specs.Jobs.{lines_area, lines_text}
use Rattle.jobs.proofs.run_lines.Given as goal

abbrev pub invariant-loop-at : goal.invariant-loop-at
invariant-loop-at l =
    let rest = lines (drop l.at l.job) in
    record {
      within : l.at ≤ length l.job;
      left : l.number + length rest ≡ length (lines l.job);
      filled : l.filled ≤ 40 * l.number;
      whole : length l.area ≡ area_length;
      room : length l.output ≡ length l.initial.output;
      behind : drop l.filled l.output ≡ drop l.filled l.initial.output;
      text : lines_text l.initial.area 0 (lines l.job) ≡ take l.filled l.output ++ lines_text l.area l.number rest;
      area : lines_area l.initial.area (lines l.job) ≡ lines_area l.area rest;
    }

abbrev pub decreases-loop-at : goal.decreases-loop-at
decreases-loop-at l = length l.job - l.at
