-- `rafttwine_calendar_list`: before turn i the first i records are handed over, and the others are as they were lent.
use Rattle.std.proofs.Common.{◌≡◌, ◌≤◌}
use Rattle.calendar.specs.Listing.{stretch_of, filled}
use Rattle.plugin.proofs.rafttwine_calendar_list.Given as goal

abbrev pub invariant-loop-i : goal.invariant-loop-i
invariant-loop-i l = record {
  place : l.i ≤ l.n;
  filled_to : l.out ≡ filled l.fn.out (stretch_of l.listing) l.i;
}
