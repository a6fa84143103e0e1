use Rattle.std.proofs.Common.{◌≡◌, ◌||◌, ◌&&◌, ℕ, ◌<◌, ◌≤◌, nat_le, nat_lt}
use Rattle.std.specs.Int.{abs_diff}
use Rattle.sounding_select.specs.Marks.{marked_at, disc_has}
use Rattle.sounding_select.proofs.marks.Marks.mark_disc.Given as goal

-- the rows from the first one up to this one are marked
abbrev pub invariant-loop-row : goal.invariant-loop-row
invariant-loop-row l = record {
  begun : l.end ≤ l.first → l.row ≡ l.first;
  rows : l.self.rows ≡ l.fn.self.rows;
  cols : l.self.cols ≡ l.fn.self.cols;
  marked : (i j : ℕ) → i < l.fn.self.rows → j < l.fn.self.cols → marked_at l.self.marked.items l.fn.self.cols i j ≡ (marked_at l.fn.self.marked.items l.fn.self.cols i j || ((nat_le l.first i && nat_lt i l.row) && disc_has l.disc.widths.items (abs_diff i l.node.row) (abs_diff j l.node.col)));
}
