use Rattle.cell_check.proofs.tiling.decided.Goals as goal

pub returns-then-branch : goal.returns-then-branch
returns-then-branch c = let e = c.in_ok-is_swept.ensures c.if-branch.true in record { few = c.requires.few; uncrossed = e.0; right = e.1; count = c.areas.ensures.value }
