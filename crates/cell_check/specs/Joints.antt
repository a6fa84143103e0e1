-- Rows of lines with what has their gaps inside, and when two neighbours fit.
use Rattle.std.specs.Prelude.{ℕ, zero, suc, ◌≤◌, ℤ, pos, ◌<ℤ◌, Bool, ◌⊎◌, cond, int_le, IsTrue, Option, Some, None, List, length, slice_get}
use Rattle.cell_check.specs.Owners.{are_right, holds, nothing, IsTurnedAt}
use Rattle.cell_check.specs.declared.entry.Entry.{Entry}
use Rattle.cell_check.specs.declared.holders.Counts.{Counts}
use Rattle.cell_check.specs.declared.holders.Holders.{Holders}
use Rattle.cell_check.specs.declared.line.Line.{Line}
use Rattle.plane_geom.specs.Geom.{cross_of}
use Rattle.plane_geom.specs.declared.Seg.{Seg}
use Rattle.plane_strips.specs.Strips.{NotEast, OneLine, Spans}

-- two segments that run upwards are in order at the higher of their lower ends, and at the lower of their upper ends
abbrev pub in_order_below : Seg → Seg → Bool
in_order_below s t = cond (int_le s.a.y t.a.y) (int_le (cross_of s.a s.b t.a) (pos 0)) (int_le (pos 0) (cross_of t.a t.b s.a))

abbrev pub in_order_above : Seg → Seg → Bool
in_order_above s t = cond (int_le t.b.y s.b.y) (int_le (cross_of s.a s.b t.b) (pos 0)) (int_le (pos 0) (cross_of t.a t.b s.b))

-- s lies nowhere east of t in a strip that both span
abbrev pub IsAhead : Seg → Seg → Type 0
IsAhead s t = (lo hi : ℤ) → lo <ℤ hi → Spans lo hi s → Spans lo hi t → NotEast lo hi s t

-- the gap west of a line has inside what that east of it has, but for the line's own outline
abbrev pub IsLinked : Counts → Entry → Holders → Type 0
IsLinked c e east = IsTurnedAt e.line.owner (holds c.areas east) (holds c.areas e.west)

abbrev pub IsRight : Counts → Holders → Type 0
IsRight c h = IsTrue (are_right c h.covers h.areas)

-- two neighbours of a row: they are in order, and the gap between them, if there is one, is right
pub record AreJoined (c : Counts) (e f : Entry) : Type 0 where
  pub ahead : IsAhead e.line.seg f.line.seg
  pub linked : IsLinked c e f.west
  pub right : OneLine e.line.seg f.line.seg ⊎ IsRight c f.west

-- the same at the ends of a row
abbrev pub IsJoint : Counts → Option Entry → Option Entry → Type 0
IsJoint c (Some e) (Some f) = AreJoined c e f
IsJoint c (Some e) None = IsLinked c e nothing
IsJoint c None (Some f) = IsRight c f.west
IsJoint c None None = Unit {0}

abbrev pub entry_before : List Entry → ℕ → Option Entry
entry_before row zero = None
entry_before row (suc k) = slice_get row k

abbrev pub IsJointAt : Counts → List Entry → ℕ → Type 0
IsJointAt c row at = IsJoint c (entry_before row at) (slice_get row at)

-- all neighbours of a row fit, and its ends
abbrev pub IsSound : Counts → List Entry → Type 0
IsSound c row = (at : ℕ) → at ≤ length row → IsJointAt c row at

abbrev pub line_of : Entry → Line
line_of e = e.line
