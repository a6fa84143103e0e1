-- Marks for the outlines that have a gap inside.
use Rattle.std.specs.Prelude.{ℕ, zero, suc, ◌+◌, Bool, cond, eqb, nat_lt, List, [], ◌∷◌}
use Rattle.chart_model.specs.Marks.{set_marks}
use Rattle.cell_check.specs.Tags.{own}
use Rattle.cell_check.specs.declared.line.Line.{Line}
use Rattle.plane_strips.specs.SweepLaws.{is_odd_list}

-- by the marks of areas and of covers: one area where some cover is marked, and none where none is
abbrev pub is_right_by : List Bool → List Bool → Bool
is_right_by areas covers = cond (nat_lt 0 (set_marks covers)) (eqb (set_marks areas) 1) (eqb (set_marks areas) 0)

-- of n outlines from the place first on: whether an odd number of these lines is of each
abbrev pub odds : ℕ → ℕ → List Line → List Bool
odds first zero lines = []
odds first (suc n) lines = is_odd_list (own first lines) ∷ odds (first + 1) n lines
