-- A border of a set of pieces has as many steps as sub-segments have the set on one side alone.
use Rattle.std.proofs.Common.{◌≡◌, ℕ, ◌+◌, Bool, true, false, not, ◌&&◌, cond, List, [], ◌∷◌, length, map, refl, ap, ◌∙◌, arith}
use Rattle.std.specs.List.{filter, sum_by}
use Rattle.std.proofs.lemmas.List.{length-append}
use Rattle.std.proofs.lemmas.List.Elements.{filter-append}
use Rattle.std.proofs.lemmas.List.Sums.{sum_by-cons}
use Rattle.mesh_definitions.specs.Faces.{boundary}
use Rattle.mesh_definitions.specs.Pieces.{Mesh, ahead, back, left_of}
use Rattle.mesh_definitions.specs.declared.Piece.{Piece}
use Rattle.mesh_definitions.specs.declared.Step.{Step}
use Rattle.mesh_definitions.specs.declared.Sub.{Sub}
use Rattle.plane_laws.specs.Borders.{within}

-- 1 where a set is on one of two sides alone, else 0
abbrev pub one_sided : Bool → Bool → ℕ
one_sided true true = 0
one_sided true false = 1
one_sided false true = 1
one_sided false false = 0

pub one_sided_back : (right left : Bool) → one_sided left right ≡ one_sided right left
one_sided_back true true = refl
one_sided_back true false = refl
one_sided_back false true = refl
one_sided_back false false = refl

-- the same of a sub-segment and a set of pieces
abbrev pub on_border : Mesh → (Piece → Bool) → Sub → ℕ
on_border m F s = one_sided (within F (m.right_of (ahead s))) (within F (left_of m (ahead s)))

length_kept : {X : Type 0} (b : Bool) (x : X) (xs : List X) → length (cond b (x ∷ xs) xs) ≡ cond b 1 0 + length xs
length_kept true x xs = omega arith
length_kept false x xs = omega arith

either_way : (right left : Bool) → cond (right && not left) 1 0 + cond (left && not right) 1 0 ≡ one_sided right left
either_way true true = refl
either_way true false = refl
either_way false true = refl
either_way false false = refl

module _ (m : Mesh) (F : Piece → Bool) where
  -- a step with the set on the right and not on the left
  abbrev bounds : Step → Bool
  bounds x = within F (m.right_of x) && not (within F (m.right_of (back x)))

  both_ways : (subs : List Sub) → length (filter bounds (map ahead subs)) + length (filter bounds (map back (map ahead subs))) ≡ sum_by (on_border m F) subs
  both_ways [] = refl
  both_ways (s ∷ subs) =
      omega (
        arith,
        length_kept (bounds (ahead s)) (ahead s) (filter bounds (map ahead subs)),
        length_kept (bounds (back (ahead s))) (back (ahead s)) (filter bounds (map back (map ahead subs))),
        either_way (within F (m.right_of (ahead s))) (within F (left_of m (ahead s))),
        both_ways subs,
        sum_by-cons (on_border m F) s subs,
      )

  -- the steps of a border, counted by sub-segments
  pub border_length : length (boundary m F) ≡ sum_by (on_border m F) m.subs
  border_length =
      ap length (filter-append bounds (map ahead m.subs) (map back (map ahead m.subs)))
      ∙ length-append (filter bounds (map ahead m.subs)) (filter bounds (map back (map ahead m.subs)))
      ∙ both_ways m.subs
