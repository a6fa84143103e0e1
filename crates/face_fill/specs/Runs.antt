-- Runs of triangles that have one piece each: what is kept of the last triangle, so that the next one can share its item.
use Rattle.std.specs.Prelude.{◌≡◌, ◌<◌, ℕ, ◌+◌, length, slice_index, Option, Some, None}
use Rattle.mesh_definitions.specs.Faces.{kind}
use Rattle.mesh_definitions.specs.Field.{Field}
use Rattle.mesh_definitions.specs.Pieces.{mesh_of, pieces_of}
use Rattle.mesh_definitions.specs.declared.Rect.{Rect}
use Rattle.mesh_definitions.specs.declared.Tri.{Tri}
use Rattle.mesh_definitions.specs.declared.Way.{Way}
use Rattle.face_fill.specs.Numbered.{first_band}
use Rattle.face_fill.specs.Items.{AreItems, beyond, piece_by}
use Rattle.face_fill.specs.declared.tables.Items.{Items}
use Rattle.face_fill.specs.declared.tables.Look.{Look}
use Rattle.tri_mesh.specs.TriNumbers.{place_in}

-- items of the code are those of the first n triangles
abbrev pub AreListed : Field → Rect → (ℕ → ℕ → ℕ) → ℕ → Items → Type 0
AreListed f r block n items = AreItems f r block n items.starts.items items.counts.items items.owners.items

-- how many pieces a triangle has, and of which kind the first of them is
pub record IsLook (f : Field) (r : Rect) (block : ℕ → ℕ → ℕ) (t : Tri) (l : Look) : Type 0 where
  pub count : l.count ≡ length (pieces_of f t)
  pub first : kind (mesh_of f r block) (piece_by t (first_band f t)) ≡ (l.class, l.block)

-- the same of a triangle that is listed; where it has one piece, the last item is that one's
pub record IsLast (f : Field) (r : Rect) (block : ℕ → ℕ → ℕ) (n : ℕ) (items : Items) (t : Tri) (l : Look) : Type 0 where
  pub look : IsLook f r block t l
  pub listed : place_in r t < n
  pub last : l.count ≡ 1 → slice_index items.starts.items (place_in r t) + 1 ≡ length items.owners.items

-- the same of a triangle that lies beyond a leg of the next one
pub record IsBefore (f : Field) (r : Rect) (block : ℕ → ℕ → ℕ) (n : ℕ) (items : Items) (t : Tri) (l : Look) : Type 0 where
  pub tri : Tri
  pub way : Way
  pub there : beyond r t way ≡ Some tri
  pub last : IsLast f r block n items tri l

-- there is a triangle before, and it has one piece, of the kind of the one piece of the next
abbrev pub GoesOn : Option Look → Look → Type 0
GoesOn None look = ⊥
GoesOn (Some b) look = (b.count ≡ 1) × (look.count ≡ 1) × (b.class ≡ look.class) × (b.block ≡ look.block)
