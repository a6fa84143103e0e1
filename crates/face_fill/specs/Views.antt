-- What faces of the code show.
use Rattle.face_fill.specs.Numbered.{FacesView, view_of}
use Rattle.face_fill.specs.declared.faces.Faces.{Faces}

abbrev pub faces_view : Faces → FacesView
faces_view s = view_of s.rows s.cols s.starts.items s.counts.items s.numbers.items s.classes.items s.blocks.items
