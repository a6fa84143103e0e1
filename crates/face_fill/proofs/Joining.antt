-- Sets of items as the joining goes on, and what they say once all links are looked at.
use Rattle.std.proofs.Common.{◌≡◌, ℕ, ◌+◌, ⊎_elim, Bool, true, false, List, length, Some, None, refl, sym, ap, ◌∙◌, subst, subst₂, arith}
use Rattle.std.specs.Prelude.{Option, Contains, not}
use Rattle.disjoint_sets.specs.Sets.{IsForest, IsTogether, AreJoined, NumbersSets}
use Rattle.disjoint_sets.proofs.Ways.{together_back, together_self}
use Rattle.mesh_definitions.specs.Faces.{kind, IsAdjacent, Joined}
use Rattle.mesh_definitions.specs.Faces.Joined.{Here, Over}
use Rattle.mesh_definitions.specs.Field.{Field}
use Rattle.mesh_definitions.specs.Mesh.{Walk, has_cell, links, right_tri}
use Rattle.mesh_definitions.specs.Pieces.{part_bands, piece_at}
use Rattle.mesh_definitions.specs.declared.Link.{Link}
use Rattle.mesh_definitions.specs.declared.Piece.{Piece}
use Rattle.mesh_definitions.specs.declared.Rect.{Rect}
use Rattle.mesh_definitions.specs.declared.Tri.{Tri}
use Rattle.mesh_definitions.specs.declared.Way.TheVariants.{Across, Down, Slant}
use Rattle.mesh_definitions.specs.declared.Way.{Way}
use Rattle.face_fill.specs.Beside.{adjacent_shares, has_part, joined_back, joined_on, kind_by_alike, alike_by_kind, sides_adjacent}
use Rattle.face_fill.specs.BandTableView.{field_by}
use Rattle.face_fill.specs.Items.{alike, leg, tri_of}
use Rattle.face_fill.specs.Joins.{AreMet, AreMetAt, AreWayMet, Grows, JoinPieces, AreItemNumbers, item_by, piece_from}
use Rattle.face_fill.specs.Legs.{InRect, IsLeg, each_leg, in_rect, leg_of_right}
use Rattle.face_fill.specs.Listed.{InMesh, leg_in}
use Rattle.face_fill.specs.PieceTableView.{IsPieceTable, block_by, item_count}
use Rattle.face_fill.specs.Places.{item_in, piece_joined}
use Rattle.face_fill.specs.TallyView.{mesh_by}
use Rattle.face_fill.specs.declared.tables.PieceTable.{PieceTable}

module _ (p : PieceTable) where
  -- ---- one step after another

  pub grows_not : (parents : List ℕ) → Grows p parents parents
  grows_not parents = record { each = refl; keeps = λ i j t. t; joined = λ h. h }

  pub grows_on : (a b c : List ℕ) → Grows p a b → Grows p b c → Grows p a c
  grows_on a b c g h = record { each = h.each ∙ g.each; keeps = λ i j t. h.keeps i j (g.keeps i j t); joined = λ k. h.joined (g.joined k) }

  -- two items with joined pieces become of one set
  pub grows_by : (old new : List ℕ) (a b : ℕ) → length new ≡ length old → AreJoined old new a b → Joined (mesh_by p) (piece_from p a) (piece_from p b) → Grows p old new
  grows_by old new a b size j ab = record {
    each = size;
    keeps = j.keeps;
    joined = λ h i k t. ⊎_elim (λ s. h i k s)
        (⊎_elim
        (λ s. joined_on (mesh_by p) (piece_from p i) (piece_from p a) (piece_from p k) (h i a s.0) (joined_on (mesh_by p) (piece_from p a) (piece_from p b) (piece_from p k) ab (joined_back (mesh_by p) (piece_from p k) (piece_from p b) (h k b s.1))))
        (λ s. joined_on (mesh_by p) (piece_from p i) (piece_from p b) (piece_from p k) (h i b s.0) (joined_on (mesh_by p) (piece_from p b) (piece_from p a) (piece_from p k) (joined_back (mesh_by p) (piece_from p a) (piece_from p b) ab) (joined_back (mesh_by p) (piece_from p k) (piece_from p a) (h k a s.1)))))
        (j.only i k t);
  }

  -- what has met stays so
  pub met_on : (old new : List ℕ) (l : Link) → Grows p old new → AreMet p old l → AreMet p new l
  met_on old new l g h = λ b c t u e d k. g.keeps (item_by p (piece_at (field_by p.nodes) b t)) (item_by p (piece_at (field_by p.nodes) b u)) (h b c t u e d k)

  -- ---- a link

  -- a triangle on a side of a link has it as a leg
  side_leg : (l : Link) (forward : Bool) (t : Tri) → right_tri p.nodes.rect (record { link = l; forward = forward }) ≡ Some t → IsLeg p.nodes.rect (record { link = l; forward = forward }) t
  side_leg l forward t e = leg_of_right p.nodes.rect (record { link = l; forward = forward }) t e

  pub side_cell : (l : Link) (forward : Bool) (t : Tri) → right_tri p.nodes.rect (record { link = l; forward = forward }) ≡ Some t → has_cell p.nodes.rect t.row t.col ≡ true
  side_cell l forward t e = (side_leg l forward t e).inside

  -- so the link is one of the rectangle's
  link_listed : (l : Link) (forward : Bool) (t : Tri) → right_tri p.nodes.rect (record { link = l; forward = forward }) ≡ Some t → Contains (links p.nodes.rect) l
  link_listed l forward t e =
      let s = side_leg l forward t e in
      let is : (leg t s.way).link ≡ l = ap (λ (w : Walk). w.link) s.is in
      subst (Contains (links p.nodes.rect)) is (leg_in p.nodes.rect t s.inside s.way)

  -- it has a piece at each part of the link
  pub side_piece : (l : Link) (forward : Bool) (t : Tri) (b : ℕ) → right_tri p.nodes.rect (record { link = l; forward = forward }) ≡ Some t → Contains (part_bands (field_by p.nodes) l) b → InMesh (field_by p.nodes) p.nodes.rect (piece_at (field_by p.nodes) b t)
  side_piece l forward t b e c = has_part (field_by p.nodes) p.nodes.rect t (record { link = l; forward = forward }) b (side_leg l forward t e) c

  -- the walk that one option names, another names too
  one_tri : (o : Option Tri) (t u : Tri) → o ≡ Some t → o ≡ Some u → t ≡ u
  one_tri o t u e g = cc (e, g)

  -- where a side is missing nothing has to meet
  pub met_right : (parents : List ℕ) (l : Link) → right_tri p.nodes.rect (record { link = l; forward = true }) ≡ None → AreMet p parents l
  met_right parents l e = λ b c t u g d k. cc (e, g)

  pub met_left : (parents : List ℕ) (l : Link) → right_tri p.nodes.rect (record { link = l; forward = false }) ≡ None → AreMet p parents l
  met_left parents l e = λ b c t u g d k. cc (e, d)

  -- triangles on the two sides of a link
  pub record HasSides (l : Link) (t u : Tri) : Type 0 where
    pub right : right_tri p.nodes.rect (record { link = l; forward = true }) ≡ Some t
    pub left : right_tri p.nodes.rect (record { link = l; forward = false }) ≡ Some u

  module _ (l : Link) (t u : Tri) (s : HasSides l t u) where
    abbrev f : Field
    f = field_by p.nodes

    -- what is said of these two is said of the sides
    pub met_at : (parents : List ℕ) (b : ℕ) → (kind (mesh_by p) (piece_at f b t) ≡ kind (mesh_by p) (piece_at f b u) → IsTogether parents (item_by p (piece_at f b t)) (item_by p (piece_at f b u))) → AreMetAt p parents l b
    met_at parents b h = λ x y e g k.
        let a : t ≡ x = one_tri (right_tri p.nodes.rect (record { link = l; forward = true })) t x s.right e in
        let c : u ≡ y = one_tri (right_tri p.nodes.rect (record { link = l; forward = false })) u y s.left g in
        let P : Tri → Tri → Type 0 = λ x y. kind (mesh_by p) (piece_at f b x) ≡ kind (mesh_by p) (piece_at f b y) → IsTogether parents (item_by p (piece_at f b x)) (item_by p (piece_at f b y)) in
        subst₂ P a c h k

    -- triangles that aren't alike have no pieces of one kind
    pub met_unlike : (parents : List ℕ) → alike f (block_by p.blocks) t u ≡ false → AreMet p parents l
    met_unlike parents e = λ b c. met_at parents b (λ k. let a = alike_by_kind f p.nodes.rect (block_by p.blocks) t u b k in cc (a, e))

    module _ (whole : IsPieceTable p) where
      -- triangles that share an item have met
      pub met_shared : (parents : List ℕ) → IsForest parents → length parents ≡ item_count p
          → ((a b : Piece) → InMesh f p.nodes.rect a → InMesh f p.nodes.rect b → a.tri ≡ t → b.tri ≡ u → item_by p a ≡ item_by p b) → AreMet p parents l
      met_shared parents forest full h = λ b c. met_at parents b (λ k.
          let x = side_piece l true t b s.right c in
          let y = side_piece l false u b s.left c in
          let inside = item_in f p.nodes.rect (block_by p.blocks) p.items.starts.items p.items.counts.items p.items.owners.items whole.items (piece_at f b t) x in
          subst (λ i. IsTogether parents (item_by p (piece_at f b t)) i) (h (piece_at f b t) (piece_at f b u) x y refl refl)
          (together_self parents forest (item_by p (piece_at f b t)) (omega (arith, inside, full))))

      -- pieces of alike triangles at a part of the link have items with joined pieces
      pub sides_joined : alike f (block_by p.blocks) t u ≡ true → (b : ℕ) → Contains (part_bands f l) b → Joined (mesh_by p) (piece_from p (item_by p (piece_at f b t))) (piece_from p (item_by p (piece_at f b u)))
      sides_joined e b c =
          let r : Rect = p.nodes.rect in
          let m = mesh_by p in
          let x = side_piece l true t b s.right c in
          let y = side_piece l false u b s.left c in
          let a = piece_at f b t in
          let d = piece_at f b u in
          let i = link_listed l true t s.right in
          let n : IsAdjacent m a d = sides_adjacent f r (block_by p.blocks) l b true t u i c s.right s.left (kind_by_alike f r (block_by p.blocks) t u b e) in
          let ja = piece_joined f r (block_by p.blocks) p.items.starts.items p.items.counts.items p.items.owners.items whole.items a x in
          let jd = piece_joined f r (block_by p.blocks) p.items.starts.items p.items.counts.items p.items.owners.items whole.items d y in
          joined_on m (piece_from p (item_by p a)) a (piece_from p (item_by p d)) (joined_back m a (piece_from p (item_by p a)) ja) (Over n jd)

  -- ---- all links

  -- what has met across all links of three ways has met across the legs of all triangles
  legs_met : (parents : List ℕ) → AreWayMet p parents Across (p.nodes.rect.rows + 1) p.nodes.rect.cols → AreWayMet p parents Down p.nodes.rect.rows (p.nodes.rect.cols + 1) → AreWayMet p parents Slant p.nodes.rect.rows p.nodes.rect.cols
      → (t : Tri) → has_cell p.nodes.rect t.row t.col ≡ true → (way : Way) → AreMet p parents (leg t way).link
  legs_met parents across down slant t cell way = by t.row t.col t.upper (in_rect p.nodes.rect t.row t.col cell)
    where
      by : (i k : ℕ) (u : Bool) → InRect p.nodes.rect i k → AreMet p parents (leg (tri_of i k u) way).link
      by i k true c = each_leg (tri_of i k true) (λ w. AreMet p parents w.link)
          (slant i c.north c.south k c.west c.east)
          (across i c.north (omega (arith, c.south)) k c.west c.east)
          (down i c.north c.south k c.west (omega (arith, c.east)))
          way
      by i k false c = each_leg (tri_of i k false) (λ w. AreMet p parents w.link)
          (slant i c.north c.south k c.west c.east)
          (across (i + 1) (omega (arith, c.north)) (omega (arith, c.south)) k c.west c.east)
          (down i c.north c.south (k + 1) (omega (arith, c.west)) (omega (arith, c.east)))
          way

  -- then adjacent pieces have items of one set
  pub adjacent_together : (parents : List ℕ) → ((t : Tri) → has_cell p.nodes.rect t.row t.col ≡ true → (way : Way) → AreMet p parents (leg t way).link)
      → (a b : Piece) → IsAdjacent (mesh_by p) a b → IsTogether parents (item_by p a) (item_by p b)
  adjacent_together parents met a b n =
      let f : Field = field_by p.nodes in
      let s = adjacent_shares f p.nodes.rect (block_by p.blocks) a b n in
      let t = leg_of_right p.nodes.rect (record { link = s.link; forward = s.forward }) s.one s.right in
      let link : (leg s.one t.way).link ≡ s.link = ap (λ (w : Walk). w.link) t.is in
      let h : AreMet p parents s.link = subst (AreMet p parents) link (met s.one t.inside t.way) in
      let k : kind (mesh_by p) (piece_at f s.band s.one) ≡ kind (mesh_by p) (piece_at f s.band s.two) = ap (kind (mesh_by p)) s.here ∙ (n.alike ∙ sym (ap (kind (mesh_by p)) s.there)) in
      let both : IsTogether parents (item_by p (piece_at f s.band s.one)) (item_by p (piece_at f s.band s.two)) = by s.forward s.link s.one s.two s.band (h s.band s.part) s.right s.left k in
      subst₂ (λ x y. IsTogether parents (item_by p x) (item_by p y)) s.here s.there both
    where
      by : (forward : Bool) (l : Link) (t u : Tri) (c : ℕ) → AreMetAt p parents l c → right_tri p.nodes.rect (record { link = l; forward = forward }) ≡ Some t → right_tri p.nodes.rect (record { link = l; forward = not forward }) ≡ Some u
          → kind (mesh_by p) (piece_at (field_by p.nodes) c t) ≡ kind (mesh_by p) (piece_at (field_by p.nodes) c u) → IsTogether parents (item_by p (piece_at (field_by p.nodes) c t)) (item_by p (piece_at (field_by p.nodes) c u))
      by true l t u c h e g k = h t u e g k
      by false l t u c h e g k = together_back parents (item_by p (piece_at (field_by p.nodes) c u)) (item_by p (piece_at (field_by p.nodes) c t)) (h u t g e (sym k))

  -- each item in a set by itself has nothing to be joined with
  pub singles_joined : (parents : List ℕ) → ((i j : ℕ) → IsTogether parents i j → i ≡ j) → JoinPieces p parents
  singles_joined parents h = λ i j t. subst (λ j. Joined (mesh_by p) (piece_from p i) (piece_from p j)) (h i j t) Here

  -- numbers of the sets are numbers of the items
  pub sets_number : (parents numbers : List ℕ) (count : ℕ) → IsPieceTable p → length parents ≡ item_count p → JoinPieces p parents
      → AreWayMet p parents Across (p.nodes.rect.rows + 1) p.nodes.rect.cols → AreWayMet p parents Down p.nodes.rect.rows (p.nodes.rect.cols + 1) → AreWayMet p parents Slant p.nodes.rect.rows p.nodes.rect.cols
      → NumbersSets parents numbers count → AreItemNumbers p numbers count
  sets_number parents numbers count whole full joined across down slant n = record {
    each = n.each ∙ full;
    below = λ i l. n.below i (omega (arith, l, full));
    used = λ k l. let u = n.used k l in (u.0, omega (arith, u.1, full), u.2);
    joined = λ i j l m e. joined i j ((n.joined i j (omega (arith, l, full)) (omega (arith, m, full))).0 e);
    met = λ a b h.
        let s = adjacent_shares (field_by p.nodes) p.nodes.rect (block_by p.blocks) a b h in
        let x : InMesh (field_by p.nodes) p.nodes.rect a = subst (InMesh (field_by p.nodes) p.nodes.rect) s.here (side_piece s.link s.forward s.one s.band s.right s.part) in
        let y : InMesh (field_by p.nodes) p.nodes.rect b = subst (InMesh (field_by p.nodes) p.nodes.rect) s.there (side_piece s.link (not s.forward) s.two s.band s.left s.part) in
        let i = item_in (field_by p.nodes) p.nodes.rect (block_by p.blocks) p.items.starts.items p.items.counts.items p.items.owners.items whole.items in
        (n.joined (item_by p a) (item_by p b) (omega (arith, i a x, full)) (omega (arith, i b y, full))).1 (adjacent_together parents (legs_met parents across down slant) a b h);
  }
