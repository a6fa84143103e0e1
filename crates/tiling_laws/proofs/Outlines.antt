-- How often the directed boundary of a set of pieces has a step's segment.
use Rattle.std.proofs.Common.{◌≡◌, ◌≢◌, ◌+◌, Bool, true, false, not, ◌&&◌, map, refl, sym, ap, ap₂, ◌∙◌, arith}
use Rattle.std.proofs.lemmas.Bool.{or_parts}
use Rattle.std.proofs.lemmas.List.Elements.{All-contains}
use Rattle.mesh_definitions.specs.Faces.{boundary, steps_of}
use Rattle.mesh_definitions.specs.Pieces.{Mesh, ahead, back, left_of, walked}
use Rattle.mesh_definitions.specs.declared.Piece.{Piece}
use Rattle.mesh_definitions.specs.declared.Step.{Step}
use Rattle.mesh_definitions.specs.declared.Sub.{Sub}
use Rattle.tiling_laws.proofs.Coinciding.{coincide, distinct_from, is_false, same_seg, seg_decides}
use Rattle.tiling_laws.proofs.Numbers.{flag, number, number_filter, number_joined, number_map, number_one}
use Rattle.tiling_laws.proofs.Once.{steps_alike}
use Rattle.tiling_laws.specs.SoundEdges.{LineLaws}
use Rattle.plane_geom.specs.Segments.{turned}
use Rattle.plane_geom.specs.declared.Seg.{Seg}
use Rattle.plane_laws.proofs.Members.{In, contains}
use Rattle.plane_laws.specs.Borders.{within}

pub same_self : (t : Seg) → same_seg t t ≡ true
same_self t = (seg_decides t t).1 refl

pub same_turned : (t : Seg) → t.a ≢ t.b → same_seg t (turned t) ≡ false
same_turned t n = is_false (same_seg t (turned t)) (λ e. n (ap (λ (z : Seg). z.a) ((seg_decides t (turned t)).0 e)))

pub turned_same : (t : Seg) → t.a ≢ t.b → same_seg (turned t) t ≡ false
turned_same t n = is_false (same_seg (turned t) t) (λ e. n (ap (λ (z : Seg). z.b) ((seg_decides (turned t) t).0 e)))

-- segments that don't coincide aren't the same
pub not_same : (t u : Seg) → coincide t u ≡ false → same_seg t u ≡ false
not_same t u h = (or_parts (same_seg t u) (same_seg t (turned u)) h).0

and_false : (a b : Bool) → b ≡ false → (a && b) ≡ false
and_false true b e = e
and_false false b e = refl

and_true : (a b : Bool) → b ≡ true → (a && b) ≡ a
and_true true b e = e
and_true false b e = refl

-- whether a step has a set on its right and not on its left
abbrev pub bounds : Mesh → (Piece → Bool) → Step → Bool
bounds m F t = within F (m.right_of t) && not (within F (left_of m t))

-- its segment stands in the boundary once where it has, else not at all
pub in_boundary : (m : Mesh) (F : Piece → Bool) (s : Step) → LineLaws m → In m.subs s.sub → number (same_seg (walked m s)) (map (walked m) (boundary m F)) ≡ flag (bounds m F s)
in_boundary m F s laws i =
    let p : Step → Bool = λ t. same_seg (walked m s) (walked m t) in
    let r : Step → Bool = λ t. bounds m F t && p t in
    let one : (g : Sub → Step) → ((x : Sub) → coincide (m.ends s.sub) (m.ends x) ≡ false → r (g x) ≡ false) → number (λ u. r (g u)) m.subs ≡ flag (r (g s.sub)) =
    λ g off. number_one m.ends (λ u. r (g u)) s.sub m.subs (distinct_from m.ends m.subs laws.apart) i off in
    let off : (x : Sub) (b : Bool) → coincide (m.ends s.sub) (m.ends x) ≡ false → r (record { sub = x; forward = b }) ≡ false =
    λ x b n. and_false (bounds m F (record { sub = x; forward = b })) (p (record { sub = x; forward = b })) (not_same (walked m s) (walked m (record { sub = x; forward = b })) (sym (steps_alike m s (record { sub = x; forward = b })) ∙ n)) in
    number_map (same_seg (walked m s)) (walked m) (boundary m F)
    ∙ number_filter p (bounds m F) (steps_of m)
    ∙ number_joined r (map ahead m.subs) (map back (map ahead m.subs))
    ∙ ap₂ (λ a b. a + b)
    (number_map r ahead m.subs ∙ one ahead (λ x n. off x true n))
    (number_map r back (map ahead m.subs) ∙ number_map (λ t. r (back t)) ahead m.subs ∙ one (λ u. back (ahead u)) (λ x n. off x false n))
    ∙ go s.sub s.forward (All-contains (λ (u : Sub). (m.ends u).a ≢ (m.ends u).b) m.subs s.sub laws.long (contains m.subs s.sub i))
  where
    go : (u : Sub) (b : Bool) → (m.ends u).a ≢ (m.ends u).b →
        flag (bounds m F (ahead u) && same_seg (walked m (record { sub = u; forward = b })) (walked m (ahead u))) + flag (bounds m F (back (ahead u)) && same_seg (walked m (record { sub = u; forward = b })) (walked m (back (ahead u))))
        ≡ flag (bounds m F (record { sub = u; forward = b }))
    go u true n =
        let yes = ap flag (and_true (bounds m F (ahead u)) (same_seg (m.ends u) (m.ends u)) (same_self (m.ends u))) in
        let no = ap flag (and_false (bounds m F (back (ahead u))) (same_seg (m.ends u) (turned (m.ends u))) (same_turned (m.ends u) n)) in
        omega (arith, yes, no)
    go u false n =
        let no = ap flag (and_false (bounds m F (ahead u)) (same_seg (turned (m.ends u)) (m.ends u)) (turned_same (m.ends u) n)) in
        let yes = ap flag (and_true (bounds m F (back (ahead u))) (same_seg (turned (m.ends u)) (turned (m.ends u))) (same_self (turned (m.ends u)))) in
        omega (arith, yes, no)
