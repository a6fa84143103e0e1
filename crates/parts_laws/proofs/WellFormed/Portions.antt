-- Each isolated node has a sounding: a list that is cut in portions has something in each of them.
use Rattle.std.proofs.Common.{◌≡◌, ℕ, ◌+◌, ◌*◌, ◌/◌, ◌<◌, true, List, length, map, All, arith}
use Rattle.std.specs.Prelude.{nat_lt, IsTrue, drop}
use Rattle.std.specs.List.{range_with_len}
use Rattle.std.proofs.lemmas.Bool.Decides.{nat_tests}
use Rattle.std.proofs.lemmas.List.{length-drop, length-map, length-take}
use Rattle.std.proofs.lemmas.List.Elements.{All-map}
use Rattle.chart_model.specs.Whole.{has_some}
use Rattle.built_parts.specs.Nodes.{isolated_record, isolated_records, nodes_in, sounding_of}
use Rattle.depth_grid.specs.declared.node.NodeId.{NodeId}
use Rattle.plane_laws.proofs.Lists.{all_below}
use Rattle.shoal_buffer.specs.Charted.{ChartedView}

pub is_more : (n : ℕ) → 0 < n → nat_lt 0 n ≡ true
is_more n l = grind (arith, nat_tests)

-- a portion that begins in the list has something
portion_some : (nodes : List NodeId) (place : ℕ) → place < (length nodes + 1999) / 2000 → 0 < length (nodes_in nodes place)
portion_some nodes place l = omega (arith, length-take 2000 (drop (2000 * place) nodes), length-drop (2000 * place) nodes, l)

pub soundings_some : (v : ChartedView) (nodes : List NodeId) → All (λ n. IsTrue (has_some n)) (isolated_records v nodes)
soundings_some v nodes =
    All-map (λ n. IsTrue (has_some n)) (λ place. isolated_record v (place + 1) (nodes_in nodes place)) (range_with_len 0 ((length nodes + 1999) / 2000))
    (all_below (λ place. IsTrue (has_some (isolated_record v (place + 1) (nodes_in nodes place)))) ((length nodes + 1999) / 2000)
    (λ place l. is_more (length (map (sounding_of v) (nodes_in nodes place))) (omega (arith, length-map (nodes_in nodes place) (sounding_of v), portion_some nodes place l))))
