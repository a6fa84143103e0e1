-- Places keep directions.
use Rattle.std.proofs.Common.{ℕ, ◌*◌, ◌/◌, ◌≤◌, arith}
use Rattle.std.proofs.Math.Nat.{div-mul-le_self, mul-le-mul_right}
use Rattle.std.proofs.lemmas.Int.{ints}
use Rattle.std.proofs.lemmas.Nat.{le-div}
use Rattle.std.specs.Prelude.{ℤ, ◌≤ℤ◌}
use Rattle.chart_picture.specs.Frames.{distance, down_of, IsFrame, right_of}
use Rattle.chart_picture.specs.Laws.{PlacesKeepDirections}
use Rattle.chart_picture.specs.declared.frame.Frame.{Frame}

div_keeps : (a b n : ℕ) → 1 ≤ n → a ≤ b → a / n ≤ b / n
div_keeps a b n some h =
    let below : a / n * n ≤ a = div-mul-le_self a n in
    le-div (a / n) b n (omega arith) (omega arith)

farther_south : (n y z : ℤ) → y ≤ℤ z → z ≤ℤ n → distance n z ≤ distance n y
unfolding distance
farther_south n y z h i = omega (arith, ints)

farther_east : (w x z : ℤ) → w ≤ℤ x → x ≤ℤ z → distance x w ≤ distance z w
unfolding distance
farther_east w x z h i = omega (arith, ints)

north_is_up : (f : Frame) → IsFrame f → (y z : ℤ) → y ≤ℤ z → z ≤ℤ f.north → down_of f z ≤ down_of f y
unfolding down_of
north_is_up f fits y z h i = div_keeps (distance f.north z * 10000) (distance f.north y * 10000) f.longest fits.some (mul-le-mul_right 10000 (farther_south f.north y z h i))

east_is_right : (f : Frame) → IsFrame f → (x z : ℤ) → f.west ≤ℤ x → x ≤ℤ z → right_of f x ≤ right_of f z
unfolding right_of
east_is_right f fits x z h i = div_keeps (distance x f.west * f.width * 10) (distance z f.west * f.width * 10) f.longest fits.some (mul-le-mul_right 10 (mul-le-mul_right f.width (farther_east f.west x z h i)))

pub directions : PlacesKeepDirections
directions f fits = record { north = north_is_up f fits; east = east_is_right f fits }
