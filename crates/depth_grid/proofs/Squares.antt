-- Squares of distances fit 64 bits.
use Rattle.std.proofs.Common.{ℕ, ◌+◌, ◌*◌, ◌<◌, ◌≤◌, ◌^◌, arith, mul-le-mul}

pub squares_fit : (a b : ℕ) → a ≤ 1024000 → b ≤ 1024000 → a * a + b * b < 2 ^ 64
squares_fit a b h k =
    let p : a * a ≤ 1024000 * 1024000 = mul-le-mul h h in
    let q : b * b ≤ 1024000 * 1024000 = mul-le-mul k k in
    omega arith

pub across_small : (aspect cols : ℕ) → aspect ≤ 1000 → cols ≤ 1024 → aspect * cols ≤ 1024000
across_small aspect cols h k =
    let p : aspect * cols ≤ 1000 * 1024 = mul-le-mul h k in
    omega arith
