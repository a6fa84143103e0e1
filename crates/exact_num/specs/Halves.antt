-- A whole number of two halves gives the halves back.
use Rattle.std.specs.Prelude.{◌≡◌, ℕ, ◌+◌, ◌*◌, ◌/◌, ◌%◌, ◌^◌, ◌<◌}
use Rattle.std.proofs.Common.{ap₂, arith}
use Rattle.exact_num.specs.declared.wide.Wide.TheInside.{Inside}

pub whole_of_halves : (w : Inside) → (w.high < 10 ^ 32) × (w.low < 10 ^ 32) → (let n = w.high * 10 ^ 32 + w.low in let v : Inside = record { high = n / 10 ^ 32; low = n % 10 ^ 32 } in v ≡ w)
whole_of_halves w h =
    let high : (w.high * 10 ^ 32 + w.low) / 10 ^ 32 ≡ w.high = omega (arith, h.0, h.1) in
    let low : (w.high * 10 ^ 32 + w.low) % 10 ^ 32 ≡ w.low = omega (arith, h.0, h.1) in
    ap₂ (λ (a b : ℕ). let v : Inside = record { high = a; low = b } in v) high low
