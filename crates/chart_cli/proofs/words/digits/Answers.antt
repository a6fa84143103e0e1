use Rattle.std.proofs.Common.{◌^◌, ◌≤◌, arith, lit<}
use Rattle.std.proofs.Math.Nat.{pow-le-pow_right}
use Rattle.chart_cli.proofs.words.digits.Goals as goal

pub overflow_mul-n : goal.overflow_mul-n
overflow_mul-n c =
    let turn : c.loop-c.c-index ≤ 17 = omega arith in
    let few : 10 ^ c.loop-c.c-index ≤ 10 ^ 17 = pow-le-pow_right (lit< tt) turn in omega arith

pub overflow_add-n : goal.overflow_add-n
overflow_add-n c =
    let turn : c.loop-c.c-index ≤ 17 = omega arith in
    let few : 10 ^ c.loop-c.c-index ≤ 10 ^ 17 = pow-le-pow_right (lit< tt) turn in omega arith

pub returns-clause-few : goal.returns-clause-few
returns-clause-few c =
    let turns : c.loop-c.c-index ≤ c.args.most = omega arith in
    let few : 10 ^ c.loop-c.c-index ≤ 10 ^ c.args.most = pow-le-pow_right (lit< tt) turns in omega arith
