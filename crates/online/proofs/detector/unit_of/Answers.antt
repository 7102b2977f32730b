use Rattle.online.proofs.Common.{◌≡◌, ◌∙◌, ◌/◌, ◌%◌, ◌*◌, ◌^◌, ◌<◌, ap, arith, count_ones, one_shl}
use Rattle.online.proofs.Alone.{one_unit, one_accessed}
use Rattle.online.proofs.detector.unit_of.Goals as goal

pub returns : goal.returns
returns c =
    let within : c.args.location / 2 % 64 < 64 = omega arith in
    let is : 1 * 2 ^ (c.args.location / 2 % 64) % 2 ^ 64 ≡ 2 ^ (c.args.location / 2 % 64) = one_shl (c.args.location / 2 % 64) 64 within in
    record { one = ap count_ones is ∙ one_unit (c.args.location / 2 % 64) within; alone = λ kind place. one_accessed c.args.location kind place _ is }
