use Rattle.std.proofs.Common.{sym, ap, ◌∙◌, arith}
use lib.ListN.{length, length-drop}
use Rattle.digits.proofs.Numbers.{number_len}
use Rattle.pri.proofs.read_pri.Goals as goal

pub overflow_add-len : goal.overflow_add-len
overflow_add-len c =
    let k = number_len _ c.past.result.now c.in-Some.value c.in-Some.len (sym c.in-Some.ensures) in
    record { fits = omega (arith, k.1, ap length c.past.ensures ∙ length-drop 1 c.args.s.now) }
