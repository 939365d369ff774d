use native.Mathlib.Omega.{arith}
use Rattle.grammar.specs.Letters.{our_table}
use Rattle.hosting.proofs.Calls.{list_called}
use Rattle.hosting.proofs.Range.{one_fits}
use Rattle.dpb.proofs.dpb_list.Goals as goal

pub overflow_add-result : goal.overflow_add-result
overflow_add-result c = record { fits = omega (arith, one_fits our_table _ _ _ _ c.in-Err.ensures.listed, c.number-number.ensures) }

pub returns-in-Ok : goal.returns-in-Ok
returns-in-Ok c = list_called our_table _ _ _ _ c.in-Ok.ensures.listed

pub returns-in-Err : goal.returns-in-Err
returns-in-Err c = rw c.number-number.ensures (list_called our_table _ _ _ _ c.in-Err.ensures.listed)
