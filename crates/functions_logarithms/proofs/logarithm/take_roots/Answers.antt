-- `take_roots` meets its contract, by the loop over the roots (`Rooting` of LogarithmLaws). Assumes nothing.
use native.Mathlib.Omega.{arith}
use Rattle.arithmetic_matrices.proofs.Slots.{room_kept}
use Rattle.functions_logarithms.proofs.LogarithmLaws.{rooting_start, rooting_more, rooting_stops, rooting_fails, rooting_out, out_fits}
use Rattle.functions_logarithms.proofs.logarithm.take_roots.Goals as goal

pub beside-report-requires : goal.beside-report-requires
beside-report-requires g c = omega (arith, c.loop-k.invariant.within, c.loop-k.invariant.few, c.rooting_pass-made.ensures.reports.few)

pub loop-k-init : goal.loop-k-init
loop-k-init g c = search rooting_start

pub rooting_pass-made-requires : goal.rooting_pass-made-requires
rooting_pass-made-requires g c = search room_kept

pub returns-in-Stopped : goal.returns-in-Stopped
returns-in-Stopped g c = search rooting_stops

pub returns-in-Failed : goal.returns-in-Failed
returns-in-Failed g c = search rooting_fails

pub loop-k-preserved : goal.loop-k-preserved
loop-k-preserved g c = search rooting_more

pub is_far-near-requires : goal.is_far-near-requires
is_far-near-requires g c = search room_kept

pub beside-requires : goal.beside-requires
beside-requires g c = search out_fits

pub returns : goal.returns
returns g c = search rooting_out
