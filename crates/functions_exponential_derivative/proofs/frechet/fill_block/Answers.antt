-- `fill_block` meets its contract. Assumes nothing.
use Prim.Native.Nat.{◌+◌}
use mathlib.Core.Path.{◌∙◌}
use native.Mathlib.Omega.{arith}
use Rattle.arithmetic_matrices.proofs.MatrixLaws.{square_le}
use Rattle.functions_exponential_derivative.proofs.BlockLaws.{block_filled}
use Rattle.functions_exponential_derivative.proofs.FrechetLaws.{block_rows}
use Rattle.functions_exponential_derivative.proofs.frechet.fill_block.Goals as goal

pub place-requires : goal.place-requires
place-requires g c =
    let long = c.zero.auto.w in
    record {
      src_len = c.requires.n_bound.1;
      by_index = (λ i h. let f = block_rows c.args.n i c.requires.n_bound.0 h in omega (arith, long, c.requires.room.space, g.met.T.Real.length_law c.args.w.now));
    }

pub place-requires-2 : goal.place-requires-2
place-requires-2 g c =
    let long = c.place.auto.w ∙ c.zero.auto.w in
    record {
      src_len = c.requires.n_bound.2;
      by_index = (λ i h. let f = block_rows c.args.n i c.requires.n_bound.0 h in omega (arith, long, c.requires.room.space, g.met.T.Real.length_law c.args.w.now));
    }

pub place-requires-3 : goal.place-requires-3
place-requires-3 g c =
    let long = c.place-2.auto.w ∙ c.place.auto.w ∙ c.zero.auto.w in
    record {
      src_len = c.requires.n_bound.1;
      by_index = (λ i h. let f = block_rows c.args.n i c.requires.n_bound.0 h in omega (arith, long, c.requires.room.space, g.met.T.Real.length_law c.args.w.now));
    }

pub returns : goal.returns
returns g c =
    let a = c.args in
    let z = c.zero in
    let p1 = c.place in
    let p2 = c.place-2 in
    let p3 = c.place-3 in
    block_filled a.n (g.T.Real.floats a.w.now) (g.T.Real.floats a.a.now) (g.T.Real.floats a.e.now) (g.T.Real.floats z.new.w) (g.T.Real.floats p1.new.w) (g.T.Real.floats p2.new.w) (g.T.Real.floats p3.new.w) (omega (arith, square_le (a.n + a.n) c.requires.room.order, c.requires.room.space)) z.ensures p1.ensures p2.ensures p3.ensures
