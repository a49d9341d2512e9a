-- `run_accepted` meets its contract. Assumes nothing.
use Prim.Native.Nat.{ℕ, ◌*◌}
use mathlib.Core.Path.{◌≡◌, ap, sym, ◌∙◌}
use lib.ListN.{length, take}
use lib.Seq.{length-take-le, take_at}
use lib.Ieee.{binary64}
use native.Mathlib.Nat.{mul-le-mul}
use native.Mathlib.Omega.{arith}
use Rattle.sheet_encoding.specs.Bytes.{numbers_at}
use Rattle.sheet.proofs.SheetLaws.{task_ready}
use Rattle.sheet.proofs.run.run_accepted.Goals as goal

pub run_tasks-requires : goal.run_tasks-requires
run_tasks-requires c =
    let s = c.args.s.now in
    let k = c.args.counts in
    let n = k.order in
    let sheet = c.requires.sheet_is in
    let long : length (take (n * n) c.small_room-numbers.result) ≡ n * n = length-take-le _ _ (omega (arith, mul-le-mul sheet.most sheet.most, c.small_room-numbers.ensures)) in
    let whole = take_at c.read_numbers.new.m _ (n * n) (c.read_numbers.auto.m ∙ long) in
    record {
      ready = λ i h. rw c.exponent_at-q.ensures.0 (task_ready s n k.directions k.exponents k.tasks i sheet h);
      few = sheet.count;
      order = sheet.most;
      matrix = whole ∙ c.read_numbers.ensures ∙ ap (λ (l : ℕ). numbers_at binary64 s 1 l) long;
      space = c.requires.output_limit_in_bounds;
      workspace = sym c.workspace_room.ensures;
    }
