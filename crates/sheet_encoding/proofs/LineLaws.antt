-- Lines of answers. Assumes nothing.
use Rattle.std.specs.Prelude.{Ok}
use Prim.Native.Nat.{ℕ}
use mathlib.Core.Path.{◌≡◌, ap, sym, ◌∙◌}
use mathlib.Core.List.{List, [], ◌∷◌, ◌++◌, append_assoc}
use lib.Ieee.{Float, Format}
use Rattle.arithmetic_questions.specs.Result.{Result, refused}
use Rattle.arithmetic_questions.specs.Answers.{Outcome, reported}
use Rattle.sheet_encoding.specs.Text.{newline, field, number_text, numbers_text, refused_line, done_head, done_line, result_line, carrying}
use Rattle.sheet_encoding.proofs.TextLaws.{numbers_text_append, numbers_text_one}

-- the numbers of two outputs, one after the other, and one number more
pub done_line_lem : (f : Format) (task s : ℕ) (l m : List Float) (v : Float)
    → done_line f task s (l ++ m ++ (v ∷ [])) ≡ done_head task s ++ numbers_text f l ++ numbers_text f m ++ field (number_text f v) ++ newline
unfolding done_line
done_line_lem f task s l m v =
    let h = done_head task s in
    let x = numbers_text f l in
    let y = numbers_text f m in
    let z = field (number_text f v) in
    let parts : numbers_text f (l ++ m ++ (v ∷ [])) ≡ x ++ y ++ z = rw (numbers_text_append f (l ++ m) (v ∷ []), numbers_text_append f l m, numbers_text_one f v) in
    ap (λ (t : List ℕ). t ++ newline) (ap (λ (t : List ℕ). h ++ t) parts ∙ sym (append_assoc h (x ++ y) z) ∙ ap (λ (t : List ℕ). t ++ z) (sym (append_assoc h x y)))

-- the line of an outcome with numbers
pub answer_done : (f : Format) (task s : ℕ) (o : Outcome) (m : List Float) → o ≡ Ok s → done_line f task s m ≡ result_line f task (carrying m (reported o))
unfolding result_line carrying
answer_done f task s o m e = rw e

pub refused_line_lem : (f : Format) (task k x y : ℕ) (q : Result (Unit {0})) (m : List Float) → q ≡ refused k x y → refused_line task k x y ≡ result_line f task (carrying m q)
unfolding result_line carrying
refused_line_lem f task k x y q m e = rw e
