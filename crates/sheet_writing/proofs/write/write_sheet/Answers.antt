-- `write_sheet` meets its contract. Assumes nothing.
use Rattle.std.proofs.Common.{rules, ◌≡◌, sym, ◌∙◌}
use Rattle.std.specs.Prelude.{Err}
use Rattle.sheet_writing.specs.Sections.{given}
use Rattle.sheet_writing.proofs.QuestionLaws.{questions_is}
use Rattle.sheet_writing.proofs.WriteLaws.{wrote_sheet, refused_sheet, wrote_found, refused_found}
use Rattle.sheet_writing.proofs.write.write_sheet.Goals as goal

pub put_sheet-requires : goal.put_sheet-requires
put_sheet-requires c = (questions_is _ _ _ (sym c.questions.ensures ∙ c.in_ok-questions.was)).room_is

pub returns-in_err-questions : goal.returns-in_err-questions
returns-in_err-questions c =
    let a = c.args in
    let h = sym c.questions.ensures ∙ c.in_err-questions.was in
    let e : c.from_residual.result ≡ Err c.in_err-questions.field-0.0 = search rules in
    rw e record { result_value = refused_found (given a.sections.now) a.out.now _ h; wrote_sheet = refused_sheet (given a.sections.now) a.out.now _ h }

pub returns : goal.returns
returns c =
    let a = c.args in
    let h = sym c.questions.ensures ∙ c.in_ok-questions.was in
    record { result_value = wrote_found (given a.sections.now) a.out.now _ h; wrote_sheet = wrote_sheet (given a.sections.now) a.out.now _ _ _ c.put_sheet.ensures.words h c.put_sheet.ensures.wrote }
