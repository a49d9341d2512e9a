-- `halvings_for` meets its contract. Assumes nothing.
use Rattle.std.proofs.lemmas.Result.{err_from_is_err_and}
use Rattle.functions_definitions.proofs.HalvingLaws.{passed_finite, norm_refused, halvings_refused, halvings_passed}
use Rattle.functions_exponential.proofs.halvings.halvings_for.Goals as goal

pub halvings-halvings-requires : goal.halvings-halvings-requires
halvings-halvings-requires g c = passed_finite (g.T.Real.float c.args.norm) c.ask_norm.result c.ask_norm.ensures c.in_ok-ask_norm.was

pub returns-in_err-ask_norm : goal.returns-in_err-ask_norm
returns-in_err-ask_norm g c =
    let p = err_from_is_err_and c.from_residual.result c.from_residual.ensures.1 in
    rw (p.1, p.2) (norm_refused (g.T.Real.float c.args.norm) c.ask_norm.result c.ask_norm.ensures _ c.in_err-ask_norm.was)

pub returns-in_err-ask_halvings : goal.returns-in_err-ask_halvings
returns-in_err-ask_halvings g c =
    let q = c.ask_norm in
    let r = c.ask_halvings in
    let p = err_from_is_err_and c.from_residual-in_err-ask_halvings.result c.from_residual-in_err-ask_halvings.ensures.1 in
    rw (p.1, p.2)
    (halvings_refused (g.T.Real.float c.args.norm) q.result q.ensures c.in_ok-ask_norm.was _ c.halvings-halvings.ensures.value r.result r.ensures _ c.in_err-ask_halvings.was)

pub returns : goal.returns
returns g c =
    let q = c.ask_norm in
    let r = c.ask_halvings in
    halvings_passed (g.T.Real.float c.args.norm) q.result q.ensures c.in_ok-ask_norm.was _ c.halvings-halvings.ensures.value r.result r.ensures c.in_ok-ask_halvings.was
