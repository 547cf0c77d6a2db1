use Rattle.std.proofs.Common.{◌≡◌, ◌-◌, ◌*◌, length, sym, ap, subst, ◌∙◌, arith}
use Rattle.ring_core.specs.Coeffs.{first_values}
use Rattle.ring_core.proofs.FirstValues.{length-first_values}
use Rattle.field_tower.specs.steps.Logs.{steps_below, AreSteps, AreLogs}
use Rattle.field_tower.proofs.CodeForms.{codes_large}
use Rattle.field_tower.proofs.LogSteps.{row_steps, log_table}
use Rattle.field_tower.proofs.logs.products_by.Goals as goal

pub returns_early-requires : goal.returns_early-requires
returns_early-requires c = record {
  steps = subst AreSteps (sym c.deref.ensures.value) (row_steps c.args.codes.now c.args.g c.requires c.in_ok-row.row.items c.in_ok-row.ensures);
}

pub walk-requires : goal.walk-requires
walk-requires c = record {
  steps = subst AreSteps (sym c.deref-2.ensures.value) (row_steps c.args.codes.now c.args.g c.requires c.in_ok-row.row.items c.in_ok-row.ensures);
}

pub places_of-requires-clause-large : goal.places_of-requires-clause-large
places_of-requires-clause-large c = codes_large c.args.codes.now

pub places_of-requires-clause-long : goal.places_of-requires-clause-long
places_of-requires-clause-long c =
    let q = c.args.codes.now.q in
    let len : length c.deref-3.result.now ≡ 4 * q = ap length (c.deref-3.ensures.value ∙ c.in_ok-powers.ensures) ∙ length-first_values (4 * q) (steps_below (2 * q - 2) c.deref-2.result.now) in
    omega arith

pub are_logs-requires-clause-large : goal.are_logs-requires-clause-large
are_logs-requires-clause-large c = codes_large c.args.codes.now

pub are_logs-requires-clause-long : goal.are_logs-requires-clause-long
are_logs-requires-clause-long c =
    let q = c.args.codes.now.q in
    let len : length c.deref-4.result.now ≡ 4 * q = ap length (c.deref-4.ensures.value ∙ c.in_ok-powers.ensures) ∙ length-first_values (4 * q) (steps_below (2 * q - 2) c.deref-2.result.now) in
    omega arith

pub returns : goal.returns
returns c =
    let q = c.args.codes.now.q in
    let are : AreLogs q c.deref-4.result.now c.deref-5.result.now = c.are_logs.ensures c.if-not-are_logs.false in
    log_table c.args.codes.now c.args.g c.requires c.in_ok-row.row.items c.in_ok-row.ensures c.in_ok-powers.powers.items c.in_ok-logs.logs.items
    (c.in_ok-powers.ensures ∙ ap (λ row. first_values (4 * q) (steps_below (2 * q - 2) row)) c.deref-2.ensures.value)
    (subst (AreLogs q _) c.deref-5.ensures.value (subst (λ t. AreLogs q t c.deref-5.result.now) c.deref-4.ensures.value are))
