use Rattle.std.proofs.Common.{set, length-set, ap, ◌∙◌, arith}
use Rattle.ring_core.specs.Coeffs.{is_canonical}
use Rattle.flat_reduce.proofs.Reading.{read_elems}
use Rattle.flat_reduce.proofs.RowSteps.{flat_set}
use Rattle.flat_reduce.proofs.rows.add_row.Goals as goal

pub add_shifted-requires-clause-list : goal.add_shifted-requires-clause-list
add_shifted-requires-clause-list g c =
    read_elems (g.F.Field.ops c.args.f.now) c.args.rows.now c.requires.rows c.args.p _ c.index-rows-p.result c.requires.first (c.into_vec.ensures ∙ c.replace-row.ensures.value)

pub add_shifted-requires-clause-row : goal.add_shifted-requires-clause-row
add_shifted-requires-clause-row g c =
    let r = g.F.Field.ops c.args.f.now in
    let empty = c.replace-row.ensures.after ∙ c.from_vec.ensures ∙ c.new.ensures.items in
    read_elems r (set c.args.rows.now c.args.p c.replace-row.new.dest) (flat_set r c.args.rows.now c.args.p c.replace-row.new.dest c.requires.rows (ap (is_canonical r) empty)) c.args.q _ c.index-rows-q.result (let e = length-set c.args.rows.now c.args.p c.replace-row.new.dest in omega (arith, e, c.requires.second)) c.as_slice.ensures

pub returns-clause-flat : goal.returns-clause-flat
returns-clause-flat g c =
    let r = g.F.Field.ops c.args.f.now in
    let empty = c.replace-row.ensures.after ∙ c.from_vec.ensures ∙ c.new.ensures.items in
    flat_set r _ c.args.p c.from_vec-2.result (flat_set r c.args.rows.now c.args.p c.replace-row.new.dest c.requires.rows (ap (is_canonical r) empty))
    (ap (is_canonical r) c.from_vec-2.ensures ∙ c.in_ok-sum.ensures.flat)
