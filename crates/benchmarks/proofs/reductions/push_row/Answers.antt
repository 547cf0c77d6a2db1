use Rattle.std.proofs.Common.{ap, ◌∙◌}
use Rattle.ring_core.specs.Coeffs.{is_canonical}
use Rattle.flat_modules.specs.Flat.{are_flat}
use Rattle.flat_reduce.proofs.Pushed.{flat_push}
use Rattle.benchmarks.proofs.reductions.push_row.Goals as goal

pub returns : goal.returns
returns g c =
    let r = g.F.Field.ops c.args.f.now in
    ap (are_flat r) c.in_ok-push.ensures.items
    ∙ flat_push r c.args.rows.now.items c.from_vec.result c.requires.rows (ap (is_canonical r) c.from_vec.ensures ∙ c.trimmed.ensures.elem)
