use Rattle.std.proofs.Common.{◌%◌, length, ◌∙◌, arith}
use Rattle.std.proofs.Math.Nat.{mod-lt}
use Rattle.flat_reduce.proofs.Reading.{read_elems}
use Rattle.flat_reduce.proofs.reduce.across_at.Goals as goal

pub coeff_at-requires : goal.coeff_at-requires
coeff_at-requires g c =
    let low = mod-lt c.args.t {m = length c.args.columns.now} (omega (arith, c.requires.row)) in
    read_elems (g.F.Field.ops c.args.f.now) c.args.columns.now c.requires.columns (c.args.t % length c.args.columns.now) _ c.index-columns-place.result low (c.as_slice.ensures ∙ c.index-columns-place.is)
