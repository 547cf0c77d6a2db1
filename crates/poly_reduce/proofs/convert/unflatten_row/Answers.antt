use Rattle.std.proofs.Common.{◌≡◌, ◌+◌, ◌*◌, [], ◌∷◌, ◌++◌}
use Rattle.ring_core.specs.Coeffs.{coeff}
use Rattle.ring_core.proofs.Coefficients.{elems_more}
use Rattle.fq_poly.specs.Poly.{poly_ops}
use Rattle.flat_reduce.proofs.Pushed.{push_each, push_len}
use Rattle.poly_reduce.proofs.convert.unflatten_row.Goals as goal

pub loop-j-preserved : goal.loop-j-preserved
loop-j-preserved g c =
    let r = g.F.Field.ops c.args.f.now in
    let before = c.loop-j.invariant in
    let entries = c.loop-j.entries.items in
    let x = c.in_ok-entry_of.field-0 in
    let pushed : c.push.new.self.items ≡ entries ++ x ∷ [] = c.in_ok-push.ensures.items in
    record {
      count = push_len entries _ x c.loop-j.j pushed before.count;
      polys = elems_more (poly_ops r) entries _ x pushed before.polys c.in_ok-entry_of.ensures.elem;
      is = λ j e l. push_each (λ j u. coeff r u e ≡ coeff r c.args.flat.now (e * c.args.w + j)) entries _ x c.loop-j.j pushed before.count (λ j b. before.is j e b) (c.in_ok-entry_of.ensures.is e) j l;
    }
